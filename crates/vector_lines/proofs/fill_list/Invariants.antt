-- `fill_list` meets its contract. Each place takes at most 258 bytes of the case.
use Rattle.std.proofs.Common.{◌+◌, ◌*◌, ◌≤◌}
use Rattle.vector_lines.proofs.fill_list.Given as goal

abbrev pub invariant-loop-k : goal.invariant-loop-k
invariant-loop-k l = l.at ≤ 9 + 258 * l.k
