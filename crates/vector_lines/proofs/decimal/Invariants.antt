-- `decimal` meets its contract. The number stays under 2,000,000.
use Rattle.std.proofs.Common.{◌<◌}
use Rattle.vector_lines.proofs.decimal.Given as goal

abbrev pub invariant-loop-x : goal.invariant-loop-x
invariant-loop-x l = l.n < 2000000
