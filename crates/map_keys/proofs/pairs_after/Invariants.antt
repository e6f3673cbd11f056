use Prim.Native.Nat.{◌+◌, ◌*◌, ◌≤◌}
use Rattle.map_keys.specs.Marks.{Reached}
use Rattle.map_keys.proofs.pairs_after.Given as goal

abbrev pub invariant-loop : goal.invariant-loop
invariant-loop l = Reached l.table l.from l.at × (l.at ≤ l.from + 32768 * l.counter)
