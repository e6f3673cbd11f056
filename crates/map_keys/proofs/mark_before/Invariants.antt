use Prim.Native.Nat.{◌≤◌}
use Rattle.map_keys.specs.Marks.{MarkOf}
use Rattle.map_keys.proofs.mark_before.Given as goal

abbrev pub invariant-loop-mark : goal.invariant-loop-mark
invariant-loop-mark l = MarkOf l.marks l.b l.found × (l.found ≤ l.row)
