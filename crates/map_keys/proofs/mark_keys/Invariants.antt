use Prim.Native.Nat.{ℕ, ◌<◌}
use lib.ListN.{get_or}
use Rattle.map_keys.specs.Marks.{Reached}
use Rattle.map_keys.proofs.mark_keys.Given as goal

abbrev pub invariant-loop-i : goal.invariant-loop-i
invariant-loop-i l = Reached l.table l.b l.at × ((k : ℕ) → k < l.i → Reached l.table l.b (get_or l.marks k 0))
