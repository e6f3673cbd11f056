use mathlib.Core.Path.{◌≡◌}
use Prim.Native.Nat.{◌-◌}
use Rattle.map_keys.specs.Compare.{leads}
use Rattle.map_keys.proofs.leads_to.Given as goal

abbrev pub invariant-loop-at : goal.invariant-loop-at
invariant-loop-at l = leads l.table l.at l.row ≡ leads l.table l.from l.row

abbrev pub decreases-loop-at : goal.decreases-loop-at
decreases-loop-at l = l.row - l.at
