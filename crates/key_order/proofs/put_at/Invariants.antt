use Prim.Native.Nat.{◌-◌}
use Rattle.key_order.proofs.Moved.{Moved}
use Rattle.key_order.proofs.put_at.Given as goal

abbrev pub invariant-loop-i : goal.invariant-loop-i
invariant-loop-i l = Moved l.initial.run l.n l.at l.i l.run

abbrev pub decreases-loop-i : goal.decreases-loop-i
decreases-loop-i l = l.i - l.at
