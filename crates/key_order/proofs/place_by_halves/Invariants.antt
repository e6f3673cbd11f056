use lib.ListN.{length}
use Prim.Native.Nat.{◌-◌}
use Rattle.key_order.proofs.Places.{Halving}
use Rattle.key_order.proofs.place_by_halves.Given as goal

abbrev pub invariant-loop-low : goal.invariant-loop-low
invariant-loop-low l = Halving l.rows.msg.now l.rows.places.now l.rows.lengths.now l.rows.table.now l.order l.keys (length l.keys) l.key l.initial.out l.out l.low l.high

abbrev pub decreases-loop-low : goal.decreases-loop-low
decreases-loop-low l = l.high - l.low
