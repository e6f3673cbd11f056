use Rattle.key_order.proofs.Slots.{Filling}
use Rattle.key_order.proofs.fill_slots.Given as goal

abbrev pub invariant-loop-slot : goal.invariant-loop-slot
invariant-loop-slot l = Filling l.table l.run l.row l.initial.order l.order l.key l.slot-index
