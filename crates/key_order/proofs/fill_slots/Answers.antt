-- `fill_slots` meets its contract. The slots at the keys passed have the first rows in turn; the measure is the number of keys left.
use native.Mathlib.Omega.{arith}
use Rattle.key_order.proofs.Walk.{key_step, value_few}
use Rattle.key_order.proofs.Slots.{filling_start, filling_pair, slot_there, filling_next, filling_end}
use Rattle.key_order.proofs.fill_slots.Goals as goal

pub loop-slot-init : goal.loop-slot-init
loop-slot-init c = filling_start _ _ _ _

pub offset_bounds-order-key : goal.offset_bounds-order-key
offset_bounds-order-key c = let b = slot_there c.loop-slot.invariant c.requires c.loop-slot-test.true in omega arith

pub bounds-order-key : goal.bounds-order-key
bounds-order-key c = let b = slot_there c.loop-slot.invariant c.requires c.loop-slot-test.true in omega (arith, c.loop-slot.invariant.long)

pub offset_bounds-table-key : goal.offset_bounds-table-key
offset_bounds-table-key c = let b = (filling_pair c.loop-slot.invariant c.requires c.loop-slot-test.true).few in omega arith

pub bounds-table-key : goal.bounds-table-key
bounds-table-key c = (filling_pair c.loop-slot.invariant c.requires c.loop-slot-test.true).key_below

pub overflow_add-value : goal.overflow_add-value
overflow_add-value c = let b = key_step (filling_pair c.loop-slot.invariant c.requires c.loop-slot-test.true) _ c.size_in.ensures.0 in omega arith

pub offset_bounds-table-value : goal.offset_bounds-table-value
offset_bounds-table-value c = let b = key_step (filling_pair c.loop-slot.invariant c.requires c.loop-slot-test.true) _ c.size_in.ensures.0 in omega arith

pub bounds-table-value : goal.bounds-table-value
bounds-table-value c = (key_step (filling_pair c.loop-slot.invariant c.requires c.loop-slot-test.true) _ c.size_in.ensures.0).0

pub overflow_add-key : goal.overflow_add-key
overflow_add-key c = let b = value_few (filling_pair c.loop-slot.invariant c.requires c.loop-slot-test.true) _ _ c.size_in.ensures.0 c.size_in-in-loop-slot.ensures.0 in omega arith

pub loop-slot-preserved : goal.loop-slot-preserved
loop-slot-preserved c = let b = slot_there c.loop-slot.invariant c.requires c.loop-slot-test.true in filling_next c.loop-slot.invariant c.requires c.loop-slot-test.true (omega (arith, c.loop-slot.invariant.long)) c.size_in.ensures.0 c.size_in-in-loop-slot.ensures.0

pub shape_of-order : goal.shape_of-order
shape_of-order c = c.loop-slot.invariant.long

pub returns : goal.returns
returns c = filling_end c.loop-slot.invariant c.loop-slot-test.false
