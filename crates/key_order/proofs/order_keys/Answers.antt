-- `order_keys` meets its contract. The maps at the rows passed, `row` and later ones, are ordered; the measure is the number of rows left.
use mathlib.Core.Path.{refl}
use native.Mathlib.Omega.{arith}
use Rattle.term_writer.proofs.InTable.{held_below}
use Rattle.key_order.proofs.Maps.{no_order}
use Rattle.key_order.proofs.Rows.{ordering_start, row_fits, ordering_next, run_ended}
use Rattle.key_order.proofs.order_keys.Goals as goal

pub loop-row-init : goal.loop-row-init
loop-row-init c = ordering_start _ _ _ _ _ _ _ _

pub offset_bounds-rows-row : goal.offset_bounds-rows-row
offset_bounds-rows-row c = let f = row_fits c.loop-row.invariant c.loop-row-test.true c.requires.0 c.requires.1 in omega (arith, f.ready.node_held.few)

pub bounds-rows-row : goal.bounds-rows-row
bounds-rows-row c = held_below (row_fits c.loop-row.invariant c.loop-row-test.true c.requires.0 c.requires.1).ready.node_held

pub order_map-requires : goal.order_map-requires
order_map-requires c = (row_fits c.loop-row.invariant c.loop-row-test.true c.requires.0 c.requires.1, c.has_order.ensures.0 c.if-has_order.true)

pub loop-row-preserved-then-has_order : goal.loop-row-preserved-then-has_order
loop-row-preserved-then-has_order c = let k = c.order_map.auto in ordering_next c.loop-row.invariant c.loop-row-test.true c.order_map.ensures k.order k.run k.out

pub loop-row-preserved : goal.loop-row-preserved
loop-row-preserved c = ordering_next c.loop-row.invariant c.loop-row-test.true (no_order (c.has_order.ensures.1 c.if-has_order.false)) refl refl refl

pub shape_of-order : goal.shape_of-order
shape_of-order c = c.loop-row.invariant.slots_long

pub shape_of-run : goal.shape_of-run
shape_of-run c = c.loop-row.invariant.run_long

pub shape_of-out : goal.shape_of-out
shape_of-out c = c.loop-row.invariant.out_long

pub returns : goal.returns
returns c = run_ended c.loop-row.invariant c.loop-row-test.false
