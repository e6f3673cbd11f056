-- `order_map` meets its contract.
use native.Mathlib.Omega.{arith}
use mathlib.Core.Path.{sym}
use Rattle.term_writer.proofs.InTable.{held_below}
use Rattle.key_order.proofs.Maps.{map_pairs, map_rows, map_slots, keys_kept, first_there, stands_ordered, slots_ordered}
use Rattle.key_order.proofs.order_map.Goals as goal

pub bounds-rows-row : goal.bounds-rows-row
bounds-rows-row c = held_below c.requires.0.ready.node_held

pub sort_keys-requires : goal.sort_keys-requires
sort_keys-requires c = let a = c.requires in
    let n = c.parts_in-n.ensures.0 in
    (map_pairs a.1 n a.0.ready, map_rows a.1 n a.0)

pub bounds-order-row : goal.bounds-order-row
bounds-order-row c = first_there c.requires.1 c.parts_in-n.ensures.0 c.requires.0

pub returns-then-sort_keys : goal.returns-then-sort_keys
returns-then-sort_keys c = let a = c.requires in
    let n = c.parts_in-n.ensures.0 in
    stands_ordered a.1 n a.0 c.sort_keys.ensures c.if-sort_keys.true (first_there a.1 n a.0)

pub slice_bounds-fill_slots-end : goal.slice_bounds-fill_slots-end
slice_bounds-fill_slots-end c = let b = map_rows c.requires.1 c.parts_in-n.ensures.0 c.requires.0 in omega (arith, c.sort_keys.auto.run)

pub slice_bounds-fill_slots-end-2 : goal.slice_bounds-fill_slots-end-2
slice_bounds-fill_slots-end-2 c = sym (keys_kept c.requires.1 c.parts_in-n.ensures.0 c.requires.0 _ c.sort_keys.auto.run)

pub fill_slots-requires : goal.fill_slots-requires
fill_slots-requires c = let a = c.requires in
    let n = c.parts_in-n.ensures.0 in
    map_slots a.1 n a.0 _ (keys_kept a.1 n a.0 _ c.sort_keys.auto.run)

pub returns : goal.returns
returns c = let a = c.requires in
    let n = c.parts_in-n.ensures.0 in
    slots_ordered a.1 n a.0 c.sort_keys.ensures (keys_kept a.1 n a.0 _ c.sort_keys.auto.run) c.fill_slots.ensures
