-- `insert` meets its contract: the slots passed are occupied.
use Rattle.map_keys.proofs.Slots.{place_at, next_seeded, walk_next, insert_empty, none_empty, some_occupied}
use Rattle.map_keys.proofs.insert.Goals as goal

pub returns-then-is_none : goal.returns-then-is_none
returns-then-is_none c = insert_empty _ _ _ _ c.loop-d.invariant.0 c.loop-d.invariant.1 _ c.loop-d-test.true (place_at _ _ _ _ _ _ _ _ _ _ _ c.loop-d.invariant.1.last c.path_seed-seed.ensures c.path_slot-i.ensures.0 c.path_slot-i.ensures.1) c.path_slot-i.ensures.1 (none_empty _ _ c.key_in.ensures c.if-is_none.ensures)

pub loop-d-preserved : goal.loop-d-preserved
loop-d-preserved c = (
  c.loop-d.invariant.0,
  walk_next _ _ _ c.loop-d.invariant.1 _ (place_at _ _ _ _ _ _ _ _ _ _ _ c.loop-d.invariant.1.last c.path_seed-seed.ensures c.path_slot-i.ensures.0 c.path_slot-i.ensures.1) c.loop-d-test.true (some_occupied _ _ c.key_in.ensures c.if-is_none.ensures),
  next_seeded _ _ _ _ _ _ _ _ c.path_seed-seed.ensures,
)
