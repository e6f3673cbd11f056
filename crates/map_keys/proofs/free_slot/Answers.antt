-- `free_slot` meets its contract: the slots passed are occupied, none by an equal key of the map.
use Rattle.map_keys.proofs.Slots.{place_at, next_seeded, free_found, free_later}
use Rattle.map_keys.proofs.free_slot.Goals as goal

pub returns-in_default : goal.returns-in_default
returns-in_default c = (
  c.path_slot-i.ensures.1,
  free_found _ _ _ _ _ _ _ c.loop-d.invariant.0 _ c.loop-d-test.true (place_at _ _ _ _ _ _ _ _ _ _ _ c.loop-d.invariant.0.last c.path_seed-seed.ensures c.path_slot-i.ensures.0 c.path_slot-i.ensures.1) c.in_default.ensures,
)

pub loop-d-preserved : goal.loop-d-preserved
loop-d-preserved c = (
  free_later _ _ _ _ _ _ _ c.loop-d.invariant.0 _ c.loop-d-test.true (place_at _ _ _ _ _ _ _ _ _ _ _ c.loop-d.invariant.0.last c.path_seed-seed.ensures c.path_slot-i.ensures.0 c.path_slot-i.ensures.1) _ _ c.in-Some.ensures c.same_key.ensures c.if-same_key.false,
  next_seeded _ _ _ _ _ _ _ _ c.path_seed-seed.ensures,
)
