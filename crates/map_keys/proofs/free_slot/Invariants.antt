use Rattle.map_keys.specs.KeySet.{key_hashes, Seeded}
use Rattle.map_keys.proofs.Slots.{Other, Walked}
use Rattle.map_keys.proofs.free_slot.Given as goal

abbrev pub invariant-loop-d : goal.invariant-loop-d
invariant-loop-d l = Walked (Other l.keys.rows.msg.now l.keys.rows.places.now l.keys.rows.lengths.now l.keys.rows.table.now l.first l.key l.keys.slots.now) l.keys.slots.now (key_hashes l.keys.rows.msg.now l.keys.rows.places.now l.keys.rows.lengths.now l.keys.rows.table.now l.first l.key) l.n l.i l.d × Seeded l.keys.rows.msg.now l.keys.rows.places.now l.keys.rows.lengths.now l.keys.rows.table.now l.first l.key l.d l.seed
