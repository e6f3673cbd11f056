use mathlib.Core.Path.{◌≡◌}
use Rattle.map_keys.specs.KeySet.{key_hashes, Seeded}
use Rattle.map_keys.proofs.Slots.{Occupied, Walked}
use Rattle.map_keys.proofs.insert.Given as goal

abbrev pub invariant-loop-d : goal.invariant-loop-d
invariant-loop-d l = (l.slots ≡ l.initial.slots) × Walked Occupied l.slots (key_hashes l.rows.msg.now l.rows.places.now l.rows.lengths.now l.rows.table.now l.first l.key) l.n l.i l.d × Seeded l.rows.msg.now l.rows.places.now l.rows.lengths.now l.rows.table.now l.first l.key l.d l.seed
