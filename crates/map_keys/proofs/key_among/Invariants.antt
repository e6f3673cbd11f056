use Prim.Native.Nat.{◌-◌, ◌<◌}
use lib.ListN.{length}
use Rattle.map_keys.specs.KeySet.{same_terms_raw, among_rows}
use Rattle.map_keys.proofs.Steps.{AmongLeft}
use Rattle.map_keys.proofs.key_among.Given as goal

abbrev pub invariant-loop-at : goal.invariant-loop-at
invariant-loop-at l = (l.key < length l.keys.rows.table.now) × AmongLeft l.keys.rows.table.now (same_terms_raw l.keys.rows.msg.now l.keys.rows.places.now l.keys.rows.lengths.now l.keys.rows.table.now l.keys.slots.now) l.at l.key (among_rows l.keys.rows.msg.now l.keys.rows.places.now l.keys.rows.lengths.now l.keys.rows.table.now l.keys.slots.now l.first l.key)

abbrev pub decreases-loop-at : goal.decreases-loop-at
decreases-loop-at l = l.key - l.at
