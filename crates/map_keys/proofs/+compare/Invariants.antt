use Rattle.map_keys.proofs.Found.{Finding}
use Rattle.term_rows.specs.Rows.{same_row}
use Rattle.map_keys.specs.Compare.{same_rows, pair_among, pairs_among, pairs_marked}
use Rattle.map_keys.specs.KeySet.{key_hashes, Seeded}
use Rattle.map_keys.specs.Lent.{maps_of, terms_of, found_of}
use mathlib.Core.Path.{◌≡◌}
use Prim.Native.Nat.{◌+◌, ◌*◌, ◌-◌, ◌<◌}
use Rattle.map_keys.proofs.+compare.Given as goal

abbrev pub decreases-found_key : goal.decreases-found_key
decreases-found_key l = l.levels * 8 + 4

abbrev pub decreases-many_among : goal.decreases-many_among
decreases-many_among l = l.levels * 8 + 7

abbrev pub decreases-pair_among : goal.decreases-pair_among
decreases-pair_among l = l.levels * 8 + 3

abbrev pub decreases-pair_around : goal.decreases-pair_around
decreases-pair_around l = l.levels * 8 + 4

abbrev pub decreases-pair_marked : goal.decreases-pair_marked
decreases-pair_marked l = l.levels * 8 + 5

abbrev pub decreases-pairs_among : goal.decreases-pairs_among
decreases-pairs_among l = l.levels * 8 + 5

abbrev pub decreases-pairs_marked : goal.decreases-pairs_marked
decreases-pairs_marked l = l.levels * 8 + 6

abbrev pub decreases-same_key : goal.decreases-same_key
decreases-same_key l = l.levels * 8 + 3

abbrev pub decreases-same_maps : goal.decreases-same_maps
decreases-same_maps l = l.levels * 8 + 0

abbrev pub decreases-same_rows : goal.decreases-same_rows
decreases-same_rows l = l.levels * 8 + 1

abbrev pub decreases-same_terms : goal.decreases-same_terms
decreases-same_terms l = l.levels * 8 + 2

abbrev pub invariant-found_key-loop-d : goal.invariant-found_key-loop-d
invariant-found_key-loop-d l = Seeded l.keys.rows.msg.now l.keys.rows.places.now l.keys.rows.lengths.now l.keys.rows.table.now l.first l.key l.d l.seed
    × Finding l.keys.rows.table.now l.keys.slots.now (terms_of l.keys l.levels) l.first l.key (key_hashes l.keys.rows.msg.now l.keys.rows.places.now l.keys.rows.lengths.now l.keys.rows.table.now l.first l.key) (found_of l.keys l.levels l.first l.key) l.n l.i l.d

abbrev pub invariant-pair_among-loop : goal.invariant-pair_among-loop
invariant-pair_among-loop l = (l.x + 32768 * (l.n - l.counter) < 4611686018427387904) × (pair_among l.keys.rows.table.now (terms_of l.keys l.levels) (l.n - l.counter) l.k l.x ≡ pair_among l.keys.rows.table.now (terms_of l.keys l.levels) l.n l.k l.at)

abbrev pub invariant-pairs_among-loop-i : goal.invariant-pairs_among-loop-i
invariant-pairs_among-loop-i l = (l.x + 32768 * (l.n - l.i) < 4611686018427387904) × (l.y + 32768 * (l.n - l.i) < 4611686018427387904) × (pairs_among l.keys.rows.table.now (terms_of l.keys l.levels) (l.n - l.i) l.i l.x l.y l.b ≡ pairs_among l.keys.rows.table.now (terms_of l.keys l.levels) l.n 0 l.a l.b l.b)

abbrev pub invariant-pairs_marked-loop : goal.invariant-pairs_marked-loop
invariant-pairs_marked-loop l = (l.x + 32768 * (l.n - l.counter) < 3458764513820540928) × (pairs_marked l.keys.rows.table.now (terms_of l.keys l.levels) (found_of l.keys l.levels) l.n (l.n - l.counter) l.x l.b l.end ≡ pairs_marked l.keys.rows.table.now (terms_of l.keys l.levels) (found_of l.keys l.levels) l.n l.n l.a l.b l.end)

abbrev pub invariant-same_rows-loop-i : goal.invariant-same_rows-loop-i
invariant-same_rows-loop-i l = same_rows (same_row l.keys.rows.msg.now l.keys.rows.places.now l.keys.rows.lengths.now) l.keys.rows.table.now (maps_of l.keys l.levels) (l.n - l.i) 0 (l.a + l.i) (l.b + l.i) ≡ same_rows (same_row l.keys.rows.msg.now l.keys.rows.places.now l.keys.rows.lengths.now) l.keys.rows.table.now (maps_of l.keys l.levels) l.n 0 l.a l.b

abbrev pub decreases-same_rows-loop-i : goal.decreases-same_rows-loop-i
decreases-same_rows-loop-i l = l.n - l.i
