use Rattle.term_hash.specs.Hash.{hash_row, hash_rows, add_pairs, hash_pairs}
use mathlib.Core.Path.{◌≡◌}
use Prim.Native.Nat.{◌+◌, ◌*◌, ◌-◌, ◌<◌}
use Rattle.term_hash.proofs.+hash.Given as goal

abbrev pub decreases-hash_pairs : goal.decreases-hash_pairs
decreases-hash_pairs l = l.levels * 2 + 0

abbrev pub decreases-hash_rows : goal.decreases-hash_rows
decreases-hash_rows l = l.levels * 2 + 1

abbrev pub invariant-hash_pairs-loop : goal.invariant-hash_pairs-loop
invariant-hash_pairs-loop l = (l.levels ≡ 0 → ⊥) × (l.sum < 4294967296) × (l.at + 32768 * (l.n - l.counter) + 268435456 * l.levels < 4611686018427387904) × (add_pairs l.rows.table.now (λ i a. hash_rows (hash_row l.factor l.rows.msg.now l.rows.places.now l.rows.lengths.now) l.rows.table.now (hash_pairs (hash_row l.factor l.rows.msg.now l.rows.places.now l.rows.lengths.now) l.rows.table.now (l.levels - 1)) 0 i 0 a) l.sum (l.n - l.counter) l.at ≡ hash_pairs (hash_row l.factor l.rows.msg.now l.rows.places.now l.rows.lengths.now) l.rows.table.now l.levels l.h l.n l.row)

abbrev pub invariant-hash_rows-loop-i : goal.invariant-hash_rows-loop-i
invariant-hash_rows-loop-i l = (l.sum < 4294967296) × (hash_rows (hash_row l.factor l.rows.msg.now l.rows.places.now l.rows.lengths.now) l.rows.table.now (hash_pairs (hash_row l.factor l.rows.msg.now l.rows.places.now l.rows.lengths.now) l.rows.table.now l.levels) l.sum (l.n - l.i) 0 (l.row + l.i) ≡ hash_rows (hash_row l.factor l.rows.msg.now l.rows.places.now l.rows.lengths.now) l.rows.table.now (hash_pairs (hash_row l.factor l.rows.msg.now l.rows.places.now l.rows.lengths.now) l.rows.table.now l.levels) l.h l.n 0 l.row)

abbrev pub decreases-hash_rows-loop-i : goal.decreases-hash_rows-loop-i
decreases-hash_rows-loop-i l = l.n - l.i
