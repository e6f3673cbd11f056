-- Hashes of terms over the words of their rows, with the tests of the code in their order: one row after the other, but the pairs of a map as a sum.
-- About the code alone, proved against the definitions of term_spec: nothing here has to be believed.
use Rattle.std.specs.Prelude.{cond, List, ℕ, zero, suc, ◌+◌, ◌*◌, ◌/◌, ◌%◌, eqb, leb, ltb, get_or}
use Rattle.term_spec.specs.Rows.{kind_in, offset_in, parts_in, size_in}
use Rattle.row_fields.specs.Found.{content_of}
use Rattle.row_fields.specs.Meaning.{term_kind}
use Rattle.row_compare.specs.Hash.{mix, hash_contents}
use Rattle.term_rows.specs.Rows.{unordered_rows, pair_size}

-- what a row says: its kind, its number of parts and its own fields
unfoldable pub hash_row : ℕ → List ℕ → List ℕ → List ℕ → ℕ → ℕ → ℕ
hash_row factor m places lengths h w =
    hash_contents factor m places (mix factor h (16 * parts_in w + term_kind (kind_in w))) (content_of m places lengths (kind_in w) (offset_in w))

-- a hash to which that of a pair is added: what is added is no multiple, so that other pairs seldom give the same sum
unfoldable pub added : ℕ → ℕ → ℕ
added h x = (h + x * x / 65536) % 4294967296

-- over a hash of words, and one of so many pairs from a row on
module _ (hash : ℕ → ℕ → ℕ) (T : List ℕ) (pairs : ℕ → ℕ → ℕ → ℕ) where
  -- n rows from a on, of which the first s are stepped over
  unfoldable pub hash_rows : ℕ → ℕ → ℕ → ℕ → ℕ
  hash_rows h zero s a = h
  hash_rows h (suc n) (suc s) a = hash_rows h n s (a + 1)
  hash_rows h (suc n) zero a =
      cond (eqb (unordered_rows (get_or T a 0)) 0) (hash_rows (hash h (get_or T a 0)) n zero (a + 1))
      (hash_rows (pairs (hash h (get_or T a 0)) (parts_in (get_or T a 0) / 2) (a + 1)) n (unordered_rows (get_or T a 0)) (a + 1))

-- n pairs from `at` on, over a hash of so many rows from a row on
unfoldable pub add_pairs : List ℕ → (ℕ → ℕ → ℕ) → ℕ → ℕ → ℕ → ℕ
add_pairs T rows h zero at = h
add_pairs T rows h (suc n) at = add_pairs T rows (added h (rows (pair_size T at) at)) n (at + pair_size T at)

module _ (hash : ℕ → ℕ → ℕ) (T : List ℕ) where
  -- the same in at most so many levels of maps
  unfoldable pub hash_pairs : ℕ → ℕ → ℕ → ℕ → ℕ
  hash_pairs zero h n at = h
  hash_pairs (suc d) h n at = add_pairs T (λ k a. hash_rows hash T (hash_pairs d) 0 k 0 a) h n at

-- a factor for each pass over a term, and for each round: the first is odd, the others are even
unfoldable pub factor_of : ℕ → ℕ
factor_of i = cond (eqb i 0) 2554875531 ((3266489908 + i * 2135587862) % 4294967296)

-- in the first two passes maps count down to four levels, then to all
unfoldable pub levels_of : ℕ → ℕ
levels_of pass = cond (ltb pass 2) 4 16384

-- of a term of more than 2048 rows only the first counts
unfoldable pub hashed_rows : ℕ → ℕ
hashed_rows n = cond (leb n 2048) n 1

-- over the row of the map's first key, with this factor and in so many levels, n of the rows of the term at a row
unfoldable pub hash_term : List ℕ → List ℕ → List ℕ → List ℕ → ℕ → ℕ → ℕ → ℕ → ℕ → ℕ
hash_term m places lengths T factor levels first n row =
    mix factor
    (cond (ltb n 2) (hash_row factor m places lengths (mix factor 0 first) (get_or T row 0))
    (hash_rows (hash_row factor m places lengths) T (hash_pairs (hash_row factor m places lengths) T levels) (mix factor 0 first) n 0 row))
    n

-- the hash that a pass gives the term at a row, as a key of the map whose first key is at the row `first`
unfoldable pub pass_hash : List ℕ → List ℕ → List ℕ → List ℕ → ℕ → ℕ → ℕ → ℕ
pass_hash m places lengths T first row pass = hash_term m places lengths T (factor_of pass) (levels_of pass) first (hashed_rows (size_in (get_or T row 0))) row

-- what a round goes by, over the hashes of all passes: the first, then the first two, from round 4 on the third, then the last two
unfoldable pub seed_of : (ℕ → ℕ) → ℕ → ℕ
seed_of hs round =
    cond (ltb round 4)
    (cond (eqb round 0) (hs 0) (hs 0 * 4294967296 + hs 1))
    (cond (eqb round 4) (hs 2) (hs 2 * 4294967296 + hs 3))

-- the hash of a round by its seed; the half that is taken parts keys that differ in their last byte alone
unfoldable pub round_hash : ℕ → ℕ → ℕ
round_hash seed round =
    cond (eqb round 0) (seed / 65536 % 65536)
    (mix (factor_of round) (mix (factor_of round) (mix (factor_of round) (seed / 4294967296) (seed % 4294967296)) round) round / 65536)

-- the hash of the term at a row in a round
unfoldable pub term_hash : List ℕ → List ℕ → List ℕ → List ℕ → ℕ → ℕ → ℕ → ℕ
term_hash m places lengths T round first row = round_hash (seed_of (pass_hash m places lengths T first row) round) round
