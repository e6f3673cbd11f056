-- The hash set of keys: each is inserted in the first empty slot of its path. A slot is 0 (empty) or the row of a key plus 1.
-- About the code alone, proved against the definitions of term_spec: nothing here has to be believed.
use Rattle.std.specs.Prelude.{◌≡◌, Bool, true, false, Option, List, ℕ, zero, suc, ◌+◌, ◌-◌, ◌/◌, ◌<◌, length, get_or}
use Rattle.term_spec.specs.Rows.{whole_in}
use Rattle.term_rows.specs.Rows.{same_row, pair_size}
use Rattle.term_hash.specs.Hash.{pass_hash, seed_of, term_hash}
use Rattle.map_keys.specs.Path.{place, slot}
use Rattle.map_keys.specs.Compare.{same_maps, same_terms, among_from}
use Rattle.map_keys.specs.Found.{found_key}

-- the set contains the key at the row k, whose hashes are hs: in a slot before the first empty one of its path of 256 steps, if one is empty
pub record Contains (L : List ℕ) (hs : ℕ → ℕ) (k : ℕ) : Type 0 where
  pub stands : (d : ℕ) → d < 256 → slot L hs d ≡ 0 → (e : ℕ) × (e < d) × (slot L hs e ≡ k + 1)

-- slot i is the first empty one of a path
pub record FirstEmpty (L : List ℕ) (hs : ℕ → ℕ) (i : ℕ) : Type 0 where
  pub step : ℕ
  pub on_path : step < 256
  pub place_is : i ≡ place hs (length L) step
  pub is_empty : get_or L i 0 ≡ 0
  pub passed : (e : ℕ) → e < step → slot L hs e ≡ 0 → ⊥

-- occupied slots stay as they are, and so does the number of slots
pub record Keeps (L L' : List ℕ) : Type 0 where
  pub as_many : length L' ≡ length L
  pub occupied : (i : ℕ) → (get_or L i 0 ≡ 0 → ⊥) → get_or L' i 0 ≡ get_or L i 0

module _ (m places lengths : List ℕ) where
  -- the hashes of a key in all rounds
  unfoldable pub key_hashes : List ℕ → ℕ → ℕ → ℕ → ℕ
  key_hashes T first row round = term_hash m places lengths T round first row

  -- what a round of a key's path goes by
  unfoldable pub key_seed : List ℕ → ℕ → ℕ → ℕ → ℕ
  key_seed T first row round = seed_of (pass_hash m places lengths T first row) round

  -- the step before step d had this seed
  abbrev pub Seeded : List ℕ → ℕ → ℕ → ℕ → ℕ → Type 0
  Seeded T first row d seed = 0 < d → seed ≡ key_seed T first row ((d - 1) / 2)

  -- ---- comparisons whose hint is what the slots name, in at most so many levels

  -- a key of the map whose first key is at the row `first`, equal to the key at the row `key`
  unfoldable pub key_found : List ℕ → List ℕ → (ℕ → ℕ → Bool) → ℕ → ℕ → Option ℕ
  key_found T L terms first key = found_key T L terms first key (key_hashes T first key)

  abbrev pub maps_at : List ℕ → List ℕ → ℕ → ℕ → ℕ → Bool
  maps_at T L = same_maps (same_row m places lengths) T (key_found T L)

  abbrev pub terms_at : List ℕ → List ℕ → ℕ → ℕ → ℕ → Bool
  terms_at T L = same_terms (same_row m places lengths) T (key_found T L)

  -- with more levels than a term of a table has
  abbrev pub same_terms_raw : List ℕ → List ℕ → ℕ → ℕ → Bool
  same_terms_raw T L = terms_at T L 16384

  abbrev pub among_rows : List ℕ → List ℕ → ℕ → ℕ → Bool
  among_rows T L = among_from T (same_terms_raw T L)

  -- ---- the set

  -- the key is absent: slot i is the first empty one of its path, and no part of the map in the slots before it means the same
  pub record Absent (T : List ℕ) (first key : ℕ) (L : List ℕ) (i : ℕ) : Type 0 where
    pub free : FirstEmpty L (key_hashes T first key) i
    pub others : (e : ℕ) → e < free.step → whole_in (get_or T (slot L (key_hashes T first key) e - 1) 0) ≡ first
        → same_terms_raw T L key (slot L (key_hashes T first key) e - 1) ≡ false

  module _ (T : List ℕ) (first key : ℕ) (L : List ℕ) where
    -- the keys at which among_steps looks, in n steps from the row `at` on, are parts of the map, and the set contains those that are equal to that at the row `key`, by its hashes
    unfoldable pub ContainsFrom : ℕ → ℕ → Type 0
    ContainsFrom zero at = Unit {0}
    ContainsFrom (suc n) at =
        at < key → (whole_in (get_or T at 0) ≡ first) × (same_terms_raw T L key at ≡ true → Contains L (key_hashes T first key) at)
        × ContainsFrom n (at + pair_size T at)

    -- the same of each key before the row `key`
    abbrev pub ContainsBefore : Type 0
    ContainsBefore = ContainsFrom (key - first) first

    -- what a call promises that inserts the key unless it equals an earlier one: the answer, whether it does, and the slots after it
    pub record ContainsOrInsert (answer : Bool) (L' : List ℕ) : Type 0 where
      pub keys_kept : Keeps L L'
      pub judged : ContainsBefore → answer ≡ among_rows T L first key
      pub inserted : answer ≡ false → Contains L' (key_hashes T first key) key
