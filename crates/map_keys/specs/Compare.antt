-- Terms compared by their rows, whatever the order of maps' pairs: said of the table's words alone, with the tests of the code in their order.
-- About the code alone, proved against the definitions of term_spec: nothing here has to be believed.
use Rattle.std.specs.Prelude.{Bool, true, false, cond, Option, Some, None, List, ℕ, zero, suc, ◌+◌, ◌-◌, ◌/◌, eqb, leb, ltb, length, get_or}
use Rattle.term_spec.specs.Rows.{parts_in, size_in}
use Rattle.term_rows.specs.Rows.{unordered_rows, pair_size}

-- over a comparison of words and one of the maps with pairs at two rows
module _ (alike : ℕ → ℕ → Bool) (T : List ℕ) (maps : ℕ → ℕ → Bool) where
  -- n rows from a on and from b on, of which the first s are stepped over
  unfoldable pub same_rows : ℕ → ℕ → ℕ → ℕ → Bool
  same_rows zero s a b = true
  same_rows (suc n) (suc s) a b = same_rows n s (a + 1) (b + 1)
  same_rows (suc n) zero a b =
      cond (alike (get_or T a 0) (get_or T b 0))
      (cond (eqb (unordered_rows (get_or T a 0)) 0) (same_rows n zero (a + 1) (b + 1))
      (cond (maps a b) (same_rows n (unordered_rows (get_or T a 0)) (a + 1) (b + 1)) false))
      false

  -- the terms whose rows start at a and b
  unfoldable pub same_from : ℕ → ℕ → Bool
  same_from a b =
      cond (leb (length T) a) false
      (cond (leb (length T) b) false
      (cond (eqb (size_in (get_or T a 0)) (size_in (get_or T b 0))) (same_rows (size_in (get_or T a 0)) 0 a b) false))

-- over a comparison of the terms at two rows
module _ (T : List ℕ) (terms : ℕ → ℕ → Bool) where
  -- the first of the n pairs from `at` on that has the key at k has the value after that key
  unfoldable pub pair_among : ℕ → ℕ → ℕ → Bool
  pair_among zero k at = false
  pair_among (suc n) k at =
      cond (terms k at) (terms (k + size_in (get_or T k 0)) (at + size_in (get_or T at 0))) (pair_among n k (at + pair_size T at))

  -- of the n pairs from `at` on, or of the m before those, which start at b
  unfoldable pub pair_around : ℕ → ℕ → ℕ → ℕ → ℕ → Bool
  pair_around n m k at b = cond (pair_among n k at) true (pair_among m k b)

  -- each of the n pairs from a on is one of those
  unfoldable pub pairs_among : ℕ → ℕ → ℕ → ℕ → ℕ → Bool
  pairs_among zero m a at b = true
  pairs_among (suc n) m a at b = cond (pair_around (suc n) m a at b) (pairs_among n (m + 1) (a + pair_size T a) (at + pair_size T at) b) false

  -- is the term at the row `key` equal to a key of the pairs from the row `at` on? In at most n steps
  unfoldable pub among_steps : ℕ → ℕ → ℕ → Bool
  among_steps zero at key = false
  among_steps (suc n) at key =
      cond (leb key at) false
      (cond (terms key at) true
      (cond (eqb (pair_size T at) 0) false (among_steps n (at + pair_size T at) key)))

  unfoldable pub among_from : ℕ → ℕ → Bool
  among_from first key = cond (leb (length T) key) false (among_steps (key - first) first key)

-- over the rows of a table
module _ (T : List ℕ) where
  -- do steps over pairs from the row `at` on lead to the row? In at most n
  unfoldable pub leads_steps : ℕ → ℕ → ℕ → Bool
  leads_steps zero at row = eqb at row
  leads_steps (suc n) at row =
      cond (leb row at) (eqb at row)
      (cond (eqb (pair_size T at) 0) false (leads_steps n (at + pair_size T at) row))

  unfoldable pub leads : ℕ → ℕ → Bool
  leads at row = leads_steps (row - at) at row

  -- is the row that of a key of the pairs from the row b on, before the row `end`?
  unfoldable pub at_key : ℕ → ℕ → ℕ → Bool
  at_key b end row = cond (ltb row b) false (cond (leb end row) false (leads b row))

-- the pair from k on is one of the n from b on, which end before the row `end`. Where a row is named that is one of their keys and has the key, its value decides
unfoldable pub pair_named : List ℕ → (ℕ → ℕ → Bool) → ℕ → ℕ → ℕ → ℕ → Option ℕ → Bool
pair_named T terms n k b end None = pair_among T terms n k b
pair_named T terms n k b end (Some x) =
    cond (at_key T b end x)
    (cond (terms k x) (terms (k + size_in (get_or T k 0)) (x + size_in (get_or T x 0))) (pair_among T terms n k b))
    (pair_among T terms n k b)

-- over a comparison of the terms at two rows and a hint: from the rows of a map's first key and of a key that is looked for, a row
module _ (T : List ℕ) (terms : ℕ → ℕ → Bool) (hint : ℕ → ℕ → Option ℕ) where
  -- the same by the hint
  unfoldable pub pair_marked : ℕ → ℕ → ℕ → ℕ → Bool
  pair_marked n k b end = pair_named T terms n k b end (hint b k)

  -- each of the m pairs from a on is one of those
  unfoldable pub pairs_marked : ℕ → ℕ → ℕ → ℕ → ℕ → Bool
  pairs_marked n zero a b end = true
  pairs_marked n (suc m) a b end = cond (pair_marked n a b end) (pairs_marked n m (a + pair_size T a) b end) false

  -- the maps with pairs at a and b: of few, or of 32 or more
  unfoldable pub maps_from : ℕ → ℕ → Bool
  maps_from a b =
      cond (eqb (size_in (get_or T a 0)) (size_in (get_or T b 0)))
      (cond (ltb (parts_in (get_or T a 0) / 2) 32)
      (pairs_among T terms (parts_in (get_or T a 0) / 2) 0 (a + 1) (b + 1) (b + 1))
      (pairs_marked (parts_in (get_or T a 0) / 2) (parts_in (get_or T a 0) / 2) (a + 1) (b + 1) (b + size_in (get_or T b 0))))
      false

-- over a hint that may compare terms
module _ (alike : ℕ → ℕ → Bool) (T : List ℕ) (hint : (ℕ → ℕ → Bool) → ℕ → ℕ → Option ℕ) where
  -- the maps with pairs at a and b, in at most so many levels of maps
  unfoldable pub same_maps : ℕ → ℕ → ℕ → Bool
  same_maps zero a b = false
  same_maps (suc d) a b = maps_from T (same_from alike T (same_maps d)) (hint (same_from alike T (same_maps d))) a b

  -- the terms at a and b
  abbrev pub same_terms : ℕ → ℕ → ℕ → Bool
  same_terms d = same_from alike T (same_maps d)
