-- The row of a key as the slots of the set name it: a hint, on which no answer depends.
-- About the code alone, proved against the definitions of term_spec: nothing here has to be believed.
use Rattle.std.specs.Prelude.{Bool, false, cond, Option, Some, None, List, ℕ, zero, suc, ◌+◌, ◌-◌, eqb, length, get_or}
use Rattle.term_spec.specs.Rows.{whole_in}
use Rattle.map_keys.specs.Path.{slot}

module _ (T : List ℕ) (terms : ℕ → ℕ → Bool) (first key : ℕ) where
  -- is the row that of a key of the map whose first key is at the row `first`, equal to the key at the row `key`?
  unfoldable pub same_key : ℕ → Bool
  same_key row = cond (eqb (whole_in (get_or T row 0)) first) (terms key row) false

module _ (T L : List ℕ) (terms : ℕ → ℕ → Bool) (first key : ℕ) (hs : ℕ → ℕ) where
  -- the first such row in n slots of a path from step d on, before an empty one
  unfoldable pub found_steps : ℕ → ℕ → Option ℕ
  found_steps zero d = None
  found_steps (suc n) d =
      cond (eqb (slot L hs d) 0) None
      (cond (same_key T terms first key (slot L hs d - 1)) (Some (slot L hs d - 1)) (found_steps n (d + 1)))

  -- on the whole path
  unfoldable pub found_key : Option ℕ
  found_key = cond (eqb (length L) 0) None (found_steps 256 0)
