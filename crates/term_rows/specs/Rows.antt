-- The words of rows in a table: how they are stepped over, and whether two say the same.
-- About the code alone, proved against the definitions of term_spec: nothing here has to be believed.
use Rattle.std.specs.Prelude.{Bool, false, cond, List, ℕ, ◌+◌, ◌-◌, eqb, ltb, get_or}
use Rattle.term_spec.specs.Rows.{kind_in, offset_in, parts_in, size_in}
use Rattle.row_fields.specs.Found.{content_of}
use Rattle.row_fields.specs.Meaning.{term_kind}
use Rattle.row_compare.specs.Same.{same_contents}

-- are the own fields of the terms of these kinds at these offsets equal?
unfoldable pub same_fields : List ℕ → List ℕ → List ℕ → ℕ → ℕ → ℕ → ℕ → Bool
same_fields m places lengths kind offset kind' offset' =
    same_contents m places (content_of m places lengths kind offset) (content_of m places lengths kind' offset')

-- do two words of rows say the same fields and number of parts?
unfoldable pub same_row : List ℕ → List ℕ → List ℕ → ℕ → ℕ → Bool
same_row m places lengths v w =
    cond (eqb (term_kind (kind_in v)) (term_kind (kind_in w)))
    (cond (eqb (parts_in v) (parts_in w)) (same_fields m places lengths (kind_in v) (offset_in v) (kind_in w) (offset_in w)) false)
    false

-- how many rows after a row stand in no order: of a map (9) that has pairs all others of its term, else none
unfoldable pub unordered_rows : ℕ → ℕ
unordered_rows w = cond (eqb (kind_in w) 9) (cond (ltb (parts_in w) 2) 0 (size_in w - 1)) 0

-- how many rows the term at a row and the next one have
unfoldable pub pair_size : List ℕ → ℕ → ℕ
pair_size T a = size_in (get_or T a 0) + size_in (get_or T (a + size_in (get_or T a 0)) 0)
