-- Marks: the rows of some keys of a map, from which others are reached in few steps.
-- About the code alone, proved against the definitions of term_spec: nothing here has to be believed.
use Rattle.std.specs.Prelude.{List, ℕ, ◌+◌, ◌<◌, length, get_or}
use Rattle.term_rows.specs.Rows.{pair_size}

-- steps over pairs lead from the row b to a row
pub data Reached (T : List ℕ) (b : ℕ) : ℕ → Type 0 where
  here : Reached T b b
  next : {at : ℕ} → Reached T b at → Reached T b (at + pair_size T at)

-- each mark is the row of a key of the pairs from the row b on
pub record Marks (T : List ℕ) (b : ℕ) (M : List ℕ) : Type 0 where
  pub reached : (i : ℕ) → i < length M → Reached T b (get_or M i 0)

-- the row b or a mark
pub data MarkOf (M : List ℕ) (b : ℕ) : ℕ → Type 0 where
  no_mark : MarkOf M b b
  a_mark : (i : ℕ) → i < length M → MarkOf M b (get_or M i 0)
