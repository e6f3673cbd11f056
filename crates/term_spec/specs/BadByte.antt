-- At which byte a text fails, in both codings: `BadBytes`, at the end.
use Rattle.std.specs.Prelude.{◌≡◌, List, ◌++◌, ℕ, suc, ◌≤◌, ◌<◌, length, take}
use Rattle.term_spec.specs.Text.{Coding, check, valid, invalid_at}

-- a text of at most 255 characters
abbrev pub IsText : Coding → List ℕ → Type 0
IsText coding bs = (cs : List ℕ) × (check coding bs ≡ valid cs)

-- bytes that some bytes more make a text
abbrev pub BeginsText : Coding → List ℕ → Type 0
BeginsText coding bs = (more : List ℕ) × IsText coding (bs ++ more)

-- The byte at offset k is the one at which the bytes fail. `take k bs` are the k bytes before it.
pub data BadByte (coding : Coding) (bs : List ℕ) (k : ℕ) : Type 0 where
  -- the first byte at which no valid text can continue, or the first after 255 characters: the bytes before it begin a text, with it they begin none
  no_way_on : k < length bs → BeginsText coding (take k bs) → ¬ BeginsText coding (take (suc k) bs) → BadByte coding bs k
  -- the lead byte of a sequence that the text's end cuts off: all the bytes begin a text, those before it are one, and no longer beginning of them is one
  cut_off : k < length bs → BeginsText coding bs → IsText coding (take k bs) → ((m : ℕ) → k < m → m ≤ length bs → ¬ IsText coding (take m bs))
      → BadByte coding bs k

-- The offset that the check answers is the bad byte's
pub record BadBytes : Type 0 where
  -- where the check says that a text fails, its bad byte is
  pub told : (coding : Coding) (bs : List ℕ) (k : ℕ) → check coding bs ≡ invalid_at k → BadByte coding bs k
  -- where a bad byte is, there the check says that the text fails: so there is one at most, and none in a valid text
  pub exactly : (coding : Coding) (bs : List ℕ) (k : ℕ) → BadByte coding bs k → check coding bs ≡ invalid_at k
