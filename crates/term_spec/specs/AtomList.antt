-- The atom list as it is lent: a count n, 255 places of 32 bytes, 255 lengths.
use Rattle.std.specs.Prelude.{Bool, true, false, ◌&&◌, List, ℕ, ◌*◌, eqb, leb, length, get_or, take, drop, replicate}
use Rattle.term_spec.specs.Text.{Checked, invalid_at, utf_8, check}
use Rattle.term_spec.specs.Head.{Given}

pub record AtomList : Type 0 where
  pub n : ℕ
  pub places : List ℕ
  pub lengths : List ℕ

-- The list as it is lent: its count, its places, its lengths
abbrev pub lent_list : ℕ → List ℕ → List ℕ → AtomList
lent_list n places lengths = record { n = n; places = places; lengths = lengths }

-- an empty list of its stated size, all zero
abbrev pub empty_list : AtomList
empty_list = lent_list 0 (replicate 8160 0) (replicate 255 0)

-- Refusal 13: a list not of its stated size
unfoldable pub of_size : AtomList → Bool
of_size list = eqb (length list.places) 8160 && eqb (length list.lengths) 255

-- the length and the bytes of place i
unfoldable pub place_length : AtomList → ℕ → ℕ
place_length list i = get_or list.lengths i 0

unfoldable pub place_bytes : AtomList → ℕ → List ℕ
place_bytes list i = take (place_length list i) (drop (32 * i) list.places)

-- Refusal 14: a length over 32, which fails at the first byte past the place, or a text that is not UTF-8
unfoldable pub place_text : AtomList → ℕ → Checked
place_text list i = elim (leb (place_length list i) 32) [ true ↦ check utf_8 (place_bytes list i) | false ↦ invalid_at 32 ]

-- what reading is given, of the connection's flags and the list
unfoldable pub given_of : ℕ → AtomList → Given
given_of flags list = record { flags = flags; n = list.n; text = place_text list }
