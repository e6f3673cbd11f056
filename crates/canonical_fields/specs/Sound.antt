-- What a content found for a term that was read keeps to, so that it can be written.
-- About the code alone, proved against the definitions of term_spec: nothing here has to be believed.
use Rattle.std.specs.Prelude.{◌≡◌, Bool, true, false, List, [], ℕ, ◌+◌, ◌*◌, ◌-◌, ◌≤◌, ◌<◌, get_or}
use Rattle.term_spec.specs.Text.{utf_8, check, encodes}
use Rattle.term_spec.specs.Term.{Label}
use Rattle.term_spec.specs.AtomList.{AtomList}
use Rattle.term_spec.specs.Rows.{kind_in, offset_in, parts_in}
use Rattle.octets.specs.Parts.{stretch, source}
use Rattle.row_fields.specs.Found.{content_of}
use Rattle.row_fields.specs.Meaning.{characters_of, label_of}
use Rattle.row_fields.specs.declared.Content.{Content}
use Rattle.row_fields.specs.declared.Content.TheVariants.{Nothing, Whole, Big, Float, Text, Bytes, Bits, Pid, Port, Reference}
use Rattle.layout.specs.Layout.{Inside}
use Rattle.canonical_fields.specs.Shape.{before, after}

-- a text in UTF-8 is the spelling of its characters
pub record Spelt (bs : List ℕ) : Type 0 where
  pub spelt : encodes (characters_of (check utf_8 bs)) ≡ bs

-- more than 8 digits, the highest not zero
pub record High (m : List ℕ) (start n : ℕ) : Type 0 where
  pub there : Inside m start n
  pub many : 8 < n
  pub high : 0 < get_or m (start + (n - 1)) 0

abbrev pub SoundText : List ℕ → List ℕ → Bool → Bool → ℕ → ℕ → Type 0
SoundText m places latin1 listed start n = Inside (source m places listed) start n × (latin1 ≡ false → Spelt (stretch (source m places listed) start n))

-- every element is a byte
abbrev pub BytesOnly : List ℕ → Type 0
BytesOnly m = (i : ℕ) → get_or m i 0 < 256

unfoldable pub SoundContent : List ℕ → List ℕ → Content → Type 0
SoundContent m places Nothing = Unit {0}
SoundContent m places (Whole negative n) = negative ≡ true → 0 < n
SoundContent m places (Big negative start n) = High m start n
SoundContent m places (Float bits) = Unit {0}
SoundContent m places (Text latin1 listed start n) = SoundText m places latin1 listed start n
SoundContent m places (Bytes start n) = Inside m start n
SoundContent m places (Bits bits start n) = Inside m start n × (1 ≤ n)
SoundContent m places (Pid id serial creation) = Unit {0}
SoundContent m places (Port id creation) = Unit {0}
SoundContent m places (Reference creation start n) = Inside m start (4 * n)

-- a list of which only the places count
abbrev pub listed_in : List ℕ → AtomList
listed_in places = record { n = 0; places = places; lengths = [] }

-- the content that a row's word points at, and what it says
abbrev pub content_in : List ℕ → List ℕ → List ℕ → ℕ → Content
content_in m places lengths w = content_of m places lengths (kind_in w) (offset_in w)

abbrev pub label_in : List ℕ → List ℕ → List ℕ → ℕ → Label
label_in m places lengths w = label_of m (listed_in places) (kind_in w) (content_in m places lengths w)

abbrev pub before_in : List ℕ → List ℕ → List ℕ → ℕ → List ℕ
before_in m places lengths w = before (label_in m places lengths w) (parts_in w)

abbrev pub after_in : List ℕ → List ℕ → List ℕ → ℕ → List ℕ
after_in m places lengths w = after (label_in m places lengths w) (parts_in w)

-- a row's word that points at what can be written; an improper list has parts
pub record SoundWord (m places lengths : List ℕ) (w : ℕ) : Type 0 where
  pub sound : SoundContent m places (content_in m places lengths w)
  pub some_parts : kind_in w ≡ 6 → 0 < parts_in w
