-- The bytes that a layout says: numbers in their widths, then a body.
-- About the code alone, proved against the definitions of term_spec: nothing here has to be believed.
use Rattle.std.specs.Prelude.{◌≡◌, List, [], ◌++◌, ℕ, ◌+◌, ◌≤◌, length}
use Rattle.std.proofs.lemmas.List.Edits.{sets}
use Rattle.term_spec.specs.Numbers.{in_bytes, digits}
use Rattle.term_spec.specs.Text.{encodes}
use Rattle.term_spec.specs.Head.{clear_low}
use Rattle.octets.specs.Parts.{stretch, source}
use Rattle.layout.specs.declared.Body.{Body}
use Rattle.layout.specs.declared.Body.TheVariants.{Empty, Part, Latin1, Digits, Bits}
use Rattle.layout.specs.declared.Number.{Number}
use Rattle.layout.specs.declared.Layout.{Layout}

unfoldable pub body_bytes : List ℕ → List ℕ → Body → List ℕ
body_bytes m places Empty = []
body_bytes m places (Part listed start n) = stretch (source m places listed) start n
body_bytes m places (Latin1 listed start n) = encodes (stretch (source m places listed) start n)
body_bytes m places (Digits n) = digits n
body_bytes m places (Bits bits start n) = clear_low bits (stretch m start n)

abbrev pub number_bytes : Number → List ℕ
number_bytes n = in_bytes n.width n.value

unfoldable pub layout_bytes : List ℕ → List ℕ → Layout → List ℕ
layout_bytes m places l =
    number_bytes l.first ++ (number_bytes l.second ++ (number_bytes l.third ++ body_bytes m places l.body))

-- n bytes from `start` on are there, and are not many
pub record Inside (s : List ℕ) (start n : ℕ) : Type 0 where
  pub there : start + n ≤ length s
  pub few : n ≤ 65536

unfoldable pub BodyInside : List ℕ → List ℕ → Body → Type 0
BodyInside m places Empty = Unit {0}
BodyInside m places (Part listed start n) = Inside (source m places listed) start n
BodyInside m places (Latin1 listed start n) = Inside (source m places listed) start n
BodyInside m places (Digits n) = Unit {0}
BodyInside m places (Bits bits start n) = Inside m start n × (1 ≤ n)

pub record LayoutInside (m places : List ℕ) (l : Layout) : Type 0 where
  pub narrow_first : l.first.width ≤ 8
  pub narrow_second : l.second.width ≤ 8
  pub narrow_third : l.third.width ≤ 8
  pub inside : BodyInside m places l.body

-- bytes were stored from `at` on, and the answer is the offset past them
pub record Put (before : List ℕ) (at : ℕ) (bs : List ℕ) (next : ℕ) (after : List ℕ) : Type 0 where
  pub past : next ≡ at + length bs
  pub stored : after ≡ sets before at bs

-- a layout that says these bytes, and can be written
pub record Lays (m places bs : List ℕ) (l : Layout) : Type 0 where
  pub says : layout_bytes m places l ≡ bs
  pub can_be : LayoutInside m places l

-- a layout by its numbers and body
unfoldable pub laid_of : ℕ → ℕ → ℕ → ℕ → ℕ → ℕ → Body → Layout
laid_of v a w b x c body =
    record { first = record { width = v; value = a }; second = record { width = w; value = b }; third = record { width = x; value = c }; body = body }
