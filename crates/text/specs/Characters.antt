-- One character of a text, as the code goes over it.
-- About the code alone, proved against the definitions of term_spec: nothing here has to be believed.
use Rattle.std.specs.Prelude.{◌≡◌, Bool, ◌&&◌, List, [], ◌∷◌, ℕ, suc, ◌+◌, ◌≤◌, ◌<◌, ltb, length, get_or, drop, Option, Some, None, Result, Ok, Err, ⊤}
use Rattle.std.proofs.Math.Option as math
use Rattle.std.proofs.Math.Option.{none, some}
use Rattle.term_spec.specs.Text.{Range, ◌to◌, holds, Begun, begun, emit, decode}
use Rattle.text.specs.Shown.{shown}
use Rattle.text.specs.declared.Range as code
use Rattle.text.specs.declared.Rule.{Rule}
use Rattle.text.specs.declared.Rule.TheVariants.{One, Two, Three, Four}

-- the text from offset `at` on, where `room` more characters may begin
unfoldable pub text_from : List ℕ → ℕ → ℕ → Result ⊤ ℕ
text_from s room at = shown (decode room 0 at (begun 0 []) (drop at s))

-- what a text comes to after a character
unfoldable pub onward : List ℕ → ℕ → Result ℕ ℕ → Result ⊤ ℕ
onward s room (Ok k) = text_from s room k
onward s room (Err k) = Err k

-- where it ends
unfoldable pub Within : List ℕ → ℕ → Result ℕ ℕ → Type 0
Within s at (Ok k) = (at ≤ k) × (k ≤ length s)
Within s at (Err k) = Unit {0}

-- a range as the code has it
unfoldable pub range : code.Range → Range
range r = r.0 to r.1

-- the ranges of the bytes after a first byte, by the rule that it is in; none where it is in none
unfoldable pub after : Option Rule → Option (List Range)
after (Some One) = Some []
after (Some (Two a)) = Some (range a ∷ [])
after (Some (Three a b)) = Some (range a ∷ range b ∷ [])
after (Some (Four a b c)) = Some (range a ∷ range b ∷ range c ∷ [])
after None = None

-- the same, by the line of the table
unfoldable pub due : math.Option Begun → Option (List Range)
due none = None
due (some (begun v rs)) = Some rs

-- there is a byte at `at`, in the range
unfoldable pub byte_in : List ℕ → ℕ → Range → Bool
byte_in s at r = ltb at (length s) && holds r (get_or s at 0)

-- c is what becomes of the character that begins at `lead`, and whose bytes from `at` on are due in these ranges
pub record Completes (s : List ℕ) (lead at : ℕ) (rs : List Range) (c : Result ℕ ℕ) : Type 0 where
  pub text_is : (room v : ℕ) → shown (emit (begun v rs) (decode room lead at (begun v rs) (drop at s))) ≡ onward s room c
  pub inside : Within s at c

-- c is what becomes of the character that begins at `at`
pub record CharacterAt (s : List ℕ) (at : ℕ) (c : Result ℕ ℕ) : Type 0 where
  pub text_is : (room : ℕ) → text_from s (suc room) at ≡ onward s room c
  pub inside : Within s (at + 1) c

-- the n bytes from offset `at` on are ASCII characters
pub record Ascii (s : List ℕ) (at n : ℕ) : Type 0 where
  pub inside : at + n ≤ length s
  pub low : (i : ℕ) → i < n → get_or s (at + i) 0 < 0x80
