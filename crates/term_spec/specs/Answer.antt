-- Answers, and steps of reading that may refuse.
use Rattle.std.specs.Prelude.{Bool, true, false, List, [], ◌∷◌, ℕ, zero, suc, ◌+◌, drop}
use Rattle.term_spec.specs.Numbers.{big_endian}

-- the refusal's number, and its place
pub data Answer (A : Type 0) : Type 0 where
  good : A → Answer A
  refused : ℕ → ℕ → Answer A

-- where reading stands: the next byte's offset, the bytes from there on, the rows taken so far
pub record Position : Type 0 where
  pub at : ℕ
  pub left : List ℕ
  pub rows_taken : ℕ

-- the position at an offset of a slice
abbrev pub at_offset : List ℕ → ℕ → ℕ → Position
at_offset s at rows = record { at = at; left = drop at s; rows_taken = rows }

-- a step of reading: what it finds, and where it ends
abbrev pub Reading : Type 0 → Type 0
Reading A = Position → Answer (A × Position)

module _ {A B : Type 0} where
  -- after a refusal nothing more is read
  abbrev pub after : Answer (A × Position) → (A → Reading B) → Answer (B × Position)
  after (good r) f = f r.0 r.1
  after (refused n p) f = refused n p

  infixl 1 ◌>>=◌
  infixl 1 ◌>>◌
  abbrev pub ◌>>=◌ : Reading A → (A → Reading B) → Reading B
  ◌>>=◌ m f = λ s. after (m s) f

  abbrev pub ◌>>◌ : Reading A → Reading B → Reading B
  ◌>>◌ m k = λ s. after (m s) (λ _. k)

module _ {A : Type 0} where
  abbrev pub done : A → Reading A
  done a = λ s. good (a, s)

  abbrev pub refuse : ℕ → ℕ → Reading A
  refuse number place = λ s. refused number place

-- the next byte's offset
abbrev pub here : Reading ℕ
here s = good (s.at, s)

-- a rule: refused with this number at this place where it is broken
abbrev pub rule : Bool → ℕ → ℕ → Reading Unit
rule true number place = done tt
rule false number place = refuse number place

abbrev pub first_of : List ℕ → Position → ℕ → Answer (ℕ × Position)
first_of [] s place = refused 2 place
first_of (b ∷ bs) s place = good (b, record { at = s.at + 1; left = bs; rows_taken = s.rows_taken })

-- the next byte; refusal 2: bytes end inside, or before, what is being read
abbrev pub byte : ℕ → Reading ℕ
byte place s = first_of s.left s place

-- the next n bytes
unfoldable pub bytes : ℕ → ℕ → Reading (List ℕ)
bytes place zero = done []
bytes place (suc n) = do
  b ← byte place
  bs ← bytes place n
  done (b ∷ bs)

-- a number in the next n bytes
unfoldable pub number : ℕ → ℕ → Reading ℕ
number place n = do
  bs ← bytes place n
  done (big_endian bs)
