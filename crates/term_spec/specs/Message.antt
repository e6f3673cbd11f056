-- Messages: standalone terms and payloads, and what reading them answers.
use Rattle.std.specs.Prelude.{Bool, true, false, List, [], ◌∷◌, ℕ, min, eqb, leb, length}
use Rattle.term_spec.specs.Tree.{Forest, empty, ◌▹◌, relabels}
use Rattle.term_spec.specs.Term.{Label}
use Rattle.term_spec.specs.Meaning.{all_ordered}
use Rattle.term_spec.specs.Connection.{flags_known}
use Rattle.term_spec.specs.Answer.{Answer, good, refused, Position, Reading, ◌>>=◌, ◌>>◌, done, refuse, here}
use Rattle.term_spec.specs.Head.{Given, any}
use Rattle.term_spec.specs.AtomList.{AtomList, of_size, given_of}
use Rattle.term_spec.specs.Reading.{Offset, Located, bytes_left, term}

-- how the terms of a message are set: a standalone term, or a payload
pub data Framing : Type 0 where
  standalone payload : Framing

-- terms as they were read, one after the other
abbrev pub Terms : Type 0
Terms = Forest (Label × Offset)

-- the terms alone
abbrev pub all_as_read : Terms → Forest Label
all_as_read = relabels (λ l. l.0)

-- what they mean
abbrev pub meanings : Terms → Forest Label
meanings ts = all_ordered (all_as_read ts)

-- Refusal 1: empty, or first byte not 131
unfoldable pub version : Reading Unit
version s =
    elim s.left [
      | [] ↦ refused 1 0
      | b ∷ bs ↦ elim (eqb b 131) [ true ↦ good (tt, record { at = 1; left = bs; rows_taken = s.rows_taken }) | false ↦ refused 1 0 ]
    ]

-- Refusal 10: bytes left over, at the first of them
unfoldable pub ending : List ℕ → Reading Unit
ending [] = done tt
ending (b ∷ bs) = do
  p ← here
  refuse 10 p

module _ (given : Given) (capacity : ℕ) where
  -- Sizes: depth at most 64
  abbrev pub outermost : Reading Located
  outermost = term given capacity 64 any

  -- a standalone term is 131, one term, end
  unfoldable pub standalone_term : Reading Terms
  standalone_term = do
    version
    t ← outermost
    left ← bytes_left
    ending left
    done (t ▹ empty)

  -- a payload is one or two terms without 131, then end; row numbers run on
  unfoldable pub payload_terms : Reading Terms
  payload_terms = do
    t ← outermost
    left ← bytes_left
    elim left [
      | [] ↦ done (t ▹ empty)
      | b ∷ bs ↦ do
        u ← outermost
        more ← bytes_left
        ending more
        done (t ▹ u ▹ empty)
    ]

  abbrev pub terms_framed : Framing → Reading Terms
  terms_framed standalone = standalone_term
  terms_framed payload = payload_terms

-- what is found, without where reading ends
abbrev pub result_of : {A : Type 0} → Answer (A × Position) → Answer A
result_of (good r) = good r.0
result_of (refused n p) = refused n p

-- a check before any byte is read
abbrev pub first_check : {A : Type 0} → Bool → ℕ → Answer A → Answer A
first_check true number answer = answer
first_check false number answer = refused number 0

-- Sizes: rows at most 8,192 and at most what the lent table holds
abbrev pub capacity_of : ℕ → ℕ
capacity_of lent = min 8192 lent

-- What reading a message answers, with the connection's flags, this atom list and so many rows lent. Order: 13, 14 for an unknown flag, then 12 on the
-- term bytes, then byte order
unfoldable pub read : ℕ → Framing → AtomList → ℕ → List ℕ → Answer Terms
read flags framing list lent message =
    first_check (of_size list) 13
    (first_check (flags_known flags) 14
    (first_check (leb (length message) 65536) 12
    (result_of (terms_framed (given_of flags list) (capacity_of lent) framing (record { at = 0; left = message; rows_taken = 0 })))))
