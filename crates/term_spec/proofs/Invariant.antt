-- What every byte read and every row taken keeps, each step of reading keeps, where it ends: the walk with nothing asked of refusals.
use mathlib.Core.Path.{◌≡◌, sym, ◌∙◌}
use mathlib.Core.List.{List, [], ◌∷◌}
use Prim.Native.Nat.{ℕ, zero, suc, ◌+◌, ◌≤◌, ◌<◌}
use native.Mathlib.Numerals.{add-one}
use native.Mathlib.Omega.{arith}
use lib.ListN.{length, drop}
use Rattle.term_spec.specs.Answer.{Answer, Position, number}
use Rattle.term_spec.specs.Head.{Given, Wanted, Form, form, fields, Later, later, term_head}
use Rattle.term_spec.specs.Reading.{row, run, term}
use Rattle.term_spec.specs.Message.{Framing, terms_framed}
use Rattle.term_spec.proofs.Steps.{spot}
use Rattle.term_spec.proofs.Holds.{Holds}
use Rattle.term_spec.proofs.Walk as walk

abbrev Nothing : ℕ → Type 0
Nothing p = Unit {0}

module _ (cap : ℕ) (I : Position → Type 0)
    (on_byte : (s : Position) (b : ℕ) (bs : List ℕ) → s.left ≡ b ∷ bs → I s → I (record { at = s.at + 1; left = bs; rows_taken = s.rows_taken }))
    (on_row : (s : Position) → s.rows_taken < cap → I s → I (record { at = s.at; left = s.left; rows_taken = s.rows_taken + 1 })) where
  -- the invariant after a step
  abbrev Kept : {A : Type 0} → Answer (A × Position) → Type 0
  Kept {A} o = Holds {A = A} o (λ _ t. I t)

  pub number_kept : (p n : ℕ) (s : Position) → I s → Kept (number p n s)
  number_kept p n s i = (walk.number_kept cap I Nothing on_byte on_row p n s i).ends

  pub later_kept : (flags p : ℕ) (l : Later) (s : Position) → I s → Kept (later flags p l s)
  later_kept flags p l s i = (walk.later_kept cap I Nothing on_byte on_row flags p l s i).ends

  module _ (given : Given) where
    pub fields_kept : (p : ℕ) (f : Form) (s : Position) → I s → Kept (fields given p f s)
    fields_kept p f s i = (walk.fields_kept cap I Nothing on_byte on_row given p f s (λ _ _ _ _ _. tt) i).ends

    pub form_kept : (p : ℕ) (w : Wanted) (tag : ℕ) (s : Position) → I s → Kept (form p w tag s)
    form_kept p w tag s i = (walk.form_kept cap I Nothing on_byte on_row given p w tag s i).ends

    head_kept : (w : Wanted) (s : Position) → I s → Kept (term_head given w s)
    head_kept w s i = (walk.head_kept cap I Nothing on_byte on_row given (λ _ _ _ _. tt) w s i).ends

    row_kept : (p : ℕ) (s : Position) → I s → Kept (row given cap p s)
    row_kept p s i = (walk.row_kept cap I Nothing on_byte on_row given (λ _ _ _ _. tt) p s i).ends

    -- terms one after the other
    pub run_kept : (d n : ℕ) (s : Position) → I s → Kept (run (term given cap d) n s)
    run_kept d n s i =
        (walk.run_kept cap I Nothing on_byte on_row given (λ _ _ _ _. tt) (term given cap d)
        (walk.term_kept cap I Nothing on_byte on_row given (λ _ _ _ _. tt) d) n s i).ends

    pub framed_kept : (message : List ℕ) → I (spot 0 message 0) → (framing : Framing) → Kept (terms_framed given cap framing (spot 0 message 0))
    framed_kept message i framing = (walk.framed_kept cap I Nothing on_byte on_row given (λ _ _ _ _. tt) message i framing).ends

-- Positions in a message: the bytes left are those from the offset on, and the rows taken are no more than there are.
pub record InStep (message : List ℕ) (cap : ℕ) (s : Position) : Type 0 where
  pub bytes_are : s.left ≡ drop s.at message
  pub inside : s.at ≤ length message
  pub room : s.rows_taken ≤ cap

module _ (message : List ℕ) (cap : ℕ) where
  drop_next : (m : List ℕ) (n b : ℕ) (bs : List ℕ) → drop n m ≡ b ∷ bs → (bs ≡ drop (suc n) m) × (suc n ≤ length m)
  drop_next [] zero b bs e = let no_way : ◌≡◌ {A = ℕ} 0 1 = cc in absurd (omega arith)
  drop_next [] (suc n) b bs e = let no_way : ◌≡◌ {A = ℕ} 0 1 = cc in absurd (omega arith)
  drop_next (x ∷ m) zero b bs e = (cc, omega arith)
  drop_next (x ∷ m) (suc n) b bs e = let r = drop_next m n b bs e in (r.0, omega (arith, r.1))

  pub on_byte : (s : Position) (b : ℕ) (bs : List ℕ) → s.left ≡ b ∷ bs → InStep message cap s → InStep message cap (record { at = s.at + 1; left = bs; rows_taken = s.rows_taken })
  on_byte s b bs e i =
      let r = drop_next message s.at b bs (sym i.bytes_are ∙ e) in
      record { bytes_are = rw (add-one s.at) r.0; inside = omega (arith, r.1); room = i.room }

  pub on_row : (s : Position) → s.rows_taken < cap → InStep message cap s → InStep message cap (record { at = s.at; left = s.left; rows_taken = s.rows_taken + 1 })
  on_row s h i = record { bytes_are = i.bytes_are; inside = i.inside; room = omega arith }

  -- each step ends at a position of the same message
  abbrev InStepAfter : {A : Type 0} → Answer (A × Position) → Type 0
  InStepAfter {A} o = Holds {A = A} o (λ _ t. InStep message cap t)

  pub later_in_step : (flags p : ℕ) (l : Later) (s : Position) → InStep message cap s → InStepAfter (later flags p l s)
  later_in_step = later_kept cap (InStep message cap) on_byte on_row

  module _ (given : Given) where
    pub head_in_step : (w : Wanted) (s : Position) → InStep message cap s → InStepAfter (term_head given w s)
    head_in_step = head_kept cap (InStep message cap) on_byte on_row given

    pub row_in_step : (p : ℕ) (s : Position) → InStep message cap s → InStepAfter (row given cap p s)
    row_in_step = row_kept cap (InStep message cap) on_byte on_row given
