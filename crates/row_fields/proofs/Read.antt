-- What the steps of reading find at an offset of the message, if they find anything.
use mathlib.Core.Path.{◌≡◌, refl, sym, ◌∙◌, ap, subst}
use mathlib.Core.Bool.{Bool, true, false}
use mathlib.Core.List.{List, [], ◌∷◌}
use mathlib.Core.Option.{Option, some}
use Prim.Native.Nat.{ℕ, zero, suc, ◌+◌, ◌*◌, ◌≤◌, ◌<◌}
use native.Mathlib.Omega.{arith}
use lib.Dec.{eqb}
use lib.ListN.{length, get_or, take, drop}
use borrow.Author.Tests.{eqb-true}
use Rattle.term_spec.specs.Answer.{Position, at_offset, bytes, number}
use Rattle.term_spec.specs.Term.{Label}
use Rattle.term_spec.specs.Head.{Given, Wanted, Form, form_in, forms, fields, Head, term_head, id_words}
use Rattle.term_spec.specs.Reading.{Offset, tag_at, character_at}
use Rattle.term_spec.specs.Rows.{offset_of}
use Rattle.term_spec.proofs.Steps.{spot}
use Rattle.term_spec.proofs.Bridge.{byte_at, byte_end, bytes_at, bytes_end, number_at, number_end}
use Rattle.term_spec.proofs.Holds.{Holds, bind, next, done_holds, refused_holds}
use Rattle.term_spec.proofs.Backed.{Allowed, form_found, HeadAt, LabelAt}
use Rattle.term_spec.proofs.Tests.{by_less}
use Rattle.row_fields.specs.Found.{value}
use Rattle.row_fields.specs.Meaning.{words_at}

-- what holds of each row of the table holds of the row that is found
abbrev pub AllRows : (ℕ → Form → Type 0) → List (ℕ × Form) → Type 0
AllRows P [] = Unit {0}
AllRows P (x ∷ xs) = P x.0 x.1 × AllRows P xs

pub row_of : (P : ℕ → Form → Type 0) (fs : List (ℕ × Form)) (tag : ℕ) (f : Form) → AllRows P fs → form_in fs tag ≡ some f → P tag f
unfolding form_in
row_of P [] tag f a e = let z : ◌≡◌ {A = ℕ} 0 1 = cc in absurd (omega arith)
row_of P (x ∷ xs) tag f a e = go (eqb x.0 tag) refl e (λ k. row_of P xs tag f a.1 k)
  where
    go : (t : Bool) → eqb x.0 tag ≡ t → ◌≡◌ {A = Option Form} (elim t [ true ↦ some x.1 | false ↦ form_in xs tag ]) (some f) → (form_in xs tag ≡ some f → P tag f) → P tag f
    go true p q ih =
        let u : x.0 ≡ tag = eqb-true _ _ p in
        let v : x.1 ≡ f = cc in
        subst (λ (n : ℕ). P n f) u (subst (λ (g : Form). P x.0 g) v a.0)
    go false p q ih = ih q

module _ (m : List ℕ) where
  -- a position of the message is its offset
  pub position_is : (s : Position) → s.left ≡ drop s.at m → s ≡ at_offset m s.at s.rows_taken
  position_is s e = ap (λ (l : List ℕ). spot s.at l s.rows_taken) e

  module _ (p n at r : ℕ) (inside : at ≤ length m) where
    pub number_here : {Q : ℕ → Position → Type 0} → (at + n ≤ length m → Q (value m n at) (at_offset m (at + n) r)) → Holds (number p n (at_offset m at r)) Q
    number_here {Q} f =
        by_less (length m) (at + n)
        (λ short. rw (number_end m p n at r inside short) (refused_holds 2 p))
        (λ fits. rw (number_at m p n at r fits) (done_holds _ _ (f fits)))

    pub bytes_here : {Q : List ℕ → Position → Type 0} → (at + n ≤ length m → Q (take n (drop at m)) (at_offset m (at + n) r)) → Holds (bytes p n (at_offset m at r)) Q
    bytes_here {Q} f =
        by_less (length m) (at + n)
        (λ short. rw (bytes_end m p n at r inside short) (refused_holds 2 p))
        (λ fits. rw (bytes_at m p n at r fits) (done_holds _ _ (f fits)))

  pub words_here : (p k at r : ℕ) → at ≤ length m → {Q : List ℕ → Position → Type 0}
      → (at + 4 * k ≤ length m → Q (words_at m at k) (at_offset m (at + 4 * k) r)) → Holds (id_words p k (at_offset m at r)) Q
  unfolding id_words words_at
  words_here p zero at r h {Q} f =
      let e : at + 4 * 0 ≡ at = omega arith in
      done_holds _ _ (rw e at (f (omega arith)))
  words_here p (suc k) at r h {Q} f =
      let e : at + 4 * suc k ≡ at + 4 + 4 * k = omega arith in
      bind (number_here p 4 at r h λ b. bind (words_here p k (at + 4) r b λ c. done_holds _ _ (rw e at (f (omega arith)))))

  -- a head: its tag, the table's row of the tag, its fields
  module _ (given : Given) (w : Wanted) (p r : ℕ) (inside : p ≤ length m) where
    pub head_here : {Q : Head → Position → Type 0}
        → (p < length m → (f : Form) → form_in forms (get_or m p 0) ≡ some f → Allowed w (get_or m p 0) → Holds (fields given p f (at_offset m (p + 1) r)) Q)
        → Holds (term_head given w (at_offset m p r)) Q
    unfolding term_head
    head_here {Q} k =
        by_less p (length m)
        (λ less. rw (byte_at m p p r less)
        (next (λ f t. (t ≡ at_offset m (p + 1) r) × (form_in forms (get_or m p 0) ≡ some f) × Allowed w (get_or m p 0)) (form_found p w (get_or m p 0) (at_offset m (p + 1) r)) λ f t e.
        subst (λ (t : Position). Holds (fields given p f t) Q) (sym e.0) (k less f e.1 e.2)))
        (λ over. rw (byte_end m p p r over) (refused_holds 2 p))

-- a tag is a byte of the message
module _ (m : List ℕ) (cap : ℕ) (given : Given) where
  head_inside : (p : ℕ) (h : Head) → HeadAt m cap given p h → p < length m
  head_inside p h a =
      let s : Position = a.start in
      let r : ℕ = s.rows_taken in
      let i : s.at ≤ length m = a.in_step.inside in
      let k : s.at ≡ p = a.is_at in
      let inside : p ≤ length m = omega arith in
      let here : s ≡ at_offset m p r = position_is m s a.in_step.bytes_are ∙ ap (λ (n : ℕ). at_offset m n r) k in
      let told : Holds (term_head given a.wanted (at_offset m p r)) (λ _ _. p < length m) = head_here m given a.wanted p r inside (λ less f k _. record { known = λ _ _ _. less }) in
      told.known h a.stop (ap (term_head given a.wanted) (sym here) ∙ a.reads)

  pub label_inside : (place : Offset) (x : Label) → LabelAt m cap given place x → offset_of place < length m
  unfolding offset_of
  label_inside (tag_at p) x h = head_inside p h.0 h.1
  label_inside (character_at p) x h = h.0
