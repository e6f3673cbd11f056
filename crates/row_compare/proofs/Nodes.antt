-- What is found again of two nodes of one kind is compared: the same exactly where their labels are equal.
use mathlib.Core.Path.{◌≡◌, refl, sym, ◌∙◌, ap}
use mathlib.Core.Bool.{Bool, true, false, cond}
use mathlib.Core.List.{List}
use Prim.Native.Nat.{ℕ}
use lib.Dec.{eqb}
use borrow.Author.Tests.{eqb-true}
use Rattle.term_spec.specs.Term.{Label}
use Rattle.term_spec.specs.Reading.{Offset}
use Rattle.term_spec.specs.AtomList.{AtomList, given_of}
use Rattle.term_spec.specs.Rows.{kind_at, offset_of}
use Rattle.term_spec.proofs.Backed.{LabelAt}
use Rattle.row_fields.specs.Found.{content_of}
use Rattle.row_fields.specs.Meaning.{bare, term_kind}
use Rattle.row_fields.proofs.Says.{Lent}
use Rattle.row_fields.proofs.Again.{content_says}
use Rattle.row_compare.specs.Same.{same_contents}
use Rattle.row_compare.proofs.Alike.{Agree, through, alike_contents}

fourteen : bare 14 ≡ bare 1
unfolding bare
fourteen = refl

-- characters have no bare label of their own
term_bare : (kind : ℕ) → bare kind ≡ bare (term_kind kind)
unfolding term_kind
term_bare kind = go (eqb kind 14) refl
  where
    go : (t : Bool) → eqb kind 14 ≡ t → bare kind ≡ bare (cond t 1 kind)
    go true e = ap bare (eqb-true kind 14 e) ∙ fourteen
    go false e = refl

module _ (flags : ℕ) (atoms : AtomList) (m : List ℕ) (l : Lent atoms m) (cap : ℕ) where
  -- what is found again of two nodes of one kind is the same exactly where their labels are equal
  pub contents_agree : (x y : Label) (p q : Offset) → LabelAt m cap (given_of flags atoms) p x → LabelAt m cap (given_of flags atoms) q y → term_kind (kind_at x p) ≡ term_kind (kind_at y q)
      → Agree (same_contents m atoms.places (content_of m atoms.places atoms.lengths (kind_at x p) (offset_of p)) (content_of m atoms.places atoms.lengths (kind_at y q) (offset_of q))) (x ≡ y)
  contents_agree x y p q a b e =
      let s = content_says flags atoms m l cap x p a in
      let t = content_says flags atoms m l cap y q b in
      let k : bare (kind_at x p) ≡ bare (kind_at y q) = term_bare (kind_at x p) ∙ ap bare e ∙ sym (term_bare (kind_at y q)) in
      through (λ f. sym s.means ∙ f ∙ t.means) (λ f. s.means ∙ f ∙ sym t.means)
      (alike_contents atoms m l.under (kind_at x p) (kind_at y q) k _ _ s.sound t.sound)
