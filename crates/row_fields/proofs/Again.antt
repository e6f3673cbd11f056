-- A row's own fields, found again in the message, are those that were read there.
use mathlib.Core.Path.{◌≡◌, refl, sym, ◌∙◌, ap}
use mathlib.Core.Bool.{false}
use mathlib.Core.List.{List}
use Prim.Native.Nat.{ℕ, ◌^◌, ◌≤◌, ◌<◌}
use native.Mathlib.Omega.{arith}
use lib.IntN.{pos}
use lib.ListN.{length, get_or}
use Rattle.term_spec.specs.Numbers.{with_sign}
use Rattle.term_spec.specs.Term.{Label, integer}
use Rattle.term_spec.specs.Answer.{Position, at_offset}
use Rattle.term_spec.specs.Head.{term_head}
use Rattle.term_spec.specs.Reading.{Offset, tag_at, character_at}
use Rattle.term_spec.specs.AtomList.{AtomList, given_of}
use Rattle.term_spec.specs.Rows.{kind_of, kind_at, offset_of}
use Rattle.term_spec.proofs.Holds.{Holds}
use Rattle.term_spec.proofs.Invariant.{InStep}
use Rattle.term_spec.proofs.Backed.{Agrees, LabelAt}
use Rattle.octets.proofs.Numbers.{big_one}
use Rattle.row_fields.specs.declared.Content.TheVariants.{Whole}
use Rattle.row_fields.specs.Found.{value, content_of}
use Rattle.row_fields.specs.Meaning.{label_of}
use Rattle.row_fields.proofs.Tests.{above}
use Rattle.row_fields.proofs.ByKind.{kind_14}
use Rattle.row_fields.proofs.Values.{value_small}
use Rattle.row_fields.proofs.Read.{position_is, head_here}
use Rattle.row_fields.proofs.There.{byte_there}
use Rattle.row_fields.proofs.Says.{Lent, Says, says_by}
use Rattle.row_fields.proofs.Layouts.{form_told}

module _ (flags : ℕ) (atoms : AtomList) (m : List ℕ) (l : Lent atoms m) (cap : ℕ) where
  character_says : (p : ℕ) → p < length m → Says atoms m 14 p (integer (pos (get_or m p 0)))
  unfolding content_of label_of with_sign
  character_says p h =
      let v : value m 1 p < 256 ^ 1 = value_small m 1 p l.under (omega arith) in
      says_by atoms m 14 p _ (Whole false (value m 1 p))
      (above _ refl refl h (byte_there m p (omega arith) ∙ kind_14 m atoms.places atoms.lengths p 14 refl))
      (ap (λ (n : ℕ). integer (pos n)) (big_one m p h))
      (omega arith, λ _. refl)

  -- what is found again of a node that the message backs, by its row's kind and offset, says its label
  pub content_says : (x : Label) (place : Offset) → LabelAt m cap (given_of flags atoms) place x → Says atoms m (kind_at x place) (offset_of place) x
  unfolding kind_at offset_of
  content_says x (tag_at p) (h, a, b, i, e, agrees) =
      let s : Position = a.start in
      let r : ℕ = s.rows_taken in
      let inside : p ≤ length m = omega (arith, a.in_step.inside, a.is_at) in
      let here : s ≡ at_offset m p r = position_is m s a.in_step.bytes_are ∙ ap (λ (n : ℕ). at_offset m n r) a.is_at in
      let told : Holds (term_head (given_of flags atoms) a.wanted (at_offset m p r))
      (λ h t. (b : Position) → InStep m cap b → b.at ≡ t.at → (x : Label) → Agrees m cap (given_of flags atoms) p h b x → Says atoms m (kind_of x) p x)
      = head_here m (given_of flags atoms) a.wanted p r inside (λ less f k _. form_told flags atoms m l cap p less r f k) in
      told.known h a.stop (ap (term_head (given_of flags atoms) a.wanted) (sym here) ∙ a.reads) b i e x agrees
  content_says x (character_at p) (h, e) = rw e (character_says p h)
