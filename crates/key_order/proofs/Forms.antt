-- Terms without parts whose bytes stand in the message as they are written: their canonical forms.
use mathlib.Core.Path.{◌≡◌, refl, sym, ap, ap₂, ◌∙◌}
use mathlib.Core.List.{List, ◌++◌, append-nil}
use Prim.Native.Nat.{ℕ, ◌<◌}
use native.Mathlib.Omega.{arith}
use lib.ListN.{length, get_or}
use Rattle.term_spec.specs.Tree.{Forest, node, empty, ◌▹◌}
use Rattle.term_spec.specs.Term.{Label}
use Rattle.term_spec.specs.Pairs.{in_order, arranged_parts, arranged}
use Rattle.term_spec.specs.Canonical.{bytes_of, all_bytes, key_before, canonical}
use Rattle.term_spec.specs.Valid.{Fits}
use Rattle.term_spec.specs.Reading.{Located}
use Rattle.term_spec.specs.Rows.{kind_in, offset_in, parts_in}
use Rattle.term_spec.proofs.Pairs.{Kind, a_map, no_map, kind}
use Rattle.canonical_fields.specs.Shape.{before, after, some_small}
use Rattle.canonical_fields.specs.Sound.{SoundWord, label_in}
use Rattle.canonical_fields.proofs.Shape.{canonical_parts}
use Rattle.already_canonical.specs.Stands.{Stands}
use Rattle.term_writer.specs.InTable.{TermInTable}
use Rattle.term_writer.proofs.InTable.{held_writable, held_below, held_count, held_label, held_sound}
use Rattle.key_order.specs.Code.{FormStands}

nothing_arranged : (l : Label) → arranged_parts key_before l empty ≡ empty
unfolding arranged_parts in_order
nothing_arranged l = go (kind l)
  where
    go : {l : Label} → Kind l → arranged_parts key_before l empty ≡ empty
    go a_map = refl
    go (no_map stays) = stays key_before empty

leaf_canonical : (flags : ℕ) (l : Label) → Fits flags l empty → canonical (node l empty) ≡ before l 0 ++ after l 0
unfolding canonical arranged some_small all_bytes
leaf_canonical flags l f = ap (λ (ts : Forest Label). bytes_of (node l ts)) (nothing_arranged l) ∙ canonical_parts flags l empty f (λ e. refl)

module _ {m places lengths T : List ℕ} {row : ℕ} where
  pub term_below : (t : Located) → TermInTable m places lengths T row t → row < length T
  term_below (node l ts) h = held_below h

  pub term_sound : (t : Located) → TermInTable m places lengths T row t → SoundWord m places lengths (get_or T row 0)
  term_sound (node l ts) h = held_sound h

  pub form_stands : {n : ℕ} (p : ℕ) (t : Located) → TermInTable m places lengths T row t → p ≡ parts_in (get_or T row 0) → p ≡ 0
      → Stands m places lengths (kind_in (get_or T row 0)) (offset_in (get_or T row 0)) (parts_in (get_or T row 0)) n → FormStands m T row n t
  form_stands p (node l (t ▹ ts)) h e z s = let c = held_count h in absurd (omega arith)
  form_stands p (node l empty) h e z s =
      let w : ℕ = get_or T row 0 in
      let none : 0 ≡ parts_in w = sym z ∙ e in
      let label : l.0 ≡ label_in m places lengths w = sym (held_label h) in
      record {
        form_there = s.there;
        form_is = leaf_canonical h.flags l.0 (held_writable h).fits
            ∙ ap₂ (λ (x : Label) (k : ℕ). before x k ++ after x k) label none
            ∙ ap₂ (λ (x y : List ℕ). x ++ y) s.whole s.no_end
            ∙ append-nil _;
      }
