-- Terms that are characters.
use mathlib.Core.Path.{◌≡◌, refl, sym, ◌∙◌, ap}
use mathlib.Core.Bool.{Bool, true, false, cond}
use mathlib.Core.List.{List}
use Prim.Native.Nat.{ℕ, ◌+◌, ◌≤◌, ◌<◌}
use native.Mathlib.Omega.{arith}
use lib.Dec.{eqb}
use lib.ListN.{length, get_or}
use borrow.Author.Tests.{lt-ltb, le-ltb}
use Rattle.std.proofs.Math.Option.{Option, none, some}
use Rattle.std.specs.Result.{OkIff, result_ok}
use Rattle.std.specs.Prelude as code
use Rattle.std.specs.Prelude.{Result, Ok, Err}
use Rattle.characters.specs.Code.{CharacterOf}
use Rattle.term_spec.specs.Numbers.{little_endian, with_sign}
use Rattle.term_spec.specs.Term.{integer, tuple, list, improper_list, map, export}
use Rattle.term_spec.specs.Canonical.{small}
use Rattle.term_spec.specs.Rows.{kind_in, offset_in}
use Rattle.octets.specs.Parts.{stretch}
use Rattle.row_fields.specs.Meaning.{sign, bare, label_of}
use Rattle.row_fields.specs.declared.Content.{Content}
use Rattle.row_fields.specs.declared.Content.TheVariants as fields
use Rattle.row_fields.specs.declared.Content.TheVariants.{Whole, Big, Nothing, Float, Text, Bytes, Reference}
use Rattle.canonical_fields.specs.Sound.{High, BytesOnly, SoundContent, listed_in, label_in}
use Rattle.row_fields.specs.Found.{content_of}
use Rattle.row_fields.proofs.ByKind.{kind_14}
use Rattle.canonical_fields.proofs.Leads.{signed_above, signed_below, sound_big, big_large}
use Rattle.canonical_fields.proofs.There.{byte_there, there, integer_there, tag_97}
use Rattle.canonical_fields.proofs.Each.{float_each, atom_each, binary_each, pids_each, ports_each, references_each, content_each}

pub not_small : (negative : Bool) (n : ℕ) → negative ≡ true → 0 < n → small (integer (with_sign (sign negative) n)) ≡ none
unfolding small
not_small negative n e h = rw (← signed_below negative n e h)

large : (negative : Bool) (n : ℕ) → negative ≡ false → 255 < n → small (integer (with_sign (sign negative) n)) ≡ none
unfolding small
large negative n e h = rw (← signed_above negative n e) (simp (le-ltb n 256 h))

is_small : (negative : Bool) (n : ℕ) → negative ≡ false → n < 256 → small (integer (with_sign (sign negative) n)) ≡ some n
unfolding small
is_small negative n e h = rw (← signed_above negative n e) (simp (lt-ltb n 256 h))

-- a magnitude that was tried as a byte
pub tried : (negative : Bool) (n : ℕ) → negative ≡ false → {E : Type 0} (r : Result ℕ E) → OkIff r (n < 256) n → CharacterOf (integer (with_sign (sign negative) n)) (result_ok r)
tried negative n e (Ok x) h = is_small negative n e h.0 ∙ ap some (sym h.1)
tried negative n e (Err f) h = large negative n e (omega arith)

pub bare_none : (kind : ℕ) → small (bare kind) ≡ none
unfolding bare small
bare_none kind = go (eqb kind 4) (eqb kind 5) (eqb kind 6) (eqb kind 9)
  where
    go : (x y z w : Bool) → small (cond x tuple (cond y list (cond z improper_list (cond w map export)))) ≡ none
    go true y z w = refl
    go false true z w = refl
    go false false true w = refl
    go false false false true = refl
    go false false false false = refl

big_none : (s : Bool) (v : ℕ) → 4294967296 ≤ v → small (integer (with_sign (sign s) v)) ≡ none
big_none true v l = not_small true v refl (omega arith)
big_none false v l = large false v refl (omega arith)

module _ (m places : List ℕ) (kind : ℕ) (content : Content) where
  pub small_by : (c : Content) {o : Option ℕ} → content ≡ c → small (label_of m (listed_in places) kind c) ≡ o → small (label_of m (listed_in places) kind content) ≡ o
  small_by c e h = ap (λ (d : Content). small (label_of m (listed_in places) kind d)) e ∙ h

  pub character_whole : (negative : Bool) (n : ℕ) (o : code.Option ℕ) → content ≡ Whole negative n → CharacterOf (integer (with_sign (sign negative) n)) o → CharacterOf (label_of m (listed_in places) kind content) o
  unfolding label_of
  character_whole negative n o e h = rw e h

  pub small_big : (negative : Bool) (start n : ℕ) → content ≡ Big negative start n → SoundContent m places content → BytesOnly m
      → small (label_of m (listed_in places) kind content) ≡ none
  unfolding label_of
  small_big negative start n e s b =
      let h : High m start n = sound_big m places content negative start n e s in
      small_by (Big negative start n) e (big_none negative (little_endian (stretch m start n)) (big_large m start n h b))

-- what is no integer of at most 8 digits is no character
module _ (m places : List ℕ) (kind : ℕ) where
  pub other_content : (c : Content) → ((negative : Bool) (n : ℕ) → c ≡ Whole negative n → ⊥) → SoundContent m places c → BytesOnly m
      → small (label_of m (listed_in places) kind c) ≡ none
  unfolding label_of small
  other_content Nothing o s b = bare_none kind
  other_content (Whole negative n) o s b = absurd (o negative n refl)
  other_content (Big negative start n) o s b = small_big m places kind (Big negative start n) negative start n refl s b
  other_content (Float bits) o s b = refl
  other_content (Text latin1 listed start n) o s b = refl
  other_content (Bytes start n) o s b = refl
  other_content (fields.Bits bits start n) o s b = refl
  other_content (fields.Pid id serial creation) o s b = refl
  other_content (fields.Port id creation) o s b = refl
  other_content (Reference creation start n) o s b = refl

module _ (m places lengths : List ℕ) (kind at : ℕ) (h : at < length m) where
  small_there : (n : ℕ) → content_of m places lengths kind at ≡ Whole false n → n < 256
      → small (label_of m (listed_in places) kind (content_of m places lengths kind at)) ≡ some n
  unfolding label_of
  small_there n e l = small_by m places kind (content_of m places lengths kind at) (Whole false n) e (is_small false n refl l)

  pub character_14 : (r : ℕ) → kind ≡ 14 → r ≡ get_or m at 0 → r < 256
      → small (label_of m (listed_in places) kind (content_of m places lengths kind at)) ≡ some r
  character_14 r k e l = small_there r (there m places lengths kind at h ∙ sym (kind_14 m places lengths at kind k) ∙ byte_there m at h ∙ ap (Whole false) (sym e)) l

  pub character_97 : (r : ℕ) → kind ≡ 1 → get_or m at 0 ≡ 97 → at + 1 < length m → r ≡ get_or m (at + 1) 0 → r < 256
      → small (label_of m (listed_in places) kind (content_of m places lengths kind at)) ≡ some r
  character_97 r k t i e l = small_there r (integer_there m places lengths kind at h 97 k t ∙ tag_97 m places lengths kind at h ∙ byte_there m (at + 1) i ∙ ap (Whole false) (sym e)) l

-- by the word
pub character_by : (m places lengths : List ℕ) (w kind at : ℕ) {o : Option ℕ} → kind ≡ kind_in w → at ≡ offset_in w
    → small (label_of m (listed_in places) kind (content_of m places lengths kind at)) ≡ o
    → small (label_in m places lengths w) ≡ o
character_by m places lengths w kind at e f h = rw (← e, ← f) h

-- no integer is no character
module _ (m places lengths : List ℕ) (kind at : ℕ) (n1 : kind ≡ 1 → ⊥) (n14 : kind ≡ 14 → ⊥) where
  abbrev Other : Content → Type 0
  Other c = small (label_of m (listed_in places) kind c) ≡ none

  pub no_character : Other (content_of m places lengths kind at)
  unfolding label_of small
  no_character =
      let nothing : Other Nothing = bare_none kind in
      content_each Other nothing m places lengths at kind
      (λ e. absurd (n1 e))
      (λ e. float_each Other nothing (λ b. refl) m at)
      (λ e. atom_each Other nothing (λ x y s n. refl) m places lengths at (get_or m at 0))
      (λ tag. binary_each Other nothing (λ s n. refl) (λ b s n. refl) m at tag)
      (λ e. pids_each Other nothing (λ i s c. refl) m at (get_or m at 0))
      (λ e. ports_each Other nothing (λ i c. refl) m at (get_or m at 0))
      (λ e. references_each Other nothing (λ c s n. refl) m at (get_or m at 0))
      (λ e. absurd (n14 e))
