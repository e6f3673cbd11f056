-- A term's own bytes by its layouts, what has nothing after its parts, and lists.
use mathlib.Core.Path.{◌≡◌, refl, sym, ◌∙◌, ap, ap₂}
use mathlib.Core.Bool.{Bool, true, false, cond}
use mathlib.Core.List.{List, [], ◌∷◌}
use Prim.Native.Nat.{ℕ, suc, ◌+◌, ◌≤◌, ◌<◌}
use native.Mathlib.Omega.{arith}
use lib.Dec.{leb}
use lib.ListN.{length, get_or, set}
use Rattle.std.proofs.Common.{Option, Some, None, is_some, IfSome}
use Rattle.term_spec.specs.Numbers.{in_bytes}
use Rattle.term_spec.specs.Term.{list}
use Rattle.term_spec.proofs.Numbers.{length_in_bytes}
use Rattle.term_spec.specs.Rows.{kind_in, parts_in, offset_in}
use Rattle.row_fields.specs.Meaning.{bare, label_of}
use Rattle.row_fields.specs.declared.Content.{Content}
use Rattle.row_fields.specs.declared.Content.TheVariants.{Nothing}
use Rattle.layout.specs.declared.Layout.{Layout}
use Rattle.layout.specs.Layout.{layout_bytes, Lays, Put}
use Rattle.layout.proofs.Puts.{put_same, put_then, put_none}
use Rattle.canonical_fields.specs.Shape.{before, after}
use Rattle.canonical_fields.specs.Sound.{SoundContent, listed_in, content_in, before_in, after_in, SoundWord, label_in}
use lib.Seq.{sets}
use Rattle.row_fields.specs.Found.{kind_found, content_of}
use Rattle.canonical_fields.proofs.Leads.{list_106, list_108, list_over, list_closed, bare_over, says}
use Rattle.canonical_fields.proofs.Each.{byte_each, integer_each, float_each, atom_each, binary_each, content_each}

-- what is known of a value that is there
pub there_is : {P : ℕ → Type 0} (o : Option ℕ) → true ≡ is_some o → IfSome o P → (n : ℕ) × P n
there_is None e p = absurd (cc)
there_is (Some n) e p = (n, p)

-- ---- a row's word

module _ (m places lengths : List ℕ) (w : ℕ) (own : Content) (kind n : ℕ) (e : own ≡ content_in m places lengths w) (f : kind ≡ kind_in w) (g : n ≡ parts_in w) where
  pub word_sound : SoundWord m places lengths w → SoundContent m places own
  word_sound s = rw e s.sound

  pub word_parts : SoundWord m places lengths w → kind ≡ 6 → 0 < n
  word_parts s k = rw g (s.some_parts (sym f ∙ k))

  pub lead_is : {r : Layout} → Lays m places (before (label_of m (listed_in places) kind own) n) r → Lays m places (before_in m places lengths w) r
  lead_is h = says (cc) h

  pub trail_is : {r : Layout} → Lays m places (after (label_of m (listed_in places) kind own) n) r → Lays m places (after_in m places lengths w) r
  trail_is h = says (cc) h

-- a layout's length and room, and its writing, by its bytes
pub lay_length : {m places bs : List ℕ} {l : Layout} {k : ℕ} → Lays m places bs l → k ≡ length (layout_bytes m places l) → k ≡ length bs
lay_length h e = e ∙ ap length h.says

pub lay_room : {m places bs : List ℕ} {l : Layout} (at k : ℕ) → Lays m places bs l → at + length bs ≤ k → at + length (layout_bytes m places l) ≤ k
lay_room at k h r = rw h.says r

pub lay_put : {m places bs O P : List ℕ} {l : Layout} {at next : ℕ} → Lays m places bs l → Put O at (layout_bytes m places l) next P → Put O at bs next P
lay_put h p = put_same h.says p

-- ---- nothing after the parts

-- no list, pid, port or reference
abbrev Trailless : ℕ → Type 0
Trailless kind = (kind ≡ 5 → ⊥) × (kind ≡ 10 → ⊥) × (kind ≡ 11 → ⊥) × (kind ≡ 12 → ⊥)

module _ (m places lengths : List ℕ) (kind at parts : ℕ) (t : Trailless kind) where
  abbrev Trails : Content → Type 0
  Trails c = after (label_of m (listed_in places) kind c) parts ≡ []

  pub no_trail : Trails (content_of m places lengths kind at)
  unfolding label_of after
  no_trail =
      let nothing : after (label_of m (listed_in places) kind Nothing) parts ≡ [] = sym (bare_over kind parts t.0) in
      content_each Trails nothing m places lengths at kind
      (λ e. integer_each Trails nothing (λ z n. refl) (λ z s n. refl) m at (get_or m at 0))
      (λ e. float_each Trails nothing (λ b. refl) m at)
      (λ e. atom_each Trails nothing (λ x y s n. refl) m places lengths at (get_or m at 0))
      (λ tag. binary_each Trails nothing (λ s n. refl) (λ b s n. refl) m at tag)
      (λ e. absurd (t.1 e))
      (λ e. absurd (t.2 e))
      (λ e. absurd (t.3 e))
      (λ e. byte_each Trails nothing (λ z n. refl) (λ z s n. refl) m at)

pub nothing_put : (m places lengths : List ℕ) (w kind : ℕ) (O : List ℕ) (at : ℕ) → kind ≡ kind_in w → Trailless kind → Put O at (after_in m places lengths w) at O
nothing_put m places lengths w kind O at e t = put_same (sym (no_trail m places lengths (kind_in w) (offset_in w) _ (rw e at t))) (put_none O at)

-- ---- lists

module _ (m places lengths : List ℕ) (at : ℕ) where
  list_nothing : content_of m places lengths 5 at ≡ Nothing
  unfolding content_of kind_found
  list_nothing = go (leb (length m) at)
    where
      go : (z : Bool) → ◌≡◌ {A = Content} (cond z Nothing Nothing) Nothing
      go true = refl
      go false = refl

  list_label : label_of m (listed_in places) 5 (content_of m places lengths 5 at) ≡ list
  unfolding label_of bare
  list_label = ap (label_of m (listed_in places) 5) list_nothing

module _ (m places lengths : List ℕ) (w kind n : ℕ) (e : kind ≡ kind_in w) (f : kind ≡ 5) (g : n ≡ parts_in w) where
  list_in : label_in m places lengths w ≡ list
  list_in = ap (λ (k : ℕ). label_of m (listed_in places) k (content_of m places lengths k (offset_in w))) (sym e ∙ f) ∙ list_label m places lengths (offset_in w)

  pub list_before : before list n ≡ before_in m places lengths w
  list_before = ap₂ before (sym list_in) g

  pub list_after : after list n ≡ after_in m places lengths w
  list_after = ap₂ after (sym list_in) g

pub same_room : {bs cs : List ℕ} (at room : ℕ) → bs ≡ cs → at + length cs ≤ room → at + length bs ≤ room
same_room at room e h = rw e h

pub byte_put : (O : List ℕ) (at b : ℕ) → Put O at (b ∷ []) (at + 1) (set O at b)
byte_put O at b = record { past = refl; stored = refl }

module _ (n : ℕ) where
  pub list_length_0 : n ≡ 0 → 1 ≡ length (before list n) + length (after list n)
  list_length_0 z = ap₂ (λ (x y : List ℕ). length x + length y) (list_106 n z) (list_over n z)

  pub list_length_more : (n ≡ 0 → ⊥) → 6 ≡ length (before list n) + length (after list n)
  list_length_more h =
      let a : length (before list n) ≡ 5 = sym (ap length (list_108 n h)) ∙ ap suc (length_in_bytes 4 n) in
      let b : length (after list n) ≡ 1 = sym (ap length (list_closed n h)) in
      omega arith

  pub list_put : {O Q : List ℕ} {at : ℕ} → (n ≡ 0 → ⊥) → Q ≡ sets (set O at 108) (at + 1) (in_bytes 4 n) → Put O at (before list n) (at + 5) Q
  list_put {O} {Q} {at} h q =
      let l : length (in_bytes 4 n) ≡ 4 = length_in_bytes 4 n in
      put_same (list_108 n h) (put_then (byte_put O at 108) (record { past = omega arith; stored = q }))

  pub list_room : (at room : ℕ) → (n ≡ 0 → ⊥) → at + length (before list n) ≤ room → at + 5 ≤ room
  list_room at room h k = let a : length (before list n) ≡ 5 = sym (ap length (list_108 n h)) ∙ ap suc (length_in_bytes 4 n) in omega arith

  pub list_end_room : (at room : ℕ) → (n ≡ 0 → ⊥) → at + length (after list n) ≤ room → at + 1 ≤ room
  list_end_room at room h k = let b : length (after list n) ≡ 1 = sym (ap length (list_closed n h)) in omega arith

  pub empty_room : (at room : ℕ) → n ≡ 0 → at + length (before list n) ≤ room → at + 1 ≤ room
  empty_room at room z k = let b : length (before list n) ≡ 1 = sym (ap length (list_106 n z)) in omega arith
