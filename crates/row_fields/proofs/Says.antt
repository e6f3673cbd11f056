-- What is found again of a node that the message backs says the node's label.
use mathlib.Core.Path.{◌≡◌, refl, sym, ◌∙◌, ap, subst}
use mathlib.Core.Bool.{Bool, true, false, cond}
use mathlib.Core.List.{List}
use Prim.Native.Nat.{ℕ, zero, suc, ◌+◌, ◌*◌, ◌-◌, ◌^◌, ◌≤◌, ◌<◌}
use native.Mathlib.Nat.{pow-le-pow_right}
use native.Mathlib.Omega.{arith}
use lib.Dec.{eqb, ltb}
use lib.IntN.{pos, negsuc}
use lib.ListN.{length, get_or}
use borrow.Author.Tests.{ltb-true, ltb-false, eqb-true, eqb-false}
use Rattle.term_spec.specs.Numbers.{little_endian, signed32, with_sign, Under}
use Rattle.term_spec.specs.Text.{Checked, valid, latin_1, utf_8, check}
use Rattle.term_spec.specs.Term.{Label, integer, atom}
use Rattle.term_spec.specs.AtomList.{AtomList, of_size}
use Rattle.term_spec.proofs.Text.{latin1_is}
use Rattle.term_spec.proofs.Holds.{little_under}
use Rattle.octets.proofs.Parts.{length_part}
use Rattle.row_fields.specs.declared.Content.{Content}
use Rattle.row_fields.specs.declared.Content.TheVariants.{Nothing, Whole, Big, Float, Text, Bytes, Bits, Pid, Port, Reference}
use Rattle.row_fields.specs.Found.{stripped, signed_whole, integer_of, stripped_found, content_of}
use Rattle.row_fields.specs.Meaning.{stretch, sign, characters_of, coded, label_of}
use Rattle.octets.specs.Parts.{source}
use Rattle.row_fields.proofs.Values.{under_part, stripped_value, stripped_few, stripped_top}

-- A text that was read: Latin-1 of at most 255 bytes, or valid UTF-8
abbrev pub Readable : Bool → List ℕ → Type 0
Readable true bs = Under 256 bs × (length bs ≤ 255)
Readable false bs = (cs : List ℕ) × (check utf_8 bs ≡ valid cs)

-- What holds of a content that is found of a node: its stretches are there, and a number has one content only
abbrev pub Sound : List ℕ → List ℕ → Content → Type 0
Sound m places Nothing = Unit {0}
Sound m places (Whole negative n) = (n < 18446744073709551616) × (n ≡ 0 → negative ≡ false)
Sound m places (Big negative start n) = (8 < n) × (start + n ≤ length m) × (get_or m (start + (n - 1)) 0 ≡ 0 → ⊥)
Sound m places (Float bits) = Unit {0}
Sound m places (Text latin1 listed start n) = (start + n ≤ length (source m places listed)) × Readable latin1 (stretch (source m places listed) start n)
Sound m places (Bytes start n) = start + n ≤ length m
Sound m places (Bits bits start n) = start + n ≤ length m
Sound m places (Pid i s c) = Unit {0}
Sound m places (Port i c) = Unit {0}
Sound m places (Reference c start n) = start + 4 * n ≤ length m

-- a message of bytes, and an atom list of its stated size
pub record Lent (atoms : AtomList) (m : List ℕ) : Type 0 where
  pub sized : of_size atoms ≡ true
  pub few : atoms.n ≤ 255
  pub under : Under 256 m

-- what is found of a row of this kind at this offset says the label
pub record Says (atoms : AtomList) (m : List ℕ) (kind p : ℕ) (x : Label) : Type 0 where
  pub means : label_of m atoms kind (content_of m atoms.places atoms.lengths kind p) ≡ x
  pub sound : Sound m atoms.places (content_of m atoms.places atoms.lengths kind p)

module _ (atoms : AtomList) (m : List ℕ) where
  pub says_by : (kind p : ℕ) (x : Label) (c : Content) → c ≡ content_of m atoms.places atoms.lengths kind p → label_of m atoms kind c ≡ x → Sound m atoms.places c
      → Says atoms m kind p x
  says_by kind p x c e l s = record { means = ap (label_of m atoms kind) (sym e) ∙ l; sound = subst (Sound m atoms.places) e s }

-- ---- integers

-- a sign of 0 or 1
sign_is : (s n : ℕ) → s ≤ 1 → with_sign (sign (ltb 0 s)) n ≡ with_sign s n
sign_is zero n h = refl
sign_is (suc zero) n h = refl
sign_is (suc (suc s)) n h = absurd (omega arith)

no_sign : (s : ℕ) → with_sign s 0 ≡ pos 0
unfolding with_sign
no_sign zero = refl
no_sign (suc s) = refl

module _ (atoms : AtomList) (m : List ℕ) (l : Lent atoms m) where
  whole_says : (s n : ℕ) → s ≤ 1 → n < 18446744073709551616
      → (label_of m atoms 1 (integer_of (ltb 0 s) n) ≡ integer (with_sign s n)) × Sound m atoms.places (integer_of (ltb 0 s) n)
  unfolding integer_of label_of with_sign
  whole_says s n h k = go (eqb n 0) refl
    where
      go : (t : Bool) → eqb n 0 ≡ t
          → (label_of m atoms 1 (cond t (Whole false 0) (Whole (ltb 0 s) n)) ≡ integer (with_sign s n)) × Sound m atoms.places (cond t (Whole false 0) (Whole (ltb 0 s) n))
      go true e = let z : n ≡ 0 = eqb-true n 0 e in (ap integer (sym (ap (with_sign s) z ∙ no_sign s)), (omega arith, λ _. refl))
      go false e = (ap integer (sign_is s n h), (k, λ z. absurd (eqb-false n 0 e z)))

  stripped_says : (s start d : ℕ) → s ≤ 1 → start + d ≤ length m → (0 < d → get_or m (start + (d - 1)) 0 ≡ 0 → ⊥)
      → (label_of m atoms 1 (stripped_found m (ltb 0 s) start d) ≡ integer (with_sign s (little_endian (stretch m start d)))) × Sound m atoms.places (stripped_found m (ltb 0 s) start d)
  unfolding stripped_found label_of
  stripped_says s start d h k top = go (ltb 8 d) refl
    where
      go : (t : Bool) → ltb 8 d ≡ t
          → (label_of m atoms 1 (cond t (Big (ltb 0 s) start d) (integer_of (ltb 0 s) (little_endian (stretch m start d)))) ≡ integer (with_sign s (little_endian (stretch m start d))))
          × Sound m atoms.places (cond t (Big (ltb 0 s) start d) (integer_of (ltb 0 s) (little_endian (stretch m start d))))
      go true e =
          let b : 8 < d = ltb-true 8 d e in
          (ap integer (sign_is s (little_endian (stretch m start d)) h), (b, k, top (omega arith)))
      go false e =
          let b : d ≤ 8 = ltb-false 8 d e in
          let g : 256 ^ d ≤ 256 ^ 8 = pow-le-pow_right {n = 256} (omega arith) {i = d} {j = 8} b in
          let u : length (stretch m start d) ≡ d = length_part m start d k in
          let v : little_endian (stretch m start d) < 256 ^ d = rw u at (little_under (stretch m start d) (under_part m start d l.under)) in
          whole_says s (little_endian (stretch m start d)) h (omega arith)

  pub digits_say : (s start n : ℕ) → s ≤ 1 → start + n ≤ length m
      → (label_of m atoms 1 (stripped_found m (ltb 0 s) start (stripped m start n)) ≡ integer (with_sign s (little_endian (stretch m start n))))
      × Sound m atoms.places (stripped_found m (ltb 0 s) start (stripped m start n))
  digits_say s start n h k =
      let w = stripped_says s start (stripped m start n) h (omega (arith, stripped_few m start n)) (stripped_top m start n) in
      (w.0 ∙ ap (λ (x : ℕ). integer (with_sign s x)) (stripped_value m start n k), w.1)

  pub signed_says : (n : ℕ) → n < 4294967296 → (label_of m atoms 1 (signed_whole n) ≡ integer (signed32 n)) × Sound m atoms.places (signed_whole n)
  unfolding signed_whole label_of with_sign signed32
  signed_says n h = go (ltb n 2147483648) refl
    where
      go : (t : Bool) → ltb n 2147483648 ≡ t
          → (label_of m atoms 1 (cond t (Whole false n) (Whole true (4294967296 - n))) ≡ integer (elim t [ true ↦ pos n | false ↦ negsuc (4294967296 - suc n) ]))
          × Sound m atoms.places (cond t (Whole false n) (Whole true (4294967296 - n)))
      go true e = (refl, (omega arith, λ _. refl))
      go false e =
          let u : 4294967296 - n ≡ suc (4294967296 - suc n) = omega arith in
          (ap (λ (x : ℕ). integer (with_sign 1 x)) u, (omega arith, λ z. absurd (omega arith)))

-- ---- texts

module _ (atoms : AtomList) (m : List ℕ) (kind : ℕ) where
  pub latin_says : (start n : ℕ) (cs : List ℕ) → Under 256 m → start + n ≤ length m → check latin_1 (stretch m start n) ≡ valid cs
      → (label_of m atoms kind (Text true false start n) ≡ atom cs) × Sound m atoms.places (Text true false start n)
  unfolding label_of coded
  latin_says start n cs u h e =
      let k = latin1_is (stretch m start n) cs e in
      (ap atom k.0, (h, (under_part m start n u, k.1)))

  pub utf8_says : (listed : Bool) (start n : ℕ) (cs : List ℕ) → start + n ≤ length (source m atoms.places listed) → check utf_8 (stretch (source m atoms.places listed) start n) ≡ valid cs
      → (label_of m atoms kind (Text false listed start n) ≡ atom cs) × Sound m atoms.places (Text false listed start n)
  unfolding label_of coded characters_of
  utf8_says listed start n cs h e = (ap (λ (x : Checked). atom (characters_of x)) e, (h, (cs, e)))
