-- The number of a content is that of the label that it says.
use mathlib.Core.Path.{◌≡◌, refl, ap}
use mathlib.Core.Bool.{Bool, true, false, not, cond}
use mathlib.Core.List.{List}
use Prim.Native.Nat.{ℕ, zero, suc, ◌-◌, ◌/◌, ◌%◌, ◌<◌, ◌≤◌, ◌^◌}
use native.Mathlib.Nat.{pow-le-pow_right}
use native.Mathlib.Omega.{arith}
use lib.Dec.{eqb, ltb}
use lib.IntN.{ℤ, pos, negsuc}
use lib.Ieee.{binary64, of_bits, to_bits}
use borrow.Author.Tests.{lt-ltb, le-ltb, ne_eqb, ltb-true, ltb-false, eqb-false}
use Rattle.term_spec.specs.Numbers.{little_endian, with_sign}
use Rattle.term_spec.specs.Term.{Label, integer, float, atom, tuple, list, improper_list, binary, bitstring, map, pid, port, reference, export}
use Rattle.term_spec.specs.Head.{finite}
use Rattle.term_spec.specs.AtomList.{AtomList}
use Rattle.term_spec.specs.Look.{whole_number, float_bits, neither, number_of}
use Rattle.row_fields.specs.declared.Content.{Content}
use Rattle.row_fields.specs.declared.Content.TheVariants.{Nothing, Whole, Big, Float, Text, Bytes, Bits, Pid, Port, Reference}
use Rattle.row_fields.specs.Meaning.{sign, stretch, bare, label_of}
use Rattle.row_fields.proofs.Values.{little_least}
use Rattle.row_fields.proofs.Says.{Sound}
use Rattle.queries.specs.Code.{signed_number, float_number, content_number}
use Rattle.queries.proofs.Signed.{exact_bits}

-- ---- floats

-- a finite exponent, as the code tests it
pub finite_low : (bits : ℕ) → finite bits ≡ true → bits % 9223372036854775808 < 9218868437227405312
unfolding finite
finite_low bits e = go (eqb (bits / 2 ^ 52 % 2 ^ 11) (2 ^ 11 - 1)) refl e
  where
    go : (t : Bool) → eqb (bits / 2 ^ 52 % 2 ^ 11) (2 ^ 11 - 1) ≡ t → not t ≡ true → bits % 9223372036854775808 < 9218868437227405312
    go true f g = let no_way : ◌≡◌ {A = ℕ} 0 1 = cc in absurd (omega arith)
    go false f g =
        let h : bits / 2 ^ 52 % 2 ^ 11 ≡ 2 ^ 11 - 1 → ⊥ = eqb-false (bits / 2 ^ 52 % 2 ^ 11) (2 ^ 11 - 1) f in
        omega arith

-- the float of a finite exponent has exactly those 64 bits
pub float_exact : (bits : ℕ) → bits < 2 ^ 64 → finite bits ≡ true → to_bits binary64 (of_bits binary64 bits) ≡ bits
float_exact bits h e = exact_bits bits h (finite_low bits e)

float_is : (bits : ℕ) → finite bits ≡ true → float_bits bits ≡ float_number bits
unfolding float_number
float_is bits e = rw (lt-ltb (bits % 9223372036854775808) 9218868437227405312 (finite_low bits e))

-- ---- integers

large : (negative : Bool) (n : ℕ) → 9223372036854775808 < n → number_of (integer (with_sign (sign negative) n)) ≡ neither
unfolding with_sign number_of
large true zero h = absurd (omega arith)
large true (suc n) h = rw (le-ltb n (2 ^ 63) (omega arith))
large false n h = rw (le-ltb n (2 ^ 63) (omega arith))

whole_is : (negative : Bool) (n : ℕ) → number_of (integer (with_sign (sign negative) n)) ≡ signed_number negative n
unfolding with_sign number_of signed_number
whole_is true zero = refl
whole_is true (suc n) = go (ltb n (2 ^ 63)) refl
  where
    go : (t : Bool) → ltb n (2 ^ 63) ≡ t → number_of (integer (negsuc n)) ≡ signed_number true (suc n)
    go true e =
        let k : suc n - 1 ≡ n = omega arith in
        rw (e, k, ne_eqb (suc n) 0 (λ z. omega arith), le-ltb 9223372036854775808 (suc n) (omega (arith, ltb-true n (2 ^ 63) e)))
    go false e = rw (e, ne_eqb (suc n) 0 (λ z. omega arith), lt-ltb 9223372036854775808 (suc n) (omega (arith, ltb-false n (2 ^ 63) e)))
whole_is false n = go (ltb n (2 ^ 63)) refl
  where
    go : (t : Bool) → ltb n (2 ^ 63) ≡ t → number_of (integer (pos n)) ≡ signed_number false n
    go true e = rw e
    go false e = rw e

-- ---- by the content

no_fields : (kind : ℕ) → number_of (bare kind) ≡ neither
unfolding bare number_of
no_fields kind = go (eqb kind 4) (eqb kind 5) (eqb kind 6) (eqb kind 9)
  where
    go : (a b c d : Bool) → number_of (cond a tuple (cond b list (cond c improper_list (cond d map export)))) ≡ neither
    go true b c d = refl
    go false true c d = refl
    go false false true d = refl
    go false false false true = refl
    go false false false false = refl

-- a float's exponent is finite
abbrev pub Finite : Label → Type 0
Finite l = (bits : ℕ) → l ≡ float bits → finite bits ≡ true

module _ (atoms : AtomList) (m : List ℕ) (kind : ℕ) where
  pub content_is : (c : Content) → Sound m atoms.places c → Finite (label_of m atoms kind c) → number_of (label_of m atoms kind c) ≡ content_number c
  unfolding label_of content_number number_of
  content_is Nothing s f = no_fields kind
  content_is (Whole negative n) s f = whole_is negative n
  content_is (Big negative start n) s f =
      let a : 256 ^ (n - 1) ≤ little_endian (stretch m start n) = little_least m start n (omega (arith, s.0)) s.1 s.2 in
      let b : 256 ^ 8 ≤ 256 ^ (n - 1) = pow-le-pow_right {n = 256} (omega arith) {i = 8} {j = n - 1} (omega (arith, s.0)) in
      large negative (little_endian (stretch m start n)) (omega arith)
  content_is (Float bits) s f = float_is bits (f bits refl)
  content_is (Text latin1 listed start n) s f = refl
  content_is (Bytes start n) s f = refl
  content_is (Bits bits start n) s f = refl
  content_is (Pid id serial creation) s f = refl
  content_is (Port id creation) s f = refl
  content_is (Reference creation start n) s f = refl

-- ---- labels

no_float : {A : Type 0} (t : Bool) (z : ℤ) (bits : ℕ) → cond t (whole_number z) neither ≡ float_bits bits → A
no_float true z bits e = let no_way : ◌≡◌ {A = ℕ} 0 1 = cc in absurd (omega arith)
no_float false z bits e = let no_way : ◌≡◌ {A = ℕ} 0 1 = cc in absurd (omega arith)

-- only floats have the bits of one
pub float_label : (l : Label) (bits : ℕ) → number_of l ≡ float_bits bits → l ≡ float bits
unfolding number_of
float_label (integer (pos n)) bits e = no_float (ltb n (2 ^ 63)) (pos n) bits e
float_label (integer (negsuc n)) bits e = no_float (ltb n (2 ^ 63)) (negsuc n) bits e
float_label (float b) bits e = let same : b ≡ bits = cc in ap float same
float_label (atom cs) bits e = no_float false (pos 0) bits e
float_label tuple bits e = no_float false (pos 0) bits e
float_label list bits e = no_float false (pos 0) bits e
float_label improper_list bits e = no_float false (pos 0) bits e
float_label (binary bs) bits e = no_float false (pos 0) bits e
float_label (bitstring n bs) bits e = no_float false (pos 0) bits e
float_label map bits e = no_float false (pos 0) bits e
float_label (pid i s c) bits e = no_float false (pos 0) bits e
float_label (port i c) bits e = no_float false (pos 0) bits e
float_label (reference c ws) bits e = no_float false (pos 0) bits e
float_label export bits e = no_float false (pos 0) bits e
