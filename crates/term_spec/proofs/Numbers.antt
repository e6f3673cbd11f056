-- Numbers as bytes, and back.
use mathlib.Core.Path.{◌≡◌, refl, sym, ◌∙◌, ap}
use mathlib.Core.Bool.{Bool, true, false}
use mathlib.Core.List.{[], ◌∷◌}
use Prim.Native.Nat.{ℕ, zero, suc, ◌+◌, ◌*◌, ◌/◌, ◌%◌, ◌^◌, ◌≤◌, ◌<◌}
use native.Mathlib.Nat.{mod-one, mod-eq_of_lt, pow-succ', one-le-pow}
use native.Mathlib.Omega.{arith}
use lib.Arith.{mod-mul}
use lib.Dec.{eqb, lit<}
use lib.ListN.{length}
use borrow.Author.Tests.{eqb-true, eqb-false}
use Rattle.term_spec.specs.Numbers.{big_endian, in_bytes, little_endian, digits_within, digits}

pub length_in_bytes : (k n : ℕ) → length (in_bytes k n) ≡ k
unfolding in_bytes
length_in_bytes zero n = refl
length_in_bytes (suc k) n = ap suc (length_in_bytes k n)

-- the last k bytes of a number
pub big_mod : (k n : ℕ) → big_endian (in_bytes k n) ≡ n % 256 ^ k
unfolding big_endian in_bytes
big_mod zero n = sym (mod-one n)
big_mod (suc k) n =
    ap (λ (m : ℕ). n / 256 ^ k % 256 * 256 ^ m + big_endian (in_bytes k n)) (length_in_bytes k n)
    ∙ ap (λ (m : ℕ). n / 256 ^ k % 256 * 256 ^ k + m) (big_mod k n)
    ∙ sym (mod-mul n {m = 256} {c = 256 ^ k} (lit< tt) (one-le-pow k 256 (lit< tt)))
    ∙ ap (λ (m : ℕ). n % m) (sym (pow-succ' 256 k))

-- one fact over the width: a number that fits its bytes is read back
pub big_in_bytes : (k n : ℕ) → n < 256 ^ k → big_endian (in_bytes k n) ≡ n
big_in_bytes k n h = big_mod k n ∙ mod-eq_of_lt h

-- digits and back
pub little_digits_within : (most n : ℕ) → n ≤ most → little_endian (digits_within most n) ≡ n
unfolding little_endian digits_within
little_digits_within zero n h = omega arith
little_digits_within (suc most) n h = go (eqb n 0) refl (λ less. little_digits_within most (n / 256) less)
  where
    go : (t : Bool) → eqb n 0 ≡ t → (n / 256 ≤ most → little_endian (digits_within most (n / 256)) ≡ n / 256)
        → little_endian (elim t [ true ↦ [] | false ↦ n % 256 ∷ digits_within most (n / 256) ]) ≡ n
    go true e ih = sym (eqb-true n 0 e)
    go false e ih =
        let f : n ≡ 0 → ⊥ = eqb-false n 0 e in
        ap (λ (m : ℕ). n % 256 + 256 * m) (ih (omega arith)) ∙ omega arith

pub little_digits : (n : ℕ) → little_endian (digits n) ≡ n
unfolding digits
little_digits n = little_digits_within n n (omega arith)

-- what digits say is bounded by their number, and the other way round
pub length_digits_within : (most n k : ℕ) → n < 256 ^ k → length (digits_within most n) ≤ k
unfolding digits_within
length_digits_within zero n k h = omega arith
length_digits_within (suc most) n k h = go (eqb n 0) refl k h (λ j l. length_digits_within most (n / 256) j l)
  where
    go : (t : Bool) → eqb n 0 ≡ t → (k : ℕ) → n < 256 ^ k → ((j : ℕ) → n / 256 < 256 ^ j → length (digits_within most (n / 256)) ≤ j)
        → length {A = ℕ} (elim t [ true ↦ [] | false ↦ n % 256 ∷ digits_within most (n / 256) ]) ≤ k
    go true e k h ih = omega arith
    go false e zero h ih = absurd (eqb-false n 0 e (omega arith))
    go false e (suc k) h ih =
        let less : n < 256 * 256 ^ k = rw (pow-succ' 256 k) at h in
        let fewer : length (digits_within most (n / 256)) ≤ k = ih k (omega arith) in
        omega arith

pub length_digits : (n k : ℕ) → n < 256 ^ k → length (digits n) ≤ k
unfolding digits
length_digits n k h = length_digits_within n n k h
