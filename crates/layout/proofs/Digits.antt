-- The digits of a number, one after the other.
use mathlib.Core.Path.{◌≡◌, refl, sym, ◌∙◌, ap, ap₂}
use mathlib.Core.Bool.{Bool, true, false}
use mathlib.Core.List.{List, [], ◌∷◌, ◌++◌}
use Prim.Native.Nat.{ℕ, zero, suc, ◌+◌, ◌*◌, ◌-◌, ◌^◌, ◌/◌, ◌%◌, ◌≤◌, ◌<◌}
use native.Mathlib.Omega.{arith}
use lib.Dec.{eqb}
use lib.ListN.{length, take}
use borrow.Author.Tests.{eq-eqb, ne_eqb, eqb-true, eqb-false}
use Rattle.std.specs.Int.Count.{count_leading_zeros}
use Rattle.std.specs.Int.{byte_at, bytes_low_first}
use Rattle.std.proofs.lemmas.Nat.{leading_length}
use Rattle.std.proofs.Math.Nat.{one-le-pow, pow-le-pow_right, pow-suc, pow-succ', div-div-eq-div-mul}
use lib.Pow.{pow-add}
use Rattle.term_spec.specs.Numbers.{little_endian, digits_within, digits, Under}
use Rattle.term_spec.proofs.Numbers.{length_digits}

-- one digit, and those of the rest
abbrev split_off : Bool → ℕ → List ℕ → List ℕ
split_off z n ds = elim z [ true ↦ [] | false ↦ n % 256 ∷ ds ]

-- any bound that is large enough will do
within_none : (a : ℕ) → digits_within a 0 ≡ []
unfolding digits_within
within_none zero = refl
within_none (suc a) = ap (λ (z : Bool). split_off z 0 (digits_within a 0)) (eq-eqb 0 0 refl)

within_enough : (a b n : ℕ) → n ≤ a → n ≤ b → digits_within a n ≡ digits_within b n
unfolding digits_within
within_enough zero b n h g = let e : n ≡ 0 = omega arith in sym (ap (λ (k : ℕ). digits_within b k) e ∙ within_none b)
within_enough (suc a) zero n h g = let e : n ≡ 0 = omega arith in ap (λ (k : ℕ). digits_within (suc a) k) e ∙ within_none (suc a)
within_enough (suc a) (suc b) n h g = go (eqb n 0) refl (λ f. within_enough a b (n / 256) (omega arith) (omega arith))
  where
    go : (z : Bool) → eqb n 0 ≡ z → ((n ≡ 0 → ⊥) → digits_within a (n / 256) ≡ digits_within b (n / 256))
        → split_off z n (digits_within a (n / 256)) ≡ split_off z n (digits_within b (n / 256))
    go true e ih = refl
    go false e ih = ap (λ (ds : List ℕ). n % 256 ∷ ds) (ih (eqb-false n 0 e))

pub digits_none : (n : ℕ) → n ≡ 0 → digits n ≡ []
unfolding digits
digits_none n e = ap (λ (k : ℕ). digits_within k k) e ∙ within_none 0

pub digits_more : (n : ℕ) → 0 < n → digits n ≡ n % 256 ∷ digits (n / 256)
unfolding digits digits_within
digits_more zero h = absurd (omega arith)
digits_more (suc n) h =
    let e : suc n ≡ 0 → ⊥ = omega arith in
    ap (λ (z : Bool). split_off z (suc n) (digits_within n (suc n / 256))) (ne_eqb (suc n) 0 e)
    ∙ ap (λ (ds : List ℕ). suc n % 256 ∷ ds) (within_enough n (suc n / 256) (suc n / 256) (omega arith) (omega arith))

-- a number that is not below 256 ^ k has more than k digits
many_digits : (k n : ℕ) → 256 ^ k ≤ n → k < length (digits n)
many_digits zero n h = let e : length (digits n) ≡ suc (length (digits (n / 256))) = ap length (digits_more n (omega arith)) in omega arith
many_digits (suc k) n h =
    let p : 256 * 256 ^ k ≤ n = rw (pow-succ' 256 k) at h in
    let one : 1 ≤ 256 ^ k = one-le-pow k 256 (omega arith) in
    let e : length (digits n) ≡ suc (length (digits (n / 256))) = ap length (digits_more n (omega arith)) in
    let more : k < length (digits (n / 256)) = many_digits k (n / 256) (omega arith) in
    omega arith

eight_bits : (k : ℕ) → 2 ^ (8 * k) ≡ 256 ^ k
eight_bits zero = refl
eight_bits (suc k) =
    let e : 8 * suc k ≡ 8 + 8 * k = omega arith in
    ap (λ (j : ℕ). 2 ^ j) e ∙ pow-add 2 8 (8 * k) ∙ ap (λ (x : ℕ). 256 * x) (eight_bits k) ∙ sym (pow-succ' 256 k)

-- the digits of a word by its highest bit that is set
bits_digits : (z m n k : ℕ) → z + m ≡ 64 → n < 2 ^ m → 2 ^ m ≤ 2 * n + 1 → k ≡ 8 - z / 8 → k ≡ length (digits n)
bits_digits z m n k e below above f =
    let high : 2 ^ m ≤ 2 ^ (8 * k) = pow-le-pow_right (omega arith) (omega arith) in
    let p : 2 ^ (8 * k) ≡ 256 ^ k = eight_bits k in
    let most : length (digits n) ≤ k = length_digits n k (omega arith) in
    go k f most
  where
    go : (k : ℕ) → k ≡ 8 - z / 8 → length (digits n) ≤ k → k ≡ length (digits n)
    go zero f most = omega arith
    go (suc k) f most =
        let low : 2 ^ suc (8 * k) ≤ 2 ^ m = pow-le-pow_right (omega arith) (omega arith) in
        let d : 2 ^ suc (8 * k) ≡ 2 * 2 ^ (8 * k) = pow-succ' 2 (8 * k) in
        let p : 2 ^ (8 * k) ≡ 256 ^ k = eight_bits k in
        let least : k < length (digits n) = many_digits k n (omega arith) in
        omega arith

pub word_digits : (n : ℕ) → n < 18446744073709551616 → (8 - count_leading_zeros 64 n / 8 ≡ length (digits n)) × (8 - count_leading_zeros 64 n / 8 ≤ 8)
word_digits n h =
    let l = leading_length 64 n h in
    (bits_digits (count_leading_zeros 64 n) l.0 n _ l.1 l.2 l.3 refl, omega arith)

lowest : (i n : ℕ) → byte_at i n ≡ n / 256 ^ i % 256
lowest zero n = omega arith
lowest (suc i) n = refl

-- the lowest bytes of a number from byte i on, as many as it has digits there
low_digits : (k i n : ℕ) → n / 256 ^ i < 256 ^ k → take (length (digits (n / 256 ^ i))) (bytes_low_first i k n) ≡ digits (n / 256 ^ i)
low_digits zero i n h = let e : n / 256 ^ i ≡ 0 = omega arith in rw (digits_none (n / 256 ^ i) e)
low_digits (suc k) i n h = go (eqb (n / 256 ^ i) 0) refl (low_digits k (suc i) n)
  where
    go : (z : Bool) → eqb (n / 256 ^ i) 0 ≡ z
        → (n / 256 ^ suc i < 256 ^ k → take (length (digits (n / 256 ^ suc i))) (bytes_low_first (suc i) k n) ≡ digits (n / 256 ^ suc i))
        → take (length (digits (n / 256 ^ i))) (bytes_low_first i (suc k) n) ≡ digits (n / 256 ^ i)
    go true e ih = rw (digits_none (n / 256 ^ i) (eqb-true _ _ e))
    go false e ih =
        let x : ℕ = n / 256 ^ i in
        let p : 0 < x = let z = eqb-false _ _ e in omega arith in
        let next : n / 256 ^ suc i ≡ x / 256 = ap (λ (d : ℕ). n / d) (pow-suc 256 i) ∙ sym (div-div-eq-div-mul n (256 ^ i) 256) in
        let more : 256 ^ suc k ≡ 256 * 256 ^ k = pow-succ' 256 k in
        let rest = ih (omega arith) in
        rw (digits_more x p) (ap₂ (λ (b : ℕ) (bs : List ℕ). b ∷ bs) (lowest i n) (rw next at rest))

pub word_low : (n : ℕ) → n < 18446744073709551616 → take (length (digits n)) (bytes_low_first 0 8 n) ≡ digits n
word_low n h =
    let e : n / 256 ^ 0 ≡ n = omega arith in
    rw e at (low_digits 8 0 n (omega arith))

-- digits whose highest is not zero say a positive number, and are those of it
pub little_positive : (ds : List ℕ) (d : ℕ) → 0 < d → 0 < little_endian (ds ++ (d ∷ []))
unfolding little_endian
little_positive [] d p = omega arith
little_positive (x ∷ ds) d p = let h = little_positive ds d p in omega arith

pub digits_of : (ds : List ℕ) (d : ℕ) → Under 256 ds → d < 256 → 0 < d → digits (little_endian (ds ++ (d ∷ []))) ≡ ds ++ (d ∷ [])
unfolding little_endian
digits_of [] d u h p =
    let e : d + 256 * 0 ≡ d = omega arith in
    let f : d / 256 ≡ 0 = omega arith in
    let g : d % 256 ≡ d = omega arith in
    ap digits e ∙ digits_more d p ∙ rw g (ap (λ (l : List ℕ). d ∷ l) (digits_none (d / 256) f))
digits_of (x ∷ ds) d u h p =
    let v : ℕ = little_endian (ds ++ (d ∷ [])) in
    let q : 0 < v = little_positive ds d p in
    let l : x < 256 = u.0 in
    let e : (x + 256 * v) % 256 ≡ x = omega arith in
    let f : (x + 256 * v) / 256 ≡ v = omega arith in
    digits_more (x + 256 * v) (omega arith) ∙ rw (e, f) (ap (λ (r : List ℕ). x ∷ r) (digits_of ds d u.1 h p))
