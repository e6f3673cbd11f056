-- Numbers in bytes: how large they are, that equal ones have equal bytes, and what high zero digits are worth.
use mathlib.Core.Path.{◌≡◌, refl, sym, ◌∙◌, ap, ap₂}
use mathlib.Core.Bool.{Bool, true, false, cond}
use mathlib.Core.List.{List, [], ◌∷◌, ◌++◌}
use Prim.Native.Nat.{ℕ, zero, suc, ◌+◌, ◌*◌, ◌-◌, ◌/◌, ◌%◌, ◌^◌, ◌≤◌, ◌<◌}
use native.Mathlib.Nat.{pow-succ', one-le-pow, mul_left_comm, mul-le-mul_right}
use native.Mathlib.Omega.{arith}
use lib.Arith.{digits_div, digits_mod}
use lib.Dec.{eqb, lit<}
use lib.ListN.{length, get_or, take, drop}
use borrow.Author.Tests.{eqb-true, eqb-false}
use Rattle.term_spec.specs.Numbers.{big_endian, little_endian, Under}
use Rattle.term_spec.proofs.Holds.{big_under}
use Rattle.octets.proofs.Parts.{length_part, part_last}
use Rattle.row_fields.specs.Found.{value, stripped}

-- ---- bytes under 256

under_take : (n : ℕ) (l : List ℕ) → Under 256 l → Under 256 (take n l)
under_take zero l u = tt
under_take (suc n) [] u = tt
under_take (suc n) (x ∷ l) u = (u.0, under_take n l u.1)

under_drop : (n : ℕ) (l : List ℕ) → Under 256 l → Under 256 (drop n l)
under_drop zero l u = u
under_drop (suc n) [] u = tt
under_drop (suc n) (x ∷ l) u = under_drop n l u.1

pub under_part : (m : List ℕ) (at n : ℕ) → Under 256 m → Under 256 (take n (drop at m))
under_part m at n u = under_take n (drop at m) (under_drop at m u)

-- ---- numbers, the first byte the highest

pub value_small : (m : List ℕ) (w at : ℕ) → Under 256 m → at + w ≤ length m → value m w at < 256 ^ w
value_small m w at u h = rw (length_part m at w h) at (big_under (take w (drop at m)) (under_part m at w u))

pub big_same : (xs ys : List ℕ) → Under 256 xs → Under 256 ys → length xs ≡ length ys → big_endian xs ≡ big_endian ys → xs ≡ ys
unfolding big_endian
big_same [] [] u v e f = refl
big_same [] (y ∷ ys) u v e f = absurd (omega arith)
big_same (x ∷ xs) [] u v e f = absurd (omega arith)
big_same (x ∷ xs) (y ∷ ys) u v e f =
    let l : length xs ≡ length ys = omega arith in
    let c : ℕ = 256 ^ length ys in
    let p : 0 < c = one-le-pow (length ys) 256 (lit< tt) in
    let a : big_endian xs < c = rw l at (big_under xs u.1) in
    let b : big_endian ys < c = big_under ys v.1 in
    let g : x * c + big_endian xs ≡ y * c + big_endian ys = rw l at f in
    let q : x ≡ y = sym (digits_div x a) ∙ ap (λ (z : ℕ). z / c) g ∙ digits_div y b in
    let r : big_endian xs ≡ big_endian ys = sym (digits_mod x a) ∙ ap (λ (z : ℕ). z % c) g ∙ digits_mod y b in
    ap₂ (λ (z : ℕ) (zs : List ℕ). z ∷ zs) q (big_same xs ys u.1 v.1 l r)

-- ---- digits, least first

pub little_same : (xs ys : List ℕ) → Under 256 xs → Under 256 ys → length xs ≡ length ys → little_endian xs ≡ little_endian ys → xs ≡ ys
unfolding little_endian
little_same [] [] u v e f = refl
little_same [] (y ∷ ys) u v e f = absurd (omega arith)
little_same (x ∷ xs) [] u v e f = absurd (omega arith)
little_same (x ∷ xs) (y ∷ ys) u v e f =
    let q : x ≡ y = omega (arith, u.0, v.0, f) in
    let r : little_endian xs ≡ little_endian ys = omega (arith, u.0, v.0, f) in
    ap₂ (λ (z : ℕ) (zs : List ℕ). z ∷ zs) q (little_same xs ys u.1 v.1 (omega arith) r)

-- a digit above
little_snoc : (ds : List ℕ) (d : ℕ) → little_endian (ds ++ (d ∷ [])) ≡ little_endian ds + d * 256 ^ length ds
unfolding little_endian
little_snoc [] d = omega arith
little_snoc (x ∷ ds) d =
    let c : ℕ = 256 ^ length ds in
    let p : 256 ^ suc (length ds) ≡ 256 * c = pow-succ' 256 (length ds) in
    let q : d * (256 * c) ≡ 256 * (d * c) = mul_left_comm d 256 c in
    rw (little_snoc ds d, p, q) (omega arith)

module _ (m : List ℕ) (start : ℕ) where
  little_more : (n : ℕ) → start + suc n ≤ length m
      → little_endian (take (suc n) (drop start m)) ≡ little_endian (take n (drop start m)) + get_or m (start + n) 0 * 256 ^ n
  little_more n h =
      ap little_endian (part_last 0 m start n (omega arith))
      ∙ little_snoc (take n (drop start m)) (get_or m (start + n) 0)
      ∙ ap (λ (x : ℕ). little_endian (take n (drop start m)) + get_or m (start + n) 0 * 256 ^ x) (length_part m start n (omega arith))

  -- high zeros are worth nothing
  pub stripped_value : (n : ℕ) → start + n ≤ length m → little_endian (take (stripped m start n) (drop start m)) ≡ little_endian (take n (drop start m))
  unfolding stripped
  stripped_value zero h = refl
  stripped_value (suc n) h = go (eqb (get_or m (start + n) 0) 0) refl (λ k. stripped_value n k)
    where
      go : (t : Bool) → eqb (get_or m (start + n) 0) 0 ≡ t → (start + n ≤ length m → little_endian (take (stripped m start n) (drop start m)) ≡ little_endian (take n (drop start m)))
          → little_endian (take (cond t (stripped m start n) (suc n)) (drop start m)) ≡ little_endian (take (suc n) (drop start m))
      go true e ih =
          let z : get_or m (start + n) 0 ≡ 0 = eqb-true _ _ e in
          ih (omega arith) ∙ sym (little_more n h ∙ rw z (omega arith))
      go false e ih = refl

  pub stripped_few : (n : ℕ) → stripped m start n ≤ n
  unfolding stripped
  stripped_few zero = omega arith
  stripped_few (suc n) = go (eqb (get_or m (start + n) 0) 0) (stripped_few n)
    where
      go : (t : Bool) → stripped m start n ≤ n → cond t (stripped m start n) (suc n) ≤ suc n
      go true k = omega arith
      go false k = omega arith

  -- the highest digit kept is not zero
  pub stripped_top : (n : ℕ) → 0 < stripped m start n → get_or m (start + (stripped m start n - 1)) 0 ≡ 0 → ⊥
  unfolding stripped
  stripped_top zero h e = omega arith
  stripped_top (suc n) h e = go (eqb (get_or m (start + n) 0) 0) refl h e (λ k f. stripped_top n k f)
    where
      go : (t : Bool) → eqb (get_or m (start + n) 0) 0 ≡ t → 0 < cond t (stripped m start n) (suc n)
          → get_or m (start + (cond t (stripped m start n) (suc n) - 1)) 0 ≡ 0
          → (0 < stripped m start n → get_or m (start + (stripped m start n - 1)) 0 ≡ 0 → ⊥) → ⊥
      go true p k f ih = ih k f
      go false p k f ih =
          let u : suc n - 1 ≡ n = omega arith in
          eqb-false _ _ p (rw u at f)

  -- digits whose highest is not zero are at least so much
  pub little_least : (n : ℕ) → 0 < n → start + n ≤ length m → (get_or m (start + (n - 1)) 0 ≡ 0 → ⊥) → 256 ^ (n - 1) ≤ little_endian (take n (drop start m))
  little_least zero h k f = absurd (omega arith)
  little_least (suc n) h k f =
      let u : suc n - 1 ≡ n = omega arith in
      let g : get_or m (start + n) 0 ≡ 0 → ⊥ = rw u at f in
      let c : ℕ = 256 ^ n in
      let d : ℕ = get_or m (start + n) 0 in
      let e : 1 * c ≤ d * c = mul-le-mul_right c (omega arith) in
      rw u (omega (arith, little_more n k, e))
