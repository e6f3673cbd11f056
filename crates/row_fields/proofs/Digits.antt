-- Digits least first: high zeros are left out, and the rest summed from the highest down.
use mathlib.Core.Bool.{cond}
use mathlib.Core.Path.{◌≡◌, ◌∙◌}
use mathlib.Core.List.{List}
use Prim.Native.Nat.{ℕ, zero, suc, ◌+◌, ◌*◌, ◌-◌, ◌^◌, ◌≤◌, ◌<◌}
use native.Mathlib.Nat.{pow-succ', pow-le-pow_right}
use native.Mathlib.Omega.{arith}
use lib.Dec.{eqb}
use lib.ListN.{length, get_or, take, drop}
use borrow.Author.Tests.{eq-eqb, ne_eqb}
use Rattle.term_spec.specs.Numbers.{little_endian}
use Rattle.octets.proofs.Parts.{part_cons}
use Rattle.row_fields.specs.Found.{stripped}

module _ (m : List ℕ) (start : ℕ) where
  stripped_suc : (k : ℕ) → 0 < k → stripped m start k ≡ cond (eqb (get_or m (start + (k - 1)) 0) 0) (stripped m start (k - 1)) k
  unfolding stripped
  stripped_suc (suc k) h = let f : suc k - 1 ≡ k = omega arith in rw f
  stripped_suc zero h = absurd (omega arith)

  pub strip_here : (k : ℕ) → 0 < k → (get_or m (start + (k - 1)) 0 ≡ 0 → ⊥) → stripped m start k ≡ k - 1 + 1
  strip_here k h f = let e : k ≡ k - 1 + 1 = omega arith in stripped_suc k h ∙ rw (ne_eqb (get_or m (start + (k - 1)) 0) 0 f) e

  pub strip_next : (k : ℕ) → 0 < k → get_or m (start + (k - 1)) 0 ≡ 0 → stripped m start k ≡ stripped m start (k - 1)
  strip_next k h f = stripped_suc k h ∙ rw (eq-eqb (get_or m (start + (k - 1)) 0) 0 f)

  pub strip_none : (k : ℕ) → k ≡ 0 → stripped m start k ≡ 0
  unfolding stripped
  strip_none k e = rw e

-- the digits from k up to n are summed
pub record Summed (m : List ℕ) (start n k sum : ℕ) : Type 0 where
  pub inside : k ≤ n
  pub is : sum ≡ little_endian (take (n - k) (drop (start + k) m))
  pub small : sum < 256 ^ (n - k)

module _ (m : List ℕ) (start n : ℕ) where
  pub summed_none : Summed m start n n 0
  unfolding little_endian
  summed_none =
      let e : n - n ≡ 0 = omega arith in
      record { inside = omega arith; is = rw e; small = rw e (omega arith) }

  module _ (k sum b : ℕ) (s : Summed m start n k sum) (h : 0 < k) where
    pub summed_more : b ≡ get_or m (start + (k - 1)) 0 → b < 256 → start + n ≤ length m → Summed m start n (k - 1) (sum * 256 + b)
    unfolding little_endian
    summed_more e f l =
        let u : n - (k - 1) ≡ suc (n - k) = omega (arith, s.inside) in
        let v : start + (k - 1) + 1 ≡ start + k = omega arith in
        let w : suc (n - k) - 1 ≡ n - k = omega arith in
        let p : 256 ^ suc (n - k) ≡ 256 * 256 ^ (n - k) = pow-succ' 256 (n - k) in
        let q : sum < 256 ^ (n - k) = s.small in
        record {
          inside = omega (arith, s.inside);
          is = rw (u, part_cons m (start + (k - 1)) (suc (n - k)) (omega arith) (omega (arith, s.inside)), w, v, ← s.is, ← e) (omega arith);
          small = rw (u, p) (omega arith);
        }

    pub summed_room : n ≤ 8 → sum < 72057594037927936
    summed_room e =
        let l : n - k ≤ 7 = omega (arith, s.inside) in
        let p : 256 ^ (n - k) ≤ 256 ^ 7 = pow-le-pow_right {n = 256} (omega arith) {i = n - k} {j = 7} l in
        omega (arith, s.small)

  pub summed_all : (k sum : ℕ) → Summed m start n k sum → k ≡ 0 → sum ≡ little_endian (take n (drop start m))
  summed_all k sum s e =
      let u : n - k ≡ n = omega arith in
      let v : start + k ≡ start = omega arith in
      s.is ∙ rw (u, v)
