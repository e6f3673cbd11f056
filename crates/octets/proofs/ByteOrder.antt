-- Bytes compared one by one: one law for each way out of the function that does it.
use mathlib.Core.Path.{◌≡◌, refl, sym, ap, ◌∙◌}
use mathlib.Core.Bool.{true, false}
use lib.Dec.{leb}
use Rattle.std.proofs.Common.{nat_lt, min}
use mathlib.Core.List.{List, [], ◌∷◌}
use Prim.Native.Nat.{ℕ, ◌+◌, ◌-◌, ◌≤◌, ◌<◌}
use native.Mathlib.Omega.{arith}
use lib.ListN.{length, get_or}
use borrow.Author.Tests.{le-leb, lt-leb, lt-ltb, le-ltb}
use Rattle.term_spec.proofs.Tests.{by_less}
use Rattle.term_spec.specs.Order.{◌then◌, not_greater, compare_numbers, compare_lists}
use Rattle.term_spec.proofs.Order.{numbers_less, numbers_greater, numbers_same}
use Rattle.octets.specs.Parts.{stretch}
use Rattle.octets.proofs.Parts.{part_cons}

-- the first d bytes of both are equal: those after them decide
pub record DecidedAfter (s : List ℕ) (i n j k d : ℕ) : Type 0 where
  pub first_left : d ≤ n
  pub second_left : d ≤ k
  pub decides : compare_lists (stretch s (i + d) (n - d)) (stretch s (j + d) (k - d)) ≡ compare_lists (stretch s i n) (stretch s j k)

pub decided_start : (s : List ℕ) (i n j k : ℕ) → DecidedAfter s i n j k 0
decided_start s i n j k =
    let a : i + 0 ≡ i = omega arith in
    let b : j + 0 ≡ j = omega arith in
    let x : n - 0 ≡ n = omega arith in
    let y : k - 0 ≡ k = omega arith in
    record { first_left = omega arith; second_left = omega arith; decides = rw (a, b, x, y) }

none_before : (ys : List ℕ) → not_greater (compare_lists [] ys) ≡ true
unfolding compare_lists
none_before [] = refl
none_before (y ∷ ys) = refl

module _ (s : List ℕ) (i n j k d : ℕ) (h : DecidedAfter s i n j k d) (first : i + n ≤ length s) (second : j + k ≤ length s) where
  first_ends : n ≤ d → true ≡ not_greater (compare_lists (stretch s i n) (stretch s j k))
  first_ends l =
      let e : n - d ≡ 0 = omega arith in
      sym (ap not_greater (sym h.decides) ∙ rw e (none_before (stretch s (j + d) (k - d))))

  second_ends : d < n → k ≤ d → false ≡ not_greater (compare_lists (stretch s i n) (stretch s j k))
  unfolding compare_lists
  second_ends l g =
      let e : k - d ≡ 0 = omega arith in
      sym (ap not_greater (sym h.decides) ∙ rw (part_cons s (i + d) (n - d) (omega arith) (omega arith), e))

  -- the shorter comes first
  pub decided_all : min n k ≤ d → leb n k ≡ not_greater (compare_lists (stretch s i n) (stretch s j k))
  decided_all e =
      by_less k n
      (λ more. lt-leb n k more ∙ second_ends (omega arith) (omega arith))
      (λ fits. le-leb n k fits ∙ first_ends (omega arith))

  module _ (f : d < n) (g : d < k) where
    one_byte : compare_lists (stretch s i n) (stretch s j k)
        ≡ (compare_numbers (get_or s (i + d) 0) (get_or s (j + d) 0) then compare_lists (stretch s (i + d + 1) (n - d - 1)) (stretch s (j + d + 1) (k - d - 1)))
    unfolding compare_lists
    one_byte =
        sym h.decides ∙ rw (part_cons s (i + d) (n - d) (omega arith) (omega arith), part_cons s (j + d) (k - d) (omega arith) (omega arith))

    pub byte_differs : (get_or s (i + d) 0 ≡ get_or s (j + d) 0 → ⊥) → nat_lt (get_or s (i + d) 0) (get_or s (j + d) 0) ≡ not_greater (compare_lists (stretch s i n) (stretch s j k))
    byte_differs e =
        let x : ℕ = get_or s (i + d) 0 in
        let y : ℕ = get_or s (j + d) 0 in
        by_less x y
        (λ less. lt-ltb x y less ∙ sym (ap not_greater one_byte ∙ rw (numbers_less x y less)))
        (λ not_less. let more : y < x = omega arith in le-ltb x y not_less ∙ sym (ap not_greater one_byte ∙ rw (numbers_greater x y more)))

    pub byte_same : get_or s (i + d) 0 ≡ get_or s (j + d) 0 → DecidedAfter s i n j k (d + 1)
    byte_same e =
        let a : i + (d + 1) ≡ i + d + 1 = omega arith in
        let b : j + (d + 1) ≡ j + d + 1 = omega arith in
        let p : n - (d + 1) ≡ n - d - 1 = omega arith in
        let c : k - (d + 1) ≡ k - d - 1 = omega arith in
        record { first_left = omega arith; second_left = omega arith; decides = rw (a, b, p, c) (sym (one_byte ∙ rw (numbers_same _ _ e))) }
