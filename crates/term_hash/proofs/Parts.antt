-- Sums over the pairs of a run: the same in whatever order the pairs stand.
use mathlib.Core.Path.{◌≡◌, ◌∙◌, subst}
use mathlib.Core.List.{List}
use Prim.Native.Nat.{ℕ, zero, suc, ◌+◌, ◌*◌, ◌/◌, ◌%◌}
use native.Mathlib.Nat.{mod-add-mod}
use native.Mathlib.Omega.{arith}
use Rattle.term_spec.specs.Tree.{Forest, empty, ◌▹◌}
use Rattle.term_spec.specs.Term.{Label, Term}
use Rattle.term_spec.specs.Same.{Rearranged, stay, keep, swap, chain}
use Rattle.term_rows.specs.Rows.{pair_size}
use Rattle.term_hash.specs.Hash.{added, add_pairs}

-- ---- what pairs add, as a sum

-- what is added of a pair
abbrev pub part : ℕ → ℕ
part x = x * x / 65536

module _ (T : List ℕ) (rows : ℕ → ℕ → ℕ) where
  -- of n pairs from `at` on
  unfoldable pub pairs_sum : ℕ → ℕ → ℕ
  pairs_sum zero at = 0
  pairs_sum (suc n) at = part (rows (pair_size T at) at) + pairs_sum n (at + pair_size T at)

  -- one pair or more
  pub pairs_added : (n h at : ℕ) → add_pairs T rows h (suc n) at ≡ (h + pairs_sum (suc n) at) % 4294967296
  unfolding add_pairs added pairs_sum
  pairs_added zero h at = let e : h + (part (rows (pair_size T at) at) + 0) ≡ h + part (rows (pair_size T at) at) = omega arith in rw e
  pairs_added (suc n) h at =
      let x : ℕ = part (rows (pair_size T at) at) in
      let rest : ℕ = pairs_sum (suc n) (at + pair_size T at) in
      let e : h + (x + rest) ≡ h + x + rest = omega arith in
      rw e (pairs_added n ((h + x) % 4294967296) (at + pair_size T at) ∙ mod-add-mod (h + x) 4294967296 rest)

-- ---- pairs, each with a number

module _ (P : Term → Term → ℕ → Type 0) where
  -- each pair of a run has one, and this is their sum; a last part without a value has none
  pub data Sum : Forest Label → ℕ → Type 0 where
    none : Sum empty 0
    alone : (k : Term) → Sum (k ▹ empty) 0
    pair : {k v : Term} {ts : Forest Label} {n s : ℕ} → P k v n → Sum ts s → Sum (k ▹ v ▹ ts) (n + s)

  swapped : {k v j w : Term} {ts : Forest Label} {s : ℕ} → Sum (k ▹ v ▹ j ▹ w ▹ ts) s → Sum (j ▹ w ▹ k ▹ v ▹ ts) s
  swapped {k} {v} {j} {w} {ts} (pair {n = n} p (pair {n = i} {s = s} q r)) =
      let e : i + (n + s) ≡ n + (i + s) = omega arith in
      subst (Sum (j ▹ w ▹ k ▹ v ▹ ts)) e (pair q (pair p r))

  -- the same in another order
  pub sum_rearranged : {ts us : Forest Label} {s : ℕ} → Rearranged ts us → Sum ts s → Sum us s
  sum_rearranged stay p = p
  sum_rearranged (keep k v r) (pair p q) = pair p (sum_rearranged r q)
  sum_rearranged (swap k v j w) p = swapped p
  sum_rearranged (chain r t) p = sum_rearranged t (sum_rearranged r p)
