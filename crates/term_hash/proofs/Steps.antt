-- One law for each way through the functions that hash rows.
use mathlib.Core.Path.{◌≡◌, refl, sym, ap, ◌∙◌}
use mathlib.Core.Bool.{Bool, true, false, cond}
use mathlib.Core.List.{List}
use Prim.Native.Nat.{ℕ, zero, suc, ◌+◌, ◌*◌, ◌-◌, ◌/◌, ◌%◌, ◌≤◌, ◌<◌}
use native.Mathlib.Nat.{mul-le-mul_left, mod-lt}
use native.Mathlib.Omega.{arith}
use lib.Dec.{eqb}
use lib.ListN.{get_or}
use borrow.Author.Tests.{eq-eqb, ne_eqb}
use Rattle.term_spec.specs.Rows.{parts_in}
use Rattle.row_fields.specs.Meaning.{term_kind}
use Rattle.row_compare.specs.Hash.{mix}
use Rattle.term_rows.specs.Rows.{unordered_rows, pair_size}
use Rattle.term_hash.specs.Hash.{added, hash_rows, add_pairs, hash_pairs, hash_term, pass_hash, seed_of}

-- ---- numbers that stay small

pub kind_small : (x k : ℕ) → x ≡ term_kind k → k < 16 → x < 16
unfolding term_kind
kind_small x k e l = go (eqb k 14) e
  where
    go : (t : Bool) → x ≡ cond t 1 k → x < 16
    go true f = omega arith
    go false f = omega arith

pub square_below : (x : ℕ) → x < 4294967296 → x * x < 18446744073709551616
square_below x l = let h : x * x ≤ x * 4294967295 = mul-le-mul_left x (omega arith) in omega arith

-- ---- rows one by one

module _ (hash : ℕ → ℕ → ℕ) (T : List ℕ) (pairs : ℕ → ℕ → ℕ → ℕ) where
  -- rows that are stepped over
  pub stepped : (h n s a : ℕ) → hash_rows hash T pairs h n s a ≡ hash_rows hash T pairs h (n - s) 0 (a + s)
  unfolding hash_rows
  stepped h zero s a = let e : 0 - s ≡ 0 = omega arith in rw e
  stepped h (suc n) zero a =
      let e : suc n - 0 ≡ suc n = omega arith in
      let f : a + 0 ≡ a = omega arith in
      rw (e, f)
  stepped h (suc n) (suc s) a =
      let e : suc n - suc s ≡ n - s = omega arith in
      let f : a + suc s ≡ a + 1 + s = omega arith in
      rw (e, f) (stepped h n s (a + 1))

  pub rows_start : (h n a : ℕ) → hash_rows hash T pairs h (n - 0) 0 (a + 0) ≡ hash_rows hash T pairs h n 0 a
  rows_start h n a =
      let e : n - 0 ≡ n = omega arith in
      let x : a + 0 ≡ a = omega arith in
      rw (e, x)

  module _ (n a i h r : ℕ) (g : hash_rows hash T pairs h (n - i) 0 (a + i) ≡ r) where
    pub rows_ended : n ≤ i → h ≡ r
    unfolding hash_rows
    rows_ended l = let e : n - i ≡ 0 = omega arith in rw e at g

    module _ (l : i < n) (w x u : ℕ) (p : w ≡ get_or T (a + i) 0) (q : x ≡ hash h w) (k : u ≡ unordered_rows w) where
      pub rows_next : u ≡ 0 → hash_rows hash T pairs x (n - (i + (1 + u))) 0 (a + (i + (1 + u))) ≡ r
      unfolding hash_rows
      rows_next z =
          let e : n - i ≡ suc (n - (i + (1 + u))) = omega arith in
          let b : a + (i + (1 + u)) ≡ a + i + 1 = omega arith in
          rw b (rw (e, ← p, ← q, ← k, eq-eqb u 0 z) at g)

      module _ (z : u ≡ 0 → ⊥) (c y : ℕ) (d : c ≡ parts_in w) (f : y ≡ pairs x (c / 2) (a + i + 1)) where
        after_map : hash_rows hash T pairs y (n - (i + 1)) u (a + i + 1) ≡ r
        unfolding hash_rows
        after_map = let e : n - i ≡ suc (n - (i + 1)) = omega arith in rw (f, d) (rw (e, ← p, ← q, ← k, ne_eqb u 0 z) at g)

        pub map_next : hash_rows hash T pairs y (n - (i + (1 + u))) 0 (a + (i + (1 + u))) ≡ r
        map_next =
            let e : n - (i + (1 + u)) ≡ n - (i + 1) - u = omega arith in
            let b : a + (i + (1 + u)) ≡ a + i + 1 + u = omega arith in
            rw (e, b) (sym (stepped y (n - (i + 1)) u (a + i + 1)) ∙ after_map)

-- ---- pairs one by one

module _ (T : List ℕ) (rows : ℕ → ℕ → ℕ) where
  one_pair : (h at z x y k : ℕ) → z ≡ pair_size T at → x ≡ rows z at → y ≡ added h x → add_pairs T rows y k (at + z) ≡ add_pairs T rows h (suc k) at
  unfolding add_pairs
  one_pair h at z x y k p q f = rw (f, q, p)

  module _ (h n i at r : ℕ) (g : add_pairs T rows h (n - i) at ≡ r) where
    pub pairs_ended : n ≤ i → h ≡ r
    unfolding add_pairs
    pairs_ended l = let e : n - i ≡ 0 = omega arith in rw e at g

    pub pairs_next : i < n → (z x y : ℕ) → z ≡ pair_size T at → x ≡ rows z at → y ≡ added h x → add_pairs T rows y (n - (i + 1)) (at + z) ≡ r
    pairs_next l z x y p q f =
        let e : suc (n - (i + 1)) ≡ n - i = omega arith in
        one_pair h at z x y (n - (i + 1)) p q f ∙ ap (λ (k : ℕ). add_pairs T rows h k at) e ∙ g

module _ (hash : ℕ → ℕ → ℕ) (T : List ℕ) (d h n at : ℕ) where
  pub no_level : d ≡ 0 → h ≡ hash_pairs hash T d h n at
  unfolding hash_pairs
  no_level e = rw e

  one_level : (k : ℕ) → add_pairs T (λ i a. hash_rows hash T (hash_pairs hash T k) 0 i 0 a) h n at ≡ hash_pairs hash T (suc k) h n at
  unfolding hash_pairs
  one_level k = refl

  pub pairs_start : (d ≡ 0 → ⊥) → add_pairs T (λ i a. hash_rows hash T (hash_pairs hash T (d - 1)) 0 i 0 a) h (n - 0) at ≡ hash_pairs hash T d h n at
  pairs_start some =
      let e : suc (d - 1) ≡ d = omega arith in
      let f : n - 0 ≡ n = omega arith in
      rw f (one_level (d - 1)) ∙ ap (λ (x : ℕ). hash_pairs hash T x h n at) e

-- ---- the rounds of a term

mix_below : (f h x : ℕ) → mix f h x < 4294967296
unfolding mix
mix_below f h x = go (eqb (f % 2) 1)
  where
    go : (t : Bool) → cond t (((h + x / 4294967296) % 4294967296 * f + x % 4294967296) % 4294967296) (((h + x / 4294967296) % 4294967296 * f / 65536 + x % 4294967296) % 4294967296) < 4294967296
    go true = mod-lt _ (omega arith)
    go false = mod-lt _ (omega arith)

pub hash_below : (m places lengths T : List ℕ) (first row pass : ℕ) → pass_hash m places lengths T first row pass < 4294967296
unfolding pass_hash hash_term
hash_below m places lengths T first row pass = mix_below _ _ _

pub seed_as : {hs gs : ℕ → ℕ} → ((pass : ℕ) → hs pass ≡ gs pass) → (round : ℕ) → seed_of hs round ≡ seed_of gs round
unfolding seed_of
seed_as f round = rw (f 0, f 1, f 2, f 3)
