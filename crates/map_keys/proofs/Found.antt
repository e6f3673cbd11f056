-- The row of a key as the slots name it: one law for each way through the functions that find it, and that the key there is equal.
use mathlib.Core.Path.{◌≡◌, refl, sym, ◌∙◌, ap}
use mathlib.Core.Bool.{Bool, true, false, cond}
use mathlib.Core.List.{List}
use Rattle.std.specs.Prelude.{Option, Some, None}
use Prim.Native.Nat.{ℕ, zero, suc, ◌+◌, ◌-◌, ◌≤◌, ◌<◌}
use native.Mathlib.Omega.{arith}
use lib.Dec.{eqb}
use lib.ListN.{length, get_or}
use borrow.Author.Tests.{eq-eqb, ne_eqb}
use Rattle.term_spec.specs.Rows.{whole_in}
use Rattle.term_spec.proofs.Tests.{never}
use Rattle.map_keys.specs.Found.{same_key, found_steps, found_key}
use Rattle.map_keys.specs.Path.{place, slot}
use Rattle.map_keys.specs.KeySet.{key_hashes, key_found}

module _ (T L : List ℕ) (terms : ℕ → ℕ → Bool) (first key : ℕ) where
  -- a row that is found is that of an equal key
  key_same : (row : ℕ) → same_key T terms first key row ≡ true → terms key row ≡ true
  unfolding same_key
  key_same row e = go (eqb (whole_in (get_or T row 0)) first) e
    where
      go : (t : Bool) → cond t (terms key row) false ≡ true → terms key row ≡ true
      go true f = f
      go false f = never f

  module _ (hs : ℕ → ℕ) where
    steps_same : (n d row : ℕ) → found_steps T L terms first key hs n d ≡ Some row → terms key row ≡ true
    unfolding found_steps
    steps_same zero d row e = let z : ⊥ = cc in absurd z
    steps_same (suc n) d row e = go (eqb (slot L hs d) 0) (same_key T terms first key (slot L hs d - 1)) refl _ (steps_same n (d + 1) row) e
      where
        go : (s t : Bool) → same_key T terms first key (slot L hs d - 1) ≡ t → (rest : Option ℕ) → (rest ≡ Some row → terms key row ≡ true) → cond s None (cond t (Some (slot L hs d - 1)) rest) ≡ Some row
            → terms key row ≡ true
        go true t f rest h g = let z : ⊥ = cc in absurd z
        go false true f rest h g = let z : slot L hs d - 1 ≡ row = cc in key_same row (rw z at f)
        go false false f rest h g = h g

    -- step by step; the last slot was i
    pub record Finding (r : Option ℕ) (n i d : ℕ) : Type 0 where
      pub all : n ≡ length L
      pub last : 0 < d → i ≡ place hs n (d - 1)
      pub left : found_steps T L terms first key hs (256 - d) d ≡ r

    module _ {r : Option ℕ} {n i d : ℕ} (h : Finding r n i d) where
      pub found_none : 256 ≤ d → None ≡ r
      unfolding found_steps
      found_none l = let e : 256 - d ≡ 0 = omega arith in rw e at h.left

      module _ (l : d < 256) (j : ℕ) (o : j ≡ place hs n d) where
        here : slot L hs d ≡ get_or L j 0
        here = ap (λ (k : ℕ). get_or L (place hs k d) 0) (sym h.all) ∙ ap (λ (k : ℕ). get_or L k 0) (sym o)

        pub found_empty : get_or L j 0 ≡ 0 → None ≡ r
        unfolding found_steps
        found_empty f = let e : 256 - d ≡ suc (256 - (d + 1)) = omega arith in rw (e, here, f) at h.left

        module _ (row : ℕ) (f : row + 1 ≡ get_or L j 0) (s : Bool) (q : s ≡ same_key T terms first key row) where
          -- the slot's row is compared
          compared : cond s (Some row) (found_steps T L terms first key hs (256 - (d + 1)) (d + 1)) ≡ r
          unfolding found_steps
          compared =
              let e : 256 - d ≡ suc (256 - (d + 1)) = omega arith in
              let g : row + 1 - 1 ≡ row = omega arith in
              rw (e, here, ← f, ne_eqb (row + 1) 0 (λ z. omega arith), g, ← q) at h.left

          pub found_here : s ≡ true → Some row ≡ r
          found_here g = rw g at compared

          pub found_later : s ≡ false → Finding r n j (d + 1)
          found_later g =
              let k : d + 1 - 1 ≡ d = omega arith in
              record { all = h.all; last = λ _. o ∙ ap (place hs n) (sym k); left = rw g at compared }

module _ (m places lengths T L : List ℕ) (terms : ℕ → ℕ → Bool) (first key : ℕ) where
  pub no_slots : length L ≡ 0 → None ≡ key_found m places lengths T L terms first key
  unfolding key_found found_key
  no_slots e = rw (eq-eqb (length L) 0 e)

  pub found_start : (length L ≡ 0 → ⊥) → Finding T L terms first key (key_hashes m places lengths T first key) (key_found m places lengths T L terms first key) (length L) 0 0
  unfolding key_found found_key
  found_start e = record { all = refl; last = λ l. absurd (omega arith); left = rw (ne_eqb (length L) 0 e) }

  -- what is found is equal
  pub found_same : (row : ℕ) → Some row ≡ key_found m places lengths T L terms first key → terms key row ≡ true
  unfolding key_found found_key
  found_same row e = go (eqb (length L) 0) _ (steps_same T L terms first key (key_hashes m places lengths T first key) 256 0 row) (sym e)
    where
      go : (t : Bool) (x : Option ℕ) → (x ≡ Some row → terms key row ≡ true) → cond t None x ≡ Some row → terms key row ≡ true
      go true x h f = let z : ⊥ = cc in absurd z
      go false x h f = h f
