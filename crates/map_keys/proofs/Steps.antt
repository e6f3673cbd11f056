-- One law for each way through the functions that compare rows.
use mathlib.Core.Path.{◌≡◌, refl, sym, ap, ◌∙◌}
use mathlib.Core.Bool.{Bool, true, false}
use mathlib.Core.List.{List}
use Rattle.std.specs.Prelude.{Option}
use Prim.Native.Nat.{ℕ, zero, suc, ◌+◌, ◌-◌, ◌/◌, ◌≤◌, ◌<◌}
use native.Mathlib.Omega.{arith}
use lib.ListN.{length, get_or}
use borrow.Author.Tests.{le-leb, lt-leb, lt-ltb, le-ltb, eq-eqb, ne_eqb}
use Rattle.term_spec.specs.Rows.{parts_in, size_in}
use Rattle.term_rows.specs.Rows.{unordered_rows, pair_size}
use Rattle.map_keys.specs.Compare.{same_rows, pair_among, pair_around, pairs_among, pair_marked, pairs_marked, maps_from, same_maps, same_terms, among_steps, among_from}
use Rattle.map_keys.proofs.Compare.{among_ended}

-- ---- rows one by one

module _ (alike : ℕ → ℕ → Bool) (T : List ℕ) (maps : ℕ → ℕ → Bool) where
  -- rows that are stepped over
  stepped : (n s a b : ℕ) → same_rows alike T maps n s a b ≡ same_rows alike T maps (n - s) 0 (a + s) (b + s)
  unfolding same_rows
  stepped zero s a b = let e : 0 - s ≡ 0 = omega arith in rw e
  stepped (suc n) zero a b =
      let e : suc n - 0 ≡ suc n = omega arith in
      let f : a + 0 ≡ a = omega arith in
      let g : b + 0 ≡ b = omega arith in
      rw (e, f, g)
  stepped (suc n) (suc s) a b =
      let e : suc n - suc s ≡ n - s = omega arith in
      let f : a + suc s ≡ a + 1 + s = omega arith in
      let g : b + suc s ≡ b + 1 + s = omega arith in
      rw (e, f, g) (stepped n s (a + 1) (b + 1))

  module _ (n a b i : ℕ) (r : Bool) (h : same_rows alike T maps (n - i) 0 (a + i) (b + i) ≡ r) where
    pub rows_ended : n ≤ i → true ≡ r
    unfolding same_rows
    rows_ended l = let e : n - i ≡ 0 = omega arith in rw e at h

    module _ (l : i < n) (v w : ℕ) (p : v ≡ get_or T (a + i) 0) (q : w ≡ get_or T (b + i) 0) (t : Bool) (d : t ≡ alike v w) where
      pub rows_differ : t ≡ false → false ≡ r
      unfolding same_rows
      rows_differ f = let e : n - i ≡ suc (n - (i + 1)) = omega arith in rw (e, ← p, ← q, ← d, f) at h

      module _ (f : t ≡ true) (u : ℕ) (k : u ≡ unordered_rows v) where
        pub rows_next : u ≡ 0 → same_rows alike T maps (n - (i + (1 + u))) 0 (a + (i + (1 + u))) (b + (i + (1 + u))) ≡ r
        unfolding same_rows
        rows_next z =
            let e : n - i ≡ suc (n - (i + (1 + u))) = omega arith in
            let x : a + (i + (1 + u)) ≡ a + i + 1 = omega arith in
            let y : b + (i + (1 + u)) ≡ b + i + 1 = omega arith in
            rw (x, y) (rw (e, ← p, ← q, ← d, f, ← k, eq-eqb u 0 z) at h)

        module _ (z : u ≡ 0 → ⊥) (s : Bool) (g : s ≡ maps (a + i) (b + i)) where
          pub maps_differ : s ≡ false → false ≡ r
          unfolding same_rows
          maps_differ c = let e : n - i ≡ suc (n - (i + 1)) = omega arith in rw (e, ← p, ← q, ← d, f, ← k, ne_eqb u 0 z, ← g, c) at h

          after_map : s ≡ true → same_rows alike T maps (n - (i + 1)) u (a + i + 1) (b + i + 1) ≡ r
          unfolding same_rows
          after_map c = let e : n - i ≡ suc (n - (i + 1)) = omega arith in rw (e, ← p, ← q, ← d, f, ← k, ne_eqb u 0 z, ← g, c) at h

          pub maps_next : s ≡ true → same_rows alike T maps (n - (i + (1 + u))) 0 (a + (i + (1 + u))) (b + (i + (1 + u))) ≡ r
          maps_next c =
              let e : n - (i + (1 + u)) ≡ n - (i + 1) - u = omega arith in
              let x : a + (i + (1 + u)) ≡ a + i + 1 + u = omega arith in
              let y : b + (i + (1 + u)) ≡ b + i + 1 + u = omega arith in
              rw (e, x, y) (sym (stepped (n - (i + 1)) u (a + i + 1) (b + i + 1)) ∙ after_map c)

-- ---- two maps

module _ (T : List ℕ) (terms : ℕ → ℕ → Bool) (hint : ℕ → ℕ → Option ℕ) (a b v w m n : ℕ) (p : v ≡ get_or T a 0) (q : w ≡ get_or T b 0) (e : m ≡ size_in v) (f : n ≡ size_in w) where
  other_sizes : (m ≡ n → ⊥) → false ≡ maps_from T terms hint a b
  unfolding maps_from
  other_sizes g = rw (← p, ← q, ← e, ← f, ne_eqb m n g)

  module _ (g : m ≡ n) (c : ℕ) (h : c ≡ parts_in v) (r : Bool) where
    few_pairs : c / 2 < 32 → r ≡ pairs_among T terms (c / 2) 0 (a + 1) (b + 1) (b + 1) → r ≡ maps_from T terms hint a b
    unfolding maps_from
    few_pairs l i = i ∙ rw (← p, ← q, ← e, ← f, eq-eqb m n g, ← h, lt-ltb (c / 2) 32 l)

    many_pairs : 32 ≤ c / 2 → r ≡ pairs_marked T terms hint (c / 2) (c / 2) (a + 1) (b + 1) (b + n) → r ≡ maps_from T terms hint a b
    unfolding maps_from
    many_pairs l i = i ∙ rw (← p, ← q, ← e, ← f, eq-eqb m n g, ← h, le-ltb (c / 2) 32 l)

module _ (alike : ℕ → ℕ → Bool) (T : List ℕ) (hint : (ℕ → ℕ → Bool) → ℕ → ℕ → Option ℕ) (d a b : ℕ) where
  pub no_level : d ≡ 0 → false ≡ same_maps alike T hint d a b
  unfolding same_maps
  no_level e = rw e

  one_level : (k : ℕ) → maps_from T (same_terms alike T hint k) (hint (same_terms alike T hint k)) a b ≡ same_maps alike T hint (suc k) a b
  unfolding same_maps
  one_level k = refl

  module _ (some : d ≡ 0 → ⊥) (v w m n : ℕ) (p : v ≡ get_or T a 0) (q : w ≡ get_or T b 0) (e : m ≡ size_in v) (f : n ≡ size_in w) where
    a_level : (r : Bool) → r ≡ maps_from T (same_terms alike T hint (d - 1)) (hint (same_terms alike T hint (d - 1))) a b → r ≡ same_maps alike T hint d a b
    a_level r h = let k : suc (d - 1) ≡ d = omega arith in h ∙ one_level (d - 1) ∙ ap (λ (x : ℕ). same_maps alike T hint x a b) k

    pub maps_sizes : (m ≡ n → ⊥) → false ≡ same_maps alike T hint d a b
    maps_sizes g = a_level false (other_sizes T _ _ a b v w m n p q e f g)

    module _ (g : m ≡ n) (c : ℕ) (h : c ≡ parts_in v) where
      pub maps_few : c / 2 < 32 → (r : Bool) → r ≡ pairs_among T (same_terms alike T hint (d - 1)) (c / 2) 0 (a + 1) (b + 1) (b + 1) → r ≡ same_maps alike T hint d a b
      maps_few l r i = a_level r (few_pairs T _ _ a b v w m n p q e f g c h r l i)

      pub maps_many : 32 ≤ c / 2 → (s : ℕ) → s ≡ size_in v → (r : Bool)
          → r ≡ pairs_marked T (same_terms alike T hint (d - 1)) (hint (same_terms alike T hint (d - 1))) (c / 2) (c / 2) (a + 1) (b + 1) (b + s) → r ≡ same_maps alike T hint d a b
      maps_many l s j r i =
          let k : s ≡ n = j ∙ sym e ∙ g in
          a_level r (many_pairs T _ _ a b v w m n p q e f g c h r l (rw k at i))

-- ---- pairs one by one

module _ (T : List ℕ) (terms : ℕ → ℕ → Bool) where
  module _ (n k i x : ℕ) (r : Bool) (h : pair_among T terms (n - i) k x ≡ r) where
    pub pair_none : n ≤ i → false ≡ r
    unfolding pair_among
    pair_none l = let e : n - i ≡ 0 = omega arith in rw e at h

    module _ (l : i < n) (s : Bool) (p : s ≡ terms k x) where
      pub pair_here : s ≡ true → (v w y z : ℕ) → v ≡ get_or T k 0 → y ≡ size_in v → w ≡ get_or T x 0 → z ≡ size_in w → (t : Bool) → t ≡ terms (k + y) (x + z) → t ≡ r
      unfolding pair_among
      pair_here f v w y z a b c d t g = let e : n - i ≡ suc (n - (i + 1)) = omega arith in g ∙ rw (b, a, d, c) (rw (e, ← p, f) at h)

      pub pair_next : s ≡ false → (z : ℕ) → z ≡ pair_size T x → pair_among T terms (n - (i + 1)) k (x + z) ≡ r
      unfolding pair_among
      pair_next f z g = let e : n - i ≡ suc (n - (i + 1)) = omega arith in rw (e, ← p, f, ← g) at h

  module _ (n b i x y : ℕ) (r : Bool) (h : pairs_among T terms (n - i) i x y b ≡ r) where
    pub pairs_ended : n ≤ i → true ≡ r
    unfolding pairs_among
    pairs_ended l = let e : n - i ≡ 0 = omega arith in rw e at h

    module _ (l : i < n) (s : Bool) (p : s ≡ pair_around T terms (n - i) i x y b) where
      first_pair : s ≡ pair_around T terms (suc (n - (i + 1))) i x y b
      first_pair = let e : n - i ≡ suc (n - (i + 1)) = omega arith in rw e at p

      pub pairs_differ : s ≡ false → false ≡ r
      unfolding pairs_among
      pairs_differ f = let e : n - i ≡ suc (n - (i + 1)) = omega arith in rw (e, ← first_pair, f) at h

      pub pairs_next : s ≡ true → (z z' : ℕ) → z ≡ pair_size T x → z' ≡ pair_size T y → pairs_among T terms (n - (i + 1)) (i + 1) (x + z) (y + z') b ≡ r
      unfolding pairs_among
      pairs_next f z z' g k = let e : n - i ≡ suc (n - (i + 1)) = omega arith in rw (e, ← first_pair, f, ← g, ← k) at h

-- ---- pairs by a hint

module _ (T : List ℕ) (terms : ℕ → ℕ → Bool) (hint : ℕ → ℕ → Option ℕ) where
  module _ (n b end i x : ℕ) (r : Bool) (h : pairs_marked T terms hint n (n - i) x b end ≡ r) where
    pub marked_ended : n ≤ i → true ≡ r
    unfolding pairs_marked
    marked_ended l = let e : n - i ≡ 0 = omega arith in rw e at h

    module _ (l : i < n) (s : Bool) (p : s ≡ pair_marked T terms hint n x b end) where
      pub marked_differ : s ≡ false → false ≡ r
      unfolding pairs_marked
      marked_differ f = let e : n - i ≡ suc (n - (i + 1)) = omega arith in rw (e, ← p, f) at h

      pub marked_next : s ≡ true → (z : ℕ) → z ≡ pair_size T x → pairs_marked T terms hint n (n - (i + 1)) (x + z) b end ≡ r
      unfolding pairs_marked
      marked_next f z g = let e : n - i ≡ suc (n - (i + 1)) = omega arith in rw (e, ← p, f, ← g) at h

-- ---- keys one by one

-- n steps are enough from `at` on, and find r
pub record AmongLeft (T : List ℕ) (terms : ℕ → ℕ → Bool) (at key : ℕ) (r : Bool) : Type 0 where
  pub steps : ℕ
  pub enough : key - at ≤ steps
  pub finds : among_steps T terms steps at key ≡ r

pub no_such_row : (T : List ℕ) (terms : ℕ → ℕ → Bool) (first key : ℕ) → length T ≤ key → false ≡ among_from T terms first key
unfolding among_from
no_such_row T terms first key h = rw (le-leb (length T) key h)

pub among_start : (T : List ℕ) (terms : ℕ → ℕ → Bool) (first key : ℕ) → key < length T → AmongLeft T terms first key (among_from T terms first key)
unfolding among_from
among_start T terms first key h = record { steps = key - first; enough = omega arith; finds = rw (lt-leb (length T) key h) }

module _ (T : List ℕ) (terms : ℕ → ℕ → Bool) (at key : ℕ) (r : Bool) where
  pub among_none : AmongLeft T terms at key r → key ≤ at → false ≡ r
  among_none h l = sym (among_ended T terms h.steps at key l) ∙ h.finds

  one_step : (n : ℕ) → key - at ≤ n → among_steps T terms n at key ≡ r → at < key → among_steps T terms (suc (n - 1)) at key ≡ r
  one_step n l h k = let e : n ≡ suc (n - 1) = omega arith in rw e at h

  module _ (h : AmongLeft T terms at key r) (l : at < key) (s : Bool) (p : s ≡ terms key at) where
    first_step : among_steps T terms (suc (h.steps - 1)) at key ≡ r
    first_step = one_step h.steps h.enough h.finds l

    pub among_found : s ≡ true → true ≡ r
    unfolding among_steps
    among_found e = rw (lt-leb key at l, ← p, e) at first_step

    module _ (f : s ≡ false) (z : ℕ) (g : z ≡ pair_size T at) where
      pub among_stuck : z ≡ 0 → false ≡ r
      unfolding among_steps
      among_stuck e = rw (lt-leb key at l, ← p, f, ← g, eq-eqb z 0 e) at first_step

      pub among_later : (z ≡ 0 → ⊥) → AmongLeft T terms (at + z) key r
      unfolding among_steps
      among_later e =
          let enough : key - at ≤ h.steps = h.enough in
          record { steps = h.steps - 1; enough = omega arith; finds = rw (lt-leb key at l, ← p, f, ← g, ne_eqb z 0 e) at first_step }
