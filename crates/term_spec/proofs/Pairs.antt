-- Putting pairs in order: the same pairs stay, and where the order is total the outcome does not depend on how the pairs stood.
use mathlib.Core.Path.{◌≡◌, refl, sym, ◌∙◌, ap, ap₂}
use mathlib.Core.Bool.{Bool, true, false}
use Prim.Native.Nat.{ℕ, suc, ◌+◌, max}
use native.Mathlib.Omega.{arith}
use Rattle.term_spec.specs.Tree.{Forest, node, empty, ◌▹◌, count, size, sizes, depth, deepest}
use Rattle.term_spec.specs.Term.{Label, Term, integer, float, atom, tuple, list, improper_list, binary, bitstring, map, pid, port, reference, export}
use Rattle.term_spec.specs.Pairs.{Pair, put_in, put_near, in_order, with_value, arranged_parts, arranged, all_arranged}
use Rattle.term_spec.specs.Same.{Rearranged, stay, keep, swap, chain}
use Rattle.term_spec.proofs.Tests.{never}

pub rearranged_back : {ts us : Forest Label} → Rearranged ts us → Rearranged us ts
rearranged_back stay = stay
rearranged_back (keep k v r) = keep k v (rearranged_back r)
rearranged_back (swap k v j w) = swap j w k v
rearranged_back (chain r s) = chain (rearranged_back s) (rearranged_back r)

-- what does not depend on the order
pub rearranged_sizes : {ts us : Forest Label} → Rearranged ts us → sizes us ≡ sizes ts
rearranged_sizes stay = refl
rearranged_sizes (keep k v r) = omega (arith, rearranged_sizes r)
rearranged_sizes (swap k v j w) = omega arith
rearranged_sizes (chain r s) = rearranged_sizes s ∙ rearranged_sizes r

pub rearranged_count : {ts us : Forest Label} → Rearranged ts us → count us ≡ count ts
rearranged_count stay = refl
rearranged_count (keep k v r) = ap (λ (n : ℕ). suc (suc n)) (rearranged_count r)
rearranged_count (swap k v j w) = refl
rearranged_count (chain r s) = rearranged_count s ∙ rearranged_count r

max_first : (a b c : ℕ) → max a (max b c) ≡ max b (max a c)
max_first a b c = omega arith

two_first : (a b c d n : ℕ) → max a (max b (max c (max d n))) ≡ max c (max d (max a (max b n)))
two_first a b c d n =
    ap (max a) (max_first b c (max d n)) ∙ max_first a c (max b (max d n))
    ∙ ap (max c) (ap (max a) (max_first b d n) ∙ max_first a d (max b n))

pub rearranged_deepest : {ts us : Forest Label} → Rearranged ts us → deepest us ≡ deepest ts
rearranged_deepest stay = refl
rearranged_deepest (keep k v r) = ap (λ (n : ℕ). max (depth k) (max (depth v) n)) (rearranged_deepest r)
rearranged_deepest (swap k v j w {ts}) = two_first (depth j) (depth w) (depth k) (depth v) (deepest ts)
rearranged_deepest (chain r s) = rearranged_deepest s ∙ rearranged_deepest r

-- whether a label is a map's
pub data Kind : Label → Type 0 where
  a_map : Kind map
  no_map : {l : Label} → ((before : Pair → Pair → Bool) (ts : Forest Label) → arranged_parts before l ts ≡ ts) → Kind l

pub kind : (l : Label) → Kind l
unfolding arranged_parts
kind (integer z) = no_map (λ b ts. refl)
kind (float bits) = no_map (λ b ts. refl)
kind (atom cs) = no_map (λ b ts. refl)
kind tuple = no_map (λ b ts. refl)
kind list = no_map (λ b ts. refl)
kind improper_list = no_map (λ b ts. refl)
kind (binary bs) = no_map (λ b ts. refl)
kind (bitstring bits bs) = no_map (λ b ts. refl)
kind map = a_map
kind (pid id serial creation) = no_map (λ b ts. refl)
kind (port id creation) = no_map (λ b ts. refl)
kind (reference creation ws) = no_map (λ b ts. refl)
kind export = no_map (λ b ts. refl)

module _ (before : Pair → Pair → Bool) where
  pub near_yes : (p : Pair) (k v : Term) (ts : Forest Label) → before p (k, v) ≡ true → put_near before p k (v ▹ ts) ≡ p.0 ▹ p.1 ▹ k ▹ v ▹ ts
  unfolding put_near
  near_yes p k v ts e = rw (e, put_near)

  pub near_no : (p : Pair) (k v : Term) (ts : Forest Label) → before p (k, v) ≡ false → put_near before p k (v ▹ ts) ≡ k ▹ v ▹ put_in before p ts
  unfolding put_near
  near_no p k v ts e = rw (e, put_near)

  -- the same pairs
  mutual
    unfolding put_in

    pub put_rearranges : (p : Pair) (ts : Forest Label) → Rearranged (p.0 ▹ p.1 ▹ ts) (put_in before p ts)
    put_rearranges p empty = stay
    put_rearranges p (k ▹ ts) = near_rearranges p k ts

    near_rearranges : (p : Pair) (k : Term) (ts : Forest Label) → Rearranged (p.0 ▹ p.1 ▹ k ▹ ts) (put_near before p k ts)
    near_rearranges p k empty = stay
    near_rearranges p k (v ▹ ts) = go (before p (k, v)) refl (put_rearranges p ts)
      where
        go : (b : Bool) → before p (k, v) ≡ b → Rearranged (p.0 ▹ p.1 ▹ ts) (put_in before p ts) → Rearranged (p.0 ▹ p.1 ▹ k ▹ v ▹ ts) (put_near before p k (v ▹ ts))
        go true e ih = rw (near_yes p k v ts e) stay
        go false e ih = rw (near_no p k v ts e) (chain (swap p.0 p.1 k v) (keep k v ih))

  mutual
    unfolding in_order

    pub order_rearranges : (ts : Forest Label) → Rearranged ts (in_order before ts)
    order_rearranges empty = stay
    order_rearranges (k ▹ ts) = value_rearranges k ts

    value_rearranges : (k : Term) (ts : Forest Label) → Rearranged (k ▹ ts) (with_value before k ts)
    value_rearranges k empty = stay
    value_rearranges k (v ▹ ts) = chain (keep k v (order_rearranges ts)) (put_rearranges (k, v) (in_order before ts))

  -- new parts in the same order
  pub all_arranged_rearranges : {ts us : Forest Label} → Rearranged ts us → Rearranged (all_arranged before ts) (all_arranged before us)
  unfolding all_arranged
  all_arranged_rearranges stay = stay
  all_arranged_rearranges (keep k v r) = keep _ _ (all_arranged_rearranges r)
  all_arranged_rearranges (swap k v j w) = swap _ _ _ _
  all_arranged_rearranges (chain r s) = chain (all_arranged_rearranges r) (all_arranged_rearranges s)

  -- sizes, numbers of parts and depths stay
  parts_sizes : (l : Label) (ts : Forest Label) → sizes (arranged_parts before l ts) ≡ sizes ts
  unfolding arranged_parts
  parts_sizes l ts = go (kind l)
    where
      go : {l : Label} → Kind l → sizes (arranged_parts before l ts) ≡ sizes ts
      go a_map = rearranged_sizes (order_rearranges ts)
      go (no_map stays) = ap sizes (stays before ts)

  parts_deepest : (l : Label) (ts : Forest Label) → deepest (arranged_parts before l ts) ≡ deepest ts
  unfolding arranged_parts
  parts_deepest l ts = go (kind l)
    where
      go : {l : Label} → Kind l → deepest (arranged_parts before l ts) ≡ deepest ts
      go a_map = rearranged_deepest (order_rearranges ts)
      go (no_map stays) = ap deepest (stays before ts)

  mutual
    unfolding arranged

    pub size_arranged : (t : Term) → size (arranged before t) ≡ size t
    size_arranged (node l ts) = ap suc (parts_sizes l (all_arranged before ts) ∙ sizes_arranged ts)

    pub sizes_arranged : (ts : Forest Label) → sizes (all_arranged before ts) ≡ sizes ts
    sizes_arranged empty = refl
    sizes_arranged (t ▹ ts) = ap₂ ◌+◌ (size_arranged t) (sizes_arranged ts)

  mutual
    unfolding arranged

    pub depth_arranged : (t : Term) → depth (arranged before t) ≡ depth t
    depth_arranged (node l ts) = ap suc (parts_deepest l (all_arranged before ts) ∙ deepest_arranged ts)

    pub deepest_arranged : (ts : Forest Label) → deepest (all_arranged before ts) ≡ deepest ts
    deepest_arranged empty = refl
    deepest_arranged (t ▹ ts) = ap₂ max (depth_arranged t) (deepest_arranged ts)

  pub count_arranged : (ts : Forest Label) → count (all_arranged before ts) ≡ count ts
  unfolding arranged
  count_arranged empty = refl
  count_arranged (t ▹ ts) = ap suc (count_arranged ts)

  -- a total order
  module _ (total : (p q : Pair) → before p q ≡ false → before q p ≡ true)
      (joins : (p q r : Pair) → before p q ≡ true → before q r ≡ true → before p r ≡ true) where
    mutual
      unfolding put_in

      -- of two pairs put in one after the other, the first may as well be put in last
      put_twice : (p q : Pair) → before p q ≡ true → before q p ≡ false → (ts : Forest Label)
          → put_in before p (put_in before q ts) ≡ put_in before q (put_in before p ts)
      put_twice p q a b empty = near_yes p q.0 q.1 empty a ∙ sym (near_no q p.0 p.1 empty b)
      put_twice p q a b (k ▹ ts) = near_twice p q a b k ts

      near_twice : (p q : Pair) → before p q ≡ true → before q p ≡ false → (k : Term) (ts : Forest Label)
          → put_in before p (put_near before q k ts) ≡ put_in before q (put_near before p k ts)
      near_twice p q a b k empty = near_yes p q.0 q.1 (k ▹ empty) a ∙ sym (near_no q p.0 p.1 (k ▹ empty) b)
      near_twice p q a b k (v ▹ ts) = go (before q (k, v)) refl (before p (k, v)) refl (put_twice p q a b ts)
        where
          go : (x : Bool) → before q (k, v) ≡ x → (y : Bool) → before p (k, v) ≡ y → put_in before p (put_in before q ts) ≡ put_in before q (put_in before p ts)
              → put_in before p (put_near before q k (v ▹ ts)) ≡ put_in before q (put_near before p k (v ▹ ts))
          go true e false f ih = never (sym f ∙ joins p q (k, v) a e)
          go true e true f ih =
              rw (near_yes q k v ts e, near_yes p k v ts f)
              (near_yes p q.0 q.1 (k ▹ v ▹ ts) a
              ∙ ap (λ (us : Forest Label). p.0 ▹ p.1 ▹ us) (sym (near_yes q k v ts e))
              ∙ sym (near_no q p.0 p.1 (k ▹ v ▹ ts) b))
          go false e true f ih =
              rw (near_no q k v ts e, near_yes p k v ts f)
              (near_yes p k v (put_in before q ts) f
              ∙ ap (λ (us : Forest Label). p.0 ▹ p.1 ▹ us) (sym (near_no q k v ts e))
              ∙ sym (near_no q p.0 p.1 (k ▹ v ▹ ts) b))
          go false e false f ih =
              rw (near_no q k v ts e, near_no p k v ts f)
              (near_no p k v (put_in before q ts) f
              ∙ ap (λ (us : Forest Label). k ▹ v ▹ us) ih
              ∙ sym (near_no q k v (put_in before p ts) e))

    put_either : (p q : Pair) → (before p q ≡ true → before q p ≡ true → p ≡ q) → (ts : Forest Label)
        → put_in before p (put_in before q ts) ≡ put_in before q (put_in before p ts)
    put_either p q tie ts = go (before p q) refl (before q p) refl
      where
        go : (x : Bool) → before p q ≡ x → (y : Bool) → before q p ≡ y → put_in before p (put_in before q ts) ≡ put_in before q (put_in before p ts)
        go true e true f = rw (tie e f)
        go true e false f = put_twice p q e f ts
        go false e true f = sym (put_twice q p f e ts)
        go false e false f = never (sym f ∙ total p q e)

    -- The outcome is one for all runs of the same pairs, of which no two stand for one another: Good says so of a run.
    module _ (Good : Forest Label → Type 0)
        (rest : (k v : Term) (ts : Forest Label) → Good (k ▹ v ▹ ts) → Good ts)
        (kept : (ts us : Forest Label) → Rearranged ts us → Good ts → Good us)
        (tie : (k v j w : Term) (ts : Forest Label) → Good (k ▹ v ▹ j ▹ w ▹ ts)
        → before (k, v) (j, w) ≡ true → before (j, w) (k, v) ≡ true → ◌≡◌ {A = Pair} (k, v) (j, w)) where
      pub one_order : {ts us : Forest Label} → Rearranged ts us → Good ts → in_order before ts ≡ in_order before us
      unfolding in_order
      one_order stay g = refl
      one_order (keep k v {ts} {us} r) g = ap (λ (xs : Forest Label). put_in before (k, v) xs) (one_order r (rest k v ts g))
      one_order (swap k v j w {ts}) g = put_either (k, v) (j, w) (tie k v j w ts g) (in_order before ts)
      one_order (chain {ts} {us} r s) g = one_order r g ∙ one_order s (kept ts us r g)
