-- Runs of pairs: which pairs they have, that no key stands in them twice, and that runs of the same pairs have one order.
use mathlib.Core.Path.{◌≡◌, refl, sym, ◌∙◌, ap}
use mathlib.Core.Logic.{◌⊎◌, inl, inr}
use mathlib.Core.Bool.{Bool, true, false, ◌||◌}
use mathlib.Core.List.{List, ◌∷◌}
use Prim.Native.Nat.{ℕ, zero, suc, ◌+◌}
use native.Mathlib.Omega.{arith}
use Rattle.term_spec.specs.Tree.{Forest, empty, ◌▹◌, ◌▹▹◌, count}
use Rattle.term_spec.specs.Term.{Label, Term}
use Rattle.term_spec.specs.Pairs.{in_order, arranged}
use Rattle.term_spec.specs.Meaning.{pair_before, ordered, all_ordered}
use Rattle.term_spec.specs.Same.{Rearranged, stay, keep, swap, chain}
use Rattle.term_spec.specs.Equal.{same, among}
use Rattle.term_spec.specs.Valid.{Keys, Values}
use Rattle.term_spec.proofs.Tests.{never}
use Rattle.term_spec.proofs.Pairs.{rearranged_back, rearranged_count, order_rearranges}
use Rattle.term_spec.proofs.Same.{one_meaning}
use Rattle.term_spec.proofs.Arranged.{same_equal}

-- a pair of a run
abbrev mutual
  pub In : Term → Term → Forest Label → Type 0
  In k v empty = ⊥
  In k v (j ▹ us) = InValue k v j us

  pub InValue : Term → Term → Term → Forest Label → Type 0
  InValue k v j empty = ⊥
  InValue k v j (w ▹ us) = ((j ≡ k) × (w ≡ v)) ⊎ In k v us

in_rearranged : {ts us : Forest Label} → Rearranged ts us → (k v : Term) → In k v ts → In k v us
in_rearranged stay k v n = n
in_rearranged (keep i x {ts} {us} r) k v n = go n (λ n'. in_rearranged r k v n')
  where
    go : ((i ≡ k) × (x ≡ v)) ⊎ In k v ts → (In k v ts → In k v us) → ((i ≡ k) × (x ≡ v)) ⊎ In k v us
    go (inl e) f = inl e
    go (inr n) f = inr (f n)
in_rearranged (swap i x j y {ts}) k v n = go n
  where
    go : ((i ≡ k) × (x ≡ v)) ⊎ (((j ≡ k) × (y ≡ v)) ⊎ In k v ts) → ((j ≡ k) × (y ≡ v)) ⊎ (((i ≡ k) × (x ≡ v)) ⊎ In k v ts)
    go (inl e) = inr (inl e)
    go (inr (inl e)) = inl e
    go (inr (inr n)) = inr (inr n)
in_rearranged (chain r s) k v n = in_rearranged s k v (in_rearranged r k v n)

-- each pair of the first run is one of the second
abbrev mutual
  pub AllIn : Forest Label → Forest Label → Type 0
  AllIn empty us = Unit {0}
  AllIn (k ▹ ts) us = AllInValue k ts us

  pub AllInValue : Term → Forest Label → Forest Label → Type 0
  AllInValue k empty us = ⊥
  AllInValue k (v ▹ ts) us = In k v us × AllIn ts us

-- no two pairs have one key
abbrev mutual
  pub Distinct : Forest Label → Type 0
  Distinct empty = Unit {0}
  Distinct (k ▹ ts) = DistinctValue k ts

  pub DistinctValue : Term → Forest Label → Type 0
  DistinctValue k empty = Unit {0}
  DistinctValue k (v ▹ ts) = ((x : Term) → In k x ts → ⊥) × Distinct ts

-- a pair taken out of a run
record Out (k v : Term) (us : Forest Label) : Type 0 where
  rest : Forest Label
  moved : Rearranged us (k ▹ v ▹ rest)
  others : (i x : Term) → In i x us → ¬ (i ≡ k) → In i x rest

mutual
  out : (k v : Term) (us : Forest Label) → In k v us → Out k v us
  out k v empty n = absurd n
  out k v (j ▹ us) n = out_value k v j us n

  out_value : (k v j : Term) (us : Forest Label) → InValue k v j us → Out k v (j ▹ us)
  out_value k v j empty n = absurd n
  out_value k v j (w ▹ us) n = go n (λ n'. out k v us n')
    where
      first : (j ≡ k) × (w ≡ v) → (i x : Term) → ((j ≡ i) × (w ≡ x)) ⊎ In i x us → ¬ (i ≡ k) → In i x us
      first e i x (inl f) ne = absurd (ne (sym f.0 ∙ e.0))
      first e i x (inr n) ne = n

      further : (o : Out k v us) (i x : Term) → ((j ≡ i) × (w ≡ x)) ⊎ In i x us → ¬ (i ≡ k) → ((j ≡ i) × (w ≡ x)) ⊎ In i x o.rest
      further o i x (inl f) ne = inl f
      further o i x (inr n) ne = inr (o.others i x n ne)

      go : ((j ≡ k) × (w ≡ v)) ⊎ In k v us → (In k v us → Out k v us) → Out k v (j ▹ w ▹ us)
      go (inl e) ih = record { rest = us; moved = rw (e.0, e.1) stay; others = first e }
      go (inr n) ih = let o : Out k v us = ih n in record { rest = j ▹ w ▹ o.rest; moved = chain (keep j w o.moved) (swap j w k v); others = further o }

mutual
  in_rest : (ts us : Forest Label) (k v : Term) (o : Out k v us) → ((x : Term) → In k x ts → ⊥) → AllIn ts us → AllIn ts o.rest
  in_rest empty us k v o absent a = tt
  in_rest (i ▹ ts) us k v o absent a = in_rest_value i ts us k v o absent a

  in_rest_value : (i : Term) (ts us : Forest Label) (k v : Term) (o : Out k v us) → ((x : Term) → InValue k x i ts → ⊥) → AllInValue i ts us → AllInValue i ts o.rest
  in_rest_value i empty us k v o absent a = absurd a
  in_rest_value i (x ▹ ts) us k v o absent a =
      (o.others i x a.0 (λ e. absent x (inl (e, refl))), in_rest ts us k v o (λ y n. absent y (inr n)) a.1)

mutual
  -- as many pairs, each of them one of the others: the same pairs
  permuted : (ts us : Forest Label) → count ts ≡ count us → Distinct ts → AllIn ts us → Rearranged ts us
  permuted empty empty n d a = stay
  permuted empty (u ▹ us) n d a = absurd (omega arith)
  permuted (k ▹ ts) us n d a = permuted_value k ts us n d a

  permuted_value : (k : Term) (ts us : Forest Label) → suc (count ts) ≡ count us → DistinctValue k ts → AllInValue k ts us → Rearranged (k ▹ ts) us
  permuted_value k empty us n d a = absurd a
  permuted_value k (v ▹ ts) us n d a =
      let o : Out k v us = out k v us a.0 in
      let left : suc (suc (count o.rest)) ≡ count us = rearranged_count o.moved in
      chain (keep k v (permuted ts o.rest (omega arith) d.1 (in_rest ts us k v o d.0 a.1))) (rearranged_back o.moved)

or_true : (a b : Bool) → b ≡ true → (a || b) ≡ true
or_true true b e = refl
or_true false b e = e

-- keys of a valid map
mutual
  unfolding arranged among

  absent : (e : List Term) (ts : Forest Label) → Keys e ts → (k x : Term) → among k e ≡ true → In k x (all_ordered ts) → ⊥
  absent e empty ok k x a n = n
  absent e (j ▹ ts) ok k x a n =
      absent_value (ordered j ∷ e) (ordered j) ts ok.1 k x (or_true (same k (ordered j)) (among k e) a) (λ f. never (sym ok.0 ∙ ap (λ (t : Term). among t e) f ∙ a)) n

  absent_value : (e : List Term) (j : Term) (ts : Forest Label) → Values e ts → (k x : Term) → among k e ≡ true → (j ≡ k → ⊥) → InValue k x j (all_ordered ts) → ⊥
  absent_value e j empty ok k x a ne n = n
  absent_value e j (w ▹ ts) ok k x a ne (inl f) = ne f.0
  absent_value e j (w ▹ ts) ok k x a ne (inr n) = absent e ts ok k x a n

mutual
  unfolding arranged among

  pub distinct : (e : List Term) (ts : Forest Label) → Keys e ts → Distinct (all_ordered ts)
  distinct e empty ok = tt
  distinct e (k ▹ ts) ok = distinct_value e k ts ok.1

  distinct_value : (e : List Term) (k : Term) (ts : Forest Label) → Values (ordered k ∷ e) ts → DistinctValue (ordered k) (all_ordered ts)
  distinct_value e k empty ok = absurd ok
  distinct_value e k (v ▹ ts) ok = (
    λ x n. absent (ordered k ∷ e) ts ok (ordered k) x (ap (λ (b : Bool). b || among (ordered k) e) (same_equal (ordered k) (ordered k) refl)) n,
    distinct (ordered k ∷ e) ts ok,
  )

-- a key has one value
mutual
  pub one_value : (us : Forest Label) (k v w : Term) → Distinct us → In k v us → In k w us → v ≡ w
  one_value empty k v w d m n = absurd m
  one_value (j ▹ us) k v w d m n = one_value_of j us k v w d m n

  one_value_of : (j : Term) (us : Forest Label) (k v w : Term) → DistinctValue j us → InValue k v j us → InValue k w j us → v ≡ w
  one_value_of j empty k v w d m n = absurd m
  one_value_of j (x ▹ us) k v w d (inl e) (inl f) = sym e.1 ∙ f.1
  one_value_of j (x ▹ us) k v w d (inl e) (inr n) = absurd (d.0 w (rw e.0 n))
  one_value_of j (x ▹ us) k v w d (inr m) (inl f) = absurd (d.0 v (rw f.0 m))
  one_value_of j (x ▹ us) k v w d (inr m) (inr n) = one_value us k v w d.1 m n

mutual
  all_in_by : (ts us : Forest Label) → ((k v : Term) → In k v ts → In k v us) → (n : ℕ) → count ts ≡ n + n → AllIn ts us
  all_in_by empty us h n e = tt
  all_in_by (k ▹ ts) us h n e = all_in_value_by k ts us h n e

  all_in_value_by : (k : Term) (ts us : Forest Label) → ((i x : Term) → InValue i x k ts → In i x us) → (n : ℕ) → suc (count ts) ≡ n + n → AllInValue k ts us
  all_in_value_by k empty us h n e = absurd (omega arith)
  all_in_value_by k (v ▹ ts) us h zero e = absurd (omega arith)
  all_in_value_by k (v ▹ ts) us h (suc n) e = (h k v (inl (refl, refl)), all_in_by ts us (λ i x m. h i x (inr m)) n (omega arith))

-- two runs of as many pairs, none of whose keys stands twice, have one order exactly where each pair of the first is one of the second
pub ordered_in : (ts us : Forest Label) (n : ℕ) → count ts ≡ n + n → count us ≡ n + n → Distinct ts → AllIn ts us → in_order pair_before ts ≡ in_order pair_before us
ordered_in ts us n e f d a = one_meaning (permuted ts us (e ∙ sym f) d a)

pub in_ordered : (ts us : Forest Label) (n : ℕ) → count ts ≡ n + n → in_order pair_before ts ≡ in_order pair_before us → AllIn ts us
in_ordered ts us n e f =
    let back : Rearranged (in_order pair_before us) us = rearranged_back (order_rearranges pair_before us) in
    let turned : Rearranged (in_order pair_before ts) us = rw f back in
    let both : Rearranged ts us = chain (order_rearranges pair_before ts) turned in
    all_in_by ts us (λ k v. in_rearranged both k v) n e

-- ---- one run after another

mutual
  pub in_left : (k v : Term) (ts us : Forest Label) → In k v ts → In k v (ts ▹▹ us)
  in_left k v empty us n = absurd n
  in_left k v (j ▹ ts) us n = in_left_value k v j ts us n

  in_left_value : (k v j : Term) (ts us : Forest Label) → InValue k v j ts → InValue k v j (ts ▹▹ us)
  in_left_value k v j empty us n = absurd n
  in_left_value k v j (w ▹ ts) us (inl e) = inl e
  in_left_value k v j (w ▹ ts) us (inr n) = inr (in_left k v ts us n)

-- the first of an even number of parts
mutual
  pub in_right : (k v : Term) (ts us : Forest Label) (n : ℕ) → count ts ≡ n + n → In k v us → In k v (ts ▹▹ us)
  in_right k v empty us n e i = i
  in_right k v (j ▹ ts) us zero e i = absurd (omega arith)
  in_right k v (j ▹ ts) us (suc n) e i = in_right_value k v j ts us n (omega arith) i

  in_right_value : (k v j : Term) (ts us : Forest Label) (n : ℕ) → count ts ≡ suc (n + n) → In k v us → InValue k v j (ts ▹▹ us)
  in_right_value k v j empty us n e i = absurd (omega arith)
  in_right_value k v j (w ▹ ts) us n e i = inr (in_right k v ts us n (omega arith) i)

mutual
  pub in_either : (k v : Term) (ts us : Forest Label) (n : ℕ) → count ts ≡ n + n → In k v (ts ▹▹ us) → In k v ts ⊎ In k v us
  in_either k v empty us n e i = inr i
  in_either k v (j ▹ ts) us zero e i = absurd (omega arith)
  in_either k v (j ▹ ts) us (suc n) e i = in_either_value k v j ts us n (omega arith) i

  in_either_value : (k v j : Term) (ts us : Forest Label) (n : ℕ) → count ts ≡ suc (n + n) → InValue k v j (ts ▹▹ us) → InValue k v j ts ⊎ In k v us
  in_either_value k v j empty us n e i = absurd (omega arith)
  in_either_value k v j (w ▹ ts) us n e (inl f) = inl (inl f)
  in_either_value k v j (w ▹ ts) us n e (inr i) = go (in_either k v ts us n (omega arith) i)
    where
      go : In k v ts ⊎ In k v us → (((j ≡ k) × (w ≡ v)) ⊎ In k v ts) ⊎ In k v us
      go (inl h) = inl (inr h)
      go (inr h) = inr h

-- keys that do not stand twice in the whole do not in a part
mutual
  pub distinct_left : (ts us : Forest Label) → Distinct (ts ▹▹ us) → Distinct ts
  distinct_left empty us d = tt
  distinct_left (k ▹ ts) us d = distinct_left_value k ts us d

  distinct_left_value : (k : Term) (ts us : Forest Label) → DistinctValue k (ts ▹▹ us) → DistinctValue k ts
  distinct_left_value k empty us d = tt
  distinct_left_value k (v ▹ ts) us d = (λ x n. d.0 x (in_left k x ts us n), distinct_left ts us d.1)

mutual
  pub distinct_right : (ts us : Forest Label) (n : ℕ) → count ts ≡ n + n → Distinct (ts ▹▹ us) → Distinct us
  distinct_right empty us n e d = d
  distinct_right (k ▹ ts) us zero e d = absurd (omega arith)
  distinct_right (k ▹ ts) us (suc n) e d = distinct_right_value k ts us n (omega arith) d

  distinct_right_value : (k : Term) (ts us : Forest Label) (n : ℕ) → count ts ≡ suc (n + n) → DistinctValue k (ts ▹▹ us) → Distinct us
  distinct_right_value k empty us n e d = absurd (omega arith)
  distinct_right_value k (v ▹ ts) us n e d = distinct_right ts us n (omega arith) d.1
