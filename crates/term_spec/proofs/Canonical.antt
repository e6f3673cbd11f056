-- The canonical form of a valid term does not depend on the order of pairs: what the writer needs, which goes by the terms as they were read. And its
-- maps' keys rise in byte order.
use mathlib.Core.Path.{◌≡◌, refl, sym, ◌∙◌, ap, ap₂}
use mathlib.Core.Bool.{Bool, true, false, ◌||◌}
use mathlib.Core.List.{List, [], ◌∷◌}
use Prim.Native.Nat.{ℕ}
use Rattle.term_spec.specs.Tree.{Forest, node, empty, ◌▹◌}
use Rattle.term_spec.specs.Term.{Label, Term}
use Rattle.term_spec.specs.Order.{compare_lists}
use Rattle.term_spec.specs.Pairs.{Pair, put_in, put_near, in_order, with_value, arranged_parts, arranged, all_arranged, Next, NextValue, Rising, RisingValue}
use Rattle.term_spec.specs.Meaning.{pair_before, ordered}
use Rattle.term_spec.specs.Same.{Rearranged}
use Rattle.term_spec.specs.Equal.{same, among}
use Rattle.term_spec.specs.Canonical.{bytes_of, key_before, canonical}
use Rattle.term_spec.specs.Valid.{Fits, Valid, Valids, Keys}
use Rattle.term_spec.proofs.Tests.{never}
use Rattle.term_spec.proofs.Order.{lists_flipped, lists_join, lists_equal, either_way, joined_way, both_ways}
use Rattle.term_spec.proofs.Pairs.{Kind, a_map, no_map, kind, near_yes, near_no, order_rearranges, all_arranged_rearranges, one_order}
use Rattle.term_spec.proofs.Arranged.{same_equal, keys_rearranged, valids_rearranged, keys_arranged, valids_arranged}
use Rattle.term_spec.proofs.Injective.{bytes_injective}

-- byte order is total, and two keys of a valid map never have the same bytes
key_total : (p q : Pair) → key_before p q ≡ false → key_before q p ≡ true
unfolding key_before
key_total p q e = either_way (compare_lists (bytes_of p.0) (bytes_of q.0)) (compare_lists (bytes_of q.0) (bytes_of p.0)) (lists_flipped (bytes_of p.0) (bytes_of q.0)) e

key_joins : (p q r : Pair) → key_before p q ≡ true → key_before q r ≡ true → key_before p r ≡ true
unfolding key_before
key_joins p q r e f =
    joined_way (compare_lists (bytes_of p.0) (bytes_of q.0)) (compare_lists (bytes_of q.0) (bytes_of r.0)) (compare_lists (bytes_of p.0) (bytes_of r.0))
    (lists_join (bytes_of p.0) (bytes_of q.0) (bytes_of r.0)) e f

key_same : (p q : Pair) → key_before p q ≡ true → key_before q p ≡ true → bytes_of p.0 ≡ bytes_of q.0
unfolding key_before
key_same p q e f =
    lists_equal (bytes_of p.0) (bytes_of q.0)
    (both_ways (compare_lists (bytes_of p.0) (bytes_of q.0)) (compare_lists (bytes_of q.0) (bytes_of p.0)) (lists_flipped (bytes_of p.0) (bytes_of q.0)) e f)

-- a run of pairs of a valid map
abbrev Good : ℕ → Forest Label → Type 0
Good flags ts = (e : List Term) × Keys e ts × Valids flags ts

good_tie : (flags : ℕ) (k v j w : Term) (ts : Forest Label) → Good flags (k ▹ v ▹ j ▹ w ▹ ts) → key_before (k, v) (j, w) ≡ true → key_before (j, w) (k, v) ≡ true → ◌≡◌ {A = Pair} (k, v) (j, w)
unfolding among
good_tie flags k v j w ts g x y =
    let one : k ≡ j = bytes_injective flags k j g.2.0 g.2.1.1.0 (key_same (k, v) (j, w) x y) in
    let found : same (ordered j) (ordered k) ≡ true = same_equal (ordered j) (ordered k) (ap ordered (sym one)) in
    never (sym g.1.1.0 ∙ ap (λ (b : Bool). b || among (ordered j) g.0) found)

pub one_canonical : (flags : ℕ) {ts us : Forest Label} → Rearranged ts us → (e : List Term) → Keys e ts → Valids flags ts → in_order key_before ts ≡ in_order key_before us
one_canonical flags {ts} {us} r e ks vs =
    one_order key_before key_total key_joins (Good flags) (λ k v ts g. (ordered k ∷ g.0, g.1.1, g.2.1.1))
    (λ ts us r g. (g.0, keys_rearranged r g.0 g.1, valids_rearranged flags r g.2)) (good_tie flags) r (e, ks, vs)

module _ (before : Pair → Pair → Bool) where
  parts_canonical : (flags : ℕ) (l : Label) (ts : Forest Label) → Fits flags l ts → Valids flags ts
      → arranged_parts key_before l (all_arranged key_before (arranged_parts before l (all_arranged before ts))) ≡ arranged_parts key_before l (all_arranged key_before (all_arranged before ts))
  unfolding arranged_parts
  parts_canonical flags l ts f vs = go (kind l) f
    where
      us : Forest Label
      us = all_arranged before ts

      go : {l : Label} → Kind l → Fits flags l ts
          → arranged_parts key_before l (all_arranged key_before (arranged_parts before l us)) ≡ arranged_parts key_before l (all_arranged key_before us)
      go a_map f =
          sym (one_canonical flags (all_arranged_rearranges key_before (order_rearranges before us)) []
          (keys_arranged key_before [] us (keys_arranged before [] ts f.1))
          (valids_arranged key_before flags us (valids_arranged before flags ts vs)))
      go (no_map {l} stays) f = ap (λ (xs : Forest Label). arranged_parts key_before l (all_arranged key_before xs)) (stays before us)

  mutual
    unfolding arranged

    arranged_canonical : (flags : ℕ) (t : Term) → Valid flags t → arranged key_before (arranged before t) ≡ arranged key_before t
    arranged_canonical flags (node l ts) ok =
        ap (λ (us : Forest Label). node l us)
        (parts_canonical flags l ts ok.0 ok.1 ∙ ap (λ (us : Forest Label). arranged_parts key_before l us) (all_arranged_canonical flags ts ok.1))

    all_arranged_canonical : (flags : ℕ) (ts : Forest Label) → Valids flags ts → all_arranged key_before (all_arranged before ts) ≡ all_arranged key_before ts
    all_arranged_canonical flags empty ok = refl
    all_arranged_canonical flags (t ▹ ts) ok = ap₂ (λ (u : Term) (us : Forest Label). u ▹ us) (arranged_canonical flags t ok.0) (all_arranged_canonical flags ts ok.1)

-- the canonical form of what a term means is that of the term as it was read
pub canonical_ordered : (flags : ℕ) (t : Term) → Valid flags t → canonical (ordered t) ≡ canonical t
unfolding canonical
canonical_ordered flags t ok = ap bytes_of (arranged_canonical pair_before flags t ok)

-- Runs of pairs in which each may stand before the next.
module _ (before : Pair → Pair → Bool) where
  module _ (total : (p q : Pair) → before p q ≡ false → before q p ≡ true) where
    next_put : (p q : Pair) (ts : Forest Label) → before p q ≡ true → Next before p ts → Next before p (put_in before q ts)
    unfolding put_in
    next_put p q empty e n = e
    next_put p q (k ▹ empty) e n = e
    next_put p q (k ▹ v ▹ ts) e n = go (before q (k, v)) refl
      where
        go : (b : Bool) → before q (k, v) ≡ b → Next before p (put_near before q k (v ▹ ts))
        go true f = rw (near_yes before q k v ts f) e
        go false f = rw (near_no before q k v ts f) n

    mutual
      unfolding put_in

      rising_put : (p : Pair) (ts : Forest Label) → Rising before ts → Rising before (put_in before p ts)
      rising_put p empty r = (tt, tt)
      rising_put p (k ▹ ts) r = rising_near p k ts r

      rising_near : (p : Pair) (k : Term) (ts : Forest Label) → RisingValue before k ts → Rising before (put_near before p k ts)
      rising_near p k empty r = (tt, tt)
      rising_near p k (v ▹ ts) r = go (before p (k, v)) refl (rising_put p ts r.1)
        where
          go : (b : Bool) → before p (k, v) ≡ b → Rising before (put_in before p ts) → Rising before (put_near before p k (v ▹ ts))
          go true e ih = rw (near_yes before p k v ts e) (e, r)
          go false e ih = rw (near_no before p k v ts e) (next_put (k, v) p ts (total p (k, v) e) r.0, ih)

    mutual
      unfolding in_order

      pub rising : (ts : Forest Label) → Rising before (in_order before ts)
      rising empty = tt
      rising (k ▹ ts) = rising_value k ts

      rising_value : (k : Term) (ts : Forest Label) → Rising before (with_value before k ts)
      rising_value k empty = tt
      rising_value k (v ▹ ts) = rising_put (k, v) (in_order before ts) (rising ts)

  -- a run that rises stays
  mutual
    unfolding in_order put_in

    rising_stays : (ts : Forest Label) → Rising before ts → in_order before ts ≡ ts
    rising_stays empty r = refl
    rising_stays (k ▹ ts) r = value_stays k ts r

    value_stays : (k : Term) (ts : Forest Label) → RisingValue before k ts → with_value before k ts ≡ k ▹ ts
    value_stays k empty r = refl
    value_stays k (v ▹ ts) r = ap (put_in before (k, v)) (rising_stays ts r.1) ∙ first_stays k v ts r.0

    first_stays : (k v : Term) (ts : Forest Label) → Next before (k, v) ts → put_in before (k, v) ts ≡ k ▹ v ▹ ts
    first_stays k v empty n = refl
    first_stays k v (j ▹ ts) n = first_value_stays k v j ts n

    first_value_stays : (k v j : Term) (ts : Forest Label) → NextValue before (k, v) j ts → put_near before (k, v) j ts ≡ k ▹ v ▹ j ▹ ts
    first_value_stays k v j empty n = refl
    first_value_stays k v j (w ▹ ts) n = near_yes before (k, v) j w ts n

-- the pairs of a map in canonical form stand in rising byte order of the keys' bytes
pub keys_rise : (ts : Forest Label) → Rising key_before (in_order key_before ts)
keys_rise ts = rising key_before key_total ts

-- there is one such run of the same pairs: however the code sorts, this is what it finds
pub only_order : (flags : ℕ) {ts us : Forest Label} → Rearranged ts us → (e : List Term) → Keys e ts → Valids flags ts → Rising key_before us → in_order key_before ts ≡ us
only_order flags {ts} {us} r e ks vs rise = one_canonical flags r e ks vs ∙ rising_stays key_before us rise
