-- What a term means does not depend on the order of pairs, and depends on all else: `same_exactly` and, over it, `maps_have_no_order`, at the end.
use mathlib.Core.Path.{◌≡◌, refl, sym, ◌∙◌, ap, ap₂, subst}
use mathlib.Core.Logic.{◌↔◌}
use mathlib.Core.Bool.{Bool, true, false}
use Rattle.term_spec.specs.Tree.{Forest, node, empty, ◌▹◌}
use Rattle.term_spec.specs.Term.{Label, Term, map}
use Rattle.term_spec.specs.Order.{Order, ◌then◌, compare}
use Rattle.term_spec.specs.Pairs.{Pair, in_order, arranged_parts, arranged, all_arranged}
use Rattle.term_spec.specs.Meaning.{pair_before, ordered, all_ordered}
use Rattle.term_spec.specs.Reading.{as_read}
use Rattle.term_spec.specs.Same.{Rearranged, Same, with_parts, with_pairs, and_then, Sames, no_more, and_also, MapsHaveNoOrder}
use Rattle.term_spec.proofs.Order.{flipped, Joins, flipped_then, joins_then, then_equal, compare_flipped, compare_join, compare_equal, either_way, joined_way, both_ways}
use Rattle.term_spec.proofs.Pairs.{rearranged_back, Kind, a_map, no_map, kind, order_rearranges, all_arranged_rearranges, one_order}

-- pairs, by key and then by value
abbrev compare_pairs : Pair → Pair → Order
compare_pairs p q = compare p.0 q.0 then compare p.1 q.1

pairs_flipped : (p q : Pair) → compare_pairs q p ≡ flipped (compare_pairs p q)
pairs_flipped p q = ap₂ ◌then◌ (compare_flipped p.0 q.0) (compare_flipped p.1 q.1) ∙ sym (flipped_then (compare p.0 q.0) (compare p.1 q.1))

pairs_join : (p q r : Pair) → Joins (compare_pairs p q) (compare_pairs q r) (compare_pairs p r)
pairs_join p q r =
    joins_then (compare p.0 q.0) (compare q.0 r.0) (compare p.0 r.0) (compare p.1 q.1) (compare q.1 r.1) (compare p.1 r.1)
    (compare_join p.0 q.0 r.0) (compare_join p.1 q.1 r.1)

pair_total : (p q : Pair) → pair_before p q ≡ false → pair_before q p ≡ true
unfolding pair_before
pair_total p q e = either_way (compare_pairs p q) (compare_pairs q p) (pairs_flipped p q) e

pair_joins : (p q r : Pair) → pair_before p q ≡ true → pair_before q r ≡ true → pair_before p r ≡ true
unfolding pair_before
pair_joins p q r e f = joined_way (compare_pairs p q) (compare_pairs q r) (compare_pairs p r) (pairs_join p q r) e f

pair_tie : (p q : Pair) → pair_before p q ≡ true → pair_before q p ≡ true → p ≡ q
unfolding pair_before
pair_tie p q e f =
    let b = then_equal (compare p.0 q.0) (compare p.1 q.1) (both_ways (compare_pairs p q) (compare_pairs q p) (pairs_flipped p q) e f) in
    ap₂ (λ (k v : Term). (k, v)) (compare_equal p.0 q.0 b.0) (compare_equal p.1 q.1 b.1)

-- the same pairs come out as one run
pub one_meaning : {ts us : Forest Label} → Rearranged ts us → in_order pair_before ts ≡ in_order pair_before us
one_meaning r = one_order pair_before pair_total pair_joins (λ _. Unit {0}) (λ k v ts g. tt) (λ ts us r g. tt) (λ k v j w ts g e f. pair_tie (k, v) (j, w) e f) r tt

-- whatever order the pairs were put in, the meaning stays
module _ (before : Pair → Pair → Bool) where
  parts_ordered : (l : Label) (ts : Forest Label) → arranged_parts pair_before l (all_ordered (arranged_parts before l ts)) ≡ arranged_parts pair_before l (all_ordered ts)
  unfolding arranged_parts
  parts_ordered l ts = go (kind l)
    where
      go : {l : Label} → Kind l → arranged_parts pair_before l (all_ordered (arranged_parts before l ts)) ≡ arranged_parts pair_before l (all_ordered ts)
      go a_map = sym (one_meaning (all_arranged_rearranges pair_before (order_rearranges before ts)))
      go (no_map {l} stays) = ap (λ (us : Forest Label). arranged_parts pair_before l (all_ordered us)) (stays before ts)

  mutual
    unfolding arranged

    pub ordered_arranged : (t : Term) → ordered (arranged before t) ≡ ordered t
    ordered_arranged (node l ts) =
        ap (λ (us : Forest Label). node l us)
        (parts_ordered l (all_arranged before ts) ∙ ap (λ (us : Forest Label). arranged_parts pair_before l us) (all_ordered_arranged ts))

    pub all_ordered_arranged : (ts : Forest Label) → all_ordered (all_arranged before ts) ≡ all_ordered ts
    all_ordered_arranged empty = refl
    all_ordered_arranged (t ▹ ts) = ap₂ (λ (u : Term) (us : Forest Label). u ▹ us) (ordered_arranged t) (all_ordered_arranged ts)

-- a meaning means itself
pub ordered_ordered : (t : Term) → ordered (ordered t) ≡ ordered t
ordered_ordered t = ordered_arranged pair_before t

-- the same but for the order of pairs
mutual
  unfolding arranged arranged_parts

  same_one : {t u : Term} → Same t u → ordered t ≡ ordered u
  same_one (with_parts {l} s) = ap (λ (xs : Forest Label). node l (arranged_parts pair_before l xs)) (sames_one s)
  same_one (with_pairs r) = ap (λ (xs : Forest Label). node map xs) (one_meaning (all_arranged_rearranges pair_before r))
  same_one (and_then s s') = same_one s ∙ same_one s'

  sames_one : {ts us : Forest Label} → Sames ts us → all_ordered ts ≡ all_ordered us
  sames_one no_more = refl
  sames_one (and_also s ss) = ap₂ (λ (u : Term) (us : Forest Label). u ▹ us) (same_one s) (sames_one ss)

mutual
  same_back : {t u : Term} → Same t u → Same u t
  same_back (with_parts s) = with_parts (sames_back s)
  same_back (with_pairs r) = with_pairs (rearranged_back r)
  same_back (and_then s s') = and_then (same_back s') (same_back s)

  sames_back : {ts us : Forest Label} → Sames ts us → Sames us ts
  sames_back no_more = no_more
  sames_back (and_also s ss) = and_also (same_back s) (sames_back ss)

mutual
  same_self : (t : Term) → Same t t
  same_self (node l ts) = with_parts (sames_self ts)

  sames_self : (ts : Forest Label) → Sames ts ts
  sames_self empty = no_more
  sames_self (t ▹ ts) = and_also (same_self t) (sames_self ts)

module _ (before : Pair → Pair → Bool) where
  same_parts : (l : Label) (ts : Forest Label) → Same (node l ts) (node l (arranged_parts before l ts))
  unfolding arranged_parts
  same_parts l ts = go (kind l)
    where
      go : {l : Label} → Kind l → Same (node l ts) (node l (arranged_parts before l ts))
      go a_map = with_pairs (order_rearranges before ts)
      go (no_map {l} stays) = rw (stays before ts) (same_self (node l ts))

  mutual
    unfolding arranged

    pub same_arranged : (t : Term) → Same t (arranged before t)
    same_arranged (node l ts) = and_then (with_parts (sames_arranged ts)) (same_parts l (all_arranged before ts))

    sames_arranged : (ts : Forest Label) → Sames ts (all_arranged before ts)
    sames_arranged empty = no_more
    sames_arranged (t ▹ ts) = and_also (same_arranged t) (sames_arranged ts)

-- two terms have one meaning exactly where they are the same but for the order of pairs, at any depth
pub same_exactly : (t u : Term) → (ordered t ≡ ordered u) ↔ Same t u
same_exactly t u =
    (λ e. and_then (same_arranged pair_before t) (subst (λ (x : Term). Same x u) (sym e) (same_back (same_arranged pair_before u))), λ s. same_one s)

pub maps_have_no_order : MapsHaveNoOrder
maps_have_no_order = record { as_they_came = λ t u. same_exactly (as_read t) (as_read u); of_any = same_exactly }
