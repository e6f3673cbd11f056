-- The rows of terms that stand in a table, each of which is known.
use mathlib.Core.Path.{◌≡◌, refl, sym, ◌∙◌, ap, ap₂, subst}
use mathlib.Core.Bool.{Bool, true, false, cond}
use mathlib.Core.List.{List, [], ◌∷◌, ◌++◌}
use mathlib.Core.Option.{Option, some}
use Prim.Native.Nat.{ℕ, suc, ◌+◌, ◌≤◌, ◌<◌}
use native.Mathlib.Omega.{arith}
use lib.Dec.{eqb, ltb}
use lib.ListN.{length, get_or}
use borrow.Author.Tests.{ltb-true, ltb-false}
use Rattle.term_spec.specs.Tree.{Tree, Forest, node, empty, ◌▹◌, ◌▹▹◌, count, size, sizes, depth, deepest}
use Rattle.term_spec.specs.Term.{Label, Term, map}
use Rattle.term_spec.specs.Pairs.{Pair, in_order, arranged_parts, arranged, put_in}
use Rattle.term_spec.specs.Meaning.{pair_before}
use Rattle.term_spec.specs.Valid.{Valids}
use Rattle.term_spec.specs.Reading.{Offset, Located, meaning}
use Rattle.term_spec.specs.Message.{Terms, all_as_read, meanings}
use Rattle.term_spec.specs.Rows.{Row, tree_rows, rows, kind_at, kind_in, parts_in, size_in, TreeHere, RowsHere}
use Rattle.term_spec.proofs.Pairs.{Kind, a_map, no_map, kind, rearranged_count, order_rearranges, count_arranged}
use Rattle.term_spec.proofs.Rows.{count_relabels, rows_join}
use Rattle.term_spec.proofs.Words.{EachRow, SmallRow, WordOf, node_packed, node_below, parts_here, left_here, right_here, first_here, others_here, row_of}
use Rattle.term_spec.proofs.Tests.{never}
use Rattle.term_rows.specs.Rows.{unordered_rows, pair_size}
use Rattle.row_compare.proofs.Alike.{Agree}

-- ---- tests and the equalities that they stand for

-- two tests of one fact are equal
pub agree_same : {P : Type 0} (b c : Bool) → Agree b P → Agree c P → b ≡ c
agree_same true true p q = refl
agree_same true false p q = sym (q.back (p.sure refl))
agree_same false true p q = p.back (q.sure refl)
agree_same false false p q = refl

-- one test, and where it holds another
pub and_then : {P Q : Type 0} (b c : Bool) → Agree b P → (P → Agree c Q) → Agree (cond b c false) (P × Q)
and_then true c p q = let k = q (p.sure refl) in record { sure = λ e. (p.sure refl, k.sure e); back = λ h. k.back h.1 }
and_then false c p q = record { sure = never; back = λ h. p.back h.0 }

-- ---- the rows of terms that stand in a table, each of which is known

-- what a row says of its term: the label and the number of parts
abbrev pub own : Row → Label × ℕ
own r = (r.label, r.parts)

pub each_row_split : (P : Row → Type 0) (rs qs : List Row) → EachRow P (rs ++ qs) → EachRow P rs × EachRow P qs
unfolding EachRow
each_row_split P [] qs h = (tt, h)
each_row_split P (r ∷ rs) qs h = let g : EachRow P rs × EachRow P qs = each_row_split P rs qs h.1 in ((h.0, g.0), g.1)

module _ (Known : Row → Type 0) (T : List ℕ) where
  pub record KnownTree (whole : Option ℕ) (n : ℕ) (t : Located) : Type 0 where
    pub stands : TreeHere T whole n t
    pub known : EachRow Known (tree_rows whole n t)

  pub record KnownRows (whole : Option ℕ) (n : ℕ) (ts : Terms) : Type 0 where
    pub stand : RowsHere T whole n ts
    pub all_known : EachRow Known (rows whole n ts)

module _ {Known : Row → Type 0} {T : List ℕ} {whole : Option ℕ} {n : ℕ} where
  pub first_known : {t : Located} {ts : Terms} → KnownRows Known T whole n (t ▹ ts) → KnownTree Known T whole n t
  unfolding rows
  first_known {t} {ts} k =
      record { stands = first_here k.stand; known = (each_row_split Known (tree_rows whole n t) (rows whole (n + size t) ts) k.all_known).0 }

  pub others_known : {t : Located} {ts : Terms} → KnownRows Known T whole n (t ▹ ts) → KnownRows Known T whole (n + size t) ts
  unfolding rows
  others_known {t} {ts} k =
      record { stand = others_here k.stand; all_known = (each_row_split Known (tree_rows whole n t) (rows whole (n + size t) ts) k.all_known).1 }

  -- the row of a term, and those of its parts
  pub node_known : {l : Label × Offset} {ts : Terms} → KnownTree Known T whole n (node l ts) → Known (row_of whole l ts)
  unfolding tree_rows EachRow
  node_known k = k.known.0

  pub parts_known : {l : Label × Offset} {ts : Terms} → KnownTree Known T whole n (node l ts) → KnownRows Known T (some n) (n + 1) ts
  unfolding tree_rows EachRow
  parts_known k = record { stand = parts_here k.stands; all_known = k.known.1 }

  -- one run and then another
  module _ (ts us : Terms) (k : KnownRows Known T whole n (ts ▹▹ us)) where
    both_known : EachRow Known (rows whole n ts) × EachRow Known (rows whole (n + sizes ts) us)
    both_known = each_row_split Known (rows whole n ts) (rows whole (n + sizes ts) us) (rw rows_join at k.all_known)

    pub left_known : KnownRows Known T whole n ts
    left_known = record { stand = left_here ts us k.stand; all_known = both_known.0 }

    pub right_known : KnownRows Known T whole (n + sizes ts) us
    right_known = record { stand = right_here ts us k.stand; all_known = both_known.1 }

  pub tree_below : (t : Located) → KnownTree Known T whole n t → n < length T
  tree_below (node l ts) k = node_below k.stands

  pub tree_size : (small : (r : Row) → Known r → SmallRow r) (t : Located) → KnownTree Known T whole n t → size_in (get_or T n 0) ≡ size t
  tree_size small (node l ts) k = (node_packed k.stands (small (row_of whole l ts) (node_known k))).size_is

-- past a pair
pub later_known : {Known : Row → Type 0} {T : List ℕ} {whole : Option ℕ} {n : ℕ} {t u : Located} {ts : Terms} → KnownRows Known T whole n (t ▹ u ▹ ts)
    → KnownRows Known T whole (n + (size t + size u)) ts
later_known {Known} {T} {whole} {n} {t} {u} {ts} k =
    let past : n + size t + size u ≡ n + (size t + size u) = omega arith in
    subst (λ (i : ℕ). KnownRows Known T whole i ts) past (others_known (others_known k))

pub pair_sizes : {Known : Row → Type 0} {T : List ℕ} {whole : Option ℕ} {n : ℕ} {k v : Located} {ts : Terms} → ((r : Row) → Known r → SmallRow r) → KnownRows Known T whole n (k ▹ v ▹ ts)
    → pair_size T n ≡ size k + size v
unfolding pair_size
pair_sizes {T = T} {n = n} {k = k} {v = v} small h =
    let e : size_in (get_or T n 0) ≡ size k = tree_size small k (first_known h) in
    rw e (ap (λ (i : ℕ). size k + i) (tree_size small v (first_known (others_known h))))

-- ---- levels and rows, parts and their order

mutual
  pub depth_within : {A : Type 0} (t : Tree A) → depth t ≤ size t
  depth_within (node a ts) = let h = deepest_within ts in omega arith

  deepest_within : {A : Type 0} (ts : Forest A) → deepest ts ≤ sizes ts
  deepest_within empty = omega arith
  deepest_within (t ▹ ts) = let h = depth_within t in let g = deepest_within ts in omega arith

pub meanings_count : (ts : Terms) → count (meanings ts) ≡ count ts
meanings_count ts = count_arranged pair_before (all_as_read ts) ∙ count_relabels (λ l. l.0) ts

pub meanings_join : (ts us : Terms) → meanings (ts ▹▹ us) ≡ meanings ts ▹▹ meanings us
unfolding arranged
meanings_join empty us = refl
meanings_join (t ▹ ts) us = ap (λ (x : Forest Label). meaning t ▹ x) (meanings_join ts us)

pub pair_joined : (ts : Terms) (t u : Located) (us : Terms) → ts ▹▹ (t ▹ u ▹ us) ≡ (ts ▹▹ (t ▹ u ▹ empty)) ▹▹ us
pair_joined empty t u us = refl
pair_joined (s ▹ ts) t u us = ap (λ (x : Terms). s ▹ x) (pair_joined ts t u us)

pub valids_left : (flags : ℕ) (ts us : Terms) → Valids flags (all_as_read (ts ▹▹ us)) → Valids flags (all_as_read ts)
valids_left flags empty us v = tt
valids_left flags (t ▹ ts) us v = (v.0, valids_left flags ts us v.1)

pub valids_right : (flags : ℕ) (ts us : Terms) → Valids flags (all_as_read (ts ▹▹ us)) → Valids flags (all_as_read us)
valids_right flags empty us v = v
valids_right flags (t ▹ ts) us v = valids_right flags ts us v.1

pub arranged_count : (l : Label) (ts : Forest Label) → count (arranged_parts pair_before l ts) ≡ count ts
unfolding arranged_parts
arranged_count l ts = go (kind l)
  where
    go : {l : Label} → Kind l → count (arranged_parts pair_before l ts) ≡ count ts
    go a_map = rearranged_count (order_rearranges pair_before ts)
    go (no_map stays) = ap count (stays pair_before ts)

-- two terms that mean the same: their labels, and their parts in order
pub top_of : Term → Label
top_of (node l ts) = l

pub under_of : Term → Forest Label
under_of (node l ts) = ts

module _ (l m : Label × Offset) (ts us : Terms) where
  abbrev pub PartsAlike : Type 0
  PartsAlike = arranged_parts pair_before l.0 (meanings ts) ≡ arranged_parts pair_before l.0 (meanings us)

  pub mean_same : l.0 ≡ m.0 → PartsAlike → meaning (node l ts) ≡ meaning (node m us)
  unfolding arranged
  mean_same e f = ap₂ (λ (x : Label) (xs : Forest Label). node x xs) e (f ∙ ap (λ (x : Label). arranged_parts pair_before x (meanings us)) e)

  pub of_maps : l.0 ≡ map → {t : Bool} → Agree t (in_order pair_before (meanings ts) ≡ in_order pair_before (meanings us)) → Agree t PartsAlike
  unfolding arranged_parts
  of_maps e g = rw e g

  pub same_labels : meaning (node l ts) ≡ meaning (node m us) → l.0 ≡ m.0
  unfolding arranged top_of
  same_labels e = ap top_of e

  pub same_parts : meaning (node l ts) ≡ meaning (node m us) → PartsAlike
  unfolding arranged under_of
  same_parts e = ap under_of e ∙ ap (λ (x : Label). arranged_parts pair_before x (meanings us)) (sym (same_labels e))

  pub same_counts : PartsAlike → count ts ≡ count us
  same_counts f =
      sym (arranged_count l.0 (meanings ts) ∙ meanings_count ts) ∙ ap count f ∙ arranged_count l.0 (meanings us) ∙ meanings_count us

-- what a row's word says of the order of the parts
module _ (w k : ℕ) (e : kind_in w ≡ k) where
  pub word_plain : eqb k 9 ≡ false → unordered_rows w ≡ 0
  unfolding unordered_rows
  word_plain f = rw (e, f)

  module _ (f : eqb k 9 ≡ true) (n : ℕ) (g : parts_in w ≡ n) where
    word_few : ltb n 2 ≡ true → unordered_rows w ≡ 0
    unfolding unordered_rows
    word_few h = rw (e, f, g, h)

    word_many : ltb n 2 ≡ false → (s : ℕ) → size_in w ≡ suc s → unordered_rows w ≡ s
    unfolding unordered_rows
    word_many h s i = rw (e, f, g, h, i) (omega arith)

-- the parts of a node count in turn, or they are pairs in no order
pub data Sort (l : Label) (ts : Terms) (w : ℕ) : Type 0 where
  in_turn : unordered_rows w ≡ 0 → ((xs : Forest Label) → count xs ≡ count ts → arranged_parts pair_before l xs ≡ xs) → Sort l ts w
  in_no_order : l ≡ map → unordered_rows w ≡ sizes ts → 2 ≤ count ts → Sort l ts w

-- parts without a pair are in order
pub few_in_order : (before : Pair → Pair → Bool) (ts : Forest Label) → count ts < 2 → in_order before ts ≡ ts
unfolding in_order put_in
few_in_order before empty l = refl
few_in_order before (k ▹ empty) l = refl
few_in_order before (k ▹ v ▹ ts) l = absurd (omega arith)

module _
    (Known : Row → Type 0)
    (small : (r : Row) → Known r → SmallRow r)
    (map_agrees : (r : Row) → Known r → Agree (eqb (kind_at r.label r.place) 9) (r.label ≡ map))
    (T : List ℕ) where
  pub sort_of : {whole : Option ℕ} {n : ℕ} {l : Label × Offset} {ts : Terms} → KnownTree Known T whole n (node l ts) → Sort l.0 ts (get_or T n 0)
  unfolding arranged_parts
  sort_of {whole} {n} {l} {ts} k = go (eqb (kind_at l.0 l.1) 9) refl (ltb (count ts) 2) refl
    where
      packed : WordOf (row_of whole l ts) (get_or T n 0)
      packed = node_packed k.stands (small (row_of whole l ts) (node_known k))

      is_map : Agree (eqb (kind_at l.0 l.1) 9) (l.0 ≡ map)
      is_map = map_agrees (row_of whole l ts) (node_known k)

      other : eqb (kind_at l.0 l.1) 9 ≡ false → {m : Label} → m ≡ l.0 → Kind m → (xs : Forest Label) → arranged_parts pair_before m xs ≡ xs
      other e f a_map xs = never (sym e ∙ is_map.back (sym f))
      other e f (no_map stays) xs = stays pair_before xs

      go : (b : Bool) → eqb (kind_at l.0 l.1) 9 ≡ b → (c : Bool) → ltb (count ts) 2 ≡ c → Sort l.0 ts (get_or T n 0)
      go false e c f = in_turn (word_plain (get_or T n 0) _ packed.kind_is e) (λ xs g. other e refl (kind l.0) xs)
      go true e true f =
          in_turn (word_few (get_or T n 0) _ packed.kind_is e (count ts) packed.parts_is f)
          (λ xs g. let few : count ts < 2 = ltb-true (count ts) 2 f in rw (is_map.sure e) (few_in_order pair_before xs (omega arith)))
      go true e false f =
          in_no_order (is_map.sure e) (word_many (get_or T n 0) _ packed.kind_is e (count ts) packed.parts_is f (sizes ts) packed.size_is) (ltb-false (count ts) 2 f)
