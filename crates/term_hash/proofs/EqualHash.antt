-- Terms that mean the same have the same hash, in one table or in two.
use mathlib.Core.Path.{◌≡◌, refl, sym, ◌∙◌, ap, ap₂, subst}
use mathlib.Core.Bool.{Bool, true, false, cond}
use mathlib.Core.List.{List}
use mathlib.Core.Option.{Option, some}
use Prim.Native.Nat.{ℕ, zero, suc, ◌+◌, ◌-◌, ◌/◌, ◌%◌, ◌≤◌}
use native.Mathlib.Omega.{arith}
use lib.Dec.{eqb, leb, ltb}
use lib.ListN.{get_or}
use borrow.Author.Tests.{ne_eqb}
use Rattle.term_spec.specs.Tree.{Forest, node, empty, ◌▹◌, count, size, sizes}
use Rattle.term_spec.specs.Term.{Label, Term, map}
use Rattle.term_spec.specs.Pairs.{in_order, arranged_parts, arranged}
use Rattle.term_spec.specs.Meaning.{pair_before}
use Rattle.term_spec.specs.Same.{Rearranged, chain}
use Rattle.term_spec.specs.Reading.{Offset, Located, meaning}
use Rattle.term_spec.specs.Message.{Terms, meanings}
use Rattle.term_spec.specs.Rows.{Row, word, kind_at, parts_in}
use Rattle.term_spec.proofs.Pairs.{order_rearranges, rearranged_back, rearranged_count}
use Rattle.term_spec.proofs.Rows.{size_meaning, count_le_sizes}
use Rattle.term_spec.proofs.Words.{SmallRow, WordOf, node_here, node_packed, row_of}
use Rattle.row_compare.specs.Hash.{mix}
use Rattle.row_compare.proofs.Alike.{Agree}
use Rattle.term_rows.specs.Rows.{unordered_rows}
use Rattle.term_rows.proofs.Known.{agree_same, own, KnownTree, KnownRows, node_known, parts_known, first_known, others_known, tree_size, pair_sizes, meanings_count, same_labels, same_parts, same_counts, Sort, in_turn, in_no_order, sort_of}
use Rattle.term_hash.specs.Hash.{hash_row, hash_rows, add_pairs, hash_pairs, factor_of, levels_of, hashed_rows, hash_term, pass_hash, round_hash, term_hash}
use Rattle.term_hash.proofs.Steps.{stepped, seed_as}
use Rattle.term_hash.proofs.Parts.{part, pairs_sum, pairs_added, Sum, none, alone, pair, sum_rearranged}

-- ---- the rows of a node, and then k others

module _ (hash : ℕ → ℕ → ℕ) (T : List ℕ) (pairs : ℕ → ℕ → ℕ → ℕ) (h n a k : ℕ) where
  turn_hashed : unordered_rows (get_or T a 0) ≡ 0 → hash_rows hash T pairs h (suc n + k) 0 a ≡ hash_rows hash T pairs (hash h (get_or T a 0)) (n + k) 0 (a + 1)
  unfolding hash_rows
  turn_hashed e = let f : suc n + k ≡ suc (n + k) = omega arith in rw (f, e)

  map_hashed : unordered_rows (get_or T a 0) ≡ n → 1 ≤ n
      → hash_rows hash T pairs h (suc n + k) 0 a ≡ hash_rows hash T pairs (pairs (hash h (get_or T a 0)) (parts_in (get_or T a 0) / 2) (a + 1)) k 0 (a + suc n)
  unfolding hash_rows
  map_hashed e some_rows =
      let f : suc n + k ≡ suc (n + k) = omega arith in
      let g : n + k - n ≡ k = omega arith in
      let i : a + suc n ≡ a + 1 + n = omega arith in
      rw (f, e, ne_eqb n 0 (λ z. omega arith), i) (rw g at (stepped hash T pairs (pairs (hash h (get_or T a 0)) (parts_in (get_or T a 0) / 2) (a + 1)) (n + k) n (a + 1)))

-- ---- over a hash of words, and rows of which those that say the same have one hash

module _
    (hash : ℕ → ℕ → ℕ)
    (Known : Row → Type 0)
    (small : (r : Row) → Known r → SmallRow r)
    (row_hash : (r q : Row) → Known r → Known q → own r ≡ own q → (h : ℕ) → hash h (word r) ≡ hash h (word q))
    (map_agrees : (r : Row) → Known r → Agree (eqb (kind_at r.label r.place) 9) (r.label ≡ map))
    (T T' : List ℕ) where
  -- two nodes that mean the same
  module _ (l l' : Label × Offset) (ts us : Terms) (whole whole' : Option ℕ) (a b : ℕ) (p : KnownTree Known T whole a (node l ts)) (q : KnownTree Known T' whole' b (node l' us))
      (e : meaning (node l ts) ≡ meaning (node l' us)) where
    same_own : own (row_of whole l ts) ≡ own (row_of whole' l' us)
    same_own = ap₂ (λ (x : Label) (n : ℕ). (x, n)) (same_labels l l' ts us e) (same_counts l l' ts us (same_parts l l' ts us e))

    first_hash : (h : ℕ) → hash h (get_or T a 0) ≡ hash h (get_or T' b 0)
    first_hash h =
        rw (node_here p.stands, node_here q.stands) (row_hash (row_of whole l ts) (row_of whole' l' us) (node_known p) (node_known q) same_own h)

    same_size : sizes ts ≡ sizes us
    same_size = let f : suc (sizes ts) ≡ suc (sizes us) = sym (size_meaning (node l ts)) ∙ ap size e ∙ size_meaning (node l' us) in omega arith

    packed : WordOf (row_of whole l ts) (get_or T a 0)
    packed = node_packed p.stands (small (row_of whole l ts) (node_known p))

    packed' : WordOf (row_of whole' l' us) (get_or T' b 0)
    packed' = node_packed q.stands (small (row_of whole' l' us) (node_known q))

    same_unordered : unordered_rows (get_or T a 0) ≡ unordered_rows (get_or T' b 0)
    unfolding unordered_rows
    same_unordered =
        let x : WordOf (row_of whole l ts) (get_or T a 0) = packed in
        let y : WordOf (row_of whole' l' us) (get_or T' b 0) = packed' in
        let k : eqb (kind_at l.0 l.1) 9 ≡ eqb (kind_at l'.0 l'.1) 9
        = agree_same _ _ (map_agrees (row_of whole l ts) (node_known p)) (subst (λ (z : Label). Agree (eqb (kind_at l'.0 l'.1) 9) (z ≡ map)) (sym (same_labels l l' ts us e)) (map_agrees (row_of whole' l' us) (node_known q))) in
        rw (x.kind_is, x.parts_is, x.size_is, y.kind_is, y.parts_is, y.size_is, k, ap (λ (z : Label × ℕ). z.1) same_own, same_size)

    maps_alike : l.0 ≡ map → in_order pair_before (meanings ts) ≡ in_order pair_before (meanings us)
    unfolding arranged_parts
    maps_alike f = rw f at (same_parts l l' ts us e)

  -- over a hash of pairs for each table
  module _ (pairs pairs' : ℕ → ℕ → ℕ → ℕ) where
    -- the same for maps with pairs that mean the same
    abbrev AlikeMaps : Type 0
    AlikeMaps =
        (ts us : Terms) (whole whole' : Option ℕ) (a b : ℕ) → KnownRows Known T whole a ts → KnownRows Known T' whole' b us → 2 ≤ count ts
        → in_order pair_before (meanings ts) ≡ in_order pair_before (meanings us) → (h : ℕ) → pairs h (count ts / 2) a ≡ pairs' h (count us / 2) b

    -- n rows from a on and n' from b on give one hash
    record Alike (h a n b n' : ℕ) : Type 0 where
      after : ℕ
      one : (k : ℕ) → hash_rows hash T pairs h (n + k) 0 a ≡ hash_rows hash T pairs after k 0 (a + n)
      two : (k : ℕ) → hash_rows hash T' pairs' h (n' + k) 0 b ≡ hash_rows hash T' pairs' after k 0 (b + n')

    no_rows : (h a b : ℕ) → Alike h a 0 b 0
    no_rows h a b =
        record {
          after = h;
          one = λ k. let e : 0 + k ≡ k = omega arith in let f : a + 0 ≡ a = omega arith in rw (e, f);
          two = λ k. let e : 0 + k ≡ k = omega arith in let f : b + 0 ≡ b = omega arith in rw (e, f);
        }

    -- one run after another
    join : (h a n b n' i i' : ℕ) → Alike h a n b n' → ((x : ℕ) → Alike x (a + n) i (b + n') i') → Alike h a (n + i) b (n' + i')
    join h a n b n' i i' x y =
        let z = y x.after in
        record {
          after = z.after;
          one = λ k. let e : n + i + k ≡ n + (i + k) = omega arith in let f : a + (n + i) ≡ a + n + i = omega arith in rw (e, f) (x.one (i + k) ∙ z.one k);
          two = λ k. let e : n' + i' + k ≡ n' + (i' + k) = omega arith in let f : b + (n' + i') ≡ b + n' + i' = omega arith in rw (e, f) (x.two (i' + k) ∙ z.two k);
        }

    whole_alike : (h a n b n' : ℕ) → Alike h a n b n' → hash_rows hash T pairs h n 0 a ≡ hash_rows hash T' pairs' h n' 0 b
    unfolding hash_rows
    whole_alike h a n b n' x =
        let e : n + 0 ≡ n = omega arith in
        let f : n' + 0 ≡ n' = omega arith in
        (rw e at (x.one 0)) ∙ sym (rw f at (x.two 0))

    module _ (maps : AlikeMaps) where
      module _ (l l' : Label × Offset) (ts us : Terms) (whole whole' : Option ℕ) (a b : ℕ) (p : KnownTree Known T whole a (node l ts)) (q : KnownTree Known T' whole' b (node l' us))
          (e : meaning (node l ts) ≡ meaning (node l' us)) (h : ℕ) where
        abbrev own_hash : ℕ
        own_hash = hash h (get_or T a 0)

        in_parts : unordered_rows (get_or T a 0) ≡ 0 → Alike own_hash (a + 1) (sizes ts) (b + 1) (sizes us) → Alike h a (suc (sizes ts)) b (suc (sizes us))
        in_parts k z =
            let f : a + suc (sizes ts) ≡ a + 1 + sizes ts = omega arith in
            let g : b + suc (sizes us) ≡ b + 1 + sizes us = omega arith in
            let i : hash h (get_or T' b 0) ≡ own_hash = sym (first_hash l l' ts us whole whole' a b p q e h) in
            record {
              after = z.after;
              one = λ n. rw f (turn_hashed hash T pairs h (sizes ts) a n k ∙ z.one n);
              two = λ n. rw g (turn_hashed hash T' pairs' h (sizes us) b n (sym (same_unordered l l' ts us whole whole' a b p q e) ∙ k) ∙ ap (λ (x : ℕ). hash_rows hash T' pairs' x (sizes us + n) 0 (b + 1)) i ∙ z.two n);
            }

        in_sum : l.0 ≡ map → unordered_rows (get_or T a 0) ≡ sizes ts → 2 ≤ count ts → Alike h a (suc (sizes ts)) b (suc (sizes us))
        in_sum f k c =
            let s : sizes ts ≡ sizes us = same_size l l' ts us whole whole' a b p q e in
            let some_rows : 1 ≤ sizes ts = omega (arith, count_le_sizes ts) in
            let x : pairs own_hash (parts_in (get_or T a 0) / 2) (a + 1) ≡ pairs' (hash h (get_or T' b 0)) (parts_in (get_or T' b 0) / 2) (b + 1)
            = rw ((packed l l' ts us whole whole' a b p q e).parts_is, (packed' l l' ts us whole whole' a b p q e).parts_is, ← first_hash l l' ts us whole whole' a b p q e h)
            (maps ts us (some a) (some b) (a + 1) (b + 1) (parts_known p) (parts_known q) c (maps_alike l l' ts us whole whole' a b p q e f) own_hash) in
            record {
              after = pairs own_hash (parts_in (get_or T a 0) / 2) (a + 1);
              one = λ n. map_hashed hash T pairs h (sizes ts) a n k some_rows;
              two = λ n.
                  map_hashed hash T' pairs' h (sizes us) b n (sym (same_unordered l l' ts us whole whole' a b p q e) ∙ k ∙ s) (omega arith)
                  ∙ ap (λ (y : ℕ). hash_rows hash T' pairs' y n 0 (b + suc (sizes us))) (sym x);
            }

        -- the parts in turn, or the pairs as a sum
        node_alike : ((x : ℕ) → meanings ts ≡ meanings us → Alike x (a + 1) (sizes ts) (b + 1) (sizes us)) → Sort l.0 ts (get_or T a 0) → Alike h a (suc (sizes ts)) b (suc (sizes us))
        node_alike turn (in_turn k stays) =
            let v : meanings ts ≡ meanings us
            = sym (stays (meanings ts) (meanings_count ts)) ∙ same_parts l l' ts us e ∙ stays (meanings us) (meanings_count us ∙ sym (same_counts l l' ts us (same_parts l l' ts us e))) in
            in_parts k (turn own_hash v)
        node_alike turn (in_no_order f k c) = in_sum f k c

      mutual
        unfolding arranged

        tree_alike : (t u : Located) (whole whole' : Option ℕ) (a b : ℕ) → KnownTree Known T whole a t → KnownTree Known T' whole' b u → meaning t ≡ meaning u → (h : ℕ) → Alike h a (size t) b (size u)
        tree_alike (node l ts) (node l' us) o o' a b p q e h =
            node_alike l l' ts us o o' a b p q e h (λ x v. forest_alike ts us (some a) (some b) (a + 1) (b + 1) (parts_known p) (parts_known q) v x) (sort_of Known small map_agrees T p)

        forest_alike : (ts us : Terms) (whole whole' : Option ℕ) (a b : ℕ) → KnownRows Known T whole a ts → KnownRows Known T' whole' b us → meanings ts ≡ meanings us → (h : ℕ)
            → Alike h a (sizes ts) b (sizes us)
        forest_alike empty empty o o' a b p q e h = no_rows h a b
        forest_alike empty (u ▹ us) o o' a b p q e h = let z : ◌≡◌ {A = ℕ} 0 1 = cc in absurd (omega arith)
        forest_alike (t ▹ ts) empty o o' a b p q e h = let z : ◌≡◌ {A = ℕ} 0 1 = cc in absurd (omega arith)
        forest_alike (t ▹ ts) (u ▹ us) o o' a b p q e h =
            let x : meaning t ≡ meaning u = cc in
            let xs : meanings ts ≡ meanings us = cc in
            join h a (size t) b (size u) (sizes ts) (sizes us) (tree_alike t u o o' a b (first_known p) (first_known q) x h)
            (λ y. forest_alike ts us o o' (a + size t) (b + size u) (others_known p) (others_known q) xs y)

      -- ---- pairs

      abbrev rows : ℕ → ℕ → ℕ
      rows k i = hash_rows hash T pairs 0 k 0 i

      abbrev rows' : ℕ → ℕ → ℕ
      rows' k i = hash_rows hash T' pairs' 0 k 0 i

      -- a number that is what a pair of the second table adds which means this
      abbrev PartOf : Term → Term → ℕ → Type 0
      PartOf k v n =
          (x y : Located) (whole : Option ℕ) (b : ℕ) → KnownTree Known T' whole b x → KnownTree Known T' whole (b + size x) y → k ≡ meaning x → v ≡ meaning y → n ≡ part (rows' (size x + size y) b)

      pair_part : (x y : Located) (whole : Option ℕ) (a : ℕ) → KnownTree Known T whole a x → KnownTree Known T whole (a + size x) y
          → PartOf (meaning x) (meaning y) (part (rows (size x + size y) a))
      pair_part x y o a p q x' y' o' b p' q' e f =
          ap part
          (whole_alike 0 a (size x + size y) b (size x' + size y')
          (join 0 a (size x) b (size x') (size y) (size y') (tree_alike x x' o o' a b p p' e 0) (λ h. tree_alike y y' o o' (a + size x) (b + size x') q q' f h)))

      -- what each pair of a run of the first table adds
      all_parts : (n : ℕ) (ts : Terms) → count ts / 2 ≡ n → (whole : Option ℕ) (a : ℕ) → KnownRows Known T whole a ts → Sum PartOf (meanings ts) (pairs_sum T rows n a)
      unfolding arranged pairs_sum
      all_parts zero empty e o a p = none
      all_parts zero (x ▹ empty) e o a p = alone (meaning x)
      all_parts zero (x ▹ y ▹ ts) e o a p = absurd (omega arith)
      all_parts (suc n) empty e o a p = absurd (omega arith)
      all_parts (suc n) (x ▹ empty) e o a p = absurd (omega arith)
      all_parts (suc n) (x ▹ y ▹ ts) e o a p =
          let past : a + size x + size y ≡ a + (size x + size y) = omega arith in
          rw (pair_sizes small p, ← past) (pair (pair_part x y o a (first_known p) (first_known (others_known p))) (all_parts n ts (omega arith) o (a + size x + size y) (others_known (others_known p))))

      -- is what those of a run of the second table add that means the same
      sum_found : {xs : Forest Label} {s : ℕ} → Sum PartOf xs s → (us : Terms) (whole : Option ℕ) (b : ℕ) → KnownRows Known T' whole b us → xs ≡ meanings us → s ≡ pairs_sum T' rows' (count us / 2) b
      unfolding arranged pairs_sum
      sum_found none empty o b q e = refl
      sum_found none (y ▹ us) o b q e = let z : ◌≡◌ {A = ℕ} 0 1 = cc in absurd (omega arith)
      sum_found (alone k) empty o b q e = let z : ◌≡◌ {A = ℕ} 0 1 = cc in absurd (omega arith)
      sum_found (alone k) (y ▹ empty) o b q e = refl
      sum_found (alone k) (y ▹ z ▹ us) o b q e = let i : ◌≡◌ {A = ℕ} 0 1 = cc in absurd (omega arith)
      sum_found (pair p r) empty o b q e = let z : ◌≡◌ {A = ℕ} 0 1 = cc in absurd (omega arith)
      sum_found (pair p r) (y ▹ empty) o b q e = let z : ◌≡◌ {A = ℕ} 0 1 = cc in absurd (omega arith)
      sum_found (pair {k} {v} {ts} p r) (y ▹ z ▹ us) o b q e =
          let i : k ≡ meaning y = cc in
          let j : v ≡ meaning z = cc in
          let rest : ts ≡ meanings us = cc in
          let f : suc (suc (count us)) / 2 ≡ suc (count us / 2) = omega arith in
          let past : b + size y + size z ≡ b + (size y + size z) = omega arith in
          rw (f, pair_sizes small q, ← past) (ap₂ ◌+◌ (p y z o b (first_known q) (first_known (others_known q)) i j) (sum_found r us o (b + size y + size z) (others_known (others_known q)) rest))

      -- maps one level up
      maps_added : (ts us : Terms) (whole whole' : Option ℕ) (a b : ℕ) → KnownRows Known T whole a ts → KnownRows Known T' whole' b us → 2 ≤ count ts
          → in_order pair_before (meanings ts) ≡ in_order pair_before (meanings us) → (h : ℕ) → add_pairs T rows h (count ts / 2) a ≡ add_pairs T' rows' h (count us / 2) b
      maps_added ts us o o' a b p q c e h =
          let back : Rearranged (in_order pair_before (meanings us)) (meanings us) = rearranged_back (order_rearranges pair_before (meanings us)) in
          let turned : Rearranged (in_order pair_before (meanings ts)) (meanings us) = rw e back in
          let both : Rearranged (meanings ts) (meanings us) = chain (order_rearranges pair_before (meanings ts)) turned in
          let n : count us ≡ count ts = sym (meanings_count us) ∙ rearranged_count both ∙ meanings_count ts in
          let s : pairs_sum T rows (count ts / 2) a ≡ pairs_sum T' rows' (count us / 2) b = sum_found (sum_rearranged PartOf both (all_parts (count ts / 2) ts refl o a p)) us o' b q refl in
          let f : count ts / 2 ≡ suc (count ts / 2 - 1) = omega arith in
          let g : count us / 2 ≡ count ts / 2 = ap (λ (x : ℕ). x / 2) n in
          go (count ts / 2 - 1) (count ts / 2) (count us / 2) f (g ∙ f) s
        where
          go : (k i j : ℕ) → i ≡ suc k → j ≡ suc k → pairs_sum T rows i a ≡ pairs_sum T' rows' j b → add_pairs T rows h i a ≡ add_pairs T' rows' h j b
          go k i j f g s =
              rw (f, g) (pairs_added T rows k h a ∙ ap (λ (x : ℕ). (h + x) % 4294967296) (rw (f, g) at s) ∙ sym (pairs_added T' rows' k h b))

  -- whatever the number of levels
  levels_alike : (d : ℕ) → AlikeMaps (hash_pairs hash T d) (hash_pairs hash T' d)
  unfolding hash_pairs
  levels_alike zero ts us o o' a b p q c e h = refl
  levels_alike (suc d) ts us o o' a b p q c e h = maps_added (hash_pairs hash T d) (hash_pairs hash T' d) (levels_alike d) ts us o o' a b p q c e h

  -- all rows of terms that mean the same, or the first
  rows_alike : (d : ℕ) (t u : Located) (whole whole' : Option ℕ) (a b : ℕ) → KnownTree Known T whole a t → KnownTree Known T' whole' b u → meaning t ≡ meaning u → (h : ℕ)
      → hash_rows hash T (hash_pairs hash T d) h (size t) 0 a ≡ hash_rows hash T' (hash_pairs hash T' d) h (size u) 0 b
  rows_alike d t u o o' a b p q e h =
      whole_alike (hash_pairs hash T d) (hash_pairs hash T' d) h a (size t) b (size u) (tree_alike (hash_pairs hash T d) (hash_pairs hash T' d) (levels_alike d) t u o o' a b p q e h)

  first_alike : (t u : Located) (whole whole' : Option ℕ) (a b : ℕ) → KnownTree Known T whole a t → KnownTree Known T' whole' b u → meaning t ≡ meaning u → (h : ℕ)
      → hash h (get_or T a 0) ≡ hash h (get_or T' b 0)
  first_alike (node l ts) (node l' us) o o' a b p q e h = first_hash l l' ts us o o' a b p q e h

-- ---- the hash of a term

module _
    (m places lengths : List ℕ)
    (Known : Row → Type 0)
    (small : (r : Row) → Known r → SmallRow r)
    (row_hash : (factor : ℕ) (r q : Row) → Known r → Known q → own r ≡ own q → (h : ℕ) → hash_row factor m places lengths h (word r) ≡ hash_row factor m places lengths h (word q))
    (map_agrees : (r : Row) → Known r → Agree (eqb (kind_at r.label r.place) 9) (r.label ≡ map))
    (T T' : List ℕ) where
  -- terms that mean the same have the same hash, in each pass and so in each round
  equal_pass : (t u : Located) (whole whole' : Option ℕ) (a b : ℕ) → KnownTree Known T whole a t → KnownTree Known T' whole' b u → meaning t ≡ meaning u → (first pass : ℕ)
      → pass_hash m places lengths T first a pass ≡ pass_hash m places lengths T' first b pass
  unfolding pass_hash hash_term hashed_rows
  equal_pass t u o o' a b p q e first pass =
      let s : size u ≡ size t = sym (size_meaning u) ∙ ap size (sym e) ∙ size_meaning t in
      rw (tree_size small t p, tree_size small u q, s) (go s (leb (size t) 2048))
    where
      f : ℕ
      f = factor_of pass

      h : ℕ
      h = mix f 0 first

      all : List ℕ → ℕ → ℕ → ℕ
      all S n i = hash_rows (hash_row f m places lengths) S (hash_pairs (hash_row f m places lengths) S (levels_of pass)) h n 0 i

      one : hash_row f m places lengths h (get_or T a 0) ≡ hash_row f m places lengths h (get_or T' b 0)
      one = first_alike (hash_row f m places lengths) Known small (row_hash f) map_agrees T T' t u o o' a b p q e h

      go : size u ≡ size t → (c : Bool)
          → mix f (cond (ltb (cond c (size t) 1) 2) (hash_row f m places lengths h (get_or T a 0)) (all T (cond c (size t) 1) a)) (cond c (size t) 1)
          ≡ mix f (cond (ltb (cond c (size t) 1) 2) (hash_row f m places lengths h (get_or T' b 0)) (all T' (cond c (size t) 1) b)) (cond c (size t) 1)
      go s true =
          let rest : all T (size t) a ≡ all T' (size t) b
          = rw s at (rows_alike (hash_row f m places lengths) Known small (row_hash f) map_agrees T T' (levels_of pass) t u o o' a b p q e h) in
          ap₂ (λ (x y : ℕ). mix f (cond (ltb (size t) 2) x y) (size t)) one rest
      go s false = ap (λ (x : ℕ). mix f x 1) one

  pub equal_hash : (t u : Located) (whole whole' : Option ℕ) (a b : ℕ) → KnownTree Known T whole a t → KnownTree Known T' whole' b u → meaning t ≡ meaning u → (round first : ℕ)
      → term_hash m places lengths T round first a ≡ term_hash m places lengths T' round first b
  unfolding term_hash
  equal_hash t u o o' a b p q e round first =
      ap (λ (x : ℕ). round_hash x round) (seed_as (equal_pass t u o o' a b p q e first) round)
