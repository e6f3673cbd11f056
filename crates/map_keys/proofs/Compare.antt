-- What a comparison of rows finds in a table that holds the rows of terms: whether the terms mean the same.
use mathlib.Core.Path.{◌≡◌, refl, sym, ◌∙◌, ap, ap₂, subst}
use mathlib.Core.Logic.{◌⊎◌, inl, inr}
use mathlib.Core.Bool.{Bool, true, false, ◌||◌, or-false, cond}
use mathlib.Core.List.{List, [], ◌∷◌}
use mathlib.Core.Option.{Option, some}
use Rattle.std.specs.Prelude as rust
use Prim.Native.Nat.{ℕ, zero, suc, ◌+◌, ◌-◌, ◌/◌, ◌≤◌, ◌<◌}
use native.Mathlib.Omega.{arith}
use lib.Dec.{eqb, ltb}
use lib.ListN.{length, get_or}
use borrow.Author.Tests.{le-leb, lt-leb, ne_eqb, eqb-false}
use Rattle.term_spec.specs.Tree.{Forest, node, empty, ◌▹◌, ◌▹▹◌, count, size, sizes, depth, deepest}
use Rattle.term_spec.specs.Term.{Label, Term, map}
use Rattle.term_spec.specs.Pairs.{in_order, arranged_parts, arranged}
use Rattle.term_spec.specs.Meaning.{pair_before}
use Rattle.term_spec.specs.Equal.{same, among}
use Rattle.term_spec.specs.Valid.{Fits, Valid, Valids}
use Rattle.term_spec.specs.Reading.{Offset, Located, as_read, meaning}
use Rattle.term_spec.specs.Message.{Terms, all_as_read, meanings}
use Rattle.term_spec.specs.Rows.{Row, word, kind_at, size_in}
use Rattle.term_spec.proofs.Pairs.{rearranged_sizes, order_rearranges}
use Rattle.term_spec.proofs.RoundTrip.{even}
use Rattle.term_spec.proofs.Arranged.{same_true, same_equal}
use Rattle.term_spec.proofs.Rows.{size_meaning, sizes_meanings, size_positive, count_relabels, count_join, count_le_sizes, sizes_join}
use Rattle.term_spec.proofs.Words.{SmallRow, node_here, node_packed, row_of}
use Rattle.term_spec.proofs.Tests.{never, by_less}
use Rattle.term_rows.specs.Rows.{unordered_rows, pair_size}
use Rattle.term_rows.proofs.Known.{agree_same, and_then, own, KnownTree, KnownRows, first_known, others_known, node_known, parts_known, left_known, right_known, tree_below, tree_size, later_known, pair_sizes, meanings_count, meanings_join, pair_joined, valids_left, valids_right, PartsAlike, mean_same, of_maps, same_labels, same_parts, same_counts, Sort, sort_of, in_turn, in_no_order}
use Rattle.map_keys.specs.Compare.{same_rows, same_from, pair_among, pair_around, pairs_among, leads, at_key, pair_named, pair_marked, pairs_marked, maps_from, same_maps, same_terms, among_steps, among_from}
use Rattle.row_compare.proofs.Alike.{Agree, through, self_agrees}
use Rattle.map_keys.proofs.Marks.{leads_from, leads_later, key_parts}
use Rattle.map_keys.proofs.Pairs.{In, AllIn, Distinct, distinct, one_value, distinct_left, distinct_right, in_left, in_right, in_either, ordered_in, in_ordered}

-- ---- tests and the equalities that they stand for

-- a test that comes last
and_last : {P Q : Type 0} {b c : Bool} → Agree b (P × (c ≡ true)) → (P → Agree c Q) → Agree b (P × Q)
and_last p q = record { sure = λ e. let h = p.sure e in (h.0, (q h.0).sure h.1); back = λ h. p.back (h.0, (q h.0).back h.1) }

-- one of two tests
or_else : {P Q : Type 0} (b c : Bool) → Agree b P → Agree c Q → Agree (cond b true c) (P ⊎ Q)
or_else true c p q = record { sure = λ _. inl (p.sure refl); back = λ _. refl }
or_else {P} {Q} false c p q = record { sure = λ e. inr (q.sure e); back = go }
  where
    go : P ⊎ Q → c ≡ true
    go (inl h) = never (p.back h)
    go (inr h) = q.back h

same_agrees : (t u : Term) → Agree (same t u) (t ≡ u)
same_agrees t u = record { sure = same_true t u; back = same_equal t u }

-- a pair is the first of pairs, which is decided by its key, or one of the others
module _ (x y i j : Term) (us : Forest Label) where
  first_back : (t : Bool) → Agree t (y ≡ j) → x ≡ i → ((z : Term) → In i z us → ⊥) → ((i ≡ x) × (j ≡ y)) ⊎ In x y us → t ≡ true
  first_back t q e once (inl h) = q.back (sym h.1)
  first_back t q e once (inr h) = absurd (once y (subst (λ (k : Term). In k y us) e h))

  other_back : (r : Bool) → (x ≡ i → ⊥) → Agree r (In x y us) → ((i ≡ x) × (j ≡ y)) ⊎ In x y us → r ≡ true
  other_back r once g (inl h) = absurd (once (sym h.0))
  other_back r once g (inr h) = g.back h

  first_or_other : (s t r : Bool) → Agree s (x ≡ i) → Agree t (y ≡ j) → Agree r (In x y us) → ((z : Term) → In i z us → ⊥) → Agree (cond s t r) (((i ≡ x) × (j ≡ y)) ⊎ In x y us)
  first_or_other true t r p q g once = record { sure = λ e. inl (sym (p.sure refl), sym (q.sure e)); back = first_back t q (p.sure refl) once }
  first_or_other false t r p q g once = record { sure = λ e. inr (g.sure e); back = other_back r (λ e. never (p.back e)) g }

-- ---- keys and values in turn

-- the keys of these pairs, latest first, before those that came earlier
pub data Pairs : Terms → List Term → List Term → Type 0 where
  no_pair : {ks : List Term} → Pairs empty ks ks
  a_pair : {k v : Located} {ts : Terms} {ks ls : List Term} → Pairs ts (meaning k ∷ ks) ls → Pairs (k ▹ v ▹ ts) ks ls

-- the keys of pairs, latest first
abbrev pub KeysOf : Terms → List Term → Type 0
KeysOf ts ks = Pairs ts [] ks

pub pairs_join : {ts us : Terms} {ks ls ms : List Term} → Pairs ts ks ls → Pairs us ls ms → Pairs (ts ▹▹ us) ks ms
pairs_join no_pair q = q
pairs_join (a_pair p) q = a_pair (pairs_join p q)

pub no_keys : KeysOf empty []
no_keys = no_pair

-- one more key and its value at the end
pub one_more_key : {ts : Terms} {ks : List Term} (k v : Located) → KeysOf ts ks → KeysOf (ts ▹▹ (k ▹ v ▹ empty)) (meaning k ∷ ks)
one_more_key k v p = pairs_join p (a_pair no_pair)

or_later : (x s y : Bool) → (x || cond s true y) ≡ ((s || x) || y)
or_later true true y = refl
or_later true false y = refl
or_later false true y = refl
or_later false false y = refl

pub among_ended : (T : List ℕ) (terms : ℕ → ℕ → Bool) (n at key : ℕ) → key ≤ at → among_steps T terms n at key ≡ false
unfolding among_steps
among_ended T terms zero at key h = refl
among_ended T terms (suc n) at key h = rw (le-leb key at h)

-- ---- over a comparison of words that tells whether two known rows say the same

module _
    (alike : ℕ → ℕ → Bool)
    (Known : Row → Type 0)
    (small : (r : Row) → Known r → SmallRow r)
    (row_agrees : (r q : Row) → Known r → Known q → Agree (alike (word r) (word q)) (own r ≡ own q))
    (map_agrees : (r : Row) → Known r → Agree (eqb (kind_at r.label r.place) 9) (r.label ≡ map))
    (T : List ℕ)
    (hint : (ℕ → ℕ → Bool) → ℕ → ℕ → rust.Option ℕ) where
  -- the rows that two nodes start with
  node_agrees : {whole whole' : Option ℕ} {a b : ℕ} {l m : Label × Offset} {ts us : Terms} → KnownTree Known T whole a (node l ts) → KnownTree Known T whole' b (node m us)
      → Agree (alike (get_or T a 0) (get_or T b 0)) ((l.0 ≡ m.0) × (count ts ≡ count us))
  node_agrees {whole} {whole'} {l = l} {m = m} {ts = ts} {us = us} p q =
      rw (node_here p.stands, node_here q.stands)
      (through (λ e. (ap (λ (x : Label × ℕ). x.0) e, ap (λ (x : Label × ℕ). x.1) e)) (λ e. ap₂ (λ (x : Label) (n : ℕ). (x, n)) e.0 e.1)
      (row_agrees (row_of whole l ts) (row_of whole' m us) (node_known p) (node_known q)))

  -- rows that are stepped over
  skipped : (maps : ℕ → ℕ → Bool) (s n a b : ℕ) → same_rows alike T maps (s + n) s a b ≡ same_rows alike T maps n 0 (a + s) (b + s)
  unfolding same_rows
  skipped maps zero n a b =
      let e : 0 + n ≡ n = omega arith in
      let f : a + 0 ≡ a = omega arith in
      let g : b + 0 ≡ b = omega arith in
      rw (e, f, g)
  skipped maps (suc s) n a b =
      let e : suc s + n ≡ suc (s + n) = omega arith in
      let f : a + suc s ≡ a + 1 + s = omega arith in
      let g : b + suc s ≡ b + 1 + s = omega arith in
      rw (e, f, g) (skipped maps s n (a + 1) (b + 1))

  no_rows : (maps : ℕ → ℕ → Bool) (a b : ℕ) → same_rows alike T maps 0 0 a b ≡ true
  unfolding same_rows
  no_rows maps a b = refl

  module _ (flags : ℕ) where
    -- a comparison of maps with pairs, at most d levels deep
    abbrev FindsMaps : ℕ → (ℕ → ℕ → Bool) → Type 0
    FindsMaps d maps =
        (l m : Label × Offset) (ts us : Terms) → l.0 ≡ map → m.0 ≡ map → count ts ≡ count us → suc (deepest ts) ≤ d → Valid flags (as_read (node l ts)) → Valid flags (as_read (node m us))
        → (whole whole' : Option ℕ) (a b : ℕ) → KnownTree Known T whole a (node l ts) → KnownTree Known T whole' b (node m us)
        → Agree (maps a b) (in_order pair_before (meanings ts) ≡ in_order pair_before (meanings us))

    -- a comparison of terms
    abbrev Finds : ℕ → (ℕ → ℕ → Bool) → Type 0
    Finds d terms =
        (t u : Located) → depth t ≤ d → Valid flags (as_read t) → Valid flags (as_read u) → (whole whole' : Option ℕ) (a b : ℕ) → KnownTree Known T whole a t → KnownTree Known T whole' b u
        → Agree (terms a b) (meaning t ≡ meaning u)

    -- ---- rows one by one

    module _ (d : ℕ) (maps : ℕ → ℕ → Bool) (finds : FindsMaps d maps) where
      -- the rest of the rows, from a and b on
      abbrev rest : ℕ → ℕ → ℕ → Bool
      rest k a b = same_rows alike T maps k 0 a b

      module _ (l m : Label × Offset) (ts us : Terms) (deep : suc (deepest ts) ≤ d) (v : Valid flags (as_read (node l ts))) (w : Valid flags (as_read (node m us)))
          (whole whole' : Option ℕ) (a b : ℕ) (p : KnownTree Known T whole a (node l ts)) (q : KnownTree Known T whole' b (node m us)) (k : ℕ)
          (turn : count ts ≡ count us → Agree (rest (sizes ts + k) (a + 1) (b + 1)) ((meanings ts ≡ meanings us) × (rest k (a + 1 + sizes ts) (b + 1 + sizes ts) ≡ true))) where
        -- what comes after the first row
        abbrev after : Bool
        after =
            cond (eqb (unordered_rows (get_or T a 0)) 0) (rest (sizes ts + k) (a + 1) (b + 1))
            (cond (maps a b) (same_rows alike T maps (sizes ts + k) (unordered_rows (get_or T a 0)) (a + 1) (b + 1)) false)

        after_agrees : l.0 ≡ m.0 → count ts ≡ count us → Sort l.0 ts (get_or T a 0) → Agree after (PartsAlike l m ts us × (rest k (a + 1 + sizes ts) (b + 1 + sizes ts) ≡ true))
        after_agrees e n (in_turn z stays) =
            let x : arranged_parts pair_before l.0 (meanings ts) ≡ meanings ts = stays (meanings ts) (meanings_count ts) in
            let y : arranged_parts pair_before l.0 (meanings us) ≡ meanings us = stays (meanings us) (meanings_count us ∙ sym n) in
            rw z (through (λ h. (x ∙ h.0 ∙ sym y, h.1)) (λ h. (sym x ∙ h.0 ∙ y, h.1)) (turn n))
        after_agrees e n (in_no_order f z c) =
            let some : (sizes ts ≡ 0) → ⊥ = λ s. omega (arith, count_le_sizes ts) in
            rw (z, ne_eqb (sizes ts) 0 some, skipped maps (sizes ts) k (a + 1) (b + 1))
            (and_then (maps a b) _ (of_maps l m ts us f (finds l m ts us f (sym e ∙ f) n deep v w whole whole' a b p q)) (λ _. self_agrees _))

        node_walk : Agree (rest (suc (sizes ts) + k) a b) ((meaning (node l ts) ≡ meaning (node m us)) × (rest k (a + suc (sizes ts)) (b + suc (sizes ts)) ≡ true))
        unfolding same_rows
        node_walk =
            let e : suc (sizes ts) + k ≡ suc (sizes ts + k) = omega arith in
            let f : a + suc (sizes ts) ≡ a + 1 + sizes ts = omega arith in
            let g : b + suc (sizes ts) ≡ b + 1 + sizes ts = omega arith in
            rw (e, f, g)
            (through
            (λ h. (mean_same l m ts us h.0.0 h.1.0, h.1.1))
            (λ h. let s = same_parts l m ts us h.0 in ((same_labels l m ts us h.0, same_counts l m ts us s), (s, h.1)))
            (and_then (alike (get_or T a 0) (get_or T b 0)) after (node_agrees p q) (λ h. after_agrees h.0 h.1 (sort_of Known small map_agrees T p))))

      forest_step : (t u : Located) (ts us : Terms) (whole whole' : Option ℕ) (a b k : ℕ)
          → Agree (rest (size t + (sizes ts + k)) a b) ((meaning t ≡ meaning u) × (rest (sizes ts + k) (a + size t) (b + size t) ≡ true))
          → (meaning t ≡ meaning u → Agree (rest (sizes ts + k) (a + size t) (b + size t)) ((meanings ts ≡ meanings us) × (rest k (a + size t + sizes ts) (b + size t + sizes ts) ≡ true)))
          → Agree (rest (size t + sizes ts + k) a b) ((meanings (t ▹ ts) ≡ meanings (u ▹ us)) × (rest k (a + (size t + sizes ts)) (b + (size t + sizes ts)) ≡ true))
      unfolding arranged
      forest_step t u ts us o o' a b k p q =
          let e : size t + sizes ts + k ≡ size t + (sizes ts + k) = omega arith in
          let f : a + (size t + sizes ts) ≡ a + size t + sizes ts = omega arith in
          let g : b + (size t + sizes ts) ≡ b + size t + sizes ts = omega arith in
          rw (e, f, g)
          (through
          (λ h. (ap₂ (λ (x : Term) (xs : Forest Label). x ▹ xs) h.0 h.1.0, h.1.1))
          (λ h. let s : ◌≡◌ {A = Forest Label} (meaning t ▹ meanings ts) (meaning u ▹ meanings us) = h.0 in
          let x : meaning t ≡ meaning u = cc in let xs : meanings ts ≡ meanings us = cc in (x, (xs, h.1)))
          (and_last p q))

      mutual
        tree_walk : (t u : Located) → depth t ≤ d → Valid flags (as_read t) → Valid flags (as_read u) → (whole whole' : Option ℕ) (a b : ℕ) → KnownTree Known T whole a t → KnownTree Known T whole' b u
            → (k : ℕ) → Agree (rest (size t + k) a b) ((meaning t ≡ meaning u) × (rest k (a + size t) (b + size t) ≡ true))
        tree_walk (node l ts) (node m us) h v w o o' a b p q k =
            node_walk l m ts us h v w o o' a b p q k (λ n. forest_walk ts us n (omega arith) v.1 w.1 (some a) (some b) (a + 1) (b + 1) (parts_known p) (parts_known q) k)

        forest_walk : (ts us : Terms) → count ts ≡ count us → deepest ts ≤ d → Valids flags (all_as_read ts) → Valids flags (all_as_read us) → (whole whole' : Option ℕ) (a b : ℕ)
            → KnownRows Known T whole a ts → KnownRows Known T whole' b us → (k : ℕ) → Agree (rest (sizes ts + k) a b) ((meanings ts ≡ meanings us) × (rest k (a + sizes ts) (b + sizes ts) ≡ true))
        forest_walk empty empty n h v w o o' a b p q k =
            let e : 0 + k ≡ k = omega arith in
            let f : a + 0 ≡ a = omega arith in
            let g : b + 0 ≡ b = omega arith in
            rw (e, f, g) (record { sure = λ x. (refl, x); back = λ x. x.1 })
        forest_walk empty (u ▹ us) n h v w o o' a b p q k = absurd (omega arith)
        forest_walk (t ▹ ts) empty n h v w o o' a b p q k = absurd (omega arith)
        forest_walk (t ▹ ts) (u ▹ us) n h v w o o' a b p q k =
            forest_step t u ts us o o' a b k (tree_walk t u (omega arith) v.0 w.0 o o' a b (first_known p) (first_known q) (sizes ts + k))
            (λ e.
            let z : size u ≡ size t = sym (size_meaning u) ∙ ap size (sym e) ∙ size_meaning t in
            forest_walk ts us (omega arith) (omega arith) v.1 w.1 o o' (a + size t) (b + size t) (others_known p) (rw z at (others_known q)) k)

      -- the terms at two rows
      terms_agree : Finds d (same_from alike T maps)
      unfolding same_from
      terms_agree t u h v w o o' a b p q =
          rw (lt-leb (length T) a (tree_below t p), lt-leb (length T) b (tree_below u q), tree_size small t p, tree_size small u q) (go (eqb (size t) (size u)) refl)
        where
          all_rows : Agree (rest (size t) a b) (meaning t ≡ meaning u)
          all_rows =
              let e : size t + 0 ≡ size t = omega arith in
              through (λ x. x.0) (λ x. (x, no_rows maps (a + size t) (b + size t))) (rw e at (tree_walk t u h v w o o' a b p q 0))

          go : (z : Bool) → eqb (size t) (size u) ≡ z → Agree (cond z (rest (size t) a b) false) (meaning t ≡ meaning u)
          go true e = all_rows
          go false e = record { sure = never; back = λ f. absurd (eqb-false (size t) (size u) e (sym (size_meaning t) ∙ ap size f ∙ size_meaning u)) }

    -- ---- pairs

    module _ (d : ℕ) (terms : ℕ → ℕ → Bool) (finds : Finds d terms) where
      -- a key at k and the value after it, among n pairs
      pair_found : (n : ℕ) (x y : Located) (us : Terms) → count us ≡ n + n → depth x ≤ d → depth y ≤ d → Valid flags (as_read x) → Valid flags (as_read y) → Valids flags (all_as_read us)
          → Distinct (meanings us) → (whole whole' : Option ℕ) (k b : ℕ) → KnownTree Known T whole k x → KnownTree Known T whole (k + size x) y → KnownRows Known T whole' b us
          → Agree (pair_among T terms n k b) (In (meaning x) (meaning y) (meanings us))
      unfolding pair_among arranged
      pair_found zero x y empty e h g v v' w c o o' k b p q r = record { sure = never; back = λ i. absurd i }
      pair_found zero x y (u ▹ us) e h g v v' w c o o' k b p q r = absurd (omega arith)
      pair_found (suc n) x y empty e h g v v' w c o o' k b p q r = absurd (omega arith)
      pair_found (suc n) x y (i ▹ empty) e h g v v' w c o o' k b p q r = absurd (omega arith)
      pair_found (suc n) x y (i ▹ j ▹ us) e h g v v' w c o o' k b p q r =
          rw (tree_size small x p, tree_size small i (first_known r), pair_sizes small r)
          (first_or_other (meaning x) (meaning y) (meaning i) (meaning j) (meanings us) (terms k b) (terms (k + size x) (b + size i)) (pair_among T terms n k (b + (size i + size j)))
          (finds x i h v w.0 o o' k b p (first_known r))
          (finds y j g v' w.1.0 o o' (k + size x) (b + size i) q (first_known (others_known r)))
          (pair_found n x y us (omega arith) h g v v' w.1.1 c.1 o o' k (b + (size i + size j)) p q (later_known r))
          c.0)

      -- pairs among those of a run, whose rows start at b
      module _ (us : Terms) (w : Valids flags (all_as_read us)) (c : Distinct (meanings us)) (whole' : Option ℕ) (b : ℕ) (r : KnownRows Known T whole' b us) where
        around : (n m : ℕ) (x y : Located) (vs ws : Terms) → us ≡ vs ▹▹ ws → count vs ≡ m + m → count ws ≡ n + n → depth x ≤ d → depth y ≤ d → Valid flags (as_read x) → Valid flags (as_read y)
            → (whole : Option ℕ) (k : ℕ) → KnownTree Known T whole k x → KnownTree Known T whole (k + size x) y
            → Agree (pair_around T terms n m k (b + sizes vs) b) (In (meaning x) (meaning y) (meanings us))
        unfolding pair_around
        around n m x y vs ws e f g h h' v v' o k p q =
            let known : KnownRows Known T whole' b (vs ▹▹ ws) = subst (λ (x : Terms). KnownRows Known T whole' b x) e r in
            let valid : Valids flags (all_as_read (vs ▹▹ ws)) = subst (λ (x : Terms). Valids flags (all_as_read x)) e w in
            let apart : Distinct (meanings vs ▹▹ meanings ws) = subst Distinct (ap meanings e ∙ meanings_join vs ws) c in
            through
            (λ i. subst (In (meaning x) (meaning y)) (sym (ap meanings e ∙ meanings_join vs ws)) (either i))
            (λ i. turned (in_either (meaning x) (meaning y) (meanings vs) (meanings ws) m (meanings_count vs ∙ f) (subst (In (meaning x) (meaning y)) (ap meanings e ∙ meanings_join vs ws) i)))
            (or_else (pair_among T terms n k (b + sizes vs)) (pair_among T terms m k b)
            (pair_found n x y ws g h h' v v' (valids_right flags vs ws valid) (distinct_right (meanings vs) (meanings ws) m (meanings_count vs ∙ f) apart) o whole' k (b + sizes vs) p q (right_known vs ws known))
            (pair_found m x y vs f h h' v v' (valids_left flags vs ws valid) (distinct_left (meanings vs) (meanings ws) apart) o whole' k b p q (left_known vs ws known)))
          where
            either : In (meaning x) (meaning y) (meanings ws) ⊎ In (meaning x) (meaning y) (meanings vs) → In (meaning x) (meaning y) (meanings vs ▹▹ meanings ws)
            either (inl i) = in_right (meaning x) (meaning y) (meanings vs) (meanings ws) m (meanings_count vs ∙ f) i
            either (inr i) = in_left (meaning x) (meaning y) (meanings vs) (meanings ws) i

            turned : In (meaning x) (meaning y) (meanings vs) ⊎ In (meaning x) (meaning y) (meanings ws) → In (meaning x) (meaning y) (meanings ws) ⊎ In (meaning x) (meaning y) (meanings vs)
            turned (inl i) = inr i
            turned (inr i) = inl i

        pairs_found : (n m : ℕ) (ts vs ws : Terms) → us ≡ vs ▹▹ ws → count ts ≡ n + n → count vs ≡ m + m → count ws ≡ n + n → deepest ts ≤ d → Valids flags (all_as_read ts)
            → (whole : Option ℕ) (a : ℕ) → KnownRows Known T whole a ts → Agree (pairs_among T terms n m a (b + sizes vs) b) (AllIn (meanings ts) (meanings us))
        unfolding pairs_among arranged
        pairs_found zero m empty vs ws e f g i h v o a k = record { sure = λ _. tt; back = λ _. refl }
        pairs_found zero m (t ▹ ts) vs ws e f g i h v o a k = absurd (omega arith)
        pairs_found (suc n) m empty vs ws e f g i h v o a k = absurd (omega arith)
        pairs_found (suc n) m (x ▹ empty) vs ws e f g i h v o a k = absurd (omega arith)
        pairs_found (suc n) m (x ▹ y ▹ ts) vs empty e f g i h v o a k = absurd (omega arith)
        pairs_found (suc n) m (x ▹ y ▹ ts) vs (j ▹ empty) e f g i h v o a k = absurd (omega arith)
        pairs_found (suc n) m (x ▹ y ▹ ts) vs (j ▹ z ▹ ws) e f g i h v o a k =
            let past : vs ▹▹ (j ▹ z ▹ ws) ≡ (vs ▹▹ (j ▹ z ▹ empty)) ▹▹ ws = pair_joined vs j z ws in
            let at : b + sizes vs + (size j + size z) ≡ b + sizes (vs ▹▹ (j ▹ z ▹ empty)) = omega (arith, sizes_join vs (j ▹ z ▹ empty)) in
            let known : KnownRows Known T whole' (b + sizes vs) (j ▹ z ▹ ws) = right_known vs (j ▹ z ▹ ws) (subst (λ (x : Terms). KnownRows Known T whole' b x) e r) in
            rw (pair_sizes small k, pair_sizes small known, at)
            (and_then (pair_around T terms (suc n) m a (b + sizes vs) b) _
            (around (suc n) m x y vs (j ▹ z ▹ ws) e g i (omega arith) (omega arith) v.0 v.1.0 o a (first_known k) (first_known (others_known k)))
            (λ _. pairs_found n (m + 1) ts (vs ▹▹ (j ▹ z ▹ empty)) ws (e ∙ past) (omega arith) (omega (arith, count_join vs (j ▹ z ▹ empty))) (omega arith) (omega arith) v.1.1 o (a + (size x + size y)) (later_known k)))

    -- ---- pairs, by a hint

    -- a pair of these whose key stands at a row
    record PairAt (us : Terms) (whole : Option ℕ) (at : ℕ) : Type 0 where
      key : Located
      value : Located
      key_valid : Valid flags (as_read key)
      value_valid : Valid flags (as_read value)
      key_known : KnownTree Known T whole at key
      value_known : KnownTree Known T whole (at + size key) value
      one_of : In (meaning key) (meaning value) (meanings us)

    pair_at : (n : ℕ) (us : Terms) → count us ≡ n + n → Valids flags (all_as_read us) → (whole : Option ℕ) (b at : ℕ) → KnownRows Known T whole b us → leads T b at ≡ true → at < b + sizes us
        → PairAt us whole at
    unfolding arranged
    pair_at zero empty e v o b at r l h = absurd (omega (arith, leads_from T b at l))
    pair_at (suc n) empty e v o b at r l h = absurd (omega arith)
    pair_at zero (i ▹ us) e v o b at r l h = absurd (omega arith)
    pair_at (suc n) (i ▹ empty) e v o b at r l h = absurd (omega arith)
    pair_at (suc n) (i ▹ j ▹ us) e v o b at r l h =
        by_less b at
        (λ g.
        let z : pair_size T b ≡ size i + size j = pair_sizes small r in
        let further : leads T (b + (size i + size j)) at ≡ true = rw z at (sym (leads_later T b at g (λ y. omega (arith, size_positive i))) ∙ l) in
        let p : PairAt us o at = pair_at n us (omega arith) v.1.1 o (b + (size i + size j)) at (later_known r) further (omega arith) in
        record {
          key = p.key;
          value = p.value;
          key_valid = p.key_valid;
          value_valid = p.value_valid;
          key_known = p.key_known;
          value_known = p.value_known;
          one_of = inr p.one_of;
        })
        (λ g.
        let z : at ≡ b = omega (arith, leads_from T b at l) in
        rw z
        (record {
          key = i;
          value = j;
          key_valid = v.0;
          value_valid = v.1.0;
          key_known = first_known r;
          value_known = first_known (others_known r);
          one_of = inl (refl, refl);
        }))

    module _ (d : ℕ) (terms : ℕ → ℕ → Bool) (finds : Finds d terms) (near : ℕ → ℕ → rust.Option ℕ) (n : ℕ) (us : Terms) (e : count us ≡ n + n) (w : Valids flags (all_as_read us))
        (c : Distinct (meanings us)) (whole' : Option ℕ) (b : ℕ) (r : KnownRows Known T whole' b us) where
      -- whatever the hint is
      marked : (x y : Located) → depth x ≤ d → depth y ≤ d → Valid flags (as_read x) → Valid flags (as_read y) → (whole : Option ℕ) (k : ℕ) → KnownTree Known T whole k x
          → KnownTree Known T whole (k + size x) y → Agree (pair_marked T terms near n k b (b + sizes us)) (In (meaning x) (meaning y) (meanings us))
      unfolding pair_marked pair_named
      marked x y h g v v' o k p q = go (near b k)
        where
          in_turn : Agree (pair_among T terms n k b) (In (meaning x) (meaning y) (meanings us))
          in_turn = pair_found d terms finds n x y us e h g v v' w c o whole' k b p q r

          by_value : (at : ℕ) → PairAt us whole' at → terms k at ≡ true → Agree (terms (k + size_in (get_or T k 0)) (at + size_in (get_or T at 0))) (In (meaning x) (meaning y) (meanings us))
          by_value at i s =
              let f : meaning x ≡ meaning i.key = (finds x i.key h v i.key_valid o whole' k at p i.key_known).sure s in
              let here : In (meaning x) (meaning i.value) (meanings us) = rw f i.one_of in
              rw (tree_size small x p, tree_size small i.key i.key_known)
              (through
              (λ t. rw t here)
              (λ t. one_value (meanings us) (meaning x) (meaning y) (meaning i.value) c t here)
              (finds y i.value g v' i.value_valid o whole' (k + size x) (at + size i.key) q i.value_known))

          by_key : (at : ℕ) (s : Bool) → at_key T b (b + sizes us) at ≡ s → (t : Bool) → terms k at ≡ t
              → Agree (cond s (cond t (terms (k + size_in (get_or T k 0)) (at + size_in (get_or T at 0))) (pair_among T terms n k b)) (pair_among T terms n k b))
              (In (meaning x) (meaning y) (meanings us))
          by_key at true s true t = let z = key_parts T b (b + sizes us) at s in by_value at (pair_at n us e w whole' b at r z.1 z.0) t
          by_key at true s false t = in_turn
          by_key at false s t f = in_turn

          go : (named : rust.Option ℕ) → Agree (pair_named T terms n k b (b + sizes us) named) (In (meaning x) (meaning y) (meanings us))
          go rust.None = in_turn
          go (rust.Some at) = by_key at (at_key T b (b + sizes us) at) refl (terms k at) refl

      all_marked : (m : ℕ) (ts : Terms) → count ts ≡ m + m → deepest ts ≤ d → Valids flags (all_as_read ts) → (whole : Option ℕ) (a : ℕ) → KnownRows Known T whole a ts
          → Agree (pairs_marked T terms near n m a b (b + sizes us)) (AllIn (meanings ts) (meanings us))
      unfolding pairs_marked arranged
      all_marked zero empty f h v o a k = record { sure = λ _. tt; back = λ _. refl }
      all_marked zero (x ▹ ts) f h v o a k = absurd (omega arith)
      all_marked (suc m) empty f h v o a k = absurd (omega arith)
      all_marked (suc m) (x ▹ empty) f h v o a k = absurd (omega arith)
      all_marked (suc m) (x ▹ y ▹ ts) f h v o a k =
          rw (pair_sizes small k)
          (and_then (pair_marked T terms near n a b (b + sizes us)) _
          (marked x y (omega arith) (omega arith) v.0 v.1.0 o a (first_known k) (first_known (others_known k)))
          (λ _. all_marked m ts (omega arith) (omega arith) v.1.1 o (a + (size x + size y)) (later_known k)))

    -- ---- maps, by levels

    map_step : (d : ℕ) (l m : Label × Offset) (ts us : Terms) → l.0 ≡ map → m.0 ≡ map → count ts ≡ count us → suc (deepest ts) ≤ suc d → Valid flags (as_read (node l ts)) → Valid flags (as_read (node m us))
        → (whole whole' : Option ℕ) (a b : ℕ) → KnownTree Known T whole a (node l ts) → KnownTree Known T whole' b (node m us) → (terms : ℕ → ℕ → Bool) → Finds d terms → (near : ℕ → ℕ → rust.Option ℕ)
        → Agree (maps_from T terms near a b) (in_order pair_before (meanings ts) ≡ in_order pair_before (meanings us))
    unfolding maps_from
    map_step d l m ts us e f n h v w o o' a b p q terms finds near =
        rw (tree_size small (node l ts) p, tree_size small (node m us) q, (node_packed p.stands (small (row_of o l ts) (node_known p))).parts_is)
        (go (eqb (suc (sizes ts)) (suc (sizes us))) refl)
      where
        keys : (k : Label × Offset) (xs : Terms) → k.0 ≡ map → Valid flags (as_read (node k xs)) → Fits flags map (all_as_read xs)
        keys k xs g x = subst (λ (y : Label). Fits flags y (all_as_read xs)) g x.0

        half : (i : ℕ) × (count ts ≡ i + i)
        half = let z = even [] (all_as_read ts) (keys l ts e v).1 in (z.0, sym (count_relabels (λ l. l.0) ts) ∙ z.1)

        apart : Distinct (meanings us)
        apart = distinct [] (all_as_read us) (keys m us f w).1

        -- in turn or by a hint
        either : (t : Bool) (i : ℕ) → count ts ≡ i + i
            → Agree (cond t (pairs_among T terms i 0 (a + 1) (b + 1) (b + 1)) (pairs_marked T terms near i i (a + 1) (b + 1) (b + suc (sizes us)))) (AllIn (meanings ts) (meanings us))
        either true i g =
            let z : b + 1 ≡ b + 1 + 0 = omega arith in
            rw (← z) at
            (pairs_found d terms finds us w.1 apart (some b) (b + 1) (parts_known q) i 0 ts empty us refl g refl (sym n ∙ g) (omega arith) v.1 (some a) (a + 1) (parts_known p))
        either false i g =
            let z : b + suc (sizes us) ≡ b + 1 + sizes us = omega arith in
            rw z (all_marked d terms finds near i us (sym n ∙ g) w.1 apart (some b) (b + 1) (parts_known q) i ts g (omega arith) v.1 (some a) (a + 1) (parts_known p))

        in_pairs : (i : ℕ) → count ts ≡ i + i
            → Agree (cond (ltb (count ts / 2) 32) (pairs_among T terms (count ts / 2) 0 (a + 1) (b + 1) (b + 1)) (pairs_marked T terms near (count ts / 2) (count ts / 2) (a + 1) (b + 1) (b + suc (sizes us))))
            (in_order pair_before (meanings ts) ≡ in_order pair_before (meanings us))
        in_pairs i g =
            let k : count ts / 2 ≡ i = omega arith in
            rw k
            (through
            (ordered_in (meanings ts) (meanings us) i (meanings_count ts ∙ g) (meanings_count us ∙ sym n ∙ g) (distinct [] (all_as_read ts) (keys l ts e v).1))
            (in_ordered (meanings ts) (meanings us) i (meanings_count ts ∙ g))
            (either (ltb i 32) i g))

        go : (z : Bool) → eqb (suc (sizes ts)) (suc (sizes us)) ≡ z
            → Agree (cond z (cond (ltb (count ts / 2) 32) (pairs_among T terms (count ts / 2) 0 (a + 1) (b + 1) (b + 1)) (pairs_marked T terms near (count ts / 2) (count ts / 2) (a + 1) (b + 1) (b + suc (sizes us)))) false)
            (in_order pair_before (meanings ts) ≡ in_order pair_before (meanings us))
        go true z = in_pairs half.0 half.1
        go false z =
            record {
              sure = never;
              back = λ g.
                  let k : sizes ts ≡ sizes us
                  = sym (rearranged_sizes (order_rearranges pair_before (meanings ts)) ∙ sizes_meanings ts) ∙ ap sizes g ∙ rearranged_sizes (order_rearranges pair_before (meanings us)) ∙ sizes_meanings us in
                  absurd (eqb-false (suc (sizes ts)) (suc (sizes us)) z (ap suc k));
            }

    pub maps_found : (d : ℕ) → FindsMaps d (same_maps alike T hint d)
    unfolding same_maps
    maps_found zero l m ts us e f n h v w o o' a b p q = absurd (omega arith)
    maps_found (suc d) l m ts us e f n h v w o o' a b p q =
        map_step d l m ts us e f n h v w o o' a b p q (same_terms alike T hint d) (terms_agree d (same_maps alike T hint d) (maps_found d)) (hint (same_terms alike T hint d))

    -- two terms compare as their meanings do
    pub terms_found : (d : ℕ) → Finds d (same_terms alike T hint d)
    terms_found d = terms_agree d (same_maps alike T hint d) (maps_found d)

    pub terms_same : (d : ℕ) (t u : Located) → depth t ≤ d → Valid flags (as_read t) → Valid flags (as_read u) → (whole whole' : Option ℕ) (a b : ℕ)
        → KnownTree Known T whole a t → KnownTree Known T whole' b u → same_terms alike T hint d a b ≡ same (meaning t) (meaning u)
    terms_same d t u h v w o o' a b p q =
        agree_same (same_terms alike T hint d a b) (same (meaning t) (meaning u)) (terms_found d t u h v w o o' a b p q) (same_agrees (meaning t) (meaning u))

    -- ---- a term whose rows stand at `key`, past the rows of pairs

    module _ (d : ℕ) (whole whole' : Option ℕ) (key : ℕ) (u : Located) (deep : depth u ≤ d) (v : Valid flags (as_read u)) (m : KnownTree Known T whole' key u) where
      pairs_agree : (n at : ℕ) {ts : Terms} {ks ls : List Term} → Pairs ts ks ls → key ≡ at + sizes ts → sizes ts ≤ n → Valids flags (all_as_read ts) → KnownRows Known T whole at ts
          → (among (meaning u) ks || among_steps T (same_terms alike T hint d) n at key) ≡ among (meaning u) ls
      unfolding among_steps among
      pairs_agree n at {ks = ks} no_pair e h w g =
          ap (λ (b : Bool). among (meaning u) ks || b) (among_ended T (same_terms alike T hint d) n at key (omega arith)) ∙ or-false (among (meaning u) ks)
      pairs_agree zero at (a_pair {k = k} p) e h w g = absurd (omega (arith, size_positive k))
      pairs_agree (suc n) at {ks = ks} (a_pair {k = k} {v = x} {ts = ts} p) e h w g =
          let some : 1 ≤ size k = size_positive k in
          rw (
            lt-leb key at (omega arith),
            terms_same d u k deep v w.0 whole' whole key at m (first_known g),
            pair_sizes small g,
            ne_eqb (size k + size x) 0 (λ z. omega arith),
          )
          (or_later (among (meaning u) ks) (same (meaning u) (meaning k)) (among_steps T (same_terms alike T hint d) n (at + (size k + size x)) key)
          ∙ pairs_agree n (at + (size k + size x)) p (omega arith) (omega arith) w.1.1 (later_known g))

      -- it is compared with each key
      pub among_from_among : (first : ℕ) {ts : Terms} {ks : List Term} → KeysOf ts ks → key ≡ first + sizes ts → Valids flags (all_as_read ts) → KnownRows Known T whole first ts
          → among_from T (same_terms alike T hint d) first key ≡ among (meaning u) ks
      unfolding among_from among
      among_from_among first p e w g = rw (lt-leb (length T) key (tree_below u m)) (pairs_agree (key - first) first p e (omega arith) w g)
