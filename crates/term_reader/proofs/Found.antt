-- What a reader that answers `Ok` has found, and what one that refuses has.
use mathlib.Core.Path.{◌≡◌, sym, ap, ap₂, ◌∙◌}
use mathlib.Core.List.{List}
use Prim.Native.Nat.{ℕ, suc, ◌+◌, ◌≤◌}
use native.Mathlib.Omega.{arith}
use lib.ListN.{length}
use lib.Seq.{sets}
use Rattle.term_spec.specs.Tree.{◌▹◌, ◌▹▹◌, count, size, sizes, EachNode, EachNodes}
use Rattle.term_spec.specs.Term.{Label}
use Rattle.term_spec.specs.Answer.{Answer, good, refused, Position, at_offset, after, done}
use Rattle.term_spec.specs.Message.{Terms}
use Rattle.term_spec.specs.Reading.{Located}
use Rattle.term_spec.specs.Rows.{tree_rows, rows, kind_of, row_words, Placed}
use Rattle.term_spec.proofs.Rows.{sizes_join, count_join, length_tree_rows, length_rows, rows_join, each_nodes_join}
use Rattle.term_spec.proofs.Words.{words_of_join, length_words_of}
use Rattle.octets.proofs.Stores.{sets_at}
use Rattle.std.specs.Prelude.{Result, Ok, Err}
use Rattle.term_spec.specs.declared.Refusal.{Refusal}
use Rattle.std.specs.Result.{IsErrAnd}
use Rattle.std.proofs.lemmas.Result.{err_from_is_err_and}
use Rattle.term_head.specs.Code.{refusal}
use Rattle.term_reader.specs.Code.{Step, PartsStep, got, got_parts}
use Rattle.term_reader.specs.Code.{whole_of, RowsStored, Done, RunDone, PartsDone}

-- what a `?` hands on
pub handed_on : {A : Type 0} {x : Refusal} (r : Result A Refusal) → IsErrAnd r (λ y. y ≡ x) → r ≡ Err x
handed_on r h = let p = err_from_is_err_and r h in p.1 ∙ ap (λ (y : Refusal). Err y) p.2

-- the fields of an `Ok`
abbrev next_in : Step → ℕ
next_in (Ok x) = x.next
next_in (Err x) = 0

abbrev end_in : Step → ℕ
end_in (Ok x) = x.rows
end_in (Err x) = 0

-- the same of parts: where they end, their number, the kind of the whole
abbrev parts_in : PartsStep → ℕ × ℕ × ℕ × ℕ
parts_in (Ok x) = (x.next, x.rows, x.parts, x.kind)
parts_in (Err x) = (0, 0, 0, 0)

module _ {X : Type 0} (size_of : X → ℕ) (as_rows : X → List ℕ) (From : X → Type 0) (m : List ℕ) (cap row : ℕ) (T : List ℕ) where
  -- x is found, and its rows are stored; reading goes on at `next`, with the row `end`
  pub record Found (o : Answer (X × Position)) (next end : ℕ) (T' : List ℕ) : Type 0 where
    pub x : X
    pub is : o ≡ good (x, at_offset m next end)
    pub table_is : T' ≡ sets T row (as_rows x)
    pub near : next ≤ length m
    pub rows_are : end ≡ row + size_of x
    pub room : end ≤ cap
    pub from : From x

  found_at : (y : X × Position) (T' : List ℕ) (next end : ℕ) → next ≡ y.1.at → end ≡ row + size_of y.0
      → RowsStored size_of as_rows From m cap row T y.0 y.1 T' → Found (good y) next end T'
  found_at y T' next end a b d =
      record {
        x = y.0;
        is = ap (λ (s : Position). good (y.0, s)) (d.stands ∙ ap₂ (λ (k j : ℕ). at_offset m k j) (sym a) (sym b));
        table_is = d.table_is;
        near = omega (arith, d.near);
        rows_are = b;
        room = omega (arith, d.room);
        from = d.from;
      }

  abbrev pub StepDone : Answer (X × Position) → Step → List ℕ → Type 0
  StepDone = Done (λ x next end. got next end) refusal size_of as_rows From m cap row T

  pub step_found : (o : Answer (X × Position)) (r : Step) (T' : List ℕ) (next end : ℕ) → r ≡ got next end → StepDone o r T' → Found o next end T'
  unfolding Done
  step_found (refused n p) r T' next end e d = absurd (cc)
  step_found (good y) r T' next end e d =
      let f : r ≡ got y.1.at (row + size_of y.0) = d.0 in
      let g : got next end ≡ got y.1.at (row + size_of y.0) = sym e ∙ f in
      found_at y T' next end (ap next_in g) (ap end_in g) d.1

  pub step_refused : (o : Answer (X × Position)) (r : Step) (T' : List ℕ) (x : Refusal) → r ≡ Err x → StepDone o r T' → o ≡ refused x.number x.place
  unfolding Done
  step_refused (refused k q) r T' x e d = let f : x ≡ record { number = k; place = q } = cc in rw f
  step_refused (good y) r T' x e d = let f : r ≡ got y.1.at (row + size_of y.0) = d.0 in absurd (cc)

-- the same for the parts of a term
module _ (m : List ℕ) (before cap row whole : ℕ) (T : List ℕ) where
  abbrev pub FoundParts : Answer ((Terms × Label) × Position) → ℕ → ℕ → List ℕ → Type 0
  FoundParts = Found (λ (e : Terms × Label). sizes e.0) (λ e. row_words (rows (whole_of whole) row e.0)) (λ e. EachNodes (Placed 65536) e.0) m cap row T

  pub record PartsFound (o : Answer ((Terms × Label) × Position)) (next end parts kind : ℕ) (T' : List ℕ) : Type 0 where
    pub are : FoundParts o next end T'
    pub many : parts ≡ before + count are.x.0
    pub kind_is : kind ≡ kind_of are.x.1

  pub parts_found : (o : Answer ((Terms × Label) × Position)) (r : PartsStep) (T' : List ℕ) (next end parts kind : ℕ) → r ≡ got_parts next end parts kind
      → PartsDone m before cap row whole T o r T' → PartsFound o next end parts kind T'
  unfolding Done found_at
  parts_found (refused n p) r T' next end parts kind e d = absurd (cc)
  parts_found (good y) r T' next end parts kind e d =
      let f : r ≡ got_parts y.1.at (row + sizes y.0.0) (before + count y.0.0) (kind_of y.0.1) = d.0 in
      let g = ap parts_in (sym e ∙ f) in
      record {
        are = found_at _ _ _ m cap row T y T' next end (ap (λ (x : ℕ × ℕ × ℕ × ℕ). x.0) g) (ap (λ (x : ℕ × ℕ × ℕ × ℕ). x.1) g) d.1;
        many = ap (λ (x : ℕ × ℕ × ℕ × ℕ). x.2) g;
        kind_is = ap (λ (x : ℕ × ℕ × ℕ × ℕ). x.3) g;
      }

  pub parts_refused : (o : Answer ((Terms × Label) × Position)) (r : PartsStep) (T' : List ℕ) (x : Refusal) → r ≡ Err x → PartsDone m before cap row whole T o r T' → o ≡ refused x.number x.place
  unfolding Done
  parts_refused (refused k q) r T' x e d = let f : x ≡ record { number = k; place = q } = cc in rw f
  parts_refused (good y) r T' x e d =
      let f : r ≡ got_parts y.1.at (row + sizes y.0.0) (before + count y.0.0) (kind_of y.0.1) = d.0 in
      absurd (cc)

-- ---- what was found before, and then what follows

module _ (m : List ℕ) (cap row whole : ℕ) (T T' : List ℕ) where
  -- a term, and then others in turn
  pub also : (n : ℕ) (t : Located) (end : ℕ) → T' ≡ sets T row (row_words (tree_rows (whole_of whole) row t)) → end ≡ row + size t → EachNode (Placed 65536) t
      → (o : Answer (Terms × Position)) (r : Step) (U : List ℕ) → RunDone m n cap end whole T' o r U
      → RunDone m (suc n) cap row whole T (after o (λ ts. done (t ▹ ts))) r U
  unfolding Done rows EachNode
  also n t end e f p (refused k q) r U d = d
  also n t end e f p (good y) r U d =
      let ts : Terms = y.0 in
      let a : end + sizes ts ≡ row + (size t + sizes ts) = omega arith in
      let s = d.1 in (
        d.0 ∙ ap (got y.1.at) a,
        record {
          table_is = s.table_is ∙ rw (e, f, words_of_join)
              (sets_at T row (row_words (tree_rows (whole_of whole) row t)) (row_words (rows (whole_of whole) (row + size t) ts)) (row + size t)
              (ap (λ (k : ℕ). row + k) (length_words_of (tree_rows (whole_of whole) row t) ∙ length_tree_rows (whole_of whole) row t)));
          stands = s.stands ∙ ap (λ (k : ℕ). at_offset m y.1.at k) a;
          near = s.near;
          room = omega (arith, s.room);
          from = (ap suc s.from.0, (p, s.from.1));
        },
      )

  -- the words of terms, and then of others
  module _ (ts : Terms) (end : ℕ) (e : T' ≡ sets T row (row_words (rows (whole_of whole) row ts))) (f : end ≡ row + sizes ts) where
    pub joined_words : (us : Terms) → sets T' end (row_words (rows (whole_of whole) end us)) ≡ sets T row (row_words (rows (whole_of whole) row (ts ▹▹ us)))
    joined_words us =
        rw (e, f, rows_join (whole_of whole) row ts us, words_of_join)
        (sets_at T row (row_words (rows (whole_of whole) row ts)) (row_words (rows (whole_of whole) (row + sizes ts) us)) (row + sizes ts)
        (ap (λ (k : ℕ). row + k) (length_words_of (rows (whole_of whole) row ts) ∙ length_rows (whole_of whole) row ts)))

    pub joined_end : (us : Terms) → end + sizes us ≡ row + sizes (ts ▹▹ us)
    joined_end us = omega (arith, sizes_join ts us)

    -- some terms in turn, and then others
    pub join : (a b : ℕ) → count ts ≡ a → EachNodes (Placed 65536) ts
        → (o : Answer (Terms × Position)) (r : Step) (U : List ℕ) → RunDone m b cap end whole T' o r U
        → RunDone m (a + b) cap row whole T (after o (λ us. done (ts ▹▹ us))) r U
    unfolding Done
    join a b c p (refused k q) r U d = d
    join a b c p (good y) r U d =
        let us : Terms = y.0 in
        let s = d.1 in
        let z : end + sizes us ≡ row + sizes (ts ▹▹ us) = joined_end us in (
          d.0 ∙ ap (got y.1.at) z,
          record {
            table_is = s.table_is ∙ joined_words us;
            stands = s.stands ∙ ap (λ (k : ℕ). at_offset m y.1.at k) z;
            near = s.near;
            room = omega (arith, s.room);
            from = (omega (arith, count_join ts us, s.from.0), each_nodes_join (Placed 65536) ts us p s.from.1);
          },
        )

    -- the first parts of a term, and then the others
    pub join_parts : (before sum : ℕ) → sum ≡ before + count ts → EachNodes (Placed 65536) ts
        → (o : Answer ((Terms × Label) × Position)) (r : PartsStep) (U : List ℕ) → PartsDone m sum cap end whole T' o r U
        → PartsDone m before cap row whole T (after o (λ e. done (ts ▹▹ e.0, e.1))) r U
    unfolding Done
    join_parts before sum c p (refused k q) r U d = d
    join_parts before sum c p (good y) r U d =
        let us : Terms = y.0.0 in
        let s = d.1 in
        let z : end + sizes us ≡ row + sizes (ts ▹▹ us) = joined_end us in
        let w : sum + count us ≡ before + count (ts ▹▹ us) = omega (arith, count_join ts us) in (
          d.0 ∙ ap₂ (λ (k j : ℕ). got_parts y.1.at k j (kind_of y.0.1)) z w,
          record {
            table_is = s.table_is ∙ joined_words us;
            stands = s.stands ∙ ap (λ (k : ℕ). at_offset m y.1.at k) z;
            near = s.near;
            room = omega (arith, s.room);
            from = each_nodes_join (Placed 65536) ts us p s.from;
          },
        )
