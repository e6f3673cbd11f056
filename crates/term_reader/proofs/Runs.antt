-- Terms in turn: one law for each way through `read_run` and `read_wanted`.
use mathlib.Core.Path.{◌≡◌, refl, sym, ap, ap₂, ◌∙◌}
use mathlib.Core.List.{List, [], ◌∷◌, ◌++◌, append-nil}
use Prim.Native.Nat.{ℕ, zero, suc, ◌+◌, ◌-◌, ◌≤◌, min}
use native.Mathlib.Omega.{arith}
use lib.ListN.{length, replicate}
use lib.Seq.{sets}
use Rattle.term_spec.specs.Tree.{empty, ◌▹◌, ◌▹▹◌, count, size, sizes, EachNode, EachNodes}
use Rattle.term_spec.specs.Answer.{Answer, good, refused, Position, at_offset, Reading, after, done}
use Rattle.term_spec.specs.Head.{Wanted, any, an_atom, an_arity}
use Rattle.term_spec.specs.AtomList.{AtomList}
use Rattle.term_spec.specs.Reading.{Located, each, run}
use Rattle.term_spec.specs.Message.{Terms}
use Rattle.term_spec.specs.Rows.{tree_rows, rows, row_words, Placed}
use Rattle.term_head.specs.declared.Wanted.TheVariants.{Atom, Arity}
use Rattle.term_head.specs.Code.{wanted_of}
use Rattle.std.specs.Prelude.{Err}
use Rattle.term_spec.specs.declared.Refusal.{Refusal}
use Rattle.term_reader.specs.Code.{Step, got}
use Rattle.term_reader.specs.Code.{whole_of, asked, Room, Done, TermDone, RunDone}
use Rattle.term_reader.proofs.Found.{Found, StepDone, step_found, step_refused, also, join}

-- the room that is left after what was found
pub room_after : {X : Type 0} (size_of : X → ℕ) (as_rows : X → List ℕ) (From : X → Type 0) (m : List ℕ) (list : AtomList) (T T' : List ℕ) (cap at row whole next end : ℕ)
    (o : Answer (X × Position)) (r : Step) → Room m list T cap at row whole → StepDone size_of as_rows From m cap row T o r T' → r ≡ got next end → length T' ≡ length T
    → Room m list T' cap next end whole
room_after size_of as_rows From m list T T' cap at row whole next end o r room d e same =
    let f : Found size_of as_rows From m cap row T o next end T' = step_found size_of as_rows From m cap row T o r T' next end e d in
    let g : end ≡ row + size_of f.x = f.rows_are in
    record {
      sized = room.sized;
      short = room.short;
      near = f.near;
      few = room.few;
      wide = omega (arith, room.wide);
      low = f.room;
      inside = omega (arith, room.inside);
      bytes = room.bytes;
      listed = room.listed;
    }

-- steps that agree agree after the same step
pub after_same : {A B : Type 0} (o : Answer (A × Position)) (f g : A → Reading B) → ((a : A) (s : Position) → f a s ≡ g a s) → after o f ≡ after o g
after_same (good y) f g e = e y.0 y.1
after_same (refused k p) f g e = refl

-- a run of n parts of any kind is one of n parts that are wanted so
pub run_each : (part : Wanted → Reading Located) (n : ℕ) (s : Position) → run part n s ≡ each part (replicate n any) s
unfolding run each
run_each part zero s = refl
run_each part (suc n) s =
    after_same (part any s) _ _ (λ t u. ap (λ (x : Answer (Terms × Position)). after x (λ ts. done (t ▹ ts))) (run_each part n u))

-- one step after another, and what is made of both
pub after_after : {A B C : Type 0} (o : Answer (A × Position)) (f : A → Reading B) (g : B → Reading C) → after (after o f) g ≡ after o (λ a. λ s. after (f a s) g)
after_after (good y) f g = refl
after_after (refused k p) f g = refl

pub after_done : {A : Type 0} (o : Answer (A × Position)) → o ≡ after o (λ a. done a)
after_done (good y) = refl
after_done (refused k p) = refl

-- terms in turn, and then others
each_append : (part : Wanted → Reading Located) (xs ys : List Wanted) (s : Position)
    → each part (xs ++ ys) s ≡ after (each part xs s) (λ ts. λ u. after (each part ys u) (λ us. done (ts ▹▹ us)))
unfolding each
each_append part [] ys s = after_done (each part ys s)
each_append part (x ∷ xs) ys s =
    after_same (part x s) _ _ (λ t u.
    ap (λ (y : Answer (Terms × Position)). after y (λ ts. done (t ▹ ts))) (each_append part xs ys u)
    ∙ after_after (each part xs u) _ _
    ∙ after_same (each part xs u) _ _ (λ ts v. after_after (each part ys v) _ _)
    ∙ sym (after_after (each part xs u) _ _))
    ∙ sym (after_after (part x s) _ _)

-- ---- `read_run`

module _ (part : Wanted → Reading Located) (w : Wanted) (m : List ℕ) (cap row whole at : ℕ) (T : List ℕ) (n : ℕ) where
  pub run_none : n ≡ 0 → row ≤ cap → at ≤ length m → RunDone m n cap row whole T (each part (replicate n w) (at_offset m at row)) (got at row) T
  unfolding each Done rows row_words EachNode
  run_none e low near =
      let a : row ≡ row + 0 = omega arith in
      rw e (ap (got at) a, record { table_is = refl; stands = ap (λ (k : ℕ). at_offset m at k) a; near = near; room = omega arith; from = (refl, tt) })

  module _ (k : ℕ) (is : n ≡ suc k) (r : Step) (T' : List ℕ) where
    first : (s : Position) → each part (replicate n w) s ≡ after (part w s) (λ t. λ u. after (each part (replicate k w) u) (λ ts. done (t ▹ ts)))
    unfolding each
    first s = ap (λ (j : ℕ). each part (replicate j w) s) is

    pub run_refused : (x : Refusal) (U : List ℕ) → r ≡ Err x → TermDone m cap row whole T (part w (at_offset m at row)) r T'
        → RunDone m n cap row whole T (each part (replicate n w) (at_offset m at row)) (Err x) U
    unfolding Done
    run_refused x U e d = rw (first (at_offset m at row), step_refused _ _ _ m cap row T (part w (at_offset m at row)) r T' x e d)

    pub run_more : (next end : ℕ) (s : Step) (U : List ℕ) → r ≡ got next end → TermDone m cap row whole T (part w (at_offset m at row)) r T'
        → RunDone m k cap end whole T' (each part (replicate k w) (at_offset m next end)) s U
        → RunDone m n cap row whole T (each part (replicate n w) (at_offset m at row)) s U
    run_more next end s U e d rest =
        let f = step_found size (λ t. row_words (tree_rows (whole_of whole) row t)) (EachNode (Placed 65536)) m cap row T (part w (at_offset m at row)) r T' next end e d in
        let many : suc k ≡ n = sym is in
        rw (first (at_offset m at row), f.is)
        (rw many at (also m cap row whole T T' k f.x end f.table_is f.rows_are f.from (each part (replicate k w) (at_offset m next end)) s U rest))

-- a run of one is that term
module _ (part : Wanted → Reading Located) (w : Wanted) (m : List ℕ) (cap row whole at : ℕ) (T : List ℕ) (r : Step) (T' : List ℕ) where
  one : (o : Answer (Located × Position)) → RunDone m 1 cap row whole T (after o (λ t. λ u. good (t ▹ empty, u))) r T' → TermDone m cap row whole T o r T'
  unfolding Done rows row_words EachNode
  one (refused k p) d = d
  one (good y) d =
      let a : row + (size y.0 + 0) ≡ row + size y.0 = omega arith in
      let s = d.1 in (
        d.0 ∙ ap (got y.1.at) a,
        record {
          table_is = s.table_is ∙ ap (λ (ws : List ℕ). sets T row ws) (ap row_words (append-nil (tree_rows (whole_of whole) row y.0)));
          stands = s.stands ∙ ap (λ (k : ℕ). at_offset m y.1.at k) a;
          near = s.near;
          room = omega (arith, s.room);
          from = s.from.1.0;
        },
      )

  pub run_one : RunDone m 1 cap row whole T (each part (replicate 1 w) (at_offset m at row)) r T' → TermDone m cap row whole T (part w (at_offset m at row)) r T'
  unfolding each
  run_one d = one (part w (at_offset m at row)) d

-- ---- `read_wanted`: one atom, or `a` atoms and then arities

-- where one part is wanted, a term read as an atom is all of it
pub wanted_node : (part : Wanted → Reading Located) (m : List ℕ) (cap row whole at : ℕ) (T : List ℕ) (n next end : ℕ) (T' : List ℕ) → n ≡ 1
    → TermDone m cap row whole T (part an_atom (at_offset m at row)) (got next end) T'
    → RunDone m n cap row whole T (each part (asked n) (at_offset m at row)) (got next end) T'
unfolding asked
wanted_node part m cap row whole at T n next end T' e d =
    let f = step_found size (λ t. row_words (tree_rows (whole_of whole) row t)) (EachNode (Placed 65536)) m cap row T (part an_atom (at_offset m at row)) (got next end) T' next end refl d in
    rw e (run_more part an_atom m cap row whole at T 1 0 refl (got next end) T' next end (got next end) T' refl d
    (run_none part an_atom m cap end whole next T' 0 refl f.room f.near))

module _ (part : Wanted → Reading Located) (m : List ℕ) (cap row whole at : ℕ) (T : List ℕ) (n a : ℕ) (least : a ≡ min n 2) (r : Step) (T' : List ℕ)
    (d : RunDone m a cap row whole T (each part (replicate a (wanted_of Atom)) (at_offset m at row)) r T') where
  both : each part (asked n) (at_offset m at row)
      ≡ after (each part (replicate a (wanted_of Atom)) (at_offset m at row)) (λ ts. λ u. after (each part (replicate (n - a) (wanted_of Arity)) u) (λ us. done (ts ▹▹ us)))
  unfolding asked wanted_of
  both =
      let e : n - 2 ≡ n - a = omega arith in
      ap₂ (λ (x y : ℕ). each part (replicate x an_atom ++ replicate y an_arity) (at_offset m at row)) (sym least) e
      ∙ each_append part (replicate a an_atom) (replicate (n - a) an_arity) (at_offset m at row)

  pub wanted_refused : (x : Refusal) (U : List ℕ) → r ≡ Err x → RunDone m n cap row whole T (each part (asked n) (at_offset m at row)) (Err x) U
  unfolding Done
  wanted_refused x U e = rw (both, step_refused _ _ _ m cap row T (each part (replicate a (wanted_of Atom)) (at_offset m at row)) r T' x e d)

  pub wanted_more : (next end : ℕ) (s : Step) (U : List ℕ) → r ≡ got next end
      → RunDone m (n - a) cap end whole T' (each part (replicate (n - a) (wanted_of Arity)) (at_offset m next end)) s U
      → RunDone m n cap row whole T (each part (asked n) (at_offset m at row)) s U
  wanted_more next end s U e rest =
      let f = step_found sizes (λ ts. row_words (rows (whole_of whole) row ts)) (λ ts. (count ts ≡ a) × EachNodes (Placed 65536) ts) m cap row T
      (each part (replicate a (wanted_of Atom)) (at_offset m at row)) r T' next end e d in
      let many : a + (n - a) ≡ n = omega arith in
      rw (both, f.is)
      (rw many at (join m cap row whole T T' f.x end f.table_is f.rows_are a (n - a) f.from.0 f.from.1
      (each part (replicate (n - a) (wanted_of Arity)) (at_offset m next end)) s U rest))
