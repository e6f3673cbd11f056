-- The parts of a term: one law for each way through `read_inner`, `read_parts`, `read_list`, `read_tail` and `read_last`.
use mathlib.Core.Path.{◌≡◌, refl, sym, ap, ap₂, ◌∙◌, subst}
use mathlib.Core.List.{List, [], ◌∷◌, append-nil}
use Prim.Native.Nat.{ℕ, ◌+◌, ◌-◌, ◌≤◌, ◌<◌}
use native.Mathlib.Omega.{arith}
use lib.ListN.{length, drop, replicate, length-drop, drop_of_length-le}
use lib.Seq.{sets}
use Rattle.term_spec.specs.Tree.{empty, ◌▹◌, ◌▹▹◌, count, size, sizes, EachNode, EachNodes}
use Rattle.term_spec.specs.Term.{Label, list, improper_list}
use Rattle.term_spec.specs.Answer.{Answer, good, refused, Position, at_offset, Reading, after, done}
use Rattle.term_spec.specs.Head.{Given, Wanted, any, Head, parts, characters, elements, pairs, Later, later, term_head}
use Rattle.term_spec.specs.Reading.{Located, each, run, string, list_tail, opening, body, term}
use Rattle.term_spec.specs.Message.{Terms}
use Rattle.term_spec.specs.Rows.{Row, tree_rows, rows, kind_of, row_words, Placed}
use Rattle.term_spec.proofs.Holds.{Holds}
use Rattle.term_spec.proofs.Invariant.{run_kept}
use Rattle.term_spec.proofs.Rows.{each_nodes_join, sizes_join, count_join, count_le_sizes}
use Rattle.term_head.specs.declared.Head as code
use Rattle.term_head.specs.declared.Head.TheVariants as heads
use Rattle.term_head.specs.declared.Later as code_later
use Rattle.term_head.specs.declared.Wanted.TheVariants.{Any}
use Rattle.term_head.specs.Code.{wanted_of, kind_later, later_of, head_at, opening_of, end_of, Skipped}
use Rattle.std.specs.Prelude.{Result, Ok, Err}
use Rattle.term_spec.specs.declared.Refusal.{Refusal}
use Rattle.term_reader.specs.Code.{Step, PartsStep, got, got_parts}
use Rattle.term_reader.specs.Code.{whole_of, asked, HeadFits, SoundHead, HeadRead, LastAt, inner, Done, TermDone, RunDone, PartsDone}
use Rattle.term_reader.proofs.Found.{Found, step_found, step_refused, join_parts, joined_words}
use Rattle.term_head.proofs.HeadFacts.{Past, past_is}
use Rattle.term_head.proofs.OpeningFacts.{later_kind}
use Rattle.term_head.proofs.Openings.{skipped_opens, skipped_here}
use Rattle.term_reader.proofs.Openings.{OpenedAt, opened_refused, later_past, nil_opened}
use Rattle.term_reader.proofs.Characters.{characters_none}
use Rattle.term_reader.proofs.Runs.{run_each}

-- ---- what a head promises, from the code's head

abbrev pub next_of : code.Head → ℕ
next_of (heads.Parts k w c l n) = n
next_of (heads.Characters c n) = n
next_of (heads.Elements c n) = n
next_of (heads.Pairs c n) = n

next_is : (h : Head) (next : ℕ) → next_of (head_at h next) ≡ next
unfolding head_at
next_is (parts ws n l) next = refl
next_is (characters cs) next = refl
next_is (elements n) next = refl
next_is (pairs n) next = refl

module _ (m : List ℕ) (place : ℕ) (head H : code.Head) (o : HeadRead m place head) where
  opens_next : head ≡ H → next_of H ≡ o.next
  opens_next e = ap next_of (sym e ∙ o.is) ∙ next_is o.h o.next

  pub opens_near : head ≡ H → next_of H ≤ length m
  opens_near e = omega (arith, opens_next e, o.sound.end)

pub opens_place : (m : List ℕ) (place : ℕ) (head : code.Head) → HeadRead m place head → place < length m
opens_place m place head o = omega (arith, o.sound.before, o.sound.end)

characters_span : (m : List ℕ) (place n next : ℕ) (h : Head) (at : ℕ) → head_at h at ≡ heads.Characters n next → HeadFits m place h → (n ≡ 0 → ⊥) → place + 3 + n ≤ length m
unfolding head_at HeadFits
characters_span m place n next (parts ws k l) at e f some = let z : ◌≡◌ {A = ℕ} 0 1 = cc in absurd (omega arith)
characters_span m place n next (elements k) at e f some = let z : ◌≡◌ {A = ℕ} 0 1 = cc in absurd (omega arith)
characters_span m place n next (pairs k) at e f some = let z : ◌≡◌ {A = ℕ} 0 1 = cc in absurd (omega arith)
characters_span m place n next (characters cs) at e f some =
    let g : length cs ≡ n = cc in
    let z : place + 3 + length cs ≤ length m = f (λ zero_length. some (sym g ∙ zero_length)) in
    omega arith

pub opens_span : (m : List ℕ) (place : ℕ) (head : code.Head) (n next : ℕ) → HeadRead m place head → head ≡ heads.Characters n next → length m ≤ 65536 → (n ≡ 0 → ⊥) → place + 3 + n ≤ 65536
opens_span m place head n next o e short some =
    omega (arith, characters_span m place n next o.h o.next (sym o.is ∙ e) o.sound.fits some)

-- ---- `read_inner`

module _ (given : Given) (cap deep : ℕ) (m : List ℕ) (place row : ℕ) (T : List ℕ) (head : code.Head) (r : PartsStep) (U : List ℕ) where
  abbrev InnerDone : Head → ℕ → Type 0
  InnerDone h next = PartsDone m 0 cap row row T (inner given cap deep place h (at_offset m next row)) r U

  pub inner_parts : (kind wanted n : ℕ) (l' : code_later.Later) (at : ℕ) → head ≡ heads.Parts kind wanted n l' at
      → ((l : Later) → kind ≡ kind_later l → later_of l ≡ l' → InnerDone (parts (asked wanted) n l) at)
      → (h : Head) (next : ℕ) → head ≡ head_at h next → SoundHead m place next h → InnerDone h next
  unfolding head_at HeadFits
  inner_parts kind wanted n l' at e d (characters cs) next f s = let z : ◌≡◌ {A = ℕ} 0 1 = cc in absurd (omega arith)
  inner_parts kind wanted n l' at e d (elements k) next f s = let z : ◌≡◌ {A = ℕ} 0 1 = cc in absurd (omega arith)
  inner_parts kind wanted n l' at e d (pairs k) next f s = let z : ◌≡◌ {A = ℕ} 0 1 = cc in absurd (omega arith)
  inner_parts kind wanted n l' at e d (parts ws k l) next f s =
      let a : kind ≡ kind_later l = cc in
      let b : later_of l ≡ l' = cc in
      let w : wanted ≡ length ws = cc in
      let g : asked wanted ≡ ws = ap asked w ∙ sym s.fits in
      let c : n ≡ k = cc in
      let q : at ≡ next = cc in
      rw (g, c, q) at (d l a b)

  pub inner_characters : (n at : ℕ) → head ≡ heads.Characters n at → ((cs : List ℕ) → length cs ≡ n → at ≤ length m → InnerDone (characters cs) at)
      → (h : Head) (next : ℕ) → head ≡ head_at h next → SoundHead m place next h → InnerDone h next
  unfolding head_at
  inner_characters n at e d (parts ws k l) next f s = let z : ◌≡◌ {A = ℕ} 0 1 = cc in absurd (omega arith)
  inner_characters n at e d (elements k) next f s = let z : ◌≡◌ {A = ℕ} 0 1 = cc in absurd (omega arith)
  inner_characters n at e d (pairs k) next f s = let z : ◌≡◌ {A = ℕ} 0 1 = cc in absurd (omega arith)
  inner_characters n at e d (characters cs) next f s =
      let c : length cs ≡ n = cc in
      let q : at ≡ next = cc in
      rw q at (d cs c (omega (arith, s.end)))

  pub inner_elements : (n at : ℕ) → head ≡ heads.Elements n at → InnerDone (elements n) at → (h : Head) (next : ℕ) → head ≡ head_at h next → SoundHead m place next h → InnerDone h next
  unfolding head_at
  inner_elements n at e d (parts ws k l) next f s = let z : ◌≡◌ {A = ℕ} 0 1 = cc in absurd (omega arith)
  inner_elements n at e d (characters cs) next f s = let z : ◌≡◌ {A = ℕ} 0 1 = cc in absurd (omega arith)
  inner_elements n at e d (pairs k) next f s = let z : ◌≡◌ {A = ℕ} 0 1 = cc in absurd (omega arith)
  inner_elements n at e d (elements k) next f s =
      let c : n ≡ k = cc in
      let q : at ≡ next = cc in
      rw (c, q) at d

  pub inner_pairs : (n at : ℕ) → head ≡ heads.Pairs n at → InnerDone (pairs n) at → (h : Head) (next : ℕ) → head ≡ head_at h next → SoundHead m place next h → InnerDone h next
  unfolding head_at
  inner_pairs n at e d (parts ws k l) next f s = let z : ◌≡◌ {A = ℕ} 0 1 = cc in absurd (omega arith)
  inner_pairs n at e d (characters cs) next f s = let z : ◌≡◌ {A = ℕ} 0 1 = cc in absurd (omega arith)
  inner_pairs n at e d (elements k) next f s = let z : ◌≡◌ {A = ℕ} 0 1 = cc in absurd (omega arith)
  inner_pairs n at e d (pairs k) next f s =
      let c : n ≡ k = cc in
      let q : at ≡ next = cc in
      rw (c, q) at d

-- ---- `read_parts`

-- the later fields, where they are read
record LaterRead (flags : ℕ) (m : List ℕ) (at place : ℕ) (l : Later) (r end : ℕ) : Type 0 where
  pub label : Label
  pub is : later flags place l (at_offset m at r) ≡ good (label, at_offset m end r)
  pub near : end ≤ length m
  pub kind_is : kind_of label ≡ kind_later l

later_read : (flags : ℕ) (m : List ℕ) (at place : ℕ) (l : Later) (r : ℕ) (R : Result ℕ Refusal) (end : ℕ) → at ≤ length m → R ≡ end_of (later flags place l (at_offset m at r)) → R ≡ Ok end → LaterRead flags m at place l r end
unfolding end_of
later_read flags m at place l r R end near e f = go (later flags place l (at_offset m at r)) refl (sym e ∙ f)
  where
    go : (o : Answer (Label × Position)) → later flags place l (at_offset m at r) ≡ o → end_of o ≡ Ok end → LaterRead flags m at place l r end
    go (refused n p) g h = absurd (cc)
    go (good y) g h =
        let i : Past m at r y.1 = (later_past flags m r place l at near).known y.0 y.1 g in
        let a : y.1.at ≡ end = cc in
        record {
          label = y.0;
          is = g ∙ ap (λ (s : Position). good (y.0, s)) (past_is m at r y.1 i ∙ ap (λ (k : ℕ). at_offset m k r) a);
          near = omega (arith, i.in_step.inside);
          kind_is = (later_kind flags place l (at_offset m at r)).known y.0 y.1 g;
        }

later_refused : (flags : ℕ) (m : List ℕ) (at place : ℕ) (l : Later) (r : ℕ) (R : Result ℕ Refusal) (x : Refusal) → R ≡ end_of (later flags place l (at_offset m at r)) → R ≡ Err x
    → later flags place l (at_offset m at r) ≡ refused x.number x.place
unfolding end_of
later_refused flags m at place l r R x e f = go (later flags place l (at_offset m at r)) refl (sym e ∙ f)
  where
    go : (o : Answer (Label × Position)) → later flags place l (at_offset m at r) ≡ o → end_of o ≡ Err x → later flags place l (at_offset m at r) ≡ refused x.number x.place
    go (refused k q) g h = let z : x ≡ record { number = k; place = q } = cc in rw z g
    go (good y) g h = absurd (cc)

-- n terms of any kind
any_run : (part : Wanted → Reading Located) (n : ℕ) (s : Position) → run part n s ≡ each part (replicate n (wanted_of Any)) s
unfolding wanted_of
any_run part n s = run_each part n s

module _ (given : Given) (cap deep : ℕ) (m : List ℕ) (place at row : ℕ) (T : List ℕ) (wanted n : ℕ) (l : Later) (r : Step) (T' : List ℕ)
    (d : RunDone m wanted cap row row T (each (term given cap deep) (asked wanted) (at_offset m at row)) r T') where
  abbrev PartsAreDone : PartsStep → List ℕ → Type 0
  PartsAreDone s U = PartsDone m 0 cap row row T (inner given cap deep place (parts (asked wanted) n l) (at_offset m at row)) s U

  pub parts_first : (x : Refusal) (U : List ℕ) → r ≡ Err x → PartsAreDone (Err x) U
  unfolding inner Done
  parts_first x U e = rw (step_refused _ _ _ m cap row T (each (term given cap deep) (asked wanted) (at_offset m at row)) r T' x e d)

  module _ (next end : ℕ) (e : r ≡ got next end) (r' : Step) (T'' : List ℕ)
      (d' : RunDone m n cap end row T' (each (term given cap deep) (replicate n (wanted_of Any)) (at_offset m next end)) r' T'') where
    abbrev ran : Found sizes (λ ts. row_words (rows (whole_of row) row ts)) (λ ts. (count ts ≡ wanted) × EachNodes (Placed 65536) ts) m cap row T
        (each (term given cap deep) (asked wanted) (at_offset m at row)) next end T'
    ran = step_found sizes _ _ m cap row T (each (term given cap deep) (asked wanted) (at_offset m at row)) r T' next end e d

    pub parts_second : (x : Refusal) (U : List ℕ) → r' ≡ Err x → PartsAreDone (Err x) U
    unfolding inner Done
    parts_second x U f =
        rw (ran.is, any_run (term given cap deep) n (at_offset m next end), step_refused _ _ _ m cap end T' (each (term given cap deep) (replicate n (wanted_of Any)) (at_offset m next end)) r' T'' x f d')

    module _ (next' end' : ℕ) (e' : r' ≡ got next' end') (R : Result ℕ Refusal) (g : R ≡ end_of (later given.flags place l (at_offset m next' end'))) where
      abbrev ran' : Found sizes (λ ts. row_words (rows (whole_of row) end ts)) (λ ts. (count ts ≡ n) × EachNodes (Placed 65536) ts) m cap end T'
          (each (term given cap deep) (replicate n (wanted_of Any)) (at_offset m next end)) next' end' T''
      ran' = step_found sizes _ _ m cap end T' (each (term given cap deep) (replicate n (wanted_of Any)) (at_offset m next end)) r' T'' next' end' e' d'

      pub parts_later_refused : (x : Refusal) (U : List ℕ) → R ≡ Err x → PartsAreDone (Err x) U
      unfolding inner Done
      parts_later_refused x U f =
          rw (ran.is, any_run (term given cap deep) n (at_offset m next end), ran'.is, later_refused given.flags m next' place l end' R x g f)

      pub parts_got : (kind after_fields : ℕ) → kind ≡ kind_later l → R ≡ Ok after_fields → PartsAreDone (got_parts after_fields end' (wanted + n) kind) T''
      unfolding inner Done
      parts_got kind after_fields f h =
          let k : LaterRead given.flags m next' place l end' after_fields = later_read given.flags m next' place l end' R after_fields ran'.near g h in
          let ts : Terms = ran.x in
          let us : Terms = ran'.x in
          let a : end' ≡ row + sizes (ts ▹▹ us) = omega (arith, ran.rows_are, ran'.rows_are, sizes_join ts us) in
          let b : wanted + n ≡ 0 + count (ts ▹▹ us) = omega (arith, ran.from.0, ran'.from.0, count_join ts us) in
          let c : kind ≡ kind_of k.label = f ∙ sym k.kind_is in
          rw (ran.is, any_run (term given cap deep) n (at_offset m next end), ran'.is, k.is) (
            cc,
            record {
              table_is = ran'.table_is ∙ joined_words m cap row row T T' ts end ran.table_is ran.rows_are us;
              stands = ap (λ (x : ℕ). at_offset m after_fields x) a;
              near = k.near;
              room = omega (arith, ran'.room);
              from = each_nodes_join (Placed 65536) ts us ran.from.1 ran'.from.1;
            },
          )

-- ---- `read_list`

-- terms in turn take as many rows as there are or more
pub run_many : (m : List ℕ) (n cap row whole : ℕ) (T : List ℕ) (o : Answer (Terms × Position)) (r : Step) (T' : List ℕ) (next end : ℕ) → RunDone m n cap row whole T o r T' → r ≡ got next end
    → (row + n ≤ end) × (next ≤ length m)
run_many m n cap row whole T o r T' next end d e =
    let f = step_found sizes (λ ts. row_words (rows (whole_of whole) row ts)) (λ ts. (count ts ≡ n) × EachNodes (Placed 65536) ts) m cap row T o r T' next end e d in
    (omega (arith, f.rows_are, f.from.0, count_le_sizes f.x), f.near)

module _ (given : Given) (cap deep : ℕ) (m : List ℕ) (place at row : ℕ) (T : List ℕ) (n : ℕ) (r : Step) (T' : List ℕ)
    (d : RunDone m n cap row row T (each (term given cap deep) (replicate n (wanted_of Any)) (at_offset m at row)) r T') where
  pub list_first : (x : Refusal) (U : List ℕ) → r ≡ Err x → PartsDone m 0 cap row row T (inner given cap deep place (elements n) (at_offset m at row)) (Err x) U
  unfolding inner Done
  list_first x U e =
      rw (any_run (term given cap deep) n (at_offset m at row), step_refused _ _ _ m cap row T (each (term given cap deep) (replicate n (wanted_of Any)) (at_offset m at row)) r T' x e d)

  pub list_then : (next end : ℕ) (s : PartsStep) (U : List ℕ) → r ≡ got next end
      → PartsDone m n cap end row T' (list_tail given cap deep (body given cap deep) (drop next m) (at_offset m next end)) s U
      → PartsDone m 0 cap row row T (inner given cap deep place (elements n) (at_offset m at row)) s U
  unfolding inner
  list_then next end s U e rest =
      let f = step_found sizes (λ ts. row_words (rows (whole_of row) row ts)) (λ ts. (count ts ≡ n) × EachNodes (Placed 65536) ts) m cap row T
      (each (term given cap deep) (replicate n (wanted_of Any)) (at_offset m at row)) r T' next end e d in
      rw (any_run (term given cap deep) n (at_offset m at row), f.is)
      (join_parts m cap row row T T' f.x end f.table_is f.rows_are 0 n (omega (arith, f.from.0)) f.from.1 (list_tail given cap deep (body given cap deep) (drop next m) (at_offset m next end)) s U rest)

-- ---- `read_tail`

elements_are : (h : Head) (at n next : ℕ) → head_at h at ≡ heads.Elements n next → h ≡ elements n
unfolding head_at
elements_are (parts ws k l) at n next e = let z : ◌≡◌ {A = ℕ} 0 1 = cc in absurd (omega arith)
elements_are (characters cs) at n next e = let z : ◌≡◌ {A = ℕ} 0 1 = cc in absurd (omega arith)
elements_are (pairs k) at n next e = let z : ◌≡◌ {A = ℕ} 0 1 = cc in absurd (omega arith)
elements_are (elements k) at n next e = let z : k ≡ n = cc in ap elements z

characters_are : (h : Head) (at n next : ℕ) → head_at h at ≡ heads.Characters n next → (cs : List ℕ) × (h ≡ characters cs) × (length cs ≡ n)
unfolding head_at
characters_are (parts ws k l) at n next e = let z : ◌≡◌ {A = ℕ} 0 1 = cc in absurd (omega arith)
characters_are (characters cs) at n next e = (cs, refl, cc)
characters_are (elements k) at n next e = let z : ◌≡◌ {A = ℕ} 0 1 = cc in absurd (omega arith)
characters_are (pairs k) at n next e = let z : ◌≡◌ {A = ℕ} 0 1 = cc in absurd (omega arith)

module _ (given : Given) (cap deep : ℕ) (m : List ℕ) (at row : ℕ) where
  abbrev Tail : List ℕ → Answer ((Terms × Label) × Position)
  Tail bound = list_tail given cap deep (body given cap deep) bound (at_offset m at row)

  -- at the end of the message no tail is opened
  ended : (bound : List ℕ) → length m - at ≤ length bound → bound ≡ [] → opening given (drop at m) (wanted_of Any) (at_offset m at row) ≡ refused 2 at
  unfolding opening
  ended bound h e =
      let z : length m ≤ at = omega (arith, ap length e) in
      rw (drop_of_length-le m z)

  pub tail_refused : (bound : List ℕ) (k p : ℕ) → length m - at ≤ length bound → opening given (drop at m) (wanted_of Any) (at_offset m at row) ≡ refused k p → Tail bound ≡ refused k p
  unfolding list_tail wanted_of
  tail_refused [] k p h e =
      let z : ◌≡◌ {A = Answer ((ℕ × Head) × Position)} (refused 2 at) (refused k p) = sym (ended [] h refl) ∙ e in
      let a : 2 ≡ k = cc in
      let b : at ≡ p = cc in
      ap₂ refused a b
  tail_refused (b ∷ bound) k p h e = rw e

  module _ {place : ℕ} {head : code.Head} (o : OpenedAt given m at row (wanted_of Any) place head) where
    -- a tail that is a 108 is joined on
    pub tail_joins : (bound : List ℕ) (n next : ℕ) → length m - at ≤ length bound → head ≡ heads.Elements n next
        → (bound' : List ℕ) × (length m - next ≤ length bound') × (next ≤ length m) × (at < next)
        × (Tail bound ≡ after (each (term given cap deep) (replicate n (wanted_of Any)) (at_offset m next row))
        (λ ts. λ u. after (list_tail given cap deep (body given cap deep) bound' u) (λ end. done (ts ▹▹ end.0, end.1))))
    unfolding list_tail wanted_of
    tail_joins [] n next h e =
        let z : ◌≡◌ {A = Answer ((ℕ × Head) × Position)} (good ((place, o.h), at_offset m o.next row)) (refused 2 at) = sym o.is ∙ ended [] h refl in
        let w : ◌≡◌ {A = ℕ} 0 1 = cc in absurd (omega arith)
    tail_joins (b ∷ bound) n next h e =
        let q : next ≡ o.next = ap next_of (sym e ∙ o.head_is) ∙ next_is o.h o.next in
        let i : o.h ≡ elements n = elements_are o.h o.next n next (sym o.head_is ∙ e) in (
          bound,
          omega (arith, o.further),
          omega (arith, o.sound.end),
          omega (arith, o.further),
          rw (o.is, i, ← q)
              (ap (λ (x : Answer (Terms × Position)). after x (λ ts. λ u. after (list_tail given cap deep (body given cap deep) bound u) (λ end. done (ts ▹▹ end.0, end.1))))
              (run_each (term given cap deep) n (at_offset m next row))),
        )

    -- characters end a proper list
    tail_string : (bound : List ℕ) → length m - at ≤ length bound → (cs : List ℕ) → o.h ≡ characters cs
        → Tail bound ≡ inner given cap deep place (characters cs) (at_offset m o.next row)
    unfolding list_tail inner wanted_of
    tail_string [] h cs e =
        let z : ◌≡◌ {A = Answer ((ℕ × Head) × Position)} (good ((place, o.h), at_offset m o.next row)) (refused 2 at) = sym o.is ∙ ended [] h refl in
        let w : ◌≡◌ {A = ℕ} 0 1 = cc in absurd (omega arith)
    tail_string (b ∷ bound) h cs e = rw (o.is, e)

    -- any other tail is the last part
    tail_other : (bound : List ℕ) → length m - at ≤ length bound → ((n : ℕ) → o.h ≡ elements n → ⊥) → ((cs : List ℕ) → o.h ≡ characters cs → ⊥)
        → Tail bound ≡ after (body given cap deep place o.h (at_offset m o.next row)) (λ t. done (t ▹ empty, improper_list))
    unfolding list_tail wanted_of
    tail_other [] h no_list no_string =
        let z : ◌≡◌ {A = Answer ((ℕ × Head) × Position)} (good ((place, o.h), at_offset m o.next row)) (refused 2 at) = sym o.is ∙ ended [] h refl in
        let w : ◌≡◌ {A = ℕ} 0 1 = cc in absurd (omega arith)
    tail_other (b ∷ bound) h no_list no_string = rw o.is (go o.h refl)
      where
        go : (x : Head) → o.h ≡ x
            → (elim x as (λ _. Reading (Terms × Label)) [
              | characters cs ↦ λ t. after (string given cap deep place (place + 3) cs t) (λ ts. done (ts, list))
              | elements n ↦ λ t. after (run (term given cap deep) n t) (λ ts. λ t. after (list_tail given cap deep (body given cap deep) bound t) (λ end. done (ts ▹▹ end.0, end.1)))
              | parts ws n l ↦ λ t. after (body given cap deep place (parts ws n l) t) (λ u. done (u ▹ empty, improper_list))
              | pairs n ↦ λ t. after (body given cap deep place (pairs n) t) (λ u. done (u ▹ empty, improper_list))
            ]) (at_offset m o.next row) ≡ after (body given cap deep place x (at_offset m o.next row)) (λ t. done (t ▹ empty, improper_list))
        go (parts ws n l) e = refl
        go (characters cs) e = absurd (no_string cs e)
        go (elements n) e = absurd (no_list n e)
        go (pairs n) e = refl

-- a tail of characters, after `before` elements
pub tail_characters : (given : Given) (cap deep : ℕ) (m : List ℕ) (at row whole before : ℕ) (T : List ℕ) {place : ℕ} {head : code.Head} (o : OpenedAt given m at row (wanted_of Any) place head)
    (n next : ℕ) (r : PartsStep) (U : List ℕ) → head ≡ heads.Characters n next
    → ((cs : List ℕ) → length cs ≡ n → next ≤ length m → PartsDone m before cap row whole T (inner given cap deep place (characters cs) (at_offset m next row)) r U)
    → (bound : List ℕ) → length m - at ≤ length bound → PartsDone m before cap row whole T (list_tail given cap deep (body given cap deep) bound (at_offset m at row)) r U
tail_characters given cap deep m at row whole before T {place} {head} o n next r U e d bound h =
    let i = characters_are o.h o.next n next (sym o.head_is ∙ e) in
    let q : next ≡ o.next = ap next_of (sym e ∙ o.head_is) ∙ next_is o.h o.next in
    rw (tail_string given cap deep m at row o bound h i.0 i.1)
    (subst (λ (k : ℕ). PartsDone m before cap row whole T (inner given cap deep place (characters i.0) (at_offset m k row)) r U) q (d i.0 i.2 (omega (arith, o.sound.end))))

-- terms are read forward
run_moves : (given : Given) (cap d n : ℕ) (s : Position) → Holds (run (term given cap d) n s) (λ _ t. s.at ≤ t.at)
run_moves given cap d n s =
    run_kept cap (λ t. s.at ≤ t.at) (λ t b bs e h. omega arith) (λ t l h. h) given d n s (omega arith)

-- the tails of a list, joined on so far: what is left to read from `at` on
pub record Tailed (given : Given) (cap deep : ℕ) (m : List ℕ) (at row : ℕ) (whole : ℕ) (T : List ℕ) (before : ℕ) (all_parts : PartsStep → List ℕ → Type 0) : Type 0 where
  pub bound : List ℕ
  pub enough : length m - at ≤ length bound
  pub goes : (s : PartsStep) (U : List ℕ) → PartsDone m before cap row whole T (list_tail given cap deep (body given cap deep) bound (at_offset m at row)) s U → all_parts s U

pub tailed_none : (given : Given) (cap deep : ℕ) (m : List ℕ) (at row whole : ℕ) (T : List ℕ) (before : ℕ)
    → Tailed given cap deep m at row whole T before (PartsDone m before cap row whole T (list_tail given cap deep (body given cap deep) (drop at m) (at_offset m at row)))
tailed_none given cap deep m at row whole T before = record { bound = drop at m; enough = simp length-drop (omega arith); goes = λ s U d. d }

module _ (given : Given) (cap deep : ℕ) (m : List ℕ) (at row whole : ℕ) (T : List ℕ) (before : ℕ) (All : PartsStep → List ℕ → Type 0) (i : Tailed given cap deep m at row whole T before All) where
  -- 108s of length 0 are passed
  pub tailed_skipped : (place : ℕ) → Skipped m at place → Tailed given cap deep m place row whole T before All
  unfolding list_tail
  tailed_skipped place s = record { bound = i.bound; enough = omega (arith, s.from, i.enough); goes = λ r U d. i.goes r U (rw (same i.bound i.enough) d) }
    where
      same : (bound : List ℕ) → length m - at ≤ length bound
          → list_tail given cap deep (body given cap deep) bound (at_offset m at row) ≡ list_tail given cap deep (body given cap deep) bound (at_offset m place row)
      same [] h = ap (refused 2) (omega (arith, s.from, s.inside))
      same (b ∷ bound) h = rw (skipped_opens given m at place row s, skipped_opens given m place place row (skipped_here m at place s))

  pub tailed_nil : Skipped m at at → term_head given any (at_offset m at row) ≡ good (characters [], at_offset m (at + 1) row) → row ≤ cap → All (got_parts (at + 1) row before 5) T
  tailed_nil s e low =
      i.goes _ T (tail_characters given cap deep m at row whole before T (nil_opened given m at row s e) 0 (at + 1) _ T refl
      (λ cs z near. characters_none given m cs before cap row whole deep at (at + 1) T T 0 z refl near low refl) i.bound i.enough)

  pub tailed_last : (r : PartsStep) (U : List ℕ)
      → ((bound : List ℕ) → length m - at ≤ length bound → PartsDone m before cap row whole T (list_tail given cap deep (body given cap deep) bound (at_offset m at row)) r U) → All r U
  tailed_last r U d = i.goes r U (d i.bound i.enough)

  module _ {place : ℕ} {head : code.Head} (o : OpenedAt given m at row (wanted_of Any) place head) where
    module _ (n next : ℕ) (e : head ≡ heads.Elements n next) (r : Step) (T' : List ℕ)
        (d : RunDone m n cap row whole T (each (term given cap deep) (replicate n (wanted_of Any)) (at_offset m next row)) r T') where
      pub tailed_run_refused : (x : Refusal) (U : List ℕ) → r ≡ Err x → All (Err x) U
      unfolding Done
      tailed_run_refused x U f =
          let j = tail_joins given cap deep m at row o i.bound n next i.enough e in
          i.goes (Err x) U
          (rw (j.4, step_refused _ _ _ m cap row T (each (term given cap deep) (replicate n (wanted_of Any)) (at_offset m next row)) r T' x f d))

      module _ (next' end : ℕ) (f : r ≡ got next' end) where
        abbrev elements_run : Found sizes (λ ts. row_words (rows (whole_of whole) row ts)) (λ ts. (count ts ≡ n) × EachNodes (Placed 65536) ts) m cap row T
            (each (term given cap deep) (replicate n (wanted_of Any)) (at_offset m next row)) next' end T'
        elements_run = step_found sizes _ _ m cap row T (each (term given cap deep) (replicate n (wanted_of Any)) (at_offset m next row)) r T' next' end f d

        -- each turn takes bytes
        pub tailed_further : at < next'
        tailed_further =
            let j = tail_joins given cap deep m at row o i.bound n next i.enough e in
            let g : run (term given cap deep) n (at_offset m next row) ≡ good (elements_run.x, at_offset m next' end) = any_run (term given cap deep) n (at_offset m next row) ∙ elements_run.is in
            omega (arith, j.3, (run_moves given cap deep n (at_offset m next row)).known elements_run.x (at_offset m next' end) g)

        pub tailed_more : Tailed given cap deep m next' end whole T' (before + n) All
        tailed_more =
            let j = tail_joins given cap deep m at row o i.bound n next i.enough e in
            let g : run (term given cap deep) n (at_offset m next row) ≡ good (elements_run.x, at_offset m next' end) = any_run (term given cap deep) n (at_offset m next row) ∙ elements_run.is in
            let h : next ≤ next' = (run_moves given cap deep n (at_offset m next row)).known elements_run.x (at_offset m next' end) g in
            record {
              bound = j.0;
              enough = omega (arith, j.1);
              goes = λ s U rest.
                  i.goes s U (rw (j.4, elements_run.is)
                  (join_parts m cap row whole T T' elements_run.x end elements_run.table_is elements_run.rows_are before (before + n) (ap (λ (k : ℕ). before + k) (sym elements_run.from.0)) elements_run.from.1
                  (list_tail given cap deep (body given cap deep) j.0 (at_offset m next' end)) s U rest));
            }

-- ---- `read_last`

module _ (given : Given) (cap deep : ℕ) (m : List ℕ) (at row whole before : ℕ) (T : List ℕ) where
  abbrev LastDone : PartsStep → List ℕ → Type 0
  LastDone r U = (bound : List ℕ) → length m - at ≤ length bound → PartsDone m before cap row whole T (list_tail given cap deep (body given cap deep) bound (at_offset m at row)) r U

  pub last_none : (x : Refusal) (U : List ℕ) → ((rows : ℕ) → Err x ≡ opening_of (opening given (drop at m) (wanted_of Any) (at_offset m at rows))) → LastDone (Err x) U
  unfolding Done
  last_none x U e bound h = rw (tail_refused given cap deep m at row bound x.number x.place h (opened_refused given m at row (wanted_of Any) x e))

  module _ {place : ℕ} {head : code.Head} (o : OpenedAt given m at row (wanted_of Any) place head) (no : LastAt m at) (other : (n next : ℕ) → head ≡ heads.Characters n next → ⊥) (r : Step) (T' : List ℕ)
      (d : TermDone m cap row whole T (body given cap deep place o.h (at_offset m o.next row)) r T') where
    last_is : (bound : List ℕ) → length m - at ≤ length bound
        → list_tail given cap deep (body given cap deep) bound (at_offset m at row) ≡ after (body given cap deep place o.h (at_offset m o.next row)) (λ t. done (t ▹ empty, improper_list))
    unfolding head_at wanted_of
    last_is bound h =
        tail_other given cap deep m at row o bound h
        (λ n e. no.no_elements given row place n (at_offset m o.next row) (o.is ∙ ap (λ (x : Head). good ((place, x), at_offset m o.next row)) e))
        (λ cs e. other (length cs) o.next (o.head_is ∙ ap (λ (x : Head). head_at x o.next) e))

    pub last_refused : (x : Refusal) (U : List ℕ) → r ≡ Err x → LastDone (Err x) U
    unfolding Done
    last_refused x U e bound h = rw (last_is bound h, step_refused _ _ _ m cap row T (body given cap deep place o.h (at_offset m o.next row)) r T' x e d)

    pub last_got : (next end : ℕ) → r ≡ got next end → LastDone (got_parts next end (before + 1) 6) T'
    unfolding Done rows EachNode kind_of
    last_got next end e bound h =
        let f = step_found size (λ t. row_words (tree_rows (whole_of whole) row t)) (EachNode (Placed 65536)) m cap row T (body given cap deep place o.h (at_offset m o.next row)) r T' next end e d in
        let a : end ≡ row + (size f.x + 0) = omega (arith, f.rows_are) in
        rw (last_is bound h, f.is) (
          ap (λ (k : ℕ). got_parts next k (before + 1) 6) a,
          record {
            table_is = f.table_is ∙ ap (λ (rs : List Row). sets T row (row_words rs)) (sym (append-nil (tree_rows (whole_of whole) row f.x)));
            stands = ap (λ (k : ℕ). at_offset m next k) a;
            near = f.near;
            room = omega (arith, f.room);
            from = (f.from, tt);
          },
        )
