-- The number of lent rows changes nothing but refusal 9, and with a row for each byte that does not come. Only a step that takes a row sees the number;
-- one walk over the definitions, with two numbers at once.
use mathlib.Core.Path.{◌≡◌, refl, sym, ◌∙◌, ap, subst}
use mathlib.Core.Bool.{Bool, true, false, not}
use mathlib.Core.List.{List, [], ◌∷◌}
use Prim.Native.Nat.{ℕ, zero, suc, ◌+◌, ◌≤◌, ◌<◌}
use native.Mathlib.Omega.{arith}
use lib.Dec.{leb, ltb}
use lib.ListN.{length}
use borrow.Author.Tests.{leb-true, leb-false, ltb-true, ltb-false}
use Rattle.term_spec.specs.Tree.{Forest, node, empty, ◌▹◌, ◌▹▹◌, size, sizes}
use Rattle.term_spec.specs.Term.{Label, Term, list, improper_list}
use Rattle.term_spec.specs.Equal.{among}
use Rattle.term_spec.specs.Connection.{flags_known}
use Rattle.term_spec.specs.Answer.{Answer, good, refused, Position, Reading, after, done, rule, byte, first_of, bytes}
use Rattle.term_spec.specs.Head.{Given, Wanted, any, Form, fields, Head, parts, characters, elements, pairs, Later, later, term_head}
use Rattle.term_spec.specs.Reading.{Offset, tag_at, Located, meaning, empty_108, opening, one_term, row, body, contents, term, each, run, entries, string, list_tail}
use Rattle.term_spec.specs.AtomList.{AtomList, of_size, given_of}
use Rattle.term_spec.specs.Message.{Framing, standalone, payload, Terms, version, ending, standalone_term, payload_terms, terms_framed, result_of, first_check, capacity_of, read}
use Rattle.term_spec.proofs.Steps.{spot}
use Rattle.term_spec.proofs.Holds.{Holds, both, next, weaken, done_holds, refused_holds, rule_holds, version_holds, ending_holds, characters_hold}
use Rattle.term_spec.proofs.Rows.{sizes_join}
use Rattle.term_spec.proofs.Invariant.{number_kept, later_kept, form_kept, fields_kept, framed_kept}
use Rattle.term_spec.proofs.Message.{passed, found_good}

-- the rows that the characters of a head take
abbrev characters_in : Head → ℕ
characters_in (parts ws n l) = 0
characters_in (characters cs) = length cs
characters_in (elements n) = 0
characters_in (pairs n) = 0

-- A message has no more rows than bytes: each row is taken for a byte passed before. With `total` bytes in all:
module _ (total : ℕ) where
  -- the rows taken, those due for bytes already passed, and the bytes left are together no more
  abbrev pub Covered : ℕ → Position → Type 0
  Covered due s = s.rows_taken + due + length s.left ≤ total

  -- and the rows taken are r
  abbrev Taken : ℕ → ℕ → Position → Type 0
  Taken r due s = (s.rows_taken ≡ r) × Covered due s

  module _ (r : ℕ) where
    -- for a byte passed a row is due
    byte_due : (due p : ℕ) (s : Position) → Taken r due s → Holds (byte p s) (λ _ t. Taken r (due + 1) t)
    byte_due due p s i = go s.left refl
      where
        go : (left : List ℕ) → s.left ≡ left → Holds (first_of left s p) (λ _ t. Taken r (due + 1) t)
        go [] e = refused_holds 2 p
        go (b ∷ bs) e = done_holds b _ (i.0, omega (arith, i.1, ap length e))

    bytes_due : (due p n : ℕ) (s : Position) → Taken r due s → Holds (bytes p n s) (λ bs t. Taken r (due + length bs) t)
    unfolding bytes
    bytes_due due p zero s i = done_holds [] s (i.0, omega (arith, i.1))
    bytes_due due p (suc n) s i =
        next (λ _ t. Taken r (due + 1) t) (byte_due due p s i) λ b t i.
        next (λ bs u. Taken r (due + 1 + length bs) u) (bytes_due (due + 1) p n t i) λ bs u i. done_holds (b ∷ bs) u (i.0, omega (arith, i.1))

    -- a byte takes no row, and where none is lent none is taken
    module _ (due : ℕ) where
      byte_takes : (s : Position) (b : ℕ) (bs : List ℕ) → s.left ≡ b ∷ bs → Taken r due s → Taken r due (record { at = s.at + 1; left = bs; rows_taken = s.rows_taken })
      byte_takes s b bs e i = (i.0, omega (arith, i.1, ap length e))

      no_row : (s : Position) → s.rows_taken < 0 → Taken r due s → Taken r due (record { at = s.at; left = s.left; rows_taken = s.rows_taken + 1 })
      no_row s h i = absurd (omega arith)

    module _ (given : Given) where
      -- a row is due for the tag, and one for each character of a 107, which stands in a byte of its own
      fields_due : (p : ℕ) (f : Form) (s : Position) → Taken r 1 s → Holds (fields given p f s) (λ h t. Taken r (1 + characters_in h) t)
      fields_due p f s i =
          weaken (λ h t. Taken r 1 t × (Taken r 1 t → Taken r (1 + characters_in h) t))
          (both (λ _ t. Taken r 1 t) (λ h t. Taken r 1 t → Taken r (1 + characters_in h) t)
          (fields_kept 0 (Taken r 1) (byte_takes 1) (no_row 1) given p f s i)
          (characters_hold given (λ h t. Taken r 1 t → Taken r (1 + characters_in h) t) (λ _ _ _ _ i. i) (λ _ _ i. i) (λ _ _ i. i) p f s (λ i. i)
          (weaken (λ _ t. Taken r 1 t) (number_kept 0 (Taken r 1) (byte_takes 1) (no_row 1) p 2 s i) λ n t i.
          weaken (λ bs u. Taken r (1 + length bs) u) (bytes_due 1 p n t i) λ bs u i _. i)))
          λ h t k. k.1 k.0

      head_due : (w : Wanted) (s : Position) → Taken r 0 s → Holds (term_head given w s) (λ h t. Taken r (1 + characters_in h) t)
      unfolding term_head
      head_due w s i =
          next (λ _ t. Taken r 1 t) (byte_due 0 s.at s i) λ tag t i.
          next (λ _ t. Taken r 1 t) (form_kept 0 (Taken r 1) (byte_takes 1) (no_row 1) given s.at w tag t i) λ f t i. fields_due s.at f t i

      opening_due : (bound : List ℕ) (w : Wanted) (s : Position) → Taken r 0 s → Holds (opening given bound w s) (λ o t. Taken r (1 + characters_in o.1) t)
      unfolding opening
      opening_due [] w s i = refused_holds 2 _
      opening_due (b ∷ bound) w s i =
          next (λ h t. Taken r (1 + characters_in h) t) (head_due w s i) λ h t i. go h t i (empty_108 h) (opening_due bound any t (i.0, omega (arith, i.1)))
        where
          go : (h : Head) (t : Position) → Taken r (1 + characters_in h) t → (z : Bool)
              → Holds (opening given bound any t) (λ o t. Taken r (1 + characters_in o.1) t)
              → Holds ((elim z as (λ _. Reading (ℕ × Head)) [ true ↦ opening given bound any | false ↦ done (s.at, h) ]) t) (λ o t. Taken r (1 + characters_in o.1) t)
          go h t i true k = k
          go h t i false k = done_holds _ t i

-- Of the answers with a smaller and with a larger number of rows: they are the same, or the smaller number gives refusal 9, is under `total`, and what the
-- larger one finds takes more rows than that
pub data Agree {A : Type 0} (small total : ℕ) (o o' : Answer (A × Position)) : Type 0 where
  same : o ≡ o' → Agree small total o o'
  short : (p : ℕ) → o ≡ refused 9 p → small < total → Holds o' (λ _ t. small < t.rows_taken) → Agree small total o o'

module _ (small large total : ℕ) (less : small ≤ large) where
  -- They agree; the rows taken are `before` and as many as `cost` says of what is found, and no fewer than those taken `now`; as many as
  -- `due` says are due
  pub record Alike {A : Type 0} (cost due : A → ℕ) (before now : ℕ) (o o' : Answer (A × Position)) : Type 0 where
    pub rows_are : Holds o' (λ a t. (t.rows_taken ≡ before + cost a) × (now ≤ t.rows_taken) × Covered total (due a) t)
    pub agree : Agree small total o o'

  -- from a position on, and none are due at the end
  abbrev pub From : {A : Type 0} → (A → ℕ) → Position → Answer (A × Position) → Answer (A × Position) → Type 0
  From cost s o o' = Alike cost (λ _. 0) s.rows_taken s.rows_taken o o'

  module _ {A B : Type 0} where
    -- answers that agree, and what is read after them: a row too many stays one too many, since rows taken never fall
    agree_after : {f f' : A → Reading B} (o o' : Answer (A × Position)) → Agree small total o o'
        → ((a : A) (t : Position) → o' ≡ good (a, t) → Agree small total (f a t) (f' a t) × Holds (f' a t) (λ _ u. t.rows_taken ≤ u.rows_taken))
        → Agree small total (after o f) (after o' f')
    agree_after {f} {f'} o (good r) (same e) k = rw e (k r.0 r.1 refl).0
    agree_after {f} {f'} o (refused n p) (same e) k = rw e (same refl)
    agree_after {f} {f'} o (good r) (short p e l h) k =
        short p (ap (λ (x : Answer (A × Position)). after x f) e) l
        (weaken (λ _ u. r.1.rows_taken ≤ u.rows_taken) (k r.0 r.1 refl).1 λ b u g. omega (arith, h.known r.0 r.1 refl))
    agree_after {f} {f'} o (refused n q) (short p e l h) k = short p (ap (λ (x : Answer (A × Position)). after x f) e) l (refused_holds n q)

    -- one step after another
    step : {o o' : Answer (A × Position)} {f f' : A → Reading B} {cost due : A → ℕ} {whole_cost whole_due : B → ℕ} {before now : ℕ}
        → Alike cost due now now o o'
        → ((a : A) (t : Position) → t.rows_taken ≡ now + cost a → Covered total (due a) t → Alike whole_cost whole_due before t.rows_taken (f a t) (f' a t))
        → Alike whole_cost whole_due before now (after o f) (after o' f')
    step {o} {o'} {f} {f'} {cost} {due} {whole_cost} {whole_due} {before} {now} h k =
        record {
          rows_are =
              next (λ a t. (t.rows_taken ≡ now + cost a) × (now ≤ t.rows_taken) × Covered total (due a) t) h.rows_are λ a t i.
              weaken (λ b u. (u.rows_taken ≡ before + whole_cost b) × (t.rows_taken ≤ u.rows_taken) × Covered total (whole_due b) u) (k a t i.0 i.2).rows_are
              λ b u j. (j.0, omega (arith, i.1, j.1), j.2);
          agree = agree_after o o' h.agree λ a t e.
              let i = h.rows_are.known a t e in
              let rest : Alike whole_cost whole_due before t.rows_taken (f a t) (f' a t) = k a t i.0 i.2 in
              (rest.agree, weaken (λ b u. (u.rows_taken ≡ before + whole_cost b) × (t.rows_taken ≤ u.rows_taken) × Covered total (whole_due b) u) rest.rows_are λ b u j. j.1);
        }

  module _ {A : Type 0} where
    end : {cost due : A → ℕ} {before : ℕ} (a : A) (t : Position) → t.rows_taken ≡ before + cost a → Covered total (due a) t
        → Alike cost due before t.rows_taken (good (a, t)) (good (a, t))
    end a t e f = record { rows_are = done_holds a t (e, omega arith, f); agree = same refl }

    no : {cost due : A → ℕ} {before now : ℕ} (n p : ℕ) → Alike {A = A} cost due before now (refused n p) (refused n p)
    no n p = record { rows_are = refused_holds n p; agree = same refl }

    -- the rows counted from another number
    counted : {cost due : A → ℕ} {before before' now : ℕ} {o o' : Answer (A × Position)} → Alike cost due before now o o' → before ≡ before'
        → Alike cost due before' now o o'
    counted {cost} {due} {before} {before'} {now} {o} {o'} a e = subst (λ (b : ℕ). Alike cost due b now o o') e a

    -- a step that takes no row
    unseen : {due : A → ℕ} {now : ℕ} {o : Answer (A × Position)} → Holds o (λ a t. Taken total now (due a) t) → Alike (λ _. 0) due now now o o
    unseen {due} {now} h =
        record { rows_are = weaken (λ a t. Taken total now (due a) t) h λ a t e. (omega (arith, e.0), omega (arith, e.0), e.1); agree = same refl }

  rule_alike : (b : Bool) (n p : ℕ) (s : Position) → Covered total 0 s → From (λ _. 0) s (rule b n p s) (rule b n p s)
  rule_alike b n p s f = unseen (rule_holds b n p s λ _. (refl, f))

  later_alike : (flags p : ℕ) (l : Later) (s : Position) → Covered total 0 s → From (λ _. 0) s (later flags p l s) (later flags p l s)
  later_alike flags p l s f =
      let r : ℕ = s.rows_taken in
      unseen (later_kept 0 (Taken total r 0) (byte_takes total r 0) (no_row total r 0) flags p l s (refl, f))

  module _ (part part' : Wanted → Reading Located) (alike : (w : Wanted) (s : Position) → Covered total 0 s → From size s (part w s) (part' w s)) where
    each_alike : (ws : List Wanted) (s : Position) → Covered total 0 s → From sizes s (each part ws s) (each part' ws s)
    unfolding each
    each_alike [] s f = end empty s (omega arith) f
    each_alike (w ∷ ws) s f = step (alike w s f) λ u t i f. step (each_alike ws t f) λ us t j f. end (u ▹ us) t (omega arith) f

    run_alike : (n : ℕ) (s : Position) → Covered total 0 s → From sizes s (run part n s) (run part' n s)
    unfolding run
    run_alike zero s f = end empty s (omega arith) f
    run_alike (suc n) s f = step (alike any s f) λ u t i f. step (run_alike n t f) λ us t j f. end (u ▹ us) t (omega arith) f

    entries_alike : (earlier : List Term) (n : ℕ) (s : Position) → Covered total 0 s → From sizes s (entries part earlier n s) (entries part' earlier n s)
    unfolding entries
    entries_alike earlier zero s f = end empty s (omega arith) f
    entries_alike earlier (suc n) s f =
        step (alike any s f) λ k t i f. step (rule_alike (not (among (meaning k) earlier)) 7 s.at t f) λ _ t e f. step (alike any t f) λ v t j f.
        step (entries_alike (meaning k ∷ earlier) n t f) λ us t l f. end (k ▹ v ▹ us) t (omega arith) f

  module _ (given : Given) where
    opening_alike : (bound : List ℕ) (w : Wanted) (s : Position) → Covered total 0 s
        → Alike (λ _. 0) (λ o. 1 + characters_in o.1) s.rows_taken s.rows_taken (opening given bound w s) (opening given bound w s)
    opening_alike bound w s f = unseen (opening_due total s.rows_taken given bound w s (refl, f))

    -- the step that sees the number of rows
    row_alike : (due p : ℕ) (s : Position) → Covered total (1 + due) s
        → Alike (λ _. 1) (λ _. due) s.rows_taken s.rows_taken (row given small p s) (row given large p s)
    unfolding row
    row_alike due p s f = go (ltb s.rows_taken small) (ltb s.rows_taken large) refl refl
      where
        answer : Bool → Answer (Unit × Position)
        answer z = elim z [ true ↦ good (tt, record { at = s.at; left = s.left; rows_taken = s.rows_taken + 1 }) | false ↦ refused 9 p ]

        go : (y z : Bool) → ltb s.rows_taken small ≡ y → ltb s.rows_taken large ≡ z
            → Alike (λ _. 1) (λ _. due) s.rows_taken s.rows_taken (answer y) (answer z)
        go true true e e' = record { rows_are = done_holds tt _ (refl, omega arith, omega arith); agree = same refl }
        go true false e e' = absurd (omega (arith, ltb-true s.rows_taken small e, ltb-false s.rows_taken large e'))
        go false true e e' =
            let l : small ≤ s.rows_taken = ltb-false s.rows_taken small e in
            record { rows_are = done_holds tt _ (refl, omega arith, omega arith); agree = short p refl (omega arith) (done_holds tt _ (omega arith)) }
        go false false e e' = no 9 p

    string_alike : (d p off : ℕ) (cs : List ℕ) (s : Position) → Covered total (length cs) s
        → From sizes s (string given small d p off cs s) (string given large d p off cs s)
    unfolding string
    string_alike d p off [] s f = end empty s (omega arith) f
    string_alike zero p off (c ∷ cs) s f = no 8 p
    string_alike (suc d) p off (c ∷ cs) s f =
        step (row_alike (length cs) p s (omega arith)) λ _ t i f. step (string_alike (suc d) p (off + 1) cs t f) λ ts t j f. end _ t (omega arith) f

    module _ (d : ℕ) (inner inner' : ℕ → Head → Reading Located)
        (alike : (p : ℕ) (h : Head) (s : Position) → Covered total (1 + characters_in h) s → From size s (inner p h s) (inner' p h s)) where
      part_alike : (w : Wanted) (s : Position) → Covered total 0 s → From size s (one_term given inner w s) (one_term given inner' w s)
      unfolding one_term
      part_alike w s f = step (opening_alike s.left w s f) λ o t i f. counted (alike o.0 o.1 t f) (omega arith)

      tail_alike : (bound : List ℕ) (s : Position) → Covered total 0 s
          → From (λ end. sizes end.0) s (list_tail given small d inner bound s) (list_tail given large d inner' bound s)
      unfolding list_tail
      tail_alike [] s f = no 2 _
      tail_alike (b ∷ bound) s f = step (opening_alike s.left any s f) λ o t i f. counted (go o.0 o.1 t f (λ t f. tail_alike bound t f)) (omega arith)
        where
          tail_of : ℕ → (ℕ → Head → Reading Located) → ℕ → Head → Reading (Forest (Label × Offset) × Label)
          tail_of cap inner p x =
              elim x as (λ _. Reading (Forest (Label × Offset) × Label)) [
                | characters cs ↦ λ t. after (string given cap d p (p + 3) cs t) (λ ts. done (ts, list))
                | elements n ↦ λ t. after (run (one_term given inner) n t) (λ ts. λ t. after (list_tail given cap d inner bound t) (λ end. done (ts ▹▹ end.0, end.1)))
                | parts ws n l ↦ λ t. after (inner p (parts ws n l) t) (λ u. done (u ▹ empty, improper_list))
                | pairs n ↦ λ t. after (inner p (pairs n) t) (λ u. done (u ▹ empty, improper_list))
              ]

          go : (p : ℕ) (x : Head) (t : Position) → Covered total (1 + characters_in x) t
              → ((t : Position) → Covered total 0 t → From (λ end. sizes end.0) t (list_tail given small d inner bound t) (list_tail given large d inner' bound t))
              → From (λ end. sizes end.0) t (tail_of small inner p x t) (tail_of large inner' p x t)
          go p (characters cs) t f ih = step (string_alike d p (p + 3) cs t (omega arith)) λ us t i f. end _ t (omega arith) f
          go p (elements n) t f ih =
              step (run_alike (one_term given inner) (one_term given inner') part_alike n t (omega arith)) λ us t i f. step (ih t f) λ e t j f.
              end (us ▹▹ e.0, e.1) t (omega (arith, sizes_join us e.0)) f
          go p (parts ws n l) t f ih = step (alike p (parts ws n l) t f) λ u t i f. end _ t (omega arith) f
          go p (pairs n) t f ih = step (alike p (pairs n) t f) λ u t i f. end _ t (omega arith) f

      -- the whole has taken its own row before
      whole_alike : (p : ℕ) (h : Head) (before : ℕ) (s : Position) → s.rows_taken ≡ before + 1 → Covered total (characters_in h) s
          → Alike size (λ _. 0) before s.rows_taken (contents given small d inner p h s) (contents given large d inner' p h s)
      unfolding contents
      whole_alike p (parts ws n l) before s e f =
          step (each_alike (one_term given inner) (one_term given inner') part_alike ws s f) λ us t i f.
          step (run_alike (one_term given inner) (one_term given inner') part_alike n t f) λ vs t j f.
          step (later_alike given.flags p l t f) λ x t k f. end (node (x, tag_at p) (us ▹▹ vs)) t (omega (arith, sizes_join us vs)) f
      whole_alike p (characters cs) before s e f = step (string_alike d p (p + 3) cs s f) λ us t i f. end _ t (omega arith) f
      whole_alike p (elements n) before s e f =
          step (run_alike (one_term given inner) (one_term given inner') part_alike n s f) λ us t i f.
          step (tail_alike t.left t f) λ l t j f. end (node (l.1, tag_at p) (us ▹▹ l.0)) t (omega (arith, sizes_join us l.0)) f
      whole_alike p (pairs n) before s e f =
          step (entries_alike (one_term given inner) (one_term given inner') part_alike [] n s f) λ us t i f. end _ t (omega arith) f

    body_alike : (d p : ℕ) (h : Head) (s : Position) → Covered total (1 + characters_in h) s → From size s (body given small d p h s) (body given large d p h s)
    unfolding body
    body_alike zero p h s f = no 8 p
    body_alike (suc d) p h s f =
        step (row_alike (characters_in h) p s f) λ _ t i f. whole_alike d (body given small d) (body given large d) (body_alike d) p h s.rows_taken t i f

    pub term_alike : (d : ℕ) (w : Wanted) (s : Position) → Covered total 0 s → From size s (term given small d w s) (term given large d w s)
    term_alike d w s f = part_alike d (body given small d) (body given large d) (body_alike d) w s f

    version_alike : (s : Position) → Covered total 0 s → From (λ _. 0) s (version s) (version s)
    version_alike s f = unseen (version_holds s λ b bs e. (refl, omega (arith, ap length e)))

    ending_alike : (left : List ℕ) (s : Position) → Covered total 0 s → From (λ _. 0) s (ending left s) (ending left s)
    ending_alike left s f = unseen (ending_holds left s (refl, f))

    standalone_alike : (s : Position) → Covered total 0 s → From sizes s (standalone_term given small s) (standalone_term given large s)
    unfolding standalone_term
    standalone_alike s f =
        step (version_alike s f) λ _ t i f. step (term_alike 64 any t f) λ u t j f. step (ending_alike t.left t f) λ _ t k f. end (u ▹ empty) t (omega arith) f

    payload_alike : (s : Position) → Covered total 0 s → From sizes s (payload_terms given small s) (payload_terms given large s)
    unfolding payload_terms
    payload_alike s f = step (term_alike 64 any s f) λ u t i f. go u t i f t.left
      where
        second : ℕ → Located → List ℕ → Reading Terms
        second cap u left =
            elim left as (λ _. Reading Terms) [
              | [] ↦ done (u ▹ empty)
              | b ∷ bs ↦ λ t. after (term given cap 64 any t) (λ v. λ t. after (ending t.left t) (λ _. done (u ▹ v ▹ empty)))
            ]

        go : (u : Located) (t : Position) → t.rows_taken ≡ s.rows_taken + size u → Covered total 0 t → (left : List ℕ)
            → Alike sizes (λ _. 0) s.rows_taken t.rows_taken (second small u left t) (second large u left t)
        go u t i f [] = end (u ▹ empty) t (omega arith) f
        go u t i f (b ∷ bs) = step (term_alike 64 any t f) λ v t j f. step (ending_alike t.left t f) λ _ t k f. end (u ▹ v ▹ empty) t (omega arith) f

    pub framed_alike : (framing : Framing) (s : Position) → Covered total 0 s → From sizes s (terms_framed given small framing s) (terms_framed given large framing s)
    framed_alike standalone s f = standalone_alike s f
    framed_alike payload s f = payload_alike s f

module _ {A : Type 0} where
  -- with more rows: what is no refusal 9 stays
  with_more : {small total : ℕ} (o o' : Answer (A × Position)) → Agree small total o o' → (x : Answer A) → ((p : ℕ) → x ≡ refused 9 p → ⊥) → result_of o ≡ x → result_of o' ≡ x
  with_more o o' (same e) x other f = ap result_of (sym e) ∙ f
  with_more o o' (short p e l h) x other f = absurd (other p (sym f ∙ ap result_of e))

  -- with fewer rows: what takes no more stays
  with_fewer : {small total : ℕ} (cost : A → ℕ) (o o' : Answer (A × Position)) → Agree small total o o' → Holds o' (λ a t. t.rows_taken ≤ cost a)
      → (a : A) → cost a ≤ small → result_of o' ≡ good a → result_of o ≡ good a
  with_fewer cost o o' (same e) rows a few f = ap result_of e ∙ f
  with_fewer cost o (good r) (short p e l h) rows a few f =
      let is : r.0 ≡ a = cc in
      let costs : cost r.0 ≡ cost a = ap cost is in
      absurd (omega (arith, h.known r.0 r.1 refl, rows.known r.0 r.1 refl))
  with_fewer cost o (refused n q) (short p e l h) rows a few f = let no_way : ◌≡◌ {A = ℕ} 0 1 = cc in absurd (omega arith)

  -- with a row for each byte
  with_total : {small total : ℕ} (o o' : Answer (A × Position)) → Agree small total o o' → total ≤ small → result_of o ≡ result_of o'
  with_total o o' (same e) all = ap result_of e
  with_total o o' (short p e l h) all = absurd (omega arith)

  -- the checks before any byte is read are the same
  checked : (t : Bool) (n : ℕ) (o o' x : Answer A) → (o ≡ x → o' ≡ x) → first_check t n o ≡ x → first_check t n o' ≡ x
  checked true n o o' x f e = f e
  checked false n o o' x f e = e

module _ (flags : ℕ) (framing : Framing) (list : AtomList) (message : List ℕ) where
  -- what is found with that many rows
  abbrev found_with : ℕ → Answer Terms
  found_with lent = result_of (terms_framed (given_of flags list) (capacity_of lent) framing (spot 0 message 0))

  read_with : (lent lent' : ℕ) (x : Answer Terms) → (found_with lent ≡ x → found_with lent' ≡ x) → read flags framing list lent message ≡ x → read flags framing list lent' message ≡ x
  unfolding read
  read_with lent lent' x f e = checked (of_size list) 13 _ _ x (checked (flags_known flags) 14 _ _ x (checked (leb (length message) 65536) 12 (found_with lent) (found_with lent') x f)) e

  -- the walk, over the whole message
  both_ways : (lent lent' : ℕ) (more : capacity_of lent ≤ capacity_of lent')
      → From (capacity_of lent) (capacity_of lent') (length message) more sizes (spot 0 message 0)
      (terms_framed (given_of flags list) (capacity_of lent) framing (spot 0 message 0)) (terms_framed (given_of flags list) (capacity_of lent') framing (spot 0 message 0))
  both_ways lent lent' more = framed_alike (capacity_of lent) (capacity_of lent') (length message) more (given_of flags list) framing (spot 0 message 0) (omega arith)

  -- with a larger and with a smaller number of rows
  up : (lent lent' : ℕ) → capacity_of lent ≤ capacity_of lent' → (x : Answer Terms) → ((p : ℕ) → x ≡ refused 9 p → ⊥)
      → found_with lent ≡ x → found_with lent' ≡ x
  up lent lent' more x other = with_more _ _ (both_ways lent lent' more).agree x other

  down : (lent lent' : ℕ) → capacity_of lent' < capacity_of lent → (ts : Terms) → sizes ts ≤ lent' → found_with lent ≡ good ts → found_with lent' ≡ good ts
  down lent lent' fewer ts few =
      let both = both_ways lent' lent (omega arith) in
      with_fewer sizes _ _ both.agree
      (weaken (λ us t. (t.rows_taken ≡ 0 + sizes us) × (0 ≤ t.rows_taken) × Covered (length message) 0 t) both.rows_are λ us t i. omega (arith, i.0)) ts (omega arith)

  -- What is accepted with some number of rows has no more rows than are lent, and no more than 8,192
  pub rows_lent : (lent : ℕ) (ts : Terms) → read flags framing list lent message ≡ good ts → sizes ts ≤ capacity_of lent
  unfolding read
  rows_lent lent ts e =
      let o : Answer (Terms × Position) = terms_framed (given_of flags list) (capacity_of lent) framing (spot 0 message 0) in
      let a = passed (of_size list) 13 _ ts e in
      let k = passed (flags_known flags) 14 _ ts a.1 in
      let b = passed (leb (length message) 65536) 12 (result_of o) ts k.1 in
      let g = found_good o ts b.1 in
      let costs = (both_ways lent lent (omega arith)).rows_are.known ts g.0 g.1 in
      let room : g.0.rows_taken ≤ capacity_of lent
      = (framed_kept (capacity_of lent) (λ t. t.rows_taken ≤ capacity_of lent) (λ s b bs e i. i) (λ s less i. omega arith) (given_of flags list) message (omega arith) framing).known ts g.0 g.1 in
      omega (arith, costs.0)

  -- What is accepted with some number of rows is accepted, as the same terms, with any number that is at least the rows that the terms have
  pub enough : (lent lent' : ℕ) (ts : Terms) → read flags framing list lent message ≡ good ts → sizes ts ≤ lent' → read flags framing list lent' message ≡ good ts
  enough lent lent' ts e few = read_with lent lent' (good ts) (go (leb (capacity_of lent) (capacity_of lent')) refl) e
    where
      go : (z : Bool) → leb (capacity_of lent) (capacity_of lent') ≡ z → found_with lent ≡ good ts → found_with lent' ≡ good ts
      go true h = up lent lent' (leb-true (capacity_of lent) (capacity_of lent') h) (good ts) λ p no. let no_way : ◌≡◌ {A = ℕ} 0 1 = cc in omega arith
      go false h = down lent lent' (leb-false (capacity_of lent) (capacity_of lent') h) ts few

  -- A refusal other than 9 with some number of rows is the same refusal at the same place with any larger number
  pub refusal_stays : (lent lent' : ℕ) → lent ≤ lent' → (n p : ℕ) → (n ≡ 9 → ⊥) → read flags framing list lent message ≡ refused n p → read flags framing list lent' message ≡ refused n p
  refusal_stays lent lent' more n p other e =
      read_with lent lent' (refused n p) (up lent lent' (omega arith) (refused n p) λ q same. let is : n ≡ 9 = cc in other is) e

  -- A table of as many rows as the message has bytes reads it as one of 8,192 rows does: a message has no more rows than bytes
  pub row_for_each_byte : (lent : ℕ) → length message ≤ lent → read flags framing list lent message ≡ read flags framing list 8192 message
  row_for_each_byte lent all = sym (read_with lent 8192 (read flags framing list lent message) (λ e. sym (go (leb lent 8192) refl) ∙ e) refl)
    where
      go : (z : Bool) → leb lent 8192 ≡ z → found_with lent ≡ found_with 8192
      go true h = let few : lent ≤ 8192 = leb-true lent 8192 h in with_total _ _ (both_ways lent 8192 (omega arith)).agree (omega arith)
      go false h =
          let many : capacity_of lent ≡ 8192 = omega (arith, leb-false lent 8192 h) in
          ap (λ (c : ℕ). result_of (terms_framed (given_of flags list) c framing (spot 0 message 0))) many
