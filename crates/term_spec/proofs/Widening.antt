-- V4_NC only widens: one walk over the definitions, with two flags at once. Only two rules see the flags, and with the wider limits both still hold.
use mathlib.Core.Path.{◌≡◌, refl, sym, ◌∙◌, ap}
use mathlib.Core.Bool.{Bool, true, false, not, ◌&&◌}
use mathlib.Core.List.{List, [], ◌∷◌}
use Prim.Native.Nat.{ℕ, zero, suc, ◌+◌, ◌≤◌}
use native.Mathlib.Omega.{arith}
use lib.Dec.{leb, ltb}
use lib.ListN.{length}
use borrow.Author.Tests.{leb-true, ltb-true, le-leb, lt-ltb}
use Rattle.term_spec.specs.Tree.{Forest, empty, ◌▹◌, ◌▹▹◌}
use Rattle.term_spec.specs.Text.{Checked}
use Rattle.term_spec.specs.Term.{Label, Term, list, improper_list}
use Rattle.term_spec.specs.Equal.{among}
use Rattle.term_spec.specs.Connection.{v4_nc, flags_known}
use Rattle.term_spec.specs.Answer.{Answer, good, refused, Position, Reading, after, done, rule, byte, number}
use Rattle.term_spec.specs.Head.{Given, limits, Wanted, any, Form, small_integer_ext, integer_ext, big_ext, new_float_ext, atom_ext, atom_cache_ref, tuple_ext, nil_ext, string_ext, list_ext, binary_ext, bit_binary_ext, map_ext, pid_ext, port_ext, new_reference_ext, reference_ext, export_ext, form, fields, Head, parts, characters, elements, pairs, Later, known, pid_fields, port_fields, reference_fields, old_reference_fields, creation_rule, later, term_head}
use Rattle.term_spec.specs.Reading.{Offset, Located, meaning, empty_108, opening, one_term, row, body, contents, term, each, run, entries, string, list_tail}
use Rattle.term_spec.specs.AtomList.{AtomList, of_size, given_of, place_text}
use Rattle.term_spec.specs.Message.{Framing, standalone, payload, Terms, version, ending, standalone_term, payload_terms, terms_framed, capacity_of, read}
use Rattle.term_spec.specs.Rows.{table_after}
use Rattle.term_spec.specs.Writing.{written, write, output_after}
use Rattle.term_spec.specs.Answers.{read_answer, write_answer}
use Rattle.term_spec.specs.Widening.{OnlyWidens}
use Rattle.term_spec.proofs.Tests.{both_true}
use Rattle.term_spec.proofs.Steps.{spot}
use Rattle.term_spec.proofs.Limits.{Within, limits_wider}
use Rattle.term_spec.proofs.Message.{passed, found_good}
use Rattle.term_spec.proofs.Lists.{no_long_list}

-- what the first answer finds, the second finds too, and both end at the same position
record Stays {A : Type 0} (o o' : Answer (A × Position)) : Type 0 where
  pub stays : (a : A) (t : Position) → o ≡ good (a, t) → o' ≡ good (a, t)

same : {A : Type 0} {o : Answer (A × Position)} → Stays o o
same = record { stays = λ a t e. e }

step : {A B : Type 0} {o o' : Answer (A × Position)} {f f' : A → Reading B} → Stays o o' → ((a : A) (t : Position) → Stays (f a t) (f' a t)) → Stays (after o f) (after o' f')
step {A} {B} {o} {o'} {f} {f'} h k = record { stays = λ b u e. go o refl b u e }
  where
    go : (x : Answer (A × Position)) → o ≡ x → (b : B) (u : Position) → after x f ≡ good (b, u) → after o' f' ≡ good (b, u)
    go (good r) p b u e = rw (h.stays r.0 r.1 p) ((k r.0 r.1).stays b u e)
    go (refused n q) p b u e = let no_way : ◌≡◌ {A = ℕ} 0 1 = cc in absurd (omega arith)

-- a step that does not see the flags
then : {A B : Type 0} (o : Answer (A × Position)) {f f' : A → Reading B} → ((a : A) (t : Position) → Stays (f a t) (f' a t)) → Stays (after o f) (after o f')
then o k = step (same {o = o}) k

-- a rule that holds where the other does
rule_stays : (b b' : Bool) (n p : ℕ) (s : Position) → (b ≡ true → b' ≡ true) → Stays (rule b n p s) (rule b' n p s)
rule_stays true b' n p s f = rw (f refl) same
rule_stays false b' n p s f = record { stays = λ a t e. let no_way : ◌≡◌ {A = ℕ} 0 1 = cc in absurd (omega arith) }

and_stays : (a a' b b' : Bool) → (a ≡ true → a' ≡ true) → (b ≡ true → b' ≡ true) → (a && b) ≡ true → (a' && b') ≡ true
and_stays a a' b b' f g e = let h = both_true a b e in rw (f h.0) (g h.1)

less_stays : (x m n : ℕ) → m ≤ n → ltb x m ≡ true → ltb x n ≡ true
less_stays x m n h e = lt-ltb x n (omega (arith, ltb-true x m e))

most_stays : (x m n : ℕ) → m ≤ n → leb x m ≡ true → leb x n ≡ true
most_stays x m n h e = le-leb x n (omega (arith, leb-true x m e))

module _ (part part' : Wanted → Reading Located) (ok : (w : Wanted) (s : Position) → Stays (part w s) (part' w s)) where
  each_stays : (ws : List Wanted) (s : Position) → Stays (each part ws s) (each part' ws s)
  unfolding each
  each_stays [] s = same
  each_stays (w ∷ ws) s = step (ok w s) λ u t. step (each_stays ws t) λ us t. same

  run_stays : (n : ℕ) (s : Position) → Stays (run part n s) (run part' n s)
  unfolding run
  run_stays zero s = same
  run_stays (suc n) s = step (ok any s) λ u t. step (run_stays n t) λ us t. same

  entries_stay : (earlier : List Term) (n : ℕ) (s : Position) → Stays (entries part earlier n s) (entries part' earlier n s)
  unfolding entries
  entries_stay earlier zero s = same
  entries_stay earlier (suc n) s =
      step (ok any s) λ k t. then (rule (not (among (meaning k) earlier)) 7 s.at t) λ _ t. step (ok any t) λ v t. step (entries_stay (meaning k ∷ earlier) n t) λ us t. same

module _ (flags wider : ℕ) (more : (w : ℕ) → Within (limits flags w) (limits wider w)) (n : ℕ) (text : ℕ → Checked) (cap : ℕ) where
  abbrev with : ℕ → Given
  with flags = record { flags = flags; n = n; text = text }

  -- the two rules that see the flags
  fields_stay : (p : ℕ) (f : Form) (s : Position) → Stays (fields (with flags) p f s) (fields (with wider) p f s)
  unfolding fields
  fields_stay p (new_reference_ext w) s =
      then (number p 2 s) λ k t. step (rule_stays (leb 1 k && leb k (limits flags w).word_count) (leb 1 k && leb k (limits wider w).word_count) 4 p t
      (and_stays (leb 1 k) (leb 1 k) _ _ (λ e. e) (most_stays k _ _ (more w).counts))) λ _ t. same
  fields_stay p small_integer_ext s = same
  fields_stay p integer_ext s = same
  fields_stay p new_float_ext s = same
  fields_stay p atom_cache_ref s = same
  fields_stay p nil_ext s = same
  fields_stay p string_ext s = same
  fields_stay p list_ext s = same
  fields_stay p binary_ext s = same
  fields_stay p bit_binary_ext s = same
  fields_stay p map_ext s = same
  fields_stay p reference_ext s = same
  fields_stay p export_ext s = same
  fields_stay p (big_ext w) s = same
  fields_stay p (atom_ext coding w) s = same
  fields_stay p (tuple_ext w) s = same
  fields_stay p (pid_ext w) s = same
  fields_stay p (port_ext v w) s = same

  later_stays : (p : ℕ) (l : Later) (s : Position) → Stays (later flags p l s) (later wider p l s)
  unfolding later
  later_stays p (pid_fields w) s =
      then (number p 4 s) λ id t. then (number p 4 t) λ serial t. then (number p w t) λ creation t.
      step (rule_stays (ltb id (limits flags w).id && ltb serial (limits flags w).serial && creation_rule w creation)
      (ltb id (limits wider w).id && ltb serial (limits wider w).serial && creation_rule w creation) 4 p t
      (and_stays _ _ (creation_rule w creation) _ (and_stays _ _ _ _ (less_stays id _ _ (more w).ids) (less_stays serial _ _ (more w).serials)) (λ e. e))) λ _ t. same
  later_stays p (known l) s = same
  later_stays p (port_fields v w) s = same
  later_stays p (reference_fields k w) s = same
  later_stays p old_reference_fields s = same

  -- all else hands them on
  opening_stays : (bound : List ℕ) (w : Wanted) (s : Position) → Stays (opening (with flags) bound w s) (opening (with wider) bound w s)
  unfolding opening term_head
  opening_stays [] w s = same
  opening_stays (b ∷ bound) w s =
      step (then (byte s.at s) λ tag t. then (form s.at w tag t) λ f t. fields_stay s.at f t) λ h t. go h t (empty_108 h) (opening_stays bound any t)
    where
      go : (h : Head) (t : Position) (z : Bool) → Stays (opening (with flags) bound any t) (opening (with wider) bound any t)
          → Stays ((elim z as (λ _. Reading (ℕ × Head)) [ true ↦ opening (with flags) bound any | false ↦ done (s.at, h) ]) t)
          ((elim z as (λ _. Reading (ℕ × Head)) [ true ↦ opening (with wider) bound any | false ↦ done (s.at, h) ]) t)
      go h t true k = k
      go h t false k = same

  string_stays : (d p off : ℕ) (cs : List ℕ) (s : Position) → Stays (string (with flags) cap d p off cs s) (string (with wider) cap d p off cs s)
  unfolding string row
  string_stays d p off [] s = same
  string_stays zero p off (c ∷ cs) s = same
  string_stays (suc d) p off (c ∷ cs) s = then (row (with flags) cap p s) λ _ t. step (string_stays (suc d) p (off + 1) cs t) λ ts t. same

  module _ (d : ℕ) (inner inner' : ℕ → Head → Reading Located) (ok : (p : ℕ) (h : Head) (s : Position) → Stays (inner p h s) (inner' p h s)) where
    part_stays : (w : Wanted) (s : Position) → Stays (one_term (with flags) inner w s) (one_term (with wider) inner' w s)
    unfolding one_term
    part_stays w s = step (opening_stays s.left w s) λ o t. ok o.0 o.1 t

    parts_stay : (n : ℕ) (s : Position) → Stays (run (one_term (with flags) inner) n s) (run (one_term (with wider) inner') n s)
    parts_stay = run_stays (one_term (with flags) inner) (one_term (with wider) inner') part_stays

    tail_stays : (bound : List ℕ) (s : Position) → Stays (list_tail (with flags) cap d inner bound s) (list_tail (with wider) cap d inner' bound s)
    unfolding list_tail
    tail_stays [] s = same
    tail_stays (b ∷ bound) s = step (opening_stays s.left any s) λ o t. go o.0 o.1 t (λ t. tail_stays bound t)
      where
        tail_of : ℕ → (ℕ → Head → Reading Located) → ℕ → Head → Reading (Forest (Label × Offset) × Label)
        tail_of flags inner p x =
            elim x as (λ _. Reading (Forest (Label × Offset) × Label)) [
              | characters cs ↦ λ t. after (string (with flags) cap d p (p + 3) cs t) (λ ts. done (ts, list))
              | elements n ↦ λ t. after (run (one_term (with flags) inner) n t) (λ ts. λ t. after (list_tail (with flags) cap d inner bound t) (λ end. done (ts ▹▹ end.0, end.1)))
              | parts ws n l ↦ λ t. after (inner p (parts ws n l) t) (λ u. done (u ▹ empty, improper_list))
              | pairs n ↦ λ t. after (inner p (pairs n) t) (λ u. done (u ▹ empty, improper_list))
            ]

        go : (p : ℕ) (x : Head) (t : Position)
            → ((t : Position) → Stays (list_tail (with flags) cap d inner bound t) (list_tail (with wider) cap d inner' bound t)) → Stays (tail_of flags inner p x t) (tail_of wider inner' p x t)
        go p (characters cs) t ih = step (string_stays d p (p + 3) cs t) λ us t. same
        go p (elements n) t ih = step (parts_stay n t) λ us t. step (ih t) λ e t. same
        go p (parts ws n l) t ih = step (ok p (parts ws n l) t) λ u t. same
        go p (pairs n) t ih = step (ok p (pairs n) t) λ u t. same

    contents_stay : (p : ℕ) (h : Head) (s : Position) → Stays (contents (with flags) cap d inner p h s) (contents (with wider) cap d inner' p h s)
    unfolding contents
    contents_stay p (parts ws n l) s =
        step (each_stays (one_term (with flags) inner) (one_term (with wider) inner') part_stays ws s) λ us t. step (parts_stay n t) λ vs t. step (later_stays p l t) λ x t. same
    contents_stay p (characters cs) s = step (string_stays d p (p + 3) cs s) λ us t. same
    contents_stay p (elements n) s = step (parts_stay n s) λ us t. step (tail_stays t.left t) λ e t. same
    contents_stay p (pairs n) s = step (entries_stay (one_term (with flags) inner) (one_term (with wider) inner') part_stays [] n s) λ us t. same

  body_stays : (d p : ℕ) (h : Head) (s : Position) → Stays (body (with flags) cap d p h s) (body (with wider) cap d p h s)
  unfolding body row
  body_stays zero p h s = same
  body_stays (suc d) p h s = then (row (with flags) cap p s) λ _ t. contents_stay d (body (with flags) cap d) (body (with wider) cap d) (body_stays d) p h t

  term_stays : (s : Position) → Stays (term (with flags) cap 64 any s) (term (with wider) cap 64 any s)
  term_stays s = part_stays 64 (body (with flags) cap 64) (body (with wider) cap 64) (body_stays 64) any s

  framed_stays : (framing : Framing) (s : Position) → Stays (terms_framed (with flags) cap framing s) (terms_framed (with wider) cap framing s)
  unfolding standalone_term payload_terms
  framed_stays standalone s = then (version s) λ _ t. step (term_stays t) λ u t. same
  framed_stays payload s = step (term_stays s) λ u t. go u t t.left
    where
      second : ℕ → Located → List ℕ → Reading Terms
      second flags u left =
          elim left as (λ _. Reading Terms) [
            | [] ↦ done (u ▹ empty)
            | b ∷ bs ↦ λ t. after (term (with flags) cap 64 any t) (λ v. λ t. after (ending t.left t) (λ _. done (u ▹ v ▹ empty)))
          ]

      go : (u : Located) (t : Position) (left : List ℕ) → Stays (second flags u left t) (second wider u left t)
      go u t [] = same
      go u t (b ∷ bs) = step (term_stays t) λ v t. same

module _ (flags wider : ℕ) (all_known : flags_known wider ≡ true) (more : v4_nc flags ≡ true → v4_nc wider ≡ true) (framing : Framing) (list : AtomList) (lent : ℕ) (message : List ℕ) where
  read_stays : (ts : Terms) → read flags framing list lent message ≡ good ts → read wider framing list lent message ≡ good ts
  unfolding read given_of
  read_stays ts e =
      let a = passed (of_size list) 13 _ ts e in
      let k = passed (flags_known flags) 14 _ ts a.1 in
      let b = passed (leb (length message) 65536) 12 _ ts k.1 in
      let g = found_good _ ts b.1 in
      let h = (framed_stays flags wider (limits_wider flags wider more) list.n (place_text list) (capacity_of lent) framing (spot 0 message 0)).stays ts g.0 g.1 in
      rw a.0 (rw all_known (rw b.0 (rw h refl)))

  -- what is accepted is the same
  agreed : (ts : Terms) → read flags framing list lent message ≡ good ts → read wider framing list lent message ≡ read flags framing list lent message
  agreed ts e = read_stays ts e ∙ sym e

pub only_widens : OnlyWidens
unfolding write
only_widens =
    record {
      still_read = read_stays;
      by_reading = λ flags wider known more framing list message table answer answer' left left' c c' terms rows e.
          let a = no_long_list.by_reading flags framing list message table answer left c terms rows e in
          let is = agreed flags wider known more framing list (length table) message a.found a.accepted in
          (c'.read_answered ∙ ap read_answer is ∙ sym c.read_answered, c'.table_left ∙ ap (table_after (length table)) is ∙ sym c.table_left);
      by_writing = λ flags wider known more framing list message scratch output answer answer' scratch_is scratch_is' output_is output_is' c c' terms bytes e.
          let a = no_long_list.by_writing flags framing list message scratch output answer scratch_is output_is c terms bytes e in
          let is = ap (written (length output)) (agreed flags wider known more framing list (length scratch) message a.found a.accepted) in (
            c'.write_answered ∙ ap write_answer is ∙ sym c.write_answered,
            c'.scratch_left ∙ sym c.scratch_left,
            c'.output_left ∙ ap (output_after output) is ∙ sym c.output_left,
          );
    }
