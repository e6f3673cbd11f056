-- What every byte read and every row taken keeps, a whole term keeps, and a message; and what holds of the place where an atom's text is refused
-- holds wherever reading refuses with 5. Proved once, for any such invariant of positions and any such predicate of places.
use mathlib.Core.Path.{◌≡◌, refl}
use mathlib.Core.Bool.{Bool, true, false, ◌&&◌, ◌||◌, not}
use mathlib.Core.List.{List, [], ◌∷◌}
use mathlib.Core.Option.{Option, some}
use Prim.Native.Nat.{ℕ, zero, suc, ◌+◌, ◌^◌, ◌<◌}
use native.Mathlib.Omega.{arith}
use lib.Dec.{eqb, leb, ltb}
use borrow.Author.Tests.{ltb-true, eqb-false}
use Rattle.term_spec.specs.Tree.{Forest, empty, ◌▹◌, ◌▹▹◌}
use Rattle.term_spec.specs.Text.{Checked, valid, invalid_at, Coding, check}
use Rattle.term_spec.specs.Term.{Label, Term, list, improper_list}
use Rattle.term_spec.specs.Equal.{among}
use Rattle.term_spec.specs.Answer.{Answer, good, refused, Position, Reading, after, done, rule, byte, first_of, bytes, number}
use Rattle.term_spec.specs.Head.{Given, limits, Wanted, any, tagged, one_of, Form, small_integer_ext, integer_ext, big_ext, new_float_ext, atom_ext, atom_cache_ref, tuple_ext, nil_ext, string_ext, list_ext, binary_ext, bit_binary_ext, map_ext, pid_ext, port_ext, new_reference_ext, reference_ext, export_ext, form, form_in, forms, form_or, fields, Head, parts, characters, elements, pairs, Later, known, pid_fields, port_fields, reference_fields, old_reference_fields, later, id_words, words_rule, creation_rule, finite, bits_rule, term_head, text_or}
use Rattle.term_spec.specs.Reading.{Offset, Located, meaning, empty_108, opening, one_term, row, body, contents, term, each, run, entries, string, list_tail}
use Rattle.term_spec.specs.Message.{Framing, standalone, payload, Terms, version, ending, standalone_term, payload_terms, terms_framed}
use Rattle.term_spec.proofs.Steps.{spot}
use Rattle.term_spec.proofs.Holds.{Holds, bind, next, done_holds, refused_holds, text_holds}

-- What is known of a step's answer: Q of what it finds and of the position where it ends, and F of the place where it refuses with 5
pub record Keeps {A : Type 0} (Q : A → Position → Type 0) (F : ℕ → Type 0) (o : Answer (A × Position)) : Type 0 where
  pub ends : Holds o Q
  pub refuses : (p : ℕ) → o ≡ refused 5 p → F p

module _ {F : ℕ → Type 0} where
  -- one step after another
  pub and_then : {A B : Type 0} {o : Answer (A × Position)} {f : A → Reading B} {Q : B → Position → Type 0}
      → Keeps (λ a t. Keeps Q F (f a t)) F o → Keeps Q F (after o f)
  and_then {A} {o = o} {f} h =
      record { ends = bind (record { known = λ a t e. (h.ends.known a t e).ends }); refuses = λ p e. go o refl p e }
    where
      go : (o' : Answer (A × Position)) → o ≡ o' → (p : ℕ) → after o' f ≡ refused 5 p → F p
      go (good r) q p e = (h.ends.known r.0 r.1 q).refuses p e
      go (refused n m) q p e = h.refuses p cc

  -- the same, with what the first finds
  pub next_step : {A B : Type 0} {o : Answer (A × Position)} {f : A → Reading B} {P : A → Position → Type 0} {Q : B → Position → Type 0}
      → Keeps P F o → ((a : A) (t : Position) → o ≡ good (a, t) → P a t → Keeps Q F (f a t)) → Keeps Q F (after o f)
  next_step h k = and_then (record { ends = record { known = λ a t e. k a t e (h.ends.known a t e) }; refuses = h.refuses })

  module _ {A : Type 0} {Q : A → Position → Type 0} where
    pub end : (a : A) (t : Position) → Q a t → Keeps Q F (good (a, t))
    end a t q = record { ends = done_holds a t q; refuses = λ p e. let no_way : ◌≡◌ {A = ℕ} 0 1 = cc in absurd (omega arith) }

    pub no : (n p : ℕ) → eqb n 5 ≡ false → Keeps Q F (refused n p)
    no n p e = record { ends = refused_holds n p; refuses = λ q f. absurd (eqb-false n 5 e cc) }

  module _ {Q : Unit → Position → Type 0} where
    pub rule_keeps : (b : Bool) (n p : ℕ) → eqb n 5 ≡ false → (s : Position) → (b ≡ true → Q tt s) → Keeps Q F (rule b n p s)
    rule_keeps true n p e s q = end tt s (q refl)
    rule_keeps false n p e s q = no n p e

    pub version_keeps : (s : Position) → ((b : ℕ) (bs : List ℕ) → s.left ≡ b ∷ bs → Q tt (spot 1 bs s.rows_taken)) → Keeps Q F (version s)
    unfolding version
    version_keeps s q = go s.left refl
      where
        tested : (b : ℕ) (bs : List ℕ) → s.left ≡ b ∷ bs → (t : Bool)
            → Keeps Q F (elim t as (λ _. Answer (Unit × Position)) [ true ↦ good (tt, spot 1 bs s.rows_taken) | false ↦ refused 1 0 ])
        tested b bs e true = end tt _ (q b bs e)
        tested b bs e false = no 1 0 refl

        go : (left : List ℕ) → s.left ≡ left
            → Keeps Q F (elim left as (λ _. Answer (Unit × Position)) [
              | [] ↦ refused 1 0
              | b ∷ bs ↦ elim (eqb b 131) [ true ↦ good (tt, spot 1 bs s.rows_taken) | false ↦ refused 1 0 ]
            ])
        go [] e = no 1 0 refl
        go (b ∷ bs) e = tested b bs e (eqb b 131)

-- The head of an atom, read at s: its tag and its form are found, and its fields refuse with 5 at q
pub record AtomRefused (given : Given) (s : Position) (q : ℕ) : Type 0 where
  pub wanted : Wanted
  pub tag : ℕ
  pub found : Form
  pub coding : Coding
  pub width : ℕ
  pub past_tag : Position
  pub before_fields : Position
  pub tag_read : byte s.at s ≡ good (tag, past_tag)
  pub form_found : form s.at wanted tag past_tag ≡ good (found, before_fields)
  pub is_atom : found ≡ atom_ext coding width
  pub refused_there : fields given s.at found before_fields ≡ refused 5 q

module _ (cap : ℕ) (I : Position → Type 0) (F : ℕ → Type 0)
    (on_byte : (s : Position) (b : ℕ) (bs : List ℕ) → s.left ≡ b ∷ bs → I s → I (record { at = s.at + 1; left = bs; rows_taken = s.rows_taken }))
    (on_row : (s : Position) → s.rows_taken < cap → I s → I (record { at = s.at; left = s.left; rows_taken = s.rows_taken + 1 })) where
  abbrev Kept : {A : Type 0} → Answer (A × Position) → Type 0
  Kept {A} o = Keeps {A = A} (λ _ t. I t) F o

  step : {A B : Type 0} {o : Answer (A × Position)} {f : A → Reading B} → Kept o → ((a : A) (t : Position) → I t → Kept (f a t)) → Kept (after o f)
  step h k = next_step h λ a t _ i. k a t i

  byte_kept : (p : ℕ) (s : Position) → I s → Kept (byte p s)
  byte_kept p s i = go s.left refl
    where
      go : (left : List ℕ) → s.left ≡ left → Kept (first_of left s p)
      go [] e = no 2 p refl
      go (b ∷ bs) e = end b _ (on_byte s b bs e i)

  bytes_kept : (p n : ℕ) (s : Position) → I s → Kept (bytes p n s)
  unfolding bytes
  bytes_kept p zero s i = end [] s i
  bytes_kept p (suc n) s i = step (byte_kept p s i) λ b t i. step (bytes_kept p n t i) λ bs t i. end _ t i

  pub number_kept : (p n : ℕ) (s : Position) → I s → Kept (number p n s)
  unfolding number
  number_kept p n s i = step (bytes_kept p n s i) λ bs t i. end _ t i

  rule_kept : (b : Bool) (n p : ℕ) → eqb n 5 ≡ false → (s : Position) → I s → Kept (rule b n p s)
  rule_kept b n p e s i = rule_keeps b n p e s (λ _. i)

  text_kept : (o : Checked) (n : ℕ) (p : ℕ → ℕ) → eqb n 5 ≡ false → (s : Position) → I s → Kept (text_or o n p s)
  unfolding text_or
  text_kept (invalid_at k) n p e s i = no n (p k) e
  text_kept (valid cs) n p e s i = end cs s i

  words_kept : (p k : ℕ) (s : Position) → I s → Kept (id_words p k s)
  unfolding id_words
  words_kept p zero s i = end [] s i
  words_kept p (suc k) s i = step (number_kept p 4 s i) λ w t i. step (words_kept p k t i) λ ws t i. end _ t i

  pub later_kept : (flags p : ℕ) (l : Later) (s : Position) → I s → Kept (later flags p l s)
  unfolding later
  later_kept flags p (known l) s i = end l s i
  later_kept flags p (pid_fields w) s i =
      step (number_kept p 4 s i) λ id t i. step (number_kept p 4 t i) λ serial t i. step (number_kept p w t i) λ creation t i.
      step (rule_kept (ltb id (limits flags w).id && ltb serial (limits flags w).serial && creation_rule w creation) 4 p refl t i) λ _ t i. end _ t i
  later_kept flags p (port_fields v w) s i =
      step (number_kept p v s i) λ id t i. step (number_kept p w t i) λ creation t i. step (rule_kept ((eqb v 8 || ltb id (2 ^ 28)) && creation_rule w creation) 4 p refl t i) λ _ t i. end _ t i
  later_kept flags p (reference_fields k w) s i =
      step (number_kept p w s i) λ creation t i. step (words_kept p k t i) λ ws t i. step (rule_kept (creation_rule w creation && words_rule w ws) 4 p refl t i) λ _ t i. end _ t i
  later_kept flags p old_reference_fields s i =
      step (words_kept p 1 s i) λ ws t i. step (number_kept p 1 t i) λ creation t i. step (rule_kept (words_rule 1 ws && creation_rule 1 creation) 4 p refl t i) λ _ t i. end _ t i

  module _ (given : Given) where
    -- where the form is an atom's, F of the place where its text is refused is asked
    pub fields_kept : (p : ℕ) (f : Form) (s : Position) → ((coding : Coding) (w q : ℕ) → f ≡ atom_ext coding w → fields given p f s ≡ refused 5 q → F q)
        → I s → Kept (fields given p f s)
    unfolding fields
    fields_kept p small_integer_ext s texts i = step (number_kept p 1 s i) λ n t i. end _ t i
    fields_kept p integer_ext s texts i = step (number_kept p 4 s i) λ n t i. end _ t i
    fields_kept p new_float_ext s texts i = step (number_kept p 8 s i) λ n t i. step (rule_kept (finite n) 4 p refl t i) λ _ t i. end _ t i
    fields_kept p atom_cache_ref s texts i =
        step (number_kept p 1 s i) λ n t i. step (rule_kept (ltb n given.n) 6 p refl t i) λ _ t i. step (text_kept (given.text n) 14 _ refl t i) λ cs t i. end _ t i
    fields_kept p nil_ext s texts i = end _ s i
    fields_kept p string_ext s texts i = step (number_kept p 2 s i) λ n t i. step (bytes_kept p n t i) λ bs t i. end _ t i
    fields_kept p list_ext s texts i = step (number_kept p 4 s i) λ n t i. end _ t i
    fields_kept p binary_ext s texts i = step (number_kept p 4 s i) λ n t i. step (bytes_kept p n t i) λ bs t i. end _ t i
    fields_kept p bit_binary_ext s texts i =
        step (number_kept p 4 s i) λ n t i. step (number_kept p 1 t i) λ bits t i. step (bytes_kept p n t i) λ bs t i.
        step (rule_kept (bits_rule n bits) 4 p refl t i) λ _ t i. end _ t i
    fields_kept p map_ext s texts i = step (number_kept p 4 s i) λ n t i. end _ t i
    fields_kept p reference_ext s texts i = end _ s i
    fields_kept p export_ext s texts i = end _ s i
    fields_kept p (big_ext w) s texts i =
        step (number_kept p w s i) λ n t i. step (number_kept p 1 t i) λ sign t i. step (bytes_kept p n t i) λ ds t i.
        step (rule_kept (leb sign 1) 4 p refl t i) λ _ t i. end _ t i
    fields_kept p (atom_ext coding w) s texts i =
        record {
          ends =
              next (λ _ t. I t) (number_kept p w s i).ends λ n t i. next (λ _ t. I t) (bytes_kept p n t i).ends λ bs t i.
              bind (text_holds (check coding bs) 5 _ t λ cs _. done_holds _ t i);
          refuses = λ q. texts coding w q refl;
        }
    fields_kept p (tuple_ext w) s texts i = step (number_kept p w s i) λ n t i. end _ t i
    fields_kept p (pid_ext w) s texts i = end _ s i
    fields_kept p (new_reference_ext w) s texts i = step (number_kept p 2 s i) λ n t i. step (rule_kept (leb 1 n && leb n (limits given.flags w).word_count) 4 p refl t i) λ _ t i. end _ t i
    fields_kept p (port_ext v w) s texts i = end _ s i

    form_or_kept : (n p : ℕ) → eqb n 5 ≡ false → (o : Option Form) (s : Position) → I s → Kept (form_or n p o s)
    unfolding form_or
    form_or_kept n p e Option.none s i = no n p e
    form_or_kept n p e (some f) s i = end f s i

    pub form_kept : (p : ℕ) (w : Wanted) (tag : ℕ) (s : Position) → I s → Kept (form p w tag s)
    unfolding form
    form_kept p any tag s i = form_or_kept 3 p refl (form_in forms tag) s i
    form_kept p (tagged ts) tag s i = go (one_of tag ts)
      where
        go : (t : Bool) → Kept ((elim t as (λ _. Reading Form) [ true ↦ form_or 4 p (form_in forms tag) | false ↦ λ s. refused 4 p ]) s)
        go true = form_or_kept 4 p refl (form_in forms tag) s i
        go false = no 4 p refl

  module _ (given : Given) (on_atom : (s : Position) (q : ℕ) → I s → AtomRefused given s q → F q) where
    pub head_kept : (w : Wanted) (s : Position) → I s → Kept (term_head given w s)
    unfolding term_head
    head_kept w s i =
        next_step (byte_kept s.at s i) λ tag t b j. next_step (form_kept given s.at w tag t j) λ f u g k.
        fields_kept given s.at f u
        (λ coding v q is r. on_atom s q i (record {
          wanted = w;
          tag = tag;
          found = f;
          coding = coding;
          width = v;
          past_tag = t;
          before_fields = u;
          tag_read = b;
          form_found = g;
          is_atom = is;
          refused_there = r;
        })) k

    opening_kept : (bound : List ℕ) (w : Wanted) (s : Position) → I s → Kept (opening given bound w s)
    unfolding opening
    opening_kept [] w s i = no 2 _ refl
    opening_kept (b ∷ bound) w s i = step (head_kept w s i) λ h t i. go h t i (empty_108 h) (opening_kept bound any t i)
      where
        go : (h : Head) (t : Position) → I t → (z : Bool) → Kept (opening given bound any t)
            → Kept ((elim z as (λ _. Reading (ℕ × Head)) [ true ↦ opening given bound any | false ↦ done (s.at, h) ]) t)
        go h t i true k = k
        go h t i false k = end _ t i

    pub row_kept : (p : ℕ) (s : Position) → I s → Kept (row given cap p s)
    unfolding row
    row_kept p s i = go (ltb s.rows_taken cap) refl
      where
        go : (z : Bool) → ltb s.rows_taken cap ≡ z
            → Kept {A = Unit} (elim z as (λ _. Answer (Unit × Position)) [ true ↦ good (tt, record { at = s.at; left = s.left; rows_taken = s.rows_taken + 1 }) | false ↦ refused 9 p ])
        go true e = end tt _ (on_row s (ltb-true s.rows_taken cap e) i)
        go false e = no 9 p refl

    string_kept : (d p off : ℕ) (cs : List ℕ) (s : Position) → I s → Kept (string given cap d p off cs s)
    unfolding string
    string_kept d p off [] s i = end _ s i
    string_kept zero p off (c ∷ cs) s i = no 8 p refl
    string_kept (suc d) p off (c ∷ cs) s i = step (row_kept p s i) λ _ t i. step (string_kept (suc d) p (off + 1) cs t i) λ ts t i. end _ t i

    module _ (part : Wanted → Reading Located) (ok : (w : Wanted) (s : Position) → I s → Kept (part w s)) where
      each_kept : (ws : List Wanted) (s : Position) → I s → Kept (each part ws s)
      unfolding each
      each_kept [] s i = end _ s i
      each_kept (w ∷ ws) s i = step (ok w s i) λ u t i. step (each_kept ws t i) λ us t i. end _ t i

      pub run_kept : (n : ℕ) (s : Position) → I s → Kept (run part n s)
      unfolding run
      run_kept zero s i = end _ s i
      run_kept (suc n) s i = step (ok any s i) λ u t i. step (run_kept n t i) λ us t i. end _ t i

      entries_kept : (earlier : List Term) (n : ℕ) (s : Position) → I s → Kept (entries part earlier n s)
      unfolding entries
      entries_kept earlier zero s i = end _ s i
      entries_kept earlier (suc n) s i =
          step (ok any s i) λ k t i. step (rule_kept (not (among (meaning k) earlier)) 7 s.at refl t i) λ _ t i. step (ok any t i) λ v t i.
          step (entries_kept (meaning k ∷ earlier) n t i) λ us t i. end _ t i

    module _ (d : ℕ) (inner : ℕ → Head → Reading Located) (ok : (p : ℕ) (h : Head) (s : Position) → I s → Kept (inner p h s)) where
      part_kept : (w : Wanted) (s : Position) → I s → Kept (one_term given inner w s)
      unfolding one_term
      part_kept w s i = step (opening_kept s.left w s i) λ o t i. ok o.0 o.1 t i

      tail_kept : (bound : List ℕ) (s : Position) → I s → Kept (list_tail given cap d inner bound s)
      unfolding list_tail
      tail_kept [] s i = no 2 _ refl
      tail_kept (b ∷ bound) s i = step (opening_kept s.left any s i) λ o t i. go o.0 o.1 t i (λ t i. tail_kept bound t i)
        where
          go : (p : ℕ) (x : Head) (t : Position) → I t → ((t : Position) → I t → Kept (list_tail given cap d inner bound t))
              → Kept ((elim x as (λ _. Reading (Forest (Label × Offset) × Label)) [
                | characters cs ↦ λ t. after (string given cap d p (p + 3) cs t) (λ ts. done (ts, list))
                | elements n ↦ λ t. after (run (one_term given inner) n t) (λ ts. λ t. after (list_tail given cap d inner bound t) (λ end. done (ts ▹▹ end.0, end.1)))
                | parts ws n l ↦ λ t. after (inner p (parts ws n l) t) (λ u. done (u ▹ empty, improper_list))
                | pairs n ↦ λ t. after (inner p (pairs n) t) (λ u. done (u ▹ empty, improper_list))
              ]) t)
          go p (characters cs) t i ih = step (string_kept d p (p + 3) cs t i) λ us t i. end _ t i
          go p (elements n) t i ih = step (run_kept (one_term given inner) part_kept n t i) λ us t i. step (ih t i) λ e t i. end _ t i
          go p (parts ws n l) t i ih = step (ok p (parts ws n l) t i) λ u t i. end _ t i
          go p (pairs n) t i ih = step (ok p (pairs n) t i) λ u t i. end _ t i

      whole_kept : (p : ℕ) (h : Head) (s : Position) → I s → Kept (contents given cap d inner p h s)
      unfolding contents
      whole_kept p (parts ws n l) s i =
          step (each_kept (one_term given inner) part_kept ws s i) λ us t i. step (run_kept (one_term given inner) part_kept n t i) λ vs t i.
          step (later_kept given.flags p l t i) λ x t i. end _ t i
      whole_kept p (characters cs) s i = step (string_kept d p (p + 3) cs s i) λ us t i. end _ t i
      whole_kept p (elements n) s i =
          step (run_kept (one_term given inner) part_kept n s i) λ us t i. step (tail_kept t.left t i) λ e t i. end _ t i
      whole_kept p (pairs n) s i = step (entries_kept (one_term given inner) part_kept [] n s i) λ us t i. end _ t i

    body_kept : (d p : ℕ) (h : Head) (s : Position) → I s → Kept (body given cap d p h s)
    unfolding body
    body_kept zero p h s i = no 8 p refl
    body_kept (suc d) p h s i = step (row_kept p s i) λ _ t i. whole_kept d (body given cap d) (body_kept d) p h t i

    -- what every byte and every row keeps, a term keeps
    pub term_kept : (d : ℕ) (w : Wanted) (s : Position) → I s → Kept (term given cap d w s)
    term_kept d w s i = part_kept d (body given cap d) (body_kept d) w s i

    -- so do the terms of a message
    module _ (message : List ℕ) (start : I (spot 0 message 0)) where
      version_kept : Kept (version (spot 0 message 0))
      version_kept = version_keeps (spot 0 message 0) λ b bs e. on_byte (spot 0 message 0) b bs e start

      ending_kept : (left : List ℕ) (s : Position) → I s → Kept (ending left s)
      unfolding ending
      ending_kept [] s i = end tt s i
      ending_kept (b ∷ bs) s i = no 10 _ refl

      pub framed_kept : (framing : Framing) → Kept (terms_framed given cap framing (spot 0 message 0))
      unfolding standalone_term payload_terms
      framed_kept standalone = step version_kept λ _ t i. step (term_kept 64 any t i) λ u t i. step (ending_kept t.left t i) λ _ t i. end _ t i
      framed_kept payload = step (term_kept 64 any _ start) λ u t i. go u t i t.left
        where
          go : (u : Located) (t : Position) → I t → (left : List ℕ)
              → Kept ((elim left as (λ _. Reading Terms) [
                | [] ↦ done (u ▹ empty)
                | b ∷ bs ↦ λ t. after (term given cap 64 any t) (λ v. λ t. after (ending t.left t) (λ _. done (u ▹ v ▹ empty)))
              ]) t)
          go u t i [] = end _ t i
          go u t i (b ∷ bs) = step (term_kept 64 any t i) λ v t i. step (ending_kept t.left t i) λ _ t i. end _ t i
