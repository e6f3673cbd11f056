-- Messages: one law for each way through `standalone_terms`, `payload_terms` and the public calls.
use mathlib.Core.Path.{◌≡◌, refl, sym, ap, ap₂, ◌∙◌}
use mathlib.Core.Bool.{Bool, true, false}
use mathlib.Core.List.{List, [], ◌∷◌, ◌++◌, append-nil}
use mathlib.Core.Option as option
use Rattle.std.specs.Prelude.{Some, None, Ok, Err}
use Prim.Native.Nat.{ℕ, ◌+◌, ◌-◌, ◌≤◌, ◌<◌, min}
use native.Mathlib.Omega.{arith}
use lib.Dec.{leb}
use lib.ListN.{length, get_or, drop, replicate, drop_of_length-le}
use lib.Seq.{sets, drop-cons}
use borrow.Author.Tests.{eq-eqb, ne_eqb, le-leb, lt-leb, leb-true}
use Rattle.term_spec.specs.Tree.{empty, ◌▹◌, count, size, sizes, EachNode}
use Rattle.term_spec.specs.Connection.{flags_known}
use Rattle.term_spec.specs.Answer.{Answer, good, refused, Position, at_offset, Reading, after, done}
use Rattle.term_spec.specs.declared.Refusal.{Refusal}
use Rattle.term_spec.specs.Answers.{ReadAnswer, read_answer}
use Rattle.term_spec.specs.Promises.{ReadCall}
use Rattle.term_spec.specs.AtomList.{AtomList, of_size, given_of, lent_list}
use Rattle.term_spec.specs.Head.{Given, any}
use Rattle.term_spec.specs.Message as message
use Rattle.term_spec.specs.Message.{Terms, version, ending, standalone_term, payload_terms, terms_framed, result_of, first_check, read}
use Rattle.term_spec.specs.Reading.{Located, term}
use Rattle.term_spec.specs.Rows.{Row, tree_rows, rows, row_words, table_after, Placed}
use Rattle.term_spec.proofs.Rows.{length_rows}
use Rattle.term_spec.proofs.Words.{length_words_of}
use Rattle.octets.specs.Cleared.{cleared}
use Rattle.octets.proofs.Cleared.{cleared_all, cleared_sets}
use Rattle.reader.specs.declared.Framing.{Framing}
use Rattle.reader.specs.declared.Framing.TheVariants.{Standalone, Payload}
use Rattle.term_reader.specs.Code.{Step, got, whole_of, Room, Done, TermDone}
use Rattle.reader.specs.Code.{framing_of, MessageDone, first_number, first_refusal, rows_in}
use Rattle.term_reader.proofs.Runs.{after_same}
use Rattle.term_reader.proofs.Found.{Found, step_found, step_refused, joined_words}

abbrev pub refusal : ℕ → ℕ → ReadAnswer
refusal n p = Err (record { number = n; place = p })

abbrev pub terms_read : ℕ → ℕ → ReadAnswer
terms_read n r = Ok (record { terms = n; rows = r })

-- the bytes left after a term: some, or none
left_over : (m : List ℕ) (at r : ℕ) → at < length m → ending (drop at m) (at_offset m at r) ≡ refused 10 at
unfolding ending
left_over m at r h = rw (drop-cons m at 0 h)

none_left : (m : List ℕ) (at r : ℕ) → length m ≤ at → ending (drop at m) (at_offset m at r) ≡ good (tt, at_offset m at r)
unfolding ending
none_left m at r h = rw (drop_of_length-le m h)

-- one term is read and nothing is left
one_done : (m : List ℕ) (cap : ℕ) (T T' : List ℕ) (t : Located) (next end : ℕ) → T' ≡ sets T 0 (row_words (tree_rows (whole_of 0) 0 t)) → next ≤ length m → end ≡ 0 + size t → end ≤ cap
    → MessageDone m cap T (good (t ▹ empty, at_offset m next end)) (terms_read 1 end) T'
unfolding Done rows whole_of
one_done m cap T T' t next end e near f room =
    let a : end ≡ 0 + (size t + 0) = omega arith in (
      ap (terms_read 1) a,
      record {
        table_is = e ∙ ap (λ (rs : List Row). sets T 0 (row_words rs)) (sym (append-nil (tree_rows option.none 0 t)));
        stands = ap (λ (k : ℕ). at_offset m next k) a;
        near = near;
        room = omega arith;
        from = tt;
      },
    )

-- ---- a standalone term

version_empty : (s : List ℕ) → length s ≡ 0 → version (record { at = 0; left = s; rows_taken = 0 }) ≡ refused 1 0
unfolding version
version_empty [] h = refl
version_empty (b ∷ bs) h = absurd (omega arith)

version_other : (s : List ℕ) → (get_or s 0 0 ≡ 131 → ⊥) → version (record { at = 0; left = s; rows_taken = 0 }) ≡ refused 1 0
unfolding version
version_other [] h = refl
version_other (b ∷ bs) h = rw (ne_eqb b 131 h, version)

version_there : (s : List ℕ) → (length s ≡ 0 → ⊥) → get_or s 0 0 ≡ 131 → version (record { at = 0; left = s; rows_taken = 0 }) ≡ good (tt, at_offset s 1 0)
unfolding version
version_there [] h e = absurd (h refl)
version_there (b ∷ bs) h e = rw (eq-eqb b 131 e, version)

module _ (given : Given) (cap : ℕ) (m : List ℕ) (T : List ℕ) where
  abbrev StandaloneDone : ReadAnswer → List ℕ → Type 0
  StandaloneDone r U = MessageDone m cap T (standalone_term given cap (at_offset m 0 0)) r U

  pub standalone_empty : (U : List ℕ) → length m ≡ 0 → StandaloneDone (refusal 1 0) U
  unfolding standalone_term Done
  standalone_empty U e = rw (version_empty m e)

  pub standalone_other : (U : List ℕ) → (get_or m 0 0 ≡ 131 → ⊥) → StandaloneDone (refusal 1 0) U
  unfolding standalone_term Done
  standalone_other U e = rw (version_other m e)

  module _ (some : length m ≡ 0 → ⊥) (first : get_or m 0 0 ≡ 131) (r : Step) (T' : List ℕ) (d : TermDone m cap 0 0 T (term given cap 64 any (at_offset m 1 0)) r T') where
    pub standalone_refused : (x : Refusal) (U : List ℕ) → r ≡ Err x → StandaloneDone (Err x) U
    unfolding standalone_term Done
    standalone_refused x U e = rw (version_there m some first, step_refused _ _ _ m cap 0 T (term given cap 64 any (at_offset m 1 0)) r T' x e d)

    module _ (next end : ℕ) (e : r ≡ got next end) where
      abbrev only : Found size (λ t. row_words (tree_rows (whole_of 0) 0 t)) (EachNode (Placed 65536)) m cap 0 T (term given cap 64 any (at_offset m 1 0)) next end T'
      only = step_found size _ _ m cap 0 T (term given cap 64 any (at_offset m 1 0)) r T' next end e d

      pub standalone_over : (U : List ℕ) → next < length m → StandaloneDone (refusal 10 next) U
      unfolding standalone_term Done
      standalone_over U h = rw (version_there m some first, only.is, left_over m next end h)

      pub standalone_one : length m ≤ next → StandaloneDone (terms_read 1 end) T'
      unfolding standalone_term
      standalone_one h =
          rw (version_there m some first, only.is, none_left m next end h)
          (one_done m cap T T' only.x next end only.table_is only.near only.rows_are only.room)

-- ---- a payload

module _ (given : Given) (cap : ℕ) where
  -- what is read where a first term ends
  abbrev rest : Located → List ℕ → Reading Terms
  rest t [] = done (t ▹ empty)
  rest t (b ∷ bs) = λ s. after (term given cap 64 any s) (λ u. λ v. after (ending v.left v) (λ _. done (t ▹ u ▹ empty)))

module _ (given : Given) (cap : ℕ) (m : List ℕ) (T : List ℕ) (r : Step) (T' : List ℕ) (d : TermDone m cap 0 0 T (term given cap 64 any (at_offset m 0 0)) r T') where
  abbrev PayloadDone : ReadAnswer → List ℕ → Type 0
  PayloadDone a U = MessageDone m cap T (payload_terms given cap (at_offset m 0 0)) a U

  pub payload_refused : (x : Refusal) (U : List ℕ) → r ≡ Err x → PayloadDone (Err x) U
  unfolding payload_terms Done
  payload_refused x U e = rw (step_refused _ _ _ m cap 0 T (term given cap 64 any (at_offset m 0 0)) r T' x e d)

  module _ (next end : ℕ) (e : r ≡ got next end) where
    abbrev one : Found size (λ t. row_words (tree_rows (whole_of 0) 0 t)) (EachNode (Placed 65536)) m cap 0 T (term given cap 64 any (at_offset m 0 0)) next end T'
    one = step_found size _ _ m cap 0 T (term given cap 64 any (at_offset m 0 0)) r T' next end e d

    payload_is : payload_terms given cap (at_offset m 0 0) ≡ rest given cap one.x (drop next m) (at_offset m next end)
    unfolding payload_terms
    payload_is =
        after_same (term given cap 64 any (at_offset m 0 0)) _ (λ t. λ s. rest given cap t s.left s) (λ t u. rest_is t u.left u)
        ∙ ap (λ (o : Answer (Located × Position)). after o (λ t. λ s. rest given cap t s.left s)) one.is
      where
        rest_is : (t : Located) (l : List ℕ) (s : Position)
            → (elim l as (λ _. Reading Terms) [
              | [] ↦ done (t ▹ empty)
              | b ∷ bs ↦ λ s. after (term given cap 64 any s) (λ u. λ v. after (ending v.left v) (λ _. done (t ▹ u ▹ empty)))
            ]) s ≡ rest given cap t l s
        rest_is t [] s = refl
        rest_is t (b ∷ bs) s = refl

    pub payload_one : length m ≤ next → PayloadDone (terms_read 1 end) T'
    payload_one h =
        rw (payload_is ∙ ap (λ (l : List ℕ). rest given cap one.x l (at_offset m next end)) (drop_of_length-le m h)) (one_done m cap T T' one.x next end one.table_is one.near one.rows_are one.room)

    module _ (more : next < length m) (r' : Step) (T'' : List ℕ) (d' : TermDone m cap end 0 T' (term given cap 64 any (at_offset m next end)) r' T'') where
      -- a second term is read where the first ends
      second : payload_terms given cap (at_offset m 0 0)
          ≡ after (term given cap 64 any (at_offset m next end)) (λ u. λ s. after (ending s.left s) (λ _. done (one.x ▹ u ▹ empty)))
      second = payload_is ∙ ap (λ (l : List ℕ). rest given cap one.x l (at_offset m next end)) (drop-cons m next 0 more)

      pub payload_second_refused : (x : Refusal) (U : List ℕ) → r' ≡ Err x → PayloadDone (Err x) U
      unfolding Done
      payload_second_refused x U f = rw (second, step_refused _ _ _ m cap end T' (term given cap 64 any (at_offset m next end)) r' T'' x f d')

      module _ (next' end' : ℕ) (f : r' ≡ got next' end') where
        abbrev two : Found size (λ t. row_words (tree_rows (whole_of 0) end t)) (EachNode (Placed 65536)) m cap end T' (term given cap 64 any (at_offset m next end)) next' end' T''
        two = step_found size _ _ m cap end T' (term given cap 64 any (at_offset m next end)) r' T'' next' end' f d'

        pub payload_over : (U : List ℕ) → next' < length m → PayloadDone (refusal 10 next') U
        unfolding Done
        payload_over U h = rw (second, two.is, left_over m next' end' h)

        pub payload_two : length m ≤ next' → PayloadDone (terms_read 2 end') T''
        unfolding Done rows whole_of
        payload_two h =
            let t : Located = one.x in
            let u : Located = two.x in
            let a : end' ≡ 0 + (size t + (size u + 0)) = omega (arith, one.rows_are, two.rows_are) in
            let o : end ≡ 0 + (size t + 0) = omega (arith, one.rows_are) in
            let e₁ : T' ≡ sets T 0 (row_words (rows (whole_of 0) 0 (t ▹ empty)))
            = one.table_is ∙ ap (λ (rs : List Row). sets T 0 (row_words rs)) (sym (append-nil (tree_rows (whole_of 0) 0 t))) in
            let e₂ : T'' ≡ sets T' end (row_words (rows (whole_of 0) end (u ▹ empty)))
            = two.table_is ∙ ap (λ (rs : List Row). sets T' end (row_words rs)) (sym (append-nil (tree_rows (whole_of 0) end u))) in
            rw (second, two.is, none_left m next' end' h) (
              ap (terms_read 2) a,
              record {
                table_is = e₂ ∙ joined_words m cap 0 0 T T' (t ▹ empty) end e₁ o (u ▹ empty);
                stands = ap (λ (k : ℕ). at_offset m next' k) a;
                near = two.near;
                room = omega (arith, two.room);
                from = tt;
              },
            )

-- ---- either

module _ (given : Given) (cap : ℕ) (m T : List ℕ) (framing : Framing) (r : ReadAnswer) (U : List ℕ) where
  abbrev FramedDone : Type 0
  FramedDone = MessageDone m cap T (terms_framed given cap (framing_of framing) (at_offset m 0 0)) r U

  pub framed_standalone : framing ≡ Standalone → MessageDone m cap T (standalone_term given cap (at_offset m 0 0)) r U → FramedDone
  unfolding framing_of
  framed_standalone e d = rw e d

  pub framed_payload : framing ≡ Payload → MessageDone m cap T (payload_terms given cap (at_offset m 0 0)) r U → FramedDone
  unfolding framing_of
  framed_payload e d = rw e d

-- ---- `first_refusal`

module _ (flags : ℕ) (list : AtomList) (m : List ℕ) where
  pub first_size : of_size list ≡ false → Some 13 ≡ first_refusal flags list m
  unfolding first_refusal first_number
  first_size h = rw h

  pub first_unknown : of_size list ≡ true → flags_known flags ≡ false → Some 14 ≡ first_refusal flags list m
  unfolding first_refusal first_number
  first_unknown e h = rw (e, h)

  pub first_long : of_size list ≡ true → flags_known flags ≡ true → 65536 < length m → Some 12 ≡ first_refusal flags list m
  unfolding first_refusal first_number
  first_long e g h = rw (e, g, lt-leb (length m) 65536 h)

  pub first_none : of_size list ≡ true → flags_known flags ≡ true → length m ≤ 65536 → None ≡ first_refusal flags list m
  unfolding first_refusal first_number
  first_none e g h = rw (e, g, le-leb (length m) 65536 h)

  -- what reading answers after it
  pub read_refused : (framing : message.Framing) (lent k : ℕ) → Some k ≡ first_refusal flags list m → read flags framing list lent m ≡ refused k 0
  unfolding first_refusal first_number read
  read_refused framing lent k e = go (of_size list) (flags_known flags) (leb (length m) 65536) e
    where
      go : (a b c : Bool) → Some k ≡ first_number a b c
          → first_check a 13 (first_check b 14 (first_check c 12
          (result_of (terms_framed (given_of flags list) (min 8192 lent) framing (record { at = 0; left = m; rows_taken = 0 }))))) ≡ refused k 0
      go false b c e = let z : 13 ≡ k = cc in ap (λ (n : ℕ). refused n 0) z
      go true false c e = let z : 14 ≡ k = cc in ap (λ (n : ℕ). refused n 0) z
      go true true false e = let z : 12 ≡ k = cc in ap (λ (n : ℕ). refused n 0) z
      go true true true e = absurd (cc)

  pub read_first : None ≡ first_refusal flags list m → (of_size list ≡ true) × (flags_known flags ≡ true) × (length m ≤ 65536)
  unfolding first_refusal first_number
  read_first e = go (of_size list) (flags_known flags) (leb (length m) 65536) refl refl refl e
    where
      go : (a b c : Bool) → of_size list ≡ a → flags_known flags ≡ b → leb (length m) 65536 ≡ c → None ≡ first_number a b c
          → (of_size list ≡ true) × (flags_known flags ≡ true) × (length m ≤ 65536)
      go false b c x y z e = absurd (cc)
      go true false c x y z e = absurd (cc)
      go true true false x y z e = absurd (cc)
      go true true true x y z e = (x, y, leb-true (length m) 65536 z)

  pub read_goes : (framing : message.Framing) (lent : ℕ) → None ≡ first_refusal flags list m
      → read flags framing list lent m ≡ result_of (terms_framed (given_of flags list) (min 8192 lent) framing (at_offset m 0 0))
  unfolding read
  read_goes framing lent e = let h = read_first e in rw (h.0, h.1, le-leb (length m) 65536 h.2)

-- ---- the public calls: what is read, and then the rest cleared

pub settled : (m : List ℕ) (cap : ℕ) (T : List ℕ) (o : Answer (Terms × Position)) (a : ReadAnswer) (T' U : List ℕ) → cap ≤ length T → length T' ≡ length T
    → MessageDone m cap T o a T' → U ≡ cleared (rows_in a) T' → (a ≡ read_answer (result_of o)) × (U ≡ table_after (length T) (result_of o))
unfolding Done read_answer table_after rows_in
settled m cap T (refused n p) a T' U wide long d e =
    let f : rows_in a ≡ 0 = ap rows_in d in
    (d, e ∙ ap (λ (k : ℕ). cleared k T') f ∙ cleared_all T' ∙ ap (λ (k : ℕ). replicate k 0) long)
settled m cap T (good y) a T' U wide long d e =
    let ts : Terms = y.0 in
    let ws : List ℕ = row_words (rows option.none 0 ts) in
    let n : length ws ≡ sizes ts = length_words_of (rows option.none 0 ts) ∙ length_rows option.none 0 ts in
    let f : rows_in a ≡ sizes ts = ap rows_in d.0 ∙ omega arith in
    let z : 0 + sizes ts ≡ sizes ts = omega arith in (
      d.0 ∙ ap (terms_read (count ts)) z,
      e ∙ ap₂ cleared f d.1.table_is ∙ cleared_sets T ws (sizes ts) n (omega (arith, d.1.room)) ∙ ap (λ (k : ℕ). ws ++ replicate (length T - k) 0) (sym n),
    )

pub refused_first : (flags : ℕ) (framing : message.Framing) (list : AtomList) (m T : List ℕ) (k : ℕ) (a : ReadAnswer) (U : List ℕ) → Some k ≡ first_refusal flags list m
    → (a ≡ refusal k 0) × (U ≡ cleared (rows_in (refusal k 0)) T) → ReadCall flags framing list m T a U
unfolding rows_in read_answer table_after
refused_first flags framing list m T k a U e d =
    let w : read flags framing list (length T) m ≡ refused k 0 = read_refused flags list m framing (length T) k e in
    record { read_answered = rw w d.0; table_left = rw w (d.1 ∙ cleared_all T) }

-- with as many rows as may be taken
module _ (flags n : ℕ) (places lengths m T : List ℕ) (cap : ℕ) (e : None ≡ first_refusal flags (lent_list n places lengths) m) (c : cap ≡ min (length T) 8192) where
  pub read_settled : (framing : message.Framing) (r a : ReadAnswer) (T' U : List ℕ) → length T' ≡ length T
      → MessageDone m cap T (terms_framed (given_of flags (lent_list n places lengths)) cap framing (at_offset m 0 0)) r T'
      → (a ≡ r) × (U ≡ cleared (rows_in r) T') → ReadCall flags framing (lent_list n places lengths) m T a U
  read_settled framing r a T' U long d f =
      let list : AtomList = lent_list n places lengths in
      let g : cap ≡ min 8192 (length T) = omega arith in
      let h = settled m cap T (terms_framed (given_of flags list) cap framing (at_offset m 0 0)) r T' U (omega arith) long d f.1 in
      let w : read flags framing list (length T) m ≡ result_of (terms_framed (given_of flags list) cap framing (at_offset m 0 0))
      = read_goes flags list m framing (length T) e ∙ ap (λ (j : ℕ). result_of (terms_framed (given_of flags list) j framing (at_offset m 0 0))) (sym g) in
      record { read_answered = rw w (f.0 ∙ h.0); table_left = rw w h.1 }

  pub room_first : ((i : ℕ) → get_or m i 0 < 256) → n < 256 → Room m (lent_list n places lengths) T cap 0 0 0
  room_first bytes listed =
      let h = read_first flags (lent_list n places lengths) m e in
      record { sized = h.0; short = h.2; near = omega arith; few = omega arith; wide = omega arith; low = omega arith; inside = omega arith; bytes = bytes; listed = listed }
