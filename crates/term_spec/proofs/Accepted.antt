-- What is accepted is a valid term, within the levels and rows that there are, and takes a row for each of its nodes.
use mathlib.Core.Path.{◌≡◌, refl, sym, ◌∙◌, ap, ap₂}
use mathlib.Core.Bool.{Bool, true, false, ◌&&◌, ◌||◌, not}
use mathlib.Core.List.{List, [], ◌∷◌}
use Prim.Native.Nat.{ℕ, zero, suc, ◌+◌, ◌^◌, ◌≤◌, ◌<◌}
use native.Mathlib.Omega.{arith}
use lib.Dec.{ltb, eqb, lit<}
use lib.IntN.{pos}
use lib.ListN.{length}
use borrow.Author.Tests.{ltb-true, not-true}
use Rattle.term_spec.specs.Tree.{Forest, node, empty, ◌▹◌, ◌▹▹◌, size, sizes, depth, deepest, count}
use Rattle.term_spec.specs.Term.{Label, Term, integer, atom, tuple, list, improper_list, map, pid, port, reference, export}
use Rattle.term_spec.specs.Equal.{among}
use Rattle.term_spec.specs.Answer.{Answer, good, refused, Position, Reading, after, done}
use Rattle.term_spec.specs.Head.{Given, limits, Wanted, any, an_atom, an_arity, Head, leaf, parts, characters, elements, pairs, Later, known, pid_fields, port_fields, reference_fields, old_reference_fields, later, id_words, words_rule, creation_rule}
use Rattle.term_spec.specs.Reading.{Offset, tag_at, character_at, Located, as_read, meaning, empty_108, opening, one_term, row, body, contents, term, each, run, entries, string, list_tail}
use Rattle.term_spec.specs.Message.{all_as_read}
use Rattle.term_spec.specs.Numbers.{Under}
use Rattle.term_spec.specs.Valid.{Fits, Valid, Valids, Keys, Improper, IsList}
use Rattle.term_spec.proofs.Holds.{Holds, Fine, bind, done_holds, refused_holds, rule_holds, number_holds, next, weaken, at_rows}
use Rattle.term_spec.proofs.Limits.{limits_least, limits_widest}
use Rattle.term_spec.proofs.Heads.{Sound, a_leaf, a_tuple, a_pid, a_port, a_reference, an_old_reference, an_export, a_string, a_list, a_map, Asked, for_any, for_atom, for_arity, Suits, TrueAtoms, integer_fits, head_holds}
use Rattle.term_spec.proofs.Parts.{Plain}
use Rattle.term_spec.proofs.RoundTrip.{join_none}
use Rattle.term_spec.proofs.Rows.{count_le_sizes}
use Rattle.term_spec.proofs.Tests.{both_true}

-- a label that fits above a node, with these flags
abbrev Names : ℕ → Label → Type 0
Names flags l = (cs : List ℕ) → Fits flags l (node (atom cs) empty ▹ empty)

words_holds : {r : ℕ} (p k : ℕ) (s : Position) → Fine r s → {Q : List ℕ → Position → Type 0}
    → ((ws : List ℕ) (t : Position) → length ws ≡ k → Under (2 ^ 32) ws → Fine r t → Q ws t) → Holds (id_words p k s) Q
unfolding id_words
words_holds p zero s g q = done_holds [] s (q [] s refl tt g)
words_holds p (suc k) s g q =
    bind (number_holds p 4 s g λ w t h g. bind (words_holds p k t g λ ws u l us g. done_holds _ u (q (w ∷ ws) u (ap suc l) (h, us) g)))

module _ {r : ℕ} (flags p : ℕ) (s : Position) (g : Fine r s) {Q : Label → Position → Type 0} (q : (l : Label) (t : Position) → Names flags l → ¬ IsList l → Fine r t → Q l t) where
  pid_holds : (w : ℕ) → 256 ^ w ≤ 2 ^ 32 → Holds (later flags p (pid_fields w) s) Q
  unfolding later
  pid_holds w ok =
      bind (number_holds p 4 s g λ id t h₁ g. bind (number_holds p 4 t g λ serial t h₂ g. bind (number_holds p w t g λ creation t h₃ g.
      bind (rule_holds (ltb id (limits flags w).id && ltb serial (limits flags w).serial && creation_rule w creation) 4 p t λ e.
      let a = both_true (ltb id (limits flags w).id && ltb serial (limits flags w).serial) (creation_rule w creation) e in
      let b = both_true (ltb id (limits flags w).id) (ltb serial (limits flags w).serial) a.0 in
      let k₁ : id < (limits flags 4).id = omega (arith, ltb-true id (limits flags w).id b.0, (limits_widest flags w).ids) in
      let k₂ : serial < (limits flags 4).serial = omega (arith, ltb-true serial (limits flags w).serial b.1, (limits_widest flags w).serials) in
      let k₃ : creation < 2 ^ 32 = omega arith in
      done_holds _ t (q (pid id serial creation) t (λ cs. ((cs, refl), k₁, k₂, k₃)) (λ x. x) g)))))

  port_holds : (v w : ℕ) → 256 ^ v ≤ 2 ^ 64 → 256 ^ w ≤ 2 ^ 32 → Holds (later flags p (port_fields v w) s) Q
  unfolding later
  port_holds v w ok₁ ok₂ =
      bind (number_holds p v s g λ id t h₁ g. bind (number_holds p w t g λ creation t h₂ g.
      bind (rule_holds ((eqb v 8 || ltb id (2 ^ 28)) && creation_rule w creation) 4 p t λ e.
      let k₁ : id < 2 ^ 64 = omega arith in
      let k₂ : creation < 2 ^ 32 = omega arith in
      done_holds _ t (q (port id creation) t (λ cs. ((cs, refl), k₁, k₂)) (λ x. x) g))))

  reference_holds : (k w : ℕ) → 1 ≤ k → k ≤ (limits flags w).word_count → 256 ^ w ≤ 2 ^ 32 → Holds (later flags p (reference_fields k w) s) Q
  unfolding later
  reference_holds k w a b ok =
      bind (number_holds p w s g λ creation t h g. bind (words_holds p k t g λ ws t l us g.
      bind (rule_holds (creation_rule w creation && words_rule w ws) 4 p t λ e.
      let k₁ : creation < 2 ^ 32 = omega arith in
      let k₂ : 1 ≤ length ws = omega arith in
      let k₃ : length ws ≤ (limits flags 4).word_count = omega (arith, (limits_widest flags w).counts) in
      done_holds _ t (q (reference creation ws) t (λ cs. ((cs, refl), k₁, k₂, k₃, us)) (λ x. x) g))))

  old_holds : Holds (later flags p old_reference_fields s) Q
  unfolding later
  old_holds =
      bind (words_holds p 1 s g λ ws t l us g. bind (number_holds p 1 t g λ creation t h g.
      bind (rule_holds (words_rule 1 ws && creation_rule 1 creation) 4 p t λ e.
      let k₁ : creation < 2 ^ 32 = omega arith in
      let k₂ : 1 ≤ length ws = omega arith in
      let k₃ : length ws ≤ (limits flags 4).word_count = omega (arith, (limits_least flags 4).counts) in
      done_holds _ t (q (reference creation ws) t (λ cs. ((cs, refl), k₁, k₂, k₃, us)) (λ x. x) g))))

module _ (given : Given) (true_atoms : TrueAtoms given) where
  opening_holds : {r : ℕ} {w : Wanted} (a : Asked w) (bound : List ℕ) (s : Position) → Fine r s → {Q : ℕ × Head → Position → Type 0}
      → ((p : ℕ) (h : Head) (t : Position) → Sound given.flags h → empty_108 h ≡ false → Suits a h → Fine r t → Q (p, h) t)
      → Holds (opening given bound w s) Q
  unfolding opening
  opening_holds a [] s g q = refused_holds 2 _
  opening_holds {r} {w} a (b ∷ bound) s g {Q} q =
      bind (head_holds given true_atoms a s g λ h t ok suits g.
      go a q h t ok suits g (empty_108 h) refl (λ q'. opening_holds for_any bound t g q'))
    where
      go : {w : Wanted} (a : Asked w)
          → ((p : ℕ) (h : Head) (t : Position) → Sound given.flags h → empty_108 h ≡ false → Suits a h → Fine r t → Q (p, h) t)
          → (h : Head) (t : Position) → Sound given.flags h → Suits a h → Fine r t → (z : Bool) → empty_108 h ≡ z
          → (((p : ℕ) (h : Head) (t : Position) → Sound given.flags h → empty_108 h ≡ false → Unit {0} → Fine r t → Q (p, h) t) → Holds (opening given bound any t) Q)
          → Holds ((elim z as (λ _. Reading (ℕ × Head)) [ true ↦ opening given bound any | false ↦ done (s.at, h) ]) t) Q
      go a q h t ok suits g false e ih = done_holds _ t (q s.at h t ok e suits g)
      go for_any q h t ok suits g true e ih = ih q
      go for_atom q h t ok suits g true e ih = let no_way : false ≡ true = sym (ap empty_108 suits.1) ∙ e in absurd (let z : ◌≡◌ {A = ℕ} 0 1 = cc in omega arith)
      go for_arity q h t ok suits g true e ih = let no_way : false ≡ true = sym (ap empty_108 suits.2) ∙ e in absurd (let z : ◌≡◌ {A = ℕ} 0 1 = cc in omega arith)

-- what a part is, where it was asked for
abbrev pub Answers : {w : Wanted} → Asked w → Term → Type 0
Answers for_any t = Unit {0}
Answers for_atom t = (cs : List ℕ) × (t ≡ node (atom cs) empty)
Answers for_arity t = (n : ℕ) × (n < 256) × (t ≡ node (integer (pos n)) empty)

abbrev pub top : Term → Label
top (node l ts) = l

-- a run whose last part is no list
abbrev LastPlain : Forest Label → Type 0
LastPlain empty = ⊥
LastPlain (t ▹ empty) = ¬ IsList (top t)
LastPlain (t ▹ u ▹ us) = LastPlain (u ▹ us)

last_cons : (t : Term) (ts : Forest Label) → LastPlain ts → LastPlain (t ▹ ts)
last_cons t empty h = absurd h
last_cons t (u ▹ us) h = h

improper_cons : (t : Term) (ts : Forest Label) → LastPlain ts → Improper (t ▹ ts)
improper_cons t empty h = absurd h
improper_cons t (node l us ▹ empty) h = h
improper_cons t (u ▹ v ▹ us) h = improper_cons u (v ▹ us) h

-- how a list ends
data Ends : Label → Forest Label → Type 0 where
  proper : {ts : Forest Label} → Ends list ts
  improper : {ts : Forest Label} → LastPlain ts → Ends improper_list ts

ends_cons : (t : Term) {l : Label} {ts : Forest Label} → Ends l ts → Ends l (t ▹ ts)
ends_cons t proper = proper
ends_cons t (improper {ts = ts} h) = improper (last_cons t ts h)

ends_join : (us vs : Forest (Label × Offset)) {l : Label} → Ends l (all_as_read vs) → Ends l (all_as_read (us ▹▹ vs))
ends_join empty vs e = e
ends_join (u ▹ us) vs e = ends_cons (as_read u) (ends_join us vs e)

last_join : (us vs : Forest (Label × Offset)) → LastPlain (all_as_read vs) → LastPlain (all_as_read (us ▹▹ vs))
last_join empty vs h = h
last_join (u ▹ us) vs h = last_cons (as_read u) (all_as_read (us ▹▹ vs)) (last_join us vs h)

-- what was asked for
leaf_answers : {w : Wanted} (a : Asked w) (l : Label) → Suits a (leaf l) → Answers a (node l empty)
leaf_answers for_any l s = tt
leaf_answers for_atom l s = let is : l ≡ atom s.0 = cc in (s.0, ap (λ (x : Label). node x empty) is)
leaf_answers for_arity l s = let is : l ≡ integer (pos s.0) = cc in (s.0, s.1, ap (λ (x : Label). node x empty) is)

elsewhere : {w : Wanted} (a : Asked w) (h : Head) (t : Term) → Suits a h
    → ((cs : List ℕ) → h ≡ leaf (atom cs) → ⊥) → ((n : ℕ) → h ≡ leaf (integer (pos n)) → ⊥) → Answers a t
elsewhere for_any h t s f g = tt
elsewhere for_atom h t s f g = absurd (f s.0 s.1)
elsewhere for_arity h t s f g = absurd (g s.0 s.2)

module _ (cap : ℕ) (given : Given) where
  -- a term is found, with r rows taken before
  pub record Found {w : Wanted} (a : Asked w) (d r : ℕ) (u : Located) (t : Position) : Type 0 where
    pub valid : Valid given.flags (as_read u)
    pub deep : depth (as_read u) ≤ d
    pub room : r + size (as_read u) ≤ cap
    pub fine : Fine (r + size (as_read u)) t
    pub answers : Answers a (as_read u)

  -- a run of parts
  pub record Founds (d r : ℕ) (us : Forest (Label × Offset)) (t : Position) : Type 0 where
    pub valid : Valids given.flags (all_as_read us)
    pub deep : deepest (all_as_read us) ≤ d
    pub room : r + sizes (all_as_read us) ≤ cap
    pub fine : Fine (r + sizes (all_as_read us)) t

  no_parts : {d r : ℕ} {t : Position} → r ≤ cap → Fine r t → Founds d r empty t
  no_parts h g = record { valid = tt; deep = omega arith; room = omega arith; fine = at_rows g (omega arith) }

  one_more : {w : Wanted} {a : Asked w} {d r : ℕ} {u : Located} {us : Forest (Label × Offset)} {s t : Position}
      → Found a d r u s → Founds d (r + size (as_read u)) us t → Founds d r (u ▹ us) t
  one_more f fs =
      record {
        valid = (f.valid, fs.valid);
        deep = omega (arith, f.deep, fs.deep);
        room = omega (arith, fs.room);
        fine = at_rows fs.fine (omega arith);
      }

  joined : (us : Forest (Label × Offset)) {d r : ℕ} {vs : Forest (Label × Offset)} {s t : Position}
      → Founds d r us s → Founds d (r + sizes (all_as_read us)) vs t → Founds d r (us ▹▹ vs) t
  joined empty f fs = record { valid = fs.valid; deep = fs.deep; room = omega (arith, fs.room); fine = at_rows fs.fine (omega arith) }
  joined (u ▹ us) {d} {r} {vs} {s} {t} f fs =
      let rest : Founds d (r + size (as_read u)) (us ▹▹ vs) t
      = joined us {s = s}
      (record { valid = f.valid.1; deep = omega (arith, f.deep); room = omega (arith, f.room); fine = at_rows f.fine (omega arith) })
      (record { valid = fs.valid; deep = fs.deep; room = omega (arith, fs.room); fine = at_rows fs.fine (omega arith) }) in
      record {
        valid = (f.valid.0, rest.valid);
        deep = omega (arith, f.deep, rest.deep);
        room = omega (arith, rest.room);
        fine = at_rows rest.fine (omega arith);
      }

  module _ (d : ℕ) (part : Wanted → Reading Located)
      (reader : (w : Wanted) (a : Asked w) (r : ℕ) (s : Position) → Fine r s → r ≤ cap → Holds (part w s) (Found a d r)) where
    run_holds : (n r : ℕ) (s : Position) → Fine r s → r ≤ cap → Holds (run part n s) (λ us t. Founds d r us t × (count (all_as_read us) ≡ n))
    unfolding run
    run_holds zero r s g h = done_holds _ s (no_parts h g, refl)
    run_holds (suc n) r s g h =
        next (Found for_any d r) (reader any for_any r s g h) λ u t f.
        next (λ us t. Founds d (r + size (as_read u)) us t × (count (all_as_read us) ≡ n)) (run_holds n (r + size (as_read u)) t f.fine f.room) λ us t fs.
        done_holds _ t (one_more f fs.0, ap suc fs.1)

    entries_holds : (earlier : List Term) (n r : ℕ) (s : Position) → Fine r s → r ≤ cap
        → Holds (entries part earlier n s) (λ us t. Founds d r us t × Keys earlier (all_as_read us))
    unfolding entries
    entries_holds earlier zero r s g h = done_holds _ s (no_parts h g, tt)
    entries_holds earlier (suc n) r s g h =
        next (Found for_any d r) (reader any for_any r s g h) λ k t f.
        bind (rule_holds (not (among (meaning k) earlier)) 7 s.at t λ e.
        next (Found for_any d (r + size (as_read k))) (reader any for_any (r + size (as_read k)) t f.fine f.room) λ v t f'.
        next (λ us t. Founds d (r + size (as_read k) + size (as_read v)) us t × Keys (meaning k ∷ earlier) (all_as_read us))
        (entries_holds (meaning k ∷ earlier) n (r + size (as_read k) + size (as_read v)) t f'.fine f'.room) λ us t fs.
        done_holds _ t (one_more f (one_more f' fs.0), (not-true (among (meaning k) earlier) e, fs.1)))

  -- a small integer that stands for a character
  character_found : {d r : ℕ} {t : Position} (c : ℕ) (p : Offset) → c < 256 → 0 < d → r < cap → Fine (r + 1) t
      → Found for_any d r (node (integer (pos c), p) empty) t
  character_found c p h k l g =
      record { valid = (integer_fits given.flags (pos c) 1 h (lit< tt), tt); deep = omega arith; room = omega arith; fine = at_rows g (omega arith); answers = tt }

  row_holds : {r : ℕ} (p : ℕ) (s : Position) → Fine r s → {Q : Unit → Position → Type 0} → ((t : Position) → r < cap → Fine (r + 1) t → Q tt t)
      → Holds (row given cap p s) Q
  unfolding row
  row_holds {r} p s g {Q} q = go (ltb s.rows_taken cap) refl
    where
      go : (z : Bool) → ltb s.rows_taken cap ≡ z
          → Holds (elim z as (λ _. Answer (Unit × Position)) [ true ↦ good (tt, record { at = s.at; left = s.left; rows_taken = s.rows_taken + 1 }) | false ↦ refused 9 p ]) Q
      go true e =
          let less : s.rows_taken < cap = ltb-true s.rows_taken cap e in
          let same : s.rows_taken ≡ r = g.rows_are in
          done_holds tt _ (q _ (omega arith) (record { bytes_under = g.bytes_under; rows_are = omega arith }))
      go false e = refused_holds 9 p

  string_holds : (d p off : ℕ) (cs : List ℕ) → Under 256 cs → (r : ℕ) (s : Position) → Fine r s → r ≤ cap
      → Holds (string given cap d p off cs s) (Founds d r)
  unfolding string
  string_holds d p off [] u r s g h = done_holds _ s (no_parts h g)
  string_holds zero p off (c ∷ cs) u r s g h = refused_holds 8 p
  string_holds (suc d) p off (c ∷ cs) u r s g h =
      bind (row_holds p s g λ t₁ less g₁.
      next (Founds (suc d) (r + 1)) (string_holds (suc d) p (off + 1) cs u.1 (r + 1) t₁ g₁ (omega arith)) λ us t fs.
      done_holds _ t (one_more (character_found {t = t₁} c (character_at off) u.0 (omega arith) less g₁) fs))

  -- What is asked of `inner`, which reads the parts after their heads.
  abbrev Inner : ℕ → (ℕ → Head → Reading Located) → Type 0
  Inner d inner =
      (w : Wanted) (a : Asked w) (p : ℕ) (h : Head) (r : ℕ) (s : Position) → Sound given.flags h → empty_108 h ≡ false → Suits a h → Fine r s → r ≤ cap
      → Holds (inner p h s) (λ u t. Found a d r u t × (Plain h → ¬ IsList (top (as_read u))))

  module _ (true_atoms : TrueAtoms given) (few : cap ≤ 8192) (d : ℕ) (inner : ℕ → Head → Reading Located) (ok_inner : Inner d inner) where
    reader : (w : Wanted) (a : Asked w) (r : ℕ) (s : Position) → Fine r s → r ≤ cap → Holds (one_term given inner w s) (Found a d r)
    unfolding one_term
    reader w a r s g h =
        bind (opening_holds given true_atoms a s.left s g λ p x t ok z suits g.
        weaken (λ u t. Found a d r u t × (Plain x → ¬ IsList (top (as_read u)))) (ok_inner w a p x r t ok z suits g h) (λ u t f. f.0))

    abbrev Ending : ℕ → Forest (Label × Offset) × Label → Position → Type 0
    Ending r e t = Founds d r e.0 t × Ends e.1 (all_as_read e.0)

    tail_holds : (bound : List ℕ) (r : ℕ) (s : Position) → Fine r s → r ≤ cap → Holds (list_tail given cap d inner bound s) (Ending r)
    unfolding list_tail
    tail_holds [] r s g h = refused_holds 2 _
    tail_holds (b ∷ bound) r s g h =
        bind (opening_holds given true_atoms for_any s.left s g λ p x t ok z suits g.
        go p x t ok z g (λ r' s' g' h'. tail_holds bound r' s' g' h'))
      where
        go : (p : ℕ) (x : Head) (t : Position) → Sound given.flags x → empty_108 x ≡ false → Fine r t
            → ((r' : ℕ) (s' : Position) → Fine r' s' → r' ≤ cap → Holds (list_tail given cap d inner bound s') (Ending r'))
            → Holds ((elim x as (λ _. Reading (Forest (Label × Offset) × Label)) [
              | characters cs ↦ λ t. after (string given cap d p (p + 3) cs t) (λ ts. done (ts, list))
              | elements n ↦ λ t. after (run (one_term given inner) n t) (λ ts. λ t. after (list_tail given cap d inner bound t) (λ end. done (ts ▹▹ end.0, end.1)))
              | parts ws n l ↦ λ t. after (inner p (parts ws n l) t) (λ u. done (u ▹ empty, improper_list))
              | pairs n ↦ λ t. after (inner p (pairs n) t) (λ u. done (u ▹ empty, improper_list))
            ]) t) (Ending r)
        go p (characters cs) t (a_string us) z g ih =
            next (Founds d r) (string_holds d p (p + 3) cs us r t g h) λ us t fs. done_holds _ t (fs, proper)
        go p (elements n) t a_list z g ih =
            next (λ us t. Founds d r us t × (count (all_as_read us) ≡ n)) (run_holds d (one_term given inner) reader n r t g h) λ us t fs.
            next (Ending (r + sizes (all_as_read us))) (ih (r + sizes (all_as_read us)) t fs.0.fine fs.0.room) λ e t es.
            done_holds _ t (joined us fs.0 es.0, ends_join us e.0 es.1)
        go p (parts ws n l) t ok z g ih =
            next (λ u t. Found for_any d r u t × (Unit {0} → ¬ IsList (top (as_read u)))) (ok_inner any for_any p (parts ws n l) r t ok z tt g h) λ u t f.
            done_holds _ t (one_more f.0 (no_parts f.0.room f.0.fine), improper (f.1 tt))
        go p (pairs n) t ok z g ih =
            next (λ u t. Found for_any d r u t × (Unit {0} → ¬ IsList (top (as_read u)))) (ok_inner any for_any p (pairs n) r t ok z tt g h) λ u t f.
            done_holds _ t (one_more f.0 (no_parts f.0.room f.0.fine), improper (f.1 tt))

    abbrev Result : {w : Wanted} → Asked w → ℕ → Head → Located → Position → Type 0
    Result a r h u t = Found a (suc d) r u t × (Plain h → ¬ IsList (top (as_read u)))

    -- a whole from its parts
    made : {w : Wanted} {a : Asked w} {r : ℕ} {us : Forest (Label × Offset)} {t : Position} (l : Label) (p : Offset)
        → Founds d (r + 1) us t → Fits given.flags l (all_as_read us) → Answers a (node l (all_as_read us)) → Found a (suc d) r (node (l, p) us) t
    made l p f fits answers =
        record {
          valid = (fits, f.valid);
          deep = omega (arith, f.deep);
          room = omega (arith, f.room);
          fine = at_rows f.fine (omega arith);
          answers = answers;
        }

    -- a list from its elements and its end
    list_fits : (us vs : Forest (Label × Offset)) (l : Label) (r : ℕ) → r + 1 + sizes (all_as_read (us ▹▹ vs)) ≤ cap → 0 < count (all_as_read us) → Ends l (all_as_read vs)
        → Fits given.flags l (all_as_read (us ▹▹ vs))
    list_fits us vs list r room some_us proper = omega (arith, count_le_sizes (all_as_read (us ▹▹ vs)))
    list_fits us vs (integer _) r room some_us x = elim x [ ]
    list_fits us vs (Rattle.term_spec.specs.Term.float _) r room some_us x = elim x [ ]
    list_fits us vs (atom _) r room some_us x = elim x [ ]
    list_fits us vs tuple r room some_us x = elim x [ ]
    list_fits us vs (Rattle.term_spec.specs.Term.binary _) r room some_us x = elim x [ ]
    list_fits us vs (Rattle.term_spec.specs.Term.bitstring _ _) r room some_us x = elim x [ ]
    list_fits us vs map r room some_us x = elim x [ ]
    list_fits us vs (pid _ _ _) r room some_us x = elim x [ ]
    list_fits us vs (port _ _) r room some_us x = elim x [ ]
    list_fits us vs (reference _ _) r room some_us x = elim x [ ]
    list_fits us vs export r room some_us x = elim x [ ]
    list_fits empty vs improper_list r room some_us (improper h) = absurd (omega arith)
    list_fits (u ▹ us) vs improper_list r room some_us (improper h) = (omega (arith, count_le_sizes (all_as_read ((u ▹ us) ▹▹ vs))), improper_cons (as_read u) (all_as_read (us ▹▹ vs)) (last_join us vs h))

    -- over the identifiers: a node, then the later fields
    named_holds : {w : Wanted} (a : Asked w) (p : ℕ) (l : Later) (r : ℕ) (s : Position) → Suits a (parts (an_atom ∷ []) 0 l)
        → Fine (r + 1) s → r < cap
        → ((r' : ℕ) (s' : Position) → Fine r' s' → Holds (later given.flags p l s') (λ x t. Names given.flags x × (¬ IsList x) × Fine r' t))
        → Holds (contents given cap d inner p (parts (an_atom ∷ []) 0 l) s) (Result a r (parts (an_atom ∷ []) 0 l))
    unfolding contents each run
    named_holds a p l r s suits g less later_ok =
        next (λ us t. (u : Located) × (us ≡ u ▹ empty) × Found for_atom d (r + 1) u t)
        (next (Found for_atom d (r + 1)) (reader an_atom for_atom (r + 1) s g (omega arith)) λ u t f. done_holds _ t (u, refl, f)) λ us t f.
        let size_one : size (as_read f.0) ≡ 1 = ap size f.2.answers.1 in
        next (λ x t. Names given.flags x × (¬ IsList x) × Fine (r + 1 + 1) t) (later_ok (r + 1 + 1) t (at_rows f.2.fine (omega arith))) λ x t n.
        let founds : Founds d (r + 1) (f.0 ▹ empty) t
        = record {
          valid = (f.2.valid, tt);
          deep = omega (arith, f.2.deep);
          room = omega (arith, f.2.room);
          fine = at_rows n.2 (omega arith);
        } in
        let fits : Fits given.flags x (as_read f.0 ▹ empty) = rw f.2.answers.1 (n.0 f.2.answers.0) in
        rw f.1 (done_holds (node (x, tag_at p) (f.0 ▹ empty)) t
        (made x (tag_at p) founds fits (elsewhere a _ _ suits no_atom no_byte), λ _. n.1))
      where
        no_atom : (cs : List ℕ) → parts (an_atom ∷ []) 0 l ≡ leaf (atom cs) → ⊥
        no_atom cs e = let z : ◌≡◌ {A = ℕ} 0 1 = cc in omega arith

        no_byte : (n : ℕ) → parts (an_atom ∷ []) 0 l ≡ leaf (integer (pos n)) → ⊥
        no_byte n e = let z : ◌≡◌ {A = ℕ} 0 1 = cc in omega arith

    export_holds : {w : Wanted} (a : Asked w) (p r : ℕ) (s : Position) → Suits a (parts (an_atom ∷ an_atom ∷ an_arity ∷ []) 0 (known export))
        → Fine (r + 1) s → r < cap
        → Holds (contents given cap d inner p (parts (an_atom ∷ an_atom ∷ an_arity ∷ []) 0 (known export)) s)
        (Result a r (parts (an_atom ∷ an_atom ∷ an_arity ∷ []) 0 (known export)))
    unfolding contents each run later
    export_holds a p r s suits g less =
        next (λ us t. (x : Located) × (y : Located) × (z : Located) × (us ≡ x ▹ y ▹ z ▹ empty) × Founds d (r + 1) us t
        × Answers for_atom (as_read x) × Answers for_atom (as_read y) × Answers for_arity (as_read z))
        (next (Found for_atom d (r + 1)) (reader an_atom for_atom (r + 1) s g (omega arith)) λ x t f.
        next (λ us t. (y : Located) × (z : Located) × (us ≡ y ▹ z ▹ empty) × Founds d (r + 1 + size (as_read x)) us t
        × Answers for_atom (as_read y) × Answers for_arity (as_read z))
        (next (Found for_atom d (r + 1 + size (as_read x))) (reader an_atom for_atom (r + 1 + size (as_read x)) t f.fine f.room) λ y t f'.
        next (λ us t. (z : Located) × (us ≡ z ▹ empty) × Founds d (r + 1 + size (as_read x) + size (as_read y)) us t × Answers for_arity (as_read z))
        (next (Found for_arity d (r + 1 + size (as_read x) + size (as_read y))) (reader an_arity for_arity _ t f'.fine f'.room) λ z t f''.
        done_holds _ t (z, refl, one_more f'' (no_parts f''.room f''.fine), f''.answers)) λ us t k.
        done_holds _ t (y, k.0, ap (λ (vs : Forest (Label × Offset)). y ▹ vs) k.1, one_more f' k.2, f'.answers, k.3)) λ us t k.
        done_holds _ t (x, k.0, k.1, ap (λ (vs : Forest (Label × Offset)). x ▹ vs) k.2, one_more f k.3, f.answers, k.4, k.5)) λ us t k.
        let parts_are : all_as_read us ≡ node (atom k.5.0) empty ▹ node (atom k.6.0) empty ▹ node (integer (pos k.7.0)) empty ▹ empty
        = ap all_as_read k.3
        ∙ ap₂ (λ (x : Term) (ts : Forest Label). x ▹ ts) k.5.1 (ap₂ (λ (y : Term) (z : Term). y ▹ z ▹ empty) k.6.1 k.7.2) in
        rw (join_none us) (done_holds (node (export, tag_at p) us) t
        (made export (tag_at p) k.4 (k.5.0, k.6.0, k.7.0, k.7.1, parts_are) (elsewhere a _ _ suits no_atom no_byte), λ _ x. x))
      where
        no_atom : (cs : List ℕ) → parts (an_atom ∷ an_atom ∷ an_arity ∷ []) 0 (known export) ≡ leaf (atom cs) → ⊥
        no_atom cs e = let z : ◌≡◌ {A = ℕ} 0 1 = cc in omega arith

        no_byte : (n : ℕ) → parts (an_atom ∷ an_atom ∷ an_arity ∷ []) 0 (known export) ≡ leaf (integer (pos n)) → ⊥
        no_byte n e = let z : ◌≡◌ {A = ℕ} 0 1 = cc in omega arith

    -- everything that an accepted head may be
    whole_holds : {w : Wanted} (a : Asked w) (p : ℕ) {h : Head} (r : ℕ) (s : Position) → Sound given.flags h → empty_108 h ≡ false → Suits a h
        → Fine (r + 1) s → r < cap → Holds (contents given cap d inner p h s) (Result a r h)
    unfolding contents each run later
    whole_holds a p r s (a_leaf {l = l} f nl) z suits g less =
        done_holds _ s (made l (tag_at p) (no_parts (omega arith) g) f (leaf_answers a l suits), λ _. nl)
    whole_holds a p r s (a_tuple {n = n} l) z suits g less =
        next (λ us t. Founds d (r + 1) us t × (count (all_as_read us) ≡ n)) (run_holds d (one_term given inner) reader n (r + 1) s g (omega arith)) λ us t fs.
        done_holds _ t (
          made tuple (tag_at p) fs.0 (omega (arith, fs.1))
              (elsewhere a _ _ suits (λ cs e. let z : ◌≡◌ {A = ℕ} 0 1 = cc in omega arith) (λ n e. let z : ◌≡◌ {A = ℕ} 0 1 = cc in omega arith)),
          λ _ x. x,
        )
    whole_holds a p r s (a_pid {w = v} l) z suits g less =
        named_holds a p _ r s suits g less (λ r' s' g'. pid_holds given.flags p s' g' (λ x t n nl g''. (n, nl, g'')) v l)
    whole_holds a p r s (a_port {v = v} {w = v'} l l') z suits g less =
        named_holds a p _ r s suits g less (λ r' s' g'. port_holds given.flags p s' g' (λ x t n nl g''. (n, nl, g'')) v v' l l')
    whole_holds a p r s (a_reference {k = k} {w = v} l l' l'') z suits g less =
        named_holds a p _ r s suits g less (λ r' s' g'. reference_holds given.flags p s' g' (λ x t n nl g''. (n, nl, g'')) k v l l' l'')
    whole_holds a p r s an_old_reference z suits g less =
        named_holds a p _ r s suits g less (λ r' s' g'. old_holds given.flags p s' g' (λ x t n nl g''. (n, nl, g'')))
    whole_holds a p r s an_export z suits g less = export_holds a p r s suits g less
    whole_holds a p r s (a_string {cs = cs} us) z suits g less =
        next (Founds d (r + 1)) (string_holds d p (p + 3) cs us (r + 1) s g (omega arith)) λ us t fs.
        done_holds _ t (
          made list (tag_at p) fs (omega (arith, count_le_sizes (all_as_read us), fs.room))
              (elsewhere a _ _ suits (λ cs e. let z : ◌≡◌ {A = ℕ} 0 1 = cc in omega arith) (λ n e. let z : ◌≡◌ {A = ℕ} 0 1 = cc in omega arith)),
          λ bad. absurd bad,
        )
    whole_holds a p r s (a_list {n = zero}) z suits g less = absurd (let z : ◌≡◌ {A = ℕ} 0 1 = cc in omega arith)
    whole_holds a p r s (a_list {n = suc n}) z suits g less =
        next (λ us t. Founds d (r + 1) us t × (count (all_as_read us) ≡ suc n)) (run_holds d (one_term given inner) reader (suc n) (r + 1) s g (omega arith)) λ us t fs.
        next (Ending (r + 1 + sizes (all_as_read us))) (tail_holds t.left (r + 1 + sizes (all_as_read us)) t fs.0.fine fs.0.room) λ e t es.
        let all : Founds d (r + 1) (us ▹▹ e.0) t = joined us fs.0 es.0 in
        done_holds _ t (
          made e.1 (tag_at p) all (list_fits us e.0 e.1 r all.room (omega (arith, fs.1)) es.1)
              (elsewhere a _ _ suits (λ cs e. let z : ◌≡◌ {A = ℕ} 0 1 = cc in omega arith) (λ n e. let z : ◌≡◌ {A = ℕ} 0 1 = cc in omega arith)),
          λ bad. absurd bad,
        )
    whole_holds a p r s (a_map {n = n}) z suits g less =
        next (λ us t. Founds d (r + 1) us t × Keys [] (all_as_read us)) (entries_holds d (one_term given inner) reader [] n (r + 1) s g (omega arith)) λ us t fs.
        done_holds _ t (
          made map (tag_at p) fs.0 (omega (arith, count_le_sizes (all_as_read us), fs.0.room), fs.1)
              (elsewhere a _ _ suits (λ cs e. let z : ◌≡◌ {A = ℕ} 0 1 = cc in omega arith) (λ n e. let z : ◌≡◌ {A = ℕ} 0 1 = cc in omega arith)),
          λ _ x. x,
        )

  module _ (true_atoms : TrueAtoms given) (few : cap ≤ 8192) where
    body_holds : (d : ℕ) → Inner d (body given cap d)
    unfolding body
    body_holds zero w a p h r s ok z suits g k = refused_holds 8 p
    body_holds (suc d) w a p h r s ok z suits g k =
        bind (row_holds p s g λ t less g. whole_holds true_atoms few d (body given cap d) (body_holds d) a p r t ok z suits g less)

    -- what is accepted is valid, within the levels and the rows
    pub term_holds : (d : ℕ) {w : Wanted} (a : Asked w) (r : ℕ) (s : Position) → Fine r s → r ≤ cap → Holds (term given cap d w s) (Found a d r)
    term_holds d {w} a r s g k = reader true_atoms few d (body given cap d) (body_holds d) w a r s g k
