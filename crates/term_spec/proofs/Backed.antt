-- The message backs every node of a term that was read from it: what its tag and fields say can be read again at its place.
-- Whoever holds a row (an offset) can find its label from the message: keys are compared, and terms written, by this.
use mathlib.Core.Path.{◌≡◌, refl, sym, ◌∙◌, ap, subst}
use mathlib.Core.Logic.{◌⊎◌, inl, inr}
use mathlib.Core.Bool.{Bool, true, false, ◌||◌, not}
use mathlib.Core.List.{List, [], ◌∷◌}
use mathlib.Core.Option.{Option, some}
use Prim.Native.Nat.{ℕ, zero, suc, ◌+◌, ◌<◌}
use native.Mathlib.Omega.{arith}
use lib.Dec.{eqb, ltb}
use borrow.Author.Tests.{eqb-true}
use lib.IntN.{pos}
use lib.ListN.{length, get_or, drop}
use Rattle.term_spec.specs.Tree.{Forest, node, empty, ◌▹◌, ◌▹▹◌}
use Rattle.term_spec.specs.Term.{Label, Term, integer, atom, list, improper_list, map}
use Rattle.term_spec.specs.Equal.{among}
use Rattle.term_spec.specs.Answer.{Answer, good, refused, Position, Reading, after, done, rule, byte, first_of, bytes, number}
use Rattle.term_spec.specs.Head.{Given, Wanted, any, tagged, an_atom, one_of, leaf, Form, atom_ext, atom_cache_ref, form, form_in, forms, form_or, fields, Head, parts, characters, elements, pairs, later, term_head, text_or}
use Rattle.term_spec.specs.Text.{Coding, latin_1, utf_8, check}
use Rattle.term_spec.specs.Reading.{Offset, tag_at, character_at, Located, meaning, empty_108, opening, one_term, row, body, contents, term, each, run, entries, string, list_tail}
use Rattle.term_spec.proofs.Holds.{Holds, both, next, done_holds, refused_holds, rule_holds, weaken, skip, characters_hold}
use Rattle.term_spec.proofs.Invariant.{InStep, on_byte, later_in_step, head_in_step, row_in_step}

-- the answer itself may be kept
pub keep : {A : Type 0} {o : Answer (A × Position)} (P : A → Position → Type 0) → Holds o P → Holds o (λ a s. P a s × (o ≡ good (a, s)))
keep P h = record { known = λ a s e. (h.known a s e, e) }

-- finding a form moves nothing, and finds the table's row of a tag that may stand there
abbrev pub Allowed : Wanted → ℕ → Type 0
Allowed any tag = Unit {0}
Allowed (tagged ts) tag = one_of tag ts ≡ true

form_or_found : (n p : ℕ) (o : Option Form) (s : Position) → Holds (form_or n p o s) (λ f t. (t ≡ s) × (o ≡ some f))
unfolding form_or
form_or_found n p Option.none s = refused_holds n p
form_or_found n p (some f) s = done_holds f s (refl, refl)

pub form_found : (p : ℕ) (w : Wanted) (tag : ℕ) (s : Position) → Holds (form p w tag s) (λ f t. (t ≡ s) × (form_in forms tag ≡ some f) × Allowed w tag)
unfolding form
form_found p any tag s = weaken (λ f t. (t ≡ s) × (form_in forms tag ≡ some f)) (form_or_found 3 p (form_in forms tag) s) (λ f t k. (k.0, k.1, tt))
form_found p (tagged ts) tag s = go (one_of tag ts) refl
  where
    go : (t : Bool) → one_of tag ts ≡ t
        → Holds ((elim t as (λ _. Reading Form) [ true ↦ form_or 4 p (form_in forms tag) | false ↦ λ s. refused 4 p ]) s) (λ f t. (t ≡ s) × (form_in forms tag ≡ some f) × (one_of tag ts ≡ true))
    go true e = weaken (λ f t. (t ≡ s) × (form_in forms tag ≡ some f)) (form_or_found 4 p (form_in forms tag) s) (λ f t k. (k.0, k.1, e))
    go false e = refused_holds 4 p

-- The tags of atoms, with their layouts
pub data AtomForm : ℕ → Form → Type 0 where
  is_82 : AtomForm 82 atom_cache_ref
  is_100 : AtomForm 100 (atom_ext latin_1 2)
  is_115 : AtomForm 115 (atom_ext latin_1 1)
  is_118 : AtomForm 118 (atom_ext utf_8 2)
  is_119 : AtomForm 119 (atom_ext utf_8 1)

pub atom_form : (tag : ℕ) (f : Form) → form_in forms tag ≡ some f → Allowed an_atom tag → AtomForm tag f
unfolding forms form_in
atom_form tag f e a = go (eqb tag 82) refl (eqb tag 100) refl (eqb tag 115) refl (eqb tag 118) refl (eqb tag 119) refl a
  where
    at : (n : ℕ) (g : Form) → form_in forms n ≡ some g → eqb tag n ≡ true → AtomForm n g → AtomForm tag f
    at n g k h x =
        let is : n ≡ tag = sym (eqb-true tag n h) in
        let same : g ≡ f = cc in
        subst (λ (z : ℕ). AtomForm z f) is (subst (AtomForm n) same x)

    go : (a : Bool) → eqb tag 82 ≡ a → (b : Bool) → eqb tag 100 ≡ b → (c : Bool) → eqb tag 115 ≡ c → (d : Bool) → eqb tag 118 ≡ d → (g : Bool) → eqb tag 119 ≡ g
        → (a || (b || (c || (d || (g || false))))) ≡ true → AtomForm tag f
    go true p b q c r d s g t k = at 82 atom_cache_ref refl p is_82
    go false p true q c r d s g t k = at 100 (atom_ext latin_1 2) refl q is_100
    go false p false q true r d s g t k = at 115 (atom_ext latin_1 1) refl r is_115
    go false p false q false r true s g t k = at 118 (atom_ext utf_8 2) refl s is_118
    go false p false q false r false s true t k = at 119 (atom_ext utf_8 1) refl t is_119
    go false p false q false r false s false t k = let no_way : ◌≡◌ {A = ℕ} 0 1 = cc in absurd (omega arith)

head_of : (m : List ℕ) (n b : ℕ) (bs : List ℕ) → drop n m ≡ b ∷ bs → get_or m n 0 ≡ b
head_of [] zero b bs e = let no_way : ◌≡◌ {A = ℕ} 0 1 = cc in absurd (omega arith)
head_of [] (suc n) b bs e = let no_way : ◌≡◌ {A = ℕ} 0 1 = cc in absurd (omega arith)
head_of (x ∷ m) zero b bs e = cc
head_of (x ∷ m) (suc n) b bs e = head_of m n b bs e

module _ (message : List ℕ) (cap : ℕ) (given : Given) where
  -- these characters stand in the message from an offset on
  abbrev pub CharsAt : ℕ → List ℕ → Type 0
  CharsAt off [] = Unit {0}
  CharsAt off (c ∷ cs) = (off < length message) × (get_or message off 0 ≡ c) × CharsAt (off + 1) cs

  -- Where reading stands after the wanted parts, which begin at b: after an atom alone, where that atom's head ends
  abbrev pub Ends : List Wanted → Position → Position → Type 0
  Ends [] b s = s.at ≡ b.at
  Ends (w ∷ []) b s = w ≡ an_atom → (h : Head) × (e : Position) × (term_head given an_atom b ≡ good (h, e)) × (s.at ≡ e.at)
  Ends (w ∷ v ∷ ws) b s = Unit {0}

  -- and after n parts more
  abbrev pub After : List Wanted → ℕ → Position → Position → Type 0
  After ws zero b s = Ends ws b s
  After ws (suc n) b s = Unit {0}

  -- what a head that ends at b says of the label; later fields are read again where they stand, after the parts
  abbrev pub Agrees : ℕ → Head → Position → Label → Type 0
  Agrees p (parts ws n l) b x = (s : Position) × (t : Position) × InStep message cap s × After ws n b s × (later given.flags p l s ≡ good (x, t))
  Agrees p (characters cs) b x = x ≡ list
  Agrees p (elements n) b x = (x ≡ list) ⊎ (x ≡ improper_list)
  Agrees p (pairs n) b x = x ≡ map

  -- a head can be read again at p
  pub record HeadAt (p : ℕ) (h : Head) : Type 0 where
    pub wanted : Wanted
    pub start : Position
    pub stop : Position
    pub in_step : InStep message cap start
    pub is_at : start.at ≡ p
    pub reads : term_head given wanted start ≡ good (h, stop)

  -- a node's label follows from the message at its place
  abbrev pub LabelAt : Offset → Label → Type 0
  LabelAt (tag_at p) x = (h : Head) × (a : HeadAt p h) × (b : Position) × InStep message cap b × (b.at ≡ a.stop.at) × Agrees p h b x
  LabelAt (character_at p) x = (p < length message) × (x ≡ integer (pos (get_or message p 0)))

  abbrev mutual
    pub Backed : Located → Type 0
    Backed (node l ts) = LabelAt l.1 l.0 × Backeds ts

    pub Backeds : Forest (Label × Offset) → Type 0
    Backeds empty = Unit {0}
    Backeds (t ▹ ts) = Backed t × Backeds ts

  -- the bytes read are the message's
  bytes_are_there : (p n : ℕ) (s : Position) → InStep message cap s → Holds (bytes p n s) (λ bs t. InStep message cap t × CharsAt s.at bs)
  unfolding bytes
  bytes_are_there p zero s i = done_holds _ s (i, tt)
  bytes_are_there p (suc n) s i =
      next (λ b t. InStep message cap t × (t.at ≡ s.at + 1) × (get_or message s.at 0 ≡ b)) (first s i) λ b t k.
      next (λ bs u. InStep message cap u × CharsAt t.at bs) (bytes_are_there p n t k.0) λ bs u k'.
      done_holds _ u (k'.0, (omega (arith, k.0.inside, k.1), k.2, subst (λ (x : ℕ). CharsAt x bs) k.1 k'.1))
    where
      first : (s : Position) → InStep message cap s → Holds (byte p s) (λ b t. InStep message cap t × (t.at ≡ s.at + 1) × (get_or message s.at 0 ≡ b))
      first s i = go s.left refl
        where
          go : (left : List ℕ) → s.left ≡ left → Holds (first_of left s p) (λ b t. InStep message cap t × (t.at ≡ s.at + 1) × (get_or message s.at 0 ≡ b))
          go [] e = refused_holds 2 p
          go (b ∷ bs) e = done_holds b _ (on_byte message cap s b bs e i, refl, head_of message s.at b bs (sym i.bytes_are ∙ e))

  bytes_move : (p n : ℕ) (s : Position) → Holds (bytes p n s) (λ _ t. t.at ≡ s.at + n)
  unfolding bytes
  bytes_move p zero s = done_holds _ s (omega arith)
  bytes_move p (suc n) s =
      next (λ _ t. t.at ≡ s.at + 1) (go s.left) λ b t k. next (λ _ u. u.at ≡ t.at + n) (bytes_move p n t) λ bs u k'. done_holds _ u (omega arith)
    where
      go : (left : List ℕ) → Holds (first_of left s p) (λ _ t. t.at ≡ s.at + 1)
      go [] = refused_holds 2 p
      go (b ∷ bs) = done_holds b _ refl

  number_moves : (p n : ℕ) (s : Position) → InStep message cap s → Holds (number p n s) (λ _ t. InStep message cap t × (t.at ≡ s.at + n))
  unfolding number
  number_moves p n s i =
      next (λ bs t. InStep message cap t × (t.at ≡ s.at + n))
      (record { known = λ bs t e. (((bytes_are_there p n s i).known bs t e).0, (bytes_move p n s).known bs t e) }) λ bs t k. done_holds _ t k

  -- the characters of a 107 are its bytes
  abbrev pub OnChars : ℕ → Head → Type 0
  OnChars p (parts ws n l) = Unit {0}
  OnChars p (characters cs) = CharsAt (p + 3) cs
  OnChars p (elements n) = Unit {0}
  OnChars p (pairs n) = Unit {0}

  fields_chars : (p : ℕ) (f : Form) (s : Position) → InStep message cap s → s.at ≡ p + 1 → Holds (fields given p f s) (λ h t. OnChars p h)
  fields_chars p f s i e =
      characters_hold given (λ h t. OnChars p h) (λ _ _ _ _. tt) (λ _ _. tt) (λ _ _. tt) p f s tt
      (weaken (λ _ t. InStep message cap t × (t.at ≡ s.at + 2)) (number_moves p 2 s i) λ n t k.
      weaken (λ bs u. InStep message cap u × CharsAt t.at bs) (bytes_are_there p n t k.0) λ bs u k'.
      subst (λ (x : ℕ). CharsAt x bs) (omega (arith, k.1)) k'.1)

  head_chars : (w : Wanted) (s : Position) → InStep message cap s → Holds (term_head given w s) (λ h t. OnChars s.at h)
  unfolding term_head
  head_chars w s i =
      next (λ b t. InStep message cap t × (t.at ≡ s.at + 1)) (go s.left refl) λ tag t k.
      next (λ f u. (u ≡ t) × (form_in forms tag ≡ some f) × Allowed w tag) (form_found s.at w tag t) λ f u e.
      fields_chars s.at f u (subst (λ (x : Position). InStep message cap x) (sym e.0) k.0) (ap (λ (x : Position). x.at) e.0 ∙ k.1)
    where
      go : (left : List ℕ) → s.left ≡ left → Holds (first_of left s s.at) (λ b t. InStep message cap t × (t.at ≡ s.at + 1))
      go [] e = refused_holds 2 _
      go (b ∷ bs) e = done_holds b _ (on_byte message cap s b bs e i, refl)

  -- a head that is opened can be read again at its place
  abbrev pub Opened : ℕ × Head → Position → Type 0
  Opened o t = InStep message cap t × (a : HeadAt o.0 o.1) × (t.at ≡ a.stop.at) × OnChars o.0 o.1

  pub opening_backed : (bound : List ℕ) (w : Wanted) (s : Position) → InStep message cap s → Holds (opening given bound w s) Opened
  unfolding opening
  opening_backed [] w s i = refused_holds 2 _
  opening_backed (b ∷ bound) w s i =
      next (λ h t. (InStep message cap t × OnChars s.at h) × (term_head given w s ≡ good (h, t)))
      (keep (λ h t. InStep message cap t × OnChars s.at h) (record { known = λ h t e. ((head_in_step message cap given w s i).known h t e, (head_chars w s i).known h t e) }))
      λ h t k. go h t (empty_108 h) k (opening_backed bound any t k.0.0)
    where
      go : (h : Head) (t : Position) (z : Bool) → (InStep message cap t × OnChars s.at h) × (term_head given w s ≡ good (h, t)) → Holds (opening given bound any t) Opened
          → Holds ((elim z as (λ _. Reading (ℕ × Head)) [ true ↦ opening given bound any | false ↦ done (s.at, h) ]) t) Opened
      go h t true k ih = ih
      go h t false k ih =
          done_holds _ t (k.0.0, record { wanted = w; start = s; stop = t; in_step = i; is_at = refl; reads = k.1 }, refl, k.0.1)

  -- the same for what is read after the heads
  abbrev TreeBacked : Located → Position → Type 0
  TreeBacked u t = InStep message cap t × Backed u

  abbrev RunBacked : Forest (Label × Offset) → Position → Type 0
  RunBacked us t = InStep message cap t × Backeds us

  string_backed : (d p off : ℕ) (cs : List ℕ) (s : Position) → InStep message cap s → CharsAt off cs → Holds (string given cap d p off cs s) RunBacked
  unfolding string
  string_backed d p off [] s i c = done_holds _ s (i, tt)
  string_backed zero p off (x ∷ cs) s i c = refused_holds 8 p
  string_backed (suc d) p off (x ∷ cs) s i c =
      next (λ _ t. InStep message cap t) (row_in_step message cap given p s i) λ _ t i.
      next RunBacked (string_backed (suc d) p (off + 1) cs t i c.2) λ us t k.
      done_holds _ t (k.0, (((c.0, ap (λ (y : ℕ). integer (pos y)) (sym c.1)), tt), k.1))

  pub joined : (us vs : Forest (Label × Offset)) → Backeds us → Backeds vs → Backeds (us ▹▹ vs)
  joined empty vs b c = c
  joined (u ▹ us) vs b c = (b.0, joined us vs b.1 c)

  module _ (part : Wanted → Reading Located) (ok : (w : Wanted) (s : Position) → InStep message cap s → Holds (part w s) TreeBacked) where
    each_backed : (ws : List Wanted) (s : Position) → InStep message cap s → Holds (each part ws s) RunBacked
    unfolding each
    each_backed [] s i = done_holds _ s (i, tt)
    each_backed (w ∷ ws) s i = next TreeBacked (ok w s i) λ u t k. next RunBacked (each_backed ws t k.0) λ us t k'. done_holds _ t (k'.0, (k.1, k'.1))

    run_backed : (n : ℕ) (s : Position) → InStep message cap s → Holds (run part n s) RunBacked
    unfolding run
    run_backed zero s i = done_holds _ s (i, tt)
    run_backed (suc n) s i = next TreeBacked (ok any s i) λ u t k. next RunBacked (run_backed n t k.0) λ us t k'. done_holds _ t (k'.0, (k.1, k'.1))

    entries_backed : (earlier : List Term) (n : ℕ) (s : Position) → InStep message cap s → Holds (entries part earlier n s) RunBacked
    unfolding entries
    entries_backed earlier zero s i = done_holds _ s (i, tt)
    entries_backed earlier (suc n) s i =
        next TreeBacked (ok any s i) λ x t k.
        next (λ _ t. InStep message cap t) (rule_holds (not (among (meaning x) earlier)) 7 s.at t λ _. k.0) λ _ t i.
        next TreeBacked (ok any t i) λ y t k'.
        next RunBacked (entries_backed (meaning x ∷ earlier) n t k'.0) λ us t k''.
        done_holds _ t (k''.0, (k.1, (k'.1, k''.1)))

  abbrev Inner : (ℕ → Head → Reading Located) → Type 0
  Inner inner = (p : ℕ) (h : Head) (s : Position) → InStep message cap s → (a : HeadAt p h) → s.at ≡ a.stop.at → OnChars p h → Holds (inner p h s) TreeBacked

  -- a term without parts ends with its head
  abbrev Stays : (ℕ → Head → Reading Located) → Type 0
  Stays inner = (p : ℕ) (l : Label) (s : Position) → Holds (inner p (leaf l) s) (λ _ t. t.at ≡ s.at)

  -- an atom's head is a leaf's
  text_leaf : (p : ℕ) (c : Coding) (w : ℕ) (s : Position) → Holds (fields given p (atom_ext c w) s) (λ h _. (l : Label) × (h ≡ leaf l))
  unfolding fields
  text_leaf p c w s = skip (number p w s) λ n t. skip (bytes p n t) λ bs t. skip (text_or (check c bs) 5 _ t) λ cs t. done_holds _ t (atom cs, refl)

  atom_fields : (p tag : ℕ) (f : Form) (s : Position) → AtomForm tag f → Holds (fields given p f s) (λ h _. (l : Label) × (h ≡ leaf l))
  unfolding fields
  atom_fields p tag f s is_82 =
      skip (number p 1 s) λ n t. skip (rule (ltb n given.n) 6 p t) λ _ t. skip (text_or (given.text n) 14 _ t) λ cs t. done_holds _ t (atom cs, refl)
  atom_fields p tag f s is_100 = text_leaf p latin_1 2 s
  atom_fields p tag f s is_115 = text_leaf p latin_1 1 s
  atom_fields p tag f s is_118 = text_leaf p utf_8 2 s
  atom_fields p tag f s is_119 = text_leaf p utf_8 1 s

  atom_head : (s : Position) → Holds (term_head given an_atom s) (λ h _. (l : Label) × (h ≡ leaf l))
  unfolding term_head
  atom_head s =
      skip (byte s.at s) λ tag t.
      next (λ f u. (u ≡ t) × (form_in forms tag ≡ some f) × Allowed an_atom tag) (form_found s.at an_atom tag t) λ f u e.
      atom_fields s.at tag f u (atom_form tag f e.1 e.2)

  row_stays : (p : ℕ) (s : Position) → Holds (row given cap p s) (λ _ t. t.at ≡ s.at)
  unfolding row
  row_stays p s = go (ltb s.rows_taken cap)
    where
      go : (t : Bool) → Holds {A = Unit {0}} (elim t [ true ↦ good (tt, record { at = s.at; left = s.left; rows_taken = s.rows_taken + 1 }) | false ↦ refused 9 p ]) (λ _ t. t.at ≡ s.at)
      go true = done_holds tt _ refl
      go false = refused_holds 9 p

  module _ (d : ℕ) (inner : ℕ → Head → Reading Located) (ok : Inner inner) (stays : Stays inner) where
    -- an atom ends with its head
    atom_opening : (bound : List ℕ) (s : Position) → Holds (opening given bound an_atom s) (λ o t. (l : Label) × (o.1 ≡ leaf l) × (term_head given an_atom s ≡ good (leaf l, t)))
    unfolding opening
    atom_opening [] s = refused_holds 2 _
    atom_opening (b ∷ bound) s =
        next (λ h t. ((l : Label) × (h ≡ leaf l)) × (term_head given an_atom s ≡ good (h, t))) (keep (λ h _. (l : Label) × (h ≡ leaf l)) (atom_head s))
        λ h t k. go h t k.0.0 k.0.1 k.1
      where
        go : (h : Head) (t : Position) (l : Label) → h ≡ leaf l → term_head given an_atom s ≡ good (h, t)
            → Holds ((elim (empty_108 h) as (λ _. Reading (ℕ × Head)) [ true ↦ opening given bound any | false ↦ done (s.at, h) ]) t)
            (λ o t. (l : Label) × (o.1 ≡ leaf l) × (term_head given an_atom s ≡ good (leaf l, t)))
        go h t l e k =
            subst (λ (x : Head). Holds ((elim (empty_108 x) as (λ _. Reading (ℕ × Head)) [ true ↦ opening given bound any | false ↦ done (s.at, x) ]) t)
            (λ o t. (l : Label) × (o.1 ≡ leaf l) × (term_head given an_atom s ≡ good (leaf l, t)))) (sym e)
            (done_holds _ t (l, refl, k ∙ ap (λ (x : Head). good (x, t)) e))

    atom_ends : (s : Position) → Holds (one_term given inner an_atom s) (λ _ t. Ends (an_atom ∷ []) s t)
    unfolding one_term
    atom_ends s =
        next (λ o t. (l : Label) × (o.1 ≡ leaf l) × (term_head given an_atom s ≡ good (leaf l, t))) (atom_opening s.left s) λ o t k.
        subst (λ (x : Head). Holds (inner o.0 x t) (λ _ u. Ends (an_atom ∷ []) s u)) (sym k.1)
        (weaken (λ _ u. u.at ≡ t.at) (stays o.0 k.0 t) (λ _ u e _. (leaf k.0, t, k.2, e)))

    one_ends : (w : Wanted) (s : Position) → Holds (one_term given inner w s) (λ _ t. Ends (w ∷ []) s t)
    one_ends w s = record { known = λ u t e is. (atom_ends s).known u t (ap (λ (x : Wanted). one_term given inner x s) (sym is) ∙ e) refl }

    each_ends : (ws : List Wanted) (s : Position) → Holds (each (one_term given inner) ws s) (λ _ t. Ends ws s t)
    unfolding each
    each_ends [] s = done_holds _ s refl
    each_ends (w ∷ []) s = next (λ _ t. Ends (w ∷ []) s t) (one_ends w s) λ u t k. done_holds _ t k
    each_ends (w ∷ v ∷ ws) s = record { known = λ _ _ _. tt }

    run_after : (ws : List Wanted) (n : ℕ) (b s : Position) → Ends ws b s → Holds (run (one_term given inner) n s) (λ _ t. After ws n b t)
    unfolding run
    run_after ws zero b s e = done_holds _ s e
    run_after ws (suc n) b s e = record { known = λ _ _ _. tt }

    part_backed : (w : Wanted) (s : Position) → InStep message cap s → Holds (one_term given inner w s) TreeBacked
    unfolding one_term
    part_backed w s i = next Opened (opening_backed s.left w s i) λ o t k. ok o.0 o.1 t k.0 k.1 k.2 k.3

    abbrev Ended : Forest (Label × Offset) × Label → Position → Type 0
    Ended e t = InStep message cap t × Backeds e.0 × ((e.1 ≡ list) ⊎ (e.1 ≡ improper_list))

    tail_backed : (bound : List ℕ) (s : Position) → InStep message cap s → Holds (list_tail given cap d inner bound s) Ended
    unfolding list_tail
    tail_backed [] s i = refused_holds 2 _
    tail_backed (b ∷ bound) s i =
        next Opened (opening_backed s.left any s i) λ o t k. go o.0 o.1 t k.0 k.1 k.2 k.3 (λ t i. tail_backed bound t i)
      where
        go : (p : ℕ) (x : Head) (t : Position) → InStep message cap t → (a : HeadAt p x) → t.at ≡ a.stop.at → OnChars p x
            → ((t : Position) → InStep message cap t → Holds (list_tail given cap d inner bound t) Ended)
            → Holds ((elim x as (λ _. Reading (Forest (Label × Offset) × Label)) [
              | characters cs ↦ λ t. after (string given cap d p (p + 3) cs t) (λ ts. done (ts, list))
              | elements n ↦ λ t. after (run (one_term given inner) n t) (λ ts. λ t. after (list_tail given cap d inner bound t) (λ end. done (ts ▹▹ end.0, end.1)))
              | parts ws n l ↦ λ t. after (inner p (parts ws n l) t) (λ u. done (u ▹ empty, improper_list))
              | pairs n ↦ λ t. after (inner p (pairs n) t) (λ u. done (u ▹ empty, improper_list))
            ]) t) Ended
        go p (characters cs) t i h e c ih = next RunBacked (string_backed d p (p + 3) cs t i c) λ us t k. done_holds _ t (k.0, k.1, inl refl)
        go p (elements n) t i h e c ih =
            next RunBacked (run_backed (one_term given inner) part_backed n t i) λ us t k. next Ended (ih t k.0) λ z t k'.
            done_holds _ t (k'.0, joined us z.0 k.1 k'.1, k'.2)
        go p (parts ws n l) t i h e c ih = next TreeBacked (ok p (parts ws n l) t i h e c) λ u t k. done_holds _ t (k.0, (k.1, tt), inr refl)
        go p (pairs n) t i h e c ih = next TreeBacked (ok p (pairs n) t i h e c) λ u t k. done_holds _ t (k.0, (k.1, tt), inr refl)

    whole_backed : (p : ℕ) (h : Head) (s : Position) → InStep message cap s → (a : HeadAt p h) → s.at ≡ a.stop.at → OnChars p h
        → Holds (contents given cap d inner p h s) TreeBacked
    unfolding contents
    whole_backed p (parts ws n l) s i h e c =
        next (λ us t. RunBacked us t × Ends ws s t) (both RunBacked (λ _ t. Ends ws s t) (each_backed (one_term given inner) part_backed ws s i) (each_ends ws s)) λ us t k.
        next (λ vs u. RunBacked vs u × After ws n s u)
        (both RunBacked (λ _ u. After ws n s u) (run_backed (one_term given inner) part_backed n t k.0.0) (run_after ws n s t k.1)) λ vs t₁ k'.
        next (λ x t. InStep message cap t × (later given.flags p l t₁ ≡ good (x, t))) (keep (λ _ t. InStep message cap t) (later_in_step message cap given.flags p l t₁ k'.0.0)) λ x t₂ z.
        done_holds _ t₂ (z.0, ((parts ws n l, h, s, i, e, (t₁, t₂, k'.0.0, k'.1, z.1)), joined us vs k.0.1 k'.0.1))
    whole_backed p (characters cs) s i h e c =
        next RunBacked (string_backed d p (p + 3) cs s i c) λ us t k. done_holds _ t (k.0, ((characters cs, h, s, i, e, refl), k.1))
    whole_backed p (elements n) s i h e c =
        next RunBacked (run_backed (one_term given inner) part_backed n s i) λ us t k. next Ended (tail_backed t.left t k.0) λ z t k'.
        done_holds _ t (k'.0, ((elements n, h, s, i, e, k'.2), joined us z.0 k.1 k'.1))
    whole_backed p (pairs n) s i h e c =
        next RunBacked (entries_backed (one_term given inner) part_backed [] n s i) λ us t k. done_holds _ t (k.0, ((pairs n, h, s, i, e, refl), k.1))

  body_stays : (d : ℕ) → Stays (body given cap d)
  unfolding body contents each run later
  body_stays zero p l s = refused_holds 8 p
  body_stays (suc d) p l s = next (λ _ t. t.at ≡ s.at) (row_stays p s) λ _ t e. done_holds _ t e

  body_backed : (d : ℕ) → Inner (body given cap d)
  unfolding body
  body_backed zero p h s i a e c = refused_holds 8 p
  body_backed (suc d) p h s i a e c =
      next (λ _ t. InStep message cap t × (t.at ≡ s.at)) (both (λ _ t. InStep message cap t) (λ _ t. t.at ≡ s.at) (row_in_step message cap given p s i) (row_stays p s)) λ _ t k.
      whole_backed d (body given cap d) (body_backed d) (body_stays d) p h t k.0 a (k.1 ∙ e) c

  -- every node of a term that is read is backed by the message
  pub term_backed : (d : ℕ) (w : Wanted) (s : Position) → InStep message cap s → Holds (term given cap d w s) TreeBacked
  term_backed d w s i = part_backed d (body given cap d) (body_backed d) (body_stays d) w s i
