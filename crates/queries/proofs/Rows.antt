-- What the calls find in the table of an accepted message is what its rows say.
use mathlib.Core.Path.{◌≡◌, refl, sym, ap, ap₂, ◌∙◌, subst}
use mathlib.Core.Bool.{Bool, true, false, ◌||◌, cond}
use mathlib.Core.List.{List, [], ◌∷◌, ◌++◌}
use mathlib.Core.Option.{Option, some}
use mathlib.Core.Option as option
use Prim.Native.Nat.{ℕ, zero, suc, ◌+◌, ◌^◌, ◌<◌, ◌≤◌, min}
use native.Mathlib.Omega.{arith}
use lib.Dec.{eqb, leb}
use lib.ListN.{length, get_or, take}
use borrow.Author.Tests.{leb-true, leb-false, eqb-true}
use Rattle.std.specs.List.{list_any}
use Rattle.std.specs.Prelude.{Ok, Err}
use Rattle.term_spec.specs.Tree.{Forest, node, empty, ◌▹◌, size, sizes}
use Rattle.term_spec.specs.Term.{Label, integer, float, atom, tuple, list, improper_list, binary, bitstring, map, pid, port, reference, export}
use Rattle.term_spec.specs.Answer.{good, refused}
use Rattle.term_spec.specs.Answers.{read_answer, number_case}
use Rattle.term_spec.specs.Head.{finite}
use Rattle.term_spec.specs.AtomList.{AtomList, given_of}
use Rattle.term_spec.specs.Reading.{Offset, tag_at, character_at, Located, as_read}
use Rattle.term_spec.specs.Message.{Terms, all_as_read}
use Rattle.term_spec.specs.Rows.{Row, tree_rows, rows, kind_of, kind_at, offset_of, kind_in, offset_in, word, row_words, table_after, Here}
use Rattle.term_spec.specs.Look.{float_bits, neither, number_of, number_at, atom_at, text_of, atom_text}
use Rattle.term_spec.specs.declared.RowNumber.TheVariants as numbers
use Rattle.term_spec.specs.Numbers.{Under}
use Rattle.term_spec.specs.Valid.{Fits, Valid, Valids}
use Rattle.term_spec.proofs.Rows.{length_rows}
use Rattle.term_spec.proofs.Words.{EachRow, each_row_join, each_row_at, SmallRow, WordOf, word_packed, tag_of_kind, kind_of_tag, table_row}
use Rattle.term_spec.proofs.Backed.{LabelAt}
use Rattle.term_spec.proofs.Message.{AcceptedMessage, allowed_valid}
use Rattle.row_fields.specs.declared.Content.{Content}
use Rattle.row_fields.specs.Found.{content_of}
use Rattle.row_fields.proofs.Says.{Lent, Says}
use Rattle.row_fields.proofs.Again.{content_says}
use Rattle.term_rows.proofs.InTable.{RowsInTable, BackedRow, backed_rows}
use Rattle.term_rows.proofs.Accepted.{held_rows}
use Rattle.queries.specs.Code.{content_number, numbered, atom_row, atom_among, text_said, located}
use Rattle.queries.specs.Promises.{TextAnswer, text_at, TextInside}
use Rattle.queries.proofs.Numbers.{content_is, float_label}
use Rattle.queries.proofs.Texts.{atom_tag, content_stands, said_inside}

-- ---- floats of valid terms

-- a float's bits are 64, its exponent finite
abbrev BitsFit : Label → Type 0
BitsFit l = (bits : ℕ) → l ≡ float bits → (bits < 2 ^ 64) × (finite bits ≡ true)

bits_fit : (flags : ℕ) (l : Label) (ts : Forest Label) → Fits flags l ts → BitsFit l
bits_fit flags l ts h bits e = let g : Fits flags (float bits) ts = subst (λ (x : Label). Fits flags x ts) e h in (g.1, g.2)

mutual
  unfolding tree_rows EachRow

  fit_tree_rows : (flags : ℕ) (whole : Option ℕ) (n : ℕ) (t : Located) → Valid flags (as_read t) → EachRow (λ r. BitsFit r.label) (tree_rows whole n t)
  fit_tree_rows flags whole n (node l ts) v = (bits_fit flags l.0 (all_as_read ts) v.0, fit_rows flags (some n) (n + 1) ts v.1)

  fit_rows : (flags : ℕ) (whole : Option ℕ) (n : ℕ) (ts : Terms) → Valids flags (all_as_read ts) → EachRow (λ r. BitsFit r.label) (rows whole n ts)
  fit_rows flags whole n empty v = tt
  fit_rows flags whole n (t ▹ ts) v =
      each_row_join (λ r. BitsFit r.label) (tree_rows whole n t) (rows whole (n + size t) ts) (fit_tree_rows flags whole n t v.0) (fit_rows flags whole (n + size t) ts v.1)

-- ---- a row's number

number_past : (i : ℕ) (rs : List Row) → length rs ≤ i → number_at i rs ≡ neither
unfolding number_at
number_past i [] h = refl
number_past zero (r ∷ rs) h = absurd (omega arith)
number_past (suc i) (r ∷ rs) h = number_past i rs (omega arith)

number_within : (i : ℕ) (rs : List Row) (d : Row) → i < length rs → number_at i rs ≡ number_of (get_or rs i d).label
unfolding number_at
number_within i [] d h = absurd (omega arith)
number_within zero (r ∷ rs) d h = refl
number_within (suc i) (r ∷ rs) d h = number_within i rs d (omega arith)

no_row : Row
no_row = record { label = tuple; place = tag_at 0; whole = option.none; parts = 0; size = 0 }

-- the bits of a float that a row of valid terms answers
pub bits_answered : (flags : ℕ) (ts : Terms) → Valids flags (all_as_read ts) → (i bits : ℕ) → number_at i (rows option.none 0 ts) ≡ float_bits bits → (bits < 2 ^ 64) × (finite bits ≡ true)
bits_answered flags ts v i bits e = go (leb (sizes ts) i) refl
  where
    go : (t : Bool) → leb (sizes ts) i ≡ t → (bits < 2 ^ 64) × (finite bits ≡ true)
    go true f =
        let h : length (rows option.none 0 ts) ≤ i = rw (length_rows option.none 0 ts) (leb-true (sizes ts) i f) in
        let p : neither ≡ float_bits bits = sym (number_past i (rows option.none 0 ts) h) ∙ e in
        let no_way : ◌≡◌ {A = ℕ} 0 1 = cc in absurd (omega arith)
    go false f =
        let all : List Row = rows option.none 0 ts in
        let k : i < length all = rw (length_rows option.none 0 ts) (leb-false (sizes ts) i f) in
        let fit : BitsFit (get_or all i no_row).label = each_row_at (λ q. BitsFit q.label) all i no_row k (fit_rows flags option.none 0 ts v) in
        fit bits (float_label (get_or all i no_row).label bits (sym (number_within i all no_row k) ∙ e))

-- ---- rows of atoms

kind_atom : (l : Label) → kind_of l ≡ 3 → (cs : List ℕ) × (l ≡ atom cs)
unfolding kind_of
kind_atom (integer z) e = absurd (omega arith)
kind_atom (float bits) e = absurd (omega arith)
kind_atom (atom cs) e = (cs, refl)
kind_atom tuple e = absurd (omega arith)
kind_atom list e = absurd (omega arith)
kind_atom improper_list e = absurd (omega arith)
kind_atom (binary bs) e = absurd (omega arith)
kind_atom (bitstring n bs) e = absurd (omega arith)
kind_atom map e = absurd (omega arith)
kind_atom (pid i s c) e = absurd (omega arith)
kind_atom (port i c) e = absurd (omega arith)
kind_atom (reference c ws) e = absurd (omega arith)
kind_atom export e = absurd (omega arith)

module _ (at : ℕ) where
  abbrev test : Label → Offset → Bool
  test l p = cond (eqb (kind_at l p) 3) (eqb (offset_of p) at) false

  first_row : (l : Label) (p : Offset) (whole : Option ℕ) (n k : ℕ) (rs : List Row)
      → atom_at at (record { label = l; place = p; whole = whole; parts = n; size = k } ∷ rs) ≡ (test l p || atom_at at rs)
  unfolding atom_at kind_at kind_of offset_of
  first_row (atom cs) (tag_at q) whole n k rs = refl
  first_row (integer z) (tag_at q) whole n k rs = refl
  first_row (float bits) (tag_at q) whole n k rs = refl
  first_row tuple (tag_at q) whole n k rs = refl
  first_row list (tag_at q) whole n k rs = refl
  first_row improper_list (tag_at q) whole n k rs = refl
  first_row (binary bs) (tag_at q) whole n k rs = refl
  first_row (bitstring b bs) (tag_at q) whole n k rs = refl
  first_row map (tag_at q) whole n k rs = refl
  first_row (pid i s c) (tag_at q) whole n k rs = refl
  first_row (port i c) (tag_at q) whole n k rs = refl
  first_row (reference c ws) (tag_at q) whole n k rs = refl
  first_row export (tag_at q) whole n k rs = refl
  first_row (integer z) (character_at q) whole n k rs = refl
  first_row (float bits) (character_at q) whole n k rs = refl
  first_row (atom cs) (character_at q) whole n k rs = refl
  first_row tuple (character_at q) whole n k rs = refl
  first_row list (character_at q) whole n k rs = refl
  first_row improper_list (character_at q) whole n k rs = refl
  first_row (binary bs) (character_at q) whole n k rs = refl
  first_row (bitstring b bs) (character_at q) whole n k rs = refl
  first_row map (character_at q) whole n k rs = refl
  first_row (pid i s c) (character_at q) whole n k rs = refl
  first_row (port i c) (character_at q) whole n k rs = refl
  first_row (reference c ws) (character_at q) whole n k rs = refl
  first_row export (character_at q) whole n k rs = refl

  -- the table's words say whether an atom's row is there
  among_words : (rs : List Row) (after : List ℕ) → EachRow SmallRow rs → list_any (λ w. atom_row w at) (take (length rs) (row_words rs ++ after)) ≡ atom_at at rs
  unfolding atom_row row_words EachRow atom_at
  among_words [] after s = refl
  among_words (r ∷ rs) after s =
      let w : WordOf r (word r) = word_packed r s.0 in
      rw (w.kind_is, w.offset_is, among_words rs after s.1) (sym (first_row r.label r.place r.whole r.parts r.size rs))

  among_is : (T : List ℕ) (rs : List Row) → Here T 0 (row_words rs) → EachRow SmallRow rs → atom_among T (length rs) at ≡ atom_at at rs
  unfolding atom_among
  among_is T rs h s = rw h.stands (among_words rs h.after s)

  module _ (P : Offset → Label → Type 0) where
    -- where one is, it is backed as each row is
    atom_backed : (rs : List Row) → EachRow (λ r. P r.place r.label) rs → atom_at at rs ≡ true → (cs : List ℕ) × P (tag_at at) (atom cs)
    unfolding EachRow atom_at
    atom_backed [] h e = let no_way : ◌≡◌ {A = ℕ} 0 1 = cc in absurd (omega arith)
    atom_backed (r ∷ rs) h e =
        by_kind (eqb (kind_at r.label r.place) 3) refl (eqb (offset_of r.place) at) refl (sym (first_row r.label r.place r.whole r.parts r.size rs) ∙ e)
        (λ k. atom_backed rs h.1 k)
      where
        by_kind : (t : Bool) → eqb (kind_at r.label r.place) 3 ≡ t → (u : Bool) → eqb (offset_of r.place) at ≡ u → (cond t u false || atom_at at rs) ≡ true
            → (atom_at at rs ≡ true → (cs : List ℕ) × P (tag_at at) (atom cs)) → (cs : List ℕ) × P (tag_at at) (atom cs)
        by_kind true f true g k ih =
            let three : kind_at r.label r.place ≡ 3 = eqb-true _ _ f in
            let tag : r.place ≡ tag_at (offset_of r.place) = tag_of_kind r.label r.place (λ z. omega arith) in
            let place : r.place ≡ tag_at at = tag ∙ ap tag_at (eqb-true _ _ g) in
            let a = kind_atom r.label (sym (kind_of_tag r.label at) ∙ ap (kind_at r.label) (sym place) ∙ three) in
            (a.0, subst (P (tag_at at)) a.1 (subst (λ (q : Offset). P q r.label) place h.0))
        by_kind true f false g k ih = ih k
        by_kind false f u g k ih = ih k

-- ---- over a message that is accepted with `most` rows lent

module _ (flags : ℕ) (list : AtomList) (m : List ℕ) (ts : Terms) (few : list.n ≤ 255) (under : Under 256 m) (most : ℕ) (a : AcceptedMessage flags list most m ts) where
  lent : Lent list m
  lent = record { sized = a.sized; few = few; under = under }

  abbrev all : List Row
  all = rows option.none 0 ts

  abbrev T : List ℕ
  T = table_after most (good ts)

  held : RowsInTable m (min 8192 most) (given_of flags list) T option.none 0 ts
  held = held_rows flags list most m ts a

  all_backed : EachRow (BackedRow m (min 8192 most) (given_of flags list)) all
  all_backed = backed_rows m (min 8192 most) (given_of flags list) option.none 0 ts held.all_backed

  abbrev found_at : ℕ → Content
  found_at w = content_of m list.places list.lengths (kind_in w) (offset_in w)

  -- the number of a row
  row_says : (i : ℕ) → i < sizes ts → number_at i all ≡ content_number (found_at (get_or T i 0))
  unfolding given_of
  row_says i h =
      let d : Row = no_row in
      let r : Row = get_or all i d in
      let k : i < length all = rw (length_rows option.none 0 ts) h in
      let small : SmallRow r = each_row_at SmallRow all i d k held.all_small in
      let backed : BackedRow m (min 8192 most) (given_of flags list) r = each_row_at (BackedRow m (min 8192 most) (given_of flags list)) all i d k all_backed in
      let fit : BitsFit r.label = each_row_at (λ q. BitsFit q.label) all i d k (fit_rows flags option.none 0 ts (allowed_valid flags (all_as_read ts) a.known.all_allowed)) in
      let w : WordOf r (word r) = word_packed r small in
      let kind : ℕ = kind_at r.label r.place in
      let c : Content = content_of m list.places list.lengths kind (offset_of r.place) in
      let says : Says list m kind (offset_of r.place) r.label = content_says flags list m lent (min 8192 most) r.label r.place backed in
      let same : found_at (get_or T i 0) ≡ c = ap found_at (table_row most ts i d h) ∙ ap₂ (content_of m list.places list.lengths) w.kind_is w.offset_is in
      number_within i all d k
      ∙ ap number_of (sym says.means)
      ∙ content_is list m kind c says.sound (λ bits e. (fit bits (sym says.means ∙ e)).1)
      ∙ ap content_number (sym same)

  pub numbers_are : (i : ℕ) → numbered m list.places list.lengths T (read_answer (good ts)) i ≡ Ok (number_case (number_at i all))
  unfolding read_answer numbered number_case
  numbers_are i = ap Ok (go (leb (sizes ts) i) refl)
    where
      go : (t : Bool) → leb (sizes ts) i ≡ t → cond t numbers.Neither (number_case (content_number (found_at (get_or T i 0)))) ≡ number_case (number_at i all)
      go true e =
          let h : length all ≤ i = rw (length_rows option.none 0 ts) (leb-true (sizes ts) i e) in
          sym (ap number_case (number_past i all h))
      go false e = sym (ap number_case (row_says i (leb-false (sizes ts) i e)))

  -- where the text of an atom stands
  abbrev said : ℕ → TextAnswer
  said at = text_said at (content_of m list.places list.lengths 3 at)

  atom_says : (at : ℕ) → atom_at at all ≡ true → (said at ≡ text_at (good (text_of m list at))) × TextInside m list.places (said at)
  unfolding text_at kind_at offset_of kind_of
  atom_says at e =
      let b = atom_backed at (λ p l. LabelAt m (min 8192 most) (given_of flags list) p l) all all_backed e in
      let s : Says list m 3 at (atom b.0) = content_says flags list m lent (min 8192 most) (atom b.0) (tag_at at) b.1 in
      let t = atom_tag flags list m (min 8192 most) (atom b.0) at b.1 refl in
      (content_stands list m b.0 at t.0 t.1 s.means, said_inside m list.places at _ s.sound)

  pub texts_are : (at : ℕ) → (located m list.places list.lengths T (read_answer (good ts)) at ≡ text_at (atom_text m list at (good ts)))
      × TextInside m list.places (located m list.places list.lengths T (read_answer (good ts)) at)
  unfolding read_answer located atom_text text_at TextInside
  texts_are at =
      let e : atom_among T (sizes ts) at ≡ atom_at at all
      = ap (λ (n : ℕ). atom_among T n at) (sym (length_rows option.none 0 ts)) ∙ among_is at T all held.stand.words held.all_small in
      rw e (go (atom_at at all) refl)
    where
      go : (t : Bool) → atom_at at all ≡ t
          → (cond t (said at) (Err (record { number = 4; place = at })) ≡ text_at (cond t (good (text_of m list at)) (refused 4 at)))
          × TextInside m list.places (cond t (said at) (Err (record { number = 4; place = at })))
      go true e = atom_says at e
      go false e = (refl, tt)
