-- Terms whose rows stand in the table and that the message backs are known: what each row says is what the message says, and have the same hash where these are the same.
use mathlib.Core.Path.{◌≡◌, refl, sym, ◌∙◌, ap, ap₂}
use mathlib.Core.Bool.{Bool, true, false, cond}
use mathlib.Core.List.{List, [], ◌∷◌}
use mathlib.Core.Option.{Option, some}
use Prim.Native.Nat.{ℕ, ◌+◌, ◌^◌, ◌≤◌, ◌<◌}
use native.Mathlib.Omega.{arith}
use lib.Dec.{eqb}
use borrow.Author.Tests.{ne_eqb}
use Rattle.term_spec.specs.Tree.{node, empty, ◌▹◌, ◌▹▹◌, size, sizes, depth}
use Rattle.term_spec.specs.Term.{Label, integer, float, atom, tuple, list, improper_list, binary, bitstring, map, pid, port, reference, export}
use Rattle.term_spec.specs.Head.{Given}
use Rattle.term_spec.specs.AtomList.{AtomList, given_of}
use Rattle.term_spec.specs.Reading.{Offset, tag_at, character_at, Located}
use Rattle.term_spec.specs.Message.{Terms}
use Rattle.term_spec.specs.Rows.{Row, tree_rows, rows, word, kind_of, kind_at, TreeHere, RowsHere}
use Rattle.term_spec.proofs.Backed.{LabelAt, Backed, Backeds}
use Rattle.term_spec.proofs.Rows.{rows_join}
use Rattle.term_spec.proofs.Words.{EachRow, each_row_join, SmallRow, WordOf, word_packed, Between, kind_of_range, left_here, right_here, first_here, row_of}
use Rattle.row_fields.specs.Meaning.{term_kind}
use Rattle.term_rows.specs.Rows.{same_fields, same_row}
use Rattle.row_fields.proofs.Says.{Lent}
use Rattle.row_compare.proofs.Alike.{Agree, through, numbers_agree}
use Rattle.row_compare.proofs.Nodes.{contents_agree}
use Rattle.term_rows.proofs.Known.{and_then, own, each_row_split, KnownTree, KnownRows, node_known, depth_within}

each_row_both : (P Q : Row → Type 0) (rs : List Row) → EachRow P rs → EachRow Q rs → EachRow (λ r. P r × Q r) rs
unfolding EachRow
each_row_both P Q [] h g = tt
each_row_both P Q (r ∷ rs) h g = ((h.0, g.0), each_row_both P Q rs h.1 g.1)

module _ (message : List ℕ) (cap : ℕ) (given : Given) where
  -- the message says the row's label at the row's place
  abbrev pub BackedRow : Row → Type 0
  BackedRow r = LabelAt message cap given r.place r.label

  mutual
    unfolding tree_rows EachRow

    backed_tree_rows : (whole : Option ℕ) (n : ℕ) (t : Located) → Backed message cap given t → EachRow BackedRow (tree_rows whole n t)
    backed_tree_rows whole n (node l ts) b = (b.0, backed_rows (some n) (n + 1) ts b.1)

    pub backed_rows : (whole : Option ℕ) (n : ℕ) (ts : Terms) → Backeds message cap given ts → EachRow BackedRow (rows whole n ts)
    backed_rows whole n empty b = tt
    backed_rows whole n (t ▹ ts) b =
        each_row_join BackedRow (tree_rows whole n t) (rows whole (n + size t) ts) (backed_tree_rows whole n t b.0) (backed_rows whole (n + size t) ts b.1)

  -- without the kind of characters a kind is that of the label
  term_kind_of : (l : Label) (p : Offset) → LabelAt message cap given p l → term_kind (kind_at l p) ≡ kind_of l
  unfolding term_kind kind_at kind_of
  term_kind_of l (tag_at p) h = let r : Between 1 13 (kind_of l) = kind_of_range l in rw (ne_eqb (kind_of l) 14 (λ e. omega arith))
  term_kind_of l (character_at p) h = sym (ap kind_of h.1)

  -- the rows of a term, of terms, stand in the table from row n on and are small, and the message backs them
  pub record TermInTable (T : List ℕ) (whole : Option ℕ) (n : ℕ) (t : Located) : Type 0 where
    pub stands : TreeHere T whole n t
    pub small : EachRow SmallRow (tree_rows whole n t)
    pub backed : Backed message cap given t

  pub record RowsInTable (T : List ℕ) (whole : Option ℕ) (n : ℕ) (ts : Terms) : Type 0 where
    pub stand : RowsHere T whole n ts
    pub all_small : EachRow SmallRow (rows whole n ts)
    pub all_backed : Backeds message cap given ts

  backed_left : (ts us : Terms) → Backeds message cap given (ts ▹▹ us) → Backeds message cap given ts
  backed_left empty us b = tt
  backed_left (t ▹ ts) us b = (b.0, backed_left ts us b.1)

  backed_right : (ts us : Terms) → Backeds message cap given (ts ▹▹ us) → Backeds message cap given us
  backed_right empty us b = b
  backed_right (t ▹ ts) us b = backed_right ts us b.1

  -- a run of terms after another
  module _ {T : List ℕ} {whole : Option ℕ} {n : ℕ} (ts us : Terms) (h : RowsInTable T whole n (ts ▹▹ us)) where
    small_both : EachRow SmallRow (rows whole n ts) × EachRow SmallRow (rows whole (n + sizes ts) us)
    small_both = each_row_split SmallRow (rows whole n ts) (rows whole (n + sizes ts) us) (rw rows_join at h.all_small)

    pub held_left : RowsInTable T whole n ts
    held_left = record { stand = left_here ts us h.stand; all_small = small_both.0; all_backed = backed_left ts us h.all_backed }

    pub held_right : RowsInTable T whole (n + sizes ts) us
    held_right = record { stand = right_here ts us h.stand; all_small = small_both.1; all_backed = backed_right ts us h.all_backed }

  pub held_first : {T : List ℕ} {whole : Option ℕ} {n : ℕ} (t : Located) (ts : Terms) → RowsInTable T whole n (t ▹ ts) → TermInTable T whole n t
  unfolding rows
  held_first {T} {whole} {n} t ts h =
      record {
        stands = first_here h.stand;
        small = (each_row_split SmallRow (tree_rows whole n t) (rows whole (n + size t) ts) h.all_small).0;
        backed = h.all_backed.0;
      }

of_nine : (l : Label) → term_kind 9 ≡ kind_of l → l ≡ map
unfolding kind_of term_kind
of_nine (integer z) e = absurd (omega arith)
of_nine (float b) e = absurd (omega arith)
of_nine (atom cs) e = absurd (omega arith)
of_nine tuple e = absurd (omega arith)
of_nine list e = absurd (omega arith)
of_nine improper_list e = absurd (omega arith)
of_nine (binary bs) e = absurd (omega arith)
of_nine (bitstring n bs) e = absurd (omega arith)
of_nine map e = refl
of_nine (pid i s c) e = absurd (omega arith)
of_nine (port i c) e = absurd (omega arith)
of_nine (reference c ws) e = absurd (omega arith)
of_nine export e = absurd (omega arith)

nine_of : (k : ℕ) → term_kind k ≡ kind_of map → k ≡ 9
unfolding term_kind kind_of
nine_of k e = go (eqb k 14) e
  where
    go : (t : Bool) → cond t 1 k ≡ 9 → k ≡ 9
    go true f = absurd (omega arith)
    go false f = f

module _ (flags : ℕ) (list : AtomList) (message : List ℕ) (lent : Lent list message) (cap : ℕ) where
  -- what reading is given, of the flags and the list
  abbrev pub given : Given
  given = given_of flags list

  abbrev pub Known : Row → Type 0
  Known r = SmallRow r × BackedRow message cap given r

  pub row_agrees : (r q : Row) → Known r → Known q → Agree (same_row message list.places list.lengths (word r) (word q)) (own r ≡ own q)
  unfolding same_row same_fields
  row_agrees r q k m =
      let v : WordOf r (word r) = word_packed r k.0 in
      let w : WordOf q (word q) = word_packed q m.0 in
      let x : term_kind (kind_at r.label r.place) ≡ kind_of r.label = term_kind_of message cap given r.label r.place k.1 in
      let y : term_kind (kind_at q.label q.place) ≡ kind_of q.label = term_kind_of message cap given q.label q.place m.1 in
      rw (v.kind_is, w.kind_is, v.offset_is, w.offset_is, v.parts_is, w.parts_is, x, y)
      (one (kind_of r.label) (kind_of q.label) r.parts q.parts _ (ap kind_of)
      (λ e. contents_agree flags list message lent cap r.label q.label r.place q.place k.1 m.1 (x ∙ e ∙ sym y)))
    where
      one : (i j n n' : ℕ) (c : Bool) → (r.label ≡ q.label → i ≡ j) → (i ≡ j → Agree c (r.label ≡ q.label))
          → Agree (cond (eqb i j) (cond (eqb n n') c false) false) (◌≡◌ {A = Label × ℕ} (r.label, n) (q.label, n'))
      one i j n n' c f g =
          through
          (λ z. ap₂ (λ (a : Label) (b : ℕ). (a, b)) z.1.1 z.1.0)
          (λ e. let a : r.label ≡ q.label = ap (λ (x : Label × ℕ). x.0) e in (f a, (ap (λ (x : Label × ℕ). x.1) e, a)))
          (and_then (eqb i j) _ (numbers_agree i j) (λ e. and_then (eqb n n') c (numbers_agree n n') (λ _. g e)))

  -- a row's kind is a map's exactly where its label is
  pub map_agrees : (r : Row) → Known r → Agree (eqb (kind_at r.label r.place) 9) (r.label ≡ map)
  map_agrees r k =
      let e : term_kind (kind_at r.label r.place) ≡ kind_of r.label = term_kind_of message cap given r.label r.place k.1 in
      through (λ f. of_nine r.label (ap term_kind (sym f) ∙ e)) (λ f. nine_of (kind_at r.label r.place) (e ∙ ap kind_of f)) (numbers_agree (kind_at r.label r.place) 9)

  module _ (T : List ℕ) where
    pub known_tree : {whole : Option ℕ} {n : ℕ} (t : Located) → TermInTable message cap given T whole n t → KnownTree Known T whole n t
    known_tree {whole} {n} t h =
        record { stands = h.stands; known = each_row_both SmallRow (BackedRow message cap given) (tree_rows whole n t) h.small (backed_tree_rows message cap given whole n t h.backed) }

    pub known_rows : {whole : Option ℕ} {n : ℕ} (ts : Terms) → RowsInTable message cap given T whole n ts → KnownRows Known T whole n ts
    known_rows {whole} {n} ts h =
        record { stand = h.stand; all_known = each_row_both SmallRow (BackedRow message cap given) (rows whole n ts) h.all_small (backed_rows message cap given whole n ts h.all_backed) }

    -- fewer levels than rows
    pub few_levels : {whole : Option ℕ} {n : ℕ} (t : Located) → KnownTree Known T whole n t → depth t ≤ 16384
    few_levels {whole} (node l ts) k =
        let r : Row = row_of whole l ts in
        let less : r.size < 2 ^ 14 = (node_known k).0.small_size in
        omega (arith, depth_within (node l ts))
