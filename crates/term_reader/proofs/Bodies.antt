-- A term after its head: one law for each way through `read_term`, `read_body`, `read_inner` and `read_parts`.
use mathlib.Core.Path.{◌≡◌, sym, ap, ap₂, ◌∙◌}
use mathlib.Core.Bool.{Bool, true, false}
use mathlib.Core.List.{List, []}
use mathlib.Core.Option.{some}
use Prim.Native.Nat.{ℕ, suc, ◌+◌, ◌-◌, ◌≤◌, ◌<◌}
use native.Mathlib.Omega.{arith}
use native.Mathlib.Numerals.{add-one}
use lib.Dec.{ltb}
use lib.ListN.{length, set, drop}
use borrow.Author.Tests.{ltb-true, ltb-false}
use lib.Seq.{sets}
use Rattle.term_spec.specs.Tree.{node, count, sizes, EachNode}
use Rattle.term_spec.specs.Term.{Label}
use Rattle.term_spec.specs.Answer.{Answer, Position, at_offset, after, done}
use Rattle.term_spec.specs.Head.{Given, Wanted, Head, parts, characters, elements, pairs, later}
use Rattle.term_spec.specs.AtomList.{AtomList}
use Rattle.term_spec.specs.Reading.{tag_at, each, run, entries, string, list_tail, one_term, opening, row, contents, body, term}
use Rattle.term_spec.specs.Message.{Terms}
use Rattle.term_spec.specs.Rows.{tree_rows, rows, kind_of, kind_at, offset_of, whole_code, pack, SmallFields, word, row_words}
use Rattle.term_spec.proofs.Rows.{count_le_sizes}
use Rattle.term_spec.proofs.Words.{Between, kind_of_range}
use Rattle.octets.proofs.Stores.{set_before}
use Rattle.term_head.specs.declared.Head as code
use Rattle.term_head.specs.Code.{head_at, opening_of}
use Rattle.std.specs.Prelude.{Err}
use Rattle.term_spec.specs.declared.Refusal.{Refusal}
use Rattle.term_head.specs.Code.{refusal}
use Rattle.term_reader.specs.Code.{Step, PartsStep, got, got_parts}
use Rattle.term_reader.specs.Code.{whole_of, Room, SoundHead, inner, Done, TermDone, PartsDone}
use Rattle.term_reader.proofs.Characters.{code_of_whole, row_free, row_none}
use Rattle.term_reader.proofs.Found.{PartsFound, parts_found, parts_refused}
use Rattle.term_reader.proofs.Openings.{OpenedAt, opened_refused}
use Rattle.term_reader.proofs.Runs.{after_same, after_after}

-- ---- `read_term`

module _ (given : Given) (cap left : ℕ) (w : Wanted) (m : List ℕ) (at row whole : ℕ) (T U : List ℕ) where
  pub term_refused : (x : Refusal) → ((rows : ℕ) → Err x ≡ opening_of (opening given (drop at m) w (at_offset m at rows)))
      → TermDone m cap row whole T (term given cap left w (at_offset m at row)) (Err x) U
  unfolding one_term Done
  term_refused x e = rw (opened_refused given m at row w x e)

  pub term_opened : {place : ℕ} {head : code.Head} (o : OpenedAt given m at row w place head) (r : Step)
      → ((h : Head) (next : ℕ) → head ≡ head_at h next → SoundHead m place next h → TermDone m cap row whole T (body given cap left place h (at_offset m next row)) r U)
      → TermDone m cap row whole T (term given cap left w (at_offset m at row)) r U
  unfolding one_term
  term_opened o r d = rw o.is (d o.h o.next o.head_is o.sound)

-- ---- `read_body`

-- what the test for a row says
module _ {there : Bool} {row cap : ℕ} (e : there ≡ ltb row cap) where
  pub no_row : there ≡ false → cap ≤ row
  no_row f = ltb-false row cap (sym e ∙ f)

  pub some_row : there ≡ true → row < cap
  some_row f = ltb-true row cap (sym e ∙ f)

-- a term is made of its parts and its label
whole_inner : (given : Given) (cap d p : ℕ) (h : Head) (s : Position)
    → contents given cap d (body given cap d) p h s ≡ after (inner given cap d p h s) (λ e. done (node (e.1, tag_at p) e.0))
unfolding contents inner
whole_inner given cap d p (parts ws n l) s =
    sym (after_after (each (term given cap d) ws s) _ _
    ∙ after_same (each (term given cap d) ws s) _ _ (λ ts u. after_after (run (term given cap d) n u) _ _
    ∙ after_same (run (term given cap d) n u) _ _ (λ us v. after_after (later given.flags p l v) _ _)))
whole_inner given cap d p (characters cs) s = sym (after_after (string given cap d p (p + 3) cs s) _ _)
whole_inner given cap d p (elements n) s =
    sym (after_after (run (term given cap d) n s) _ _
    ∙ after_same (run (term given cap d) n s) _ _ (λ ts u. after_after (list_tail given cap d (body given cap d) u.left u) _ _))
whole_inner given cap d p (pairs n) s = sym (after_after (entries (term given cap d) [] n s) _ _)

module _ (given : Given) (cap left : ℕ) (m : List ℕ) (place : ℕ) (h : Head) (next row whole : ℕ) (T : List ℕ) where
  pub body_deep : (U : List ℕ) → left ≡ 0 → TermDone m cap row whole T (body given cap left place h (at_offset m next row)) (refusal 8 place) U
  unfolding body Done
  body_deep U e = rw e

  module _ (some_left : left ≡ 0 → ⊥) where
    body_at : (s : Position) → body given cap left place h s ≡ body given cap (suc (left - 1)) place h s
    body_at s = let e : left ≡ suc (left - 1) = omega arith in ap (λ (d : ℕ). body given cap d place h s) e

    pub body_full : (U : List ℕ) → cap ≤ row → TermDone m cap row whole T (body given cap left place h (at_offset m next row)) (refusal 9 place) U
    unfolding body Done
    body_full U full = rw (body_at (at_offset m next row), row_none given cap place next (drop next m) row full)

    body_inner : row < cap → body given cap left place h (at_offset m next row)
        ≡ after (inner given cap (left - 1) place h (at_offset m next (row + 1))) (λ e. done (node (e.1, tag_at place) e.0))
    unfolding body
    body_inner low =
        body_at (at_offset m next row)
        ∙ rw (row_free given cap place next (drop next m) row low) (whole_inner given cap (left - 1) place h (at_offset m next (row + 1)))

    module _ (low : row < cap) (r : PartsStep) (T' : List ℕ)
        (d : PartsDone m 0 cap (row + 1) (row + 1) T (inner given cap (left - 1) place h (at_offset m next (row + 1))) r T') where
      pub body_refused : (x : Refusal) (U : List ℕ) → r ≡ Err x → TermDone m cap row whole T (body given cap left place h (at_offset m next row)) (Err x) U
      unfolding Done
      body_refused x U e = rw (body_inner low, parts_refused m 0 cap (row + 1) (row + 1) T (inner given cap (left - 1) place h (at_offset m next (row + 1))) r T' x e d)

      pub body_got : (end rows' n kind v : ℕ) → r ≡ got_parts end rows' n kind → place < 65536 → v ≡ pack kind place whole n (rows' - row)
          → TermDone m cap row whole T (body given cap left place h (at_offset m next row)) (got end rows') (set T' row v)
      unfolding Done tree_rows row_words word kind_at offset_of whole_of EachNode
      body_got end rows' n kind v e near is =
          let f : PartsFound m 0 cap (row + 1) (row + 1) T (inner given cap (left - 1) place h (at_offset m next (row + 1))) end rows' n kind T'
          = parts_found m 0 cap (row + 1) (row + 1) T (inner given cap (left - 1) place h (at_offset m next (row + 1))) r T' end rows' n kind e d in
          let ts : Terms = f.are.x.0 in
          let a : rows' ≡ row + suc (sizes ts) = omega (arith, f.are.rows_are) in
          let b : rows' - row ≡ suc (sizes ts) = omega arith in
          let g : n ≡ count ts = omega (arith, f.many) in
          let w : whole_of (row + 1) ≡ some row = rw (add-one row) in
          let ws : List ℕ = row_words (rows (some row) (row + 1) ts) in
          let i : v ≡ pack (kind_of f.are.x.1) place (whole_code (whole_of whole)) (count ts) (suc (sizes ts))
          = cc (code_of_whole whole, f.kind_is) in
          let t : T' ≡ sets T (row + 1) ws = f.are.table_is ∙ rw w in
          rw (body_inner low, f.are.is) (
            ap (got end) a,
            record {
              table_is = ap₂ (λ (l : List ℕ) (x : ℕ). set l row x) t i ∙ set_before T row _ ws;
              stands = ap (λ (k : ℕ). at_offset m end k) a;
              near = f.are.near;
              room = omega (arith, f.are.room);
              from = (near, f.are.from);
            },
          )

      -- the row's fields are within their bits
      pub body_small : (list : AtomList) (at end rows' n kind : ℕ) → r ≡ got_parts end rows' n kind → Room m list T cap at row whole → place < 65536
          → SmallFields kind place whole n (rows' - row)
      body_small list at end rows' n kind e room near =
          let f : PartsFound m 0 cap (row + 1) (row + 1) T (inner given cap (left - 1) place h (at_offset m next (row + 1))) end rows' n kind T'
          = parts_found m 0 cap (row + 1) (row + 1) T (inner given cap (left - 1) place h (at_offset m next (row + 1))) r T' end rows' n kind e d in
          let ts : Terms = f.are.x.0 in
          let c : count ts ≤ sizes ts = count_le_sizes ts in
          let k : Between 1 13 (kind_of f.are.x.1) = kind_of_range f.are.x.1 in
          let a : rows' ≡ row + 1 + sizes ts = f.are.rows_are in
          let g : n ≡ 0 + count ts = f.many in
          let z : kind ≡ kind_of f.are.x.1 = f.kind_is in
          let b : rows' ≤ cap = f.are.room in
          record { small_kind = omega arith; small_offset = omega arith; small_whole = omega arith; small_parts = omega arith; small_size = omega arith }

-- the number of rows past the parts
pub parts_past : (m : List ℕ) (before cap row whole : ℕ) (T : List ℕ) (o : Answer ((Terms × Label) × Position)) (r : PartsStep) (T' : List ℕ) (next end n kind : ℕ) → r ≡ got_parts next end n kind
    → PartsDone m before cap row whole T o r T' → row ≤ end
parts_past m before cap row whole T o r T' next end n kind e d =
    let f = parts_found m before cap row whole T o r T' next end n kind e d in omega (arith, f.are.rows_are)

-- the row that may be taken stands in the table
pub own_row : (m : List ℕ) (list : AtomList) (T : List ℕ) (cap at row whole : ℕ) → Room m list T cap at row whole → row < cap → row < length T
own_row m list T cap at row whole room less = let wide : cap ≤ length T = room.wide in omega arith

-- the room for the parts of a term
pub room_inside : (m : List ℕ) (list : AtomList) (T : List ℕ) (cap at row whole : ℕ) → Room m list T cap at row whole → row < cap → Room m list T cap at (row + 1) (row + 1)
room_inside m list T cap at row whole room low =
    record {
      sized = room.sized;
      short = room.short;
      near = room.near;
      few = room.few;
      wide = room.wide;
      low = omega arith;
      inside = omega arith;
      bytes = room.bytes;
      listed = room.listed;
    }

-- the room at another offset of the message
pub room_at : (m : List ℕ) (list : AtomList) (T : List ℕ) (cap at row whole next : ℕ) → Room m list T cap at row whole → next ≤ length m → Room m list T cap next row whole
room_at m list T cap at row whole next room near =
    record {
      sized = room.sized;
      short = room.short;
      near = near;
      few = room.few;
      wide = room.wide;
      low = room.low;
      inside = room.inside;
      bytes = room.bytes;
      listed = room.listed;
    }
