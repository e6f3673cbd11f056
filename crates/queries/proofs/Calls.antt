-- From reading to the answers of the calls, in both framings.
use mathlib.Core.Path.{◌≡◌, refl, sym, ap, ap₂, ◌∙◌, subst}
use mathlib.Core.Bool.{Bool, true, false, cond}
use mathlib.Core.List.{List}
use mathlib.Core.Option as option
use Prim.Native.Nat.{ℕ, ◌+◌, ◌*◌, ◌^◌, ◌<◌, ◌≤◌}
use native.Mathlib.Omega.{arith}
use lib.Dec.{eqb, leb}
use lib.Ieee.{binary64, of_bits, to_bits}
use lib.ListN.{length, get_or, take, drop}
use borrow.Author.Tests.{leb-true, leb-false}
use Rattle.std.specs.Prelude.{Ok, Err}
use Rattle.std.specs.Result.{MatchResult, IsOkAnd}
use Rattle.term_spec.specs.Numbers.{big_endian, Under}
use Rattle.term_spec.specs.Text.{Coding, latin_1, utf_8}
use Rattle.term_spec.specs.Answer.{Answer, good, refused}
use Rattle.term_spec.specs.Answers.{ReadAnswer, NumberAnswer, MarkAnswer, read_answer, number_answer, mark_case, mark_answer}
use Rattle.term_spec.specs.AtomList.{AtomList, place_length, given_of}
use Rattle.term_spec.specs.Message.{Framing, Terms, all_as_read, read}
use Rattle.term_spec.specs.Rows.{rows, table_after}
use Rattle.term_spec.specs.Look.{float_bits, number_at, row_number, number_in, atom_at, Stretch, of_message, of_list, text_of, atom_text, text_in, text_bytes, stretch_bytes}
use Rattle.term_spec.specs.declared.Mark.{Mark}
use Rattle.term_spec.proofs.Capacity.{row_for_each_byte}
use Rattle.term_spec.proofs.Message.{accepted_message, allowed_valid}
use Rattle.queries.specs.Code.{Asked, numbered, located, mark_at, bytes_at}
use Rattle.queries.specs.Promises.{TextAnswer, is_latin1, stretch_at, text_at, TextInside, LocateCall}
use Rattle.queries.proofs.Numbers.{float_exact}
use Rattle.queries.proofs.Rows.{bits_answered, numbers_are, texts_are}

-- with a table of a row for each byte of the message, or of 8,192 rows, which reads it as one of 8,192 rows does
module _ (flags : ℕ) (framing : Framing) (list : AtomList) (m : List ℕ) (few : list.n ≤ 255) (under : Under 256 m) {P : List ℕ → ReadAnswer → Type 0} (a : Asked flags framing list m P) where
  abbrev rows_lent : ℕ
  rows_lent = length a.lent

  same : read flags framing list rows_lent m ≡ read flags framing list 8192 m
  same = go (leb (length m) rows_lent) refl
    where
      go : (t : Bool) → leb (length m) rows_lent ≡ t → read flags framing list rows_lent m ≡ read flags framing list 8192 m
      go true e = row_for_each_byte flags framing list m rows_lent (leb-true (length m) rows_lent e)
      go false e =
          let all : rows_lent ≡ 8192 = omega (arith, a.enough, a.most, leb-false (length m) rows_lent e) in
          ap (λ (k : ℕ). read flags framing list k m) all

  -- a row's number
  pub number_told : (row : ℕ) (x : NumberAnswer) → x ≡ numbered m list.places list.lengths a.table a.read row → x ≡ number_answer (number_in flags framing list m row)
  unfolding number_in number_answer row_number numbered read_answer
  number_told row x e =
      e
      ∙ ap₂ (λ (t : List ℕ) (q : ReadAnswer). numbered m list.places list.lengths t q row) a.called.table_left a.called.read_answered
      ∙ go (read flags framing list rows_lent m) refl
      ∙ ap (λ (o : Answer Terms). number_answer (row_number row o)) same
    where
      go : (o : Answer Terms) → read flags framing list rows_lent m ≡ o
          → numbered m list.places list.lengths (table_after rows_lent o) (read_answer o) row ≡ number_answer (row_number row o)
      go (good ts) f = numbers_are flags list m ts few under rows_lent (accepted_message flags framing list rows_lent m under ts f) row
      go (refused n p) f = refl

  -- where an atom's text stands
  pub text_told : (at : ℕ) (x : TextAnswer) → x ≡ located m list.places list.lengths a.table a.read at → LocateCall flags framing list m at x
  unfolding text_in atom_text text_at located read_answer TextInside
  text_told at x e =
      let f : x ≡ found (read flags framing list rows_lent m)
      = e ∙ ap₂ (λ (t : List ℕ) (q : ReadAnswer). located m list.places list.lengths t q at) a.called.table_left a.called.read_answered in
      let k = go (read flags framing list rows_lent m) refl in
      record {
        text_located = f ∙ k.0 ∙ ap (λ (o : Answer Terms). text_at (atom_text m list at o)) same;
        text_inside = subst (TextInside m list.places) (sym f) k.1;
      }
    where
      found : Answer Terms → TextAnswer
      found o = located m list.places list.lengths (table_after rows_lent o) (read_answer o) at

      go : (o : Answer Terms) → read flags framing list rows_lent m ≡ o → (found o ≡ text_at (atom_text m list at o)) × TextInside m list.places (found o)
      go (good ts) f = texts_are flags list m ts few under rows_lent (accepted_message flags framing list rows_lent m under ts f) at
      go (refused n p) f = (refl, tt)

-- for the reader of the promise, used by no proof: the float that a row's number answers has exactly the 64 bits of its term, as encoded back
pub exact : (flags : ℕ) (framing : Framing) (list : AtomList) (m : List ℕ) → Under 256 m → (row bits : ℕ) → number_in flags framing list m row ≡ good (float_bits bits)
    → (bits < 2 ^ 64) × (to_bits binary64 (of_bits binary64 bits) ≡ bits)
unfolding number_in row_number given_of
exact flags framing list m under row bits e = go (read flags framing list 8192 m) refl e
  where
    go : (o : Answer Terms) → read flags framing list 8192 m ≡ o → row_number row o ≡ good (float_bits bits) → (bits < 2 ^ 64) × (to_bits binary64 (of_bits binary64 bits) ≡ bits)
    go (good ts) f g =
        let is : number_at row (rows option.none 0 ts) ≡ float_bits bits = cc in
        let k = bits_answered flags ts (allowed_valid flags (all_as_read ts) (accepted_message flags framing list 8192 m under ts f).known.all_allowed) row bits is in
        (k.0, float_exact bits k.0 k.1)
    go (refused n p) f g = let no_way : ◌≡◌ {A = ℕ} 0 1 = cc in absurd (omega arith)

-- a text's mark
abbrev Marked : Stretch × Coding → Type 0
Marked t = mark_at (stretch_at t.0 t.1) ≡ mark_case t.1

mark_of : (m : List ℕ) (list : AtomList) (at : ℕ) → Marked (text_of m list at)
unfolding text_of mark_at stretch_at mark_case is_latin1
mark_of m list at =
    let i : ℕ = get_or m (at + 1) 0 in
    go (32 * i) (place_length list i) (at + 3) (big_endian (take 2 (drop (at + 1) m))) (at + 2) i
    (eqb (get_or m at 0) 82) (eqb (get_or m at 0) 100) (eqb (get_or m at 0) 118) (eqb (get_or m at 0) 115)
  where
    go : (g h i j k l : ℕ) (a b c d : Bool)
        → Marked (cond a (of_list g h, utf_8) (cond b (of_message i j, latin_1) (cond c (of_message i j, utf_8) (cond d (of_message k l, latin_1) (of_message k l, utf_8)))))
    go g h i j k l true b c d = refl
    go g h i j k l false true c d = refl
    go g h i j k l false false true d = refl
    go g h i j k l false false false true = refl
    go g h i j k l false false false false = refl

marked : (o : MarkAnswer) (k x : Mark) → IsOkAnd o (λ y. y ≡ k) → k ≡ x → o ≡ Ok x
marked (Ok y) k x h g = ap Ok (h ∙ g)
marked (Err z) k x h g = absurd h

module _ (m : List ℕ) (list : AtomList) (at : ℕ) (r : MarkAnswer) where
  abbrev MarkOf : TextAnswer → Type 0
  MarkOf x = MatchResult x (λ t. IsOkAnd r (λ k. k ≡ mark_at t)) (λ z. r ≡ Err z)

  mark_is : (o : Answer Terms) → MarkOf (text_at (atom_text m list at o)) → r ≡ mark_answer (atom_text m list at o)
  unfolding atom_text text_at mark_answer
  mark_is (refused n p) h = h
  mark_is (good ts) h = go (atom_at at (rows option.none 0 ts)) h
    where
      go : (t : Bool) → MarkOf (text_at (cond t (good (text_of m list at)) (refused 4 at))) → r ≡ mark_answer (cond t (good (text_of m list at)) (refused 4 at))
      go true h = marked r _ _ h (mark_of m list at)
      go false h = h

  pub mark_told : (flags : ℕ) (framing : Framing) (x : TextAnswer) → x ≡ text_at (text_in flags framing list m at) → MarkOf x → r ≡ mark_answer (text_in flags framing list m at)
  unfolding text_in
  mark_told flags framing x e f = mark_is (read flags framing list 8192 m) (subst MarkOf e f)

-- a text's bytes
pub bytes_told : (m : List ℕ) (list : AtomList) (o : Answer (Stretch × Coding)) (x : TextAnswer) (bs : List ℕ) → x ≡ text_at o → bs ≡ bytes_at m list.places x
    → bs ≡ text_bytes m list o
unfolding text_at stretch_at text_bytes stretch_bytes bytes_at
bytes_told m list o x bs e f = f ∙ ap (bytes_at m list.places) e ∙ go o
  where
    go : (o : Answer (Stretch × Coding)) → bytes_at m list.places (text_at o) ≡ text_bytes m list o
    go (good (of_message start n, coding)) = refl
    go (good (of_list start n, coding)) = refl
    go (refused n p) = refl
