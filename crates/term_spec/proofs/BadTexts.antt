-- Where reading refuses with 5, its place is the bad byte of an atom's text: by the walk, to which only the text of an atom is new.
use Rattle.std.specs.Prelude.{Err}
use mathlib.Core.Path.{◌≡◌, refl, sym, ◌∙◌, ap}
use mathlib.Core.Bool.{Bool, true, false}
use mathlib.Core.List.{List}
use mathlib.Core.Option.{some}
use Prim.Native.Nat.{ℕ, ◌+◌, ◌<◌}
use native.Mathlib.Omega.{arith}
use lib.Dec.{eqb, leb}
use lib.ListN.{length, get_or, take, drop}
use borrow.Author.Tests.{eqb-false}
use Rattle.term_spec.specs.Numbers.{big_endian}
use Rattle.term_spec.specs.Text.{Coding, Checked, valid, invalid_at}
use Rattle.term_spec.specs.Connection.{flags_known}
use Rattle.term_spec.specs.Answer.{Answer, good, refused, Position, at_offset, after, done, byte}
use Rattle.term_spec.specs.Head.{Given, atom_ext, form_in, forms, fields, text_or}
use Rattle.term_spec.specs.AtomList.{AtomList, of_size, given_of}
use Rattle.term_spec.specs.Message.{Framing, Terms, meanings, terms_framed, result_of, first_check, capacity_of, read}
use Rattle.term_spec.specs.Canonical.{standalones}
use Rattle.term_spec.specs.Writing.{Written, written, write}
use Rattle.term_spec.specs.Answers.{read_answer, write_answer}
use Rattle.term_spec.specs.BadTexts.{BadText, BadTexts}
use Rattle.term_spec.specs.declared.Refusal.{Refusal}
use Rattle.term_spec.proofs.Tests.{by_less}
use Rattle.term_spec.proofs.Steps.{spot}
use Rattle.term_spec.proofs.BadByte.{bad_bytes}
use Rattle.term_spec.proofs.Walk.{AtomRefused, framed_kept}
use Rattle.term_spec.proofs.Invariant.{InStep, on_byte, on_row}
use Rattle.term_spec.proofs.Backed.{form_found}
use Rattle.term_spec.proofs.Bridge.{byte_at, byte_end, bytes_at, bytes_end, number_at, number_end}

-- a text that is refused fails, and the place is that of the offset where it does
text_refused : {A : Type 0} (o : Checked) (n q : ℕ) (place : ℕ → ℕ) (h : List ℕ → A) (s : Position) → after (text_or o n place s) (λ cs. done (h cs)) ≡ refused n q
    → (k : ℕ) × (o ≡ invalid_at k) × (q ≡ place k)
unfolding text_or
text_refused (invalid_at k) n q place h s e = (k, refl, cc)
text_refused (valid cs) n q place h s e = let no_way : ◌≡◌ {A = ℕ} 0 1 = cc in absurd (omega arith)

module _ (message : List ℕ) (atoms : Given) where
  -- what the bytes of the length say, where w bytes after the tag at `at` hold it
  abbrev size_of : ℕ → ℕ → ℕ
  size_of at w = big_endian (take w (drop (at + 1) message))

  -- an atom whose tag stands at `at`
  text_bad : (at rows w q : ℕ) (coding : Coding) → at < length message → form_in forms (get_or message at 0) ≡ some (atom_ext coding w)
      → fields atoms at (atom_ext coding w) (at_offset message (at + 1) rows) ≡ refused 5 q → BadText message q
  unfolding fields
  text_bad at rows w q coding inside tag_is e =
      by_less (length message) (at + 1 + w)
      (λ over. let f = rw (number_end message at w (at + 1) rows (omega arith) over) at e in let no_way : ◌≡◌ {A = ℕ} 0 1 = cc in absurd (omega arith))
      λ fits. let f = rw (number_at message at w (at + 1) rows fits) at e in
      by_less (length message) (at + 1 + w + size_of at w)
      (λ over. let g = rw (bytes_end message at (size_of at w) (at + 1 + w) rows fits over) at f in let no_way : ◌≡◌ {A = ℕ} 0 1 = cc in absurd (omega arith))
      λ all. let g = rw (bytes_at message at (size_of at w) (at + 1 + w) rows all) at f in
      let r = text_refused _ 5 q _ _ _ g in
      record {
        coding = coding;
        first = at + 1 + w;
        size = size_of at w;
        k = r.0;
        there = record { tag_at = at; width = w; tag_is = tag_is; first_is = refl; size_is = refl; inside = all };
        place_is = r.2;
        bad = bad_bytes.told coding _ r.0 r.1;
      }

  module _ (cap : ℕ) where
    -- an atom that the walk meets
    atom_bad : (s : Position) (q : ℕ) → InStep message cap s → AtomRefused atoms s q → BadText message q
    atom_bad s q i a =
        let there : byte s.at (at_offset message s.at s.rows_taken) ≡ good (a.tag, a.past_tag) =
        sym (ap (λ (l : List ℕ). byte s.at (record { at = s.at; left = l; rows_taken = s.rows_taken })) i.bytes_are) ∙ a.tag_read in
        by_less s.at (length message)
        (λ inside.
        let b = byte_at message s.at s.at s.rows_taken inside in
        let tag : ◌≡◌ {A = ℕ × Position} (a.tag, a.past_tag) (get_or message s.at 0, at_offset message (s.at + 1) s.rows_taken) = cc in
        let f = (form_found s.at a.wanted a.tag a.past_tag).known a.found a.before_fields a.form_found in
        let tag_is : a.tag ≡ get_or message s.at 0 = ap (λ (r : ℕ × Position). r.0) tag in
        let past : a.past_tag ≡ at_offset message (s.at + 1) s.rows_taken = ap (λ (r : ℕ × Position). r.1) tag in
        text_bad s.at s.rows_taken a.width q a.coding inside (cc f.1) (cc f.0))
        λ over. let b = byte_end message s.at s.at s.rows_taken over in let no_way : ◌≡◌ {A = ℕ} 0 1 = cc in absurd (omega arith)

    refused_bad : (framing : Framing) (p : ℕ) → terms_framed atoms cap framing (spot 0 message 0) ≡ refused 5 p → BadText message p
    refused_bad framing p =
        (framed_kept cap (InStep message cap) (BadText message) (on_byte message cap) (on_row message cap) atoms atom_bad message
        (record { bytes_are = refl; inside = omega arith; room = omega arith }) framing).refuses p

module _ {A : Type 0} where
  -- a refusal with 5 is no first check's, and has no position
  pub past_check : (t : Bool) (n p : ℕ) (o : Answer A) → eqb n 5 ≡ false → first_check t n o ≡ refused 5 p → o ≡ refused 5 p
  past_check true n p o other e = e
  past_check false n p o other e = absurd (eqb-false n 5 other cc)

  pub found_refused : (o : Answer (A × Position)) (n p : ℕ) → result_of o ≡ refused n p → o ≡ refused n p
  found_refused (good r) n p e = let no_way : ◌≡◌ {A = ℕ} 0 1 = cc in absurd (omega arith)
  found_refused (refused m q) n p e = cc

  -- the number and the place that a call answers are those of the rules
  pub as_told : (m q n p : ℕ) → ◌≡◌ {A = Refusal} (record { number = m; place = q }) (record { number = n; place = p }) → ◌≡◌ {A = Answer A} (refused m q) (refused n p)
  as_told m q n p e = ap (λ (r : Refusal). refused r.number r.place) e

module _ (flags : ℕ) (framing : Framing) (atoms : AtomList) (lent : ℕ) (message : List ℕ) (p : ℕ) where
  rules_bad : read flags framing atoms lent message ≡ refused 5 p → BadText message p
  unfolding read
  rules_bad e =
      refused_bad message (given_of flags atoms) (capacity_of lent) framing p
      (found_refused _ 5 p (past_check (leb (length message) 65536) 12 p _ refl (past_check (flags_known flags) 14 p _ refl (past_check (of_size atoms) 13 p _ refl e))))

  read_bad : read_answer (read flags framing atoms lent message) ≡ Err (record { number = 5; place = p }) → BadText message p
  unfolding read_answer
  read_bad e = rules_bad (go (read flags framing atoms lent message) e)
    where
      go : (o : Answer Terms) → read_answer o ≡ Err (record { number = 5; place = p }) → o ≡ refused 5 p
      go (good ts) e = let no_way : ◌≡◌ {A = ℕ} 0 1 = cc in absurd (omega arith)
      go (refused n q) e = as_told n q 5 p cc

  write_bad : (room : ℕ) → write_answer (write flags framing atoms lent room message) ≡ Err (record { number = 5; place = p }) → BadText message p
  unfolding write_answer write written
  write_bad room e = rules_bad (go (read flags framing atoms lent message) e)
    where
      tested : (fits : Bool) (w : Written) → ¬ (write_answer (elim fits [ true ↦ good w | false ↦ refused 11 0 ]) ≡ Err (record { number = 5; place = p }))
      tested true w e = let no_way : ◌≡◌ {A = ℕ} 0 1 = cc in omega arith
      tested false w e = let is : ◌≡◌ {A = Answer Written} (refused 11 0) (refused 5 p) = as_told 11 0 5 p cc in let no_way : ◌≡◌ {A = ℕ} 0 1 = cc in omega arith

      go : (o : Answer Terms) → write_answer (written room o) ≡ Err (record { number = 5; place = p }) → o ≡ refused 5 p
      go (good ts) e = absurd (tested (leb (length (standalones (meanings ts))) room) _ e)
      go (refused n q) e = as_told n q 5 p cc

pub bad_texts : BadTexts
bad_texts =
    record {
      by_the_rules = rules_bad;
      by_reading = λ flags framing atoms message table answer left c p e. read_bad flags framing atoms (length table) message p (sym c.read_answered ∙ e);
      by_writing = λ flags framing atoms message scratch output answer scratch_is output_is c p e.
          write_bad flags framing atoms (length scratch) message p (length output) (sym c.write_answered ∙ e);
    }
