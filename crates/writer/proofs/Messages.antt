-- What writing a message answers.
use mathlib.Core.Path.{◌≡◌, refl, sym, ◌∙◌, ap, ap₂, subst}
use mathlib.Core.List.{List}
use Prim.Native.Nat.{ℕ, ◌≤◌}
use native.Mathlib.Omega.{arith}
use lib.ListN.{length}
use Rattle.term_spec.specs.Tree.{count, sizes}
use Rattle.term_spec.specs.Numbers.{Under}
use Rattle.term_spec.specs.Answer.{Answer, good, refused}
use Rattle.term_spec.specs.AtomList.{AtomList}
use Rattle.term_spec.specs.Message.{Framing, Terms, read}
use Rattle.term_spec.specs.Rows.{table_after}
use Rattle.term_spec.specs.Writing.{written, write, output_after, scratch_after}
use Rattle.term_spec.specs.Answers.{ReadAnswer, WriteAnswer, read_answer, write_answer}
use Rattle.term_spec.specs.Promises.{ReadCall, WriteCall}
use Rattle.term_spec.specs.declared.Refusal.{Refusal}
use Rattle.term_spec.specs.declared.TermsRead.{TermsRead}
use Rattle.std.specs.Prelude.{Ok, Err}
use Rattle.term_writer.specs.InTable.{RunInTable}
use Rattle.writer.specs.Code.{RowsRead, WrittenAndCleared}
use Rattle.writer.proofs.Read.{read_held}
use Rattle.writer.proofs.Scratch.{rows_zero}

-- what reading answered
terms_read : (o : Answer Terms) (r : ReadAnswer) (v : TermsRead) → r ≡ read_answer o → r ≡ Ok v → (ts : Terms) × (o ≡ good ts) × (count ts ≡ v.terms) × (sizes ts ≡ v.rows)
unfolding read_answer
terms_read (good ts) r v e f =
    let s : record { terms = count ts; rows = sizes ts } ≡ v = cc in
    (ts, refl, ap (λ (x : TermsRead). x.terms) s, ap (λ (x : TermsRead). x.rows) s)
terms_read (refused n p) r v e f = let no_way : ◌≡◌ {A = ℕ} 0 1 = cc in absurd (omega arith)

refusal_read : (o : Answer Terms) (r : ReadAnswer) (q : Refusal) → r ≡ read_answer o → r ≡ Err q → o ≡ refused q.number q.place
unfolding read_answer
refusal_read (good ts) r q e f = let no_way : ◌≡◌ {A = ℕ} 0 1 = cc in absurd (omega arith)
refusal_read (refused n p) r q e f =
    let s : q ≡ record { number = n; place = p } = cc in
    sym (ap₂ (λ (a b : ℕ). refused a b) (ap (λ (x : Refusal). x.number) s) (ap (λ (x : Refusal). x.place) s))

module _ {flags : ℕ} {framing : Framing} {atoms : AtomList} {m S : List ℕ} {r : ReadAnswer} {T : List ℕ} (call : ReadCall flags framing atoms m S r T)
    (few : atoms.n ≤ 255) (u : Under 256 m) where
  abbrev answer : Answer Terms
  answer = read flags framing atoms (length S) m

  module _ {v : TermsRead} (f : r ≡ Ok v) where
    terms_are : (ts : Terms) × (answer ≡ good ts) × (count ts ≡ v.terms) × (sizes ts ≡ v.rows)
    terms_are = terms_read answer r v call.read_answered f

    terms_held : RunInTable m atoms.places atoms.lengths T 0 terms_are.0
    terms_held =
        let x : T ≡ table_after (length S) (good terms_are.0) = call.table_left ∙ ap (λ (o : Answer Terms). table_after (length S) o) terms_are.1 in
        subst (λ (X : List ℕ). RunInTable m atoms.places atoms.lengths X 0 terms_are.0) (sym x)
        (read_held flags framing atoms (length S) m few u terms_are.0 terms_are.1)

    pub message_rows : RowsRead m atoms.places atoms.lengths T v.terms v.rows
    message_rows =
        let zero = rows_zero answer (length S) call.read_answered f call.table_left in
        record {
          some_rows = record { terms = terms_are.0; held = terms_held; counted = terms_are.2; sized = terms_are.3; below = zero.there };
          few_rows = omega (arith, terms_held.run_few, terms_are.3);
          others_zero = zero;
        }

    pub message_written : {O P Z : List ℕ} {w : WriteAnswer} → WrittenAndCleared m atoms.places atoms.lengths T v.terms v.rows O w Z P → length T ≡ length S
        → WriteCall flags framing atoms m S O w Z P
    unfolding write
    message_written {O} g l =
        let i = g.rows_written terms_are.0 terms_held terms_are.2 terms_are.3 in
        let x : good terms_are.0 ≡ answer = sym terms_are.1 in
        record {
          write_answered = i.0 ∙ ap (λ (o : Answer Terms). write_answer (written (length O) o)) x;
          scratch_left = g.all_cleared ∙ ap scratch_after l;
          output_left = i.1 ∙ ap (λ (o : Answer Terms). output_after O (written (length O) o)) x;
        }

  pub message_refused : {q : Refusal} (O : List ℕ) → r ≡ Err q → WriteCall flags framing atoms m S O (Err q) T O
  unfolding write written write_answer output_after scratch_after table_after
  message_refused {q} O f =
      let is : answer ≡ refused q.number q.place = refusal_read answer r q call.read_answered f in
      record {
        write_answered = ap (λ (o : Answer Terms). write_answer (written (length O) o)) (sym is);
        scratch_left = call.table_left ∙ ap (λ (o : Answer Terms). table_after (length S) o) is;
        output_left = ap (λ (o : Answer Terms). output_after O (written (length O) o)) (sym is);
      }
