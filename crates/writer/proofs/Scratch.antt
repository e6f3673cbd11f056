-- The scratch table: past the rows of a message that was read all is zero, so it is cleared by clearing these rows.
use mathlib.Core.Path.{◌≡◌, sym, ◌∙◌, ap, ap₂, subst}
use mathlib.Core.List.{List, ◌++◌}
use Prim.Native.Nat.{ℕ, ◌+◌, ◌-◌, ◌≤◌}
use native.Mathlib.Omega.{arith}
use lib.ListN.{length, drop, replicate, length-append, length-drop, length-replicate, replicate-append-replicate}
use lib.Seq.{ext_get_or, get_or-drop}
use mathlib.Core.Option.{none}
use Rattle.term_spec.specs.Tree.{count, sizes}
use Rattle.term_spec.specs.Answer.{Answer, good, refused}
use Rattle.term_spec.specs.Message.{Terms}
use Rattle.term_spec.specs.Rows.{rows, row_words, table_after}
use Rattle.term_spec.specs.Writing.{scratch_after}
use Rattle.term_spec.specs.Answers.{ReadAnswer, read_answer}
use Rattle.term_spec.specs.declared.TermsRead.{TermsRead}
use Rattle.std.specs.Prelude.{Ok}
use Rattle.term_spec.proofs.Rows.{length_rows}
use Rattle.term_spec.proofs.Words.{length_words_of, table_past, getD_all}
use Rattle.writer.specs.Code.{ZeroPast}

table_zero : (lent : ℕ) (ts : Terms) → ZeroPast (table_after lent (good ts)) (sizes ts)
unfolding table_after
table_zero lent ts =
    let ws : List ℕ = row_words (rows none 0 ts) in
    let k : length ws ≡ sizes ts = length_words_of (rows none 0 ts) ∙ length_rows none 0 ts in
    let a = length-append ws (replicate (lent - length ws) 0) in
    record { there = omega arith; past = table_past lent ts }

pub rows_zero : (o : Answer Terms) (lent : ℕ) {r : ReadAnswer} {v : TermsRead} {T : List ℕ} → r ≡ read_answer o → r ≡ Ok v → T ≡ table_after lent o → ZeroPast T v.rows
unfolding read_answer
rows_zero (good ts) lent {v = v} e f t =
    let s : record { terms = count ts; rows = sizes ts } ≡ v = cc in
    subst (λ (X : List ℕ). ZeroPast X v.rows) (sym t) (subst (ZeroPast (table_after lent (good ts))) (ap (λ (x : TermsRead). x.rows) s) (table_zero lent ts))
rows_zero (refused n p) lent e f t = let no_way : ◌≡◌ {A = ℕ} 0 1 = cc in absurd (omega arith)

pub all_zero : (l : List ℕ) (n : ℕ) {front : List ℕ} {k : ℕ} → ZeroPast l n → front ≡ replicate k 0 → k ≡ n → front ++ drop n l ≡ scratch_after (length l)
unfolding scratch_after
all_zero l n {front} z f e =
    let h : n ≤ length l = z.there in
    let k : ℕ = length l - n in
    let cleared : front ≡ replicate n 0 = f ∙ ap (λ (j : ℕ). replicate j 0) e in
    let rest : drop n l ≡ replicate k 0
    = ext_get_or 0 (drop n l) (replicate k 0) (length-drop n l ∙ sym (length-replicate k 0)) (λ j _. get_or-drop n l j 0 ∙ z.past (n + j) (omega arith) ∙ sym (getD_all k j 0)) in
    let s : n + k ≡ length l = omega arith in
    ap₂ (λ (x y : List ℕ). x ++ y) cleared rest ∙ replicate-append-replicate n k 0 ∙ ap (λ (j : ℕ). replicate j 0) s
