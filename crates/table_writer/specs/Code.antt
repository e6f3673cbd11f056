-- What the functions that write the terms of a table ask and promise of it.
-- About the code alone, proved against the definitions of term_spec: nothing here has to be believed.
use Rattle.std.specs.Prelude.{◌≡◌, List, ℕ, ◌≤◌, length}
use Rattle.std.proofs.lemmas.List.Edits.{sets}
use Rattle.term_spec.specs.Tree.{count, sizes}
use Rattle.term_spec.specs.Answer.{good}
use Rattle.term_spec.specs.Message.{Terms, all_as_read}
use Rattle.term_spec.specs.Canonical.{standalones}
use Rattle.term_spec.specs.Writing.{written, output_after}
use Rattle.term_spec.specs.Answers.{WriteAnswer, write_answer}
use Rattle.term_writer.specs.InTable.{RunInTable}

-- the terms of a table, n of them with so many rows, written in an output
module _ (m places lengths T : List ℕ) (n rows : ℕ) where
  pub record SomeRows : Type 0 where
    pub terms : Terms
    pub held : RunInTable m places lengths T 0 terms
    pub counted : count terms ≡ n
    pub sized : sizes terms ≡ rows
    pub below : rows ≤ length T

  -- and there is room for them
  pub record RowsFit (room : ℕ) : Type 0 where
    pub some_rows : SomeRows
    pub enough : length (standalones (all_as_read some_rows.terms)) ≤ room

  -- the output after it
  abbrev pub RowsPut : List ℕ → List ℕ → Type 0
  RowsPut O P =
      (ts : Terms) → RunInTable m places lengths T 0 ts → count ts ≡ n → sizes ts ≡ rows → length (standalones (all_as_read ts)) ≤ length O
      → P ≡ sets O 0 (standalones (all_as_read ts))

  -- what writing them answers, and the output after it
  abbrev pub RowsWritten : List ℕ → WriteAnswer → List ℕ → Type 0
  RowsWritten O r P =
      (ts : Terms) → RunInTable m places lengths T 0 ts → count ts ≡ n → sizes ts ≡ rows
      → (r ≡ write_answer (written (length O) (good ts))) × (P ≡ output_after O (written (length O) (good ts)))
