-- What the functions of the writer ask of the table that reading left.
-- About the code alone, proved against the definitions of term_spec: nothing here has to be believed.
use Rattle.std.specs.Prelude.{◌≡◌, List, ℕ, ◌≤◌, length, get_or}
use Rattle.term_spec.specs.Writing.{scratch_after}
use Rattle.term_spec.specs.Answers.{WriteAnswer}
use Rattle.table_writer.specs.Code.{SomeRows, RowsWritten}

-- a table whose words from index n on are 0
pub record ZeroPast (T : List ℕ) (n : ℕ) : Type 0 where
  pub there : n ≤ length T
  pub past : (i : ℕ) → n ≤ i → get_or T i 0 ≡ 0

-- terms that were read, n of them with so many rows, in a table
module _ (m places lengths T : List ℕ) (n rows : ℕ) where
  pub record RowsRead : Type 0 where
    pub some_rows : SomeRows m places lengths T n rows
    pub few_rows : rows ≤ 8192
    pub others_zero : ZeroPast T rows

  -- what writing them answers, and the table and the output after it
  pub record WrittenAndCleared (O : List ℕ) (r : WriteAnswer) (Z P : List ℕ) : Type 0 where
    pub rows_written : RowsWritten m places lengths T n rows O r P
    pub all_cleared : Z ≡ scratch_after (length T)
