-- What the calls that read and write promise: relations of what is lent to a call, what it answers and what it leaves.
use Rattle.std.specs.Prelude.{◌≡◌, List, ℕ, length}
use Rattle.term_spec.specs.AtomList.{AtomList}
use Rattle.term_spec.specs.Message.{Framing, read}
use Rattle.term_spec.specs.Rows.{table_after}
use Rattle.term_spec.specs.Writing.{write, output_after, scratch_after}
use Rattle.term_spec.specs.Answers.{ReadAnswer, WriteAnswer, read_answer, write_answer}

-- Reading: the connection's flags, the message, the atom list and the lent table; the answer, and the table after it
pub record ReadCall (flags : ℕ) (framing : Framing) (list : AtomList) (message table : List ℕ) (answer : ReadAnswer) (table' : List ℕ) : Type 0 where
  pub read_answered : answer ≡ read_answer (read flags framing list (length table) message)
  pub table_left : table' ≡ table_after (length table) (read flags framing list (length table) message)

-- Writing: also the lent scratch table and output, and both after it
pub record WriteCall (flags : ℕ) (framing : Framing) (list : AtomList) (message scratch output : List ℕ) (answer : WriteAnswer) (scratch' output' : List ℕ) : Type 0 where
  pub write_answered : answer ≡ write_answer (write flags framing list (length scratch) (length output) message)
  pub scratch_left : scratch' ≡ scratch_after (length scratch)
  pub output_left : output' ≡ output_after output (write flags framing list (length scratch) (length output) message)
