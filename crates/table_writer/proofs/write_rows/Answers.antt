-- `write_rows` meets its contract. Measured, and then refused or written.
use Rattle.table_writer.proofs.Standalones.{rows_room, rows_short, rows_fit, rows_put}
use native.Mathlib.Omega.{arith}
use Rattle.table_writer.proofs.write_rows.Goals as goal

pub overflow_add-length : goal.overflow_add-length
overflow_add-length c = let b = rows_room _ _ _ c.length_run.ensures c.requires.0 in omega arith

pub returns-then-out-length : goal.returns-then-out-length
returns-then-out-length c = rows_short c.length_run.ensures (omega arith)

pub put_ordered-requires : goal.put_ordered-requires
put_ordered-requires c = let a = c.requires in (rows_fit _ c.length_run.ensures c.if-out-length.false a.0, a.1)

pub returns : goal.returns
returns c = rows_put _ c.length_run.ensures c.if-out-length.false c.put_ordered.ensures
