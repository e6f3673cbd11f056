use Rattle.term_writer.proofs.Terms.{LengthLeft}
use Rattle.term_writer.specs.InTable.{RunInTable}
use Rattle.term_spec.specs.Message.{Terms}
use Rattle.term_spec.specs.Tree.{count}
use lib.ListN.{length}
use mathlib.Core.Path.{◌≡◌}
use Prim.Native.Nat.{◌+◌, ◌*◌, ◌-◌, ◌≤◌}
use Rattle.term_writer.proofs.+length.Given as goal

abbrev pub decreases-length_run : goal.decreases-length_run
decreases-length_run l = 2 * (length l.rows.now.table.now - l.row) + 1

abbrev pub decreases-length_term : goal.decreases-length_term
decreases-length_term l = 2 * (length l.rows.now.table.now - l.row)

abbrev pub invariant-length_run-loop : goal.invariant-length_run-loop
invariant-length_run-loop l = (l.row ≤ l.next) × ((ts : Terms) → RunInTable l.rows.msg.now l.rows.places.now l.rows.lengths.now l.rows.table.now l.row ts → count ts ≡ l.n → LengthLeft l.rows.msg.now l.rows.places.now l.rows.lengths.now l.rows.table.now ts l.next (l.n - l.counter) l.sum)
