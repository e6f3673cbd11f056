use Rattle.term_writer.proofs.Strings.{SmallLeft}
use Rattle.term_writer.specs.InTable.{RunInTable}
use Rattle.term_spec.specs.Message.{Terms}
use Rattle.term_spec.specs.Tree.{count}
use mathlib.Core.Path.{◌≡◌}
use Rattle.term_writer.proofs.all_small.Given as goal

abbrev pub invariant-loop-i : goal.invariant-loop-i
invariant-loop-i l = ((ts : Terms) → RunInTable l.rows.msg.now l.rows.places.now l.rows.lengths.now l.rows.table.now l.row ts → count ts ≡ l.n → SmallLeft l.rows.msg.now l.rows.places.now l.rows.lengths.now l.rows.table.now l.row l.n ts l.i)
