use Rattle.term_writer.proofs.Terms.{PutLeft}
use Rattle.term_writer.specs.InTable.{RunInTable}
use Rattle.term_writer.specs.PairOrder.{AllOrdered}
use Rattle.term_spec.specs.Canonical.{standalones}
use Rattle.term_spec.specs.Message.{Terms}
use Rattle.term_spec.specs.Tree.{count}
use Prim.Native.Nat.{◌-◌}
use mathlib.Core.Path.{◌≡◌}
use Rattle.table_writer.proofs.put_standalones.Given as goal

abbrev pub invariant-loop : goal.invariant-loop
invariant-loop l = (ts : Terms) → RunInTable l.rows.msg.now l.rows.places.now l.rows.lengths.now l.rows.table.now 0 ts → AllOrdered l.order 0 0 ts → count ts ≡ l.n → PutLeft l.rows.msg.now l.rows.places.now l.rows.lengths.now l.rows.table.now l.order standalones l.initial.out 0 ts l.next (l.n - l.counter) l.out l.end
