use Rattle.term_writer.proofs.Pairs.{PairsLeft}
use Rattle.term_writer.proofs.Terms.{PutLeft}
use Rattle.term_writer.specs.InTable.{RunInTable}
use Rattle.term_writer.specs.PairOrder.{PairsOrdered, AllOrdered}
use Rattle.term_writer.specs.Code.{canonicals}
use Rattle.term_spec.specs.Message.{Terms}
use Rattle.term_spec.specs.Tree.{count}
use lib.ListN.{length}
use mathlib.Core.Path.{◌≡◌}
use Prim.Native.Nat.{◌+◌, ◌*◌, ◌-◌, ◌≤◌}
use Rattle.term_writer.proofs.+write.Given as goal

abbrev pub decreases-write_pairs : goal.decreases-write_pairs
decreases-write_pairs l = 4 * (length l.rows.now.table.now - l.row) + 3

abbrev pub decreases-write_parts : goal.decreases-write_parts
decreases-write_parts l = 4 * (length l.rows.now.table.now - l.row)

abbrev pub decreases-write_run : goal.decreases-write_run
decreases-write_run l = 4 * (length l.rows.now.table.now - l.row) + 2

abbrev pub decreases-write_term : goal.decreases-write_term
decreases-write_term l = 4 * (length l.rows.now.table.now - l.row) + 1

abbrev pub invariant-write_pairs-loop : goal.invariant-write_pairs-loop
invariant-write_pairs-loop l = (ts : Terms) → RunInTable l.rows.msg.now l.rows.places.now l.rows.lengths.now l.rows.table.now l.row ts → AllOrdered l.order 0 l.row ts → (p : PairsOrdered l.order l.row ts) → count ts ≡ 2 * l.n
    → PairsLeft l.rows.msg.now l.rows.places.now l.rows.lengths.now l.rows.table.now l.order l.row ts p.sorted l.initial.out l.at l.key (l.n - l.counter) l.out l.end

abbrev pub invariant-write_run-loop : goal.invariant-write_run-loop
invariant-write_run-loop l = (l.row ≤ l.next) × ((ts : Terms) → RunInTable l.rows.msg.now l.rows.places.now l.rows.lengths.now l.rows.table.now l.row ts → AllOrdered l.order 0 l.row ts → count ts ≡ l.n
    → PutLeft l.rows.msg.now l.rows.places.now l.rows.lengths.now l.rows.table.now l.order canonicals l.initial.out l.at ts l.next (l.n - l.counter) l.out l.end)
