use Rattle.key_order.proofs.Rows.{Ordering}
use Rattle.key_order.proofs.order_keys.Given as goal

abbrev pub invariant-loop-row : goal.invariant-loop-row
invariant-loop-row l = Ordering l.rows.msg.now l.rows.places.now l.rows.lengths.now l.rows.table.now l.count l.initial.order l.initial.run l.initial.out l.order l.run l.out l.row
