use Rattle.key_order.proofs.Sorted.{Sorting}
use Rattle.key_order.proofs.sort_keys.Given as goal

abbrev pub invariant-loop-i : goal.invariant-loop-i
invariant-loop-i l = Sorting l.rows.msg.now l.rows.places.now l.rows.lengths.now l.rows.table.now l.order l.row l.n l.initial.run l.initial.out l.run l.out l.rising l.key l.i
