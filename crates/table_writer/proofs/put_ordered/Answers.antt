-- `put_ordered` meets its contract. What the ordering left in the output is hidden by what is put.
use Rattle.table_writer.proofs.Standalones.{fit_run, order_room, ordered_put}
use Rattle.table_writer.proofs.put_ordered.Goals as goal

pub order_keys-requires : goal.order_keys-requires
order_keys-requires c = let a = c.requires in (order_room a.0, a.1)

pub put_standalones-requires : goal.put_standalones-requires
put_standalones-requires c = let a = c.requires.0 in
    let s = a.some_rows in
    fit_run a c.order_keys.auto.out (c.order_keys.ensures.run_ordered s.terms s.held s.sized)

pub returns : goal.returns
returns c = ordered_put c.order_keys.ensures c.order_keys.auto.out c.put_standalones.ensures
