-- `mark_payload` meets its contract.
use Rattle.term_spec.specs.AtomList.{lent_list}
use Rattle.term_spec.specs.Message.{payload}
use Rattle.queries.proofs.Calls.{mark_told}
use Rattle.queries.proofs.mark_payload.Goals as goal

pub returns : goal.returns
returns c = let a = c.args in
    mark_told a.msg.now (lent_list a.n a.places.now a.lengths.now) a.at _ a.connection.flags payload _ c.locate_payload.ensures.text_located c.map.ensures.cases
