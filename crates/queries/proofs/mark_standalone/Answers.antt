-- `mark_standalone` meets its contract.
use Rattle.term_spec.specs.AtomList.{lent_list}
use Rattle.term_spec.specs.Message.{standalone}
use Rattle.queries.proofs.Calls.{mark_told}
use Rattle.queries.proofs.mark_standalone.Goals as goal

pub returns : goal.returns
returns c = let a = c.args in
    mark_told a.msg.now (lent_list a.n a.places.now a.lengths.now) a.at _ a.connection.flags standalone _ c.locate_standalone.ensures.text_located c.map.ensures.cases
