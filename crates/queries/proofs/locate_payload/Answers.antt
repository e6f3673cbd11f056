-- `locate_payload` meets its contract.
use Rattle.std.proofs.Common.{rules}
use native.Mathlib.Omega.{arith}
use Rattle.term_spec.specs.AtomList.{lent_list}
use Rattle.term_spec.specs.Message.{payload}
use Rattle.term_spec.proofs.Text.{under_all}
use Rattle.reader.specs.Code.{framing_of}
use Rattle.queries.proofs.Calls.{text_told}
use Rattle.queries.proofs.locate_payload.Goals as goal

pub returns : goal.returns
unfolding framing_of
returns c = let a = c.args in
    text_told a.connection.flags payload (lent_list a.n a.places.now a.lengths.now) a.msg.now (omega arith)
    (under_all a.msg.now (λ i _. omega (arith, c.type_inv.msg i))) c.ask.ensures a.at _ (search rules)
