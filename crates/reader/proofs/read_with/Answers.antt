-- `read_with` meets its contract.
use Rattle.reader.proofs.Message.{refused_first, read_settled, room_first}
use native.Mathlib.Omega.{arith}
use Rattle.reader.proofs.read_with.Goals as goal

pub returns-in-Some : goal.returns-in-Some
returns-in-Some c = refused_first _ _ _ _ _ _ _ _ (c.in-Some.ensures _) c.settle.ensures

pub framed_terms-answer-requires-clause-room : goal.framed_terms-answer-requires-clause-room
framed_terms-answer-requires-clause-room c = room_first _ _ _ _ _ _ _ (c.in_default.ensures _) c.min.ensures (λ i. omega (arith, c.type_inv.msg i)) (omega arith)

pub returns : goal.returns
returns c = read_settled _ _ _ _ _ _ _ (c.in_default.ensures _) c.min.ensures _ _ _ _ _ c.framed_terms-answer.auto.table c.framed_terms-answer.ensures c.settle-2.ensures
