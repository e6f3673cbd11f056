-- `payload_terms` meets its contract.
use Rattle.term_reader.proofs.Found.{handed_on}
use Rattle.term_reader.proofs.Runs.{room_after}
use Rattle.reader.proofs.Message.{payload_one, payload_refused, payload_over, payload_second_refused, payload_two}
use Rattle.reader.proofs.payload_terms.Goals as goal

pub returns-in_err-first : goal.returns-in_err-first
returns-in_err-first c = rw (handed_on _ c.from_residual.ensures.1) (payload_refused _ _ _ _ _ _ c.read_outermost.ensures _ _ c.in_err-first.was)

pub returns-then-c-first : goal.returns-then-c-first
returns-then-c-first c = payload_one _ _ _ _ _ _ c.read_outermost.ensures _ _ c.in_ok-first.was c.if-c-first.true

pub read_outermost-requires-2-clause-room : goal.read_outermost-requires-2-clause-room
read_outermost-requires-2-clause-room c = room_after _ _ _ _ _ _ _ _ _ _ _ _ _ _ _ c.requires.room c.read_outermost.ensures c.in_ok-first.was c.read_outermost.auto.table

pub returns-in_err-second : goal.returns-in_err-second
returns-in_err-second c = rw (handed_on _ c.from_residual-in_err-second.ensures.1) (payload_second_refused _ _ _ _ _ _ c.read_outermost.ensures _ _ c.in_ok-first.was c.if-c-first.false _ _ c.read_outermost-2.ensures _ _ c.in_err-second.was)

pub returns-in_err-ended : goal.returns-in_err-ended
returns-in_err-ended c =
    let e = c.in_err-ended.ensures in
    rw (handed_on _ c.from_residual-in_err-ended.ensures.1, e.1) (payload_over _ _ _ _ _ _ c.read_outermost.ensures _ _ c.in_ok-first.was c.if-c-first.false _ _ c.read_outermost-2.ensures _ _ c.in_ok-second.was _ e.0)

pub returns : goal.returns
returns c = payload_two _ _ _ _ _ _ c.read_outermost.ensures _ _ c.in_ok-first.was c.if-c-first.false _ _ c.read_outermost-2.ensures _ _ c.in_ok-second.was c.in_ok-ended.ensures
