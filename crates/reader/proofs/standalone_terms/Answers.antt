-- `standalone_terms` meets its contract.
use native.Mathlib.Omega.{arith}
use Rattle.term_reader.proofs.Bodies.{room_at}
use Rattle.term_reader.proofs.Found.{handed_on}
use Rattle.reader.proofs.Message.{standalone_empty, standalone_other, standalone_refused, standalone_over, standalone_one}
use Rattle.reader.proofs.standalone_terms.Goals as goal
use Rattle.reader.proofs.standalone_terms.Goals.{then-c-eq0-via-then-c-eq0, then-c-eq0-via-else-c-eq0+then-c}

pub returns-then-c-eq0 : goal.returns-then-c-eq0
returns-then-c-eq0 c =
    elim c.then-c-eq0.branch [
      | then-c-eq0-via-then-c-eq0 w ↦ standalone_empty _ _ _ _ _ w.if-c-eq0.true
      | then-c-eq0-via-else-c-eq0+then-c w ↦ standalone_other _ _ _ _ _ w.if-c.true
    ]

pub read_outermost-requires-clause-room : goal.read_outermost-requires-clause-room
read_outermost-requires-clause-room c = room_at _ _ _ _ _ _ _ _ c.requires.room (omega (arith, c.if-c-eq0.false))

pub returns-in_err-only : goal.returns-in_err-only
returns-in_err-only c = rw (handed_on _ c.from_residual.ensures.1) (standalone_refused _ _ _ _ c.if-c-eq0.false c.if-c.false _ _ c.read_outermost.ensures _ _ c.in_err-only.was)

pub returns-in_err-ended : goal.returns-in_err-ended
returns-in_err-ended c =
    let e = c.in_err-ended.ensures in
    rw (handed_on _ c.from_residual-in_err-ended.ensures.1, e.1) (standalone_over _ _ _ _ c.if-c-eq0.false c.if-c.false _ _ c.read_outermost.ensures _ _ c.in_ok-only.was _ e.0)

pub returns : goal.returns
returns c = standalone_one _ _ _ _ c.if-c-eq0.false c.if-c.false _ _ c.read_outermost.ensures _ _ c.in_ok-only.was c.in_ok-ended.ensures
