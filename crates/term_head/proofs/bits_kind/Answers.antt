-- `bits_kind` meets its contract.
use Rattle.term_head.proofs.Leaves.{bits_none, bits_over_none, bits_few, bits_many, bits_all, bits_part}
use Rattle.term_head.proofs.bits_kind.Goals as goal
use Rattle.term_head.proofs.bits_kind.Goals.{then-bits-lt1-via-then-bits-lt1, then-bits-lt1-via-else-bits-lt1+then-bits-gt8}

pub returns-then-bits-eq0 : goal.returns-then-bits-eq0
returns-then-bits-eq0 c = bits_none _ _ c.if-n-eq0.true c.if-bits-eq0.true

pub returns-then-n-eq0 : goal.returns-then-n-eq0
returns-then-n-eq0 c = bits_over_none _ _ c.if-n-eq0.true c.if-bits-eq0.false

pub returns-then-bits-lt1 : goal.returns-then-bits-lt1
returns-then-bits-lt1 c =
    elim c.then-bits-lt1.branch [
      | then-bits-lt1-via-then-bits-lt1 w ↦ bits_few _ _ c.if-n-eq0.false w.if-bits-lt1.true
      | then-bits-lt1-via-else-bits-lt1+then-bits-gt8 w ↦ bits_many _ _ c.if-n-eq0.false w.if-bits-gt8.true
    ]

pub returns-then-bits-eq8 : goal.returns-then-bits-eq8
returns-then-bits-eq8 c = bits_all _ _ c.if-n-eq0.false c.if-bits-eq8.true

pub returns : goal.returns
returns c = bits_part _ _ c.if-n-eq0.false c.if-bits-lt1.false c.if-bits-gt8.false c.if-bits-eq8.false
