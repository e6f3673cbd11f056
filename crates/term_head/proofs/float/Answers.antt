-- `float` meets its contract. The bits, then the exponent.
use mathlib.Core.Path.{ap, ◌∙◌}
use Rattle.std.specs.Prelude.{Ok, Err}
use native.Mathlib.Omega.{arith}
use Rattle.term_head.proofs.Leaves.{float_short, float_odd, float_there}
use Rattle.term_head.proofs.float.Goals as goal

pub returns-then-msg-at-lt8 : goal.returns-then-msg-at-lt8
returns-then-msg-at-lt8 c = λ given rows. ap Err c.cut.ensures ∙ float_short _ _ _ _ (omega arith) c.if-msg-at-lt8.true

pub returns-then-big8-eq-EXPONENT_ONES : goal.returns-then-big8-eq-EXPONENT_ONES
returns-then-big8-eq-EXPONENT_ONES c = λ given rows. ap Err c.broken.ensures ∙ float_odd _ _ _ _ (omega arith) _ c.if-msg-at-lt8.false c.big8.ensures.0 c.if-big8-eq-EXPONENT_ONES.true

pub returns : goal.returns
returns c = λ given rows. ap Ok c.leaf.ensures ∙ float_there _ _ _ _ (omega arith) _ c.if-msg-at-lt8.false c.big8.ensures.0 c.if-big8-eq-EXPONENT_ONES.false
