-- `big` meets its contract.
use mathlib.Core.Path.{ap, ◌∙◌}
use Rattle.std.specs.Prelude.{Ok, Err}
use native.Mathlib.Omega.{arith}
use Rattle.term_head.proofs.Leaves.{big_cut, big_sign, big_there}
use Rattle.term_head.proofs.big.Goals as goal

pub returns-in_default : goal.returns-in_default
returns-in_default c = λ given rows. ap Err c.cut.ensures ∙ big_cut _ _ _ _ (omega arith) _ c.in_default.ensures.0

pub returns-then-big1-gt1 : goal.returns-then-big1-gt1
returns-then-big1-gt1 c = λ given rows. ap Err c.broken.ensures ∙ big_sign _ _ _ _ (omega arith) _ _ c.in-Some.ensures.0 _ c.big1.ensures.0 c.if-big1-gt1.true

pub returns : goal.returns
returns c = λ given rows. ap Ok c.leaf.ensures ∙ big_there _ _ _ _ (omega arith) _ _ c.in-Some.ensures.0 _ c.big1.ensures.0 c.if-big1-gt1.false
