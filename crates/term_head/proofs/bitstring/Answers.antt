-- `bitstring` meets its contract.
use mathlib.Core.Path.{ap, ◌∙◌}
use Rattle.std.specs.Prelude.{Ok, Err}
use native.Mathlib.Omega.{arith}
use Rattle.term_head.proofs.Leaves.{bits_cut, bits_broken, bits_there}
use Rattle.term_head.proofs.bitstring.Goals as goal

pub returns-in_default : goal.returns-in_default
returns-in_default c = λ given rows. ap Err c.cut.ensures ∙ bits_cut _ _ _ _ (omega arith) c.in_default.ensures.0

pub returns-in_default-bits_kind : goal.returns-in_default-bits_kind
returns-in_default-bits_kind c = λ given rows. ap Err c.broken.ensures ∙ bits_broken _ _ _ _ (omega arith) _ c.in-Some.ensures.0 _ _ (omega arith) c.big1.ensures.0 c.in_default-bits_kind.ensures

pub returns : goal.returns
returns c = λ given rows. ap Ok c.leaf.ensures ∙ bits_there _ _ _ _ (omega arith) _ c.in-Some.ensures.0 _ _ (omega arith) c.big1.ensures.0 _ c.in-Some-bits_kind.ensures
