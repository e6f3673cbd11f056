-- `string` meets its contract.
use mathlib.Core.Path.{ap, ◌∙◌}
use Rattle.std.specs.Prelude.{Err}
use native.Mathlib.Omega.{arith}
use Rattle.term_head.proofs.Leaves.{string_cut, string_there}
use Rattle.term_head.proofs.string.Goals as goal

pub returns-in_default : goal.returns-in_default
returns-in_default c = λ given rows. ap Err c.cut.ensures ∙ string_cut _ _ _ _ (omega arith) c.in_default.ensures.0

pub returns : goal.returns
returns c = λ given rows. string_there _ _ _ _ (omega arith) _ c.in-Some.ensures.0
