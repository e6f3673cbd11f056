-- `tuple` meets its contract.
use mathlib.Core.Path.{ap, ◌∙◌}
use Rattle.std.specs.Prelude.{Err}
use native.Mathlib.Omega.{arith}
use Rattle.term_head.proofs.Leaves.{tuple_short, tuple_there}
use Rattle.term_head.proofs.tuple.Goals as goal

pub returns-then-msg-at : goal.returns-then-msg-at
returns-then-msg-at c = λ given rows. ap Err c.cut.ensures ∙ tuple_short _ _ _ _ (omega arith) _ c.if-msg-at.true

pub returns : goal.returns
returns c = λ given rows. tuple_there _ _ _ _ (omega arith) _ _ c.if-msg-at.false c.number.ensures
