-- `integer` meets its contract. The number is there, or it ends.
use mathlib.Core.Path.{ap, ◌∙◌}
use Rattle.std.specs.Prelude.{Ok, Err}
use native.Mathlib.Omega.{arith}
use Rattle.term_head.proofs.Leaves.{integer_short, integer_there}
use Rattle.term_head.proofs.integer.Goals as goal

pub returns-then-msg-at : goal.returns-then-msg-at
returns-then-msg-at c = λ value rows. ap Err c.cut.ensures ∙ integer_short _ _ _ _ _ (omega arith) c.if-msg-at.true

pub returns : goal.returns
returns c = λ value rows. ap Ok c.leaf.ensures ∙ integer_there _ _ _ _ _ (omega arith) c.if-msg-at.false
