-- `list` meets its contract.
use mathlib.Core.Path.{ap, ◌∙◌}
use Rattle.std.specs.Prelude.{Err}
use native.Mathlib.Omega.{arith}
use Rattle.term_head.proofs.Leaves.{list_short, list_there}
use Rattle.term_head.proofs.list.Goals as goal

pub returns-then-msg-at-lt4 : goal.returns-then-msg-at-lt4
returns-then-msg-at-lt4 c = λ given rows. ap Err c.cut.ensures ∙ list_short _ _ _ _ (omega arith) c.if-msg-at-lt4.true

pub returns : goal.returns
returns c = λ given rows. list_there _ _ _ _ (omega arith) _ c.if-msg-at-lt4.false c.big4.ensures.0
