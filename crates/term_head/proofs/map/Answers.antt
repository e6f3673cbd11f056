-- `map` meets its contract.
use mathlib.Core.Path.{ap, ◌∙◌}
use Rattle.std.specs.Prelude.{Err}
use native.Mathlib.Omega.{arith}
use Rattle.term_head.proofs.Leaves.{map_short, map_there}
use Rattle.term_head.proofs.map.Goals as goal

pub returns-then-msg-at-lt4 : goal.returns-then-msg-at-lt4
returns-then-msg-at-lt4 c = λ given rows. ap Err c.cut.ensures ∙ map_short _ _ _ _ (omega arith) c.if-msg-at-lt4.true

pub returns : goal.returns
returns c = λ given rows. map_there _ _ _ _ (omega arith) _ c.if-msg-at-lt4.false c.big4.ensures.0
