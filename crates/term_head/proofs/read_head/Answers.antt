-- `read_head` meets its contract. No tag, a tag that may not stand, or its fields.
use mathlib.Core.Path.{sym, ap, ◌∙◌}
use Rattle.std.specs.Prelude.{Err}
use Rattle.term_head.proofs.Tags.{head_past, head_barred, head_known}
use native.Mathlib.Omega.{arith}
use Rattle.term_head.proofs.read_head.Goals as goal

pub returns-then-c-at : goal.returns-then-c-at
returns-then-c-at c = λ rows. ap Err c.cut.ensures ∙ head_past _ _ _ _ _ c.if-c-at.true

pub returns-then-not-may_stand : goal.returns-then-not-may_stand
returns-then-not-may_stand c = λ rows. ap Err c.broken.ensures ∙ head_barred _ _ _ _ _ (omega arith) (sym c.may_stand.ensures ∙ c.if-not-may_stand.true)

pub returns : goal.returns
returns c = λ rows. head_known _ _ _ _ _ (omega arith) _ (sym c.may_stand.ensures ∙ c.if-not-may_stand.false) (c.by_tag.ensures rows)
