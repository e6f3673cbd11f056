-- `leaf_at` meets its contract.
use mathlib.Core.Path.{refl, ap, ◌∙◌, sym}
use native.Mathlib.Omega.{arith}
use Rattle.term_head.specs.Quick.{quick_word}
use Rattle.term_head.proofs.Tags.{head_known}
use Rattle.term_head.proofs.leaf_at.Goals as goal

pub returns : goal.returns
returns c = λ w e given rows. c.leaf_word.ensures w e given rows ∙ ap quick_word (head_known _ _ _ _ _ (omega arith) _ (sym c.may_stand.ensures ∙ c.if-not-may_stand.false) refl)
