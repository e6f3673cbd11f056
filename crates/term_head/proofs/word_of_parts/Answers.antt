-- `word_of_parts` meets its contract.
use mathlib.Core.Path.{sym, ap, ◌∙◌}
use Rattle.term_head.specs.declared.Later.{Later}
use Rattle.term_head.specs.Quick.{fit, quick_later}
use Rattle.term_head.proofs.Words.{other_later}
use Rattle.term_head.proofs.word_of_parts.Goals as goal

pub returns-in-Known : goal.returns-in-Known
unfolding quick_later
returns-in-Known c = c.fit.ensures ∙ sym (ap (λ (l : Later). quick_later l (fit c.args.kind c.args.next c.args.count)) c.in-Known.is)

pub returns-in_default : goal.returns-in_default
returns-in_default c = other_later _ _ c.in_default.not-Known
