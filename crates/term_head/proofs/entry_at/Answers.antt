-- `entry_at` meets its contract.
use mathlib.Core.Path.{refl, ap, ◌∙◌}
use native.Mathlib.Omega.{arith}
use Rattle.term_head.specs.declared.Wanted.TheVariants.{Any}
use Rattle.term_head.specs.Code.{wanted_of, allowed}
use Rattle.term_head.specs.Quick.{quick_word}
use Rattle.term_head.proofs.Tags.{head_known}
use Rattle.term_head.proofs.entry_at.Goals as goal

pub returns : goal.returns
unfolding allowed wanted_of
returns c = λ w e given rows. c.entry_word.ensures w e given rows ∙ ap quick_word (head_known _ _ _ _ Any (omega arith) _ refl refl)
