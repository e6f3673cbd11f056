-- `continued` meets its contract.
use mathlib.Core.Path.{sym, ◌∙◌}
use native.Mathlib.Omega.{arith}
use Rattle.text.proofs.Characters.{completes_cut, completes_bad, byte_there}
use Rattle.text.proofs.continued.Goals as goal

pub returns-then-s-at : goal.returns-then-s-at
returns-then-s-at c = λ rs. completes_cut _ _ _ _ rs c.if-s-at.true

pub returns-then-within : goal.returns-then-within
returns-then-within c = sym (byte_there _ _ _ (omega arith)) ∙ sym c.within.ensures ∙ c.if-within.true

pub returns-else-within : goal.returns-else-within
returns-else-within c = λ rs. completes_bad _ _ _ _ rs (omega arith) (sym c.within.ensures ∙ c.if-within.false)
