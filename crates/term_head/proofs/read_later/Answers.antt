-- `read_later` meets its contract. Each kind of later fields has its own function.
use Rattle.term_head.specs.Code.{later_fields}
use Rattle.term_head.proofs.LaterFields.{by_later, settled}
use mathlib.Core.Path.{sym, ap, ◌∙◌}
use Rattle.term_head.proofs.read_later.Goals as goal

pub returns-in-Known : goal.returns-in-Known
unfolding by_later later_fields
returns-in-Known c = λ l e rows. sym (settled _ _ _ _ _ l ∙ ap (by_later _ _ _ _ _) (e ∙ c.in-Known.is))

pub returns-in-Pid : goal.returns-in-Pid
unfolding by_later later_fields
returns-in-Pid c = λ l e rows. c.pid_fields.ensures rows ∙ sym (settled _ _ _ _ _ l ∙ ap (by_later _ _ _ _ _) (e ∙ c.in-Pid.is))

pub returns-in-Port : goal.returns-in-Port
unfolding by_later later_fields
returns-in-Port c = λ l e rows. c.port_fields.ensures _ rows ∙ sym (settled _ _ _ _ _ l ∙ ap (by_later _ _ _ _ _) (e ∙ c.in-Port.is))

pub returns-in-Reference : goal.returns-in-Reference
unfolding by_later later_fields
returns-in-Reference c = λ l e rows. c.reference_fields.ensures _ rows ∙ sym (settled _ _ _ _ _ l ∙ ap (by_later _ _ _ _ _) (e ∙ c.in-Reference.is))

pub returns-in-OldReference : goal.returns-in-OldReference
unfolding by_later later_fields
returns-in-OldReference c = λ l e rows. c.old_reference_fields.ensures _ rows ∙ sym (settled _ _ _ _ _ l ∙ ap (by_later _ _ _ _ _) (e ∙ c.in-OldReference.is))
