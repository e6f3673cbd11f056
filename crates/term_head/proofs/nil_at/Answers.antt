-- `nil_at` meets its contract.
use Rattle.term_head.proofs.Openings.{nil_here}
use Rattle.term_head.proofs.nil_at.Goals as goal

pub returns-then-at-msg : goal.returns-then-at-msg
returns-then-at-msg c = λ e given rows. nil_here _ _ given rows c.if-at-msg.true e
