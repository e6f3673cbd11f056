-- `pid_ids` meets its contract.
use mathlib.Core.Path.{◌∙◌, sym, ap}
use native.Mathlib.Omega.{arith}
use Rattle.term_spec.specs.Head.{Limits}
use Rattle.term_head.proofs.Limits.{newer, older}
use Rattle.term_head.proofs.pid_ids.Goals as goal

pub returns-then-is_newer : goal.returns-then-is_newer
returns-then-is_newer c = (sym (ap (λ (l : Limits). l.id) (newer _ _ (sym c.is_newer.ensures ∙ c.if-is_newer.true))), omega arith, omega arith)

pub returns : goal.returns
returns c = (sym (ap (λ (l : Limits). l.id) (older _ _ (sym c.is_newer.ensures ∙ c.if-is_newer.false))), omega arith, omega arith)
