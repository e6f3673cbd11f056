-- `check_utf8` meets its contract.
use native.Mathlib.Omega.{arith}
use Rattle.text.proofs.check_utf8.Goals as goal

pub returns-then-at-s : goal.returns-then-at-s
returns-then-at-s c = c.utf8_reach-at.ensures.0 c.if-at-s.true

pub returns-else-at-s : goal.returns-else-at-s
returns-else-at-s c = c.utf8_reach-at.ensures.1 (omega arith)
