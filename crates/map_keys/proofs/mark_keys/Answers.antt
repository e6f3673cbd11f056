-- `mark_keys` meets its contract: what is stored is reached.
use mathlib.Core.Path.{sym, subst}
use native.Mathlib.Omega.{arith}
use Rattle.map_keys.specs.Marks.{Reached, here}
use Rattle.map_keys.proofs.Marks.{reached_trans, mark_more}
use Rattle.map_keys.proofs.mark_keys.Goals as goal

pub loop-i-init : goal.loop-i-init
loop-i-init c = (here, λ k l. absurd (omega arith))

pub loop-i-preserved : goal.loop-i-preserved
loop-i-preserved c = (
  reached_trans _ c.loop-i.invariant.0 c.pairs_after-at.ensures.0,
  mark_more _ _ _ _ c.loop-i.marks (omega arith) (subst (Reached c.args.table.now c.args.b) (sym c.in-Ok.ensures.1) c.loop-i.invariant.0) c.loop-i.invariant.1,
)
