-- `pairs_after` meets its contract.
use native.Mathlib.Omega.{arith}
use Rattle.map_keys.specs.Marks.{here}
use Rattle.map_keys.proofs.pairs_after.Goals as goal

pub loop-init : goal.loop-init
loop-init c = (here, omega arith)
