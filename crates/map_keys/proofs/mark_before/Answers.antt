-- `mark_before` meets its contract.
use Rattle.map_keys.specs.Marks.{no_mark}
use Rattle.map_keys.proofs.mark_before.Goals as goal

pub loop-mark-init : goal.loop-mark-init
loop-mark-init c = (no_mark, c.requires)
