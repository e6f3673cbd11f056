-- `mix_bytes` meets its contract: the bytes that are left give what all of them give.
use mathlib.Core.Path.{refl}
use Rattle.row_compare.proofs.Hashes.{left_after, bytes_next, bytes_end}
use Rattle.row_compare.proofs.mix_bytes.Goals as goal

pub loop-c-init : goal.loop-c-init
unfolding left_after
loop-c-init c = (c.requires.1, refl)

pub loop-c-preserved : goal.loop-c-preserved
loop-c-preserved c = (c.mix_byte-sum.ensures.1, bytes_next _ _ _ _ _ _ _ _ c.loop-c.invariant.1 c.loop-c-test.true c.from.ensures c.mix_byte-sum.ensures.0)

pub returns : goal.returns
returns c = (bytes_end _ _ _ _ _ _ c.loop-c.invariant.1 c.loop-c-test.false, c.loop-c.invariant.0)
