-- `below` meets its contract. The loop's invariant: the bytes so far give a number below the limit.
use Rattle.term_spec.specs.Numbers.{big_endian}
use mathlib.Core.Path.{refl}
use native.Mathlib.Omega.{arith}
use Rattle.term_head.proofs.LaterFields.{below_not, below_more, below_all}
use Rattle.term_head.proofs.below.Goals as goal

pub loop-i-init : goal.loop-i-init
unfolding big_endian
loop-i-init c = (refl, omega arith)

pub returns-then-limit-n : goal.returns-then-limit-n
returns-then-limit-n c = below_not _ _ _ _ c.requires.0 _ _ c.loop-i.invariant.0 _ c.loop-i-test.true (omega arith) c.if-limit-n.true

pub loop-i-preserved : goal.loop-i-preserved
loop-i-preserved c = (below_more _ _ _ c.args.limit c.requires.0 _ _ c.loop-i.invariant.0 _ c.loop-i-test.true (omega arith), omega arith)

pub returns : goal.returns
returns c = below_all _ _ _ _ c.requires.0 _ _ c.loop-i.invariant.0 (omega arith) (omega arith) c.loop-i.invariant.1
