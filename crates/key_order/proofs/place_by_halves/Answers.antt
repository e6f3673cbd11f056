-- `place_by_halves` meets its contract. The place is at `high` or before it, and past those before `low`; the measure is how many are between.
use native.Mathlib.Omega.{arith}
use Rattle.key_order.proofs.Places.{fit_at, halving_start, halving_up, halving_down, halving_end}
use Rattle.key_order.proofs.place_by_halves.Goals as goal

pub loop-low-init : goal.loop-low-init
loop-low-init c = halving_start

pub key_before-requires : goal.key_before-requires
key_before-requires c = fit_at _ _ c.requires (omega arith) c.from-other.ensures c.loop-low.invariant.long

pub loop-low-preserved-then-key_before : goal.loop-low-preserved-then-key_before
loop-low-preserved-then-key_before c = halving_up c.loop-low.invariant c.loop-low-test.true _ (omega arith) (omega arith) c.from-other.ensures c.key_before.ensures c.key_before.auto.out c.if-key_before.true

pub loop-low-preserved : goal.loop-low-preserved
loop-low-preserved c = halving_down c.loop-low.invariant c.loop-low-test.true _ (omega arith) (omega arith) c.from-other.ensures c.key_before.ensures c.key_before.auto.out c.if-key_before.false

pub shape_of-out : goal.shape_of-out
shape_of-out c = c.loop-low.invariant.long

pub returns : goal.returns
returns c = halving_end c.loop-low.invariant c.loop-low-test.false
