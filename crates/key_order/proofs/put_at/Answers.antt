-- `put_at` meets its contract. The rows from i on stand one further up; the measure is how many are still to move.
use native.Mathlib.Omega.{arith}
use lib.ListN.{length-set}
use Rattle.key_order.proofs.Moved.{moved_none, moved_more, moved_end}
use Rattle.key_order.proofs.put_at.Goals as goal

pub loop-i-init : goal.loop-i-init
loop-i-init c = moved_none _ _ _ c.requires.0

pub overflow_sub-run : goal.overflow_sub-run
overflow_sub-run c = omega arith

pub offset_bounds-run-i : goal.offset_bounds-run-i
offset_bounds-run-i c = omega arith

pub bounds-run-i : goal.bounds-run-i
bounds-run-i c = omega arith

pub offset_bounds-run-i-in-loop-i : goal.offset_bounds-run-i-in-loop-i
offset_bounds-run-i-in-loop-i c = omega arith

pub bounds-run-i-in-loop-i : goal.bounds-run-i-in-loop-i
bounds-run-i-in-loop-i c = omega arith

pub overflow_sub-i : goal.overflow_sub-i
overflow_sub-i c = omega arith

pub loop-i-smaller : goal.loop-i-smaller
loop-i-smaller c = omega arith

pub loop-i-preserved : goal.loop-i-preserved
loop-i-preserved c = moved_more c.loop-i.invariant c.requires.1 c.loop-i-test.true

pub overflow_cast-run : goal.overflow_cast-run
overflow_cast-run c = omega arith

pub offset_bounds-run-at : goal.offset_bounds-run-at
offset_bounds-run-at c = omega arith

pub bounds-run-at : goal.bounds-run-at
bounds-run-at c = omega arith

pub shape_of-run : goal.shape_of-run
shape_of-run c = simp length-set c.loop-i.invariant.long

pub returns : goal.returns
returns c = moved_end c.loop-i.invariant _ c.loop-i-test.false
