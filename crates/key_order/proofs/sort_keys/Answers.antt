-- `sort_keys` meets its contract. The keys passed are in order; the measure is the number of keys left.
use mathlib.Core.Path.{sym, ◌∙◌}
use native.Mathlib.Omega.{arith}
use Rattle.term_spec.proofs.Tests.{never}
use Rattle.key_order.proofs.Walk.{key_step, value_few}
use Rattle.key_order.proofs.Sorted.{sorting_start, sorting_pair, keys_fit, sorting_next, sorting_end}
use Rattle.key_order.proofs.Places.{taken_fit, taken_place}
use Rattle.key_order.proofs.sort_keys.Goals as goal
use Rattle.key_order.proofs.sort_keys.Goals.{then-at-i, else-at-i}

pub loop-i-init : goal.loop-i-init
loop-i-init c = sorting_start _ _ _ _ _ _ _ _ _

pub find_place-at-requires : goal.find_place-at-requires
find_place-at-requires c = rw c.loop-i.invariant.out_long (taken_fit (omega (arith, c.loop-i.invariant.run_long)) (keys_fit c.loop-i.invariant c.loop-i-test.true c.requires.1 c.requires.0))

pub put_at-requires : goal.put_at-requires
put_at-requires c = let b = (sorting_pair c.loop-i.invariant c.loop-i-test.true c.requires.0).few in (let p = (taken_place (omega (arith, c.loop-i.invariant.run_long)) c.find_place-at.ensures).inside in omega arith, omega (arith, c.loop-i.invariant.run_long), omega arith)

pub offset_bounds-rows-key : goal.offset_bounds-rows-key
offset_bounds-rows-key c = let b = (sorting_pair c.loop-i.invariant c.loop-i-test.true c.requires.0).few in omega arith

pub bounds-rows-key : goal.bounds-rows-key
bounds-rows-key c = (sorting_pair c.loop-i.invariant c.loop-i-test.true c.requires.0).key_below

pub overflow_add-value : goal.overflow_add-value
overflow_add-value c = let b = key_step (sorting_pair c.loop-i.invariant c.loop-i-test.true c.requires.0) _ c.size_in.ensures.0 in omega arith

pub offset_bounds-rows-value : goal.offset_bounds-rows-value
offset_bounds-rows-value c = let b = key_step (sorting_pair c.loop-i.invariant c.loop-i-test.true c.requires.0) _ c.size_in.ensures.0 in omega arith

pub bounds-rows-value : goal.bounds-rows-value
bounds-rows-value c = (key_step (sorting_pair c.loop-i.invariant c.loop-i-test.true c.requires.0) _ c.size_in.ensures.0).0

pub overflow_add-key : goal.overflow_add-key
overflow_add-key c = let b = value_few (sorting_pair c.loop-i.invariant c.loop-i-test.true c.requires.0) _ _ c.size_in.ensures.0 c.size_in-in-loop-i.ensures.0 in omega arith

pub loop-i-preserved : goal.loop-i-preserved
loop-i-preserved c = sorting_next c.loop-i.invariant c.loop-i-test.true c.requires.1 (taken_place (omega (arith, c.loop-i.invariant.run_long)) c.find_place-at.ensures) c.put_at.ensures (λ e. elim c.if-at-i.branch [ then-at-i w ↦ never (sym w.rising-is ∙ e) | else-at-i w ↦ (sym w.rising-is ∙ e, w.if-at-i.false) ]) c.find_place-at.auto.out c.size_in.ensures.0 c.size_in-in-loop-i.ensures.0

pub shape_of-run : goal.shape_of-run
shape_of-run c = c.loop-i.invariant.run_long

pub shape_of-out : goal.shape_of-out
shape_of-out c = c.loop-i.invariant.out_long

pub returns : goal.returns
returns c = sorting_end c.loop-i.invariant c.loop-i-test.false
