-- `skip_empty` meets its contract. The loop's invariant: every 108 of length 0 so far is passed.
use Rattle.term_head.proofs.Openings.{passed_none, passed_more, empty_inside}
use native.Mathlib.Omega.{arith}
use mathlib.Core.Path.{sym, ◌∙◌}
use Rattle.term_head.proofs.skip_empty.Goals as goal

pub loop-place-init : goal.loop-place-init
loop-place-init c = (omega arith, c.requires, passed_none _ _)

pub empty_list_at-requires : goal.empty_list_at-requires
empty_list_at-requires c = c.loop-place.invariant.1

pub overflow_add-place : goal.overflow_add-place
overflow_add-place c = let h = empty_inside _ _ (sym c.empty_list_at.ensures ∙ c.loop-place-test.true) in omega arith

pub loop-place-smaller : goal.loop-place-smaller
loop-place-smaller c = let h = empty_inside _ _ (sym c.empty_list_at.ensures ∙ c.loop-place-test.true) in omega arith

pub loop-place-preserved : goal.loop-place-preserved
loop-place-preserved c = (omega (arith, c.loop-place.invariant.0), empty_inside _ _ (sym c.empty_list_at.ensures ∙ c.loop-place-test.true), passed_more _ _ _ c.loop-place.invariant.2 (sym c.empty_list_at.ensures ∙ c.loop-place-test.true))

pub returns : goal.returns
returns c = record { from = c.loop-place.invariant.0; inside = c.loop-place.invariant.1; stops = sym c.empty_list_at.ensures ∙ c.loop-place-test.false; opens = c.loop-place.invariant.2 }
