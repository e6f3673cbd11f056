-- `utf8_reach` meets its contract. The loop's invariant: as many characters as counted stand before the offset.
use native.Mathlib.Omega.{arith}
use Rattle.term_spec.specs.Text.{utf_8}
use Rattle.text.proofs.Characters.{counted_start, counted_all, counted_full, counted_bad, counted_more, ends_inside}
use Rattle.text.proofs.Valid.{bad_inside}
use Rattle.text.proofs.utf8_reach.Goals as goal

pub loop-at-init : goal.loop-at-init
loop-at-init c = let a = c.ascii_start-at.ensures in
    (omega (arith, a.1.inside), a.0, counted_start _ _ a.0 a.1)

pub returns-then-count-eq-CHARACTERS_MOST : goal.returns-then-count-eq-CHARACTERS_MOST
returns-then-count-eq-CHARACTERS_MOST c = (
  λ h. counted_full _ _ _ c.loop-at.invariant.2 h c.if-count-eq-CHARACTERS_MOST.true,
  λ h. let inside = c.loop-at-test.true in absurd (omega arith),
)

pub returns-in-Err : goal.returns-in-Err
returns-in-Err c =
    let l = c.loop-at in
    let e = counted_bad _ _ _ l.invariant.2 l.invariant.1 c.if-count-eq-CHARACTERS_MOST.false _ c.in-Err.ensures in
    let inside = bad_inside utf_8 _ _ e in
    (λ h. e, λ h. absurd (omega arith))

pub overflow_add-count : goal.overflow_add-count
overflow_add-count c = omega arith

pub loop-at-smaller : goal.loop-at-smaller
loop-at-smaller c = let ends = c.in-Ok.ensures in
    omega (arith, ends_inside _ _ _ ends)

pub loop-at-preserved : goal.loop-at-preserved
loop-at-preserved c = let ends = c.in-Ok.ensures in
    let l = c.loop-at in
    ((ends_inside _ _ _ ends).1, omega arith, counted_more _ _ _ l.invariant.2 l.invariant.1 c.if-count-eq-CHARACTERS_MOST.false _ ends)

pub returns : goal.returns
returns c = (λ h. absurd (omega arith), λ h. counted_all _ _ _ c.loop-at.invariant.2 c.loop-at-test.false)
