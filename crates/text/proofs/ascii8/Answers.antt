-- `ascii8` meets its contract. The loop's invariant: the number is of the bytes gone over, from the last on.
use mathlib.Core.Path.{ap, ◌∙◌}
use native.Mathlib.Omega.{arith}
use borrow.Author.Tests.{eqb-true}
use Rattle.text.proofs.Ascii.{over_none, over_word, over_fits, over_more, over_all}
use Rattle.text.proofs.ascii8.Goals as goal

pub loop-b-init : goal.loop-b-init
loop-b-init c = over_none _ _ c.requires (ap (λ r. r.iter.rest.now) c.into_iter-b-iterator.ensures.into_iter_gives ∙ ap (λ r. r.rest.now) c.rev-b-items.ensures.source ∙ c.iter.ensures.rest)

pub overflow_mul-word : goal.overflow_mul-word
overflow_mul-word c = omega (arith, over_fits _ _ c.requires _ c.loop-b.invariant _ _ c.in-Some.ensures.steps)

pub overflow_add-word : goal.overflow_add-word
overflow_add-word c =
    let next = over_more _ _ c.requires _ c.loop-b.invariant _ _ (λ i. omega (arith, c.type_inv.s i)) c.in-Some.ensures.steps in
    omega (arith, over_word _ _ c.requires _ next)

pub loop-b-preserved : goal.loop-b-preserved
loop-b-preserved c = rw c.from.ensures (over_more _ _ c.requires _ c.loop-b.invariant _ _ (λ i. omega (arith, c.type_inv.s i)) c.in-Some.ensures.steps)

pub returns : goal.returns
returns c = λ e. over_all _ _ c.requires _ c.loop-b.invariant c.in-None.ensures.steps.0 (eqb-true _ _ e)
