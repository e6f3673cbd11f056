-- `ascii_start` meets its contract. The loop's invariant: so many ASCII characters stand at the start, and may.
use mathlib.Core.Path.{ap, ◌∙◌}
use native.Mathlib.Omega.{arith}
use Rattle.text.proofs.Ascii.{begins_none, begins_more, begins_ascii}
use Rattle.text.proofs.ascii_start.Goals as goal

pub loop-eight-init : goal.loop-eight-init
loop-eight-init c = let q = c.chunks_exact.ensures in
    let r = c.take-eight-items.ensures in
    let i = c.into_iter-eight-iterator.ensures.into_iter_gives in (
      omega (arith, ap (λ t. t.n) i, r.count),
      ap (λ t. t.iter.size) i ∙ ap (λ t. t.size) r.source ∙ q.size,
      begins_none _ _ (ap (λ t. t.iter.rest.now) i ∙ ap (λ t. t.rest.now) r.source ∙ q.rest),
    )

pub loop-eight-preserved : goal.loop-eight-preserved
loop-eight-preserved c = let k = c.in-Some.ensures.steps in
    let i = c.loop-eight.invariant in
    (omega (arith, k.1), k.0.0 ∙ i.1, begins_more _ _ _ i.2 _ _ 8 k.0.1.0 (k.0.1.1 ∙ i.1) (c.ascii8.ensures c.if-not-ascii8.false))

pub returns-then-not-ascii8 : goal.returns-then-not-ascii8
returns-then-not-ascii8 c = let i = c.loop-eight.invariant in (omega arith, begins_ascii _ _ _ i.2)

pub returns : goal.returns
returns c = let i = c.loop-eight.invariant in (omega arith, begins_ascii _ _ _ i.2)
