-- The functions that hash rows and pairs call each other and meet their contracts: each level counts 2, and `hash_rows`, which calls `hash_pairs` at its own level, one more.
use mathlib.Core.Path.{◌∙◌}
use native.Mathlib.Omega.{arith}
use Rattle.term_hash.proofs.Steps.{rows_start, rows_next, map_next, rows_ended, no_level, pairs_start, pairs_next, pairs_ended}
use Rattle.term_hash.proofs.+hash.Goals as goal
use Rattle.term_hash.proofs.+hash.Goals.{hash_rows-then-unordered-ne0, hash_rows-else-unordered-ne0}

pub hash_pairs-returns-then-levels-eq0 : goal.hash_pairs-returns-then-levels-eq0
hash_pairs-returns-then-levels-eq0 t c = (no_level _ _ _ _ _ _ c.if-levels-eq0.true, c.requires.1)

pub hash_pairs-loop-init : goal.hash_pairs-loop-init
hash_pairs-loop-init t c = (c.if-levels-eq0.false, c.requires.1, omega arith, pairs_start _ _ _ _ _ _ c.if-levels-eq0.false)

pub hash_pairs-loop-preserved : goal.hash_pairs-loop-preserved
hash_pairs-loop-preserved t c = (c.if-levels-eq0.false, c.add-sum.ensures.1, omega arith, pairs_next _ _ _ _ _ _ _ c.loop.invariant.3 c.loop-test.true _ _ _ c.pair_size-size.ensures.0 c.hash_rows-own.ensures.0 c.add-sum.ensures.0)

pub hash_pairs-returns : goal.hash_pairs-returns
hash_pairs-returns t c = (pairs_ended _ _ _ _ _ _ _ c.loop.invariant.3 c.loop-test.false, c.loop.invariant.1)

pub hash_rows-loop-i-init : goal.hash_rows-loop-i-init
hash_rows-loop-i-init t c = (c.requires.1, rows_start _ _ _ _ _ _)

pub hash_rows-loop-i-preserved : goal.hash_rows-loop-i-preserved
hash_rows-loop-i-preserved t c =
    elim c.if-unordered-ne0.branch [
      | hash_rows-then-unordered-ne0 w ↦ (
        omega (arith, w.sum-is, w.hash_pairs-sum.ensures.1),
        map_next _ _ _ _ _ _ _ _ c.loop-i.invariant.1 c.loop-i-test.true _ _ _ c.row_at-w.ensures c.hash_row-sum.ensures.0 c.unordered_rows-unordered.ensures.0 w.if-unordered-ne0.true _ _ w.parts_in-pairs.ensures.0 (w.sum-is ∙ w.hash_pairs-sum.ensures.0),
      )
      | hash_rows-else-unordered-ne0 w ↦ (
        omega (arith, w.sum-is, c.hash_row-sum.ensures.1),
        rows_next _ _ _ _ _ _ _ _ c.loop-i.invariant.1 c.loop-i-test.true _ _ _ c.row_at-w.ensures (w.sum-is ∙ c.hash_row-sum.ensures.0) c.unordered_rows-unordered.ensures.0 w.if-unordered-ne0.false,
      )
    ]

pub hash_rows-returns : goal.hash_rows-returns
hash_rows-returns t c = (rows_ended _ _ _ _ _ _ _ _ c.loop-i.invariant.1 c.loop-i-test.false, c.loop-i.invariant.0)
