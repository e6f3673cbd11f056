-- `fit` meets its contract.
use native.Mathlib.Omega.{arith}
use Rattle.term_head.proofs.Words.{fit_kind, fit_next, fit_count, fit_all}
use Rattle.term_head.proofs.fit.Goals as goal
use Rattle.term_head.proofs.fit.Goals.{then-kind-ge-WORD_KINDS-via-then-kind-ge-WORD_KINDS, then-kind-ge-WORD_KINDS-via-else-kind-ge-WORD_KINDS+then-next-ge-WORD_OFFSETS, then-kind-ge-WORD_KINDS-via-else-kind-ge-WORD_KINDS+else-next-ge-WORD_OFFSETS+then-count-ge-WORD_COUNTS}

pub returns-then-kind-ge-WORD_KINDS : goal.returns-then-kind-ge-WORD_KINDS
returns-then-kind-ge-WORD_KINDS c =
    elim c.then-kind-ge-WORD_KINDS.branch [
      | then-kind-ge-WORD_KINDS-via-then-kind-ge-WORD_KINDS w ↦ fit_kind _ _ _ w.if-kind-ge-WORD_KINDS.true
      | then-kind-ge-WORD_KINDS-via-else-kind-ge-WORD_KINDS+then-next-ge-WORD_OFFSETS w ↦ fit_next _ _ _ (omega arith) w.if-next-ge-WORD_OFFSETS.true
      | then-kind-ge-WORD_KINDS-via-else-kind-ge-WORD_KINDS+else-next-ge-WORD_OFFSETS+then-count-ge-WORD_COUNTS w ↦ fit_count _ _ _ (omega arith) (omega arith) w.if-count-ge-WORD_COUNTS.true
    ]

pub returns : goal.returns
returns c = fit_all _ _ _ (omega arith) (omega arith) (omega arith)
