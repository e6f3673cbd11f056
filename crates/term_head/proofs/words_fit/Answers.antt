-- `words_fit` meets its contract.
use native.Mathlib.Omega.{arith}
use mathlib.Core.Path.{◌∙◌}
use Rattle.term_head.proofs.LaterFields.{words_none, words_any, words_first}
use Rattle.term_head.proofs.words_fit.Goals as goal
use Rattle.term_head.proofs.words_fit.Goals.{then-words-eq0-via-then-words-eq0, then-words-eq0-via-else-words-eq0+then-width-ne1}

pub returns-then-words-eq0 : goal.returns-then-words-eq0
returns-then-words-eq0 c =
    elim c.then-words-eq0.branch [
      | then-words-eq0-via-then-words-eq0 w ↦ words_none _ _ _ _ w.if-words-eq0.true
      | then-words-eq0-via-else-words-eq0+then-width-ne1 w ↦ words_any _ _ _ _ w.if-words-eq0.false w.if-width-ne1.true
    ]

pub returns : goal.returns
returns c = c.below.ensures ∙ words_first _ _ _ _ c.if-words-eq0.false (omega arith)
