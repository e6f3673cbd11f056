-- `reference` meets its contract.
use mathlib.Core.Path.{ap, ◌∙◌}
use Rattle.std.specs.Prelude.{Err}
use native.Mathlib.Omega.{arith}
use Rattle.term_head.proofs.Leaves.{reference_short, reference_none, reference_many, reference_there}
use Rattle.term_head.proofs.reference.Goals as goal
use Rattle.term_head.proofs.reference.Goals.{then-words-lt1-via-then-words-lt1, then-words-lt1-via-else-words-lt1+then-words_most-words}

pub returns-then-c-at-lt2 : goal.returns-then-c-at-lt2
returns-then-c-at-lt2 c = λ given flags_are rows. ap Err c.cut.ensures ∙ reference_short _ _ _ _ (omega arith) _ c.if-c-at-lt2.true

pub returns-then-words-lt1 : goal.returns-then-words-lt1
returns-then-words-lt1 c = λ given flags_are rows.
    ap Err c.broken.ensures ∙ elim c.then-words-lt1.branch [
      | then-words-lt1-via-then-words-lt1 w ↦ reference_none _ _ _ _ (omega arith) _ _ c.if-c-at-lt2.false c.big2-words.ensures.0 w.if-words-lt1.true
      | then-words-lt1-via-else-words-lt1+then-words_most-words w ↦ reference_many _ _ _ _ (omega arith) _ _ c.if-c-at-lt2.false c.big2-words.ensures.0 w.if-words-lt1.false _ _ flags_are w.words_most.ensures w.if-words_most-words.true
    ]

pub returns : goal.returns
returns c = λ given flags_are rows. reference_there _ _ _ _ (omega arith) _ _ c.if-c-at-lt2.false c.big2-words.ensures.0 c.if-words-lt1.false _ _ flags_are c.words_most.ensures c.if-words_most-words.false
