-- `old_reference_fields` meets its contract.
use mathlib.Core.Path.{sym, ap, ◌∙◌}
use Rattle.std.specs.Prelude.{Err}
use native.Mathlib.Omega.{arith}
use Rattle.term_head.proofs.LaterFields.{old_short, old_words, old_creation, old_there}
use Rattle.term_head.proofs.old_reference_fields.Goals as goal
use Rattle.term_head.proofs.old_reference_fields.Goals.{then-not-words_fit-via-then-not-words_fit, then-not-words_fit-via-else-not-words_fit+then-not-creation_fits}

pub returns-then-msg-at-lt5 : goal.returns-then-msg-at-lt5
returns-then-msg-at-lt5 c = λ flags rows. ap Err c.cut.ensures ∙ old_short _ _ _ _ _ (omega arith) c.if-msg-at-lt5.true

pub returns-then-not-words_fit : goal.returns-then-not-words_fit
returns-then-not-words_fit c = λ flags rows.
    ap Err c.broken.ensures ∙ elim c.then-not-words_fit.branch [
      | then-not-words_fit-via-then-not-words_fit w ↦ old_words _ _ _ _ _ (omega arith) c.if-msg-at-lt5.false (sym c.words_fit.ensures ∙ w.if-not-words_fit.true)
      | then-not-words_fit-via-else-not-words_fit+then-not-creation_fits w ↦ old_creation _ _ _ _ _ (omega arith) c.if-msg-at-lt5.false (sym w.creation_fits.ensures ∙ w.if-not-creation_fits.true)
    ]

pub returns : goal.returns
returns c = λ flags rows. old_there _ _ _ _ _ (omega arith) c.if-msg-at-lt5.false (sym c.words_fit.ensures ∙ c.if-not-words_fit.false) (sym c.creation_fits.ensures ∙ c.if-not-creation_fits.false)
