-- `reference_fields` meets its contract.
use mathlib.Core.Path.{sym, ap, ◌∙◌}
use Rattle.std.specs.Prelude.{Err}
use native.Mathlib.Omega.{arith}
use Rattle.term_head.proofs.LaterFields.{reference_short, reference_cut, reference_creation, reference_words, reference_there}
use Rattle.term_head.proofs.reference_fields.Goals as goal
use Rattle.term_head.proofs.reference_fields.Goals.{then-left-width-via-then-left-width, then-left-width-via-else-left-width+then-left-width-2, then-not-creation_fits-via-then-not-creation_fits, then-not-creation_fits-via-else-not-creation_fits+then-not-words_fit}

pub returns-then-left-width : goal.returns-then-left-width
returns-then-left-width c = λ flags rows.
    ap Err c.cut.ensures ∙ elim c.then-left-width.branch [
      | then-left-width-via-then-left-width w ↦ reference_short _ _ _ _ _ (omega arith) _ _ w.if-left-width.true
      | then-left-width-via-else-left-width+then-left-width-2 w ↦ reference_cut _ _ _ _ _ (omega arith) _ _ w.if-left-width.false w.if-left-width-2.true
    ]

pub returns-then-not-creation_fits : goal.returns-then-not-creation_fits
returns-then-not-creation_fits c = λ flags rows.
    ap Err c.broken.ensures ∙ elim c.then-not-creation_fits.branch [
      | then-not-creation_fits-via-then-not-creation_fits w ↦ reference_creation _ _ _ _ _ (omega arith) _ _ c.if-left-width.false c.if-left-width-2.false (sym c.creation_fits.ensures ∙ w.if-not-creation_fits.true)
      | then-not-creation_fits-via-else-not-creation_fits+then-not-words_fit w ↦ reference_words _ _ _ _ _ (omega arith) _ _ c.if-left-width.false c.if-left-width-2.false (sym w.words_fit.ensures ∙ w.if-not-words_fit.true)
    ]

pub returns : goal.returns
returns c = λ flags rows. reference_there _ _ _ _ _ (omega arith) _ _ c.if-left-width.false c.if-left-width-2.false (sym c.creation_fits.ensures ∙ c.if-not-creation_fits.false) (sym c.words_fit.ensures ∙ c.if-not-words_fit.false)
