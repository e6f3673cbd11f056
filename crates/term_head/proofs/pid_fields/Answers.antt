-- `pid_fields` meets its contract.
use mathlib.Core.Path.{refl, sym, ap, ◌∙◌}
use Rattle.std.specs.Prelude.{Err}
use native.Mathlib.Omega.{arith}
use Rattle.term_head.proofs.LaterFields.{pid_short, pid_cut, pid_id, pid_serial, pid_creation, pid_there}
use Rattle.term_head.proofs.pid_fields.Goals as goal
use Rattle.term_head.proofs.pid_fields.Goals.{then-left-lt8-via-then-left-lt8, then-left-lt8-via-else-left-lt8+then-left-width, then-not-below-via-then-not-below, then-not-below-via-else-not-below+then-not-below-2, then-not-below-via-else-not-below+else-not-below-2+then-not-creation_fits}

pub returns-then-left-lt8 : goal.returns-then-left-lt8
returns-then-left-lt8 c = λ rows.
    ap Err c.cut.ensures ∙ elim c.then-left-lt8.branch [
      | then-left-lt8-via-then-left-lt8 w ↦ pid_short _ _ _ _ _ (omega arith) _ w.if-left-lt8.true
      | then-left-lt8-via-else-left-lt8+then-left-width w ↦ pid_cut _ _ _ _ _ (omega arith) _ w.if-left-lt8.false w.if-left-width.true
    ]

pub returns-then-not-below : goal.returns-then-not-below
returns-then-not-below c = λ rows.
    ap Err c.broken.ensures ∙ elim c.then-not-below.branch [
      | then-not-below-via-then-not-below w ↦ pid_id _ _ _ _ _ (omega arith) _ c.if-left-lt8.false c.if-left-width.false _ _ c.pid_ids.ensures.0 refl (sym c.below.ensures ∙ w.if-not-below.true)
      | then-not-below-via-else-not-below+then-not-below-2 w ↦ pid_serial _ _ _ _ _ (omega arith) _ c.if-left-lt8.false c.if-left-width.false _ _ c.pid_ids.ensures.0 w.pid_serials.ensures.0 (sym w.below-else-not-below.ensures ∙ w.if-not-below-2.true)
      | then-not-below-via-else-not-below+else-not-below-2+then-not-creation_fits w ↦ pid_creation _ _ _ _ _ (omega arith) _ c.if-left-lt8.false c.if-left-width.false _ _ c.pid_ids.ensures.0 w.pid_serials.ensures.0 (sym w.creation_fits.ensures ∙ w.if-not-creation_fits.true)
    ]

pub returns : goal.returns
returns c = λ rows. pid_there _ _ _ _ _ (omega arith) _ c.if-left-lt8.false c.if-left-width.false _ _ c.pid_ids.ensures.0 c.pid_serials.ensures.0 (sym c.below.ensures ∙ c.if-not-below.false) (sym c.below-else-not-below.ensures ∙ c.if-not-below-2.false) (sym c.creation_fits.ensures ∙ c.if-not-creation_fits.false)
