-- `port_fields` meets its contract.
use mathlib.Core.Path.{sym, ap, ◌∙◌}
use Rattle.std.specs.Prelude.{Err}
use native.Mathlib.Omega.{arith}
use Rattle.term_head.proofs.LaterFields.{port_short, port_cut, port_id, port_creation, port_there}
use Rattle.term_head.proofs.port_fields.Goals as goal
use Rattle.term_head.proofs.port_fields.Goals.{then-left-id-via-then-left-id, then-left-id-via-else-left-id+then-left-id-2, then-not-port_id_fits-via-then-not-port_id_fits, then-not-port_id_fits-via-else-not-port_id_fits+then-not-creation_fits}

pub returns-then-left-id : goal.returns-then-left-id
returns-then-left-id c = λ flags rows.
    ap Err c.cut.ensures ∙ elim c.then-left-id.branch [
      | then-left-id-via-then-left-id w ↦ port_short _ _ _ _ _ (omega arith) _ _ w.if-left-id.true
      | then-left-id-via-else-left-id+then-left-id-2 w ↦ port_cut _ _ _ _ _ (omega arith) _ _ w.if-left-id.false w.if-left-id-2.true
    ]

pub returns-then-not-port_id_fits : goal.returns-then-not-port_id_fits
returns-then-not-port_id_fits c = λ flags rows.
    ap Err c.broken.ensures ∙ elim c.then-not-port_id_fits.branch [
      | then-not-port_id_fits-via-then-not-port_id_fits w ↦ port_id _ _ _ _ _ (omega arith) _ _ c.if-left-id.false c.if-left-id-2.false (sym c.port_id_fits.ensures ∙ w.if-not-port_id_fits.true)
      | then-not-port_id_fits-via-else-not-port_id_fits+then-not-creation_fits w ↦ port_creation _ _ _ _ _ (omega arith) _ _ c.if-left-id.false c.if-left-id-2.false (sym w.creation_fits.ensures ∙ w.if-not-creation_fits.true)
    ]

pub returns : goal.returns
returns c = λ flags rows. port_there _ _ _ _ _ (omega arith) _ _ c.if-left-id.false c.if-left-id-2.false (sym c.port_id_fits.ensures ∙ c.if-not-port_id_fits.false) (sym c.creation_fits.ensures ∙ c.if-not-creation_fits.false)
