-- `creation_fits` meets its contract.
use native.Mathlib.Omega.{arith}
use borrow.Author.Tests.{ne_eqb}
use Rattle.term_head.proofs.LaterFields.{creation_any, creation_one}
use Rattle.term_head.proofs.creation_fits.Goals as goal

pub returns-then-width-ne1 : goal.returns-then-width-ne1
returns-then-width-ne1 c = rw (ne_eqb _ 1 c.if-width-ne1.true) (creation_any _ _ c.if-width-ne1.true)

pub returns-else-width-ne1 : goal.returns-else-width-ne1
returns-else-width-ne1 c = creation_one _ _ c.args.msg.now c.args.at (omega arith) c.below.ensures
