-- `list_fits` meets its contract.
use mathlib.Core.Path.{◌∙◌}
use borrow.Author.Tests.{ne_eqb}
use Rattle.atom_list.proofs.ListSize.{fits_not, fits_if}
use Rattle.atom_list.proofs.list_fits.Goals as goal

pub returns-then-places-eq-LIST_BYTES : goal.returns-then-places-eq-LIST_BYTES
returns-then-places-eq-LIST_BYTES c = fits_if _ _ c.if-places-eq-LIST_BYTES.true

pub returns-else-places-eq-LIST_BYTES : goal.returns-else-places-eq-LIST_BYTES
returns-else-places-eq-LIST_BYTES c = λ n. ne_eqb _ _ c.if-places-eq-LIST_BYTES.false ∙ fits_not _ _ c.if-places-eq-LIST_BYTES.false n
