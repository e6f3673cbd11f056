-- `place_holds_text` meets its contract. The length, then the text.
use mathlib.Core.Path.{◌∙◌}
use borrow.Author.Tests.{lt-leb}
use Rattle.atom_list.proofs.PlaceText.{text_long, text_short}
use Rattle.atom_list.proofs.place_holds_text.Goals as goal

pub returns-then-length-le-LENGTH_MOST : goal.returns-then-length-le-LENGTH_MOST
returns-then-length-le-LENGTH_MOST c = text_short _ _ _ c.if-length-le-LENGTH_MOST.true _ (rw c.from.ensures at c.is_utf8.ensures)

pub returns-else-length-le-LENGTH_MOST : goal.returns-else-length-le-LENGTH_MOST
returns-else-length-le-LENGTH_MOST c = λ n. lt-leb _ 32 c.if-length-le-LENGTH_MOST.false ∙ text_long _ _ _ c.if-length-le-LENGTH_MOST.false n
