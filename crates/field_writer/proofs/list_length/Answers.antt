-- `list_length` meets its contract. A 106, or a 108 and the 106 that ends it.
use native.Mathlib.Omega.{arith}
use Rattle.field_writer.proofs.Own.{list_length_0, list_length_more}
use Rattle.field_writer.proofs.list_length.Goals as goal

pub returns-then-n-eq0 : goal.returns-then-n-eq0
returns-then-n-eq0 c = (list_length_0 _ c.if-n-eq0.true, omega arith)

pub returns-else-n-eq0 : goal.returns-else-n-eq0
returns-else-n-eq0 c = (list_length_more _ c.if-n-eq0.false, omega arith)
