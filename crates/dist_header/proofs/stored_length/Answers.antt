-- `stored_length` meets its contract.
use native.Mathlib.Omega.{arith}
use Rattle.dist_header.proofs.Texts.{stored_utf8, stored_latin}
use Rattle.dist_header.proofs.stored_length.Goals as goal

pub returns-then-utf8 : goal.returns-then-utf8
returns-then-utf8 c = let a = c.args in stored_utf8 a.utf8 a.packet.now a.from a.size c.if-utf8.true (omega arith)

pub returns : goal.returns
returns c = let a = c.args in stored_latin a.utf8 a.packet.now a.from a.size _ c.if-utf8.false c.utf8_length.ensures.0
