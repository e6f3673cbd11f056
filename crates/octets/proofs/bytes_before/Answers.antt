-- `bytes_before` meets its contract. The bytes passed are equal.
use native.Mathlib.Omega.{arith}
use Rattle.octets.proofs.ByteOrder.{decided_all, byte_differs}
use Rattle.octets.proofs.bytes_before.Goals as goal

pub returns-then-s-i : goal.returns-then-s-i
returns-then-s-i c = byte_differs _ _ _ _ _ _ c.loop-d.invariant c.requires.0 c.requires.1 (omega arith) (omega arith) c.if-s-i.true

pub returns : goal.returns
returns c = decided_all _ _ _ _ _ _ c.loop-d.invariant c.requires.0 c.requires.1 (omega arith)
