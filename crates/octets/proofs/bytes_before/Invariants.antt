use Rattle.octets.proofs.ByteOrder.{DecidedAfter}
use Rattle.octets.proofs.bytes_before.Given as goal

abbrev pub invariant-loop-d : goal.invariant-loop-d
invariant-loop-d l = DecidedAfter l.s l.i l.n l.j l.k l.d
