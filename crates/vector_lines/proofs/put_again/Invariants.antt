-- `put_again` meets its contract. What is put stays inside dst.
use Rattle.io.specs.Counts.{IsPrefixLen}
use Rattle.vector_lines.proofs.put_again.Given as goal

abbrev pub invariant-loop-i : goal.invariant-loop-i
invariant-loop-i l = IsPrefixLen l.next l.dst
