-- `repeat` meets its contract. What is put stays inside dst.
use Rattle.io.specs.Counts.{IsPrefixLen}
use Rattle.vector_lines.proofs.repeat.Given as goal

abbrev pub invariant-loop : goal.invariant-loop
invariant-loop l = IsPrefixLen l.next l.dst
