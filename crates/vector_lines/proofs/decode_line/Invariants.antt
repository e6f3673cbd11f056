-- `decode_line` meets its contract. What is put stays inside dst.
use Rattle.io.specs.Counts.{IsPrefixLen}
use Rattle.vector_lines.proofs.decode_line.Given as goal

abbrev pub invariant-loop-word : goal.invariant-loop-word
invariant-loop-word l = IsPrefixLen l.next l.dst
