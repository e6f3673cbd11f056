-- `put_line` meets its contract. What is put stays inside dst.
use Rattle.io.specs.Counts.{IsPrefixLen}
use Rattle.vectors.proofs.word.put_line.Given as goal

abbrev pub invariant-loop-i : goal.invariant-loop-i
invariant-loop-i l = IsPrefixLen l.next l.dst
