-- `put_line` meets its contract. What is put stays inside dst.
use Rattle.io.specs.Counts.{IsPrefixLen}
use Rattle.vectors.proofs.ask.put_line.Given as goal

abbrev pub invariant-loop-row : goal.invariant-loop-row
invariant-loop-row l = IsPrefixLen l.next l.dst

abbrev pub invariant-loop-offset : goal.invariant-loop-offset
invariant-loop-offset l = IsPrefixLen l.next l.dst

abbrev pub invariant-loop-offset-2 : goal.invariant-loop-offset-2
invariant-loop-offset-2 l = IsPrefixLen l.next l.dst
