use Rattle.text.proofs.Ascii.{Over}
use Rattle.text.proofs.ascii8.Given as goal

abbrev pub invariant-loop-b : goal.invariant-loop-b
invariant-loop-b l = Over l.s l.b-iterator.iter.rest.now l.word
