use Rattle.row_fields.proofs.Digits.{Summed}
use Rattle.row_fields.proofs.little.Given as goal

abbrev pub invariant-loop-k : goal.invariant-loop-k
invariant-loop-k l = Summed l.msg l.start l.n l.k l.sum
