use Rattle.term_reader.proofs.Characters.{Put}
use Rattle.term_reader.proofs.put_characters.Given as goal

abbrev pub invariant-loop-i : goal.invariant-loop-i
invariant-loop-i l = Put l.initial.table l.at l.row l.whole l.table l.i
