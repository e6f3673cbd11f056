use mathlib.Core.Path.{◌≡◌}
use Rattle.row_fields.specs.Found.{stripped}
use Rattle.row_fields.proofs.strip.Given as goal

abbrev pub invariant-loop-k : goal.invariant-loop-k
invariant-loop-k l = stripped l.msg l.start l.n ≡ stripped l.msg l.start l.k
