-- `settle` meets its contract.
use Rattle.reader.specs.Code.{rows_in}
use Rattle.std.proofs.Common.{arith}
use Rattle.std.proofs.lemmas.Grind.{common_steps}
use Rattle.reader.proofs.settle.Goals as goal
use Rattle.reader.proofs.settle.Goals.{in-Ok, in-Err}

pub returns : goal.returns
unfolding rows_in
returns c =
    elim c.match-answer.branch [
      | in-Ok w ↦ grind (arith, common_steps)
      | in-Err w ↦ grind (arith, common_steps)
    ]
