-- `read_outermost` meets its contract.
use Rattle.term_head.specs.Code.{wanted_of}
use Rattle.term_reader.proofs.Runs.{run_one}
use Rattle.reader.proofs.read_outermost.Goals as goal

pub returns : goal.returns
unfolding wanted_of
returns c = run_one _ _ _ _ _ _ _ _ _ _ c.read_run.ensures.rows_stored
