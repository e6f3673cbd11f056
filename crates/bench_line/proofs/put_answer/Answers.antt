-- `put_answer` meets its contract. The bytes that the answer counts are those in the output.
use mathlib.Core.Path.{sym, ◌∙◌}
use Rattle.io.proofs.Counting.{length-take_of_le}
use Rattle.bench_line.proofs.Laws.{answer_good, answer_fits, answer_refused}
use Rattle.bench_line.proofs.put_answer.Goals as goal

pub slice_bounds-put_ok-end : goal.slice_bounds-put_ok-end
slice_bounds-put_ok-end c = let w = c.write_standalone.ensures in answer_fits _ _ _ (sym c.in-Ok.is ∙ w.write_answered) w.output_left

pub slice_bounds-put_ok-end-in-Ok : goal.slice_bounds-put_ok-end-in-Ok
slice_bounds-put_ok-end-in-Ok c = let w = c.write_standalone.ensures in length-take_of_le _ _ (answer_fits _ _ _ (sym c.in-Ok.is ∙ w.write_answered) w.output_left)

pub returns-in-Ok : goal.returns-in-Ok
returns-in-Ok c = let w = c.write_standalone.ensures in answer_good _ _ _ (sym c.in-Ok.is ∙ w.write_answered) w.output_left c.put_ok.ensures

pub returns-in-Err : goal.returns-in-Err
returns-in-Err c = let w = c.write_standalone.ensures in answer_refused _ (sym c.in-Err.is ∙ w.write_answered) c.put_refused.ensures
