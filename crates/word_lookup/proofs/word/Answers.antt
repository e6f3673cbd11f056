-- `word` meets its contract.
use native.Mathlib.Omega.{arith}
use Rattle.word_lookup.proofs.Words.{part_inside, word_part, no_part}
use Rattle.word_lookup.proofs.word.Goals as goal

pub overflow_add-result : goal.overflow_add-result
overflow_add-result c = let h = part_inside _ _ _ _ c.locate_word.ensures _ _ c.in-Ok.is in omega arith

pub slice_bounds-result-end : goal.slice_bounds-result-end
slice_bounds-result-end c = let h = part_inside _ _ _ _ c.locate_word.ensures _ _ c.in-Ok.is in omega arith

pub returns-in-Ok : goal.returns-in-Ok
returns-in-Ok c = word_part _ _ _ _ c.locate_word.ensures _ _ c.in-Ok.is

pub returns-in-Err : goal.returns-in-Err
returns-in-Err c = no_part _ _ _ _ c.locate_word.ensures _ c.in-Err.is
