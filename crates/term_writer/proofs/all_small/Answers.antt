-- `all_small` meets its contract. The loop goes on while each term is small, and a small term has one row: `small_step`.
use Rattle.term_writer.proofs.Strings.{small_start, small_step, small_stop, small_end, small_rest, character_none, character_some, run_below, run_sound}
use native.Mathlib.Omega.{arith}
use mathlib.Core.Path.{ap, ◌∙◌}
use mathlib.Core.Bool.{not}
use Rattle.term_writer.proofs.all_small.Goals as goal

pub loop-i-init : goal.loop-i-init
loop-i-init c = λ ts h e. small_start _ _ ts h e

pub overflow_add-row : goal.overflow_add-row
overflow_add-row c = let b = run_below (small_rest c.requires c.loop-i.invariant) (omega arith) in omega arith

pub offset_bounds-rows-row : goal.offset_bounds-rows-row
offset_bounds-rows-row c = let b = run_below (small_rest c.requires c.loop-i.invariant) (omega arith) in omega arith

pub bounds-rows-row : goal.bounds-rows-row
bounds-rows-row c = run_below (small_rest c.requires c.loop-i.invariant) (omega arith)

pub character_at-requires : goal.character_at-requires
character_at-requires c = run_sound (small_rest c.requires c.loop-i.invariant) (omega arith)

pub returns-then-is_none : goal.returns-then-is_none
returns-then-is_none c = λ ts h e. small_stop (c.loop-i.invariant ts h e) c.loop-i-test.true (character_none _ _ c.character_at.ensures (c.is_none.ensures ∙ ap not c.if-is_none.true))

pub loop-i-preserved : goal.loop-i-preserved
loop-i-preserved c = λ ts h e. small_step _ (c.loop-i.invariant ts h e) c.loop-i-test.true (character_some _ _ c.character_at.ensures (c.is_none.ensures ∙ ap not c.if-is_none.false)).1

pub returns : goal.returns
returns c = λ ts h e. small_end (c.loop-i.invariant ts h e) c.loop-i-test.false
