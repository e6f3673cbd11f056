-- `put_characters` meets its contract. What is left to store comes to all characters, by `characters_step`.
use Rattle.term_writer.proofs.Strings.{characters_start, characters_step, characters_end, character_there, characters_here, characters_rest, run_below, run_sound}
use native.Mathlib.Omega.{arith}
use mathlib.Core.Path.{ap}
use Rattle.std.specs.Prelude.{is_some}
use Rattle.term_writer.proofs.put_characters.Goals as goal

pub loop-i-init : goal.loop-i-init
loop-i-init c = λ ts cs h e f. characters_start _ _ _ ts cs _ h e f

pub overflow_add-row : goal.overflow_add-row
overflow_add-row c = let b = run_below (characters_rest c.requires.0 c.loop-i.invariant) (omega arith) in omega arith

pub offset_bounds-rows-row : goal.offset_bounds-rows-row
offset_bounds-rows-row c = let b = run_below (characters_rest c.requires.0 c.loop-i.invariant) (omega arith) in omega arith

pub bounds-rows-row : goal.bounds-rows-row
bounds-rows-row c = run_below (characters_rest c.requires.0 c.loop-i.invariant) (omega arith)

pub character_at-c-requires : goal.character_at-c-requires
character_at-c-requires c = run_sound (characters_rest c.requires.0 c.loop-i.invariant) (omega arith)

pub unwrap-requires : goal.unwrap-requires
unwrap-requires c = let a = character_there (characters_here c.requires.0 c.loop-i.invariant) c.loop-i-test.true _ c.character_at-c.ensures in ap is_some a.1

pub loop-i-preserved : goal.loop-i-preserved
loop-i-preserved c = λ ts cs h e f. characters_step (c.loop-i.invariant ts cs h e f) c.loop-i-test.true _ c.character_at-c.ensures c.unwrap.ensures

pub returns : goal.returns
returns c = λ ts cs h e f. characters_end ts (c.loop-i.invariant ts cs h e f) c.loop-i-test.false e f
