-- `read_characters` meets its contract.
use Rattle.term_reader.proofs.Characters.{characters_none, characters_deep, characters_full, characters_got}
use native.Mathlib.Omega.{arith}
use mathlib.Core.Path.{refl}
use Rattle.term_reader.proofs.read_characters.Goals as goal

pub returns-then-count-eq0 : goal.returns-then-count-eq0
returns-then-count-eq0 c = λ given m cs same near. characters_none given m cs _ _ _ _ _ _ _ _ _ _ same c.if-count-eq0.true near (omega arith) refl

pub returns-then-deep-eq0 : goal.returns-then-deep-eq0
returns-then-deep-eq0 c = λ given m cs same near. characters_deep given m cs _ _ _ _ _ _ _ _ _ _ same c.if-count-eq0.false c.if-deep-eq0.true

pub returns-then-c-row : goal.returns-then-c-row
returns-then-c-row c = λ given m cs same near. characters_full given m cs _ _ _ _ _ _ _ _ _ _ same c.if-deep-eq0.false (omega arith) (omega (arith, c.if-c-row.true))

pub overflow_add-place : goal.overflow_add-place
overflow_add-place c = let f = c.requires.5 c.if-count-eq0.false in omega arith

pub put_characters-requires : goal.put_characters-requires
put_characters-requires c = let f = c.requires.5 c.if-count-eq0.false in (omega arith, omega arith, omega arith, omega arith)

pub returns : goal.returns
returns c = λ given m cs same near. characters_got given m cs _ _ _ _ _ _ _ _ _ _ same c.if-deep-eq0.false near (omega arith) (c.requires.5 c.if-count-eq0.false) c.put_characters.ensures
