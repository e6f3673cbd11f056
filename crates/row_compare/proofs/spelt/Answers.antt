-- `spelt` meets its contract.
use Rattle.row_compare.proofs.Lists.{character_differs, character_same, characters_end}
use Rattle.row_compare.proofs.spelt.Goals as goal

pub returns-in_default : goal.returns-in_default
returns-in_default c = character_differs _ _ _ _ _ c.loop-c-test.true c.from.ensures c.loop-c.invariant c.in_default.ensures

pub loop-c-preserved : goal.loop-c-preserved
loop-c-preserved c = character_same _ _ _ _ _ c.loop-c-test.true c.from.ensures c.loop-c.invariant _ c.in-Some.ensures

pub returns : goal.returns
returns c = characters_end _ _ _ _ _ c.loop-c-test.false c.loop-c.invariant c.is_empty.ensures
