-- `at_key` meets its contract: a mark is reached, so from there steps lead where they lead from b.
use Rattle.map_keys.proofs.Marks.{key_led}
use Rattle.map_keys.proofs.at_key.Goals as goal

pub returns-then-row-end : goal.returns-then-row-end
returns-then-row-end c = key_led _ c.requires.1 _ _ _ _ c.if-row-end.true.0 c.if-row-end.true.1 c.mark_before.ensures.0 c.mark_before.ensures.1 c.leads_to.ensures
