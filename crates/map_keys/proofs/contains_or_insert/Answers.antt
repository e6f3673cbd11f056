-- `contains_or_insert` meets its contract.
use Rattle.map_keys.proofs.Absent.{absent_inserted}
use Rattle.map_keys.proofs.contains_or_insert.Goals as goal

pub returns-in-Some : goal.returns-in-Some
returns-in-Some c = absent_inserted _ _ _ _ _ _ _ _ c.in-Some.ensures.1 c.in-Some.ensures.0
