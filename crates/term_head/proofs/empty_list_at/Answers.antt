-- `empty_list_at` meets its contract.
use mathlib.Core.List.{[]}
use Rattle.term_spec.specs.AtomList.{given_of, lent_list}
use Rattle.term_head.proofs.Openings.{empty_none, empty_some}
use Rattle.term_head.proofs.empty_list_at.Goals as goal

pub returns-in-Some : goal.returns-in-Some
returns-in-Some c = empty_some _ _ (given_of 0 (lent_list 0 [] [])) _ c.in-Some.ensures

pub returns-in-None : goal.returns-in-None
returns-in-None c = empty_none _ _ (given_of 0 (lent_list 0 [] [])) c.in-None.ensures
