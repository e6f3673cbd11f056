-- `atom` meets its contract.
use mathlib.Core.Path.{ap, ◌∙◌}
use Rattle.std.specs.Prelude.{Ok, Err}
use native.Mathlib.Omega.{arith}
use Rattle.term_head.proofs.Texts.{atom_cut, atom_bad, atom_there}
use Rattle.term_head.proofs.atom.Goals as goal

pub returns-in_default : goal.returns-in_default
returns-in_default c = λ given rows. ap Err c.cut.ensures ∙ atom_cut _ _ _ _ (omega arith) _ _ c.in_default.ensures.0

pub returns-in-Ok : goal.returns-in-Ok
returns-in-Ok c = λ given rows. ap Ok c.leaf.ensures ∙ atom_there _ _ _ _ (omega arith) _ _ _ c.in-Some.ensures.0 c.in-Ok.ensures.0

pub returns-in-Err : goal.returns-in-Err
returns-in-Err c = λ given rows. atom_bad _ _ _ _ (omega arith) _ _ _ c.in-Some.ensures.0 _ c.in-Err.ensures.0
