-- `pid_trail` meets its contract. Three numbers.
use Rattle.canonical_fields.specs.Shape.{after}
use Rattle.canonical_fields.proofs.Leads.{numbers_lay}
use native.Mathlib.Omega.{arith}
use mathlib.Core.Path.{refl}
use Rattle.canonical_fields.proofs.pid_trail.Goals as goal

pub returns : goal.returns
unfolding after
returns c = λ n. numbers_lay _ _ _ _ _ _ c.laid.ensures (omega arith) (omega arith) (omega arith) refl
