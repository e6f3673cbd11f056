-- `no_trail` meets its contract. No number and no body are no bytes.
use Rattle.term_spec.specs.Numbers.{in_bytes}
use Rattle.canonical_fields.proofs.Leads.{numbers_lay}
use native.Mathlib.Omega.{arith}
use mathlib.Core.Path.{refl}
use Rattle.canonical_fields.proofs.no_trail.Goals as goal

pub returns : goal.returns
unfolding in_bytes
returns c = numbers_lay _ _ _ _ _ _ c.laid.ensures (omega arith) (omega arith) (omega arith) refl
