-- `v4_nc` meets its contract.
use mathlib.Core.Path.{refl}
use Rattle.term_spec.specs.Connection.{v4_nc}
use Rattle.context.proofs.Context.v4_nc.Goals as goal

pub returns : goal.returns
unfolding v4_nc
returns c = refl
