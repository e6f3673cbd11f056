-- `tagged` meets its contract. By `tagged_lays`.
use native.Mathlib.Omega.{arith}
use Rattle.canonical_fields.proofs.Leads.{tagged_lays}
use Rattle.canonical_fields.proofs.tagged.Goals as goal

pub returns : goal.returns
returns c = tagged_lays c.args.tag c.args.width c.args.n c.args.body (cc) (omega arith) c.requires
