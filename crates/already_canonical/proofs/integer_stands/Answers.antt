-- `integer_stands` meets its contract. A 97, and a 98 that is no smaller integer.
use Rattle.already_canonical.proofs.Stands.{tagged_97, tagged_98}
use native.Mathlib.Omega.{arith}
use Rattle.already_canonical.proofs.integer_stands.Goals as goal

pub returns-in-Some : goal.returns-in-Some
returns-in-Some c = λ places lengths parts. tagged_97 c.args.msg.now places lengths _ parts (λ i. omega (arith, c.type_inv.msg i)) c.in-Some.ensures

pub returns : goal.returns
returns c = λ places lengths parts. tagged_98 c.args.msg.now places lengths _ parts (λ i. omega (arith, c.type_inv.msg i)) _ c.in_ok-n.ensures c.big4.ensures.0 (omega arith) c.big4.ensures.1
