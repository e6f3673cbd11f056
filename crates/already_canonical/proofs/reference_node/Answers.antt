-- `reference_node` meets its contract. A 90.
use Rattle.already_canonical.proofs.Nodes.{around_90}
use native.Mathlib.Omega.{arith}
use Rattle.already_canonical.proofs.reference_node.Goals as goal

pub returns : goal.returns
returns c = λ places lengths parts. let t = c.in_ok-tagged.ensures in
    around_90 c.args.msg.now places lengths _ _ parts (λ i. omega (arith, c.type_inv.msg i)) _ _ c.if-kind-ne-REFERENCE.false t.inside t.tag_is c.in_ok-end.ensures.0 c.big2.ensures.0 c.big2.ensures.1 (omega arith)
