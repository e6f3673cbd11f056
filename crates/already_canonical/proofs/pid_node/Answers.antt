-- `pid_node` meets its contract. An 88.
use Rattle.already_canonical.proofs.Nodes.{around_88}
use native.Mathlib.Omega.{arith}
use Rattle.already_canonical.proofs.pid_node.Goals as goal

pub returns : goal.returns
returns c = λ places lengths parts. let t = c.in_ok-tagged.ensures in
    around_88 c.args.msg.now places lengths _ _ parts (λ i. omega (arith, c.type_inv.msg i)) _ c.if-kind-ne-PID.false (omega (arith, t.inside)) t.tag_is c.in_ok-end.ensures.0 (omega arith)
