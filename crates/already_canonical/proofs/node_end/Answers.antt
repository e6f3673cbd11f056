-- `node_end` meets its contract. A 119 ends after its text, an 82 after its index.
use Rattle.already_canonical.proofs.Nodes.{node_82, node_119}
use native.Mathlib.Omega.{arith}
use Rattle.already_canonical.proofs.node_end.Goals as goal

pub returns-in-Some : goal.returns-in-Some
returns-in-Some c = let t = c.in-Some.ensures in let e = t.all in (node_82 c.args.msg.now _ t, omega arith)

pub returns : goal.returns
returns c = let w = node_119 c.args.msg.now _ (λ i. omega (arith, c.type_inv.msg i)) c.in_ok-n.ensures in let l = w.1 in (w.0, omega arith)
