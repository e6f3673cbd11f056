-- `header_start` meets its contract.
use mathlib.Core.Path.{sym, ◌∙◌}
use native.Mathlib.Omega.{arith}
use Rattle.dist_header.proofs.Standing.{starts_end, starts_none, starts_cut, starts_some}
use Rattle.dist_header.proofs.header_start.Goals as goal

pub returns-then-packet-at : goal.returns-then-packet-at
returns-then-packet-at c = starts_end c.args.packet.now c.args.at c.if-packet-at.true

pub returns-then-n-eq0 : goal.returns-then-n-eq0
returns-then-n-eq0 c = starts_none c.args.packet.now c.args.at (omega arith) (sym c.from-n.ensures ∙ c.if-n-eq0.true)

pub returns-then-packet-at-2 : goal.returns-then-packet-at-2
returns-then-packet-at-2 c = let a = c.args in
    starts_cut a.packet.now a.at (omega arith) (omega (arith, c.from-n.ensures)) (omega (arith, c.from-n.ensures))

pub returns : goal.returns
returns c = let a = c.args in
    starts_some a.packet.now a.at c.from-n.result c.half_of-spare.result (omega arith) (sym c.from-n.ensures) (omega arith) (omega arith) (omega arith) c.half_of-spare.ensures.0
