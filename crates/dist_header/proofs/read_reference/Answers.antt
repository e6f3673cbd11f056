-- `read_reference` meets its contract.
use Prim.Native.Nat.{◌+◌}
use native.Mathlib.Omega.{arith}
use Rattle.dist_header.proofs.Standing.{length_width_is, length_small, spells_end, spells_cached, spells_cut_length, spells_cut_text, spells_new}
use Rattle.dist_header.proofs.read_reference.Goals as goal

pub returns-then-packet-at : goal.returns-then-packet-at
returns-then-packet-at c = let a = c.args in spells_end a.packet.now a.half a.width a.at c.if-packet-at.true

pub returns-then-half-lt8 : goal.returns-then-half-lt8
returns-then-half-lt8 c = let a = c.args in spells_cached a.packet.now a.half a.width a.at c.from.result (omega arith) c.if-half-lt8.true c.from.ensures (omega (arith, c.from.ensures))

pub returns-then-packet-at-2 : goal.returns-then-packet-at-2
returns-then-packet-at-2 c = let a = c.args in spells_cut_length a.packet.now a.half a.width a.at (omega arith) (omega arith) (omega arith)

pub number-size-requires : goal.number-size-requires
number-size-requires c = let p = c.requires in (length_width_is _ p.width_least p.width_most, omega arith)

pub returns-then-packet-from : goal.returns-then-packet-from
returns-then-packet-from c = let a = c.args in
    spells_cut_text a.packet.now a.half a.width a.at (omega arith) (omega arith) c.number-size.result c.number-size.ensures (omega arith) (omega arith)

pub returns : goal.returns
returns c = let a = c.args in
    spells_new a.packet.now a.half a.width a.at (omega arith) (omega arith) c.number-size.result c.number-size.ensures (omega arith)
    c.from.result (omega arith) c.from.ensures (omega (arith, c.from.ensures)) (omega arith)
    (omega (arith, length_small a.packet.now (a.at + 1) a.width (λ i. omega (arith, c.type_inv.packet i)) (omega arith) (omega arith)))
