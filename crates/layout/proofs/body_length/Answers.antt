-- `body_length` meets its contract. Case by case; bits are as many bytes as before.
use Rattle.layout.proofs.Bodies.{bits_inside, body_bits, length_bits}
use lib.ListN.{length}
use native.Mathlib.Omega.{arith}
use mathlib.Core.Path.{sym, ap, ◌∙◌}
use Rattle.layout.proofs.body_length.Goals as goal

pub returns-in-Bits : goal.returns-in-Bits
returns-in-Bits c = let args = c.args in
    let i = bits_inside args.msg.now args.places.now args.body _ _ _ c.in-Bits.is c.requires in (sym (ap length (body_bits args.msg.now args.places.now args.body _ _ _ c.in-Bits.is) ∙ length_bits _ _ _ _ i.0), omega arith)
