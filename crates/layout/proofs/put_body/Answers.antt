-- `put_body` meets its contract. Case by case; bits ask for as many bytes as they are.
use Rattle.layout.proofs.Bodies.{bits_needs}
use Rattle.layout.proofs.put_body.Goals as goal

pub put_bits-requires : goal.put_bits-requires
put_bits-requires c = let args = c.args in
    bits_needs args.msg.now args.places.now args.body _ _ _ _ _ c.in-Bits.is c.requires
