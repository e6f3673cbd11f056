-- `put_bits` meets its contract. All but the last byte are copied, the last one is stored with its low bits zero: `put_last`.
use Rattle.layout.proofs.Bodies.{put_last}
use Rattle.layout.proofs.put_bits.Goals as goal

pub returns : goal.returns
returns c = let args = c.args in
    let asked = c.requires in
    put_last args.bits args.msg.now args.start args.n c.high_bits-last.result args.at asked.0 asked.1 c.copy.ensures c.high_bits-last.ensures.0 c.high_bits-last.ensures.1 c.put1.ensures
