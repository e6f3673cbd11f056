-- `put_hex` meets its contract. Each byte stores two digits after those before it.
use Rattle.std.proofs.Common.{arith}
use Rattle.bench_line.proofs.Laws.{hex_none, hex_put, hex_all}
use Rattle.bench_line.proofs.put_hex.Goals as goal

pub loop-x-init : goal.loop-x-init
loop-x-init c = (hex_none _ _ c.args.bytes.now, omega arith)

pub loop-x-preserved : goal.loop-x-preserved
loop-x-preserved c = (hex_put c.args.bytes.now c.loop-x.x-index c.loop-x.invariant.0 (omega arith) c.digit.ensures c.digit-in-loop-x.ensures, omega arith)

pub returns : goal.returns
returns c = (hex_all c.args.bytes.now c.loop-x.x-index c.loop-x.invariant.0 (omega arith), omega arith)
