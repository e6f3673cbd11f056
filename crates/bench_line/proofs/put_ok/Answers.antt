-- `put_ok` meets its contract.
use native.Mathlib.Omega.{arith}
use Rattle.bench_line.proofs.Laws.{ok_put}
use Rattle.bench_line.proofs.put_ok.Goals as goal

pub returns : goal.returns
returns c = ok_put _ c.put_text-a.ensures c.put_hex-b.ensures.0 c.put_text.ensures (omega arith)
