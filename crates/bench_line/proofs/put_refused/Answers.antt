-- `put_refused` meets its contract.
use native.Mathlib.Omega.{arith}
use Rattle.bench_line.proofs.Laws.{refused_put}
use Rattle.bench_line.proofs.put_refused.Goals as goal

pub returns : goal.returns
returns c =
    refused_put _ _ c.put_text-a.ensures c.put_decimal-b.ensures.0 c.put_decimal-b.ensures.1 c.put_text-c.ensures c.put_decimal-d.ensures.0 c.put_decimal-d.ensures.1
    c.put_text.ensures (omega arith)
