-- `line` meets its contract.
use mathlib.Core.Path.{refl}
use Prim.Native.Nat.{ℕ}
use lib.ListN.{length-replicate}
use Rattle.bench_line.proofs.Laws.{bench_line}
use Rattle.bench_line.proofs.line.Goals as goal

pub returns-clause-stored : goal.returns-clause-stored
returns-clause-stored c = bench_line c.args.input.now refl refl (length-replicate {A = ℕ} 8192 0) (length-replicate {A = ℕ} 65536 0) c.put_answer.ensures
