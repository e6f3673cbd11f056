-- `write_payload` meets its contract. The table after reading holds the terms that were read, by `message_rows`; the rest is what writing them answers.
use Rattle.writer.proofs.Messages.{message_rows, message_written, message_refused}
use Rattle.term_spec.proofs.Text.{under_all}
use native.Mathlib.Omega.{arith}
use Rattle.std.proofs.lemmas.Result.{err_from_is_err_and}
use Rattle.writer.proofs.write_payload.Goals as goal

pub write_and_clear-requires : goal.write_and_clear-requires
write_and_clear-requires c = message_rows c.read_payload.ensures (omega arith) (under_all c.args.msg.now (λ i _. omega (arith, c.type_inv.msg i))) c.in_ok-read.was

pub returns : goal.returns
returns c = message_written c.read_payload.ensures (omega arith) (under_all c.args.msg.now (λ i _. omega (arith, c.type_inv.msg i))) c.in_ok-read.was c.write_and_clear.ensures c.read_payload.auto.table

pub returns-in_err-read : goal.returns-in_err-read
returns-in_err-read c = let p = err_from_is_err_and c.from_residual.result c.from_residual.ensures.1 in
    rw (p.1, p.2) (message_refused c.read_payload.ensures (omega arith) (under_all c.args.msg.now (λ i _. omega (arith, c.type_inv.msg i))) _ c.in_err-read.was)
