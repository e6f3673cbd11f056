-- `read_preamble` meets its contract.
use native.Mathlib.Omega.{arith}
use Rattle.std.proofs.lemmas.Result.{err_from_is_err_and}
use Rattle.packet_preamble.proofs.Preambles.{preamble_empty, preamble_wrong, preamble_short, preamble_plain, preamble_start_refused, preamble_start, preamble_more_refused, preamble_more, preamble_other}
use Rattle.packet_preamble.proofs.read_preamble.Goals as goal
use Rattle.packet_preamble.proofs.read_preamble.Goals.{then-packet-eq0-via-then-packet-eq0, then-packet-eq0-via-else-packet-eq0+then-packet}

pub returns-then-packet-eq0 : goal.returns-then-packet-eq0
returns-then-packet-eq0 c = elim c.then-packet-eq0.branch [
  | then-packet-eq0-via-then-packet-eq0 w ↦ preamble_empty c.args.packet.now w.if-packet-eq0.true
  | then-packet-eq0-via-else-packet-eq0+then-packet w ↦ preamble_wrong c.args.packet.now w.if-packet.true
]

pub returns-then-packet-eq1 : goal.returns-then-packet-eq1
returns-then-packet-eq1 c = preamble_short c.args.packet.now (omega arith) c.if-packet.false c.if-packet-eq1.true

pub returns-in-68 : goal.returns-in-68
returns-in-68 c = preamble_plain c.args.packet.now (omega arith) c.if-packet.false (omega arith) c.in-68.is

pub returns-in_err-read_ids-in-69 : goal.returns-in_err-read_ids-in-69
returns-in_err-read_ids-in-69 c =
    let p = err_from_is_err_and c.from_residual.result c.from_residual.ensures.1 in
    rw (p.1, p.2) (preamble_start_refused c.args.packet.now (omega arith) c.if-packet.false (omega arith) c.in-69.is _ (c.in_err-read_ids-in-69.ensures))

pub returns-in_ok-read_ids-in-69 : goal.returns-in_ok-read_ids-in-69
returns-in_ok-read_ids-in-69 c = preamble_start c.args.packet.now (omega arith) c.if-packet.false (omega arith) c.in-69.is _ (c.in_ok-read_ids-in-69.ensures)

pub returns-in_err-read_ids-in-70 : goal.returns-in_err-read_ids-in-70
returns-in_err-read_ids-in-70 c =
    let p = err_from_is_err_and c.from_residual-in_err-read_ids-in-70.result c.from_residual-in_err-read_ids-in-70.ensures.1 in
    rw (p.1, p.2) (preamble_more_refused c.args.packet.now (omega arith) c.if-packet.false (omega arith) c.in-70.is _ (c.in_err-read_ids-in-70.ensures))

pub returns-in_ok-read_ids-in-70 : goal.returns-in_ok-read_ids-in-70
returns-in_ok-read_ids-in-70 c = preamble_more c.args.packet.now (omega arith) c.if-packet.false (omega arith) c.in-70.is _ (c.in_ok-read_ids-in-70.ensures)

pub returns-in_default : goal.returns-in_default
returns-in_default c = preamble_other c.args.packet.now (omega arith) c.if-packet.false (omega arith) (λ e. omega arith) (λ e. omega arith) (λ e. omega arith)
