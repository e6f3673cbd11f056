-- `take_plain` meets its contract.
use Rattle.std.proofs.lemmas.Result.{err_from_is_err_and}
use Rattle.headed_packets.proofs.Rests.{plain_refused, plain_good}
use Rattle.headed_packets.proofs.take_plain.Goals as goal

pub returns-in_err-payload : goal.returns-in_err-payload
returns-in_err-payload c =
    let p = err_from_is_err_and c.from_residual.result c.from_residual.ensures.1 in
    rw (p.1, p.2) (record {
      takes = record { takes_plain = λ pending_list pending gather. plain_refused _ _ _ _ _ c.args.packet.now pending_list pending gather _ c.in_err-payload.ensures.heads };
      same = c.in_err-payload.ensures.same;
    })

pub returns : goal.returns
returns c = record {
  takes = record { takes_plain = λ pending_list pending gather. plain_good _ _ _ _ _ c.args.packet.now pending_list pending gather _ c.in_ok-payload.ensures.heads };
  same = c.in_ok-payload.ensures.same;
}
