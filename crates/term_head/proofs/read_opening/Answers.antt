-- `read_opening` meets its contract. No 108 of length 0 is left where the head is read.
use Rattle.std.proofs.lemmas.Result.{err_from_is_err_and}
use Rattle.std.proofs.Common.{inl, inr}
use Rattle.term_head.proofs.Openings.{TagAt, opening_at}
use Rattle.term_head.proofs.read_opening.Goals as goal
use Rattle.term_head.proofs.read_opening.Goals.{in-Any, in_default}

pub returns-in_err-head : goal.returns-in_err-head
returns-in_err-head c =
    let p = err_from_is_err_and c.from_residual.result c.from_residual.ensures.1 in
    let tag : TagAt c.args.c.now.msg.now c.args.at c.args.wanted c.match-wanted.place =
    elim c.match-wanted.branch [
      | in-Any w ↦ inl (w.in-Any.is, rw w.place-is w.skip_empty-place.ensures)
      | in_default w ↦ inr (w.in_default.not-Any, w.place-is)
    ] in
    rw (p.1, p.2) (λ rows. opening_at _ _ _ rows _ _ _ tag (c.in_err-head.ensures rows))

pub returns : goal.returns
returns c =
    let tag : TagAt c.args.c.now.msg.now c.args.at c.args.wanted c.match-wanted.place =
    elim c.match-wanted.branch [
      | in-Any w ↦ inl (w.in-Any.is, rw w.place-is w.skip_empty-place.ensures)
      | in_default w ↦ inr (w.in_default.not-Any, w.place-is)
    ] in
    λ rows. opening_at _ _ _ rows _ _ _ tag (c.in_ok-head.ensures rows)
