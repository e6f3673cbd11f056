-- `put_after` meets its contract. A list ends in a 106; nothing is written for a kind that has nothing there; fields that stand as they are written are copied.
use Rattle.layout.proofs.Puts.{put_same}
use Rattle.field_writer.proofs.Own.{nothing_put, list_after, same_room}
use native.Mathlib.Omega.{arith}
use Rattle.field_writer.proofs.put_after.Goals as goal

pub put_list_end-requires : goal.put_list_end-requires
put_list_end-requires c = let args = c.args in same_room _ _ (list_after args.msg.now args.places.now args.lengths.now args.word _ _ c.kind_in-kind.ensures.0 c.if-kind-eq-LIST.true c.parts_in.ensures.0) c.requires.1

pub returns-then-kind-eq-LIST : goal.returns-then-kind-eq-LIST
returns-then-kind-eq-LIST c = let args = c.args in put_same (list_after args.msg.now args.places.now args.lengths.now args.word _ _ c.kind_in-kind.ensures.0 c.if-kind-eq-LIST.true c.parts_in.ensures.0) c.put_list_end.ensures

pub returns-then-not-matches : goal.returns-then-not-matches
returns-then-not-matches c = let args = c.args in
    nothing_put args.msg.now args.places.now args.lengths.now args.word _ _ _ c.kind_in-kind.ensures.0 (c.if-kind-eq-LIST.false, (λ e. grind arith), (λ e. grind arith), (λ e. grind arith))
