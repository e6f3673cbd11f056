-- `put_before` meets its contract. Bytes that stand as they are written are copied; a list is written by its number of elements.
use Rattle.layout.proofs.Puts.{put_same}
use Rattle.already_canonical.proofs.Nodes.{first_room, first_put}
use Rattle.field_writer.proofs.Own.{there_is, list_before, same_room}
use Rattle.field_writer.proofs.put_before.Goals as goal

pub put_list_start-requires : goal.put_list_start-requires
put_list_start-requires c = let args = c.args in (c.parts_in.ensures.1, same_room _ _ (list_before args.msg.now args.places.now args.lengths.now args.word _ _ c.kind_in-kind.ensures.0 c.if-kind-eq-LIST.true c.parts_in.ensures.0) c.requires.1)

pub returns-then-kind-eq-LIST : goal.returns-then-kind-eq-LIST
returns-then-kind-eq-LIST c = let args = c.args in put_same (list_before args.msg.now args.places.now args.lengths.now args.word _ _ c.kind_in-kind.ensures.0 c.if-kind-eq-LIST.true c.parts_in.ensures.0) c.put_list_start.ensures

pub copy-requires-then-is_some : goal.copy-requires-then-is_some
copy-requires-then-is_some c = let args = c.args in
    let a = there_is c.pid_node.result c.if-is_some.ensures (c.pid_node.ensures args.places.now args.lengths.now _) in
    (a.1.first_there, first_room args.msg.now args.places.now args.lengths.now args.word _ _ _ _ _ c.kind_in-kind.ensures.0 c.offset_in-tag.ensures.0 a.1 _ _ c.requires.1)

pub returns-then-is_some : goal.returns-then-is_some
returns-then-is_some c = let args = c.args in
    let a = there_is c.pid_node.result c.if-is_some.ensures (c.pid_node.ensures args.places.now args.lengths.now _) in
    first_put args.msg.now args.places.now args.lengths.now args.word _ _ _ _ _ c.kind_in-kind.ensures.0 c.offset_in-tag.ensures.0 a.1 c.copy-then-is_some.ensures

pub copy-requires-then-is_some-2 : goal.copy-requires-then-is_some-2
copy-requires-then-is_some-2 c = let args = c.args in
    let a = there_is c.reference_node.result c.if-is_some-2.ensures (c.reference_node.ensures args.places.now args.lengths.now _) in
    (a.1.first_there, first_room args.msg.now args.places.now args.lengths.now args.word _ _ _ _ _ c.kind_in-kind.ensures.0 c.offset_in-tag.ensures.0 a.1 _ _ c.requires.1)

pub returns-then-is_some-2 : goal.returns-then-is_some-2
returns-then-is_some-2 c = let args = c.args in
    let a = there_is c.reference_node.result c.if-is_some-2.ensures (c.reference_node.ensures args.places.now args.lengths.now _) in
    first_put args.msg.now args.places.now args.lengths.now args.word _ _ _ _ _ c.kind_in-kind.ensures.0 c.offset_in-tag.ensures.0 a.1 c.copy-then-is_some-2.ensures
