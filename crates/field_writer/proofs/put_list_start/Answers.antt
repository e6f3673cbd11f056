-- `put_list_start` meets its contract. A 106, or a 108 and the number of elements.
use native.Mathlib.Omega.{arith}
use lib.ListN.{length-set}
use Rattle.layout.proofs.Puts.{put_same}
use Rattle.canonical_fields.proofs.Leads.{list_106}
use Rattle.field_writer.proofs.Own.{byte_put, list_put, list_room, empty_room}
use Rattle.field_writer.proofs.put_list_start.Goals as goal

pub bounds-out-at : goal.bounds-out-at
bounds-out-at c = let r = empty_room _ _ _ c.if-n-eq0.true c.requires.1 in omega arith

pub returns-then-n-eq0 : goal.returns-then-n-eq0
returns-then-n-eq0 c = put_same (list_106 _ c.if-n-eq0.true) (byte_put _ _ _)

pub bounds-out-at-2 : goal.bounds-out-at-2
bounds-out-at-2 c = let r = list_room _ c.args.at _ c.if-n-eq0.false c.requires.1 in omega arith

pub put4-requires : goal.put4-requires
put4-requires c = let r = list_room _ c.args.at _ c.if-n-eq0.false c.requires.1 in (simp length-set (omega arith), omega arith)

pub returns : goal.returns
returns c = list_put _ c.if-n-eq0.false c.put4.ensures
