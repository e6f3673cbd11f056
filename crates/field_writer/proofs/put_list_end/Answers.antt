-- `put_list_end` meets its contract. A 106 after elements.
use native.Mathlib.Omega.{arith}
use Rattle.layout.proofs.Puts.{put_same, put_none}
use Rattle.canonical_fields.proofs.Leads.{list_over, list_closed}
use Rattle.field_writer.proofs.Own.{byte_put, list_end_room}
use Rattle.field_writer.proofs.put_list_end.Goals as goal

pub returns-then-n-eq0 : goal.returns-then-n-eq0
returns-then-n-eq0 c = put_same (list_over _ c.if-n-eq0.true) (put_none _ _)

pub bounds-out-at : goal.bounds-out-at
bounds-out-at c = let r = list_end_room _ _ _ c.if-n-eq0.false c.requires in omega arith

pub returns : goal.returns
returns c = put_same (list_closed _ c.if-n-eq0.false) (byte_put _ _ _)
