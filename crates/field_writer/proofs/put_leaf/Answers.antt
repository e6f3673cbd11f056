-- `put_leaf` meets its contract. Bytes that stand as they are written are copied.
use Rattle.layout.proofs.Puts.{put_then}
use Rattle.field_writer.proofs.put_leaf.Goals as goal

pub returns : goal.returns
returns c = put_then c.put_lead-end.ensures c.put_after.ensures
