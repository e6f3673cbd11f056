-- `put_characters` meets its contract. The loop has stored the rows of the first i characters.
use Rattle.term_reader.proofs.Characters.{put_none, put_more, put_all}
use native.Mathlib.Omega.{arith}
use Rattle.term_reader.proofs.put_characters.Goals as goal

pub loop-i-init : goal.loop-i-init
loop-i-init c = put_none _ _ _ _

pub loop-i-preserved : goal.loop-i-preserved
loop-i-preserved c = put_more _ _ _ _ _ _ _ c.pack.ensures c.loop-i.invariant

pub shape_of-table : goal.shape_of-table
shape_of-table c = c.loop-i.invariant.long

pub returns : goal.returns
returns c = put_all _ _ _ _ _ _ _ c.loop-i.invariant (omega arith) (omega arith)
