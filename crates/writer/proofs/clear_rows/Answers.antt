-- `clear_rows` meets its contract.
use lib.Seq.{length-take-le}
use Rattle.writer.proofs.Scratch.{all_zero}
use Rattle.writer.proofs.clear_rows.Goals as goal

pub returns : goal.returns
returns c = all_zero _ _ c.requires (c.fill.ensures.after (λ y e. e)) (length-take-le _ _ c.requires.there)
