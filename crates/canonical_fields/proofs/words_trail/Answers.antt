-- `words_trail` meets its contract. Words stand as they are in the message: `words_lay`.
use Rattle.canonical_fields.proofs.Leads.{words_lay}
use Rattle.canonical_fields.proofs.words_trail.Goals as goal

pub returns : goal.returns
returns c = λ n m places i b. words_lay m places _ _ _ n c.laid.ensures i b
