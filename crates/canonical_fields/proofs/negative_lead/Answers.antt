-- `negative_lead` meets its contract. The canonical form's tests are the code's.
use Rattle.canonical_fields.proofs.Leads.{only_tagged, says, negative_98, negative_big}
use Rattle.canonical_fields.proofs.negative_lead.Goals as goal

pub returns-then-n-le-INTEGER_END : goal.returns-then-n-le-INTEGER_END
returns-then-n-le-INTEGER_END c = only_tagged _ _ _ c.tagged.ensures (negative_98 _ c.requires c.if-n-le-INTEGER_END.true)

pub returns : goal.returns
returns c = λ m places. says (negative_big _ c.if-n-le-INTEGER_END.false) (c.digits_lead.ensures m places)
