-- `positive_lead` meets its contract. The canonical form's tests are the code's.
use Rattle.canonical_fields.proofs.Leads.{only_tagged, says, positive_97, positive_98, positive_big}
use Rattle.canonical_fields.proofs.positive_lead.Goals as goal

pub returns-then-n-lt256 : goal.returns-then-n-lt256
returns-then-n-lt256 c = only_tagged _ _ _ c.tagged.ensures (positive_97 _ c.if-n-lt256.true)

pub returns-then-n-lt-INTEGER_END : goal.returns-then-n-lt-INTEGER_END
returns-then-n-lt-INTEGER_END c = only_tagged _ _ _ c.tagged-then-n-lt-INTEGER_END.ensures (positive_98 _ c.if-n-lt256.false c.if-n-lt-INTEGER_END.true)

pub returns : goal.returns
returns c = λ m places. says (positive_big _ c.if-n-lt-INTEGER_END.false) (c.digits_lead.ensures m places)
