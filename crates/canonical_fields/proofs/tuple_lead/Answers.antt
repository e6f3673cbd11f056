-- `tuple_lead` meets its contract. 104 up to 255 elements, else 105.
use Rattle.canonical_fields.proofs.Leads.{only_tagged, tuple_104, tuple_105}
use Rattle.canonical_fields.proofs.tuple_lead.Goals as goal

pub returns-then-n-le255 : goal.returns-then-n-le255
returns-then-n-le255 c = only_tagged _ _ _ c.tagged.ensures (tuple_104 _ c.if-n-le255.true)

pub returns : goal.returns
returns c = only_tagged _ _ _ c.tagged-2.ensures (tuple_105 _ c.if-n-le255.false)
