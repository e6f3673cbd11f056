-- `list_lead` meets its contract. 106 for none, else 108.
use Rattle.term_spec.specs.Numbers.{in_bytes}
use Rattle.canonical_fields.proofs.Leads.{only_tagged, list_106, list_108}
use Rattle.canonical_fields.proofs.list_lead.Goals as goal

pub returns-then-n-eq0 : goal.returns-then-n-eq0
unfolding in_bytes
returns-then-n-eq0 c = only_tagged _ _ _ c.tagged.ensures (list_106 _ c.if-n-eq0.true)

pub returns : goal.returns
returns c = only_tagged _ _ _ c.tagged-2.ensures (list_108 _ c.if-n-eq0.false)
