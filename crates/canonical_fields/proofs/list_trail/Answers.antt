-- `list_trail` meets its contract. 106 after the elements, if there are any.
use Rattle.term_spec.specs.Numbers.{in_bytes}
use Rattle.canonical_fields.proofs.Leads.{says, only_tagged, list_over, list_closed}
use Rattle.canonical_fields.proofs.list_trail.Goals as goal

pub returns-then-n-eq0 : goal.returns-then-n-eq0
returns-then-n-eq0 c = λ m places. says (list_over _ c.if-n-eq0.true) (c.no_trail.ensures m places)

pub returns : goal.returns
unfolding in_bytes
returns c = only_tagged _ _ _ c.tagged.ensures (list_closed _ c.if-n-eq0.false)
