-- `port_lead` meets its contract. 89 for an ID under 2^28, else 120.
use Rattle.term_spec.specs.Numbers.{in_bytes}
use Rattle.canonical_fields.proofs.Leads.{only_tagged, port_89, port_120}
use Rattle.canonical_fields.proofs.port_lead.Goals as goal

pub returns-then-id-lt-NEW_PORT_IDS : goal.returns-then-id-lt-NEW_PORT_IDS
unfolding in_bytes
returns-then-id-lt-NEW_PORT_IDS c = λ creation n. only_tagged _ _ _ c.tagged.ensures (port_89 _ _ _ c.if-id-lt-NEW_PORT_IDS.true)

pub returns : goal.returns
unfolding in_bytes
returns c = λ creation n. only_tagged _ _ _ c.tagged-2.ensures (port_120 _ _ _ c.if-id-lt-NEW_PORT_IDS.false)
