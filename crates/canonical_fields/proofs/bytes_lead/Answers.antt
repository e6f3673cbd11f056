-- `bytes_lead` meets its contract. By `bytes_lay`.
use Rattle.canonical_fields.proofs.Leads.{bytes_lay}
use Rattle.canonical_fields.proofs.bytes_lead.Goals as goal

pub returns : goal.returns
returns c = λ m places i. bytes_lay m places _ _ c.tagged.ensures i
