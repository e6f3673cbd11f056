-- `bits_lead` meets its contract. By `bits_lay`.
use Rattle.canonical_fields.proofs.Leads.{bits_lay}
use Rattle.canonical_fields.proofs.bits_lead.Goals as goal

pub returns : goal.returns
returns c = λ m places i one. bits_lay m places _ _ _ c.tagged_twice.ensures i one
