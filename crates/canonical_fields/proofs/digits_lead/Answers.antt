-- `digits_lead` meets its contract. By `digits_lays`: at most 8 digits are a 110.
use mathlib.Core.Path.{◌∙◌}
use Rattle.canonical_fields.proofs.Leads.{sign_byte, digits_lays}
use Rattle.canonical_fields.proofs.digits_lead.Goals as goal

pub returns : goal.returns
returns c = digits_lays _ _ c.args.negative _ c.tagged_twice.ensures (c.from.ensures ∙ sign_byte _) c.count_digits-count.ensures.0 c.count_digits-count.ensures.1
