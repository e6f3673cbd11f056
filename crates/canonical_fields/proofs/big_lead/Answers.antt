-- `big_lead` meets its contract. More than 8 digits, the highest not zero, are a bignum with these digits: `big_lays`.
use Rattle.layout.proofs.Bodies.{length_stretch}
use Rattle.canonical_fields.proofs.Leads.{sign_byte, big_lays, big_110, big_111}
use mathlib.Core.Path.{◌∙◌}
use native.Mathlib.Omega.{arith}
use Rattle.canonical_fields.proofs.big_lead.Goals as goal

pub returns-then-n-le255 : goal.returns-then-n-le255
returns-then-n-le255 c = (λ m places h b. big_lays m _ _ h b c.args.negative places _ _ _ c.tagged_twice.ensures (omega arith) (omega arith) (c.from-sign.ensures ∙ sign_byte _) (big_110 _ _ _ (length_stretch m _ _ h.there) c.if-n-le255.true))

pub returns : goal.returns
returns c = (λ m places h b. big_lays m _ _ h b c.args.negative places _ _ _ c.tagged_twice-2.ensures (omega arith) (omega arith) (c.from-sign.ensures ∙ sign_byte _) (big_111 _ _ _ (length_stretch m _ _ h.there) c.if-n-le255.false))
