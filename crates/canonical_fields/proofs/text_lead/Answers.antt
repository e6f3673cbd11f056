-- `text_lead` meets its contract. 119 up to 255 bytes, else 118.
use Rattle.canonical_fields.proofs.Leads.{says, atom_119, atom_118}
use Rattle.canonical_fields.proofs.text_lead.Goals as goal

pub returns-then-n-le255 : goal.returns-then-n-le255
returns-then-n-le255 c = λ m places i e. says (atom_119 _ _ e c.if-n-le255.true) (c.tagged.ensures m places i)

pub returns : goal.returns
returns c = λ m places i e. says (atom_118 _ _ e c.if-n-le255.false) (c.tagged-2.ensures m places i)
