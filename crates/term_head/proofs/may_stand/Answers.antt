-- `may_stand` meets its contract.
use Rattle.term_head.specs.Code.{allowed}
use Rattle.term_head.specs.declared.Wanted.{Wanted}
use Rattle.term_head.proofs.Tags.{arity_tag}
use mathlib.Core.Path.{sym, ap, ◌∙◌}
use Rattle.term_head.proofs.may_stand.Goals as goal

pub returns-in-Any : goal.returns-in-Any
unfolding allowed
returns-in-Any c = sym (ap (λ (w : Wanted). allowed w c.args.tag) c.in-Any.is)

pub returns-in-Atom : goal.returns-in-Atom
unfolding allowed
returns-in-Atom c = c.is_atom_tag.ensures ∙ sym (ap (λ (w : Wanted). allowed w c.args.tag) c.in-Atom.is)

pub returns-in-Arity : goal.returns-in-Arity
unfolding allowed
returns-in-Arity c = arity_tag c.args.tag ∙ sym (ap (λ (w : Wanted). allowed w c.args.tag) c.in-Arity.is)
