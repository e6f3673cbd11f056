-- `bare_trail` meets its contract. Only lists have an end.
use Rattle.canonical_fields.specs.Shape.{after}
use Rattle.row_fields.specs.Meaning.{bare}
use Rattle.term_spec.specs.Term.{Label}
use Rattle.canonical_fields.proofs.Leads.{says, bare_is, bare_over}
use mathlib.Core.Path.{ap}
use Rattle.canonical_fields.proofs.bare_trail.Goals as goal

pub returns-then-kind-eq-LIST : goal.returns-then-kind-eq-LIST
unfolding bare
returns-then-kind-eq-LIST c = let args = c.args in
    λ m places. says (ap (λ (l : Label). after l args.n) (bare_is args.kind 5 c.if-kind-eq-LIST.true)) (c.list_trail.ensures m places)

pub returns : goal.returns
returns c = λ m places. says (bare_over _ _ c.if-kind-eq-LIST.false) (c.no_trail.ensures m places)
