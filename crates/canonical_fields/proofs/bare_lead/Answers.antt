-- `bare_lead` meets its contract. By the kind.
use Rattle.canonical_fields.specs.Shape.{before}
use Rattle.row_fields.specs.Meaning.{bare}
use Rattle.term_spec.specs.Numbers.{in_bytes}
use Rattle.term_spec.specs.Term.{Label}
use Rattle.canonical_fields.proofs.Leads.{says, only_tagged, bare_is, bare_export}
use mathlib.Core.Path.{refl, ap}
use native.Mathlib.Omega.{arith}
use Rattle.canonical_fields.proofs.bare_lead.Goals as goal

pub returns-in-4 : goal.returns-in-4
unfolding bare
returns-in-4 c = let args = c.args in
    λ m places. says (ap (λ (l : Label). before l args.n) (bare_is args.kind 4 c.in-4.is)) (c.tuple_lead.ensures m places)

pub returns-in-5 : goal.returns-in-5
unfolding bare
returns-in-5 c = let args = c.args in
    λ m places. says (ap (λ (l : Label). before l args.n) (bare_is args.kind 5 c.in-5.is)) (c.list_lead.ensures m places)

pub returns-in-6 : goal.returns-in-6
unfolding bare before
returns-in-6 c = let args = c.args in
    λ m places. says (ap (λ (l : Label). before l args.n) (bare_is args.kind 6 c.in-6.is)) (only_tagged _ _ _ c.tagged.ensures refl m places)

pub returns-in-9 : goal.returns-in-9
unfolding bare before
returns-in-9 c = let args = c.args in
    λ m places. says (ap (λ (l : Label). before l args.n) (bare_is args.kind 9 c.in-9.is)) (only_tagged _ _ _ c.tagged-in-9.ensures refl m places)

pub returns-in_default : goal.returns-in_default
unfolding before in_bytes
returns-in_default c = λ m places. says (ap (λ (l : Label). before l c.args.n) (bare_export _ (λ e. omega arith) (λ e. omega arith) (λ e. omega arith) (λ e. omega arith))) (only_tagged _ _ _ c.tagged-in_default.ensures refl m places)
