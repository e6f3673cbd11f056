-- `character` meets its contract. By sign and size.
use mathlib.Core.Path.{subst, sym}
use Rattle.std.specs.Prelude.{ℕ, Option}
use Rattle.term_spec.specs.Numbers.{with_sign}
use Rattle.term_spec.specs.Term.{integer}
use Rattle.row_fields.specs.Meaning.{sign}
use Rattle.characters.specs.Code.{CharacterOf}
use Rattle.characters.proofs.Characters.{not_small, tried}
use Rattle.characters.proofs.character.Goals as goal

pub returns-then-negative : goal.returns-then-negative
returns-then-negative c = not_small _ _ c.if-negative.true (c.requires c.if-negative.true)

pub returns : goal.returns
returns c = let args = c.args in
    subst (λ (o : Option ℕ). CharacterOf (integer (with_sign (sign args.negative) args.magnitude)) o) (sym c.ok.ensures.value) (tried _ _ c.if-negative.false c.try_from.result c.try_from.ensures)
