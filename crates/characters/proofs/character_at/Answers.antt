-- `character_at` meets its contract. What is read straight is the character; no other kind than an integer is one; the rest by its content.
use native.Mathlib.Omega.{arith}
use Rattle.characters.proofs.Characters.{character_by, no_character}
use Rattle.characters.proofs.character_at.Goals as goal

pub returns-in_default-kind : goal.returns-in_default-kind
returns-in_default-kind c = let args = c.args in
    character_by args.msg.now args.places.now args.lengths.now args.word _ _ c.kind_in-kind.ensures.0 c.offset_in.ensures.0 (no_character args.msg.now args.places.now args.lengths.now _ _ (λ e. grind arith) (λ e. grind arith))
