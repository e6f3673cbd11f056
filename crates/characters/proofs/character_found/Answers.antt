-- `character_found` meets its contract. By the content: only an integer 0 to 255 is a character.
use mathlib.Core.Path.{sym, ◌∙◌}
use native.Mathlib.Omega.{arith}
use Rattle.canonical_fields.proofs.Leads.{sound_whole}
use Rattle.characters.proofs.Characters.{character_whole, other_content}
use Rattle.characters.proofs.character_found.Goals as goal

pub character-requires : goal.character-requires
character-requires c = let args = c.args in
    sound_whole args.msg.now args.places.now _ _ _ (sym c.content.ensures ∙ c.in-Whole.is) c.requires.sound

pub returns-in-Whole : goal.returns-in-Whole
returns-in-Whole c = let args = c.args in
    character_whole args.msg.now args.places.now _ _ _ _ _ (sym c.content.ensures ∙ c.in-Whole.is) c.character.ensures

pub returns-in_default : goal.returns-in_default
returns-in_default c = let args = c.args in
    other_content args.msg.now args.places.now _ _ (λ z n e. c.in_default.not-Whole z n (c.content.ensures ∙ e)) c.requires.sound (λ i. omega (arith, c.type_inv.msg i))
