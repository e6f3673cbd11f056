-- `judge_new` meets its contract.
use mathlib.Core.Path.{sym, ◌∙◌}
use Rattle.term_spec.specs.Text.{coding_of}
use Rattle.dist_header.proofs.PlaceNaming.{unnamed_told, named_told}
use Rattle.dist_header.proofs.Texts.{text_part}
use Rattle.dist_header.proofs.Judging.{new_again, new_bad, new_long, new_good}
use Rattle.dist_header.proofs.judge_new.Goals as goal

pub returns-then-ne : goal.returns-then-ne
returns-then-ne c = let a = c.args in new_again (coding_of a.utf8) a.packet.now a.place.0 a.from a.size a.i.0 a.naming.now c.requires.0 (named_told _ c.if-ne.ensures)

pub returns-in-Err : goal.returns-in-Err
returns-in-Err c = let a = c.args in
    new_bad (coding_of a.utf8) a.packet.now a.place.0 a.from a.size a.i.0 a.naming.now c.requires.0 (unnamed_told _ c.if-ne.ensures) _ (text_part (coding_of a.utf8) a.packet.now a.from a.size _ c.in-Err.ensures.0)

pub returns-then-stored_length-gt-PLACE_BYTES : goal.returns-then-stored_length-gt-PLACE_BYTES
returns-then-stored_length-gt-PLACE_BYTES c = let a = c.args in
    new_long (coding_of a.utf8) a.packet.now a.place.0 a.from a.size a.i.0 a.naming.now c.requires.0 (unnamed_told _ c.if-ne.ensures)
    (text_part (coding_of a.utf8) a.packet.now a.from a.size _ (sym c.in_default.is ∙ c.check_text.ensures.0)) _ c.stored_length.ensures c.if-stored_length-gt-PLACE_BYTES.true

pub returns : goal.returns
returns c = let a = c.args in
    new_good (coding_of a.utf8) a.packet.now a.place.0 a.from a.size a.i.0 a.naming.now c.requires.0 (unnamed_told _ c.if-ne.ensures)
    (text_part (coding_of a.utf8) a.packet.now a.from a.size _ (sym c.in_default.is ∙ c.check_text.ensures.0)) _ c.stored_length.ensures c.if-stored_length-gt-PLACE_BYTES.false c.requires.3
