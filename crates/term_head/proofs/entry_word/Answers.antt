-- `entry_word` meets its contract.
use mathlib.Core.Path.{refl, ap, ◌∙◌, sym}
use lib.IntN.{pos}
use Rattle.term_spec.specs.Head.{forms, form_in, fields, atom_ext, binary_ext, integer_ext, new_float_ext, small_integer_ext}
use Rattle.term_spec.specs.Numbers.{signed32}
use Rattle.term_spec.specs.Text.{utf_8, coding_of}
use Rattle.term_head.specs.Code.{fields_of}
use Rattle.term_head.specs.Quick.{quick_word}
use Rattle.term_head.proofs.Tags.{at_tag}
use Rattle.term_head.proofs.entry_word.Goals as goal

pub returns-in-119 : goal.returns-in-119
unfolding form_in forms coding_of
returns-in-119 c = λ w e given rows. sym e ∙ c.word_of.ensures ∙ ap quick_word (c.atom.ensures _ rows ∙ at_tag _ _ _ _ _ 119 c.in-119.is (atom_ext utf_8 1) refl)

pub returns-in-97 : goal.returns-in-97
unfolding form_in forms fields_of fields
returns-in-97 c = λ w e given rows. sym e ∙ c.word_of-in-97.ensures ∙ ap quick_word (c.integer.ensures pos rows ∙ at_tag _ _ _ _ _ 97 c.in-97.is small_integer_ext refl)

pub returns-in-98 : goal.returns-in-98
unfolding form_in forms fields_of fields
returns-in-98 c = λ w e given rows. sym e ∙ c.word_of-in-98.ensures ∙ ap quick_word (c.integer-in-98.ensures signed32 rows ∙ at_tag _ _ _ _ _ 98 c.in-98.is integer_ext refl)

pub returns-in-109 : goal.returns-in-109
unfolding form_in forms
returns-in-109 c = λ w e given rows. sym e ∙ c.word_of-in-109.ensures ∙ ap quick_word (c.binary.ensures _ rows ∙ at_tag _ _ _ _ _ 109 c.in-109.is binary_ext refl)

pub returns-in-70 : goal.returns-in-70
unfolding form_in forms
returns-in-70 c = λ w e given rows. sym e ∙ c.word_of-in-70.ensures ∙ ap quick_word (c.float.ensures _ rows ∙ at_tag _ _ _ _ _ 70 c.in-70.is new_float_ext refl)
