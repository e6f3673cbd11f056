-- `common_word` meets its contract.
use mathlib.Core.Path.{refl, ap, ◌∙◌, sym}
use Rattle.term_spec.specs.Head.{forms, form_in, atom_cache_ref, atom_ext, list_ext, map_ext, tuple_ext}
use Rattle.term_spec.specs.Text.{latin_1, utf_8, coding_of}
use Rattle.term_head.specs.Quick.{quick_word}
use Rattle.term_head.proofs.Tags.{at_tag}
use Rattle.term_head.proofs.common_word.Goals as goal

pub returns-in-104 : goal.returns-in-104
unfolding form_in forms
returns-in-104 c = λ w e rows. sym e ∙ c.word_of.ensures ∙ ap quick_word (c.tuple.ensures _ rows ∙ at_tag _ _ _ _ _ 104 c.in-104.is (tuple_ext 1) refl)

pub returns-in-105 : goal.returns-in-105
unfolding form_in forms
returns-in-105 c = λ w e rows. sym e ∙ c.word_of-in-105.ensures ∙ ap quick_word (c.tuple-in-105.ensures _ rows ∙ at_tag _ _ _ _ _ 105 c.in-105.is (tuple_ext 4) refl)

pub returns-in-108 : goal.returns-in-108
unfolding form_in forms
returns-in-108 c = λ w e rows. sym e ∙ c.word_of-in-108.ensures ∙ ap quick_word (c.list.ensures _ rows ∙ at_tag _ _ _ _ _ 108 c.in-108.is list_ext refl)

pub returns-in-116 : goal.returns-in-116
unfolding form_in forms
returns-in-116 c = λ w e rows. sym e ∙ c.word_of-in-116.ensures ∙ ap quick_word (c.map.ensures _ rows ∙ at_tag _ _ _ _ _ 116 c.in-116.is map_ext refl)

pub returns-in-82 : goal.returns-in-82
unfolding form_in forms
returns-in-82 c = λ w e rows. sym e ∙ c.word_of-in-82.ensures ∙ ap quick_word (c.cached_atom.ensures rows ∙ at_tag _ _ _ _ _ 82 c.in-82.is atom_cache_ref refl)

pub returns-in-100 : goal.returns-in-100
unfolding form_in forms coding_of
returns-in-100 c = λ w e rows. sym e ∙ c.word_of-in-100.ensures ∙ ap quick_word (c.atom.ensures _ rows ∙ at_tag _ _ _ _ _ 100 c.in-100.is (atom_ext latin_1 2) refl)

pub returns-in-115 : goal.returns-in-115
unfolding form_in forms coding_of
returns-in-115 c = λ w e rows. sym e ∙ c.word_of-in-115.ensures ∙ ap quick_word (c.atom-in-115.ensures _ rows ∙ at_tag _ _ _ _ _ 115 c.in-115.is (atom_ext latin_1 1) refl)

pub returns-in-118 : goal.returns-in-118
unfolding form_in forms coding_of
returns-in-118 c = λ w e rows. sym e ∙ c.word_of-in-118.ensures ∙ ap quick_word (c.atom-in-118.ensures _ rows ∙ at_tag _ _ _ _ _ 118 c.in-118.is (atom_ext utf_8 2) refl)
