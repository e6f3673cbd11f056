-- `node_at` meets its contract.
use mathlib.Core.Path.{refl, sym, ap, ◌∙◌}
use native.Mathlib.Omega.{arith}
use Rattle.term_spec.specs.Head.{forms, form_in, atom_ext}
use Rattle.term_spec.specs.Text.{utf_8, coding_of}
use Rattle.term_head.specs.declared.Wanted.TheVariants.{Atom}
use Rattle.term_head.specs.Code.{allowed, wanted_of}
use Rattle.term_head.specs.Quick.{quick_word}
use Rattle.term_head.proofs.Tags.{at_tag, atom_tag, head_known}
use Rattle.term_head.proofs.node_at.Goals as goal

pub returns : goal.returns
unfolding form_in forms coding_of allowed wanted_of
returns c = λ w e given rows. sym e ∙ c.word_of.ensures
    ∙ ap quick_word (head_known _ _ _ _ Atom (omega arith) _ (sym (atom_tag _ 119 c.if-msg-at-ne-SMALL_ATOM_UTF8_EXT.false refl))
    (c.atom.ensures _ rows ∙ at_tag _ _ _ _ _ 119 c.if-msg-at-ne-SMALL_ATOM_UTF8_EXT.false (atom_ext utf_8 1) refl))
