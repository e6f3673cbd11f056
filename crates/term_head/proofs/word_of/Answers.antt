-- `word_of` meets its contract.
use mathlib.Core.Path.{sym, ap, ◌∙◌}
use Rattle.term_head.specs.Quick.{quick_word, head_word}
use Rattle.term_head.proofs.Words.{refused_word, parts_wanted, parts_word, characters_some, characters_none, elements_none, elements_some, pairs_none, pairs_some}
use Rattle.term_head.proofs.word_of.Goals as goal

pub returns-then-wanted-ne0 : goal.returns-then-wanted-ne0
unfolding quick_word
returns-then-wanted-ne0 c = parts_wanted _ _ _ _ _ c.if-wanted-ne0.true ∙ sym (ap quick_word c.in-Ok.is ∙ ap head_word c.in-Parts.is)

pub returns-then-count-ne0 : goal.returns-then-count-ne0
unfolding quick_word
returns-then-count-ne0 c = characters_some _ _ c.if-count-ne0.true ∙ sym (ap quick_word c.in-Ok.is ∙ ap head_word c.in-Characters.is)

pub returns-then-count-eq0 : goal.returns-then-count-eq0
unfolding quick_word
returns-then-count-eq0 c = elements_none _ _ c.if-count-eq0.true ∙ sym (ap quick_word c.in-Ok.is ∙ ap head_word c.in-Elements.is)

pub returns-then-count-eq0-2 : goal.returns-then-count-eq0-2
unfolding quick_word
returns-then-count-eq0-2 c = pairs_none _ _ c.if-count-eq0-2.true ∙ sym (ap quick_word c.in-Ok.is ∙ ap head_word c.in-Pairs.is)

pub returns-in_default : goal.returns-in_default
unfolding quick_word
returns-in_default c = refused_word _ c.in_default.not-Ok

pub returns-else-wanted-ne0 : goal.returns-else-wanted-ne0
unfolding quick_word
returns-else-wanted-ne0 c = c.word_of_parts.ensures ∙ parts_word _ _ _ _ _ c.if-wanted-ne0.false ∙ sym (ap quick_word c.in-Ok.is ∙ ap head_word c.in-Parts.is)

pub returns-else-count-ne0 : goal.returns-else-count-ne0
unfolding quick_word
returns-else-count-ne0 c = c.fit.ensures ∙ characters_none _ _ c.if-count-ne0.false ∙ sym (ap quick_word c.in-Ok.is ∙ ap head_word c.in-Characters.is)

pub returns-else-count-eq0 : goal.returns-else-count-eq0
unfolding quick_word
returns-else-count-eq0 c = c.fit-in-Elements.ensures ∙ elements_some _ _ c.if-count-eq0.false ∙ sym (ap quick_word c.in-Ok.is ∙ ap head_word c.in-Elements.is)

pub returns-else-count-eq0-2 : goal.returns-else-count-eq0-2
unfolding quick_word
returns-else-count-eq0-2 c = c.fit-in-Pairs.ensures ∙ pairs_some _ _ c.if-count-eq0-2.false ∙ sym (ap quick_word c.in-Ok.is ∙ ap head_word c.in-Pairs.is)
