-- `words_most` meets its contract.
use mathlib.Core.Path.{◌∙◌, sym, ap}
use Rattle.term_spec.specs.Head.{Limits}
use Rattle.term_head.proofs.Limits.{newer, older}
use Rattle.term_head.proofs.words_most.Goals as goal

pub returns-then-is_newer : goal.returns-then-is_newer
returns-then-is_newer c = sym (ap (λ (l : Limits). l.word_count) (newer _ _ (sym c.is_newer.ensures ∙ c.if-is_newer.true)))

pub returns : goal.returns
returns c = sym (ap (λ (l : Limits). l.word_count) (older _ _ (sym c.is_newer.ensures ∙ c.if-is_newer.false)))
