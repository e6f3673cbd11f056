-- `first_refusal` meets its contract.
use mathlib.Core.Path.{sym, ◌∙◌}
use Rattle.reader.proofs.Message.{first_size, first_unknown, first_long, first_none}
use Rattle.term_spec.specs.AtomList.{lent_list}
use Rattle.reader.proofs.first_refusal.Goals as goal

pub returns-then-not-list_fits : goal.returns-then-not-list_fits
returns-then-not-list_fits c = λ n. first_size _ (lent_list n _ _) _ (sym (c.list_fits.ensures n) ∙ c.if-not-list_fits.true)

pub returns-then-not-flags_known : goal.returns-then-not-flags_known
returns-then-not-flags_known c = λ n. first_unknown _ (lent_list n _ _) _ (sym (c.list_fits.ensures n) ∙ c.if-not-list_fits.false) (sym c.flags_known.ensures ∙ c.if-not-flags_known.true)

pub returns-then-msg-gt-MESSAGE_MOST : goal.returns-then-msg-gt-MESSAGE_MOST
returns-then-msg-gt-MESSAGE_MOST c = λ n. first_long _ (lent_list n _ _) _ (sym (c.list_fits.ensures n) ∙ c.if-not-list_fits.false) (sym c.flags_known.ensures ∙ c.if-not-flags_known.false) c.if-msg-gt-MESSAGE_MOST.true

pub returns : goal.returns
returns c = λ n. first_none _ (lent_list n _ _) _ (sym (c.list_fits.ensures n) ∙ c.if-not-list_fits.false) (sym c.flags_known.ensures ∙ c.if-not-flags_known.false) c.if-msg-gt-MESSAGE_MOST.false
