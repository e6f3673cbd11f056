-- `after_fragment` meets its contract.
use Rattle.fragments.proofs.Taking.{fragment_last, fragment_more}
use Rattle.fragments.proofs.after_fragment.Goals as goal

pub returns-then-ids-eq1 : goal.returns-then-ids-eq1
returns-then-ids-eq1 c = let a = c.args in
    fragment_last a.ids.sequence a.ids.fragment a.gathered c.if-ids-eq1.true

pub returns : goal.returns
returns c = let a = c.args in
    fragment_more a.ids.sequence a.ids.fragment a.gathered c.if-ids-eq1.false
