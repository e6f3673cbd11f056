-- `elements_at` meets its contract.
use Rattle.term_head.proofs.Openings.{elements_short, elements_other, elements_count}
use Rattle.term_head.proofs.elements_at.Goals as goal
use Rattle.term_head.proofs.elements_at.Goals.{then-msg-at-lt-LIST_HEAD-via-then-msg-at-lt-LIST_HEAD, then-msg-at-lt-LIST_HEAD-via-else-msg-at-lt-LIST_HEAD+then-msg-at-ne-LIST_EXT}

pub returns-then-msg-at-lt-LIST_HEAD : goal.returns-then-msg-at-lt-LIST_HEAD
returns-then-msg-at-lt-LIST_HEAD c =
    elim c.then-msg-at-lt-LIST_HEAD.branch [
      | then-msg-at-lt-LIST_HEAD-via-then-msg-at-lt-LIST_HEAD w ↦ elements_short _ _ w.if-msg-at-lt-LIST_HEAD.true
      | then-msg-at-lt-LIST_HEAD-via-else-msg-at-lt-LIST_HEAD+then-msg-at-ne-LIST_EXT w ↦ elements_other _ _ w.if-msg-at-ne-LIST_EXT.true
    ]

pub returns : goal.returns
returns c = elements_count _ _ _ c.if-msg-at-lt-LIST_HEAD.false c.if-msg-at-ne-LIST_EXT.false c.big4.ensures.0
