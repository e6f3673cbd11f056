-- `take_continuation` meets its contract.
use Rattle.fragments.proofs.Continuations.{more_none, more_other, more_wrong, more_long, more_good}
use Rattle.fragments.proofs.take_continuation.Goals as goal
use Rattle.fragments.proofs.take_continuation.Goals.{then-pending-eq0-via-then-pending-eq0, then-pending-eq0-via-else-pending-eq0+then-ids-pending}

pub returns-then-pending-eq0 : goal.returns-then-pending-eq0
returns-then-pending-eq0 c = let a = c.args in
    rw c.refused.ensures (record {
      takes_continuation = λ agreed cache plain_list pending_list. elim c.then-pending-eq0.branch [
        | then-pending-eq0-via-then-pending-eq0 w ↦ more_none agreed cache plain_list pending_list a.pending a.gather.now a.packet.now a.ids.sequence a.ids.fragment w.if-pending-eq0.true
        | then-pending-eq0-via-else-pending-eq0+then-ids-pending w ↦ more_other agreed cache plain_list pending_list a.pending a.gather.now a.packet.now a.ids.sequence a.ids.fragment w.if-pending-eq0.false w.if-ids-pending.true
      ];
    })

pub returns-then-ids-pending-2 : goal.returns-then-ids-pending-2
returns-then-ids-pending-2 c = let a = c.args in
    rw c.refused-then-ids-pending-2.ensures (record { takes_continuation = λ agreed cache plain_list pending_list. more_wrong agreed cache plain_list pending_list a.pending a.gather.now a.packet.now a.ids.sequence a.ids.fragment c.if-pending-eq0.false c.if-ids-pending.false c.if-ids-pending-2.true })

pub returns-then-before-size : goal.returns-then-before-size
returns-then-before-size c = let a = c.args in
    rw c.refused-then-before-size.ensures (record { takes_continuation = λ agreed cache plain_list pending_list. more_long agreed cache plain_list pending_list a.pending a.gather.now a.packet.now a.ids.sequence a.ids.fragment c.if-pending-eq0.false c.if-ids-pending.false c.if-ids-pending-2.false c.if-before-size.true c.requires.3 })

pub returns : goal.returns
returns c = record {
  takes_continuation = λ agreed cache plain_list pending_list.
      let a = c.args in
      more_good agreed cache plain_list pending_list a.pending a.gather.now a.packet.now a.ids.sequence a.ids.fragment c.if-pending-eq0.false c.if-ids-pending.false c.if-ids-pending-2.false _ _ c.if-before-size.false c.requires.3 c.copy.ensures c.after_fragment.ensures;
}
