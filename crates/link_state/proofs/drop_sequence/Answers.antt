-- `drop_sequence` meets its contract.
use mathlib.Core.Path.{ap}
use mathlib.Core.Bool.{not}
use Rattle.link_state.proofs.States.{drop_unknown, drop_false, drop_none, drop_done}
use Rattle.link_state.proofs.drop_sequence.Goals as goal

pub returns-then-not-flags_known : goal.returns-then-not-flags_known
returns-then-not-flags_known c = rw c.refused.ensures (drop_unknown _ c.args.pending c.flags_known.ensures (ap not c.if-not-flags_known.true))

pub returns-then-pending : goal.returns-then-pending
returns-then-pending c = rw c.refused-then-pending.ensures (drop_false _ c.args.pending c.flags_known.ensures (ap not c.if-not-flags_known.false) c.if-pending.true)

pub returns-then-pending-eq0 : goal.returns-then-pending-eq0
returns-then-pending-eq0 c = rw c.refused-then-pending-eq0.ensures (drop_none _ c.args.pending c.flags_known.ensures (ap not c.if-not-flags_known.false) c.if-pending.false c.if-pending-eq0.true)

pub returns : goal.returns
returns c = drop_done _ c.args.pending c.flags_known.ensures (ap not c.if-not-flags_known.false) c.if-pending.false c.if-pending-eq0.false
