-- `key_among` meets its contract. From the row reached the walk finds what it finds from the first; the measure is the rows below the key.
use Rattle.map_keys.proofs.Steps.{no_such_row, among_start, among_found, among_stuck, among_later, among_none}
use Rattle.map_keys.proofs.key_among.Goals as goal

pub returns-then-keys-key : goal.returns-then-keys-key
returns-then-keys-key c = no_such_row _ _ _ _ c.if-keys-key.true

pub loop-at-init : goal.loop-at-init
loop-at-init c = (c.if-keys-key.false, among_start _ _ _ _ c.if-keys-key.false)

pub returns-then-same_terms : goal.returns-then-same_terms
returns-then-same_terms c = among_found _ _ _ _ _ c.loop-at.invariant.1 c.loop-at-test.true _ c.same_terms.ensures c.if-same_terms.true

pub returns-then-step-eq0 : goal.returns-then-step-eq0
returns-then-step-eq0 c = among_stuck _ _ _ _ _ c.loop-at.invariant.1 c.loop-at-test.true _ c.same_terms.ensures c.if-same_terms.false _ c.pair_size-step.ensures.0 c.if-step-eq0.true

pub loop-at-preserved : goal.loop-at-preserved
loop-at-preserved c = (c.loop-at.invariant.0, among_later _ _ _ _ _ c.loop-at.invariant.1 c.loop-at-test.true _ c.same_terms.ensures c.if-same_terms.false _ c.pair_size-step.ensures.0 c.if-step-eq0.false)

pub returns : goal.returns
returns c = among_none _ _ _ _ _ c.loop-at.invariant.1 c.loop-at-test.false
