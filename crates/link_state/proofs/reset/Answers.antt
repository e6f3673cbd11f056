-- `reset` meets its contract.
use mathlib.Core.Path.{ap}
use mathlib.Core.Bool.{not}
use Rattle.packet_spec.specs.Memory.{cache_of}
use Rattle.link_state.proofs.States.{reset_refused, reset_done}
use Rattle.link_state.proofs.reset.Goals as goal

pub returns-then-not-cache_fits : goal.returns-then-not-cache_fits
returns-then-not-cache_fits c = let a = c.args in rw c.refused.ensures (reset_refused (cache_of a.cache.now a.cache_lengths.now) a.pending c.cache_fits.ensures (ap not c.if-not-cache_fits.true))

pub returns : goal.returns
returns c = let a = c.args in reset_done a.cache.now a.cache_lengths.now _ _ a.pending c.cache_fits.ensures (ap not c.if-not-cache_fits.false) (c.fill.ensures.after (λ y e. e)) (c.fill-2.ensures.after (λ y e. e))
