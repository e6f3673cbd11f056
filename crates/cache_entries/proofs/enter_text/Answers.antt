-- `enter_text` meets its contract.
use Prim.Native.Nat.{◌*◌}
use native.Mathlib.Omega.{arith}
use Rattle.term_spec.specs.Text.{coding_of}
use Rattle.cache_entries.proofs.Storing.{zeros_put, text_entered}
use Rattle.cache_entries.proofs.enter_text.Goals as goal

pub returns : goal.returns
returns c = let a = c.args in
    text_entered (coding_of a.utf8) a.packet.now a.from a.size a.cache.now a.cache_lengths.now _ _ a.place.0 c.put_text-stored.result c.requires.0 c.requires.1 (zeros_put a.cache.now (32 * a.place.0) _ (omega arith) (c.fill.ensures.after (λ y e. e))) c.put_text-stored.ensures c.requires.2
