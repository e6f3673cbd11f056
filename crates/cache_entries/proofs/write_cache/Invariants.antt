use Prim.Native.Nat.{◌≤◌}
use lib.ListN.{length}
use Rattle.term_spec.specs.Text.{coding_of}
use Rattle.packet_spec.specs.Memory.{cache_of, CacheSized}
use Rattle.cache_entries.proofs.Loops.{CacheWalk}
use Rattle.cache_entries.proofs.write_cache.Given as goal

abbrev pub invariant-loop-i : goal.invariant-loop-i
invariant-loop-i l = (l.next ≤ length l.packet) × CacheSized (cache_of l.cache l.cache_lengths) × CacheWalk (coding_of l.utf8) (cache_of l.initial.cache l.initial.cache_lengths) l.packet l.at l.start l.i l.next (cache_of l.cache l.cache_lengths)
