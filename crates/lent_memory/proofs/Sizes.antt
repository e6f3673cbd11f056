-- Sizes of lent memory, one test after the other.
use mathlib.Core.Path.{◌≡◌, sym, ◌∙◌}
use mathlib.Core.Bool.{Bool, true, false, not}
use mathlib.Core.List.{List}
use Prim.Native.Nat.{ℕ}
use lib.Dec.{eqb}
use lib.ListN.{length}
use borrow.Author.Tests.{eq-eqb, ne_eqb}
use Rattle.term_spec.specs.AtomList.{of_size}
use Rattle.term_spec.proofs.Tests.{sizes_of, confirmed}
use Rattle.packet_spec.specs.Memory.{Memory, cache_of, cache_of_size, CacheSized, memory_of_size}
use Rattle.packet_spec.proofs.Cache.{sized}
use Rattle.packet_spec.proofs.SizesKept.{all_sized}

pub cache_not : (cache lengths : List ℕ) → (length cache ≡ 65536 → ⊥) → eqb (length cache) 65536 ≡ cache_of_size (cache_of cache lengths)
unfolding cache_of_size
cache_not cache lengths e = rw (ne_eqb (length cache) 65536 e)

pub cache_if : (cache lengths : List ℕ) → length cache ≡ 65536 → eqb (length lengths) 2048 ≡ cache_of_size (cache_of cache lengths)
unfolding cache_of_size
cache_if cache lengths e = rw (eq-eqb (length cache) 65536 e)

-- the sizes of a cache that fits
pub cache_lent : (cache lengths : List ℕ) {b : Bool} → b ≡ cache_of_size (cache_of cache lengths) → not b ≡ false → CacheSized (cache_of cache lengths)
cache_lent cache lengths told met = sized (cache_of cache lengths) (confirmed told met)

-- one test after the other: the cache, the list for a plain packet, the list for the pending sequence, the gather buffer
module _ (m : Memory) {a : Bool} (told : a ≡ cache_of_size m.cache) where
  pub cache_fails : a ≡ false → false ≡ memory_of_size m
  unfolding memory_of_size
  cache_fails failed = rw (sym told ∙ failed)

  module _ (met : a ≡ true) {b : Bool} (told_plain : b ≡ of_size m.plain_list) where
    pub plain_fails : b ≡ false → false ≡ memory_of_size m
    unfolding memory_of_size
    plain_fails failed = rw (sym told ∙ met, sym told_plain ∙ failed)

    module _ (met_plain : b ≡ true) {p : Bool} (told_pending : p ≡ of_size m.pending_list) where
      pub pending_fails : p ≡ false → false ≡ memory_of_size m
      unfolding memory_of_size
      pending_fails failed = rw (sym told ∙ met, sym told_plain ∙ met_plain, sym told_pending ∙ failed)

      pub gather_if : p ≡ true → eqb (length m.gather) 65536 ≡ memory_of_size m
      unfolding memory_of_size
      gather_if met_pending = rw (sym told ∙ met, sym told_plain ∙ met_plain, sym told_pending ∙ met_pending)

-- the lengths of all lent memory
pub record Lengths (m : Memory) : Type 0 where
  pub cache_sized : CacheSized m.cache
  pub plain_places : length m.plain_list.places ≡ 8160
  pub plain_lengths : length m.plain_list.lengths ≡ 255
  pub pending_places : length m.pending_list.places ≡ 8160
  pub pending_lengths : length m.pending_list.lengths ≡ 255
  pub gathered : length m.gather ≡ 65536

pub lengths_told : (m : Memory) {b : Bool} → b ≡ memory_of_size m → not b ≡ false → Lengths m
lengths_told m told met =
    let z = all_sized m (confirmed told met) in
    let one = sizes_of m.plain_list z.plain_sized in
    let two = sizes_of m.pending_list z.pending_sized in
    record {
      cache_sized = z.cache_sized;
      plain_places = one.0;
      plain_lengths = one.1;
      pending_places = two.0;
      pending_lengths = two.1;
      gathered = z.gather_sized;
    }
