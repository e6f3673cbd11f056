-- The memory that the firmware lends to the packet calls.
use Rattle.std.specs.Prelude.{◌≡◌, Bool, true, false, ◌&&◌, List, ℕ, ◌*◌, eqb, leb, length, get_or, take, drop, replicate}
use Rattle.term_spec.specs.Text.{Checked, valid, invalid_at, utf_8, check}
use Rattle.term_spec.specs.AtomList.{AtomList, of_size}
use Rattle.packet_spec.specs.declared.Pending.{Pending}

-- Sizes: 2,048 places of 32 bytes beside 2,048 16-bit lengths, 65,535 meaning empty
pub record Cache : Type 0 where
  pub places : List ℕ
  pub lengths : List ℕ

-- Sizes: cache; an atom list for a plain packet and another for the pending sequence; the pending record; gather buffer
pub record Memory : Type 0 where
  pub cache : Cache
  pub plain_list : AtomList
  pub pending_list : AtomList
  pub pending : Pending
  pub gather : List ℕ

-- The cache as it is lent: its places, its lengths
abbrev pub cache_of : List ℕ → List ℕ → Cache
cache_of places lengths = record { places = places; lengths = lengths }

-- All memory as it is lent: the cache, the list for a plain packet, the list for the pending sequence, the record, the gather buffer
abbrev pub memory_of : Cache → AtomList → AtomList → Pending → List ℕ → Memory
memory_of cache plain_list pending_list pending gather =
    record { cache = cache; plain_list = plain_list; pending_list = pending_list; pending = pending; gather = gather }

-- Refusal 13: a cache not of its stated size
unfoldable pub cache_of_size : Cache → Bool
cache_of_size c = eqb (length c.places) 65536 && eqb (length c.lengths) 2048

-- the same, part by part: what the code asks of a cache
pub record CacheSized (c : Cache) : Type 0 where
  pub places_are : length c.places ≡ 65536
  pub lengths_are : length c.lengths ≡ 2048

-- Refusal 13: a cache, list or gather buffer not of its stated size
unfoldable pub memory_of_size : Memory → Bool
memory_of_size m =
    cache_of_size m.cache
    && (of_size m.plain_list && (of_size m.pending_list && eqb (length m.gather) 65536))

-- Refusal 14: a pending record gathered past 65,536
unfoldable pub record_true : Pending → Bool
record_true r = leb r.gathered 65536

-- Finishing or dropping zeroes the record; a reset does too
abbrev pub none_pending : Pending
none_pending = record { sequence = 0; due = 0; gathered = 0 }

-- A reset zeroes all places and makes all their lengths 65,535
unfoldable pub empty_cache : Cache
empty_cache = record { places = replicate 65536 0; lengths = replicate 2048 65535 }

-- What a place of the cache holds: nothing, what is no text (lent state false), or a text, which is stored as UTF-8
pub data Held : Type 0 where
  nothing no_text : Held
  text : List ℕ → Held

-- Refusal 14: that text not UTF-8
unfoldable pub text_if : List ℕ → Checked → Held
text_if bs (invalid_at k) = no_text
text_if bs (valid cs) = text bs

-- What 32 bytes hold with a length beside them. Refusal 21: empty. Refusal 14: a length over 32, not the cache's 65,535, or a text not UTF-8
unfoldable pub held_as : ℕ → List ℕ → Held
held_as n bs =
    elim (eqb n 65535) [
      | true ↦ nothing
      | false ↦ elim (leb n 32) [ true ↦ text_if (take n bs) (check utf_8 (take n bs)) | false ↦ no_text ]
    ]

-- a place's length
abbrev pub cache_length : Cache → ℕ → ℕ
cache_length c p = get_or c.lengths p 65535

-- a place's 32 bytes
abbrev pub cache_bytes : Cache → ℕ → List ℕ
cache_bytes c p = take 32 (drop (32 * p) c.places)

-- what a place of the cache holds
unfoldable pub held : Cache → ℕ → Held
held c p = held_as (cache_length c p) (cache_bytes c p)
