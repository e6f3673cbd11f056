-- What the packet calls and the word call promise: relations of what is lent to a call, what it answers and what it leaves.
use Rattle.std.specs.Prelude.{◌≡◌, List, ℕ, ◌+◌, ◌≤◌, length, Ok, Err}
use Rattle.term_spec.specs.AtomList.{AtomList}
use Rattle.packet_spec.specs.declared.Pending.{Pending}
use Rattle.packet_spec.specs.Memory.{Cache, Memory}
use Rattle.packet_spec.specs.Calls.{after_packet, cache_after_reset}
use Rattle.packet_spec.specs.Words.{listed_word}
use Rattle.packet_spec.specs.Answers.{Taken, Settled, WordAnswer, taken_answer, drop_answer, reset_answer, word_answer, word_bytes}

-- Taking a packet: the connection's flags, the memory lent; the answer with the record, and all memory after it
pub record PacketCall (flags : ℕ) (packet : List ℕ) (m : Memory) (r : Taken) (m' : Memory) : Type 0 where
  pub packet_answered : r ≡ taken_answer flags m packet
  pub memory_left : m' ≡ after_packet flags m packet

-- A drop: the connection's flags, the record lent; the answer with the record after it
pub record DropCall (flags : ℕ) (p : Pending) (r : Settled) : Type 0 where
  pub drop_answered : r ≡ drop_answer flags p

-- A reset: the cache and the record lent; the answer with the record, and the cache after it
pub record ResetCall (c : Cache) (p : Pending) (r : Settled) (c' : Cache) : Type 0 where
  pub reset_answered : r ≡ reset_answer c p
  pub cache_left : c' ≡ cache_after_reset c

-- a word's stretch stays inside the list's places
unfoldable pub WordInside : List ℕ → WordAnswer → Type 0
WordInside places (Ok w) = w.start + w.length ≤ length places
WordInside places (Err refusal) = Unit {0}

-- Where the word of reference i stands, with the connection's flags, by this list: settled whole, and inside the list's places
pub record LocateWordCall (flags : ℕ) (list : AtomList) (i : ℕ) (answer : WordAnswer) : Type 0 where
  pub word_located : answer ≡ word_answer i (listed_word flags list i)
  pub word_inside : WordInside list.places answer

-- its bytes, none where refused
abbrev pub WordCall : ℕ → AtomList → ℕ → List ℕ → Type 0
WordCall flags list i bytes = bytes ≡ word_bytes (listed_word flags list i)
