-- The last sentence of demand 2: what any run of the packet calls, by their promises, comes to.
use Rattle.std.specs.Prelude.{◌≡◌, List, [], ◌∷◌, ℕ, length, take, Ok}
use Rattle.term_spec.specs.Numbers.{Under}
use Rattle.term_spec.specs.Answer.{good}
use Rattle.packet_spec.specs.declared.PacketOutcome.TheVariants as packets
use Rattle.packet_spec.specs.Memory.{Cache, Memory, none_pending, held}
use Rattle.packet_spec.specs.Packet.{Packet, continuation, judged}
use Rattle.packet_spec.specs.Answers.{Taken, Settled, packet_answer}
use Rattle.packet_spec.specs.Promises.{PacketCall, DropCall, ResetCall}
use Rattle.packet_spec.specs.Runs.{Call, taking, dropping, resetting, with_state}
use Rattle.packet_spec.specs.Places.{Same, HeldNew, brought, AllAlone, holding_after_all, plain_list_after_all}
use Rattle.packet_spec.specs.Gathering.{SoFar, none_begun, gathered_after, gathered_after_all, Has, packet_told}

-- A run of calls, each by its promise alone, memory lent back as the last call left it
pub data Ran : Memory → List Call → Memory → Type 0 where
  ended : {m : Memory} → Ran m [] m
  packet_then : {m n : Memory} {cs : List Call} (flags : ℕ) (packet : List ℕ) (r : Taken) (m' : Memory)
      → PacketCall flags packet m r m' → Ran m' cs n → Ran m (taking flags packet ∷ cs) n
  drop_then : {m n : Memory} {cs : List Call} (flags : ℕ) (r : Settled)
      → DropCall flags m.pending r → Ran (with_state m (m.cache, r.pending)) cs n → Ran m (dropping flags ∷ cs) n
  reset_then : {m n : Memory} {cs : List Call} (r : Settled) (c' : Cache)
      → ResetCall m.cache m.pending r c' → Ran (with_state m (c', r.pending)) cs n → Ran m (resetting ∷ cs) n

-- A packet that completes a sequence, answering k: k bytes are gathered, the gather buffer begins with the payloads joined in order, the pending list is the
-- one that the start fixed, no more is due, and the record is zero
pub record Completed (k : ℕ) (g : SoFar) (m : Memory) : Type 0 where
  pub all_counted : k ≡ length g.bytes
  pub first_bytes : take k m.gather ≡ g.bytes
  pub its_list : m.pending_list ≡ g.list
  pub none_due : g.due ≡ 0
  pub record_zero : m.pending ≡ none_pending

-- From memory m with no sequence pending, by the calls of a run, to memory n: what is gathered then, which continuation is accepted next, and what the
-- packet taken next answers
pub record Gathered (m : Memory) (cs : List Call) (n : Memory) : Type 0 where
  -- the gather buffer begins with the payloads of the last sequence begun, joined in order, the pending list is the one that its start fixed, and the id due
  -- is its first id less the fragments accepted, or 0 after a drop or a reset; while one is due, the record names the SequenceId that its start gave
  pub so_far : Has n (gathered_after_all m cs (none_begun m))
  -- a continuation accepted next has the SequenceId that the start gave and the id due
  pub next_continuation : (flags : ℕ) (packet : List ℕ) (sequence fragment : ℕ) (bs : List ℕ) → Under 256 packet
      → judged flags n packet ≡ good (continuation sequence fragment bs)
      → (sequence ≡ (gathered_after_all m cs (none_begun m)).sequence) × (fragment ≡ (gathered_after_all m cs (none_begun m)).due)
  -- the packet taken next answers by the sequence with it
  pub next_answer : (flags : ℕ) (packet : List ℕ) (r : Taken) (m' : Memory) → Under 256 packet → PacketCall flags packet n r m'
      → r.answer ≡ packet_answer (packet_told (judged flags n packet) (gathered_after n (taking flags packet) (gathered_after_all m cs (none_begun m))))
  -- if it answers Complete, the sequence is whole
  pub completes : (flags : ℕ) (packet : List ℕ) (r : Taken) (m' : Memory) → Under 256 packet → PacketCall flags packet n r m'
      → (k : ℕ) → r.answer ≡ Ok (packets.Complete k) → Completed k (gathered_after n (taking flags packet) (gathered_after_all m cs (none_begun m))) m'

-- From any memory m, by the calls of a run, to memory n
pub record Demand2 (m : Memory) (cs : List Call) (n : Memory) : Type 0 where
  -- a place of the cache that no accepted packet fills new and no reset empties has the same bytes and length
  pub others_stay : (q : ℕ) → AllAlone m cs q → Same m.cache n.cache q
  -- what every place holds is what the new references of the accepted packets give, in turn
  pub places_hold : held n.cache ≡ holding_after_all m cs (held m.cache)
  -- the packet taken next, if it is accepted: the place of each of its new references then holds the text, zeros after it
  pub next_new : (flags : ℕ) (packet : List ℕ) (r : Taken) (m' : Memory) → Under 256 packet → PacketCall flags packet n r m'
      → (p : Packet) → judged flags n packet ≡ good p → HeldNew m'.cache (brought p)
  -- the list for plain packets is the list of the last accepted plain packet's references, or as it was
  pub plain_listed : n.plain_list ≡ plain_list_after_all m cs m.plain_list
  -- sequences of fragments
  pub gathered : m.pending.due ≡ 0 → Gathered m cs n
