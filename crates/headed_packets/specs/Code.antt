-- What the code answers and leaves of a packet with a header, in terms of the definitions of packets.
-- About the code alone, proved against the definitions of packet_spec: nothing here has to be believed.
use Rattle.std.specs.Prelude.{◌≡◌, List, ℕ, ◌+◌, ◌≤◌, length, drop, Result, Ok, Err}
use Rattle.term_spec.specs.Text.{Coding}
use Rattle.term_spec.specs.Answer.{Answer, good, refused, Position, at_offset, Reading, ◌>>=◌, done, here}
use Rattle.term_spec.specs.AtomList.{AtomList}
use Rattle.term_spec.specs.Message.{result_of}
use Rattle.packet_spec.specs.declared.Pending.{Pending}
use Rattle.packet_spec.specs.Answers.{PacketAnswer, Taken}
use Rattle.packet_spec.specs.Memory.{Cache, memory_of, Held, held}
use Rattle.packet_spec.specs.Header.{Reference, header}
use Rattle.packet_spec.specs.Packet.{normal, starting, payload_after, rest}
use Rattle.packet_spec.specs.Calls.{entered, list_of}
use Rattle.fragments.specs.Code.{Takes}
use Rattle.term_spec.specs.declared.Refusal.{Refusal}
use Rattle.headed_packets.specs.declared.Payload.{Payload}

-- a header, then the payload's offset, and the payload with 12
unfoldable pub headed : Coding → (ℕ → Held) → Reading (List Reference × ℕ × List ℕ)
headed agreed holding = do
  rs ← header agreed holding
  at ← here
  bs ← payload_after 0
  done (rs, at, bs)

-- a header that is refused: the cache and the list stay
pub record RefusesHeader (o : Answer ((List Reference × ℕ × List ℕ) × Position)) (number place : ℕ) (c c' : Cache) (list list' : AtomList) : Type 0 where
  pub is : o ≡ refused number place
  pub cache_stays : c' ≡ c
  pub list_stays : list' ≡ list

-- a header that is taken: its references, the payload, and what the cache and the list are then
pub record TakesHeader (o : Answer ((List Reference × ℕ × List ℕ) × Position)) (s : List ℕ) (c c' : Cache) (list' : AtomList) (payload size : ℕ) : Type 0 where
  pub references : List Reference
  pub is : o ≡ good ((references, payload, drop payload s), at_offset s payload 0)
  pub size_is : size ≡ length (drop payload s)
  pub inside : payload + size ≡ length s
  pub small : size ≤ 65536
  pub cache_is : c' ≡ entered c references
  pub list_is : list' ≡ list_of references

-- the header at `at`, taken or refused
unfoldable pub Heads : Coding → List ℕ → ℕ → Cache → AtomList → Result Payload Refusal → Cache → AtomList → Type 0
Heads agreed s at c list (Err f) c' list' = RefusesHeader (headed agreed (held c) (at_offset s at 0)) f.number f.place c c' list list'
Heads agreed s at c list (Ok p) c' list' = TakesHeader (headed agreed (held c) (at_offset s at 0)) s c c' list' p.offset p.size

-- a plain packet, whatever the memory of the pending sequence is: that stays
pub record TakesPlain (agreed : Coding) (s : List ℕ) (c : Cache) (plain_list : AtomList) (r : PacketAnswer) (c' : Cache) (plain_list' : AtomList) : Type 0 where
  pub takes_plain : (pending_list : AtomList) (pending : Pending) (gather : List ℕ)
      → Takes (memory_of c plain_list pending_list pending gather)
      (result_of (rest agreed (held c) pending normal (at_offset s 2 0)))
      r
      (memory_of c' plain_list' pending_list pending gather)

-- a first fragment with these ids, whatever the list for a plain packet is: that stays
pub record TakesStart (agreed : Coding) (s : List ℕ) (sequence fragment : ℕ) (c : Cache) (pending_list : AtomList) (pending : Pending) (gather : List ℕ)
    (r : Taken) (c' : Cache) (pending_list' : AtomList) (gather' : List ℕ) : Type 0 where
  pub takes_start : (plain_list : AtomList)
      → Takes (memory_of c plain_list pending_list pending gather)
      (result_of (rest agreed (held c) pending (starting sequence fragment) (at_offset s 18 0)))
      r.answer
      (memory_of c' plain_list pending_list' r.pending gather')
