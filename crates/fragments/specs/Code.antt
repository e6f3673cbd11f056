-- What the code of fragments answers and leaves, in terms of the definitions of packets.
-- About the code alone, proved against the definitions of packet_spec: nothing here has to be believed.
use Rattle.std.specs.Prelude.{◌≡◌, List, ℕ, Ok}
use Rattle.term_spec.specs.Text.{Coding}
use Rattle.term_spec.specs.Answer.{Answer, at_offset}
use Rattle.term_spec.specs.AtomList.{AtomList}
use Rattle.term_spec.specs.Message.{result_of}
use Rattle.packet_spec.specs.declared.Pending.{Pending}
use Rattle.packet_spec.specs.Memory.{Cache, Memory, memory_of, held}
use Rattle.packet_spec.specs.Packet.{continuing, Packet, rest}
use Rattle.packet_spec.specs.Calls.{told_after, record_after, taken, left_after}
use Rattle.packet_spec.specs.Answers.{PacketAnswer, Taken, outcome_case, packet_answer}

-- what a fragment answers and leaves in the record
unfoldable pub after_fragment : ℕ → ℕ → ℕ → Taken
after_fragment sequence fragment gathered = record { answer = Ok (outcome_case (told_after fragment gathered)); pending = record_after sequence fragment gathered }

-- a packet judged so: what the call answers, and all memory after it
pub record Takes (m : Memory) (o : Answer Packet) (answer : PacketAnswer) (m' : Memory) : Type 0 where
  pub answers : answer ≡ packet_answer (taken m o)
  pub leaves : m' ≡ left_after m o

-- a later fragment with these ids, whatever the coding, the cache and the lists are
pub record TakesContinuation (s : List ℕ) (sequence fragment : ℕ) (pending : Pending) (gather : List ℕ) (r : Taken) (gather' : List ℕ) : Type 0 where
  pub takes_continuation : (agreed : Coding) (cache : Cache) (plain_list pending_list : AtomList)
      → Takes (memory_of cache plain_list pending_list pending gather)
      (result_of (rest agreed (held cache) pending (continuing sequence fragment) (at_offset s 18 0)))
      r.answer
      (memory_of cache plain_list pending_list r.pending gather')
