-- The answers of the packet calls and of the word call as the code has them: for each answer of document 01 a Result, with the refusal's number and place.
use Rattle.std.specs.Prelude.{List, [], ℕ, ◌*◌, length, Result, Ok, Err}
use Rattle.term_spec.specs.declared.Refusal.{Refusal}
use Rattle.term_spec.specs.Answer.{Answer, good, refused}
use Rattle.packet_spec.specs.declared.Pending.{Pending}
use Rattle.packet_spec.specs.declared.PacketOutcome.{PacketOutcome}
use Rattle.packet_spec.specs.declared.PacketOutcome.TheVariants as packets
use Rattle.packet_spec.specs.declared.WordAt.{WordAt}
use Rattle.packet_spec.specs.declared.After.{After}
use Rattle.packet_spec.specs.Memory.{Cache, Memory}
use Rattle.packet_spec.specs.Calls.{Outcome, payload_at, pending_still, complete, take_packet, after_packet, drop_sequence, reset, unless_refused}

-- what src/ calls these results
abbrev pub PacketAnswer : Type 0
PacketAnswer = Result PacketOutcome Refusal

abbrev pub StateAnswer : Type 0
StateAnswer = Result Unit Refusal

abbrev pub WordAnswer : Type 0
WordAnswer = Result WordAt Refusal

-- the answer of a packet, of a drop or a reset, and the record after it
abbrev pub Taken : Type 0
Taken = After PacketAnswer

abbrev pub Settled : Type 0
Settled = After StateAnswer

-- a refusal's number and place
abbrev pub refusal_of : ℕ → ℕ → Refusal
refusal_of n p = record { number = n; place = p }

-- a refusal at place 0, and the record as it was
abbrev pub record_stays : {A : Type 0} → ℕ → Pending → After (Result A Refusal)
record_stays number r = record { answer = Err (refusal_of number 0); pending = r }

-- an accepted packet: plain, pending still, or complete
unfoldable pub outcome_case : Outcome → PacketOutcome
outcome_case (payload_at offset size) = packets.Plain offset size
outcome_case (pending_still due gathered) = packets.Pending due gathered
outcome_case (complete gathered) = packets.Complete gathered

-- a packet: accepted, or the refusal
unfoldable pub packet_answer : Answer Outcome → PacketAnswer
packet_answer (good o) = Ok (outcome_case o)
packet_answer (refused n p) = Err (refusal_of n p)

-- taking a packet: its answer, and the record after it
unfoldable pub taken_answer : ℕ → Memory → List ℕ → Taken
taken_answer flags m bs = record { answer = packet_answer (take_packet flags m bs); pending = (after_packet flags m bs).pending }

-- a drop or a reset: done, or the refusal
unfoldable pub state_answer : {A : Type 0} → Answer A → StateAnswer
state_answer (good a) = Ok tt
state_answer (refused n p) = Err (refusal_of n p)

-- a drop: its answer, and the record after it
unfoldable pub drop_answer : ℕ → Pending → Settled
drop_answer flags r = record { answer = state_answer (drop_sequence flags r); pending = unless_refused r (drop_sequence flags r) }

-- a reset: its answer, and the record after it
unfoldable pub reset_answer : Cache → Pending → Settled
reset_answer c r = record { answer = state_answer (reset c); pending = (unless_refused {A = Cache × Pending} (c, r) (reset c)).1 }

-- the word of reference i: place i of a list begins at 32 times i
unfoldable pub word_answer : ℕ → Answer (List ℕ) → WordAnswer
word_answer i (good bs) = Ok (record { start = 32 * i; length = length bs })
word_answer i (refused n p) = Err (refusal_of n p)

-- its bytes, none where refused
unfoldable pub word_bytes : Answer (List ℕ) → List ℕ
word_bytes (good bs) = bs
word_bytes (refused n p) = []
