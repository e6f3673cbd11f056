-- What is gathered of a sequence of fragments: over its own packets, and over any run of calls.
use Rattle.std.specs.Prelude.{◌≡◌, cond, List, [], ◌∷◌, ◌++◌, ℕ, ◌-◌, eqb, length, take}
use Rattle.term_spec.specs.Numbers.{Under}
use Rattle.term_spec.specs.Answer.{Answer, good, refused}
use Rattle.term_spec.specs.AtomList.{AtomList}
use Rattle.packet_spec.specs.Memory.{Memory, none_pending}
use Rattle.packet_spec.specs.Header.{Reference}
use Rattle.packet_spec.specs.Packet.{Packet, plain, start, continuation, judged}
use Rattle.packet_spec.specs.Calls.{Outcome, payload_at, pending_still, complete, list_of, after_packet, drop_sequence, reset}
use Rattle.packet_spec.specs.Runs.{Call, taking, dropping, resetting, after_call}

-- ---- one sequence, packet by packet

-- payloads one after the other
abbrev pub join : List (List ℕ) → List ℕ
join [] = []
join (p ∷ ps) = p ++ join ps

-- From one memory to another, by packets of which the continuations brought these payloads: plain packets may come between, and refused ones
pub data Fragments : Memory → List (List ℕ) → Memory → Type 0 where
  none_more : {m : Memory} → Fragments m [] m
  refused_between : {m n : Memory} {ps : List (List ℕ)} (flags : ℕ) (bs : List ℕ) (number place : ℕ)
      → judged flags m bs ≡ refused number place → Fragments (after_packet flags m bs) ps n → Fragments m ps n
  plain_between : {m n : Memory} {ps : List (List ℕ)} (flags : ℕ) (bs : List ℕ) (rs : List Reference) (at : ℕ) (p : List ℕ)
      → Under 256 bs → judged flags m bs ≡ good (plain rs at p) → Fragments (after_packet flags m bs) ps n → Fragments m ps n
  next_fragment : {m n : Memory} {ps : List (List ℕ)} (flags : ℕ) (bs : List ℕ) (sequence id : ℕ) (p : List ℕ)
      → Under 256 bs → judged flags m bs ≡ good (continuation sequence id p) → Fragments (after_packet flags m bs) ps n → Fragments m (p ∷ ps) n

-- so far: the bytes gathered, the list, the id due and, while a sequence is pending, its id and how many bytes are gathered; the record is zero after the last
pub record Gathering (m : Memory) (sequence due : ℕ) (bytes : List ℕ) (list : AtomList) : Type 0 where
  pub first_bytes : take (length bytes) m.gather ≡ bytes
  pub its_list : m.pending_list ≡ list
  pub due_is : m.pending.due ≡ due
  pub while_pending : (due ≡ 0 → ⊥) → (m.pending.gathered ≡ length bytes) × (m.pending.sequence ≡ sequence)
  pub when_done : due ≡ 0 → m.pending ≡ none_pending

-- ---- any run of calls

-- The sequence so far: its SequenceId and the list that its start fixed, its payloads joined in order, the id due (0: none pending)
pub record SoFar : Type 0 where
  pub sequence : ℕ
  pub list : AtomList
  pub bytes : List ℕ
  pub due : ℕ

-- with no sequence pending: no bytes, none due, SequenceId 0, and the list as it is lent
abbrev pub none_begun : Memory → SoFar
none_begun m = record { sequence = 0; list = m.pending_list; bytes = []; due = 0 }

-- after a packet judged so: a start begins anew, a continuation's payload is joined on, and all else leaves it
unfoldable pub gathered_by : Answer Packet → SoFar → SoFar
gathered_by (good (plain rs at bs)) g = g
gathered_by (good (start sequence fragment rs bs)) g = record { sequence = sequence; list = list_of rs; bytes = bs; due = fragment - 1 }
gathered_by (good (continuation sequence fragment bs)) g = record { sequence = g.sequence; list = g.list; bytes = g.bytes ++ bs; due = g.due - 1 }
gathered_by (refused number place) g = g

-- after a drop or a reset, unless it is refused, none is pending
unfoldable pub ended_by : {A : Type 0} → Answer A → SoFar → SoFar
ended_by (good a) g = record { sequence = g.sequence; list = g.list; bytes = g.bytes; due = 0 }
ended_by (refused number place) g = g

-- after a call
unfoldable pub gathered_after : Memory → Call → SoFar → SoFar
gathered_after m (taking flags bs) g = gathered_by (judged flags m bs) g
gathered_after m (dropping flags) g = ended_by (drop_sequence flags m.pending) g
gathered_after m resetting g = ended_by (reset m.cache) g

-- and after all calls of a run
unfoldable pub gathered_after_all : Memory → List Call → SoFar → SoFar
gathered_after_all m [] g = g
gathered_after_all m (c ∷ cs) g = gathered_after_all (after_call m c) cs (gathered_after m c g)

-- The memory has it: the gather buffer begins with the bytes, the pending list is that list, the record names that id, and while one is due it counts the
-- bytes and names that sequence
pub record Has (m : Memory) (g : SoFar) : Type 0 where
  pub first_bytes : take (length g.bytes) m.gather ≡ g.bytes
  pub its_list : m.pending_list ≡ g.list
  pub its_due : m.pending.due ≡ g.due
  pub counted : (g.due ≡ 0 → ⊥) → m.pending.gathered ≡ length g.bytes
  pub its_sequence : (g.due ≡ 0 → ⊥) → m.pending.sequence ≡ g.sequence

-- What an accepted fragment answers, from the sequence with it: complete where no more is due, else the id now due; in both the number of bytes gathered
unfoldable pub fragment_told : SoFar → Outcome
fragment_told g = cond (eqb g.due 0) (complete (length g.bytes)) (pending_still g.due (length g.bytes))

-- what a packet judged so answers, from the sequence after it
unfoldable pub packet_told : Answer Packet → SoFar → Answer Outcome
packet_told (good (plain rs at bs)) g = good (payload_at at (length bs))
packet_told (good (start sequence fragment rs bs)) g = good (fragment_told g)
packet_told (good (continuation sequence fragment bs)) g = good (fragment_told g)
packet_told (refused number place) g = refused number place
