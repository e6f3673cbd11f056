-- A packet as it is judged: nothing is written here.
use Rattle.std.specs.Prelude.{true, false, not, List, ℕ, ◌+◌, eqb, leb, length}
use Rattle.term_spec.specs.Text.{Coding}
use Rattle.term_spec.specs.Connection.{coding_agreed, flags_known}
use Rattle.term_spec.specs.Answer.{Answer, Reading, ◌>>=◌, ◌>>◌, done, refuse, here, rule, byte, number}
use Rattle.term_spec.specs.Reading.{bytes_left}
use Rattle.term_spec.specs.Message.{version, result_of, first_check}
use Rattle.packet_spec.specs.declared.Pending.{Pending}
use Rattle.packet_spec.specs.Memory.{Memory, memory_of_size, record_true, Held, held}
use Rattle.packet_spec.specs.Header.{Reference, header}

-- The second byte says: 68, 69 with SequenceId and FragmentId, 70 with SequenceId and FragmentId
pub data Kind : Type 0 where
  normal : Kind
  starting continuing : ℕ → ℕ → Kind

-- SequenceId (8), FragmentId (8): 2, then 24 for zero
unfoldable pub ids : (ℕ → ℕ → Kind) → Reading Kind
ids kind = do
  sequence ← number 0 8
  fragment ← number 0 8
  rule (not (eqb fragment 0)) 24 0
  done (kind sequence fragment)

-- Refusal 20: second byte not 68, 69, 70
unfoldable pub packet_kind : ℕ → Reading Kind
packet_kind tag =
    elim (eqb tag 68) [
      | true ↦ done normal
      | false ↦ elim (eqb tag 69) [
        | true ↦ ids starting
        | false ↦ elim (eqb tag 70) [ true ↦ ids continuing | false ↦ refuse 20 0 ]
      ]
    ]

-- Order: 1, 2, 20, ids with 24 for zero
unfoldable pub preamble : Reading Kind
preamble = do
  version
  tag ← byte 0
  packet_kind tag

-- What an accepted packet brings. Plain: references, the payload's offset, the payload. Start: SequenceId, FragmentId,
-- references, payload. Continuation: SequenceId, FragmentId, payload
pub data Packet : Type 0 where
  plain : List Reference → ℕ → List ℕ → Packet
  start : ℕ → ℕ → List Reference → List ℕ → Packet
  continuation : ℕ → ℕ → List ℕ → Packet

-- The payload, to the end. Refusal 12: payload or gathered bytes over 65,536
unfoldable pub payload_after : ℕ → Reading (List ℕ)
payload_after gathered = do
  bs ← bytes_left
  rule (leb (gathered + length bs) 65536) 12 0
  done bs

-- With the coding agreed, what the places of the cache hold, and the pending record
module _ (agreed : Coding) (holding : ℕ → Held) (r : Pending) where
  -- Refusal 26: a start while one is pending. 25: no sequence pending, or another id. 24: not the one due. Then the header; 12 last
  unfoldable pub rest : Kind → Reading Packet
  rest normal = do
    rs ← header agreed holding
    at ← here
    bs ← payload_after 0
    done (plain rs at bs)
  rest (starting sequence fragment) = do
    rule (eqb r.due 0) 26 0
    rs ← header agreed holding
    bs ← payload_after 0
    done (start sequence fragment rs bs)
  rest (continuing sequence fragment) = do
    rule (not (eqb r.due 0)) 25 0
    rule (eqb sequence r.sequence) 25 0
    rule (eqb fragment r.due) 24 0
    bs ← payload_after r.gathered
    done (continuation sequence fragment bs)

  -- Order: 14 on the record, then the preamble, then what its kind asks
  unfoldable pub packet : Reading Packet
  packet = do
    rule (record_true r) 14 0
    kind ← preamble
    rest kind

-- Order: 13 first, then 14 for an unknown flag. A packet as it is judged with the connection's flags and the memory lent to its call
unfoldable pub judged : ℕ → Memory → List ℕ → Answer Packet
judged flags m bs =
    first_check (memory_of_size m) 13
    (first_check (flags_known flags) 14
    (result_of (packet (coding_agreed flags) (held m.cache) m.pending (record { at = 0; left = bs; rows_taken = 0 }))))
