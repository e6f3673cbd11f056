-- The packet calls: what each answers, and every lent byte after it.
use Rattle.std.specs.Prelude.{true, false, not, cond, List, [], ◌∷◌, ◌++◌, ℕ, ◌+◌, ◌*◌, ◌-◌, eqb, length, set, replicate}
use Rattle.std.proofs.lemmas.List.Edits.{sets}
use Rattle.term_spec.specs.Connection.{flags_known}
use Rattle.term_spec.specs.Answer.{Answer, good, refused}
use Rattle.term_spec.specs.AtomList.{AtomList}
use Rattle.term_spec.specs.Message.{first_check}
use Rattle.packet_spec.specs.declared.Pending.{Pending}
use Rattle.packet_spec.specs.Memory.{Cache, Memory, cache_of_size, record_true, none_pending, empty_cache}
use Rattle.packet_spec.specs.Header.{Reference}
use Rattle.packet_spec.specs.Packet.{Packet, plain, start, continuation, judged}

-- bytes after a text are zero: filled up with zeros to this size
unfoldable pub zeros_to : ℕ → List ℕ → List ℕ
zeros_to size bs = bs ++ replicate (size - length bs) 0

-- A new reference's place holds its text. In a place written, bytes after a text are zero
unfoldable pub enter : Cache → Reference → Cache
enter c r =
    elim r.new [
      | true ↦ record {
        places = sets c.places (32 * r.place) (zeros_to 32 r.text);
        lengths = set c.lengths r.place (length r.text);
      }
      | false ↦ c
    ]

-- the cache after a header: the places filled new are changed, and no other
unfoldable pub entered : Cache → List Reference → Cache
entered c [] = c
entered c (r ∷ rs) = entered (enter c r) rs

-- a list's places: texts one after the other, each in 32 bytes
unfoldable pub texts_in_places : List Reference → List ℕ
texts_in_places [] = []
texts_in_places (r ∷ rs) = zeros_to 32 r.text ++ texts_in_places rs

-- a list's lengths
unfoldable pub lengths_of : List Reference → List ℕ
lengths_of [] = []
lengths_of (r ∷ rs) = length r.text ∷ lengths_of rs

-- The list of n texts. In a list written, bytes after a text are zero, and list places from n on have length 0
unfoldable pub list_of : List Reference → AtomList
list_of rs =
    record {
      n = length rs;
      places = zeros_to 8160 (texts_in_places rs);
      lengths = zeros_to 255 (lengths_of rs);
    }

-- What a call on an accepted packet answers. Plain: the payload's offset and length in the packet. Pending: the id now due,
-- the bytes gathered. Complete: the bytes gathered
pub data Outcome : Type 0 where
  payload_at pending_still : ℕ → ℕ → Outcome
  complete : ℕ → Outcome

-- Ids run from the total down to 1: after the fragment with id 1 the sequence is complete, and finishing zeroes the record
unfoldable pub record_after : ℕ → ℕ → ℕ → Pending
record_after sequence fragment gathered =
    cond (eqb fragment 1) none_pending (record { sequence = sequence; due = fragment - 1; gathered = gathered })

-- What a fragment with this id answers, with so many bytes gathered
unfoldable pub told_after : ℕ → ℕ → Outcome
told_after fragment gathered = cond (eqb fragment 1) (complete gathered) (pending_still (fragment - 1) gathered)

-- what an accepted packet answers
unfoldable pub told : Memory → Packet → Outcome
told m (plain rs at bs) = payload_at at (length bs)
told m (start sequence fragment rs bs) = told_after fragment (length bs)
told m (continuation sequence fragment bs) = told_after fragment (m.pending.gathered + length bs)

-- what an accepted packet leaves; gather bytes past the gathered ones stay
unfoldable pub left_by : Memory → Packet → Memory
left_by m (plain rs at bs) =
    record {
      cache = entered m.cache rs;
      plain_list = list_of rs;
      pending_list = m.pending_list;
      pending = m.pending;
      gather = m.gather;
    }
left_by m (start sequence fragment rs bs) =
    record {
      cache = entered m.cache rs;
      plain_list = m.plain_list;
      pending_list = list_of rs;
      pending = record_after sequence fragment (length bs);
      gather = sets m.gather 0 bs;
    }
left_by m (continuation sequence fragment bs) =
    record {
      cache = m.cache;
      plain_list = m.plain_list;
      pending_list = m.pending_list;
      pending = record_after sequence fragment (m.pending.gathered + length bs);
      gather = sets m.gather m.pending.gathered bs;
    }

-- what a packet judged so answers
abbrev pub taken : Memory → Answer Packet → Answer Outcome
taken m (good p) = good (told m p)
taken m (refused number place) = refused number place

-- every refusal leaves all lent memory unchanged
abbrev pub left_after : Memory → Answer Packet → Memory
left_after m (good p) = left_by m p
left_after m (refused number place) = m

-- what taking a packet answers
unfoldable pub take_packet : ℕ → Memory → List ℕ → Answer Outcome
take_packet flags m bs = taken m (judged flags m bs)

-- all lent memory after taking a packet
unfoldable pub after_packet : ℕ → Memory → List ℕ → Memory
after_packet flags m bs = left_after m (judged flags m bs)

-- after a call that gives new memory: every refusal leaves all lent memory unchanged
abbrev pub unless_refused : {A : Type 0} → A → Answer A → A
unless_refused old (good new) = new
unless_refused old (refused number place) = old

-- A drop gives 14 for an unknown flag, 14 on the record, 25. It touches the record alone, which is then zero
unfoldable pub drop_sequence : ℕ → Pending → Answer Pending
drop_sequence flags r =
    first_check (flags_known flags) 14
    (first_check (record_true r) 14
    (first_check (not (eqb r.due 0)) 25 (good none_pending)))

-- A reset: only 13. It touches the cache, which is then empty, and the record, which is then zero
unfoldable pub reset : Cache → Answer (Cache × Pending)
reset c = cond (cache_of_size c) (good (empty_cache, none_pending)) (refused 13 0)

-- the cache after a reset
unfoldable pub cache_after_reset : Cache → Cache
cache_after_reset c = (unless_refused {A = Cache × Pending} (c, none_pending) (reset c)).0
