-- The cases of document 01 on packets, in UTF-8: a text of 32 and of 33 bytes, and the fragmented example of source document 001, run whole.
use Rattle.std.specs.Prelude.{◌≡◌, List, [], ◌∷◌, ℕ, take, replicate}
use Rattle.term_spec.specs.Numbers.{big_endian, in_bytes, little_endian, digits_within, digits, signed32, with_sign}
use Rattle.term_spec.specs.Text.{coding_of, holds, lines, marker, first, emit, decode, check, is_character, encode, encodes}
use Rattle.term_spec.specs.Order.{compare_numbers, compare_lists, numbers_of, compare}
use Rattle.term_spec.specs.Pairs.{put_in, in_order, arranged_parts, arranged}
use Rattle.term_spec.specs.Meaning.{pair_before}
use Rattle.term_spec.specs.Equal.{same, among}
use Rattle.term_spec.specs.Connection.{coding_agreed, v4_nc, flags_known}
use Rattle.term_spec.specs.Answer.{Answer, good, refused, bytes, number}
use Rattle.term_spec.specs.Head.{forms, form_in, form_or, form, text_or, finite, bits_rule, clear_low, bits_meaning, fields, term_head, creation_rule, id_words, words_rule, limits, later}
use Rattle.term_spec.specs.Reading.{opening, each, run, entries, row, string, list_tail, contents, body, one_term}
use Rattle.term_spec.specs.AtomList.{of_size, place_length, place_bytes, place_text, given_of, empty_list}
use Rattle.term_spec.specs.Message.{payload, ending, version, standalone_term, payload_terms, read}
use Rattle.term_spec.specs.Canonical.{big_bytes, integer_bytes, atom_bytes, tuple_bytes, port_bytes, words_bytes, small, all_small, list_bytes, term_bytes, bytes_of, key_before, canonical, canonical_standalone, standalones}
use Rattle.term_spec.specs.Writing.{Written, written, write}
use Rattle.packet_spec.specs.declared.Pending.{Pending}
use Rattle.packet_spec.specs.Memory.{Memory, cache_of_size, memory_of_size, record_true, none_pending, empty_cache, text_if, held_as, Held, held, text}
use Rattle.packet_spec.specs.Header.{flag_bytes, half, is_new, place_at, length_width, named, filled, held_or, new_reference, cached_reference, reference, references, header}
use Rattle.packet_spec.specs.Packet.{ids, packet_kind, preamble, payload_after, rest, packet, judged}
use Rattle.packet_spec.specs.Calls.{zeros_to, enter, entered, texts_in_places, lengths_of, list_of, record_after, told_after, told, left_by, Outcome, payload_at, pending_still, complete, take_packet, after_packet}

-- an empty cache, lists and a gather buffer of zeros, no sequence pending
abbrev pub fresh : Memory
fresh =
    record {
      cache = empty_cache;
      plain_list = empty_list;
      pending_list = empty_list;
      pending = none_pending;
      gather = replicate 65536 0;
    }

-- what a packet answers with a memory, in UTF-8, and what it leaves
-- (the definitions after `unfolding` are those that computing it goes through)
unfoldable pub answer : Memory → List ℕ → Answer Outcome
unfolding big_endian coding_of holds lines marker first emit decode check encode encodes bytes number text_or version coding_agreed flags_known of_size cache_of_size memory_of_size record_true empty_cache text_if held_as held flag_bytes half is_new place_at length_width named filled held_or new_reference cached_reference reference references header ids packet_kind preamble payload_after rest packet judged zeros_to enter entered texts_in_places lengths_of list_of record_after told_after told left_by take_packet after_packet
answer m bs = take_packet 1 m bs

unfoldable pub then : Memory → List ℕ → Memory
unfolding answer
then m bs = after_packet 1 m bs

-- a plain packet with one new reference to place 0, whose text is that many letters `a`
abbrev pub letters : ℕ → List ℕ
letters n = 131 ∷ 68 ∷ 1 ∷ 8 ∷ 0 ∷ n ∷ replicate n 97

-- source document 001: the two packets of the fragmented example
abbrev pub first_packet : List ℕ
first_packet =
    131 ∷ 69 ∷ 0 ∷ 0 ∷ 2 ∷ 168 ∷ 0 ∷ 0 ∷ 5 ∷ 83 ∷ 0 ∷ 0 ∷ 0 ∷ 0 ∷ 0 ∷ 0 ∷ 0 ∷ 2
    ∷ 5 ∷ 4 ∷ 137 ∷ 9 ∷ 10 ∷ 5 ∷ 236 ∷ 3 ∷ 114 ∷ 101 ∷ 103 ∷ 9 ∷ 4 ∷ 99 ∷ 97 ∷ 108 ∷ 108
    ∷ 238 ∷ 13 ∷ 115 ∷ 101 ∷ 116 ∷ 95 ∷ 103 ∷ 101 ∷ 116 ∷ 95 ∷ 115 ∷ 116 ∷ 97 ∷ 116 ∷ 101
    ∷ 104 ∷ 4 ∷ 97 ∷ 6 ∷ 103 ∷ 82 ∷ 0 ∷ 0 ∷ 0 ∷ 0 ∷ 85 ∷ 0 ∷ 0 ∷ 0 ∷ 0 ∷ 2 ∷ 82 ∷ 1 ∷ 82 ∷ 2
    ∷ 104 ∷ 3 ∷ 82 ∷ 3 ∷ 103 ∷ 82 ∷ 0 ∷ 0 ∷ 0 ∷ 0 ∷ 245 ∷ 0 ∷ 0 ∷ 0 ∷ 2 ∷ 2
    ∷ 104 ∷ 2 ∷ 82 ∷ 4 ∷ 109 ∷ 0 ∷ 0 ∷ 0 ∷ 128 ∷ replicate 103 0

abbrev pub second_packet : List ℕ
second_packet = 131 ∷ 70 ∷ 0 ∷ 0 ∷ 2 ∷ 168 ∷ 0 ∷ 0 ∷ 5 ∷ 83 ∷ 0 ∷ 0 ∷ 0 ∷ 0 ∷ 0 ∷ 0 ∷ 0 ∷ 1 ∷ replicate 25 0

-- its five texts: `recv@host`, `send@host`, `reg`, `call`, `set_get_state`
abbrev pub recv : List ℕ
recv = 114 ∷ 101 ∷ 99 ∷ 118 ∷ 64 ∷ 104 ∷ 111 ∷ 115 ∷ 116 ∷ []

abbrev pub send : List ℕ
send = 115 ∷ 101 ∷ 110 ∷ 100 ∷ 64 ∷ 104 ∷ 111 ∷ 115 ∷ 116 ∷ []

abbrev pub reg : List ℕ
reg = 114 ∷ 101 ∷ 103 ∷ []

abbrev pub call : List ℕ
call = 99 ∷ 97 ∷ 108 ∷ 108 ∷ []

abbrev pub set_get_state : List ℕ
set_get_state = 115 ∷ 101 ∷ 116 ∷ 95 ∷ 103 ∷ 101 ∷ 116 ∷ 95 ∷ 115 ∷ 116 ∷ 97 ∷ 116 ∷ 101 ∷ []

-- places 1,034 and 5 filled before: `recv@host`, `send@host`
abbrev pub filling : List ℕ
filling =
    131 ∷ 68 ∷ 2 ∷ 140 ∷ 0 ∷ 10 ∷ 9 ∷ 114 ∷ 101 ∷ 99 ∷ 118 ∷ 64 ∷ 104 ∷ 111 ∷ 115 ∷ 116
    ∷ 5 ∷ 9 ∷ 115 ∷ 101 ∷ 110 ∷ 100 ∷ 64 ∷ 104 ∷ 111 ∷ 115 ∷ 116 ∷ []

-- what is seen of the example: the three answers; at its end all bytes gathered, the five texts of the pending list, what the five places hold that its
-- header names, the record, and what the writer answers for the payload with that list
pub record Seen : Type 0 where
  pub answers : List (Answer Outcome)
  pub gathered : List ℕ
  pub texts : List (List ℕ)
  pub places_hold : List Held
  pub record_then : Pending
  pub payload_written : Answer Written

abbrev seen_of : Answer Outcome → Answer Outcome → Answer Outcome → Memory → Seen
seen_of a b c m =
    record {
      answers = a ∷ b ∷ c ∷ [];
      gathered = take 173 m.gather;
      texts = place_bytes m.pending_list 0 ∷ place_bytes m.pending_list 1 ∷ place_bytes m.pending_list 2 ∷ place_bytes m.pending_list 3 ∷ place_bytes m.pending_list 4 ∷ [];
      places_hold = held m.cache 1034 ∷ held m.cache 5 ∷ held m.cache 492 ∷ held m.cache 9 ∷ held m.cache 494 ∷ [];
      record_then = m.pending;
      payload_written = write 1 payload m.pending_list 8192 65536 (take 173 m.gather);
    }

unfoldable pub example : Seen
unfolding then in_bytes little_endian digits_within digits signed32 with_sign is_character compare_numbers compare_lists numbers_of compare put_in in_order arranged_parts arranged pair_before same among forms form_in form_or form finite bits_rule clear_low bits_meaning fields term_head creation_rule id_words words_rule v4_nc limits later opening each run entries row string list_tail contents body one_term place_length place_bytes place_text given_of big_bytes integer_bytes atom_bytes tuple_bytes port_bytes words_bytes small all_small list_bytes term_bytes bytes_of key_before canonical canonical_standalone standalones ending standalone_term payload_terms read written write
example =
    let m : Memory = then fresh filling in
    let n : Memory = then m first_packet in
    seen_of (answer fresh filling) (answer m first_packet) (answer n second_packet) (then n second_packet)

pub record Cases : Type 0 where
  -- a text of 32 bytes enters the cache, 33 is 23
  pub text_32 : answer fresh (letters 32) ≡ good (payload_at 38 0)
  pub text_32_held : held (then fresh (letters 32)).cache 0 ≡ text (replicate 32 97)
  pub text_33 : answer fresh (letters 33) ≡ refused 23 0
  -- the fragmented example of source document 001, places 1,034 and 5 filled before
  pub run_whole : example ≡ record {
    answers = good (payload_at 27 0) ∷ good (pending_still 1 148) ∷ good (complete 173) ∷ [];
    gathered = 104 ∷ 4 ∷ 97 ∷ 6 ∷ 103 ∷ 82 ∷ 0 ∷ 0 ∷ 0 ∷ 0 ∷ 85 ∷ 0 ∷ 0 ∷ 0 ∷ 0 ∷ 2 ∷ 82 ∷ 1 ∷ 82 ∷ 2
        ∷ 104 ∷ 3 ∷ 82 ∷ 3 ∷ 103 ∷ 82 ∷ 0 ∷ 0 ∷ 0 ∷ 0 ∷ 245 ∷ 0 ∷ 0 ∷ 0 ∷ 2 ∷ 2 ∷ 104 ∷ 2 ∷ 82 ∷ 4 ∷ 109 ∷ 0 ∷ 0 ∷ 0 ∷ 128 ∷ replicate 128 0;
    texts = recv ∷ send ∷ reg ∷ call ∷ set_get_state ∷ [];
    places_hold = text recv ∷ text send ∷ text reg ∷ text call ∷ text set_get_state ∷ [];
    record_then = none_pending;
    payload_written = good (record { terms = 2; bytes = 131 ∷ 104 ∷ 4 ∷ 97 ∷ 6 ∷ 88 ∷ 119 ∷ 9 ∷ 114 ∷ 101 ∷ 99 ∷ 118 ∷ 64 ∷ 104 ∷ 111 ∷ 115 ∷ 116 ∷ 0 ∷ 0 ∷ 0 ∷ 85 ∷ 0 ∷ 0 ∷ 0 ∷ 0 ∷ 0 ∷ 0 ∷ 0 ∷ 2 ∷ 119 ∷ 9 ∷ 115 ∷ 101 ∷ 110 ∷ 100 ∷ 64 ∷ 104 ∷ 111 ∷ 115 ∷ 116 ∷ 119 ∷ 3 ∷ 114 ∷ 101 ∷ 103 ∷ 131 ∷ 104 ∷ 3 ∷ 119 ∷ 4 ∷ 99 ∷ 97 ∷ 108 ∷ 108 ∷ 88 ∷ 119 ∷ 9 ∷ 114 ∷ 101 ∷ 99 ∷ 118 ∷ 64 ∷ 104 ∷ 111 ∷ 115 ∷ 116 ∷ 0 ∷ 0 ∷ 0 ∷ 245 ∷ 0 ∷ 0 ∷ 0 ∷ 2 ∷ 0 ∷ 0 ∷ 0 ∷ 2 ∷ 104 ∷ 2 ∷ 119 ∷ 13 ∷ 115 ∷ 101 ∷ 116 ∷ 95 ∷ 103 ∷ 101 ∷ 116 ∷ 95 ∷ 115 ∷ 116 ∷ 97 ∷ 116 ∷ 101 ∷ 109 ∷ 0 ∷ 0 ∷ 0 ∷ 128 ∷ replicate 128 0 });
  }
