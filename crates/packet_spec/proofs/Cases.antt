-- The cases of the paper on packets, as a single statement.
use mathlib.Core.Path.{◌≡◌, refl}
use mathlib.Core.List.{List, [], ◌∷◌, ◌++◌}
use Prim.Native.Nat.{ℕ}
use lib.ListN.{replicate}
use Rattle.std.specs.Prelude.{Ok, Err}
use Rattle.term_spec.specs.Connection.{flags_known}
use Rattle.term_spec.specs.AtomList.{AtomList, lent_list, empty_list, of_size, place_length, place_bytes, place_text}
use Rattle.term_spec.specs.Answer.{Answer, good, refused}
use Rattle.packet_spec.specs.declared.Pending.{Pending}
use Rattle.packet_spec.specs.Memory.{Cache, Memory, Held, nothing, text, text_if, held_as, held, cache_of, memory_of, record_true, none_pending, empty_cache}
use Rattle.packet_spec.specs.Calls.{Outcome, payload_at, pending_still, complete, take_packet, after_packet, drop_sequence, reset}
use Rattle.packet_spec.specs.Answers.{Settled, refusal_of, state_answer, drop_answer, word_bytes}
use Rattle.packet_spec.specs.Runs.{with_state}
use Rattle.packet_spec.specs.Cases.{fresh, answer, then, example, Cases}
use Rattle.packet_spec.specs.Words.{word_if, listed_word}

pub cases : Cases
unfolding example
cases = record {
  text_32 = refl;
  text_32_held = refl;
  text_33 = refl;
  run_whole = refl;
}

-- SequenceId and FragmentId, and what follows
abbrev ids_of : ℕ → ℕ → List ℕ → List ℕ
ids_of s f bs = 0 ∷ 0 ∷ 0 ∷ 0 ∷ 0 ∷ 0 ∷ 0 ∷ s ∷ 0 ∷ 0 ∷ 0 ∷ 0 ∷ 0 ∷ 0 ∷ 0 ∷ f ∷ bs

-- of sequence 7 that many bytes are gathered, and id 2 is due
abbrev pending_of : ℕ → Pending
pending_of n = record { sequence = 7; due = 2; gathered = n }

abbrev gathered_so : ℕ → Memory
gathered_so n = with_state fresh (empty_cache, pending_of n)

-- two bytes
abbrev half_done : Memory
half_done = gathered_so 2

-- a plain packet that fills place 7 with `a`, and one that fills it with the byte 233
abbrev a_held : List ℕ
a_held = 131 ∷ 68 ∷ 1 ∷ 8 ∷ 7 ∷ 1 ∷ 97 ∷ []

abbrev accented : List ℕ
accented = 131 ∷ 68 ∷ 1 ∷ 8 ∷ 7 ∷ 1 ∷ 233 ∷ []

-- place 7 holds `a`
abbrev seven_held : Memory
seven_held = then fresh a_held

-- place 0 has length 33, place 1 the one byte 255, which is no UTF-8; all other places are empty
abbrev two_false : Cache
two_false = cache_of (replicate 32 0 ++ (255 ∷ replicate 65503 0)) (33 ∷ 1 ∷ replicate 2046 65535)

-- the list of two new references: `a`, and an empty text
abbrev two_words : AtomList
two_words = (then fresh (131 ∷ 68 ∷ 2 ∷ 140 ∷ 0 ∷ 10 ∷ 1 ∷ 97 ∷ 5 ∷ 0 ∷ [])).plain_list

-- a list of n texts whose place 0 has length 33, place 1 a byte that is no UTF-8
abbrev false_list : ℕ → AtomList
false_list n = lent_list n (replicate 33 97 ++ (255 ∷ replicate 8126 0)) (33 ∷ 2 ∷ replicate 253 0)

-- a start fills place 7 with `a`; then a plain packet fills it with `b`
abbrev replaced : Memory
replaced = then (then fresh (131 ∷ 69 ∷ ids_of 9 2 (1 ∷ 8 ∷ 7 ∷ 1 ∷ 97 ∷ []))) (131 ∷ 68 ∷ 1 ∷ 8 ∷ 7 ∷ 1 ∷ 98 ∷ [])

-- the gather buffer is one byte short
abbrev short : Memory
short = memory_of empty_cache empty_list empty_list none_pending (replicate 65535 0)

-- what a packet answers with these flags and a memory, and what it leaves
unfoldable pub answer_with : ℕ → Memory → List ℕ → Answer Outcome
unfolding answer
answer_with flags m bs = take_packet flags m bs

unfoldable pub then_with : ℕ → Memory → List ℕ → Memory
unfolding answer
then_with flags m bs = after_packet flags m bs

-- what a drop answers, and the same with the record after it, what a reset answers, what a place holds, the word of a reference and its bytes
unfoldable pub dropped : ℕ → Pending → Answer Pending
unfolding drop_sequence record_true flags_known
dropped flags r = drop_sequence flags r

unfoldable pub settled : ℕ → Pending → Settled
unfolding dropped state_answer drop_answer
settled flags r = drop_answer flags r

unfoldable pub reset_of : Cache → Answer (Cache × Pending)
unfolding answer reset
reset_of c = reset c

unfoldable pub holds_text : Cache → ℕ → Held
unfolding answer held held_as text_if
holds_text c p = held c p

unfoldable pub word_of : ℕ → AtomList → ℕ → Answer (List ℕ)
unfolding answer of_size place_length place_bytes place_text listed_word word_if
word_of flags list i = listed_word flags list i

unfoldable pub bytes_of : ℕ → AtomList → ℕ → List ℕ
unfolding word_of word_bytes
bytes_of flags list i = word_bytes (listed_word flags list i)

-- Further examples: flags, texts, refusals and their order, a drop, a reset, words
pub record Examples : Type 0 where
  -- LongAtoms: odd n, the high half of the last flag byte; even n, the low half of the last, whose high half is ignored, as all other spare bits are
  pub long_odd : answer fresh (131 ∷ 68 ∷ 1 ∷ 24 ∷ 7 ∷ 0 ∷ 1 ∷ 97 ∷ []) ≡ good (payload_at 8 0)
  pub long_even : answer fresh (131 ∷ 68 ∷ 2 ∷ 136 ∷ 225 ∷ 7 ∷ 0 ∷ 1 ∷ 99 ∷ 8 ∷ 0 ∷ 0 ∷ 106 ∷ []) ≡ good (payload_at 12 1)
  pub spare_bits : answer fresh (131 ∷ 68 ∷ 1 ∷ 232 ∷ 7 ∷ 1 ∷ 97 ∷ []) ≡ good (payload_at 7 0)
  -- 2 on the count and on the flags; at reference 1 on its internal index, and on its text, before 22
  pub no_count : answer fresh (131 ∷ 68 ∷ []) ≡ refused 2 0
  pub flags_cut : answer fresh (131 ∷ 68 ∷ 2 ∷ 136 ∷ []) ≡ refused 2 0
  pub no_index : answer fresh (131 ∷ 68 ∷ 2 ∷ 136 ∷ 0 ∷ 7 ∷ 0 ∷ []) ≡ refused 2 1
  pub text_cut : answer fresh (131 ∷ 68 ∷ 2 ∷ 136 ∷ 0 ∷ 7 ∷ 0 ∷ 7 ∷ 1 ∷ []) ≡ refused 2 1
  -- 22 at the later one: new after new, cached after new (before 21), new after cached; two cached ones may name one place
  pub new_new : answer fresh (131 ∷ 68 ∷ 2 ∷ 136 ∷ 0 ∷ 7 ∷ 0 ∷ 7 ∷ 0 ∷ []) ≡ refused 22 1
  pub new_cached : answer fresh (131 ∷ 68 ∷ 2 ∷ 8 ∷ 0 ∷ 7 ∷ 0 ∷ 7 ∷ []) ≡ refused 22 1
  pub cached_new : answer seven_held (131 ∷ 68 ∷ 2 ∷ 128 ∷ 0 ∷ 7 ∷ 7 ∷ 0 ∷ []) ≡ refused 22 1
  pub cached_cached : answer seven_held (131 ∷ 68 ∷ 2 ∷ 0 ∷ 0 ∷ 7 ∷ 7 ∷ []) ≡ good (payload_at 7 0)
  -- a new reference's text: 5 at the bad byte, counted from the packet's first, and 23 for 33 letters
  pub not_utf_8 : answer fresh (131 ∷ 68 ∷ 2 ∷ 136 ∷ 0 ∷ 7 ∷ 0 ∷ 8 ∷ 1 ∷ 255 ∷ []) ≡ refused 5 9
  pub too_long : answer fresh (131 ∷ 68 ∷ 2 ∷ 136 ∷ 0 ∷ 7 ∷ 0 ∷ 8 ∷ 33 ∷ replicate 33 97) ≡ refused 23 1
  -- 5 at a byte that cannot go on, at the first byte of a character that the text's end cuts off, after ids and with long lengths, and at the 256th
  -- character in either coding
  pub cannot_go_on : answer fresh (131 ∷ 68 ∷ 1 ∷ 8 ∷ 7 ∷ 2 ∷ 195 ∷ 97 ∷ []) ≡ refused 5 7
  pub cut_off : answer fresh (131 ∷ 68 ∷ 1 ∷ 8 ∷ 7 ∷ 2 ∷ 97 ∷ 195 ∷ 169 ∷ []) ≡ refused 5 7
  pub after_ids : answer fresh (131 ∷ 69 ∷ ids_of 7 2 (1 ∷ 24 ∷ 7 ∷ 0 ∷ 1 ∷ 255 ∷ [])) ≡ refused 5 23
  pub characters_256 : answer fresh (131 ∷ 68 ∷ 1 ∷ 24 ∷ 7 ∷ 1 ∷ 0 ∷ replicate 256 97) ≡ refused 5 262
  pub latin_256 : answer_with 0 fresh (131 ∷ 68 ∷ 1 ∷ 24 ∷ 7 ∷ 1 ∷ 0 ∷ replicate 256 97) ≡ refused 5 262
  -- 22 comes before 5, 5 before 23, and a header's refusals before 12
  pub named_not_utf_8 : answer fresh (131 ∷ 68 ∷ 2 ∷ 136 ∷ 0 ∷ 7 ∷ 0 ∷ 7 ∷ 1 ∷ 255 ∷ []) ≡ refused 22 1
  pub long_not_utf_8 : answer fresh (131 ∷ 68 ∷ 1 ∷ 8 ∷ 7 ∷ 33 ∷ (replicate 32 97 ++ (255 ∷ []))) ≡ refused 5 38
  pub empty_over : answer fresh (131 ∷ 68 ∷ 2 ∷ 8 ∷ 0 ∷ 7 ∷ 0 ∷ 8 ∷ replicate 65537 106) ≡ refused 21 1
  -- a byte that is no UTF-8 is a character in Latin-1, stored as UTF-8; the flag UTF-8 tells them apart, the other flag does not
  pub utf_8_agreed : answer_with 1 fresh accented ≡ refused 5 6
  pub utf_8_newer : answer_with 3 fresh accented ≡ refused 5 6
  pub latin_agreed : answer_with 0 fresh accented ≡ good (payload_at 7 0)
  pub latin_newer : answer_with 2 fresh accented ≡ good (payload_at 7 0)
  pub latin_stored : holds_text (then_with 0 fresh accented).cache 7 ≡ text (195 ∷ 169 ∷ [])
  pub latin_newer_stored : holds_text (then_with 2 fresh accented).cache 7 ≡ text (195 ∷ 169 ∷ [])
  -- 14 for an unknown flag on a packet that is accepted with known ones: nothing is stored; 13 comes before it, and it before 1
  pub known_flags : answer_with 3 fresh a_held ≡ good (payload_at 7 0)
  pub unknown_4 : answer_with 4 fresh a_held ≡ refused 14 0
  pub unknown_128 : answer_with 128 fresh a_held ≡ refused 14 0
  pub unknown_255 : answer_with 255 fresh a_held ≡ refused 14 0
  pub unknown_stored : holds_text (then_with 4 fresh a_held).cache 7 ≡ nothing
  pub unknown_short : answer_with 4 short a_held ≡ refused 13 0
  pub unknown_empty : answer_with 4 fresh [] ≡ refused 14 0
  -- a cached reference: 21 for an empty place, 14 for a length over 32 and for what is no UTF-8
  pub cached_empty : answer seven_held (131 ∷ 68 ∷ 2 ∷ 0 ∷ 0 ∷ 7 ∷ 8 ∷ []) ≡ refused 21 1
  pub cached_long : answer (with_state fresh (two_false, none_pending)) (131 ∷ 68 ∷ 2 ∷ 8 ∷ 0 ∷ 7 ∷ 0 ∷ 0 ∷ []) ≡ refused 14 1
  pub cached_false : answer (with_state fresh (two_false, none_pending)) (131 ∷ 68 ∷ 2 ∷ 8 ∷ 0 ∷ 7 ∷ 0 ∷ 1 ∷ []) ≡ refused 14 1
  -- 13, and 14 on the record, before 1
  pub gather_short : answer short [] ≡ refused 13 0
  pub record_false : answer (gathered_so 65537) [] ≡ refused 14 0
  -- 1: empty, or first byte not 131; 2 on the tag; 20
  pub empty_packet : answer fresh [] ≡ refused 1 0
  pub not_131 : answer fresh (130 ∷ 68 ∷ 0 ∷ []) ≡ refused 1 0
  pub no_tag : answer fresh (131 ∷ []) ≡ refused 2 0
  pub other_tag : answer fresh (131 ∷ 71 ∷ []) ≡ refused 20 0
  -- a start of one fragment is complete; a continuation that is due is taken
  pub whole_start : answer fresh (131 ∷ 69 ∷ ids_of 9 1 (0 ∷ 106 ∷ [])) ≡ good (complete 1)
  pub due : answer half_done (131 ∷ 70 ∷ ids_of 7 2 (97 ∷ [])) ≡ good (pending_still 1 3)
  -- 24 for zero comes before 26 and 25
  pub zero_start : answer half_done (131 ∷ 69 ∷ ids_of 8 0 (0 ∷ [])) ≡ refused 24 0
  pub zero_continued : answer fresh (131 ∷ 70 ∷ ids_of 7 0 []) ≡ refused 24 0
  -- 26, before the 2 of a header that is cut
  pub twice : answer half_done (131 ∷ 69 ∷ ids_of 8 2 (0 ∷ [])) ≡ refused 26 0
  pub twice_cut : answer half_done (131 ∷ 69 ∷ ids_of 8 2 []) ≡ refused 26 0
  -- 25: none pending, though the zero record names this id; another id, before 24 for the wrong one
  pub none_pending_yet : answer fresh (131 ∷ 70 ∷ ids_of 0 2 []) ≡ refused 25 0
  pub other : answer half_done (131 ∷ 70 ∷ ids_of 8 1 []) ≡ refused 25 0
  -- 24: not the one due
  pub wrong : answer half_done (131 ∷ 70 ∷ ids_of 7 1 []) ≡ refused 24 0
  -- 12: a payload, or gathered bytes, over 65,536
  pub payload_full : answer fresh (131 ∷ 68 ∷ 0 ∷ replicate 65536 106) ≡ good (payload_at 3 65536)
  pub payload_over : answer fresh (131 ∷ 68 ∷ 0 ∷ replicate 65537 106) ≡ refused 12 0
  pub gathered_full : answer (gathered_so 65535) (131 ∷ 70 ∷ ids_of 7 2 (97 ∷ [])) ≡ good (pending_still 1 65536)
  pub gathered_over : answer (gathered_so 65535) (131 ∷ 70 ∷ ids_of 7 2 (97 ∷ 97 ∷ [])) ≡ refused 12 0
  -- a drop
  pub none_dropped : dropped 1 none_pending ≡ refused 25 0
  pub one_dropped : dropped 1 (pending_of 5) ≡ good none_pending
  pub false_dropped : dropped 1 (pending_of 65537) ≡ refused 14 0
  -- with other known flags; 14 for an unknown flag, whatever the record is: it stays
  pub none_dropped_newer : dropped 3 none_pending ≡ refused 25 0
  pub one_dropped_newer : settled 2 (pending_of 5) ≡ record { answer = Ok tt; pending = none_pending }
  pub one_unknown : settled 4 (pending_of 5) ≡ record { answer = Err (refusal_of 14 0); pending = pending_of 5 }
  pub false_unknown : settled 255 (pending_of 65537) ≡ record { answer = Err (refusal_of 14 0); pending = pending_of 65537 }
  pub none_unknown : dropped 128 none_pending ≡ refused 14 0
  -- a reset: all bytes zero, all lengths 65,535; 13 for a cache not of its size
  pub all_reset : reset_of seven_held.cache ≡ good (cache_of (replicate 65536 0) (replicate 2048 65535), none_pending)
  pub none_reset : reset_of (cache_of [] []) ≡ refused 13 0
  -- the word of a reference, also an empty one; 6 for an index not below n
  pub first_word : word_of 1 two_words 0 ≡ good (97 ∷ [])
  pub empty_word : word_of 1 two_words 1 ≡ good []
  pub third_word : word_of 1 two_words 2 ≡ refused 6 0
  -- 14 for a length over 32 and for what is no UTF-8; 6 comes before it, 13 before both
  pub long_word : word_of 1 (false_list 2) 0 ≡ refused 14 0
  pub false_word : word_of 1 (false_list 2) 1 ≡ refused 14 0
  pub past_word : word_of 1 (false_list 1) 1 ≡ refused 6 0
  pub few_bytes : word_of 1 (lent_list 0 (replicate 8159 0) (replicate 255 0)) 0 ≡ refused 13 0
  pub more_lengths : word_of 1 (lent_list 1 (replicate 8160 0) (33 ∷ replicate 255 0)) 0 ≡ refused 13 0
  -- 14 for an unknown flag: no bytes; 13 comes before it, and it before 6
  pub newer_word : word_of 2 two_words 0 ≡ good (97 ∷ [])
  pub unknown_word : word_of 4 two_words 0 ≡ refused 14 0
  pub unknown_bytes : bytes_of 4 two_words 0 ≡ []
  pub unknown_few_bytes : word_of 4 (lent_list 0 (replicate 8159 0) (replicate 255 0)) 0 ≡ refused 13 0
  pub unknown_past : word_of 4 two_words 2 ≡ refused 14 0
  -- a packet between fills the start's place anew: the sequence keeps its word, the packet has its own
  pub place_replaced : holds_text replaced.cache 7 ≡ text (98 ∷ [])
  pub sequence_word : word_of 1 replaced.pending_list 0 ≡ good (97 ∷ [])
  pub packet_word : word_of 1 replaced.plain_list 0 ≡ good (98 ∷ [])

pub examples : Examples
unfolding then answer_with then_with settled reset_of holds_text bytes_of
examples = record {
  long_odd = refl;
  long_even = refl;
  spare_bits = refl;
  no_count = refl;
  flags_cut = refl;
  no_index = refl;
  text_cut = refl;
  new_new = refl;
  new_cached = refl;
  cached_new = refl;
  cached_cached = refl;
  not_utf_8 = refl;
  too_long = refl;
  cannot_go_on = refl;
  cut_off = refl;
  after_ids = refl;
  characters_256 = refl;
  latin_256 = refl;
  named_not_utf_8 = refl;
  long_not_utf_8 = refl;
  empty_over = refl;
  utf_8_agreed = refl;
  utf_8_newer = refl;
  latin_agreed = refl;
  latin_newer = refl;
  latin_stored = refl;
  latin_newer_stored = refl;
  known_flags = refl;
  unknown_4 = refl;
  unknown_128 = refl;
  unknown_255 = refl;
  unknown_stored = refl;
  unknown_short = refl;
  unknown_empty = refl;
  cached_empty = refl;
  cached_long = refl;
  cached_false = refl;
  gather_short = refl;
  record_false = refl;
  empty_packet = refl;
  not_131 = refl;
  no_tag = refl;
  other_tag = refl;
  whole_start = refl;
  due = refl;
  zero_start = refl;
  zero_continued = refl;
  twice = refl;
  twice_cut = refl;
  none_pending_yet = refl;
  other = refl;
  wrong = refl;
  payload_full = refl;
  payload_over = refl;
  gathered_full = refl;
  gathered_over = refl;
  none_dropped = refl;
  one_dropped = refl;
  false_dropped = refl;
  none_dropped_newer = refl;
  one_dropped_newer = refl;
  one_unknown = refl;
  false_unknown = refl;
  none_unknown = refl;
  all_reset = refl;
  none_reset = refl;
  first_word = refl;
  empty_word = refl;
  third_word = refl;
  long_word = refl;
  false_word = refl;
  past_word = refl;
  few_bytes = refl;
  more_lengths = refl;
  newer_word = refl;
  unknown_word = refl;
  unknown_bytes = refl;
  unknown_few_bytes = refl;
  unknown_past = refl;
  place_replaced = refl;
  sequence_word = refl;
  packet_word = refl;
}
