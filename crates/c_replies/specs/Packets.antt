-- The answers of the packet calls and of the word call for C, as numbers: the refusal's number (0: accepted) and place, then the call's own; what is not answered is 0.
use Rattle.std.specs.Prelude.{Result, Ok, Err}
use Rattle.term_spec.specs.declared.Refusal.{Refusal}
use Rattle.packet_spec.specs.Answers.{PacketAnswer, StateAnswer, WordAnswer}
use Rattle.packet_spec.specs.declared.PacketOutcome.TheVariants as packets
use Rattle.c_replies.specs.declared.PacketReply.{PacketReply}
use Rattle.c_replies.specs.declared.StateReply.{StateReply}
use Rattle.c_replies.specs.declared.WordReply.{WordReply}

-- the refusal alone, of any answer
abbrev pub refusal_in : {A : Type 0} → Result A Refusal → StateReply
refusal_in (Ok x) = record { refusal = 0; place = 0 }
refusal_in (Err r) = record { refusal = r.number; place = r.place }

-- start and length along the list's places; a refusal's number is not 0, so that an empty word and a refusal differ
unfoldable pub flat_word : WordAnswer → WordReply
flat_word (Ok word) = record { refusal = 0; place = 0; start = word.start; length = word.length }
flat_word (Err r) = record { refusal = r.number; place = r.place; start = 0; length = 0 }

unfoldable pub flat_state : StateAnswer → StateReply
flat_state (Ok done) = record { refusal = 0; place = 0 }
flat_state (Err r) = record { refusal = r.number; place = r.place }

-- kind 1 plain, 2 pending, 3 complete
unfoldable pub flat_packet : PacketAnswer → PacketReply
flat_packet (Ok (packets.Plain offset size)) =
    record { refusal = 0; place = 0; kind = 1; offset = offset; length = size; due = 0; gathered = 0 }
flat_packet (Ok (packets.Pending due gathered)) =
    record { refusal = 0; place = 0; kind = 2; offset = 0; length = 0; due = due; gathered = gathered }
flat_packet (Ok (packets.Complete gathered)) =
    record { refusal = 0; place = 0; kind = 3; offset = 0; length = 0; due = 0; gathered = gathered }
flat_packet (Err r) =
    record { refusal = r.number; place = r.place; kind = 0; offset = 0; length = 0; due = 0; gathered = 0 }
