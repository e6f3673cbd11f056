-- A message's words are its own header's: `OwnWords` (packet_spec/specs/OwnWords) over the promises of `word` and `locate_word`, here, and of `take_packet`,
-- `drop_sequence` and `reset` (packet_calls/proofs/Demand).
use mathlib.Core.List.{List}
use Prim.Native.Nat.{ℕ}
use contract.Lifetimes.{Lfts}
use Rattle.term_spec.specs.Numbers.{Under}
use Rattle.term_spec.specs.AtomList.{lent_list}
use Rattle.packet_spec.specs.Answers.{Taken}
use Rattle.packet_spec.specs.Memory.{Memory}
use Rattle.packet_spec.specs.Promises.{PacketCall, LocateWordCall, WordCall}
use Rattle.packet_spec.specs.Runs.{Call, AllBytes}
use Rattle.packet_spec.specs.Demands.{Ran}
use Rattle.packet_spec.specs.OwnWords.{OwnWords}
use Rattle.packet_spec.proofs.OwnWords as definitions
use Rattle.word_lookup.proofs.locate_word.Reads as locate_call
use Rattle.word_lookup.proofs.word.Reads as word_call

-- These are the promises of the calls
pub promised_locate_word : (κs : Lfts 2) (a : _) (r : _) (s : _) → locate_call.Post κs a r s
    → LocateWordCall a.0.flags (lent_list a.1.0 a.1.1.0.now a.1.1.1.0.now) a.1.1.1.1.0.0 r
promised_locate_word κs a r s p = p

pub promised_word : (κs : Lfts 2) (a : _) (r : _) (s : _) → word_call.Post κs a r s
    → WordCall a.0.flags (lent_list a.1.0 a.1.1.0.now a.1.1.1.0.now) a.1.1.1.1.0.0 r.now
promised_word κs a r s p = p

-- For any packet taken with any memory, and any calls after it
pub own_words : {flags : ℕ} {packet : List ℕ} {m m' n : Memory} {cs : List Call} → Under 256 packet → AllBytes cs → {r : Taken}
    → PacketCall flags packet m r m' → Ran m' cs n → OwnWords flags packet m r m' cs n
own_words = definitions.own_words
