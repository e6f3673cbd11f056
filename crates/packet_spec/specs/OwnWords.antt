-- A message's words are those of its own header, as long as its list stands: what the calls' promises come to.
use Rattle.std.specs.Prelude.{◌≡◌, Bool, true, false, List, [], ◌∷◌, ℕ, ◌*◌, length, take, drop, Ok, Err}
use Rattle.term_spec.specs.Connection.{flags_known}
use Rattle.term_spec.specs.Answer.{good}
use Rattle.term_spec.specs.AtomList.{AtomList}
use Rattle.term_spec.specs.declared.Refusal.{Refusal}
use Rattle.packet_spec.specs.declared.PacketOutcome.TheVariants as packets
use Rattle.packet_spec.specs.Memory.{Memory}
use Rattle.packet_spec.specs.Header.{Reference}
use Rattle.packet_spec.specs.Packet.{Packet, plain, start, continuation, judged}
use Rattle.packet_spec.specs.Words.{own_word}
use Rattle.packet_spec.specs.Answers.{Taken, WordAnswer, word_answer, word_bytes}
use Rattle.packet_spec.specs.Promises.{LocateWordCall, WordCall}
use Rattle.packet_spec.specs.Runs.{Call, taking, dropping, resetting, after_call}

-- Every word call on this list, with flags that are known, answers what these references say: below their number reference i's text, from there on 6
pub record Says (list : AtomList) (rs : List Reference) : Type 0 where
  pub counted : list.n ≡ length rs
  pub word_said : (flags i : ℕ) (bytes : List ℕ) → flags_known flags ≡ true → WordCall flags list i bytes → bytes ≡ word_bytes (own_word rs i)
  pub stretch_said : (flags i : ℕ) (answer : WordAnswer) → flags_known flags ≡ true → LocateWordCall flags list i answer → answer ≡ word_answer i (own_word rs i)
  -- and where it is told to stand, the list's places have that text
  pub stands_there : (i : ℕ) (t : List ℕ) → own_word rs i ≡ good t → take (length t) (drop (32 * i) list.places) ≡ t

unfoldable pub is_plain : Packet → Bool
is_plain (plain rs at bs) = true
is_plain (start sequence fragment rs bs) = false
is_plain (continuation sequence fragment bs) = false

unfoldable pub is_start : Packet → Bool
is_start (plain rs at bs) = false
is_start (start sequence fragment rs bs) = true
is_start (continuation sequence fragment bs) = false

-- a call accepts no packet of this kind
abbrev pub AcceptsNone : (Packet → Bool) → Memory → Call → Type 0
AcceptsNone kind m (taking flags bs) = (p : Packet) → judged flags m bs ≡ good p → kind p ≡ false
AcceptsNone kind m (dropping flags) = Unit {0}
AcceptsNone kind m resetting = Unit {0}

-- nor does any call of a run
abbrev pub AllAcceptNone : (Packet → Bool) → Memory → List Call → Type 0
AllAcceptNone kind m [] = Unit {0}
AllAcceptNone kind m (c ∷ cs) = AcceptsNone kind m c × AllAcceptNone kind (after_call m c) cs

-- each call of a run is made while a sequence is pending
abbrev pub AllPending : Memory → List Call → Type 0
AllPending m [] = Unit {0}
AllPending m (c ∷ cs) = (m.pending.due ≡ 0 → ⊥) × AllPending (after_call m c) cs

-- A packet is taken with memory m, which any packets before may have left, and answered by r; then come any calls, to memory n
pub record OwnWords (flags : ℕ) (packet : List ℕ) (m : Memory) (r : Taken) (m' : Memory) (cs : List Call) (n : Memory) : Type 0 where
  -- an answer that is no refusal is of an accepted packet, the answer Plain of a plain one
  pub accepted_told : ((f : Refusal) → r.answer ≡ Err f → ⊥) → (p : Packet) × (judged flags m packet ≡ good p)
  pub plain_told : (offset size : ℕ) → r.answer ≡ Ok (packets.Plain offset size)
      → (rs : List Reference) × ((bs : List ℕ) × (judged flags m packet ≡ good (plain rs offset bs)))
  -- a plain packet's list says what its header's references say, until the next plain packet is accepted
  pub of_plain : (rs : List Reference) (at : ℕ) (bs : List ℕ) → judged flags m packet ≡ good (plain rs at bs)
      → AllAcceptNone is_plain m' cs → Says n.plain_list rs
  -- a sequence's list says what its start's references say, until the next start is accepted
  pub of_sequence : (sequence fragment : ℕ) (rs : List Reference) (bs : List ℕ) → judged flags m packet ≡ good (start sequence fragment rs bs)
      → AllAcceptNone is_start m' cs → Says n.pending_list rs
  -- so it does up to the sequence's end, whatever packets come: while it is pending none is accepted as a start
  pub to_its_end : (sequence fragment : ℕ) (rs : List Reference) (bs : List ℕ) → judged flags m packet ≡ good (start sequence fragment rs bs)
      → AllPending m' cs → Says n.pending_list rs
