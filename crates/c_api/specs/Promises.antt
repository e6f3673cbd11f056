-- What the calls for C promise: relations of what is lent to a call, its reply and what it leaves. In each there is an answer of the call in Rattle,
-- whose promise holds of it and of the memory; the reply is that answer in numbers.
use Rattle.std.specs.Prelude.{◌≡◌, List, ℕ}
use Rattle.term_spec.specs.AtomList.{AtomList}
use Rattle.term_spec.specs.Message.{Framing}
use Rattle.term_spec.specs.Promises.{ReadCall, WriteCall}
use Rattle.term_spec.specs.Answers.{ReadAnswer, WriteAnswer}
use Rattle.packet_spec.specs.Memory.{Cache, Memory}
use Rattle.packet_spec.specs.Promises.{PacketCall, DropCall, ResetCall, LocateWordCall}
use Rattle.packet_spec.specs.declared.Pending.{Pending}
use Rattle.packet_spec.specs.Answers.{Taken, Settled, WordAnswer}
use Rattle.c_replies.specs.Terms.{flat_read, flat_write}
use Rattle.c_replies.specs.Packets.{flat_packet, flat_state, flat_word}
use Rattle.c_replies.specs.declared.ReadReply.{ReadReply}
use Rattle.c_replies.specs.declared.WriteReply.{WriteReply}
use Rattle.c_replies.specs.declared.PacketReply.{PacketReply}
use Rattle.c_replies.specs.declared.StateReply.{StateReply}
use Rattle.c_replies.specs.declared.WordReply.{WordReply}

-- Reading: the connection's flags, the message, the atom list and the lent table; the reply, and the table after it
pub record IsReadReply (flags : ℕ) (framing : Framing) (list : AtomList) (message table : List ℕ) (reply : ReadReply) (table' : List ℕ) : Type 0 where
  pub answer : ReadAnswer
  pub called : ReadCall flags framing list message table answer table'
  pub reply_is : reply ≡ flat_read answer

-- Writing: also the lent scratch table and output, and both after it
pub record IsWriteReply (flags : ℕ) (framing : Framing) (list : AtomList) (message scratch output : List ℕ) (reply : WriteReply) (scratch' output' : List ℕ) : Type 0 where
  pub answer : WriteAnswer
  pub called : WriteCall flags framing list message scratch output answer scratch' output'
  pub reply_is : reply ≡ flat_write answer

-- Taking a packet: the connection's flags, all memory lent, the record in it; the reply, and all memory after it
pub record IsPacketReply (flags : ℕ) (packet : List ℕ) (m : Memory) (reply : PacketReply) (m' : Memory) : Type 0 where
  pub taken : Taken
  pub called : PacketCall flags packet m taken m'
  pub reply_is : reply ≡ flat_packet taken.answer

-- A drop: the connection's flags, the record lent; the reply, and the record after it
pub record IsDropReply (flags : ℕ) (p : Pending) (reply : StateReply) (p' : Pending) : Type 0 where
  pub settled : Settled
  pub called : DropCall flags p settled
  pub reply_is : reply ≡ flat_state settled.answer
  pub record_left : p' ≡ settled.pending

-- A reset: the cache and the record lent; the reply, and both after it
pub record IsResetReply (c : Cache) (p : Pending) (reply : StateReply) (c' : Cache) (p' : Pending) : Type 0 where
  pub settled : Settled
  pub called : ResetCall c p settled c'
  pub reply_is : reply ≡ flat_state settled.answer
  pub record_left : p' ≡ settled.pending

-- A word: the connection's flags, the atom list lent and the reference's index; the reply
pub record IsWordReply (flags : ℕ) (list : AtomList) (i : ℕ) (reply : WordReply) : Type 0 where
  pub answer : WordAnswer
  pub called : LocateWordCall flags list i answer
  pub reply_is : reply ≡ flat_word answer
