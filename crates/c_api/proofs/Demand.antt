-- The promises of the calls for C, as relations: what holds after any call, with any arguments a, reply r and lent memory s after it.
-- Those that read and write give a ReadCall or a WriteCall, as demand 3 (crate writer, proofs/Demand) has them, with an answer that is the reply in numbers;
-- those on packets a call of a run, as demand 2 (crate packet_spec, proofs/Demand) has it; the word call the reference's text, as a message's own words
-- (crate packet_spec, proofs/OwnWords) have it.
use mathlib.Core.Path.{◌≡◌, refl, sym, ◌∙◌, ap, subst}
use mathlib.Core.Bool.{true}
use mathlib.Core.List.{List, ◌∷◌}
use Prim.Native.Nat.{ℕ}
use native.Mathlib.Omega.{arith}
use contract.Lifetimes.{Lfts}
use contract.Monad.{fact}
use borrow.Fn.World.{World}
use Rattle.std.specs.Prelude.{Ok, Err}
use Rattle.term_spec.specs.AtomList.{AtomList, lent_list}
use Rattle.term_spec.specs.Message.{standalone, payload}
use Rattle.term_spec.specs.Connection.{flags_known}
use Rattle.term_spec.specs.Numbers.{Under}
use Rattle.term_spec.specs.Answer.{good}
use Rattle.packet_spec.specs.declared.Pending.{Pending}
use Rattle.packet_spec.specs.declared.PacketOutcome.TheVariants as packets
use Rattle.packet_spec.specs.Memory.{Cache, Memory, cache_of, memory_of}
use Rattle.packet_spec.specs.Header.{Reference}
use Rattle.packet_spec.specs.Packet.{plain, judged}
use Rattle.packet_spec.specs.Words.{own_word}
use Rattle.packet_spec.specs.Answers.{PacketAnswer, word_answer}
use Rattle.packet_spec.specs.Runs.{Call, taking, dropping, resetting, AllBytes, with_state}
use Rattle.packet_spec.specs.Demands.{Ran, ended, packet_then, drop_then, reset_then}
use Rattle.packet_spec.specs.OwnWords.{Says, OwnWords}
use Rattle.packet_spec.proofs.OwnWords as definitions
use Rattle.c_replies.specs.declared.PacketReply.{PacketReply}
use Rattle.c_replies.specs.declared.StateReply.{StateReply}
use Rattle.c_replies.specs.declared.WordReply.{WordReply}
use Rattle.c_replies.specs.Packets.{flat_packet, flat_word}
use Rattle.c_api.specs.Promises.{IsReadReply, IsWriteReply, IsPacketReply, IsDropReply, IsResetReply, IsWordReply}
use Rattle.c_api.proofs.ik_read_standalone.Reads as read_standalone
use Rattle.c_api.proofs.ik_read_payload.Reads as read_payload
use Rattle.c_api.proofs.ik_write_standalone.Reads as write_standalone
use Rattle.c_api.proofs.ik_write_payload.Reads as write_payload
use Rattle.c_api.proofs.ik_word.Reads as word_call
use Rattle.c_api.specs.contracts.ik_packet as packet_call
use Rattle.c_api.specs.contracts.ik_drop as drop_call
use Rattle.c_api.specs.contracts.ik_reset as reset_call

pub promised_ik_read_standalone : (κs : Lfts 4) (a : _) (r : _) (s : _) → read_standalone.Post κs a r s
    → IsReadReply a.0 standalone (lent_list a.1.1.0 a.1.1.1.0.now a.1.1.1.1.0.now) a.1.0.now a.1.1.1.1.1.0.now r s.1.1.1.1.1.0.now
promised_ik_read_standalone κs a r s p = p

pub promised_ik_read_payload : (κs : Lfts 4) (a : _) (r : _) (s : _) → read_payload.Post κs a r s
    → IsReadReply a.0 payload (lent_list a.1.1.0 a.1.1.1.0.now a.1.1.1.1.0.now) a.1.0.now a.1.1.1.1.1.0.now r s.1.1.1.1.1.0.now
promised_ik_read_payload κs a r s p = p

pub promised_ik_write_standalone : (κs : Lfts 5) (a : _) (r : _) (s : _) → write_standalone.Post κs a r s
    → IsWriteReply a.0 standalone (lent_list a.1.1.0 a.1.1.1.0.now a.1.1.1.1.0.now) a.1.0.now a.1.1.1.1.1.0.now a.1.1.1.1.1.1.0.now r
    s.1.1.1.1.1.0.now s.1.1.1.1.1.1.0.now
promised_ik_write_standalone κs a r s p = p

pub promised_ik_write_payload : (κs : Lfts 5) (a : _) (r : _) (s : _) → write_payload.Post κs a r s
    → IsWriteReply a.0 payload (lent_list a.1.1.0 a.1.1.1.0.now a.1.1.1.1.0.now) a.1.0.now a.1.1.1.1.1.0.now a.1.1.1.1.1.1.0.now r
    s.1.1.1.1.1.0.now s.1.1.1.1.1.1.0.now
promised_ik_write_payload κs a r s p = p

pub promised_ik_word : (κs : Lfts 2) (a : _) (r : _) (s : _) → word_call.Post κs a r s
    → IsWordReply a.0 (lent_list a.1.0 a.1.1.0.now a.1.1.1.0.now) a.1.1.1.1.0 r
promised_ik_word κs a r s p = p

-- The three that lend the record by `&mut`: rt makes no `Reads` for these, so their `ensures` is named itself. At any model w it is the fact that the relation holds
pub promised_ik_packet : (w : World) (κs : Lfts 11) (a : _) (r : _) (s : _)
    → (packet_call.clauses w.𝓛 w.𝓜.mem w.𝓡.run κs a).ensures tt r s
    ≡ fact w.𝓤 (IsPacketReply a.0 a.1.0.now
    (memory_of (cache_of a.1.1.0.now a.1.1.1.0.now)
    (lent_list a.1.1.1.1.0.now a.1.1.1.1.1.0.now a.1.1.1.1.1.1.0.now)
    (lent_list a.1.1.1.1.1.1.1.0.now a.1.1.1.1.1.1.1.1.0.now a.1.1.1.1.1.1.1.1.1.0.now)
    a.1.1.1.1.1.1.1.1.1.1.0.now a.1.1.1.1.1.1.1.1.1.1.1.0.now)
    r
    (memory_of (cache_of s.1.1.0.now s.1.1.1.0.now)
    (lent_list s.1.1.1.1.0.now s.1.1.1.1.1.0.now s.1.1.1.1.1.1.0.now)
    (lent_list s.1.1.1.1.1.1.1.0.now s.1.1.1.1.1.1.1.1.0.now s.1.1.1.1.1.1.1.1.1.0.now)
    s.1.1.1.1.1.1.1.1.1.1.0.now s.1.1.1.1.1.1.1.1.1.1.1.0.now))
promised_ik_packet w κs a r s = refl

pub promised_ik_drop : (w : World) (κs : Lfts 1) (a : _) (r : _) (s : _)
    → (drop_call.clauses w.𝓛 w.𝓜.mem w.𝓡.run κs a).ensures tt r s ≡ fact w.𝓤 (IsDropReply a.0 a.1.0.now r s.1.0.now)
promised_ik_drop w κs a r s = refl

pub promised_ik_reset : (w : World) (κs : Lfts 3) (a : _) (r : _) (s : _)
    → (reset_call.clauses w.𝓛 w.𝓜.mem w.𝓡.run κs a).ensures tt r s
    ≡ fact w.𝓤 (IsResetReply (cache_of a.0.now a.1.0.now) a.1.1.0.now r (cache_of s.0.now s.1.0.now) s.1.1.0.now)
promised_ik_reset w κs a r s = refl

-- Each is a call of a run, so demand 2 speaks of runs of these three
pub packet_in_run : {flags : ℕ} {packet : List ℕ} {m m' n : Memory} {reply : PacketReply} {cs : List Call}
    → IsPacketReply flags packet m reply m' → Ran m' cs n → Ran m (taking flags packet ∷ cs) n
packet_in_run {flags} {packet} {m' = m'} p rest = packet_then flags packet p.taken m' p.called rest

pub drop_in_run : {flags : ℕ} {m n : Memory} {reply : StateReply} {p' : Pending} {cs : List Call}
    → IsDropReply flags m.pending reply p' → Ran (with_state m (m.cache, p')) cs n → Ran m (dropping flags ∷ cs) n
drop_in_run {flags} {m} {n} {cs = cs} p rest =
    drop_then flags p.settled p.called (subst (λ (x : Pending). Ran (with_state m (m.cache, x)) cs n) p.record_left rest)

pub reset_in_run : {m n : Memory} {reply : StateReply} {c' : Cache} {p' : Pending} {cs : List Call}
    → IsResetReply m.cache m.pending reply c' p' → Ran (with_state m (c', p')) cs n → Ran m (resetting ∷ cs) n
reset_in_run {m} {n} {c' = c'} {cs = cs} p rest =
    reset_then p.settled c' p.called (subst (λ (x : Pending). Ran (with_state m (c', x)) cs n) p.record_left rest)

-- After a packet that `ik_packet` took, whatever calls follow, the message's list says what its header's references say ..
pub own_words : {flags : ℕ} {packet : List ℕ} {m m' n : Memory} {reply : PacketReply} {cs : List Call} → Under 256 packet → AllBytes cs
    → (p : IsPacketReply flags packet m reply m') → Ran m' cs n → OwnWords flags packet m p.taken m' cs n
own_words v u p ran = definitions.own_words v u p.called ran

-- .. a packet of the kind that is 1 in the reply being a plain one, its payload from the offset that is told ..
pub plain_replied : {flags : ℕ} {packet : List ℕ} {m m' : Memory} {reply : PacketReply} → Under 256 packet → IsPacketReply flags packet m reply m'
    → reply.kind ≡ 1 → (rs : List Reference) × ((bs : List ℕ) × (judged flags m packet ≡ good (plain rs reply.offset bs)))
unfolding flat_packet
plain_replied {flags} {packet} {m} {m'} {reply} v p k = go p.taken.answer refl
  where
    kind_is : (a : PacketAnswer) → p.taken.answer ≡ a → (flat_packet a).kind ≡ 1
    kind_is a e = ap (λ (x : PacketAnswer). (flat_packet x).kind) (sym e) ∙ ap (λ (x : PacketReply). x.kind) (sym p.reply_is) ∙ k

    go : (a : PacketAnswer) → p.taken.answer ≡ a → (rs : List Reference) × ((bs : List ℕ) × (judged flags m packet ≡ good (plain rs reply.offset bs)))
    go (Ok (packets.Plain offset size)) e =
        let at : reply.offset ≡ offset = ap (λ (x : PacketReply). x.offset) p.reply_is ∙ ap (λ (x : PacketAnswer). (flat_packet x).offset) e in
        rw at ((definitions.own_words v tt p.called ended).plain_told offset size e)
    go (Ok (packets.Pending due gathered)) e = let no_way : ◌≡◌ {A = ℕ} 2 1 = kind_is _ e in absurd (omega arith)
    go (Ok (packets.Complete gathered)) e = let no_way : ◌≡◌ {A = ℕ} 3 1 = kind_is _ e in absurd (omega arith)
    go (Err f) e = let no_way : ◌≡◌ {A = ℕ} 0 1 = kind_is _ e in absurd (omega arith)

-- .. and on such a list `ik_word`, with flags that are known, replies, for every index, what that reference says
pub word_replied : {flags : ℕ} {list : AtomList} {rs : List Reference} {i : ℕ} {reply : WordReply} → flags_known flags ≡ true → Says list rs → IsWordReply flags list i reply
    → reply ≡ flat_word (word_answer i (own_word rs i))
word_replied {flags} {i = i} known says w = w.reply_is ∙ ap flat_word (says.stretch_said flags i w.answer known w.called)
