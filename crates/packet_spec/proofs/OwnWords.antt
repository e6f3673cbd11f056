-- A message's words are those of its own header: `own_words`, at the end.
use mathlib.Core.Path.{◌≡◌, refl, sym, ◌∙◌, ap, subst}
use mathlib.Core.Bool.{Bool, true, false, cond}
use mathlib.Core.List.{List, [], ◌∷◌}
use Prim.Native.Nat.{ℕ, zero, suc, ◌+◌, ◌-◌, ◌*◌, ◌<◌, ◌≤◌}
use native.Mathlib.Omega.{arith}
use lib.Dec.{eqb}
use lib.ListN.{length, take, drop}
use Rattle.std.specs.Prelude.{Ok, Err}
use Rattle.term_spec.specs.Numbers.{Under}
use Rattle.term_spec.specs.Connection.{flags_known}
use Rattle.term_spec.specs.Answer.{Answer, good, refused}
use Rattle.term_spec.specs.AtomList.{AtomList, place_bytes}
use Rattle.term_spec.specs.declared.Refusal.{Refusal}
use Rattle.term_spec.proofs.Tests.{never}
use Rattle.packet_spec.specs.declared.Pending.{Pending}
use Rattle.packet_spec.specs.declared.PacketOutcome.TheVariants as packets
use Rattle.packet_spec.specs.Memory.{Cache, Memory}
use Rattle.packet_spec.specs.Header.{Reference}
use Rattle.packet_spec.specs.Packet.{Packet, plain, start, continuation, judged}
use Rattle.packet_spec.specs.Calls.{complete, pending_still, told_after, told, taken, take_packet, list_of, left_by, left_after, after_packet}
use Rattle.packet_spec.specs.Words.{listed_word, own_word}
use Rattle.packet_spec.specs.Answers.{Taken, outcome_case, packet_answer, word_answer, word_bytes}
use Rattle.packet_spec.specs.Promises.{PacketCall}
use Rattle.packet_spec.specs.Runs.{Call, taking, dropping, resetting, Bytes, AllBytes, with_state, after_call, after_calls}
use Rattle.packet_spec.specs.Demands.{Ran}
use Rattle.packet_spec.specs.OwnWords.{Says, is_plain, is_start, AcceptsNone, AllAcceptNone, AllPending, OwnWords}
use Rattle.packet_spec.proofs.Judged.{AllSound, SoundPacket, accepted}
use Rattle.packet_spec.proofs.SizesKept.{list_sized}
use Rattle.packet_spec.proofs.Listed.{At, first, later, Listed, listed_bytes, listed_length, sound_listed}
use Rattle.packet_spec.proofs.Words.{word_past, word_good}
use Rattle.packet_spec.proofs.Demand.{ran_is, answer_is}

-- ---- the list of a header's references

-- what references say at an index: one of them its text, or 6 past the last
by_index : {P : Type 0} (rs : List Reference) (i : ℕ) → ((r : Reference) → At rs i r → i < length rs → own_word rs i ≡ good r.text → P)
    → (length rs ≤ i → own_word rs i ≡ refused 6 0 → P) → P
unfolding own_word
by_index [] i f g = g (omega arith) refl
by_index (r ∷ rs) zero f g = f r first (omega arith) refl
by_index (r ∷ rs) (suc i) f g = by_index rs i (λ s a l e. f s (later a) (omega arith) e) (λ h e. g (omega arith) e)

count_is : (rs : List Reference) → (list_of rs).n ≡ length rs
unfolding list_of
count_is rs = refl

module _ (rs : List Reference) (ok : AllSound [] rs) (few : length rs < 256) where
  listed_own : (flags i : ℕ) → flags_known flags ≡ true → listed_word flags (list_of rs) i ≡ own_word rs i
  listed_own flags i known =
      let n : (list_of rs).n ≡ length rs = count_is rs in
      by_index rs i
      (λ r a l e.
      let w : Listed (list_of rs) i r.text = sound_listed a ok in
      word_good flags (list_of rs) i (list_sized rs ok few) known (omega arith) w.characters w.is_text ∙ ap good w.bytes_are ∙ sym e)
      (λ h e. word_past flags (list_of rs) i (list_sized rs ok few) known (omega arith) ∙ sym e)

  own_stands : (i : ℕ) (t : List ℕ) → own_word rs i ≡ good t → take (length t) (drop (32 * i) (list_of rs).places) ≡ t
  unfolding place_bytes
  own_stands i t e =
      by_index rs i
      (λ r a l f.
      let is : r.text ≡ t = cc in
      subst (λ (u : List ℕ). take (length u) (drop (32 * i) (list_of rs).places) ≡ u) is
      (ap (λ (n : ℕ). take n (drop (32 * i) (list_of rs).places)) (sym (listed_length a)) ∙ listed_bytes a ok))
      (λ h f. absurd cc)

  -- the list that a header fixes says what its references say
  list_says : Says (list_of rs) rs
  list_says =
      record {
        counted = count_is rs;
        word_said = λ flags i bytes known w. w ∙ ap word_bytes (listed_own flags i known);
        stretch_said = λ flags i answer known w. w.word_located ∙ ap (word_answer i) (listed_own flags i known);
        stands_there = own_stands;
      }

-- ---- over a run

-- a list that only packets of one kind write, and no drop or reset
module _ (kind : Packet → Bool) (list : Memory → AtomList) (left : (m : Memory) (p : Packet) → kind p ≡ false → list (left_by m p) ≡ list m)
    (kept : (m : Memory) (s : Cache × Pending) → list (with_state m s) ≡ list m) where
  call_keeps : (m : Memory) (c : Call) → AcceptsNone kind m c → list (after_call m c) ≡ list m
  unfolding after_call after_packet
  call_keeps m (taking flags bs) a = go (judged flags m bs) refl
    where
      go : (o : Answer Packet) → judged flags m bs ≡ o → list (left_after m o) ≡ list m
      go (good p) e = left m p (a p e)
      go (refused n q) e = refl
  call_keeps m (dropping flags) a = kept m _
  call_keeps m resetting a = kept m _

  run_keeps : (cs : List Call) (m : Memory) → AllAcceptNone kind m cs → list (after_calls m cs) ≡ list m
  unfolding after_calls
  run_keeps [] m a = refl
  run_keeps (c ∷ cs) m a = run_keeps cs (after_call m c) a.1 ∙ call_keeps m c a.0

plain_left : (m : Memory) (p : Packet) → is_plain p ≡ false → (left_by m p).plain_list ≡ m.plain_list
unfolding left_by is_plain
plain_left m (plain rs at bs) e = never (sym e)
plain_left m (start sequence fragment rs bs) e = refl
plain_left m (continuation sequence fragment bs) e = refl

pending_left : (m : Memory) (p : Packet) → is_start p ≡ false → (left_by m p).pending_list ≡ m.pending_list
unfolding left_by is_start
pending_left m (plain rs at bs) e = refl
pending_left m (start sequence fragment rs bs) e = never (sym e)
pending_left m (continuation sequence fragment bs) e = refl

-- while a sequence is pending no start is accepted
no_start : (m : Memory) (p : Packet) → (m.pending.due ≡ 0 → ⊥) → SoundPacket m.pending p → is_start p ≡ false
unfolding is_start
no_start m (plain rs at bs) d s = refl
no_start m (start sequence fragment rs bs) d s = absurd (d s.4)
no_start m (continuation sequence fragment bs) d s = refl

none_while_pending : (cs : List Call) (m : Memory) → AllBytes cs → AllPending m cs → AllAcceptNone is_start m cs
none_while_pending [] m u a = tt
none_while_pending (c ∷ cs) m u a = (one c u.0, none_while_pending cs (after_call m c) u.1 a.1)
  where
    one : (c : Call) → Bytes c → AcceptsNone is_start m c
    one (taking flags bs) v = λ p j. no_start m p a.0 (accepted flags m bs p v j).sound
    one (dropping flags) v = tt
    one resetting v = tt

-- no fragment is answered Plain
no_plain : {A : Type 0} (fragment gathered offset size : ℕ) → packet_answer (good (told_after fragment gathered)) ≡ Ok (packets.Plain offset size) → A
unfolding told_after packet_answer outcome_case
no_plain fragment gathered offset size e = go (eqb fragment 1) cc
  where
    go : {A : Type 0} (b : Bool) → outcome_case (cond b (complete gathered) (pending_still (fragment - 1) gathered)) ≡ packets.Plain offset size → A
    go true f = absurd cc
    go false f = absurd cc

-- ---- the statement

module _ {flags : ℕ} {packet : List ℕ} {m m' n : Memory} {cs : List Call} (v : Under 256 packet) (u : AllBytes cs) {r : Taken}
    (w : PacketCall flags packet m r m') (ran : Ran m' cs n) where
  left_is : (p : Packet) → judged flags m packet ≡ good p → m' ≡ left_by m p
  unfolding after_packet
  left_is p j = w.memory_left ∙ ap (left_after m) j

  -- a list that a packet of this kind fixes still says what its references say
  module _ (kind : Packet → Bool) (list : Memory → AtomList) (left : (x : Memory) (p : Packet) → kind p ≡ false → list (left_by x p) ≡ list x)
      (kept : (x : Memory) (s : Cache × Pending) → list (with_state x s) ≡ list x) where
    still_says : (p : Packet) (rs : List Reference) → judged flags m packet ≡ good p → list (left_by m p) ≡ list_of rs → AllSound [] rs → length rs < 256
        → AllAcceptNone kind m' cs → Says (list n) rs
    still_says p rs j fixed ok few a =
        subst (λ (x : AtomList). Says x rs)
        (sym (ap list (ran_is ran) ∙ run_keeps kind list left kept cs m' a ∙ ap list (left_is p j) ∙ fixed))
        (list_says rs ok few)

  plain_says : (rs : List Reference) (at : ℕ) (bs : List ℕ) → judged flags m packet ≡ good (plain rs at bs)
      → AllAcceptNone is_plain m' cs → Says n.plain_list rs
  unfolding left_by
  plain_says rs at bs j a =
      let s : SoundPacket m.pending (plain rs at bs) = (accepted flags m packet (plain rs at bs) v j).sound in
      still_says is_plain (λ x. x.plain_list) plain_left (λ x y. refl) (plain rs at bs) rs j refl s.0 s.1 a

  start_says : (sequence fragment : ℕ) (rs : List Reference) (bs : List ℕ) → judged flags m packet ≡ good (start sequence fragment rs bs)
      → AllAcceptNone is_start m' cs → Says n.pending_list rs
  unfolding left_by
  start_says sequence fragment rs bs j a =
      let s : SoundPacket m.pending (start sequence fragment rs bs) = (accepted flags m packet (start sequence fragment rs bs) v j).sound in
      still_says is_start (λ x. x.pending_list) pending_left (λ x y. refl) (start sequence fragment rs bs) rs j refl s.0 s.1 a

  good_told : ((f : Refusal) → r.answer ≡ Err f → ⊥) → (p : Packet) × (judged flags m packet ≡ good p)
  unfolding packet_answer take_packet
  good_told not_refused = go (judged flags m packet) refl (answer_is w)
    where
      go : (o : Answer Packet) → judged flags m packet ≡ o → r.answer ≡ packet_answer (taken m o) → (p : Packet) × (judged flags m packet ≡ good p)
      go (good p) e f = (p, e)
      go (refused k q) e f = absurd (not_refused (record { number = k; place = q }) f)

  plain_good : (offset size : ℕ) → r.answer ≡ Ok (packets.Plain offset size)
      → (rs : List Reference) × ((bs : List ℕ) × (judged flags m packet ≡ good (plain rs offset bs)))
  unfolding packet_answer outcome_case told take_packet
  plain_good offset size h = go (judged flags m packet) refl (sym (answer_is w) ∙ h)
    where
      go : (o : Answer Packet) → judged flags m packet ≡ o → packet_answer (taken m o) ≡ Ok (packets.Plain offset size)
          → (rs : List Reference) × ((bs : List ℕ) × (judged flags m packet ≡ good (plain rs offset bs)))
      go (good (plain rs at bs)) e f = let same : at ≡ offset = cc in (rs, (bs, e ∙ ap (λ (x : ℕ). good (plain rs x bs)) same))
      go (good (start sequence fragment rs bs)) e f = no_plain fragment (length bs) offset size f
      go (good (continuation sequence fragment bs)) e f = no_plain fragment (m.pending.gathered + length bs) offset size f
      go (refused k q) e f = absurd cc

  pub own_words : OwnWords flags packet m r m' cs n
  own_words =
      record {
        accepted_told = good_told;
        plain_told = plain_good;
        of_plain = plain_says;
        of_sequence = start_says;
        to_its_end = λ sequence fragment rs bs j d. start_says sequence fragment rs bs j (none_while_pending cs m' u d);
      }
