-- Over a run of calls: what the gather buffer begins with, the pending list and the id due are what the accepted packets give, in turn.
use mathlib.Core.Path.{◌≡◌, refl, sym, ◌∙◌, ap, ap₂}
use mathlib.Core.Bool.{Bool, true, false, not, cond}
use mathlib.Core.List.{List, [], ◌∷◌, ◌++◌}
use Prim.Native.Nat.{ℕ, ◌+◌, ◌-◌, ◌≤◌}
use native.Mathlib.Nat.{zero-add}
use native.Mathlib.Omega.{arith}
use lib.Dec.{eqb}
use lib.ListN.{length, take, length-append}
use lib.Seq.{sets}
use borrow.Author.Tests.{eqb-true, eqb-false, eq-eqb, ne_eqb}
use Rattle.term_spec.specs.Connection.{flags_known}
use Rattle.term_spec.specs.Answer.{Answer, good, refused}
use Rattle.term_spec.specs.Message.{first_check}
use Rattle.packet_spec.specs.declared.Pending.{Pending}
use Rattle.packet_spec.specs.Memory.{Cache, Memory, cache_of_size, record_true, none_pending, empty_cache}
use Rattle.packet_spec.specs.Packet.{Packet, plain, start, continuation, judged}
use Rattle.packet_spec.specs.Calls.{Outcome, complete, pending_still, record_after, told, told_after, left_by, left_after, taken, take_packet, after_packet, drop_sequence, reset, unless_refused}
use Rattle.packet_spec.specs.Runs.{Call, taking, dropping, resetting, Bytes, AllBytes, after_call, after_calls}
use Rattle.packet_spec.specs.Gathering.{SoFar, none_begun, gathered_by, ended_by, gathered_after, gathered_after_all, Has, fragment_told, packet_told}
use Rattle.packet_spec.proofs.Stores.{sets_joined}
use Rattle.packet_spec.proofs.Judged.{Accepted, accepted, SoundPacket}
use Rattle.packet_spec.proofs.SizesKept.{AllSized, all_sized}
use Rattle.packet_spec.proofs.Sequence.{record_due, record_more}

-- a continuation that is accepted has the SequenceId that the start gave and the id due
own_fragment : (m : Memory) (q f : ℕ) (bs : List ℕ) (g : SoFar) → SoundPacket m.pending (continuation q f bs) → Has m g
    → (q ≡ g.sequence) × (f ≡ g.due)
own_fragment m q f bs g a h =
    let is_due : f ≡ g.due = a.2 ∙ h.its_due in
    (a.1 ∙ h.its_sequence (λ e. a.3 (is_due ∙ e)), is_due)

has_left : (m : Memory) (p : Packet) (g : SoFar) → AllSized m → SoundPacket m.pending p → Has m g → Has (left_by m p) (gathered_by (good p) g)
unfolding left_by gathered_by
has_left m (plain rs at bs) g s a h = record { first_bytes = h.first_bytes; its_list = h.its_list; its_due = h.its_due; counted = h.counted; its_sequence = h.its_sequence }
has_left m (start q f rs bs) g s a h =
    let big : length m.gather ≡ 65536 = s.gather_sized in
    let small : length bs ≤ 65536 = a.2 in
    record {
      first_bytes =
          ap (λ (n : ℕ). take n (sets m.gather 0 bs)) (sym (zero-add (length bs)))
          ∙ sets_joined bs m.gather 0 (omega arith);
      its_list = refl;
      its_due = record_due q f (length bs) a.3;
      counted = λ n. ap (λ (r : Pending). r.gathered) (record_more q f (length bs) n);
      its_sequence = λ n. ap (λ (r : Pending). r.sequence) (record_more q f (length bs) n);
    }
has_left m (continuation q f bs) g s a h =
    let big : length m.gather ≡ 65536 = s.gather_sized in
    let fits : m.pending.gathered + length bs ≤ 65536 = a.0 in
    let own : (q ≡ g.sequence) × (f ≡ g.due) = own_fragment m q f bs g a h in
    let is_due : f ≡ g.due = own.1 in
    let so_far : m.pending.gathered ≡ length g.bytes = h.counted (λ e. a.3 (is_due ∙ e)) in
    let total : m.pending.gathered + length bs ≡ length (g.bytes ++ bs) = rw (length-append g.bytes bs) (omega arith) in
    let down : f - 1 ≡ g.due - 1 = ap (λ (n : ℕ). n - 1) is_due in
    record {
      first_bytes =
          ap (λ (n : ℕ). take n (sets m.gather m.pending.gathered bs)) (sym total)
          ∙ sets_joined bs m.gather m.pending.gathered (omega arith)
          ∙ ap (λ (front : List ℕ). front ++ bs) (ap (λ (n : ℕ). take n m.gather) so_far ∙ h.first_bytes);
      its_list = h.its_list;
      its_due = record_due q f (m.pending.gathered + length bs) a.3 ∙ down;
      counted = λ n. ap (λ (r : Pending). r.gathered) (record_more q f (m.pending.gathered + length bs) (λ e. n (sym down ∙ e))) ∙ total;
      its_sequence = λ n.
          ap (λ (r : Pending). r.sequence) (record_more q f (m.pending.gathered + length bs) (λ e. n (sym down ∙ e))) ∙ own.0;
    }

-- what a drop answers, by its three tests
abbrev told_by : (x y z : Bool) → Answer Pending
told_by x y z = first_check x 14 (first_check y 14 (first_check z 25 (good none_pending)))

pub call_gathers : (m : Memory) (c : Call) (g : SoFar) → Bytes c → Has m g → Has (after_call m c) (gathered_after m c g)
unfolding after_call gathered_after after_packet gathered_by drop_sequence reset ended_by
call_gathers m (taking flags bs) g u h = go (judged flags m bs) refl
  where
    go : (o : Answer Packet) → judged flags m bs ≡ o → Has (left_after m o) (gathered_by o g)
    go (good p) e = let a : Accepted m p = accepted flags m bs p u e in has_left m p g (all_sized m a.of_its_size) a.sound h
    go (refused n q) e = h
call_gathers m (dropping flags) g u h = go (flags_known flags) (record_true m.pending) (not (eqb m.pending.due 0))
  where
    go : (x y z : Bool) → Has (record {
      cache = m.cache;
      plain_list = m.plain_list;
      pending_list = m.pending_list;
      pending = unless_refused m.pending (told_by x y z);
      gather = m.gather;
    })
        (ended_by (told_by x y z) g)
    go false y z = record { first_bytes = h.first_bytes; its_list = h.its_list; its_due = h.its_due; counted = h.counted; its_sequence = h.its_sequence }
    go true false z = record { first_bytes = h.first_bytes; its_list = h.its_list; its_due = h.its_due; counted = h.counted; its_sequence = h.its_sequence }
    go true true false = record { first_bytes = h.first_bytes; its_list = h.its_list; its_due = h.its_due; counted = h.counted; its_sequence = h.its_sequence }
    go true true true = record { first_bytes = h.first_bytes; its_list = h.its_list; its_due = refl; counted = λ n. absurd (n refl); its_sequence = λ n. absurd (n refl) }
call_gathers m resetting g u h = go (cache_of_size m.cache)
  where
    go : (b : Bool) → Has (record {
      cache = (unless_refused {A = Cache × Pending} (m.cache, m.pending) (cond b (good (empty_cache, none_pending)) (refused 13 0))).0;
      plain_list = m.plain_list;
      pending_list = m.pending_list;
      pending = (unless_refused {A = Cache × Pending} (m.cache, m.pending) (cond b (good (empty_cache, none_pending)) (refused 13 0))).1;
      gather = m.gather;
    })
        (ended_by {A = Cache × Pending} (cond b (good (empty_cache, none_pending)) (refused 13 0)) g)
    go true = record { first_bytes = h.first_bytes; its_list = h.its_list; its_due = refl; counted = λ n. absurd (n refl); its_sequence = λ n. absurd (n refl) }
    go false = record { first_bytes = h.first_bytes; its_list = h.its_list; its_due = h.its_due; counted = h.counted; its_sequence = h.its_sequence }

-- after any run of calls
pub run_gathers : (cs : List Call) (m : Memory) (g : SoFar) → AllBytes cs → Has m g → Has (after_calls m cs) (gathered_after_all m cs g)
unfolding after_calls gathered_after_all
run_gathers [] m g u h = h
run_gathers (c ∷ cs) m g u h = run_gathers cs (after_call m c) (gathered_after m c g) u.1 (call_gathers m c g u.0 h)

-- with no sequence pending at first, whatever the gather buffer and the list are
pub none_yet : (m : Memory) → m.pending.due ≡ 0 → Has m (none_begun m)
none_yet m e = record { first_bytes = refl; its_list = refl; its_due = e; counted = λ n. absurd (n refl); its_sequence = λ n. absurd (n refl) }

-- the last fragment's id is 1, so none is due after it
last_due : (f : ℕ) → (f ≡ 0 → ⊥) → eqb f 1 ≡ eqb (f - 1) 0
last_due f n = go (eqb f 1) refl
  where
    go : (b : Bool) → eqb f 1 ≡ b → b ≡ eqb (f - 1) 0
    go true e = let is : f ≡ 1 = eqb-true f 1 e in sym (eq-eqb (f - 1) 0 (omega arith))
    go false e = let more : f ≡ 1 → ⊥ = eqb-false f 1 e in sym (ne_eqb (f - 1) 0 (λ z. more (omega arith)))

-- the same of a packet that is judged so
pub own_continuation : (flags : ℕ) (m : Memory) (packet : List ℕ) (g : SoFar) → Has m g
    → (q f : ℕ) (bs : List ℕ) → Bytes (taking flags packet) → judged flags m packet ≡ good (continuation q f bs) → (q ≡ g.sequence) × (f ≡ g.due)
own_continuation flags m packet g h q f bs u e = own_fragment m q f bs g (accepted flags m packet (continuation q f bs) u e).sound h

-- What a packet answers, from the sequence with it
pub told_gathered : (flags : ℕ) (m : Memory) (bs : List ℕ) (g : SoFar) → Bytes (taking flags bs) → Has m g
    → take_packet flags m bs ≡ packet_told (judged flags m bs) (gathered_by (judged flags m bs) g)
unfolding take_packet told told_after gathered_by packet_told fragment_told
told_gathered flags m bs g u h = go (judged flags m bs) refl
  where
    go : (o : Answer Packet) → judged flags m bs ≡ o → taken m o ≡ packet_told o (gathered_by o g)
    go (good (plain rs at p)) e = refl
    go (good (start q f rs p)) e =
        let a : Accepted m (start q f rs p) = accepted flags m bs (start q f rs p) u e in
        ap (λ (b : Bool). good (cond b (complete (length p)) (pending_still (f - 1) (length p)))) (last_due f a.sound.3)
    go (good (continuation q f p)) e =
        let a : Accepted m (continuation q f p) = accepted flags m bs (continuation q f p) u e in
        let is_due : f ≡ g.due = a.sound.2 ∙ h.its_due in
        let so_far : m.pending.gathered ≡ length g.bytes = h.counted (λ z. a.sound.3 (is_due ∙ z)) in
        let total : m.pending.gathered + length p ≡ length (g.bytes ++ p) = rw (length-append g.bytes p) (omega arith) in
        ap (λ (b : Bool). good (cond b (complete (m.pending.gathered + length p)) (pending_still (f - 1) (m.pending.gathered + length p)))) (last_due f a.sound.3)
        ∙ ap₂ (λ (d n : ℕ). good (cond (eqb (d - 1) 0) (complete n) (pending_still (d - 1) n))) is_due total
    go (refused n q) e = refl

-- A packet that is answered complete: the bytes gathered are those of the sequence, none is due then, and the record is zero
pub completes : (flags : ℕ) (m : Memory) (bs : List ℕ) (g : SoFar) (k : ℕ) → Bytes (taking flags bs) → Has m g → take_packet flags m bs ≡ good (complete k)
    → (k ≡ length (gathered_by (judged flags m bs) g).bytes) × ((gathered_by (judged flags m bs) g).due ≡ 0) × ((after_packet flags m bs).pending ≡ none_pending)
unfolding take_packet after_packet left_by told told_after gathered_by record_after
completes flags m bs g k u h t = go (judged flags m bs) refl t
  where
    one : (f n : ℕ) (x : Bool) → eqb f 1 ≡ x → ◌≡◌ {A = Answer Outcome} (good (cond x (complete n) (pending_still (f - 1) n))) (good (complete k)) → (k ≡ n) × (eqb f 1 ≡ true)
    one f n true e c = (cc, e)
    one f n false e c = absurd cc

    go : (o : Answer Packet) → judged flags m bs ≡ o → taken m o ≡ good (complete k)
        → (k ≡ length (gathered_by o g).bytes) × ((gathered_by o g).due ≡ 0) × ((left_after m o).pending ≡ none_pending)
    go (good (plain rs at p)) e c = absurd cc
    go (good (start q f rs p)) e c =
        let w : (k ≡ length p) × (eqb f 1 ≡ true) = one f (length p) (eqb f 1) refl c in
        let is : f ≡ 1 = eqb-true f 1 w.1 in
        (w.0, omega arith, rw w.1)
    go (good (continuation q f p)) e c =
        let a : Accepted m (continuation q f p) = accepted flags m bs (continuation q f p) u e in
        let w : (k ≡ m.pending.gathered + length p) × (eqb f 1 ≡ true) = one f (m.pending.gathered + length p) (eqb f 1) refl c in
        let is : f ≡ 1 = eqb-true f 1 w.1 in
        let is_due : f ≡ g.due = a.sound.2 ∙ h.its_due in
        let so_far : m.pending.gathered ≡ length g.bytes = h.counted (λ z. a.sound.3 (is_due ∙ z)) in
        let total : length (g.bytes ++ p) ≡ length g.bytes + length p = length-append g.bytes p in
        (omega (arith, w.0), omega arith, rw w.1)
    go (refused n q) e c = absurd cc
