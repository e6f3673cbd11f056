-- A sequence of fragments: what is gathered is the payloads joined in order, and the list is the one fixed at the start.
use mathlib.Core.Path.{◌≡◌, refl, sym, ◌∙◌, ap, ap₂, subst}
use mathlib.Core.Bool.{Bool, true, false, cond}
use mathlib.Core.List.{List, ◌++◌, append_assoc, append-nil}
use Prim.Native.Nat.{ℕ, suc, ◌+◌, ◌-◌, ◌≤◌}
use native.Mathlib.Nat.{zero-add}
use native.Mathlib.Omega.{arith}
use lib.Dec.{eqb}
use lib.ListN.{length, take, length-append}
use lib.Seq.{sets}
use borrow.Author.Tests.{eqb-true, eq-eqb, ne_eqb}
use Rattle.term_spec.specs.Answer.{Answer, good, refused}
use Rattle.term_spec.specs.AtomList.{AtomList}
use Rattle.term_spec.specs.Numbers.{Under}
use Rattle.packet_spec.specs.declared.Pending.{Pending}
use Rattle.packet_spec.specs.Memory.{Memory, none_pending}
use Rattle.packet_spec.specs.Header.{Reference}
use Rattle.packet_spec.specs.Packet.{Packet, plain, start, continuation, judged}
use Rattle.packet_spec.specs.Calls.{list_of, record_after, left_by, left_after, after_packet, told, told_after, complete, pending_still, take_packet, taken}
use Rattle.packet_spec.specs.Gathering.{join, Fragments, none_more, refused_between, plain_between, next_fragment, Gathering}
use Rattle.packet_spec.proofs.Stores.{sets_joined}
use Rattle.packet_spec.proofs.Judged.{Accepted, accepted, SoundPacket}
use Rattle.packet_spec.proofs.SizesKept.{AllSized, all_sized}

-- the record after a fragment
pub record_due : (s f g : ℕ) → (f ≡ 0 → ⊥) → (record_after s f g).due ≡ f - 1
unfolding record_after
record_due s f g n = go (eqb f 1) refl
  where
    go : (b : Bool) → eqb f 1 ≡ b → ◌≡◌ {A = ℕ} (cond b none_pending (record { sequence = s; due = f - 1; gathered = g })).due (f - 1)
    go true e = let is : f ≡ 1 = eqb-true f 1 e in omega arith
    go false e = refl

pub record_more : (s f g : ℕ) → (f - 1 ≡ 0 → ⊥) → record_after s f g ≡ record { sequence = s; due = f - 1; gathered = g }
unfolding record_after
record_more s f g n = rw (ne_eqb f 1 (λ e. n (omega arith)))

record_done : (s f g : ℕ) → (f ≡ 0 → ⊥) → f - 1 ≡ 0 → record_after s f g ≡ none_pending
unfolding record_after
record_done s f g n e = rw (eq-eqb f 1 (omega arith))

-- the memory after a packet that was judged so
after_is : (flags : ℕ) (m : Memory) (bs : List ℕ) (o : Answer Packet) → judged flags m bs ≡ o → after_packet flags m bs ≡ left_after m o
unfolding after_packet
after_is flags m bs o e = ap (left_after m) e

-- a start fixes the list, and its payload is gathered
pub started : (m : Memory) (s f : ℕ) (rs : List Reference) (p : List ℕ) → AllSized m → SoundPacket m.pending (start s f rs p)
    → Gathering (left_by m (start s f rs p)) s (f - 1) p (list_of rs)
unfolding left_by
started m s f rs p sizes a =
    let big : length m.gather ≡ 65536 = sizes.gather_sized in
    let small : length p ≤ 65536 = a.2 in
    record {
      first_bytes =
          ap (λ (n : ℕ). take n (sets m.gather 0 p)) (sym (zero-add (length p)))
          ∙ sets_joined p m.gather 0 (omega arith);
      its_list = refl;
      due_is = record_due s f (length p) a.3;
      while_pending = λ n. (ap (λ (r : Pending). r.gathered) (record_more s f (length p) n), ap (λ (r : Pending). r.sequence) (record_more s f (length p) n));
      when_done = λ e. record_done s f (length p) a.3 e;
    }

-- a plain packet between touches nothing of it
plain_keeps : (m : Memory) (rs : List Reference) (at : ℕ) (p : List ℕ) {s d : ℕ} {bytes : List ℕ} {list : AtomList}
    → Gathering m s d bytes list → Gathering (left_by m (plain rs at p)) s d bytes list
unfolding left_by
plain_keeps m rs at p g =
    record { first_bytes = g.first_bytes; its_list = g.its_list; due_is = g.due_is; while_pending = g.while_pending; when_done = g.when_done }

-- a continuation's payload is joined on
pub joined : (m : Memory) (s' id : ℕ) (p : List ℕ) {s d : ℕ} {bytes : List ℕ} {list : AtomList}
    → AllSized m → SoundPacket m.pending (continuation s' id p) → Gathering m s d bytes list
    → Gathering (left_by m (continuation s' id p)) s (d - 1) (bytes ++ p) list
unfolding left_by
joined m s' id p {s} {d} {bytes} {list} sizes a g =
    let big : length m.gather ≡ 65536 = sizes.gather_sized in
    let fits : m.pending.gathered + length p ≤ 65536 = a.0 in
    let is_due : id ≡ d = a.2 ∙ g.due_is in
    let more : d ≡ 0 → ⊥ = λ e. a.3 (is_due ∙ e) in
    let so_far : m.pending.gathered ≡ length bytes = (g.while_pending more).0 in
    let same : s' ≡ s = a.1 ∙ (g.while_pending more).1 in
    let total : m.pending.gathered + length p ≡ length (bytes ++ p) = rw (length-append bytes p) (omega arith) in
    let down : id - 1 ≡ d - 1 = ap (λ (n : ℕ). n - 1) is_due in
    record {
      first_bytes =
          ap (λ (n : ℕ). take n (sets m.gather m.pending.gathered p)) (sym total)
          ∙ sets_joined p m.gather m.pending.gathered (omega arith)
          ∙ ap (λ (front : List ℕ). front ++ p) (ap (λ (n : ℕ). take n m.gather) so_far ∙ g.first_bytes);
      its_list = g.its_list;
      due_is = record_due s' id (m.pending.gathered + length p) a.3 ∙ down;
      while_pending = λ n.
          let r : record_after s' id (m.pending.gathered + length p) ≡ record { sequence = s'; due = id - 1; gathered = m.pending.gathered + length p } =
          record_more s' id (m.pending.gathered + length p) (λ e. n (sym down ∙ e)) in
          (ap (λ (r : Pending). r.gathered) r ∙ total, ap (λ (r : Pending). r.sequence) r ∙ same);
      when_done = λ e. record_done s' id (m.pending.gathered + length p) a.3 (down ∙ e);
    }

-- any run of fragments of a sequence, with any plain packets between
pub gathers : {m n : Memory} {ps : List (List ℕ)} → Fragments m ps n → (s d left : ℕ) (bytes : List ℕ) (list : AtomList)
    → d ≡ length ps + left → Gathering m s d bytes list → Gathering n s left (bytes ++ join ps) list
gathers {m} none_more s d left bytes list e g =
    subst (λ (bs : List ℕ). Gathering m s left bs list) (sym (append-nil bytes))
    (subst (λ (k : ℕ). Gathering m s k bytes list) (e ∙ zero-add left) g)
gathers {m} (refused_between flags bs number place j rest) s d left bytes list e g =
    gathers rest s d left bytes list e
    (subst (λ (x : Memory). Gathering x s d bytes list) (sym (after_is flags m bs (refused number place) j)) g)
gathers {m} (plain_between flags bs rs at p u j rest) s d left bytes list e g =
    gathers rest s d left bytes list e
    (subst (λ (x : Memory). Gathering x s d bytes list) (sym (after_is flags m bs (good (plain rs at p)) j)) (plain_keeps m rs at p g))
gathers {m} {n} (next_fragment {ps = ps} flags bs s' id p u j rest) s d left bytes list e g =
    let a : Accepted m (continuation s' id p) = accepted flags m bs (continuation s' id p) u j in
    subst (λ (b : List ℕ). Gathering n s left b list) (append_assoc bytes p (join ps))
    (gathers rest s (d - 1) left (bytes ++ p) list (omega arith)
    (subst (λ (x : Memory). Gathering x s (d - 1) (bytes ++ p) list) (sym (after_is flags m bs (good (continuation s' id p)) j))
    (joined m s' id p (all_sized m a.of_its_size) a.sound g)))

-- no more fragments are accepted than the id due
pub no_more : {m n : Memory} {ps : List (List ℕ)} → Fragments m ps n → (s d : ℕ) (bytes : List ℕ) (list : AtomList)
    → Gathering m s d bytes list → length ps ≤ d
no_more none_more s d bytes list g = omega arith
no_more {m} (refused_between flags bs number place j rest) s d bytes list g =
    no_more rest s d bytes list (subst (λ (x : Memory). Gathering x s d bytes list) (sym (after_is flags m bs (refused number place) j)) g)
no_more {m} (plain_between flags bs rs at p u j rest) s d bytes list g =
    no_more rest s d bytes list
    (subst (λ (x : Memory). Gathering x s d bytes list) (sym (after_is flags m bs (good (plain rs at p)) j)) (plain_keeps m rs at p g))
no_more {m} (next_fragment {ps = ps} flags bs s' id p u j rest) s d bytes list g =
    let a : Accepted m (continuation s' id p) = accepted flags m bs (continuation s' id p) u j in
    let is_due : id ≡ d = a.sound.2 ∙ g.due_is in
    let some_due : d ≡ 0 → ⊥ = λ e. a.sound.3 (is_due ∙ e) in
    let fewer : length ps ≤ d - 1 =
    no_more rest s (d - 1) (bytes ++ p) list
    (subst (λ (x : Memory). Gathering x s (d - 1) (bytes ++ p) list) (sym (after_is flags m bs (good (continuation s' id p)) j))
    (joined m s' id p (all_sized m a.of_its_size) a.sound g)) in
    omega arith

-- A finished sequence: a start with FragmentId f, and then f - 1 continuations. The gather buffer begins with their payloads joined in
-- order, the pending list is the one fixed at the start, and the record is zero
pub finished : (flags : ℕ) (m : Memory) (bs : List ℕ) (s f : ℕ) (rs : List Reference) (p : List ℕ) (ps : List (List ℕ)) (n : Memory)
    → Under 256 bs → judged flags m bs ≡ good (start s f rs p) → Fragments (after_packet flags m bs) ps n → f ≡ suc (length ps)
    → (take (length (p ++ join ps)) n.gather ≡ p ++ join ps) × (n.pending_list ≡ list_of rs) × (n.pending ≡ none_pending)
finished flags m bs s f rs p ps n u j run e =
    let a : Accepted m (start s f rs p) = accepted flags m bs (start s f rs p) u j in
    let begun : Gathering (after_packet flags m bs) s (f - 1) p (list_of rs) =
    subst (λ (x : Memory). Gathering x s (f - 1) p (list_of rs)) (sym (after_is flags m bs (good (start s f rs p)) j))
    (started m s f rs p (all_sized m a.of_its_size) a.sound) in
    let end : Gathering n s 0 (p ++ join ps) (list_of rs) = gathers run s (f - 1) 0 p (list_of rs) (omega arith) begun in
    (end.first_bytes, end.its_list, end.when_done refl)

-- what the last fragment answers, and any before it
pub told_last : (flags : ℕ) (m : Memory) (bs : List ℕ) (s' id : ℕ) (p : List ℕ) (s d : ℕ) (bytes : List ℕ) (list : AtomList)
    → Under 256 bs → judged flags m bs ≡ good (continuation s' id p) → Gathering m s d bytes list
    → take_packet flags m bs ≡ good (cond (eqb d 1) (complete (length (bytes ++ p))) (pending_still (d - 1) (length (bytes ++ p))))
unfolding take_packet told told_after
told_last flags m bs s' id p s d bytes list u j g =
    let a : Accepted m (continuation s' id p) = accepted flags m bs (continuation s' id p) u j in
    let is_due : id ≡ d = a.sound.2 ∙ g.due_is in
    let so_far : m.pending.gathered ≡ length bytes = (g.while_pending (λ e. a.sound.3 (is_due ∙ e))).0 in
    let total : m.pending.gathered + length p ≡ length (bytes ++ p) = rw (length-append bytes p) (omega arith) in
    ap (taken m) j
    ∙ ap₂ (λ (i t : ℕ). good (cond (eqb i 1) (complete t) (pending_still (i - 1) t))) is_due total
