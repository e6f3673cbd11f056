-- What each call does to the memory, in terms of its answer.
use mathlib.Core.Path.{◌≡◌, refl, sym, ap, subst}
use mathlib.Core.Bool.{true, false}
use mathlib.Core.List.{List, []}
use Prim.Native.Nat.{ℕ}
use Rattle.term_spec.specs.Answer.{Answer, good, refused}
use Rattle.term_spec.specs.Numbers.{Under}
use Rattle.packet_spec.specs.Memory.{Memory, memory_of_size}
use Rattle.packet_spec.specs.Header.{filled}
use Rattle.packet_spec.specs.Packet.{Packet, plain, start, continuation, judged}
use Rattle.packet_spec.specs.Calls.{left_by, left_after, taken, take_packet, after_packet}
use Rattle.packet_spec.specs.Places.{Same, HeldNew, brought}
use Rattle.packet_spec.proofs.Cache.{same_refl}
use Rattle.packet_spec.proofs.Judged.{Accepted, accepted, SoundPacket}
use Rattle.packet_spec.proofs.Frame.{entered_other, entered_new}
use Rattle.packet_spec.proofs.SizesKept.{AllSized, all_sized, all_sized_back, packet_sized}

-- A refused packet leaves all memory as it was
pub refused_keeps : (flags : ℕ) (m : Memory) (bs : List ℕ) (number place : ℕ)
    → take_packet flags m bs ≡ refused number place → after_packet flags m bs ≡ m
unfolding take_packet after_packet
refused_keeps flags m bs number place e = go (judged flags m bs) e
  where
    go : (o : Answer Packet) → taken m o ≡ refused number place → left_after m o ≡ m
    go (good p) f = absurd cc
    go (refused n q) f = refl

left_other : (m : Memory) (p : Packet) (q : ℕ) → SoundPacket m.pending p → filled q (brought p) ≡ false → Same m.cache (left_by m p).cache q
unfolding left_by brought
left_other m (plain rs at bs) q a e = entered_other rs [] m.cache q a.0 e
left_other m (start s f rs bs) q a e = entered_other rs [] m.cache q a.0 e
left_other m (continuation s f bs) q a e = same_refl m.cache q

left_new : (m : Memory) (p : Packet) → AllSized m → SoundPacket m.pending p → HeldNew (left_by m p).cache (brought p)
unfolding left_by brought
left_new m (plain rs at bs) s a = entered_new rs [] m.cache s.cache_sized a.0
left_new m (start n f rs bs) s a = entered_new rs [] m.cache s.cache_sized a.0
left_new m (continuation n f bs) s a = tt

module _ (flags : ℕ) (m : Memory) (bs : List ℕ) (p : Packet) (u : Under 256 bs) (j : judged flags m bs ≡ good p) where
  after_good : after_packet flags m bs ≡ left_by m p
  unfolding after_packet
  after_good = ap (left_after m) j

  -- An accepted packet: every place that it does not fill new has the same bytes and length
  pub packet_frame : (q : ℕ) → filled q (brought p) ≡ false → Same m.cache (after_packet flags m bs).cache q
  packet_frame q e = subst (λ (n : Memory). Same m.cache n.cache q) (sym after_good) (left_other m p q (accepted flags m bs p u j).sound e)

  -- and each place that it fills new holds its reference's text
  pub packet_new : HeldNew (after_packet flags m bs).cache (brought p)
  packet_new =
      let a : Accepted m p = accepted flags m bs p u j in
      subst (λ (n : Memory). HeldNew n.cache (brought p)) (sym after_good) (left_new m p (all_sized m a.of_its_size) a.sound)

-- All lent memory keeps its sizes, after any packet
pub sizes_kept : (flags : ℕ) (m : Memory) (bs : List ℕ) → Under 256 bs → memory_of_size m ≡ true → memory_of_size (after_packet flags m bs) ≡ true
sizes_kept flags m bs u s = all_sized_back (packet_sized flags m bs u (all_sized m s))
