-- The sizes of all lent memory are kept.
use mathlib.Core.Path.{◌≡◌, refl, ◌∙◌, ap}
use mathlib.Core.Bool.{true, ◌&&◌}
use mathlib.Core.List.{List, [], ◌∷◌}
use Prim.Native.Nat.{ℕ, suc, ◌*◌, ◌<◌}
use native.Mathlib.Omega.{arith}
use lib.Dec.{eqb}
use lib.ListN.{length, length-append}
use lib.Seq.{length-sets}
use borrow.Author.Tests.{eqb-true, eq-eqb}
use Rattle.term_spec.specs.Answer.{Answer, good, refused}
use Rattle.term_spec.specs.AtomList.{of_size}
use Rattle.term_spec.specs.Numbers.{Under}
use Rattle.term_spec.proofs.Tests.{both_true}
use Rattle.packet_spec.specs.Memory.{Memory, cache_of_size, CacheSized, memory_of_size}
use Rattle.packet_spec.specs.Header.{Reference}
use Rattle.packet_spec.specs.Packet.{Packet, plain, start, continuation, judged}
use Rattle.packet_spec.specs.Calls.{zeros_to, texts_in_places, lengths_of, list_of, left_by, left_after, after_packet}
use Rattle.packet_spec.proofs.Stores.{length_zeros_to}
use Rattle.packet_spec.proofs.Cache.{sized, sized_back}
use Rattle.packet_spec.proofs.Judged.{AllSound, SoundPacket, accepted}
use Rattle.packet_spec.proofs.Frame.{entered_sized}

-- all lent memory is of its stated size
pub record AllSized (m : Memory) : Type 0 where
  pub cache_sized : CacheSized m.cache
  pub plain_sized : of_size m.plain_list ≡ true
  pub pending_sized : of_size m.pending_list ≡ true
  pub gather_sized : length m.gather ≡ 65536

pub all_sized : (m : Memory) → memory_of_size m ≡ true → AllSized m
unfolding memory_of_size
all_sized m e =
    let a : (cache_of_size m.cache ≡ true) × ((of_size m.plain_list && (of_size m.pending_list && eqb (length m.gather) 65536)) ≡ true) = both_true _ _ e in
    let b : (of_size m.plain_list ≡ true) × ((of_size m.pending_list && eqb (length m.gather) 65536) ≡ true) = both_true _ _ a.1 in
    let c : (of_size m.pending_list ≡ true) × (eqb (length m.gather) 65536 ≡ true) = both_true _ _ b.1 in
    record { cache_sized = sized m.cache a.0; plain_sized = b.0; pending_sized = c.0; gather_sized = eqb-true _ _ c.1 }

pub all_sized_back : {m : Memory} → AllSized m → memory_of_size m ≡ true
unfolding memory_of_size
all_sized_back {m} s = rw (sized_back s.cache_sized, s.plain_sized, s.pending_sized, eq-eqb (length m.gather) 65536 s.gather_sized)

length_texts : (rs : List Reference) (earlier : List Reference) → AllSound earlier rs → length (texts_in_places rs) ≡ 32 * length rs
unfolding texts_in_places
length_texts [] earlier a = omega arith
length_texts (r ∷ rs) earlier a =
    let one : length (zeros_to 32 r.text) ≡ 32 = length_zeros_to 32 r.text a.0.a_text.short in
    let more : length (texts_in_places rs) ≡ 32 * length rs = length_texts rs (r ∷ earlier) a.1 in
    rw (length-append (zeros_to 32 r.text) (texts_in_places rs)) (omega arith)

pub length_lengths : (rs : List Reference) → length (lengths_of rs) ≡ length rs
unfolding lengths_of
length_lengths [] = refl
length_lengths (r ∷ rs) = ap suc (length_lengths rs)

-- a list written is of its stated size
pub list_sized : (rs : List Reference) → AllSound [] rs → length rs < 256 → of_size (list_of rs) ≡ true
unfolding of_size list_of
list_sized rs a n =
    let t : length (texts_in_places rs) ≡ 32 * length rs = length_texts rs [] a in
    let l : length (lengths_of rs) ≡ length rs = length_lengths rs in
    rw (
      eq-eqb (length (zeros_to 8160 (texts_in_places rs))) 8160 (length_zeros_to 8160 (texts_in_places rs) (omega arith)),
      eq-eqb (length (zeros_to 255 (lengths_of rs))) 255 (length_zeros_to 255 (lengths_of rs) (omega arith)),
    )

left_sized : (m : Memory) (p : Packet) → AllSized m → SoundPacket m.pending p → AllSized (left_by m p)
unfolding left_by
left_sized m (plain rs at bs) s a =
    record {
      cache_sized = entered_sized rs m.cache s.cache_sized;
      plain_sized = list_sized rs a.0 a.1;
      pending_sized = s.pending_sized;
      gather_sized = s.gather_sized;
    }
left_sized m (start sequence fragment rs bs) s a =
    record {
      cache_sized = entered_sized rs m.cache s.cache_sized;
      plain_sized = s.plain_sized;
      pending_sized = list_sized rs a.0 a.1;
      gather_sized = length-sets m.gather 0 bs ∙ s.gather_sized;
    }
left_sized m (continuation sequence fragment bs) s a =
    record {
      cache_sized = s.cache_sized;
      plain_sized = s.plain_sized;
      pending_sized = s.pending_sized;
      gather_sized = length-sets m.gather m.pending.gathered bs ∙ s.gather_sized;
    }

-- after any packet, accepted or refused
pub packet_sized : (flags : ℕ) (m : Memory) (bs : List ℕ) → Under 256 bs → AllSized m → AllSized (after_packet flags m bs)
unfolding after_packet
packet_sized flags m bs u s = go (judged flags m bs) refl
  where
    go : (o : Answer Packet) → judged flags m bs ≡ o → AllSized (left_after m o)
    go (good p) e = left_sized m p s (accepted flags m bs p u e).sound
    go (refused n q) e = s
