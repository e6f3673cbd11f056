-- A packet with all lent memory: one law for each way out.
use mathlib.Core.Path.{◌≡◌, refl, sym, ◌∙◌, ap, ap₂, subst}
use mathlib.Core.Bool.{Bool, true, false, not}
use mathlib.Core.List.{List}
use Prim.Native.Nat.{ℕ, ◌≤◌, ◌<◌}
use borrow.Author.Tests.{le-leb, lt-leb}
use Rattle.std.specs.Prelude.{Ok, Err}
use Rattle.term_spec.specs.Text.{Coding}
use Rattle.term_spec.specs.Connection.{coding_agreed, flags_known}
use Rattle.term_spec.specs.Answer.{Answer, good, refused, Position, at_offset, after}
use Rattle.term_spec.specs.Message.{result_of}
use Rattle.term_spec.proofs.Tests.{refuted, confirmed}
use Rattle.term_spec.specs.AtomList.{AtomList, lent_list}
use Rattle.cache_entries.specs.declared.ListMut.{ListMut}
use Rattle.cache_entries.specs.Code.{list_lent}
use Rattle.packet_spec.specs.declared.Pending.{Pending}
use Rattle.packet_spec.specs.declared.Ids.{Ids}
use Rattle.packet_spec.specs.Memory.{Memory, memory_of_size, record_true, held}
use Rattle.packet_spec.specs.Packet.{Kind, normal, starting, continuing, preamble, Packet, rest, packet, judged}
use Rattle.packet_spec.specs.Calls.{taken, left_after, take_packet, after_packet}
use Rattle.packet_spec.specs.Answers.{PacketAnswer, Taken, refusal_of, record_stays, packet_answer, taken_answer}
use Rattle.packet_spec.specs.Promises.{PacketCall}
use Rattle.packet_preamble.specs.Code.{PreambleIs}
use Rattle.packet_preamble.specs.declared.Preamble.TheVariants as preambles
use Rattle.fragments.specs.Code.{Takes}

module _ (flags : ℕ) (m : Memory) (s : List ℕ) where
  done_as : (o : Answer Packet) → judged flags m s ≡ o → (answer : PacketAnswer) (p : Pending) (m' : Memory) → m'.pending ≡ p → Takes m o answer m'
      → PacketCall flags s m (record { answer = answer; pending = p }) m'
  unfolding taken_answer take_packet after_packet
  done_as o e answer p m' f t =
      let l : m' ≡ left_after m (judged flags m s) = t.leaves ∙ ap (left_after m) (sym e) in
      record {
        packet_answered = ap₂ (λ (x : PacketAnswer) (y : Pending). record { answer = x; pending = y })
            (t.answers ∙ ap (λ (x : Answer Packet). packet_answer (taken m x)) (sym e))
            (sym f ∙ ap (λ (x : Memory). x.pending) l);
        memory_left = l;
      }

  refused_done : (number : ℕ) → judged flags m s ≡ refused number 0 → PacketCall flags s m (record_stays number m.pending) m
  unfolding packet_answer
  refused_done number e = done_as (refused number 0) e (Err (refusal_of number 0)) m.pending m refl (record { answers = refl; leaves = refl })

  pub size_done : {b : Bool} → b ≡ memory_of_size m → not b ≡ true → PacketCall flags s m (record_stays 13 m.pending) m
  unfolding judged
  size_done told failed = refused_done 13 (rw (judged, refuted told failed))

  module _ {b : Bool} (told : b ≡ memory_of_size m) (met : not b ≡ false) where
    pub unknown_done : {k : Bool} → k ≡ flags_known flags → not k ≡ true → PacketCall flags s m (record_stays 14 m.pending) m
    unfolding judged
    unknown_done known failed = refused_done 14 (rw (judged, confirmed told met, refuted known failed))

    module _ {k : Bool} (known : k ≡ flags_known flags) (all_known : not k ≡ false) where
      pub false_done : 65536 < m.pending.gathered → PacketCall flags s m (record_stays 14 m.pending) m
      unfolding judged packet record_true
      false_done e = refused_done 14 (rw (judged, confirmed told met, confirmed known all_known, lt-leb m.pending.gathered 65536 e))

      module _ (true_record : m.pending.gathered ≤ 65536) where
        preamble_read : (o : Answer (Kind × Position)) → preamble (at_offset s 0 0) ≡ o → judged flags m s ≡ result_of (after o (λ k. rest (coding_agreed flags) (held m.cache) m.pending k))
        unfolding judged packet record_true
        preamble_read o e = rw (judged, confirmed told met, confirmed known all_known, le-leb m.pending.gathered 65536 true_record) (ap (λ (x : Answer (Kind × Position)). result_of (after x (λ k. rest (coding_agreed flags) (held m.cache) m.pending k))) e)

        pub preamble_done : (k : ℕ) → PreambleIs s (Err k) → PacketCall flags s m (record_stays k m.pending) m
        unfolding PreambleIs
        preamble_done k e = refused_done k (preamble_read (refused k 0) e)

        -- the coding is as the code tells
        pub plain_done : {agreed : Coding} → agreed ≡ coding_agreed flags → PreambleIs s (Ok preambles.Plain) → (answer : PacketAnswer) (m' : Memory) → m'.pending ≡ m.pending
            → Takes m (result_of (rest agreed (held m.cache) m.pending normal (at_offset s 2 0))) answer m' → PacketCall flags s m (record { answer = answer; pending = m.pending }) m'
        unfolding PreambleIs
        plain_done is e answer m' f t = done_as _ (preamble_read (good (normal, at_offset s 2 0)) e.0) answer m.pending m' f
            (subst (λ (x : Coding). Takes m (result_of (rest x (held m.cache) m.pending normal (at_offset s 2 0))) answer m') is t)

        pub start_done : {agreed : Coding} → agreed ≡ coding_agreed flags → (i : Ids) → PreambleIs s (Ok (preambles.Start i)) → (r : Taken) (m' : Memory) → m'.pending ≡ r.pending
            → Takes m (result_of (rest agreed (held m.cache) m.pending (starting i.sequence i.fragment) (at_offset s 18 0))) r.answer m' → PacketCall flags s m r m'
        unfolding PreambleIs
        start_done is i e r m' g t = done_as _ (preamble_read (good (starting i.sequence i.fragment, at_offset s 18 0)) e.0) r.answer r.pending m' g
            (subst (λ (x : Coding). Takes m (result_of (rest x (held m.cache) m.pending (starting i.sequence i.fragment) (at_offset s 18 0))) r.answer m') is t)

        pub more_done : (i : Ids) → PreambleIs s (Ok (preambles.Continuation i)) → (r : Taken) (m' : Memory) → m'.pending ≡ r.pending
            → Takes m (result_of (rest (coding_agreed flags) (held m.cache) m.pending (continuing i.sequence i.fragment) (at_offset s 18 0))) r.answer m' → PacketCall flags s m r m'
        unfolding PreambleIs
        more_done i e r m' g t = done_as _ (preamble_read (good (continuing i.sequence i.fragment, at_offset s 18 0)) e.0) r.answer r.pending m' g t

-- a list that is left as these are says what they say
pub list_told : (F : AtomList → Type 0) {n : ℕ} {places lengths : List ℕ} (list : ListMut) → n ≡ list.n.now → places ≡ list.places.now → lengths ≡ list.lengths.now
    → F (list_lent list) → F (lent_list n places lengths)
list_told F list a b c f = rw (a, b, c) f
