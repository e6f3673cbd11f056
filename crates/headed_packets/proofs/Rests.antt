-- What comes after the preamble of a packet with a header, by its kind.
use mathlib.Core.Path.{◌≡◌, refl, ◌∙◌, ap, ap₂}
use mathlib.Core.List.{List}
use Prim.Native.Nat.{ℕ}
use lib.ListN.{take, drop}
use lib.Seq.{sets}
use borrow.Author.Tests.{eq-eqb, ne_eqb}
use Rattle.std.specs.Prelude.{Ok, Err}
use Rattle.term_spec.specs.Text.{Coding}
use Rattle.term_spec.specs.Answer.{Answer, good, refused, Position, at_offset, after}
use Rattle.term_spec.specs.AtomList.{AtomList}
use Rattle.term_spec.specs.Message.{result_of}
use Rattle.packet_spec.specs.declared.Pending.{Pending}
use Rattle.term_spec.specs.declared.Refusal.{Refusal}
use Rattle.packet_spec.specs.declared.PacketOutcome.TheVariants as packets
use Rattle.packet_spec.specs.Memory.{Cache, memory_of, Held, held}
use Rattle.packet_spec.specs.Header.{Reference, header}
use Rattle.packet_spec.specs.Packet.{normal, starting, plain, start, payload_after, rest}
use Rattle.packet_spec.specs.Calls.{told, left_by, entered, list_of, told_after, record_after}
use Rattle.packet_spec.specs.Answers.{Taken, refusal_of, outcome_case}
use Rattle.fragments.specs.Code.{after_fragment, Takes}
use Rattle.fragments.proofs.Taking.{whole_part, refused_takes, good_takes}
use Rattle.headed_packets.specs.Code.{headed, Heads}
use Rattle.headed_packets.specs.declared.Payload.{Payload}

-- ---- a plain packet and a start, by their header

module _ (agreed : Coding) (holding : ℕ → Held) (r : Pending) (t : Position) where
  normal_headed : rest agreed holding r normal t ≡ after (headed agreed holding t) (λ x u. good (plain x.0 x.1 x.2, u))
  unfolding rest headed
  normal_headed = go (header agreed holding t)
    where
      inner : (rs : List Reference) (at : ℕ) (o : Answer (List ℕ × Position))
          → after o (λ bs u. good (plain rs at bs, u)) ≡ after {A = List Reference × ℕ × List ℕ} (after o (λ bs u. good ((rs, at, bs), u))) (λ x u. good (plain x.0 x.1 x.2, u))
      inner rs at (good x) = refl
      inner rs at (refused n p) = refl

      go : (o : Answer (List Reference × Position))
          → after o (λ rs u. after (payload_after 0 u) (λ bs v. good (plain rs u.at bs, v)))
          ≡ after {A = List Reference × ℕ × List ℕ} (after o (λ rs u. after (payload_after 0 u) (λ bs v. good ((rs, u.at, bs), v)))) (λ x u. good (plain x.0 x.1 x.2, u))
      go (good x) = inner x.0 x.1.at (payload_after 0 x.1)
      go (refused n p) = refl

  module _ (q f : ℕ) where
    start_pending : (r.due ≡ 0 → ⊥) → rest agreed holding r (starting q f) t ≡ refused 26 0
    unfolding rest
    start_pending e = rw (ne_eqb r.due 0 e)

    start_headed : r.due ≡ 0 → rest agreed holding r (starting q f) t ≡ after (headed agreed holding t) (λ x u. good (start q f x.0 x.2, u))
    unfolding rest headed
    start_headed e = rw (eq-eqb r.due 0 e) (go (header agreed holding t))
      where
        inner : (rs : List Reference) (at : ℕ) (o : Answer (List ℕ × Position))
            → after o (λ bs u. good (start q f rs bs, u)) ≡ after {A = List Reference × ℕ × List ℕ} (after o (λ bs u. good ((rs, at, bs), u))) (λ x u. good (start q f x.0 x.2, u))
        inner rs at (good x) = refl
        inner rs at (refused n p) = refl

        go : (o : Answer (List Reference × Position))
            → after o (λ rs u. after (payload_after 0 u) (λ bs v. good (start q f rs bs, v)))
            ≡ after {A = List Reference × ℕ × List ℕ} (after o (λ rs u. after (payload_after 0 u) (λ bs v. good ((rs, u.at, bs), v)))) (λ x u. good (start q f x.0 x.2, u))
        go (good x) = inner x.0 x.1.at (payload_after 0 x.1)
        go (refused n p) = refl

module _ (agreed : Coding) (c c' : Cache) (list list' : AtomList) (s : List ℕ) where
  module _ (pending_list : AtomList) (r : Pending) (gather : List ℕ) where
    pub plain_refused : (refusal : Refusal) → Heads agreed s 2 c list (Err refusal) c' list'
        → Takes (memory_of c list pending_list r gather) (result_of (rest agreed (held c) r normal (at_offset s 2 0))) (Err refusal) (memory_of c' list' pending_list r gather)
    unfolding Heads
    plain_refused refusal h =
        refused_takes (memory_of c list pending_list r gather) (memory_of c' list' pending_list r gather) _ refusal.number refusal.place
        (ap result_of (normal_headed agreed (held c) r (at_offset s 2 0) ∙ ap (λ (x : Answer ((List Reference × ℕ × List ℕ) × Position)). after x (λ x u. good (plain x.0 x.1 x.2, u))) h.is))
        (ap₂ (λ (x : Cache) (y : AtomList). memory_of x y pending_list r gather) h.cache_stays h.list_stays)

    pub plain_good : (p : Payload) → Heads agreed s 2 c list (Ok p) c' list'
        → Takes (memory_of c list pending_list r gather) (result_of (rest agreed (held c) r normal (at_offset s 2 0))) (Ok (packets.Plain p.offset p.size)) (memory_of c' list' pending_list r gather)
    unfolding Heads outcome_case told left_by
    plain_good p h =
        good_takes (memory_of c list pending_list r gather) (memory_of c' list' pending_list r gather) _ (plain h.references p.offset (drop p.offset s)) _
        (ap result_of (normal_headed agreed (held c) r (at_offset s 2 0) ∙ ap (λ (x : Answer ((List Reference × ℕ × List ℕ) × Position)). after x (λ x u. good (plain x.0 x.1 x.2, u))) h.is))
        (ap (λ (n : ℕ). Ok (packets.Plain p.offset n)) h.size_is)
        (ap₂ (λ (x : Cache) (y : AtomList). memory_of x y pending_list r gather) h.cache_is h.list_is)

  module _ (plain_list : AtomList) (r : Pending) (gather : List ℕ) (q f : ℕ) where
    pub start_again : (r.due ≡ 0 → ⊥)
        → Takes (memory_of c plain_list list r gather) (result_of (rest agreed (held c) r (starting q f) (at_offset s 18 0))) (Err (refusal_of 26 0)) (memory_of c plain_list list r gather)
    start_again e = refused_takes (memory_of c plain_list list r gather) (memory_of c plain_list list r gather) _ 26 0 (ap result_of (start_pending agreed (held c) r (at_offset s 18 0) q f e)) refl

    module _ (none : r.due ≡ 0) where
      pub start_refused : (refusal : Refusal) → Heads agreed s 18 c list (Err refusal) c' list'
          → Takes (memory_of c plain_list list r gather) (result_of (rest agreed (held c) r (starting q f) (at_offset s 18 0))) (Err refusal) (memory_of c' plain_list list' r gather)
      unfolding Heads
      start_refused refusal h =
          refused_takes (memory_of c plain_list list r gather) (memory_of c' plain_list list' r gather) _ refusal.number refusal.place
          (ap result_of (start_headed agreed (held c) r (at_offset s 18 0) q f none ∙ ap (λ (x : Answer ((List Reference × ℕ × List ℕ) × Position)). after x (λ x u. good (start q f x.0 x.2, u))) h.is))
          (ap₂ (λ (x : Cache) (y : AtomList). memory_of x plain_list y r gather) h.cache_stays h.list_stays)

      pub start_good : (p : Payload) (gather' : List ℕ) (taken_as : Taken) → Heads agreed s 18 c list (Ok p) c' list'
          → gather' ≡ sets gather 0 (take p.size (drop p.offset s)) → taken_as ≡ after_fragment q f p.size
          → Takes (memory_of c plain_list list r gather) (result_of (rest agreed (held c) r (starting q f) (at_offset s 18 0))) taken_as.answer (memory_of c' plain_list list' taken_as.pending gather')
      unfolding Heads outcome_case told left_by after_fragment
      start_good p gather' taken_as h g t =
          good_takes (memory_of c plain_list list r gather) (memory_of c' plain_list list' taken_as.pending gather') _ (start q f h.references (drop p.offset s)) _
          (ap result_of (start_headed agreed (held c) r (at_offset s 18 0) q f none ∙ ap (λ (x : Answer ((List Reference × ℕ × List ℕ) × Position)). after x (λ x u. good (start q f x.0 x.2, u))) h.is))
          (ap (λ (x : Taken). x.answer) t ∙ ap (λ (n : ℕ). Ok (outcome_case (told_after f n))) h.size_is)
          (ap₂ (λ (x : Cache) (y : AtomList). memory_of x plain_list y taken_as.pending gather') h.cache_is h.list_is
          ∙ ap₂ (λ (x : Pending) (y : List ℕ). memory_of (entered c h.references) plain_list (list_of h.references) x y)
          (ap (λ (x : Taken). x.pending) t ∙ ap (λ (n : ℕ). record_after q f n) h.size_is)
          (g ∙ ap (sets gather 0) (whole_part (drop p.offset s) p.size h.size_is)))
