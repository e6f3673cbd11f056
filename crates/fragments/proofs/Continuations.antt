-- A later fragment: one law for each way out.
use mathlib.Core.Path.{◌≡◌, refl, sym, ◌∙◌, ap, ap₂}
use mathlib.Core.List.{List}
use Prim.Native.Nat.{ℕ, ◌+◌, ◌-◌, ◌≤◌, ◌<◌}
use native.Mathlib.Omega.{arith}
use lib.ListN.{length, take, drop, length-drop}
use lib.Seq.{sets}
use borrow.Author.Tests.{eq-eqb, ne_eqb, le-leb, lt-leb}
use Rattle.std.specs.Prelude.{Ok, Err}
use Rattle.term_spec.specs.Text.{Coding}
use Rattle.term_spec.specs.Answer.{Answer, good, refused, at_offset, after}
use Rattle.term_spec.specs.AtomList.{AtomList}
use Rattle.term_spec.specs.Message.{result_of}
use Rattle.packet_spec.specs.declared.Pending.{Pending}
use Rattle.packet_spec.specs.Memory.{Cache, Memory, memory_of, held}
use Rattle.packet_spec.specs.Packet.{continuing, Packet, continuation, payload_after, rest}
use Rattle.packet_spec.specs.Calls.{told, left_by, told_after, record_after}
use Rattle.packet_spec.specs.Answers.{refusal_of, Taken, outcome_case}
use Rattle.fragments.specs.Code.{after_fragment, Takes}
use Rattle.fragments.proofs.Taking.{whole_part, refused_takes, good_takes}

module _ (agreed : Coding) (c : Cache) (plain_list pending_list : AtomList) (r : Pending) (gather s : List ℕ) (q f : ℕ) where
  -- all that the call is lent
  abbrev lent : Memory
  lent = memory_of c plain_list pending_list r gather

  abbrev judged_as : Answer Packet
  judged_as = result_of (rest agreed (held c) r (continuing q f) (at_offset s 18 0))

  pub more_none : r.due ≡ 0 → Takes lent judged_as (Err (refusal_of 25 0)) lent
  unfolding rest
  more_none e = refused_takes lent lent judged_as 25 0 (rw (eq-eqb r.due 0 e)) refl

  module _ (some : r.due ≡ 0 → ⊥) where
    pub more_other : (q ≡ r.sequence → ⊥) → Takes lent judged_as (Err (refusal_of 25 0)) lent
    unfolding rest
    more_other e = refused_takes lent lent judged_as 25 0 (rw (ne_eqb r.due 0 some, ne_eqb q r.sequence e)) refl

    module _ (same : q ≡ r.sequence) where
      pub more_wrong : (f ≡ r.due → ⊥) → Takes lent judged_as (Err (refusal_of 24 0)) lent
      unfolding rest
      more_wrong e = refused_takes lent lent judged_as 24 0 (rw (ne_eqb r.due 0 some, eq-eqb q r.sequence same, ne_eqb f r.due e)) refl

      module _ (its : f ≡ r.due) where
        more_payload : rest agreed (held c) r (continuing q f) (at_offset s 18 0) ≡ after (payload_after r.gathered (at_offset s 18 0)) (λ bs t. good (continuation q f bs, t))
        unfolding rest
        more_payload = rw (ne_eqb r.due 0 some, eq-eqb q r.sequence same, eq-eqb f r.due its)

        left : length (drop 18 s) ≡ length s - 18
        left = length-drop 18 s

        payload_long : 65536 < r.gathered + length (drop 18 s) → rest agreed (held c) r (continuing q f) (at_offset s 18 0) ≡ refused 12 0
        unfolding payload_after
        payload_long l = more_payload ∙ rw (lt-leb (r.gathered + length (drop 18 s)) 65536 l)

        payload_there : r.gathered + length (drop 18 s) ≤ 65536 → rest agreed (held c) r (continuing q f) (at_offset s 18 0) ≡ good (continuation q f (drop 18 s), at_offset s 18 0)
        unfolding payload_after
        payload_there l = more_payload ∙ rw (le-leb (r.gathered + length (drop 18 s)) 65536 l)

        pub more_long : 65536 - r.gathered < length s - 18 → r.gathered ≤ 65536 → Takes lent judged_as (Err (refusal_of 12 0)) lent
        more_long l g = refused_takes lent lent judged_as 12 0 (ap result_of (payload_long (omega (arith, left)))) refl

        pub more_good : (gather' : List ℕ) (taken_as : Taken) → length s - 18 ≤ 65536 - r.gathered → r.gathered ≤ 65536
            → gather' ≡ sets gather r.gathered (take (length s - 18) (drop 18 s)) → taken_as ≡ after_fragment q f (r.gathered + (length s - 18))
            → Takes lent judged_as taken_as.answer (memory_of c plain_list pending_list taken_as.pending gather')
        unfolding outcome_case told left_by after_fragment
        more_good gather' taken_as l g e t =
            good_takes lent (memory_of c plain_list pending_list taken_as.pending gather') judged_as (continuation q f (drop 18 s)) _
            (ap result_of (payload_there (omega (arith, left))))
            (ap (λ (x : Taken). x.answer) t ∙ ap (λ (n : ℕ). Ok (outcome_case (told_after f (r.gathered + n)))) (sym left))
            (ap₂ (λ (x : Pending) (y : List ℕ). memory_of c plain_list pending_list x y)
            (ap (λ (x : Taken). x.pending) t ∙ ap (λ (n : ℕ). record_after q f (r.gathered + n)) (sym left))
            (e ∙ ap (sets gather r.gathered) (whole_part (drop 18 s) (length s - 18) (sym left))))
