-- A packet judged: what the call answers, and what it leaves.
use mathlib.Core.Path.{◌≡◌, refl, sym, ◌∙◌, ap}
use mathlib.Core.List.{List, [], ◌∷◌}
use Prim.Native.Nat.{ℕ, zero, suc, ◌-◌}
use native.Mathlib.Omega.{arith}
use lib.ListN.{length, take}
use borrow.Author.Tests.{eq-eqb, ne_eqb}
use Rattle.std.specs.Prelude.{Ok, Err}
use Rattle.term_spec.specs.Answer.{Answer, good, refused}
use Rattle.packet_spec.specs.declared.PacketOutcome.TheVariants as packets
use Rattle.packet_spec.specs.Memory.{Memory, none_pending}
use Rattle.packet_spec.specs.Packet.{Packet}
use Rattle.packet_spec.specs.Calls.{told, left_by, taken, left_after, told_after, record_after}
use Rattle.packet_spec.specs.Answers.{refusal_of, PacketAnswer, outcome_case, packet_answer}
use Rattle.fragments.specs.Code.{after_fragment, Takes}

-- ---- a fragment's answer and record

pub fragment_last : (sequence fragment gathered : ℕ) → fragment ≡ 1
    → record { answer = Ok (packets.Complete gathered); pending = none_pending } ≡ after_fragment sequence fragment gathered
unfolding after_fragment outcome_case told_after record_after
fragment_last sequence fragment gathered e = rw (eq-eqb fragment 1 e)

pub fragment_more : (sequence fragment gathered : ℕ) → (fragment ≡ 1 → ⊥)
    → record { answer = Ok (packets.Pending (fragment - 1) gathered); pending = record { sequence = sequence; due = fragment - 1; gathered = gathered } } ≡ after_fragment sequence fragment gathered
unfolding after_fragment outcome_case told_after record_after
fragment_more sequence fragment gathered e = rw (ne_eqb fragment 1 e)

-- all of a list
pub whole_part : (l : List ℕ) (n : ℕ) → n ≡ length l → take n l ≡ l
whole_part [] zero e = refl
whole_part [] (suc n) e = refl
whole_part (x ∷ l) zero e = absurd (omega arith)
whole_part (x ∷ l) (suc n) e = ap (λ (y : List ℕ). x ∷ y) (whole_part l n (omega arith))

-- a refusal leaves all as it was
pub refused_takes : (m m' : Memory) (o : Answer Packet) (number place : ℕ) → o ≡ refused number place → m' ≡ m → Takes m o (Err (refusal_of number place)) m'
unfolding packet_answer
refused_takes m m' o number place e f =
    record { answers = ap (λ (x : Answer Packet). packet_answer (taken m x)) (sym e); leaves = f ∙ ap (left_after m) (sym e) }

pub good_takes : (m m' : Memory) (o : Answer Packet) (p : Packet) (answer : PacketAnswer) → o ≡ good p → answer ≡ Ok (outcome_case (told m p)) → m' ≡ left_by m p → Takes m o answer m'
unfolding packet_answer
good_takes m m' o p answer e f g =
    record { answers = f ∙ ap (λ (x : Answer Packet). packet_answer (taken m x)) (sym e); leaves = g ∙ ap (left_after m) (sym e) }
