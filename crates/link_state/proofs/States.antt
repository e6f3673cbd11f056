-- Drop and reset: one law for each way out.
use mathlib.Core.Path.{◌≡◌, ◌∙◌, ap, ap₂}
use mathlib.Core.Bool.{Bool, true, false, not}
use mathlib.Core.List.{List}
use Prim.Native.Nat.{ℕ, ◌≤◌, ◌<◌}
use lib.ListN.{length, replicate}
use borrow.Author.Tests.{eq-eqb, ne_eqb, le-leb, lt-leb}
use Rattle.std.specs.Prelude.{Ok}
use Rattle.term_spec.specs.Connection.{flags_known}
use Rattle.term_spec.proofs.Tests.{refuted, confirmed}
use Rattle.packet_spec.specs.declared.Pending.{Pending}
use Rattle.packet_spec.specs.Memory.{Cache, none_pending, cache_of, cache_of_size, record_true, empty_cache}
use Rattle.packet_spec.specs.Calls.{drop_sequence, reset, cache_after_reset}
use Rattle.packet_spec.specs.Answers.{record_stays, state_answer, drop_answer, reset_answer}
use Rattle.packet_spec.specs.Promises.{DropCall, ResetCall}
use Rattle.lent_memory.proofs.Sizes.{cache_lent}

-- ---- drop

module _ (flags : ℕ) (r : Pending) where
  pub drop_unknown : {b : Bool} → b ≡ flags_known flags → not b ≡ true → DropCall flags r (record_stays 14 r)
  unfolding drop_answer state_answer drop_sequence
  drop_unknown told failed = record { drop_answered = rw (refuted told failed) }

  module _ {b : Bool} (told : b ≡ flags_known flags) (met : not b ≡ false) where
    pub drop_false : 65536 < r.gathered → DropCall flags r (record_stays 14 r)
    unfolding drop_answer state_answer drop_sequence record_true
    drop_false h = record { drop_answered = rw (confirmed told met, lt-leb r.gathered 65536 h) }

    pub drop_none : r.gathered ≤ 65536 → r.due ≡ 0 → DropCall flags r (record_stays 25 r)
    unfolding drop_answer state_answer drop_sequence record_true
    drop_none h e = record { drop_answered = rw (confirmed told met, le-leb r.gathered 65536 h, eq-eqb r.due 0 e) }

    pub drop_done : r.gathered ≤ 65536 → (r.due ≡ 0 → ⊥) → DropCall flags r (record { answer = Ok tt; pending = none_pending })
    unfolding drop_answer state_answer drop_sequence record_true
    drop_done h e = record { drop_answered = rw (confirmed told met, le-leb r.gathered 65536 h, ne_eqb r.due 0 e) }

-- ---- reset

pub reset_refused : (c : Cache) (r : Pending) {b : Bool} → b ≡ cache_of_size c → not b ≡ true → ResetCall c r (record_stays 13 r) c
unfolding reset_answer state_answer reset cache_after_reset
reset_refused c r told failed =
    let e = refuted told failed in
    record { reset_answered = rw e; cache_left = rw (cache_after_reset, e) }

pub reset_done : (cache lengths cache' lengths' : List ℕ) (r : Pending) {b : Bool} → b ≡ cache_of_size (cache_of cache lengths) → not b ≡ false
    → cache' ≡ replicate (length cache) 0 → lengths' ≡ replicate (length lengths) 65535
    → ResetCall (cache_of cache lengths) r (record { answer = Ok tt; pending = none_pending }) (cache_of cache' lengths')
unfolding reset_answer state_answer reset cache_after_reset empty_cache
reset_done cache lengths cache' lengths' r told met p l =
    let s = confirmed told met in
    let z = cache_lent cache lengths told met in
    let x : cache' ≡ replicate 65536 0 = p ∙ ap (λ (m : ℕ). replicate m 0) z.places_are in
    let y : lengths' ≡ replicate 2048 65535 = l ∙ ap (λ (m : ℕ). replicate m 65535) z.lengths_are in
    record { reset_answered = rw s; cache_left = rw (cache_after_reset, s) (ap₂ cache_of x y) }
