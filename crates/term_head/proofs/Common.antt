-- What a word tells of the term whose head it is: for the reader of terms.
use mathlib.Core.Path.{◌≡◌, refl, ap, ◌∙◌}
use mathlib.Core.Bool.{Bool, true, false}
use mathlib.Core.List.{List, [], ◌∷◌}
use Rattle.std.specs.Prelude.{Option, Some}
use Prim.Native.Nat.{ℕ, zero, suc, ◌+◌, ◌≤◌, ◌<◌, ◌*◌}
use native.Mathlib.Omega.{arith}
use lib.Dec.{eqb, ltb}
use lib.ListN.{length, drop}
use lib.Seq.{drop-cons}
use borrow.Author.Tests.{eqb-true, ltb-true}
use Rattle.term_spec.specs.Answer.{Answer, good, refused, Position, Reading, done, at_offset}
use Rattle.term_spec.specs.Head.{Given, Wanted, any, known, parts, characters, elements, pairs, term_head}
use Rattle.term_spec.specs.Head as head_spec
use Rattle.term_spec.specs.Reading.{empty_108, opening}
use Rattle.term_spec.specs.Rows.{kind_of}
use Rattle.term_head.specs.Code.{kind_later, later_of, head_at, head_of}
use Rattle.term_head.specs.Quick.{only_if, fit, quick_later, head_word, quick_word, Common, some_parts, no_characters, some_elements, some_pairs, HoldsWord, Told}
use Rattle.term_head.proofs.HeadFacts.{Past, past_is, head_past_tag}

held : (b : Bool) (w : ℕ) (v : Option ℕ) → Some w ≡ only_if b v → (b ≡ true) × (Some w ≡ v)
unfolding only_if
held true w v e = (refl, e)
held false w v e = absurd (cc)

fit_held : (w kind next count : ℕ) → Some w ≡ fit kind next count → HoldsWord w kind next count
unfolding fit
fit_held w kind next count e =
    let a = held (ltb kind 16) w _ e in
    let b = held (ltb next 131072) w _ a.1 in
    let c = held (ltb count 4294967296) w _ b.1 in
    let is : w ≡ kind + 16 * next + 2097152 * count = cc in
    record { few_kinds = ltb-true kind 16 a.0; near = ltb-true next 131072 b.0; few = ltb-true count 4294967296 c.0; word_is = is }

none_left : {A : Type 0} (xs : List A) → length xs ≡ 0 → xs ≡ []
none_left [] e = refl
none_left (x ∷ xs) e = absurd (omega arith)

module _ (w : ℕ) (next : ℕ) where
  known_told : (n : ℕ) (l : head_spec.Later) → Some w ≡ quick_later (later_of l) (fit (kind_later l) next n) → Told w (parts [] n l) next
  unfolding quick_later later_of kind_later
  known_told n (known l) e = record { kind = kind_of l; count = n; common = some_parts l n; holds = fit_held w (kind_of l) next n e }
  known_told n (head_spec.pid_fields v) e = absurd (cc)
  known_told n (head_spec.port_fields v x) e = absurd (cc)
  known_told n (head_spec.reference_fields k v) e = absurd (cc)
  known_told n head_spec.old_reference_fields e = absurd (cc)

  told : (h : head_spec.Head) → Some w ≡ head_word (head_at h next) → Told w h next
  unfolding head_at head_word
  told (parts ws n l) e =
      let a = held (eqb (length ws) 0) w _ e in
      let b : ws ≡ [] = none_left ws (eqb-true (length ws) 0 a.0) in
      rw b (known_told n l a.1)
  told (characters cs) e =
      let a = held (eqb (length cs) 0) w _ e in
      let b : cs ≡ [] = none_left cs (eqb-true (length cs) 0 a.0) in
      rw b (record { kind = 5; count = 0; common = no_characters; holds = fit_held w 5 next 0 a.1 })
  told (elements n) e =
      let a = held (ltb 0 n) w _ e in
      record { kind = 15; count = n; common = some_elements n (λ z. let b = ltb-true 0 n a.0 in omega arith); holds = fit_held w 15 next n a.1 }
  told (pairs n) e =
      let a = held (ltb 0 n) w _ e in
      record { kind = 0; count = n; common = some_pairs n (λ z. let b = ltb-true 0 n a.0 in omega arith); holds = fit_held w 0 next n a.1 }

-- it is no 108 of length 0
common_stays : (h : head_spec.Head) (kind count : ℕ) → Common h kind count → empty_108 h ≡ false
common_stays h kind count (some_parts l n) = refl
common_stays h kind count no_characters = refl
common_stays h kind count (some_elements zero some) = absurd (some refl)
common_stays h kind count (some_elements (suc n) some) = refl
common_stays h kind count (some_pairs n some) = refl

-- the first head that is none is the opening
first_stays : (given : Given) (bound : List ℕ) (b : ℕ) (rest : List ℕ) → bound ≡ b ∷ rest → (w : Wanted) (s : Position) (h : head_spec.Head) (t : Position) → term_head given w s ≡ good (h, t) → empty_108 h ≡ false
    → opening given bound w s ≡ good ((s.at, h), t)
unfolding opening
first_stays given bound b rest e w s h t f g =
    rw (e, f) (ap (λ (z : Bool). (elim z as (λ _. Reading (ℕ × head_spec.Head)) [ true ↦ opening given rest any | false ↦ done (s.at, h) ]) t) g)

-- The term at `at` of a message, by its word
module _ (given : Given) (wanted : Wanted) (m : List ℕ) (at row w : ℕ) where
  pub record Quickly : Type 0 where
    pub h : head_spec.Head
    pub next : ℕ
    pub opens : opening given (drop at m) wanted (at_offset m at row) ≡ good ((at, h), at_offset m next row)
    pub further : at < next
    pub near : next ≤ length m
    pub told_by : Told w h next

  pub quickly : Some w ≡ quick_word (head_of (term_head given wanted (at_offset m at row))) → Quickly
  unfolding head_of quick_word
  quickly e = go (term_head given wanted (at_offset m at row)) refl e
    where
      go : (o : Answer (head_spec.Head × Position)) → term_head given wanted (at_offset m at row) ≡ o → Some w ≡ quick_word (head_of o) → Quickly
      go (refused n p) f g = absurd (cc)
      go (good x) f g =
          let i : Past m (at + 1) row x.1 = (head_past_tag given m at row wanted).known x.0 x.1 f in
          let t : Told w x.0 x.1.at = told w x.1.at x.0 g in
          let inside : at < length m = omega (arith, i.later, i.in_step.inside) in
          let s : x.1 ≡ at_offset m x.1.at row = past_is m (at + 1) row x.1 i in
          record {
            h = x.0;
            next = x.1.at;
            opens = first_stays given (drop at m) _ _ (drop-cons m at 0 inside) wanted (at_offset m at row) x.0 x.1 f (common_stays x.0 t.kind t.count t.common)
                ∙ ap (λ (p : Position). good ((at, x.0), p)) s;
            further = omega (arith, i.later);
            near = i.in_step.inside;
            told_by = t;
          }
