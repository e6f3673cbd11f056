-- What is known of an opening that the code found: for the reader of terms.
use mathlib.Core.Path.{◌≡◌, refl, ap, ◌∙◌}
use mathlib.Core.Bool.{Bool, true, false, ◌&&◌, ◌||◌}
use mathlib.Core.List.{List, [], ◌∷◌}
use Prim.Native.Nat.{ℕ, ◌+◌, ◌^◌, ◌≤◌}
use native.Mathlib.Omega.{arith}
use lib.Dec.{eqb, ltb}
use Rattle.term_spec.specs.Answer.{Answer, good, refused, Position, at_offset, Reading, done, rule, number}
use Rattle.term_spec.specs.Head.{Given, limits, any, later, id_words, creation_rule, words_rule, known, pid_fields, port_fields, reference_fields, old_reference_fields, parts, characters, elements, pairs}
use Rattle.term_spec.specs.Head as head_spec
use Rattle.term_spec.specs.Reading.{empty_108, opening}
use Rattle.term_spec.specs.Rows.{kind_of}
use Rattle.term_spec.proofs.Holds.{Holds, bind, weaken, done_holds, refused_holds, skip}
use Rattle.term_spec.specs.declared.Refusal.{Refusal}
use Rattle.std.specs.Prelude.{Result, Ok, Err}
use Rattle.term_head.specs.declared.Opening.{Opening}
use Rattle.term_head.specs.Code.{kind_later, head_at, opening_of}
use Rattle.term_head.proofs.HeadFacts.{Past, past_is, head_past_tag, Wanting, head_wanting}

-- an opening's tag stands at `at` or past it, its head ends past the tag, in the message, with no row taken
pub record Opens (m : List ℕ) (at rows place : ℕ) (h : head_spec.Head) (t : Position) : Type 0 where
  pub from : at ≤ place
  pub past : Past m (place + 1) rows t
  pub wanting : Wanting h

pub opening_opens : (given : Given) (m : List ℕ) (bound : List ℕ) (at rows : ℕ) (w : head_spec.Wanted)
    → Holds (opening given bound w (at_offset m at rows)) (λ o t. Opens m at rows o.0 o.1 t)
unfolding opening
opening_opens given m [] at rows w = refused_holds 2 at
opening_opens given m (b ∷ bound) at rows w =
    bind (record { known = λ h t e. go h t ((head_past_tag given m at rows w).known h t e) ((head_wanting given w (at_offset m at rows)).known h t e) (empty_108 h) (λ next. opening_opens given m bound next rows any) })
  where
    go : (h : head_spec.Head) (t : Position) → Past m (at + 1) rows t → Wanting h → (z : Bool)
        → ((next : ℕ) → Holds (opening given bound any (at_offset m next rows)) (λ o t. Opens m next rows o.0 o.1 t))
        → Holds ((elim z as (λ _. Reading (ℕ × head_spec.Head)) [ true ↦ opening given bound any | false ↦ done (at, h) ]) t) (λ o t. Opens m at rows o.0 o.1 t)
    go h t i w true ih =
        rw (past_is m (at + 1) rows t i)
        (weaken (λ o t'. Opens m t.at rows o.0 o.1 t') (ih t.at)
        (λ o t' x. record { from = omega (arith, x.from, i.later); past = x.past; wanting = x.wanting }))
    go h t i w false ih = done_holds _ t (record { from = omega arith; past = i; wanting = w })

-- What the code's opening r says of the definition's opening o
module _ (o : Answer ((ℕ × head_spec.Head) × Position)) (r : Result Opening Refusal) (e : r ≡ opening_of o) where
  pub refused_found : (x : Refusal) → r ≡ Err x → o ≡ refused x.number x.place
  unfolding opening_of
  refused_found x f = go o refl
    where
      go : (o' : Answer ((ℕ × head_spec.Head) × Position)) → o ≡ o' → o ≡ refused x.number x.place
      go (refused k q) d =
          let g : r ≡ Err (record { number = k; place = q }) = e ∙ ap opening_of d in
          let h : x ≡ record { number = k; place = q } = cc in
          rw h d
      go (good y) d =
          let g : r ≡ Ok (record { place = y.0.0; head = head_at y.0.1 y.1.at }) = e ∙ ap opening_of d in
          absurd (cc)

-- the later fields of a term do not change its kind
pub later_kind : (flags p : ℕ) (l : head_spec.Later) (s : Position) → Holds (later flags p l s) (λ label _. kind_of label ≡ kind_later l)
unfolding later kind_of kind_later
later_kind flags p (known l) s = done_holds l s refl
later_kind flags p (pid_fields w) s =
    skip (number p 4 s) λ id t. skip (number p 4 t) λ serial t. skip (number p w t) λ creation t.
    skip (rule (ltb id (limits flags w).id && ltb serial (limits flags w).serial && creation_rule w creation) 4 p t) λ _ t. done_holds _ t refl
later_kind flags p (port_fields v w) s =
    skip (number p v s) λ id t. skip (number p w t) λ creation t.
    skip (rule ((eqb v 8 || ltb id (2 ^ 28)) && creation_rule w creation) 4 p t) λ _ t. done_holds _ t refl
later_kind flags p (reference_fields k w) s =
    skip (number p w s) λ creation t. skip (id_words p k t) λ ws t.
    skip (rule (creation_rule w creation && words_rule w ws) 4 p t) λ _ t. done_holds _ t refl
later_kind flags p old_reference_fields s =
    skip (id_words p 1 s) λ ws t. skip (number p 1 t) λ creation t.
    skip (rule (words_rule 1 ws && creation_rule 1 creation) 4 p t) λ _ t. done_holds _ t refl
