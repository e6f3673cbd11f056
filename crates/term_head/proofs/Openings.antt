-- A term's opening, from the 108s of length 0 that the code skips; the head of a list's tail, from its bytes.
use mathlib.Core.Path.{◌≡◌, refl, sym, ap, ◌∙◌}
use mathlib.Core.Bool.{Bool, true, false, ◌&&◌}
use mathlib.Core.List.{List, [], ◌∷◌}
use Prim.Native.Nat.{ℕ, zero, suc, ◌+◌, ◌-◌, ◌<◌, ◌≤◌}
use native.Mathlib.Omega.{arith}
use lib.Dec.{eqb, leb}
use lib.ListN.{length, get_or, take, drop, length-drop}
use borrow.Author.Tests.{eqb-true, eqb-false, leb-true, le-leb, eq-eqb}
use Rattle.term_spec.specs.Numbers.{big_endian}
use Rattle.term_spec.specs.Answer.{Answer, good, refused, Position, at_offset, Reading, after, done}
use Rattle.term_spec.specs.Head.{Given, any, forms, form_in, form_or, form, fields, term_head, parts, characters, elements, pairs}
use Rattle.term_spec.specs.Head as head_spec
use Rattle.term_spec.specs.Reading.{empty_108, opening}
use Rattle.term_spec.proofs.Bridge.{byte_at, byte_end, number_at, number_end}
use Rattle.term_spec.proofs.Holds.{Holds, weaken, done_holds, refused_holds}
use Rattle.term_spec.proofs.Tests.{both_true, by_less}
use Rattle.term_head.specs.declared.Wanted.{Wanted}
use Rattle.term_head.specs.declared.Wanted.TheVariants.{Any, Atom, Arity}
use Rattle.term_head.specs.declared.Head.{Head}
use Rattle.term_head.specs.declared.Opening.{Opening}
use Rattle.term_spec.specs.declared.Refusal.{Refusal}
use Rattle.std.specs.Prelude.{Some, None, Result, Ok, Err}
use Rattle.std.proofs.Common.{◌⊎◌, inl, inr}
use Rattle.term_head.specs.Code.{head_of, opening_of, wanted_of, allowed, empty_at, ElementsAt, Skipped}
use Rattle.term_head.proofs.HeadFacts.{no_108, other_tag, not_108}

module _ (m : List ℕ) (p : ℕ) where
  pub empty_count : (n : ℕ) → 5 ≤ length m - p → get_or m p 0 ≡ 108 → n ≡ big_endian (take 4 (drop (p + 1) m)) → eqb n 0 ≡ empty_at m p
  unfolding empty_at
  empty_count n h e f = rw (le-leb 5 (length m - p) h, eq-eqb (get_or m p 0) 108 e, f)

  -- a 108 with n elements stands here
  record ListOf (n : ℕ) : Type 0 where
    there : 5 ≤ length m - p
    tag_is : get_or m p 0 ≡ 108
    count_is : n ≡ big_endian (take 4 (drop (p + 1) m))

  empty_is : empty_at m p ≡ true → ListOf 0
  unfolding empty_at
  empty_is e =
      let b = both_true (leb 5 (length m - p) && eqb (get_or m p 0) 108) (eqb (big_endian (take 4 (drop (p + 1) m))) 0) e in
      let c = both_true (leb 5 (length m - p)) (eqb (get_or m p 0) 108) b.0 in
      record { there = leb-true 5 (length m - p) c.0; tag_is = eqb-true _ _ c.1; count_is = sym (eqb-true _ _ b.1) }

  pub empty_inside : empty_at m p ≡ true → p + 5 ≤ length m
  empty_inside e = let i = empty_is e in omega (arith, i.there)

  module _ (given : Given) (rows : ℕ) where
    -- the head of a 106, and of a 108
    pub nil_here : p < length m → eqb (get_or m p 0) 106 ≡ true → term_head given any (at_offset m p rows) ≡ good (characters [], at_offset m (p + 1) rows)
    unfolding term_head form form_or form_in forms fields
    nil_here inside e = rw (byte_at m p p rows inside, eqb-true (get_or m p 0) 106 e)

    list_here : (n : ℕ) → ListOf n → term_head given any (at_offset m p rows) ≡ good (elements n, at_offset m (p + 5) rows)
    unfolding term_head form form_or form_in forms fields
    list_here n i =
        let there : 5 ≤ length m - p = i.there in
        rw (byte_at m p p rows (omega arith), i.tag_is, number_at m p 4 (p + 1) rows (omega arith), ← i.count_is)
        (ap (λ (k : ℕ). good (elements n, at_offset m k rows)) (omega arith))

    -- one such 108 is passed
    empty_step : (bound : List ℕ) → length m - p ≤ length bound → empty_at m p ≡ true
        → (rest : List ℕ) × (length m - (p + 5) ≤ length rest) × (opening given bound any (at_offset m p rows) ≡ opening given rest any (at_offset m (p + 5) rows))
    unfolding opening
    empty_step [] h e = let i = empty_is e in absurd (omega (arith, i.there))
    empty_step (b ∷ bound) h e = (bound, omega arith, rw (list_here 0 (empty_is e)))

    -- no other head has elements
    list_only : Holds (term_head given any (at_offset m p rows)) (λ h _. (n : ℕ) → h ≡ elements n → ListOf n)
    unfolding wanted_of term_head form form_or form_in forms fields
    list_only = go (eqb (get_or m p 0) 108) refl
      where
        go : (b : Bool) → eqb (get_or m p 0) 108 ≡ b → Holds (term_head given any (at_offset m p rows)) (λ h _. (n : ℕ) → h ≡ elements n → ListOf n)
        go true t =
            let tag : get_or m p 0 ≡ 108 = eqb-true (get_or m p 0) 108 t in
            by_less p (length m)
            (λ inside.
            by_less (length m) (p + 5)
            (λ short. rw (byte_at m p p rows inside, tag, number_end m p 4 (p + 1) rows (omega arith) (omega arith)) (refused_holds 2 p))
            (λ long.
            rw (byte_at m p p rows inside, tag, number_at m p 4 (p + 1) rows (omega arith))
            (done_holds _ _ (λ n e. record { there = omega arith; tag_is = tag; count_is = cc }))))
            (λ over. rw (byte_end m p p rows over) (refused_holds 2 p))
        go false t =
            weaken (λ h _. no_108 h ≡ true) (other_tag given m p rows Any (λ _. eqb-false (get_or m p 0) 108 t))
            (λ h _ x n e.
            let y : no_108 (elements n) ≡ true = rw e at x in
            let z : ◌≡◌ {A = ℕ} 0 1 = cc in absurd (omega arith))

    -- no such 108
    head_full : empty_at m p ≡ false → Holds (term_head given any (at_offset m p rows)) (λ h _. empty_108 h ≡ false)
    head_full e = weaken (λ h _. (n : ℕ) → h ≡ elements n → ListOf n) list_only (λ h _ told. go h told)
      where
        go : (h : head_spec.Head) → ((n : ℕ) → h ≡ elements n → ListOf n) → empty_108 h ≡ false
        go (parts ws n l) told = refl
        go (characters cs) told = refl
        go (elements zero) told =
            let i = told 0 refl in
            let d : true ≡ empty_at m p = empty_count 0 i.there i.tag_is i.count_is in
            let y : ◌≡◌ {A = ℕ} 0 1 = cc in absurd (omega arith)
        go (elements (suc n)) told = refl
        go (pairs n) told = refl

  -- ---- `elements_at`

  elements_none : ((n : ℕ) → ListOf n → ⊥) → ElementsAt m p None
  elements_none f =
      record { inside = λ n e. absurd (cc); some = λ n e. absurd (cc); none = λ _ given rows k t e. f k ((list_only given rows).known (elements k) t e k refl) }

  pub elements_short : length m - p < 5 → ElementsAt m p None
  elements_short h = elements_none (λ n i. omega (arith, i.there))

  pub elements_other : (get_or m p 0 ≡ 108 → ⊥) → ElementsAt m p None
  elements_other f = elements_none (λ n i. f i.tag_is)

  pub elements_count : (n : ℕ) → 5 ≤ length m - p → get_or m p 0 ≡ 108 → n ≡ big_endian (take 4 (drop (p + 1) m)) → ElementsAt m p (Some n)
  elements_count n h e f =
      record {
        inside = λ _ _. omega arith;
        some = λ k d given rows. let i : k ≡ n = cc in list_here given rows k (record { there = h; tag_is = e; count_is = i ∙ f });
        none = λ z. absurd (cc);
      }

  -- ---- `empty_list_at`, by what `elements_at` answers of any given

  module _ (given : Given) where
    none_empty : (b : Bool) → empty_at m p ≡ b → ElementsAt m p None → false ≡ b
    none_empty false e i = refl
    none_empty true e i = absurd (i.none refl given 0 0 _ (list_here given 0 0 (empty_is e)))

    pub empty_none : ElementsAt m p None → false ≡ empty_at m p
    empty_none i = none_empty (empty_at m p) refl i

    pub empty_some : (n : ℕ) → ElementsAt m p (Some n) → eqb n 0 ≡ empty_at m p
    empty_some n i =
        let j : ListOf n = (list_only given 0).known (elements n) _ (i.some n refl given 0) n refl in
        empty_count n j.there j.tag_is j.count_is

-- 108s of length 0 from `at` on are passed up to `place`
abbrev pub Passed : List ℕ → ℕ → ℕ → Type 0
Passed m at place =
    (given : Given) (rows : ℕ) (bound : List ℕ) → length m - at ≤ length bound
    → (rest : List ℕ) × (length m - place ≤ length rest) × (opening given bound any (at_offset m at rows) ≡ opening given rest any (at_offset m place rows))

pub passed_none : (m : List ℕ) (at : ℕ) → Passed m at at
passed_none m at = λ given rows bound h. (bound, h, refl)

pub passed_more : (m : List ℕ) (at place : ℕ) → Passed m at place → empty_at m place ≡ true → Passed m at (place + 5)
passed_more m at place o e =
    λ given rows bound h.
    let x = o given rows bound h in
    let y = empty_step m place given rows x.0 x.1 e in
    (y.0, y.1, x.2 ∙ y.2)

module _ (given : Given) (m : List ℕ) (at rows : ℕ) (w : head_spec.Wanted) where
  -- an opening with no such 108 is its head
  plain_opening : (bound : List ℕ) → length m - at ≤ length bound → Holds (term_head given w (at_offset m at rows)) (λ h _. empty_108 h ≡ false)
      → opening given bound w (at_offset m at rows) ≡ after (term_head given w (at_offset m at rows)) (λ h. done (at, h))
  unfolding opening term_head
  plain_opening [] h f = rw (byte_end m at at rows (omega arith))
  plain_opening (b ∷ bound) h f = go (term_head given w (at_offset m at rows)) f
    where
      go : (o : Answer (head_spec.Head × Position)) → Holds o (λ h _. empty_108 h ≡ false)
          → after {B = ℕ × head_spec.Head} o (λ h. elim (empty_108 h) as (λ _. Reading (ℕ × head_spec.Head)) [ true ↦ opening given bound any | false ↦ done (at, h) ]) ≡ after o (λ h. done (at, h))
      go (good x) f =
          ap (λ (t : Bool). (elim t as (λ _. Reading (ℕ × head_spec.Head)) [ true ↦ opening given bound any | false ↦ done (at, x.0) ]) x.1)
          (f.known x.0 x.1 refl)
      go (refused n p) f = refl

-- a head with the offset of its tag; a refusal with its own place
abbrev pub opened_at : ℕ → Result Head Refusal → Result Opening Refusal
opened_at at (Ok h) = Ok (record { place = at; head = h })
opened_at at (Err x) = Err x

opened_is : (at : ℕ) (o : Answer (head_spec.Head × Position)) → opened_at at (head_of o) ≡ opening_of (after o (λ h. done (at, h)))
unfolding head_of opening_of
opened_is at (good x) = refl
opened_is at (refused n p) = refl

-- past 108s of length 0 the first head is the opening
module _ (given : Given) (m : List ℕ) (at place rows : ℕ) (s : Skipped m at place) where
  pub skipped_head : Holds (term_head given any (at_offset m place rows)) (λ h _. empty_108 h ≡ false)
  skipped_head = head_full m place given rows s.stops

  pub skipped_opens : opening given (drop at m) any (at_offset m at rows) ≡ after (term_head given any (at_offset m place rows)) (λ h. done (place, h))
  skipped_opens =
      let x = s.opens given rows (drop at m) (simp length-drop (omega arith)) in
      x.2 ∙ plain_opening given m place rows any x.0 x.1 skipped_head

pub skipped_here : (m : List ℕ) (at place : ℕ) → Skipped m at place → Skipped m place place
skipped_here m at place s = record { from = omega arith; inside = s.inside; stops = s.stops; opens = passed_none m place }

-- where an opening that is so wanted has its tag: past 108s of length 0, or at once
abbrev pub TagAt : List ℕ → ℕ → Wanted → ℕ → Type 0
TagAt m at w place = ((w ≡ Any) × Skipped m at place) ⊎ ((w ≡ Any → ⊥) × (place ≡ at))

module _ (given : Given) (m : List ℕ) (at rows : ℕ) where
  opening_any : (place : ℕ) → Skipped m at place
      → opened_at place (head_of (term_head given (wanted_of Any) (at_offset m place rows))) ≡ opening_of (opening given (drop at m) (wanted_of Any) (at_offset m at rows))
  unfolding wanted_of
  opening_any place s = opened_is place (term_head given any (at_offset m place rows)) ∙ ap opening_of (sym (skipped_opens given m at place rows s))

  opening_only : (w : Wanted) → allowed w 108 ≡ false
      → opened_at at (head_of (term_head given (wanted_of w) (at_offset m at rows))) ≡ opening_of (opening given (drop at m) (wanted_of w) (at_offset m at rows))
  opening_only w e =
      let y = plain_opening given m at rows (wanted_of w) (drop at m) (simp length-drop (omega arith)) (not_108 given m at rows w (λ a t.
      let b : allowed w 108 ≡ true = rw t at a in
      let z : ◌≡◌ {A = ℕ} 0 1 = cc in omega arith)) in
      opened_is at (term_head given (wanted_of w) (at_offset m at rows)) ∙ ap opening_of (sym y)

  no_108_wanted : (w : Wanted) → (w ≡ Any → ⊥) → allowed w 108 ≡ false
  unfolding allowed
  no_108_wanted Any f = absurd (f refl)
  no_108_wanted Atom f = refl
  no_108_wanted Arity f = refl

  pub opening_at : (w : Wanted) (place : ℕ) (hd : Result Head Refusal) → TagAt m at w place → hd ≡ head_of (term_head given (wanted_of w) (at_offset m place rows))
      → opened_at place hd ≡ opening_of (opening given (drop at m) (wanted_of w) (at_offset m at rows))
  opening_at w place hd (inl x) e = rw (e, x.0) (opening_any place x.1)
  opening_at w place hd (inr x) e = rw (e, x.1) (opening_only w (no_108_wanted w x.0))
