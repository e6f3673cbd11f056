-- Where a key goes among others: one law for each way through the function that finds it.
use mathlib.Core.Path.{◌≡◌, refl, sym, subst, ◌∙◌}
use mathlib.Core.Bool.{Bool, true, false}
use mathlib.Core.List.{List}
use Prim.Native.Nat.{ℕ, ◌+◌, ◌-◌, ◌≤◌, ◌<◌}
use native.Mathlib.Omega.{arith}
use lib.ListN.{length, get_or, take, drop}
use lib.Seq.{get_or-take, length-take-le}
use Rattle.term_spec.specs.Order.{compare_lists}
use Rattle.term_spec.specs.Canonical.{canonical}
use Rattle.term_spec.specs.Reading.{as_read}
use Rattle.term_spec.proofs.Order.{lists_flipped, either_way}
use Rattle.term_spec.proofs.Tests.{by_less}
use Rattle.key_order.specs.Code.{TwoFit, Before, Compared, KeysFit, PlaceFound}

-- the place is at `high` or before it, and past those before `low`
pub record Halving (m places lengths T R S : List ℕ) (n key : ℕ) (O P : List ℕ) (low high : ℕ) : Type 0 where
  pub ordered : low ≤ high
  pub within : high ≤ n
  pub left : 0 < low → Before m places lengths T R (get_or S (low - 1) 0) key
  pub right : high < n → Before m places lengths T R key (get_or S high 0)
  pub long : length P ≡ length O
  pub past : (total : ℕ) → KeysFit m places lengths T R S n key total → drop total P ≡ drop total O

module _ {m places lengths T R : List ℕ} where
  -- what a comparison says: one may stand before the other, or the other before it
  stands_before : {a b : ℕ} {O P : List ℕ} {r : Bool} → Compared m places lengths T R a b O r P → r ≡ true → Before m places lengths T R a b
  stands_before c e = λ t u x y. sym (c.told t u x y) ∙ e

  stands_after : {a b : ℕ} {O P : List ℕ} {r : Bool} → Compared m places lengths T R a b O r P → r ≡ false → Before m places lengths T R b a
  stands_after c e =
      λ u t y x.
      let f : List ℕ = canonical (as_read t) in
      let g : List ℕ = canonical (as_read u) in
      either_way (compare_lists f g) (compare_lists g f) (lists_flipped f g) (sym (c.told t u x y) ∙ e)

  module _ {S : List ℕ} {n key : ℕ} where
    pub fit_at : {room free : ℕ} (i x : ℕ) → KeysFit m places lengths T R S n key room → i < n → x ≡ get_or S i 0 → free ≡ room → TwoFit m places lengths T R x key free
    fit_at i x f l e g = rw (e, g) (f.each_fits i l)

    -- ---- the first of them

    module _ (short : n ≤ length S) where
      pub taken_fit : {room : ℕ} → KeysFit m places lengths T R S n key room → KeysFit m places lengths T R (take n S) (length (take n S)) key room
      taken_fit {room} f =
          let e = length-take-le n S short in
          record {
            all_there = omega arith;
            each_fits = λ i l.
                let h : i < n = omega arith in
                subst (λ (y : ℕ). TwoFit m places lengths T R y key room) (sym (get_or-take n S i 0 h)) (f.each_fits i h);
          }

      pub taken_place : {O P : List ℕ} {r : ℕ} → PlaceFound m places lengths T R (take n S) (length (take n S)) key O r P → PlaceFound m places lengths T R S n key O r P
      taken_place {r = r} p =
          let e = length-take-le n S short in
          let b : r ≤ length (take n S) = p.inside in
          record {
            inside = omega arith;
            after_last = λ l. subst (λ (y : ℕ). Before m places lengths T R y key) (get_or-take n S (r - 1) 0 (omega arith)) (p.after_last l);
            before_next = λ l. subst (λ (y : ℕ). Before m places lengths T R key y) (get_or-take n S r 0 l) (p.before_next (omega arith));
            past_keys = λ total f. p.past_keys total (taken_fit f);
          }

    -- ---- by halving

    module _ {O : List ℕ} where
      pub halving_start : Halving m places lengths T R S n key O O 0 n
      halving_start =
          record { ordered = omega arith; within = omega arith; left = λ l. absurd (omega arith); right = λ l. absurd (omega arith); long = refl; past = λ total f. refl }

      module _ {P : List ℕ} {low high : ℕ} (h : Halving m places lengths T R S n key O P low high) where
        pub halving_end : high ≤ low → PlaceFound m places lengths T R S n key O low P
        halving_end l =
            let o : low ≤ high = h.ordered in
            let b : high ≤ n = h.within in
            let e : high ≡ low = omega arith in
            record {
              inside = omega arith;
              after_last = h.left;
              before_next = λ k. subst (λ (i : ℕ). Before m places lengths T R key (get_or S i 0)) e (h.right (omega arith));
              past_keys = h.past;
            }

        module _ {Q : List ℕ} {x : ℕ} {r : Bool} (l : low < high) (middle : ℕ) (a : low ≤ middle) (b : middle < high)
            (e : x ≡ get_or S middle 0) (c : Compared m places lengths T R x key P r Q) (g : length Q ≡ length P) where
          past_more : (total : ℕ) → KeysFit m places lengths T R S n key total → drop total Q ≡ drop total O
          past_more total f = let d : high ≤ n = h.within in c.past_both total (fit_at middle x f (omega arith) e refl) ∙ h.past total f

          pub halving_up : r ≡ true → Halving m places lengths T R S n key O Q (middle + 1) high
          halving_up t =
              let f : middle + 1 - 1 ≡ middle = omega arith in
              record {
                ordered = omega arith;
                within = h.within;
                left = λ _. rw f (subst (λ (y : ℕ). Before m places lengths T R y key) e (stands_before c t));
                right = h.right;
                long = g ∙ h.long;
                past = past_more;
              }

          pub halving_down : r ≡ false → Halving m places lengths T R S n key O Q low middle
          halving_down t =
              let d : high ≤ n = h.within in
              record {
                ordered = a;
                within = omega arith;
                left = h.left;
                right = λ _. subst (λ (y : ℕ). Before m places lengths T R key y) e (stands_after c t);
                long = g ∙ h.long;
                past = past_more;
              }

    -- ---- the last first

    pub no_keys : {O : List ℕ} → n ≡ 0 → PlaceFound m places lengths T R S n key O 0 O
    no_keys e = record { inside = omega arith; after_last = λ l. absurd (omega arith); before_next = λ l. absurd (omega arith); past_keys = λ total f. refl }

    pub all_but_last : {room free : ℕ} → KeysFit m places lengths T R S n key room → free ≡ room → KeysFit m places lengths T R S (n - 1) key free
    all_but_last f g =
        let a : n ≤ length S = f.all_there in
        record { all_there = omega arith; each_fits = λ i l. rw g (f.each_fits i (omega arith)) }

    module _ {O P : List ℕ} {x : ℕ} {r : Bool} (l : (n ≡ 0 → ⊥)) (e : x ≡ get_or S (n - 1) 0) (c : Compared m places lengths T R x key O r P) where
      past_one : (total : ℕ) → KeysFit m places lengths T R S n key total → drop total P ≡ drop total O
      past_one total f = c.past_both total (fit_at (n - 1) x f (omega arith) e refl)

      pub goes_last : r ≡ true → PlaceFound m places lengths T R S n key O n P
      goes_last t =
          record {
            inside = omega arith;
            after_last = λ _. subst (λ (y : ℕ). Before m places lengths T R y key) e (stands_before c t);
            before_next = λ k. absurd (omega arith);
            past_keys = past_one;
          }

      -- its place among the others is its place among all
      pub goes_before : {i : ℕ} {Q : List ℕ} → r ≡ false → PlaceFound m places lengths T R S (n - 1) key P i Q → PlaceFound m places lengths T R S n key O i Q
      goes_before {i} t p =
          let b : i ≤ n - 1 = p.inside in
          record {
            inside = omega arith;
            after_last = p.after_last;
            before_next = λ _. by_less i (n - 1) (λ k. p.before_next k)
                (λ k.
                let f : n - 1 ≡ i = omega arith in
                subst (λ (j : ℕ). Before m places lengths T R key (get_or S j 0)) f (subst (λ (y : ℕ). Before m places lengths T R key y) e (stands_after c t)));
            past_keys = λ total f. p.past_keys total (all_but_last f refl) ∙ past_one total f;
          }
