-- Steps over pairs: where they lead, from a row and from a mark.
use mathlib.Core.Path.{◌≡◌, refl, sym, ◌∙◌}
use mathlib.Core.Bool.{Bool, true, false, cond}
use mathlib.Core.List.{List}
use Prim.Native.Nat.{ℕ, zero, suc, ◌+◌, ◌-◌, ◌≤◌, ◌<◌}
use native.Mathlib.Omega.{arith}
use lib.Dec.{eqb, leb, ltb}
use lib.ListN.{length, get_or, set}
use lib.Seq.{get_or-set_same, get_or-set_other}
use borrow.Author.Count.{below_more}
use borrow.Author.Tests.{le-leb, lt-leb, le-ltb, eq-eqb, ne_eqb, eqb-false, leb-false}
use Rattle.term_spec.proofs.Tests.{never, by_less}
use Rattle.term_rows.specs.Rows.{pair_size}
use Rattle.map_keys.specs.Compare.{leads_steps, leads, at_key}
use Rattle.map_keys.specs.Marks.{Reached, here, next, Marks, MarkOf, no_mark, a_mark}

module _ (T : List ℕ) where
  steps_ended : (n at row : ℕ) → row ≤ at → leads_steps T n at row ≡ eqb at row
  unfolding leads_steps
  steps_ended zero at row l = refl
  steps_ended (suc n) at row l = rw (le-leb row at l)

  -- as many steps as are enough lead to the same
  steps_enough : (n m at row : ℕ) → row - at ≤ n → row - at ≤ m → leads_steps T n at row ≡ leads_steps T m at row
  unfolding leads_steps
  steps_enough zero m at row h k = sym (steps_ended m at row (omega arith))
  steps_enough (suc n) zero at row h k = steps_ended (suc n) at row (omega arith)
  steps_enough (suc n) (suc m) at row h k =
      by_less at row
      (λ l. rw (lt-leb row at l) (go (eqb (pair_size T at) 0) refl (λ some. steps_enough n m (at + pair_size T at) row (omega arith) (omega arith))))
      (λ l. rw (le-leb row at l))
    where
      go : (z : Bool) → eqb (pair_size T at) 0 ≡ z → ((pair_size T at ≡ 0 → ⊥) → leads_steps T n (at + pair_size T at) row ≡ leads_steps T m (at + pair_size T at) row)
          → cond z false (leads_steps T n (at + pair_size T at) row) ≡ cond z false (leads_steps T m (at + pair_size T at) row)
      go true e f = refl
      go false e f = f (eqb-false (pair_size T at) 0 e)

  module _ (at row : ℕ) where
    leads_ended : row ≤ at → leads T at row ≡ eqb at row
    unfolding leads
    leads_ended l = steps_ended (row - at) at row l

    leads_stuck : at < row → pair_size T at ≡ 0 → leads T at row ≡ false
    unfolding leads leads_steps
    leads_stuck l e = let s : row - at ≡ suc (row - at - 1) = omega arith in rw (s, lt-leb row at l, eq-eqb (pair_size T at) 0 e)

    pub leads_later : at < row → (pair_size T at ≡ 0 → ⊥) → leads T at row ≡ leads T (at + pair_size T at) row
    unfolding leads leads_steps
    leads_later l e =
        let s : row - at ≡ suc (row - at - 1) = omega arith in
        rw (s, lt-leb row at l, ne_eqb (pair_size T at) 0 e) (steps_enough (row - at - 1) (row - (at + pair_size T at)) (at + pair_size T at) row (omega arith) (omega arith))

    -- no step leads back
    pub leads_from : leads T at row ≡ true → at ≤ row
    leads_from e = by_less row at (λ l. never (sym (leads_ended (omega arith) ∙ ne_eqb at row (λ z. omega arith)) ∙ e)) (λ l. l)

    leads_next : at + pair_size T at ≤ row → leads T at row ≡ leads T (at + pair_size T at) row
    leads_next l =
        by_less 0 (pair_size T at)
        (λ g. leads_later (omega arith) (λ z. omega arith))
        (λ g. let e : at + pair_size T at ≡ at = omega arith in rw e)

  -- from a row that is reached on the way it is the same
  leads_reached : {b at : ℕ} → Reached T b at → (row : ℕ) → at ≤ row → leads T b row ≡ leads T at row
  leads_reached here row l = refl
  leads_reached (next {at} r) row l = leads_reached r row (omega arith) ∙ leads_next at row l

  pub reached_trans : {b at row : ℕ} → Reached T b at → Reached T at row → Reached T b row
  reached_trans r here = r
  reached_trans r (next s) = next (reached_trans r s)

  pub reached_next : {b at : ℕ} (z : ℕ) → Reached T b at → z ≡ pair_size T at → Reached T b (at + z)
  reached_next z r e = rw e (next r)

  -- ---- leads_to

  module _ (from at row : ℕ) (h : leads T at row ≡ leads T from row) where
    pub led_end : row ≤ at → eqb at row ≡ leads T from row
    led_end l = sym (leads_ended at row l) ∙ h

    module _ (l : at < row) (z : ℕ) (e : z ≡ pair_size T at) where
      pub led_stuck : z ≡ 0 → false ≡ leads T from row
      led_stuck f = sym (leads_stuck at row l (sym e ∙ f)) ∙ h

      pub led_on : (z ≡ 0 → ⊥) → leads T (at + z) row ≡ leads T from row
      led_on f = rw e (sym (leads_later at row l (λ g. f (e ∙ g))) ∙ h)

  -- ---- marks

  -- one more is stored
  pub mark_more : (b at i : ℕ) (M : List ℕ) → i < length M → Reached T b at → ((k : ℕ) → k < i → Reached T b (get_or M k 0)) → (k : ℕ) → k < i + 1 → Reached T b (get_or (set M i at) k 0)
  mark_more b at i M l r f =
      below_more (λ (k : ℕ). Reached T b (get_or (set M i at) k 0)) i
      (λ k h. let other : k ≡ i → ⊥ = omega arith in rw (get_or-set_other M i k at 0 other) (f k h))
      (rw (get_or-set_same M i at 0 l) r)

  module _ {b : ℕ} {M : List ℕ} (h : Marks T b M) where
    mark_reached : {at : ℕ} → MarkOf M b at → Reached T b at
    mark_reached no_mark = here
    mark_reached (a_mark i e) = h.reached i e

    -- ---- at_key

    pub key_led : (end at row : ℕ) (r : Bool) → b ≤ row → row < end → MarkOf M b at → at ≤ row → r ≡ leads T at row → r ≡ at_key T b end row
    unfolding at_key
    key_led end at row r l g m k e = e ∙ rw (le-ltb row b l, lt-leb end row g) (sym (leads_reached (mark_reached m) row k))

  module _ (b end row : ℕ) where
    pub key_parts : at_key T b end row ≡ true → (row < end) × (leads T b row ≡ true)
    unfolding at_key
    key_parts e = go (ltb row b) (leb end row) refl e
      where
        go : (s t : Bool) → leb end row ≡ t → cond s false (cond t false (leads T b row)) ≡ true → (row < end) × (leads T b row ≡ true)
        go true t f g = never g
        go false true f g = never g
        go false false f g = (leb-false end row f, g)

-- ---- mark_before

pub mark_here : (M : List ℕ) (b i m : ℕ) → m ≡ get_or M i 0 → i < length M → MarkOf M b m
mark_here M b i m e l = rw e (a_mark i l)
