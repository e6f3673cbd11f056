-- Two terms compared: by their canonical forms written one after the other, or where they stand in the message.
use mathlib.Core.Path.{◌≡◌, refl, sym, ap, ap₂, ◌∙◌}
use mathlib.Core.Bool.{Bool}
use mathlib.Core.List.{List, ◌++◌}
use Prim.Native.Nat.{ℕ, ◌+◌, ◌-◌, ◌≤◌}
use native.Mathlib.Omega.{arith}
use lib.ListN.{length, get_or, take, drop, length-append}
use Rattle.term_spec.specs.Order.{not_greater, compare_lists}
use Rattle.term_spec.specs.Canonical.{canonical}
use Rattle.term_spec.specs.Reading.{Located, as_read}
use Rattle.term_spec.specs.Rows.{offset_in}
use Rattle.octets.specs.Parts.{stretch}
use Rattle.octets.proofs.Stores.{part_sets, take_sets, take_before, drop_after}
use Rattle.layout.specs.Layout.{Put}
use Rattle.layout.proofs.Puts.{put_then, put_length}
use Rattle.term_writer.specs.InTable.{TermInTable}
use Rattle.term_writer.specs.Code.{TermPut, TermFits}
use Rattle.key_order.specs.Code.{FormStands, Ready, TwoFit, Compared}

module _ {m places lengths T R : List ℕ} {a b : ℕ} where
  -- ---- written

  pub first_fits : {room : ℕ} → TwoFit m places lengths T R a b room → TermFits m places lengths T a R canonical room 0
  first_fits f =
      let g : length (canonical (as_read f.first)) + length (canonical (as_read f.second)) ≤ _ = f.both_fit in
      record { fit_term = f.first; fit_held = f.first_ready.held; fit_ordered = f.first_ready.ordered; fit_room = omega arith }

  module _ {O P : List ℕ} {first : ℕ} (f : TwoFit m places lengths T R a b (length O)) (p : TermPut m places lengths T a R canonical O 0 first P) where
    first_put : Put O 0 (canonical (as_read f.first)) first P
    first_put = p f.first f.first_ready.held f.first_ready.ordered

    pub second_fits : TermFits m places lengths T b R canonical (length P) first
    second_fits =
        let g : length (canonical (as_read f.first)) + length (canonical (as_read f.second)) ≤ length O = f.both_fit in
        let n : first ≡ 0 + length (canonical (as_read f.first)) = first_put.past in
        let k : length P ≡ length O = put_length first_put in
        record { fit_term = f.second; fit_held = f.second_ready.held; fit_ordered = f.second_ready.ordered; fit_room = omega arith }

    module _ {Q : List ℕ} {second : ℕ} (q : TermPut m places lengths T b R canonical P first second Q) where
      second_put : Put P first (canonical (as_read f.second)) second Q
      second_put = q f.second f.second_ready.held f.second_ready.ordered

      pub both_there : (first ≤ second) × (second ≤ length Q)
      both_there =
          let g : length (canonical (as_read f.first)) + length (canonical (as_read f.second)) ≤ length O = f.both_fit in
          let n : first ≡ 0 + length (canonical (as_read f.first)) = first_put.past in
          let i : second ≡ first + length (canonical (as_read f.second)) = second_put.past in
          let k : length P ≡ length O = put_length first_put in
          let l : length Q ≡ length P = put_length second_put in
          (omega arith, omega arith)

      first_is : (t u : Located) → Ready m places lengths T R a t → Ready m places lengths T R b u → stretch Q 0 first ≡ canonical (as_read t)
      first_is t u x y =
          let v = p t x.held x.ordered in
          let w = q u y.held y.ordered in
          let e : first ≡ 0 + length (canonical (as_read t)) = v.past in
          let c = both_there in
          let k : length P ≡ length O = put_length first_put in
          let l : length Q ≡ length P = put_length second_put in
          ap (λ (s : List ℕ). take first s) w.stored
          ∙ take_before P (canonical (as_read u)) first first (omega arith)
          ∙ ap (λ (s : List ℕ). take first s) v.stored
          ∙ take_sets O (canonical (as_read t)) first (omega arith) (omega arith)

      second_is : (u : Located) → Ready m places lengths T R b u → stretch Q first (second - first) ≡ canonical (as_read u)
      second_is u y =
          let w = q u y.held y.ordered in
          let e : second ≡ first + length (canonical (as_read u)) = w.past in
          let c = both_there in
          let l : length Q ≡ length P = put_length second_put in
          ap (λ (s : List ℕ). stretch s first (second - first)) w.stored
          ∙ part_sets P (canonical (as_read u)) first (second - first) (omega arith) (omega arith)

      past_them : (total : ℕ) → TwoFit m places lengths T R a b total → drop total Q ≡ drop total O
      past_them total g =
          let t : List ℕ = canonical (as_read g.first) in
          let u : List ℕ = canonical (as_read g.second) in
          let room : length t + length u ≤ total = g.both_fit in
          let n = length-append t u in
          let both : Put O 0 (t ++ u) second Q
          = put_then (p g.first g.first_ready.held g.first_ready.ordered) (q g.second g.second_ready.held g.second_ready.ordered) in
          ap (drop total) both.stored ∙ drop_after O (t ++ u) 0 total (omega arith)

      pub compared_written : (r : Bool) → r ≡ not_greater (compare_lists (stretch Q 0 first) (stretch Q first (second - first)))
          → Compared m places lengths T R a b O r Q
      compared_written r e =
          record {
            told = λ t u x y. e ∙ ap₂ (λ (v w : List ℕ). not_greater (compare_lists v w)) (first_is t u x y) (second_is u y);
            past_both = past_them;
          }

  -- ---- where they stand

  module _ {n k : ℕ} (p : (places lengths : List ℕ) (t : Located) → TermInTable m places lengths T a t → FormStands m T a n t)
      (q : (places lengths : List ℕ) (t : Located) → TermInTable m places lengths T b t → FormStands m T b k t)
      (x y : ℕ) (e : x ≡ offset_in (get_or T a 0)) (f : y ≡ offset_in (get_or T b 0)) where
    pub forms_there : {room : ℕ} → TwoFit m places lengths T R a b room → (x + n ≤ length m) × (y + k ≤ length m)
    forms_there g =
        (rw e (p places lengths g.first g.first_ready.held).form_there, rw f (q places lengths g.second g.second_ready.held).form_there)

    pub compared_standing : (O : List ℕ) (r : Bool) → r ≡ not_greater (compare_lists (stretch m x n) (stretch m y k)) → Compared m places lengths T R a b O r O
    compared_standing O r h =
        record {
          told = λ t u v w.
              h
              ∙ ap₂ (λ (s z : List ℕ). not_greater (compare_lists s z))
              (ap (λ (i : ℕ). stretch m i n) e ∙ sym (p places lengths t v.held).form_is)
              (ap (λ (i : ℕ). stretch m i k) f ∙ sym (q places lengths u w.held).form_is);
          past_both = λ total g. refl;
        }
