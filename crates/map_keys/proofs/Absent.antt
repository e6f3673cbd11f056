-- A key that is absent from the set, which has those that are equal to it on its path, is new.
use mathlib.Core.Path.{◌≡◌, refl, sym, ◌∙◌, ap}
use mathlib.Core.Bool.{Bool, true, false, cond}
use mathlib.Core.List.{List}
use Prim.Native.Nat.{ℕ, zero, suc, ◌+◌, ◌-◌, ◌<◌}
use native.Mathlib.Omega.{arith}
use lib.Dec.{eqb, leb}
use lib.ListN.{length, get_or, set}
use borrow.Author.Tests.{leb-false}
use Rattle.term_spec.specs.Rows.{whole_in}
use Rattle.term_spec.proofs.Tests.{never}
use Rattle.term_rows.specs.Rows.{pair_size}
use Rattle.map_keys.specs.Path.{slot}
use Rattle.map_keys.specs.Compare.{among_steps, among_from}
use Rattle.map_keys.specs.KeySet.{Contains, key_hashes, same_terms_raw, among_rows, Absent, ContainsFrom, ContainsBefore, ContainsOrInsert}
use Rattle.map_keys.proofs.Slots.{keeps_set, contains_set}

module _ (m places lengths T : List ℕ) where
  module _ (first key : ℕ) (L : List ℕ) {i : ℕ} (u : Absent m places lengths T first key L i) where
    not_same : (at : ℕ) → whole_in (get_or T at 0) ≡ first → Contains L (key_hashes m places lengths T first key) at → same_terms_raw m places lengths T L key at ≡ true → ⊥
    not_same at p k e =
        let hs : ℕ → ℕ = key_hashes m places lengths T first key in
        let w = k.stands u.free.step u.free.on_path (ap (λ (x : ℕ). get_or L x 0) (sym u.free.place_is) ∙ u.free.is_empty) in
        let q : slot L hs w.0 ≡ at + 1 = w.2 in
        let s : slot L hs w.0 - 1 ≡ at = omega arith in
        let d : same_terms_raw m places lengths T L key at ≡ false
        = ap (same_terms_raw m places lengths T L key) (sym s) ∙ u.others w.0 w.1 (ap (λ (x : ℕ). whole_in (get_or T x 0)) s ∙ p) in
        never (sym d ∙ e)

    none_same : (n at : ℕ) → ContainsFrom m places lengths T first key L n at → among_steps T (same_terms_raw m places lengths T L) n at key ≡ false
    unfolding among_steps ContainsFrom
    none_same zero at g = refl
    none_same (suc n) at g = go (leb key at) refl (λ l. none_same n (at + pair_size T at) (g l).2)
      where
        later : at < key → (s z : Bool) → same_terms_raw m places lengths T L key at ≡ s → among_steps T (same_terms_raw m places lengths T L) n (at + pair_size T at) key ≡ false
            → cond s true (cond z false (among_steps T (same_terms_raw m places lengths T L) n (at + pair_size T at) key)) ≡ false
        later l true z e r = absurd (not_same at (g l).0 ((g l).1 e) e)
        later l false true e r = refl
        later l false false e r = r

        go : (t : Bool) → leb key at ≡ t → (at < key → among_steps T (same_terms_raw m places lengths T L) n (at + pair_size T at) key ≡ false)
            → cond t false (cond (same_terms_raw m places lengths T L key at) true (cond (eqb (pair_size T at) 0) false (among_steps T (same_terms_raw m places lengths T L) n (at + pair_size T at) key))) ≡ false
        go true e r = refl
        go false e r = let l : at < key = leb-false key at e in later l (same_terms_raw m places lengths T L key at) (eqb (pair_size T at) 0) refl (r l)

  absent_none : (first key : ℕ) (L : List ℕ) (i : ℕ) → Absent m places lengths T first key L i → ContainsBefore m places lengths T first key L
      → false ≡ among_rows m places lengths T L first key
  unfolding among_from
  absent_none first key L i u g = sym (go (leb (length T) key))
    where
      go : (t : Bool) → cond t false (among_steps T (same_terms_raw m places lengths T L) (key - first) first key) ≡ false
      go true = refl
      go false = none_same first key L u (key - first) first g

  -- it is inserted in the slot that was found
  pub absent_inserted : (first key : ℕ) (L : List ℕ) (i : ℕ) → Absent m places lengths T first key L i → i < length L
      → ContainsOrInsert m places lengths T first key L false (set L i (key + 1))
  absent_inserted first key L i u l =
      let hs : ℕ → ℕ = key_hashes m places lengths T first key in
      record { keys_kept = keeps_set L hs key u.free l; judged = absent_none first key L i u; inserted = λ _. contains_set L hs key u.free l }
