-- A number put into a list at an index: those from there on move one up, the last first.
use mathlib.Core.Path.{◌≡◌, refl, sym, ap, ◌∙◌}
use mathlib.Core.Logic.{◌≢◌}
use mathlib.Core.List.{List, [], ◌∷◌, ◌++◌}
use Prim.Native.Nat.{ℕ, zero, suc, ◌+◌, ◌-◌, ◌≤◌, ◌<◌}
use native.Mathlib.Omega.{arith}
use lib.ListN.{length, get_or, set, take, drop, length-set, length-append}
use lib.Seq.{sets, sets-eq, take_at, take-take, take-nil, length-take-le, get_or-set_other}
use Rattle.octets.specs.Parts.{stretch}
use Rattle.octets.proofs.Parts.{part_cons, length_part}
use Rattle.octets.proofs.Stores.{set_before}

-- the rows from i up to n stand one further up
pub record Moved (L : List ℕ) (n at i : ℕ) (S : List ℕ) : Type 0 where
  pub from : at ≤ i
  pub to : i ≤ n
  pub stored : S ≡ sets L (i + 1) (stretch L i (n - i))
  pub long : length S ≡ length L

-- what stands before a run of stores stays
getD_before : (l a : List ℕ) (i k : ℕ) → k < i → get_or (sets l i a) k 0 ≡ get_or l k 0
getD_before l [] i k h = refl
getD_before l (x ∷ a) i k h = let n : k ≢ i = omega arith in getD_before (set l i x) a (suc i) k (omega arith) ∙ get_or-set_other l i k x 0 n

pub moved_none : (L : List ℕ) (n at : ℕ) → at ≤ n → Moved L n at n L
moved_none L n at h = let e : n - n ≡ 0 = omega arith in record { from = h; to = omega arith; stored = rw e; long = refl }

module _ {L : List ℕ} {n at i : ℕ} {S : List ℕ} (h : Moved L n at i S) where
  pub moved_more : n < length L → at < i → Moved L n at (i - 1) (set S i (get_or S (i - 1) 0))
  moved_more k l =
      let b : i ≤ n = h.to in
      let e : i - 1 + 1 ≡ i = omega arith in
      let f : n - (i - 1) - 1 ≡ n - i = omega arith in
      let x : get_or S (i - 1) 0 ≡ get_or L (i - 1) 0 = ap (λ (s : List ℕ). get_or s (i - 1) 0) h.stored ∙ getD_before L (stretch L i (n - i)) (i + 1) (i - 1) (omega arith) in
      let part : stretch L (i - 1) (n - (i - 1)) ≡ get_or L (i - 1) 0 ∷ stretch L i (n - i)
      = part_cons L (i - 1) (n - (i - 1)) (omega arith) (omega arith) ∙ rw (e, f) in
      record {
        from = omega arith;
        to = omega arith;
        stored = rw (x, e, part) (ap (λ (s : List ℕ). set s i (get_or L (i - 1) 0)) h.stored ∙ set_before L i (get_or L (i - 1) 0) (stretch L i (n - i)));
        long = length-set S i (get_or S (i - 1) 0) ∙ h.long;
      }

  pub moved_end : (key : ℕ) → i ≤ at → set S at key ≡ sets L at (key ∷ stretch L at (n - at))
  moved_end key l =
      let b : at ≤ i = h.from in
      let e : i ≡ at = omega arith in
      let s : S ≡ sets L (at + 1) (stretch L at (n - at)) = rw e at h.stored in
      ap (λ (s : List ℕ). set s at key) s ∙ set_before L at key (stretch L at (n - at))

drop_take : (l : List ℕ) (n at : ℕ) → drop at (take n l) ≡ take (n - at) (drop at l)
drop_take l n zero = let e : n - 0 ≡ n = omega arith in rw e
drop_take [] n (suc at) = ap (drop (suc at)) (take-nil {A = ℕ} n) ∙ sym (take-nil {A = ℕ} (n - suc at))
drop_take (x ∷ l) zero (suc at) = let e : 0 - suc at ≡ 0 = omega arith in rw e
drop_take (x ∷ l) (suc n) (suc at) = let e : suc n - suc at ≡ n - at = omega arith in rw e (drop_take l n at)

-- the first rows after it
pub one_put : (L : List ℕ) (n at key : ℕ) → at ≤ n → n < length L
    → take (n + 1) (sets L at (key ∷ stretch L at (n - at))) ≡ take at (take n L) ++ (key ∷ drop at (take n L))
one_put L n at key h k =
    let vs : List ℕ = key ∷ stretch L at (n - at) in
    let a : length (stretch L at (n - at)) ≡ n - at = length_part L at (n - at) (omega arith) in
    let b : length (take at L) ≡ at = length-take-le at L (omega arith) in
    let c : length (take at L ++ vs) ≡ n + 1 = length-append (take at L) vs ∙ omega arith in
    ap (take (n + 1)) (sets-eq vs L at (omega arith))
    ∙ take_at (take at L ++ vs) (drop (at + length vs) L) (n + 1) c
    ∙ rw (take-take at n L h, drop_take L n at)
