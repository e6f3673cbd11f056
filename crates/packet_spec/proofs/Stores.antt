-- A stretch that is stored, and what stays.
use mathlib.Core.Path.{◌≡◌, sym, ◌∙◌, ap}
use mathlib.Core.List.{List, [], ◌∷◌, ◌++◌}
use Prim.Native.Nat.{ℕ, zero, suc, ◌+◌, ◌-◌, ◌≤◌}
use native.Mathlib.Nat.{zero-add, suc-add}
use native.Mathlib.Omega.{arith}
use lib.ListN.{length, take, drop, replicate, length-append, length-replicate}
use lib.Seq.{sets, sets-eq, take_at, take-append_seam, length-take-le}
use Rattle.octets.proofs.Stores.{take_before}
use Rattle.packet_spec.specs.Calls.{zeros_to}

module _ {A : Type 0} where
  -- a stretch of a list is the end of a shorter start
  take_drop : (k j : ℕ) (l : List A) → take k (drop j l) ≡ drop j (take (j + k) l)
  take_drop k zero l = rw zero-add
  take_drop zero (suc j) [] = rw (suc-add j 0)
  take_drop (suc k) (suc j) [] = rw (suc-add j (suc k))
  take_drop k (suc j) (x ∷ xs) = rw (suc-add j k) (take_drop k j xs)

  -- what stands before a stretch that is stored stays
  pub sets_before_at : (vs l : List A) (i j k : ℕ) → j + k ≤ i → take k (drop j (sets l i vs)) ≡ take k (drop j l)
  sets_before_at vs l i j k h = take_drop k j (sets l i vs) ∙ ap (drop j) (take_before l vs i (j + k) h) ∙ sym (take_drop k j l)

  -- with what is before it, it is what was stored
  pub sets_joined : (vs l : List A) (i : ℕ) → i + length vs ≤ length l → take (i + length vs) (sets l i vs) ≡ take i l ++ vs
  sets_joined vs l i h =
      rw (sets-eq vs l i h)
      (take_at (take i l ++ vs) (drop (i + length vs) l) (i + length vs)
      (length-append (take i l) vs ∙ ap (λ (n : ℕ). n + length vs) (length-take-le i l (omega arith))))

pub length_zeros_to : (n : ℕ) (bs : List ℕ) → length bs ≤ n → length (zeros_to n bs) ≡ n
unfolding zeros_to
length_zeros_to n bs h = rw (length-append, length-replicate) (omega arith)

pub take_zeros_to : (n : ℕ) (bs : List ℕ) → take (length bs) (zeros_to n bs) ≡ bs
unfolding zeros_to
take_zeros_to n bs = take-append_seam bs (replicate (n - length bs) 0)
