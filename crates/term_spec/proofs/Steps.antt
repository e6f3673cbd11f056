-- What single steps of reading find at the beginning of known bytes.
use mathlib.Core.Path.{◌≡◌, ap}
use mathlib.Core.List.{List, [], ◌∷◌, ◌++◌}
use Prim.Native.Nat.{ℕ, ◌+◌, ◌^◌, ◌<◌}
use native.Mathlib.Omega.{arith}
use lib.ListN.{length}
use Rattle.term_spec.specs.Numbers.{in_bytes}
use Rattle.term_spec.specs.Answer.{Answer, good, Position, bytes, number}
use Rattle.term_spec.proofs.Numbers.{length_in_bytes, big_in_bytes}

abbrev pub spot : ℕ → List ℕ → ℕ → Position
spot at left rows = record { at = at; left = left; rows_taken = rows }

-- the same finding, up to the offset where it ends
pub ends_at : {A : Type 0} (a : A) (rest : List ℕ) (rows m n : ℕ) → m ≡ n → ◌≡◌ {A = Answer (A × Position)} (good (a, spot m rest rows)) (good (a, spot n rest rows))
ends_at a rest rows m n e = ap (λ (x : ℕ). good (a, spot x rest rows)) e

pub bytes_append : (p : ℕ) (xs rest : List ℕ) (at rows : ℕ)
    → bytes p (length xs) (spot at (xs ++ rest) rows) ≡ good (xs, spot (at + length xs) rest rows)
unfolding bytes
bytes_append p [] rest at rows = ends_at [] rest rows _ _ (omega arith)
bytes_append p (x ∷ xs) rest at rows = rw (bytes_append p xs rest (at + 1) rows) (ends_at (x ∷ xs) rest rows _ _ (omega arith))

-- the same, where the count is known another way
pub bytes_of : (p n : ℕ) (xs rest : List ℕ) (at rows : ℕ) → length xs ≡ n
    → bytes p n (spot at (xs ++ rest) rows) ≡ good (xs, spot (at + n) rest rows)
bytes_of p n xs rest at rows e = rw (← e) (bytes_append p xs rest at rows)

-- one fact over the width: a number that fits its bytes is read back
pub number_of : (p k n : ℕ) (rest : List ℕ) (at rows : ℕ) → n < 256 ^ k
    → number p k (spot at (in_bytes k n ++ rest) rows) ≡ good (n, spot (at + k) rest rows)
unfolding number
number_of p k n rest at rows h =
    rw (bytes_of p k (in_bytes k n) rest at rows (length_in_bytes k n))
    (ap (λ (m : ℕ). good (m, spot (at + k) rest rows)) (big_in_bytes k n h))
