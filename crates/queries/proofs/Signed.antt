-- The bits of a float.
use mathlib.Core.Path.{◌≡◌, sym, ◌∙◌, subst}
use mathlib.Core.Bool.{Bool, not}
use Prim.Native.Nat.{ℕ, ◌%◌, ◌<◌, ◌≤◌, ◌^◌}
use native.Mathlib.Omega.{arith}
use lib.Dec.{T}
use lib.Ieee.{binary64, nan_bits, of_bits, to_bits}
use lib.Ieee.Bits.{nan_bits_above, nan_bits_is, to_bits-of_bits}
use borrow.Author.Tests.{le-ltb}

-- a pattern whose 63 low bits are below infinity's is no NaN's
pub no_nan : (n : ℕ) → n % 9223372036854775808 < 9218868437227405312 → T (not (nan_bits binary64 n))
no_nan n h =
    let l : n % 9223372036854775808 ≤ 9218868437227405312 = omega arith in
    subst (λ (b : Bool). T (not b)) (sym (nan_bits_above binary64 n ∙ le-ltb 9218868437227405312 (n % 9223372036854775808) l)) tt

-- the float of such a pattern has exactly those 64 bits
pub exact_bits : (n : ℕ) → n < 2 ^ 64 → n % 9223372036854775808 < 9218868437227405312 → to_bits binary64 (of_bits binary64 n) ≡ n
exact_bits n h k = to_bits-of_bits binary64 n h (subst (λ (b : Bool). T (not b)) (nan_bits_is binary64 n) (no_nan n k))
