-- The steps of reading at an offset of a slice: what the tests of the code decide. After these no proof of code sees the bytes left as a list.
use mathlib.Core.Path.{◌≡◌, sym, ap, ap₂}
use mathlib.Core.List.{List, []}
use Prim.Native.Nat.{ℕ, zero, suc, ◌+◌, ◌≤◌, ◌<◌}
use native.Mathlib.Numerals.{add-one}
use native.Mathlib.Omega.{arith}
use lib.ListN.{length, get_or, take, drop, drop_of_length-le}
use lib.Seq.{drop-cons}
use Rattle.term_spec.specs.Numbers.{big_endian}
use Rattle.term_spec.specs.Answer.{good, refused, at_offset, byte, bytes, number}
use Rattle.term_spec.proofs.Tests.{by_less}

module _ (s : List ℕ) where
  pub byte_at : (p at r : ℕ) → at < length s → byte p (at_offset s at r) ≡ good (get_or s at 0, at_offset s (at + 1) r)
  byte_at p at r h = rw (drop-cons s at 0, add-one)

  pub byte_end : (p at r : ℕ) → length s ≤ at → byte p (at_offset s at r) ≡ refused 2 p
  byte_end p at r h = rw (drop_of_length-le s h)

  -- n bytes are there
  pub bytes_at : (p n at r : ℕ) → at + n ≤ length s → bytes p n (at_offset s at r) ≡ good (take n (drop at s), at_offset s (at + n) r)
  unfolding bytes
  bytes_at p zero at r h = ap (λ (k : ℕ). good ([], at_offset s k r)) (omega arith)
  bytes_at p (suc n) at r h =
      rw (byte_at p at r (omega arith), bytes_at p n (at + 1) r (omega arith))
      (ap₂ (λ (bs : List ℕ) (k : ℕ). good (bs, at_offset s k r)) (sym (rw (drop-cons s at 0 (omega arith), add-one))) (omega arith))

  -- or they end
  pub bytes_end : (p n at r : ℕ) → at ≤ length s → length s < at + n → bytes p n (at_offset s at r) ≡ refused 2 p
  unfolding bytes
  bytes_end p zero at r h k = absurd (omega arith)
  bytes_end p (suc n) at r h k =
      by_less at (length s)
      (λ less. rw (byte_at p at r less, bytes_end p n (at + 1) r (omega arith) (omega arith)))
      (λ over. rw (byte_end p at r over))

  -- a number is there, or its bytes end
  pub number_at : (p n at r : ℕ) → at + n ≤ length s → number p n (at_offset s at r) ≡ good (big_endian (take n (drop at s)), at_offset s (at + n) r)
  unfolding number
  number_at p n at r h = rw (bytes_at p n at r h)

  pub number_end : (p n at r : ℕ) → at ≤ length s → length s < at + n → number p n (at_offset s at r) ≡ refused 2 p
  unfolding number
  number_end p n at r h k = rw (bytes_end p n at r h k)
