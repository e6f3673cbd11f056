-- A count, then that many bytes: the fields of all forms that have them, by their end.
use mathlib.Core.Path.{◌≡◌}
use mathlib.Core.List.{List}
use Prim.Native.Nat.{ℕ, ◌+◌, ◌-◌, ◌<◌}
use native.Mathlib.Omega.{arith}
use lib.ListN.{length, take, drop}
use Rattle.term_spec.specs.Answer.{Answer, refused, Position, Reading, after, number, bytes, at_offset}
use Rattle.term_spec.specs.Head as head_spec
use Rattle.term_spec.proofs.Bridge.{number_at, number_end, bytes_at, bytes_end}
use Rattle.term_spec.proofs.Tests.{by_less}
use Rattle.std.specs.Prelude.{Some, None}
use Rattle.octets.specs.Parts.{value, counted_end}
use Rattle.octets.proofs.Counted.{past_some, past_none}

-- n in w bytes, then n bytes, of which, with the first one's offset, k makes a head
module _ (m : List ℕ) (at w rows : ℕ) (inside : at < length m) (k : ℕ → List ℕ → Reading head_spec.Head) where
  abbrev plain : Answer (head_spec.Head × Position)
  plain = after (number at w (at_offset m (at + 1) rows)) (λ n. λ s. after (bytes at n s) (k s.at))

  pub plain_cut : None ≡ counted_end m at w 0 → plain ≡ refused 2 at
  plain_cut e =
      let short = past_none m at w 0 e in
      by_less (length m) (at + 1 + w) (λ less. rw (number_end m at w (at + 1) rows (omega arith) (omega arith)))
      (λ over. rw (number_at m at w (at + 1) rows (omega arith), bytes_end m at (value m w (at + 1)) (at + 1 + w) rows (omega arith) (omega arith)))

  pub plain_there : {end : ℕ} → Some end ≡ counted_end m at w 0
      → plain ≡ k (at + 1 + w) (take (end - (at + 1 + w)) (drop (at + 1 + w) m)) (at_offset m end rows)
  plain_there {end} e =
      let there = past_some m at w 0 e in
      let c : end - (at + 1 + w) ≡ value m w (at + 1) = omega (arith, there.0) in
      let d : end ≡ at + 1 + w + value m w (at + 1) = omega (arith, there.0) in
      rw (c, d, number_at m at w (at + 1) rows (omega (arith, there.1)), bytes_at m at (value m w (at + 1)) (at + 1 + w) rows (omega (arith, there.1)))

-- n in w bytes, then a byte x, then n bytes
module _ (m : List ℕ) (at w rows : ℕ) (inside : at < length m) (k : ℕ → ℕ → List ℕ → Reading head_spec.Head) where
  abbrev marked : Answer (head_spec.Head × Position)
  marked = after (number at w (at_offset m (at + 1) rows)) (λ n. λ s. after (number at 1 s) (λ x. λ t. after (bytes at n t) (k n x)))

  pub marked_cut : None ≡ counted_end m at w 1 → marked ≡ refused 2 at
  marked_cut e =
      let short = past_none m at w 1 e in
      by_less (length m) (at + 1 + w) (λ less. rw (number_end m at w (at + 1) rows (omega arith) (omega arith)))
      (λ over.
      by_less (length m) (at + 1 + w + 1)
      (λ less. rw (number_at m at w (at + 1) rows (omega arith), number_end m at 1 (at + 1 + w) rows (omega arith) (omega arith)))
      (λ more.
      rw (
        number_at m at w (at + 1) rows (omega arith),
        number_at m at 1 (at + 1 + w) rows (omega arith),
        bytes_end m at (value m w (at + 1)) (at + 1 + w + 1) rows (omega arith) (omega arith),
      )))

  pub marked_there : {end : ℕ} → Some end ≡ counted_end m at w 1
      → marked ≡ k (end - (at + 1 + w + 1)) (value m 1 (at + 1 + w)) (take (end - (at + 1 + w + 1)) (drop (at + 1 + w + 1) m)) (at_offset m end rows)
  marked_there {end} e =
      let there = past_some m at w 1 e in
      let c : end - (at + 1 + w + 1) ≡ value m w (at + 1) = omega (arith, there.0) in
      rw (
        c,
        there.0,
        number_at m at w (at + 1) rows (omega (arith, there.1)),
        number_at m at 1 (at + 1 + w) rows (omega (arith, there.1)),
        bytes_at m at (value m w (at + 1)) (at + 1 + w + 1) rows (omega (arith, there.1)),
      )
