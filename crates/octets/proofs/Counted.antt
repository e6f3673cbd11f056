-- A count, then that many bytes: all there, or cut.
use mathlib.Core.Path.{◌≡◌, refl}
use mathlib.Core.List.{List}
use Prim.Native.Nat.{ℕ, ◌+◌, ◌≤◌, ◌<◌}
use native.Mathlib.Omega.{arith}
use lib.ListN.{length}
use borrow.Author.Tests.{le-leb, lt-leb}
use Rattle.std.proofs.Common.{Some, None}
use Rattle.term_spec.proofs.Tests.{by_less}
use Rattle.octets.specs.Parts.{value, counted_end}

module _ (m : List ℕ) (at w b : ℕ) where
  abbrev past : ℕ
  past = at + 1 + w + b + value m w (at + 1)

  pub past_there : (n : ℕ) → n ≡ value m w (at + 1) → at + 1 + w + b + n ≤ length m → Some (at + 1 + w + b + n) ≡ counted_end m at w b
  unfolding counted_end
  past_there n e h = let g : past ≤ length m = omega arith in rw (le-leb past (length m) g, e)

  pub past_cut : length m < past → None ≡ counted_end m at w b
  unfolding counted_end
  past_cut h = rw (lt-leb past (length m) h)

  -- what an answer says
  pub past_some : {r : ℕ} → Some r ≡ counted_end m at w b → (r ≡ past) × (past ≤ length m)
  past_some {r} e =
      by_less (length m) past (λ short. let c = past_cut short in absurd (cc)) (λ there. let c = past_there _ refl there in let same : r ≡ past = cc in (same, there))

  pub past_none : None ≡ counted_end m at w b → length m < past
  past_none e = by_less (length m) past (λ short. short) (λ there. let c = past_there _ refl there in absurd (cc))
