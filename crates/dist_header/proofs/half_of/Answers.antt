-- `half_of` meets its contract.
use mathlib.Core.Path.{ap, ◌∙◌}
use Prim.Native.Nat.{ℕ, ◌/◌, ◌%◌}
use native.Mathlib.Omega.{arith}
use Rattle.dist_header.proofs.Standing.{half_low, half_high}
use Rattle.dist_header.proofs.half_of.Goals as goal

pub returns-then-k-eq0 : goal.returns-then-k-eq0
returns-then-k-eq0 c = let a = c.args in (
  ap (λ (b : ℕ). b % 16) c.from-flags.ensures ∙ half_low a.packet.now a.at a.i.0 c.if-k-eq0.true,
  omega arith,
)

pub returns-else-k-eq0 : goal.returns-else-k-eq0
returns-else-k-eq0 c = let a = c.args in (
  ap (λ (b : ℕ). b / 16) c.from-flags.ensures ∙ half_high a.packet.now a.at a.i.0 c.if-k-eq0.false,
  omega arith,
)
