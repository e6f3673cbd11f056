-- `big` meets its contract. The number of the bytes gone over, by `big_more`.
use mathlib.Core.Path.{refl, ap₂, ◌∙◌}
use Prim.Native.Nat.{ℕ, ◌+◌, ◌*◌, ◌-◌}
use native.Mathlib.Omega.{arith}
use Rattle.term_spec.specs.Numbers.{big_endian}
use Rattle.octets.proofs.Parts.{length_part, get_or_part}
use Rattle.octets.proofs.Numbers.{big_more, short_more, short_7}
use Rattle.octets.proofs.big.Goals as goal

pub loop-b-init : goal.loop-b-init
unfolding big_endian
loop-b-init g c = (refl, omega arith)

pub overflow_mul-n : goal.overflow_mul-n
overflow_mul-n g c = let a = c.args in
    let l = length_part a.s.now a.at (a.at + g.row.W - a.at) (omega arith) in
    omega (arith, short_7 c.loop-b.n c.loop-b.b-index c.loop-b.invariant.1 (omega arith))

pub loop-b-preserved : goal.loop-b-preserved
loop-b-preserved g c = let a = c.args in
    let i : ℕ = c.loop-b.b-index in
    let l = length_part a.s.now a.at (a.at + g.row.W - a.at) (omega arith) in
    let e = c.from.ensures ∙ get_or_part 0 a.s.now a.at _ i (omega arith) in (
      ap₂ (λ (x y : ℕ). x * 256 + y) c.loop-b.invariant.0 e ∙ big_more a.s.now a.at i (omega arith),
      short_more c.loop-b.n i c.from.result c.loop-b.invariant.1 (omega (arith, c.type_inv.s (a.at + i))),
    )
