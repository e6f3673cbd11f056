-- `copy` meets its contract. The loop has stored the first i bytes of the part.
use mathlib.Core.Path.{◌≡◌, refl, ap, ◌∙◌}
use mathlib.Core.List.{List}
use Prim.Native.Nat.{ℕ, ◌+◌}
use native.Mathlib.Omega.{arith}
use lib.ListN.{get_or, set, take, drop, length-set}
use lib.Seq.{sets}
use Rattle.octets.proofs.Stores.{copied_more}
use Rattle.octets.proofs.copy.Goals as goal

pub loop-i-init : goal.loop-i-init
loop-i-init c = (refl, refl)

pub loop-i-preserved : goal.loop-i-preserved
loop-i-preserved c = let a = c.args in
    let l = c.loop-i in (
      ap (λ (x : List ℕ). set x (a.b + l.i) (get_or a.src.now (a.a + l.i) 0)) l.invariant.0
          ∙ copied_more a.dst.now a.b a.src.now a.a l.i 0 (omega arith),
      simp length-set l.invariant.1,
    )

pub returns : goal.returns
returns c = let a = c.args in
    let l = c.loop-i in
    let e : l.i ≡ a.n = omega arith in
    l.invariant.0 ∙ ap (λ (n : ℕ). sets a.dst.now a.b (take n (drop a.a a.src.now))) e
