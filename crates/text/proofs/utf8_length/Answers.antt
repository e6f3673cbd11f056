-- `utf8_length` meets its contract. The loop has counted the bytes of the characters gone over.
use mathlib.Core.Path.{◌≡◌, ◌∙◌, ap}
use Prim.Native.Nat.{ℕ, ◌+◌, ◌-◌}
use native.Mathlib.Omega.{arith}
use lib.ListN.{length, take, drop}
use Rattle.term_spec.specs.Text.{encode, encodes}
use Rattle.octets.proofs.Parts.{length_part, get_or_part}
use Rattle.text.proofs.Latin1.{encodes_none, length_more}
use Rattle.text.proofs.utf8_length.Goals as goal

pub loop-b-init : goal.loop-b-init
loop-b-init c = let a = c.args in (omega (arith, ap length (encodes_none a.s.now a.at)), omega arith)

pub loop-b-preserved : goal.loop-b-preserved
loop-b-preserved c = let a = c.args in
    let i : ℕ = c.loop-b.b-index in
    let long = length_part a.s.now a.at (a.at + a.n - a.at) (omega arith) in
    let e = ap (λ (b : ℕ). length (encode b)) (get_or_part 0 a.s.now a.at (a.at + a.n - a.at) i (omega arith)) in
    (omega (arith, e, length_more a.s.now a.at i (omega arith)), omega arith)

pub returns : goal.returns
returns c = let a = c.args in
    let long = length_part a.s.now a.at (a.at + a.n - a.at) (omega arith) in
    let e : c.loop-b.b-index ≡ a.n = omega arith in
    (c.loop-b.invariant.0 ∙ ap (λ (n : ℕ). length (encodes (take n (drop a.at a.s.now)))) e, omega arith)
