-- `put_latin1` meets its contract. The loop has written the characters gone over.
use mathlib.Core.Path.{◌≡◌, ◌∙◌, ap}
use Prim.Native.Nat.{ℕ, ◌+◌, ◌-◌}
use native.Mathlib.Omega.{arith}
use lib.ListN.{length, take, drop}
use lib.Seq.{sets}
use Rattle.term_spec.specs.Text.{encode, encodes}
use Rattle.octets.proofs.Parts.{length_part, get_or_part}
use Rattle.text.proofs.Latin1.{encodes_none, length_more, room_for, put_more}
use Rattle.text.proofs.put_latin1.Goals as goal

pub loop-c-init : goal.loop-c-init
loop-c-init c = let a = c.args in (omega (arith, ap length (encodes_none a.src.now a.a)), rw (encodes_none a.src.now a.a))

pub put_character-end-requires : goal.put_character-end-requires
put_character-end-requires c = let a = c.args in
    let i : ℕ = c.loop-c.c-index in
    let long = length_part a.src.now a.a (a.a + a.n - a.a) (omega arith) in
    let e = ap (λ (b : ℕ). length (encode b)) (get_or_part 0 a.src.now a.a (a.a + a.n - a.a) i (omega arith)) in
    omega (arith, e, room_for a.src.now a.a i a.n (omega arith) (omega arith))

pub loop-c-preserved : goal.loop-c-preserved
loop-c-preserved c = let a = c.args in
    let l = c.loop-c in
    let i : ℕ = l.c-index in
    let long = length_part a.src.now a.a (a.a + a.n - a.a) (omega arith) in
    let x = get_or_part 0 a.src.now a.a (a.a + a.n - a.a) i (omega arith) in
    let p = c.put_character-end.ensures in (
      omega (arith, ap (λ (b : ℕ). length (encode b)) x, length_more a.src.now a.a i (omega arith)),
      put_more a.src.now a.a a.dst.now _ _ a.b i l.end (omega arith) l.invariant.0 l.invariant.1 (p.1 ∙ ap (λ (b : ℕ). sets l.dst l.end (encode b)) x),
    )

pub returns : goal.returns
returns c = let a = c.args in
    let l = c.loop-c in
    let long = length_part a.src.now a.a (a.a + a.n - a.a) (omega arith) in
    let e : l.c-index ≡ a.n = omega arith in (
      omega (arith, ap (λ (n : ℕ). length (encodes (take n (drop a.a a.src.now)))) e),
      l.invariant.1 ∙ ap (λ (n : ℕ). sets a.dst.now a.b (encodes (take n (drop a.a a.src.now)))) e,
    )
