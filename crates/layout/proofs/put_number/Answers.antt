-- `put_number` meets its contract. The last of the value's eight bytes.
use mathlib.Core.Path.{◌≡◌, ◌∙◌, ap, ap₂}
use mathlib.Core.List.{List}
use Prim.Native.Nat.{ℕ, ◌-◌}
use native.Mathlib.Omega.{arith}
use lib.ListN.{take, drop}
use lib.Seq.{sets}
use Rattle.term_spec.proofs.Numbers.{length_in_bytes}
use Rattle.octets.proofs.Numbers.{last_part}
use Rattle.layout.proofs.put_number.Goals as goal

pub returns : goal.returns
returns c = let args = c.args in
    let w : args.n.width ≡ 8 - (8 - args.n.width) = omega arith in
    record {
      past = omega (arith, length_in_bytes args.n.width args.n.value);
      stored =
          c.put_bytes.ensures
          ∙ ap (λ (bs : List ℕ). sets args.out.now args.at bs)
          (ap₂ (λ (k : ℕ) (bs : List ℕ). take k (drop (8 - args.n.width) bs)) w c.to_be_bytes.ensures ∙ last_part _ _ c.requires.0);
    }
