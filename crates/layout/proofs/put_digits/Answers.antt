-- `put_digits` meets its contract. The first of the number's eight bytes.
use mathlib.Core.Path.{◌∙◌, ap, ap₂}
use mathlib.Core.List.{List}
use Prim.Native.Nat.{ℕ}
use lib.ListN.{take}
use lib.Seq.{sets}
use native.Mathlib.Omega.{arith}
use Rattle.layout.proofs.Digits.{word_low}
use Rattle.layout.proofs.put_digits.Goals as goal

pub returns : goal.returns
returns c = let args = c.args in
    record {
      past = omega (arith, c.count_digits-count.ensures.0);
      stored =
          c.put_bytes.ensures
          ∙ ap (λ (bs : List ℕ). sets args.out.now args.at bs)
          (ap₂ (λ (k : ℕ) (bs : List ℕ). take k bs) c.count_digits-count.ensures.0 c.to_le_bytes.ensures ∙ word_low _ (omega arith));
    }
