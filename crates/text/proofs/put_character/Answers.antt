-- `put_character` meets its contract. One store, or two.
use native.Mathlib.Omega.{arith}
use lib.ListN.{length-set}
use Rattle.text.proofs.Latin1.{length_high}
use Rattle.text.proofs.put_character.Goals as goal

pub bounds-dst-at-3 : goal.bounds-dst-at-3
bounds-dst-at-3 c = simp length-set (omega (arith, length_high c.args.b (omega arith) (omega arith)))
