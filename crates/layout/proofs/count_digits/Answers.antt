-- `count_digits` meets its contract. By the highest bit that is set.
use native.Mathlib.Omega.{arith}
use Rattle.layout.proofs.Digits.{word_digits}
use Rattle.layout.proofs.count_digits.Goals as goal

pub returns : goal.returns
returns c = word_digits _ (omega arith)
