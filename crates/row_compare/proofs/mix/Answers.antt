-- `mix` meets its contract: one law for each answer.
use native.Mathlib.Omega.{arith}
use Prim.Native.Nat.{◌+◌, ◌/◌, ◌%◌}
use Rattle.row_compare.proofs.Hashes.{product_below, odd_mixed, even_mixed}
use Rattle.row_compare.proofs.mix.Goals as goal

pub overflow_add-product : goal.overflow_add-product
overflow_add-product c = omega arith

pub overflow_mul-product : goal.overflow_mul-product
overflow_mul-product c = omega (arith, product_below ((c.args.h + c.args.x / 4294967296) % 4294967296) c.args.factor (omega arith) c.requires.0)

pub overflow_add-result : goal.overflow_add-result
overflow_add-result c = omega (arith, product_below ((c.args.h + c.args.x / 4294967296) % 4294967296) c.args.factor (omega arith) c.requires.0)

pub returns-then-factor-eq1 : goal.returns-then-factor-eq1
returns-then-factor-eq1 c = (odd_mixed _ _ _ c.if-factor-eq1.true, omega arith)

pub overflow_add-result-2 : goal.overflow_add-result-2
overflow_add-result-2 c = omega (arith, product_below ((c.args.h + c.args.x / 4294967296) % 4294967296) c.args.factor (omega arith) c.requires.0)

pub returns : goal.returns
returns c = (even_mixed _ _ _ c.if-factor-eq1.false, omega arith)
