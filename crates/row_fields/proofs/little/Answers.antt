-- `little` meets its contract.
use Prim.Native.Nat.{◌+◌, ◌-◌}
use native.Mathlib.Omega.{arith}
use Rattle.row_fields.proofs.Digits.{summed_more}
use Rattle.row_fields.proofs.little.Goals as goal

pub loop-k-preserved : goal.loop-k-preserved
loop-k-preserved c =
    summed_more _ _ _ _ _ _ c.loop-k.invariant c.loop-k-test.true c.from.ensures (omega (arith, c.type_inv.msg (c.args.start + (c.loop-k.k - 1)))) c.requires.0
