-- `mix_byte` meets its contract: one law for each answer.
use mathlib.Core.Path.{refl}
use Rattle.row_compare.proofs.Hashes.{byte_plain, byte_low, byte_high}
use Rattle.row_compare.proofs.mix_byte.Goals as goal
use Rattle.row_compare.proofs.mix_byte.Goals.{else-latin1-via-then-latin1+else-c-ge128, else-latin1-via-else-latin1}

pub returns-then-c-ge128 : goal.returns-then-c-ge128
returns-then-c-ge128 c = (byte_high _ _ _ _ _ c.if-latin1.true c.if-c-ge128.true c.requires.2 _ refl c.mix_two.ensures.0, c.mix_two.ensures.1)

pub returns : goal.returns
returns c = (
  elim c.else-latin1.branch [
    | else-latin1-via-then-latin1+else-c-ge128 w ↦ byte_low _ _ _ _ _ w.if-latin1.true w.if-c-ge128.false c.mix.ensures.0
    | else-latin1-via-else-latin1 w ↦ byte_plain _ _ _ _ _ w.if-latin1.false c.mix.ensures.0
  ],
  c.mix.ensures.1,
)
