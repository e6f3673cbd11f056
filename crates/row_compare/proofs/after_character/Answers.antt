-- `after_character` meets its contract: one law for each answer.
use mathlib.Core.Path.{sym, ◌∙◌}
use native.Mathlib.Omega.{arith}
use Rattle.row_compare.proofs.Lists.{spelled_low, not_spelled_low, spelled_high, not_spelled_high}
use Rattle.row_compare.proofs.after_character.Goals as goal
use Rattle.row_compare.proofs.after_character.Goals.{else-bytes-gt0-via-then-bytes-gt0+else-from-c, else-bytes-gt0-via-else-bytes-gt0, else-bytes-gt1-via-then-bytes-gt1+then-from-c-2+else-from-c-3, else-bytes-gt1-via-then-bytes-gt1+else-from-c-2, else-bytes-gt1-via-else-bytes-gt1}

pub returns-then-from-c : goal.returns-then-from-c
returns-then-from-c c = spelled_low _ _ c.if-c-lt128.true c.if-bytes-gt0.true (sym c.from.ensures ∙ c.if-from-c.true)

pub returns-then-c-lt128 : goal.returns-then-c-lt128
returns-then-c-lt128 c =
    not_spelled_low _ _ c.if-c-lt128.true
    (λ some e.
    elim c.else-bytes-gt0.branch [
      | else-bytes-gt0-via-then-bytes-gt0+else-from-c w ↦ w.if-from-c.false (w.from.ensures ∙ e)
      | else-bytes-gt0-via-else-bytes-gt0 w ↦ omega (arith, some, w.if-bytes-gt0.false)
    ])

pub returns-then-from-c-3 : goal.returns-then-from-c-3
returns-then-from-c-3 c =
    spelled_high _ _ c.if-c-lt128.false c.requires c.if-bytes-gt1.true (sym c.from-then-bytes-gt1.ensures ∙ c.if-from-c-2.true) (sym c.from-then-from-c-2.ensures ∙ c.if-from-c-3.true)

pub returns : goal.returns
returns c =
    not_spelled_high _ _ c.if-c-lt128.false c.requires
    (λ two e f.
    elim c.else-bytes-gt1.branch [
      | else-bytes-gt1-via-then-bytes-gt1+then-from-c-2+else-from-c-3 w ↦ w.if-from-c-3.false (w.from-then-from-c-2.ensures ∙ f)
      | else-bytes-gt1-via-then-bytes-gt1+else-from-c-2 w ↦ w.if-from-c-2.false (w.from-then-bytes-gt1.ensures ∙ e)
      | else-bytes-gt1-via-else-bytes-gt1 w ↦ omega (arith, two, w.if-bytes-gt1.false)
    ])
