-- `same_part` meets its contract: parts that are there are compared.
use Rattle.row_compare.specs.Same.{same_part}
use Rattle.row_compare.proofs.Lists.{same_by}
use Rattle.row_fields.proofs.Tests.{yes_way}
use Rattle.row_compare.proofs.same_part.Goals as goal

pub returns : goal.returns
unfolding same_part
returns c =
    yes_way _ c.inside.ensures.0 c.if-not-inside.false
    (yes_way _ c.inside-else-not-inside.ensures.0 c.if-not-inside-2.false (same_by _ _ _ c.same.ensures.0 c.same.ensures.1))
