-- What a term means, as a value: its tree with the pairs of each map put in order. Two maps that hold the same pairs, in any order, have one meaning (Same).
-- Any total order would do; this one looks at labels and parts alone.
use Rattle.std.specs.Prelude.{Bool}
use Rattle.term_spec.specs.Tree.{Forest}
use Rattle.term_spec.specs.Term.{Label, Term}
use Rattle.term_spec.specs.Order.{◌then◌, not_greater, compare}
use Rattle.term_spec.specs.Pairs.{Pair, arranged, all_arranged}

-- by the keys; by the values only where the keys are equal, as in no accepted map
unfoldable pub pair_before : Pair → Pair → Bool
pair_before p q = not_greater (compare p.0 q.0 then compare p.1 q.1)

-- a term with its pairs in that order, at any depth
abbrev pub ordered : Term → Term
ordered = arranged pair_before

abbrev pub all_ordered : Forest Label → Forest Label
all_ordered = all_arranged pair_before
