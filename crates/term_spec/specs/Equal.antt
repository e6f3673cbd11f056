-- Whether two terms are equal, as a test that computes.
use Rattle.std.specs.Prelude.{Bool, false, ◌||◌, List, [], ◌∷◌}
use Rattle.term_spec.specs.Term.{Term}
use Rattle.term_spec.specs.Order.{is_equal, compare}

-- are two terms equal? Of two meanings: do they mean the same?
unfoldable pub same : Term → Term → Bool
same t u = is_equal (compare t u)

-- is a term one of these?
unfoldable pub among : Term → List Term → Bool
among t [] = false
among t (u ∷ us) = same t u || among t us
