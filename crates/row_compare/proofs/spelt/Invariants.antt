use mathlib.Core.Path.{◌≡◌}
use lib.ListN.{drop}
use Rattle.term_spec.specs.Text.{encodes}
use Rattle.row_compare.specs.Same.{same_list}
use Rattle.row_compare.proofs.spelt.Given as goal

abbrev pub invariant-loop-c : goal.invariant-loop-c
invariant-loop-c l = same_list (encodes l.a) l.b ≡ same_list (encodes (drop l.c-index l.a)) l.left
