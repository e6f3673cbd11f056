-- What a line asks, and what the first bytes of a case say.
-- About the program that runs the vectors alone.
use Rattle.std.specs.Prelude.{Bool, true, false, cond, List, ℕ, eqb, get_or}
use Rattle.vector_lines.specs.declared.Verb.{Verb}
use Rattle.vector_lines.specs.declared.Verb.TheVariants as verbs

-- by its second letter: e, r, s or o
unfoldable pub verb_letter : ℕ → Verb
verb_letter x = cond (eqb x 101) verbs.Read (cond (eqb x 114) verbs.Write (cond (eqb x 115) verbs.Ask (cond (eqb x 111) verbs.Word verbs.Unknown)))

unfoldable pub verb : List ℕ → Verb
verb line = verb_letter (get_or line 1 0)

-- the forms of a payload: p, P and q
unfoldable pub payload_form : ℕ → Bool
payload_form x = cond (eqb x 112) true (cond (eqb x 80) true (cond (eqb x 113) true false))
