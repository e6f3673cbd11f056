-- A character as the code answers it.
-- About the code alone, proved against the definitions of term_spec: nothing here has to be believed.
use Rattle.std.proofs.Math.Option.{none, some}
use Rattle.std.specs.Prelude.{◌≡◌, ℕ, Option, MatchOption}
use Rattle.term_spec.specs.Term.{Label}
use Rattle.term_spec.specs.Canonical.{small}

-- the integer 0 .. 255 that a label is, or none for any other label
abbrev pub CharacterOf : Label → Option ℕ → Type 0
CharacterOf l c = MatchOption c (small l ≡ none) (λ n. small l ≡ some n)
