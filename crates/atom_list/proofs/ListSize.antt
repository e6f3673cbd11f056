-- The size of an atom list, from the tests that the code makes.
use mathlib.Core.Path.{◌≡◌}
use mathlib.Core.Bool.{false}
use mathlib.Core.List.{List}
use Prim.Native.Nat.{ℕ}
use lib.Dec.{eqb}
use lib.ListN.{length}
use borrow.Author.Tests.{eq-eqb, ne_eqb}
use Rattle.term_spec.specs.AtomList.{of_size, lent_list}

pub fits_not : (places lengths : List ℕ) → (length places ≡ 8160 → ⊥) → (n : ℕ) → false ≡ of_size (lent_list n places lengths)
unfolding of_size
fits_not places lengths e n = rw (ne_eqb (length places) 8160 e)

pub fits_if : (places lengths : List ℕ) → length places ≡ 8160 → (n : ℕ) → eqb (length lengths) 255 ≡ of_size (lent_list n places lengths)
unfolding of_size
fits_if places lengths e n = rw (eq-eqb (length places) 8160 e)
