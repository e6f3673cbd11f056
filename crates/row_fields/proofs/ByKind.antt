-- What is found of a row by its kind, one law for each.
use mathlib.Core.Path.{◌≡◌, sym, ap}
use mathlib.Core.List.{List}
use Prim.Native.Nat.{ℕ}
use lib.ListN.{get_or}
use borrow.Author.Tests.{ne_eqb}
use Rattle.row_fields.specs.declared.Content.TheVariants.{Nothing}
use Rattle.row_fields.specs.Found.{integer_found, float_found, atom_found, binary_found, pids_found, ports_found, references_found, byte_found, kind_found}

module _ (m places lengths : List ℕ) (at kind : ℕ) where
  pub kind_1 : kind ≡ 1 → integer_found m at (get_or m at 0) ≡ kind_found m places lengths at kind
  unfolding kind_found
  kind_1 e = sym (ap (kind_found m places lengths at) e)

  pub kind_2 : kind ≡ 2 → float_found m at ≡ kind_found m places lengths at kind
  unfolding kind_found
  kind_2 e = sym (ap (kind_found m places lengths at) e)

  pub kind_3 : kind ≡ 3 → atom_found m places lengths at (get_or m at 0) ≡ kind_found m places lengths at kind
  unfolding kind_found
  kind_3 e = sym (ap (kind_found m places lengths at) e)

  pub kind_7 : kind ≡ 7 → binary_found m at (get_or m at 0) ≡ kind_found m places lengths at kind
  unfolding kind_found
  kind_7 e = sym (ap (kind_found m places lengths at) e)

  pub kind_8 : kind ≡ 8 → binary_found m at (get_or m at 0) ≡ kind_found m places lengths at kind
  unfolding kind_found
  kind_8 e = sym (ap (kind_found m places lengths at) e)

  pub kind_10 : kind ≡ 10 → pids_found m at (get_or m at 0) ≡ kind_found m places lengths at kind
  unfolding kind_found
  kind_10 e = sym (ap (kind_found m places lengths at) e)

  pub kind_11 : kind ≡ 11 → ports_found m at (get_or m at 0) ≡ kind_found m places lengths at kind
  unfolding kind_found
  kind_11 e = sym (ap (kind_found m places lengths at) e)

  pub kind_12 : kind ≡ 12 → references_found m at (get_or m at 0) ≡ kind_found m places lengths at kind
  unfolding kind_found
  kind_12 e = sym (ap (kind_found m places lengths at) e)

  pub kind_14 : kind ≡ 14 → byte_found m at ≡ kind_found m places lengths at kind
  unfolding kind_found
  kind_14 e = sym (ap (kind_found m places lengths at) e)

  pub kind_other : (kind ≡ 1 → ⊥) → (kind ≡ 2 → ⊥) → (kind ≡ 3 → ⊥) → (kind ≡ 7 → ⊥) → (kind ≡ 8 → ⊥) → (kind ≡ 10 → ⊥) → (kind ≡ 11 → ⊥) → (kind ≡ 12 → ⊥) → (kind ≡ 14 → ⊥) → Nothing ≡ kind_found m places lengths at kind
  unfolding kind_found
  kind_other e1 e2 e3 e7 e8 e10 e11 e12 e14 = sym (simp (ne_eqb kind 1 e1, ne_eqb kind 2 e2, ne_eqb kind 3 e3, ne_eqb kind 7 e7, ne_eqb kind 8 e8, ne_eqb kind 10 e10, ne_eqb kind 11 e11, ne_eqb kind 12 e12, ne_eqb kind 14 e14))
