-- What tests that hold say.
use mathlib.Core.Path.{◌≡◌, refl, sym, ◌∙◌}
use mathlib.Core.Bool.{Bool, true, false, false≢true, not, ◌&&◌}
use Prim.Native.Nat.{ℕ, ◌≤◌, ◌<◌}
use lib.Dec.{eqb, ltb}
use lib.ListN.{length}
use borrow.Author.Tests.{eqb-true, ltb-true, ltb-false, not-true, not-false}
use Rattle.term_spec.specs.AtomList.{AtomList, of_size}

pub never : {P : Type 0} → false ≡ true → P
never e = absurd (false≢true e)

pub both_true : (s t : Bool) → (s && t) ≡ true → (s ≡ true) × (t ≡ true)
both_true true t e = (refl, e)
both_true false t e = never e

-- what a negated test says of what it tests
pub refuted : {b t : Bool} → b ≡ t → not b ≡ true → t ≡ false
refuted {b} e f = sym e ∙ not-true b f

pub confirmed : {b t : Bool} → b ≡ t → not b ≡ false → t ≡ true
confirmed {b} e f = sym e ∙ not-false b f

-- by a test on numbers
pub by_less : {P : Type 0} (m n : ℕ) → (m < n → P) → (n ≤ m → P) → P
by_less {P} m n f g = go (ltb m n) refl
  where
    go : (t : Bool) → ltb m n ≡ t → P
    go true e = f (ltb-true m n e)
    go false e = g (ltb-false m n e)

-- one more row of a table that is gone through
pub also : {A B : Type 0} → A → B → A × B
also a b = (a, b)

-- the sizes of an atom list that is of its stated size
pub sizes_of : (list : AtomList) → of_size list ≡ true → (length list.places ≡ 8160) × (length list.lengths ≡ 255)
unfolding of_size
sizes_of list e =
    let b = both_true (eqb (length list.places) 8160) (eqb (length list.lengths) 255) e in
    (eqb-true _ _ b.0, eqb-true _ _ b.1)
