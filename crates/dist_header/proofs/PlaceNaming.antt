-- How references name places, and the table that says it.
use mathlib.Core.Path.{◌≡◌, refl, sym, ◌∙◌, subst}
use mathlib.Core.Bool.{Bool, true, false, not, ◌&&◌, ◌||◌, cond}
use mathlib.Core.List.{List, [], ◌∷◌}
use Prim.Native.Nat.{ℕ, zero, suc, ◌<◌}
use native.Mathlib.Omega.{arith}
use lib.Dec.{eqb}
use lib.ListN.{length, get_or, set, replicate}
use lib.Seq.{get_or-set_same, get_or-set_other}
use borrow.Author.Tests.{eqb-true, eqb-false, eq-eqb}
use Rattle.packet_spec.specs.Header.{Reference, named, filled}
use denote.Enum.Bare.{sameb}
use Rattle.dist_header.specs.contracts.Naming.{the_type}
use Rattle.dist_header.specs.declared.Naming.{Naming}
use Rattle.dist_header.specs.declared.Naming.TheVariants.{Unnamed, Named, Filled}
use Rattle.dist_header.specs.Code.{naming_of, NamingIs}

filled_named : (p : ℕ) (rs : List Reference) → filled p rs ≡ true → named p rs ≡ true
unfolding filled named
filled_named p [] e = e
filled_named p (r ∷ rs) e = go r.new (eqb r.place p) e (filled_named p rs)
  where
    go : (x y : Bool) → ((x && y) || filled p rs) ≡ true → (filled p rs ≡ true → named p rs ≡ true) → (y || named p rs) ≡ true
    go x true e more = refl
    go true false e more = more e
    go false false e more = more e

module _ (naming : List Naming) (earlier : List Reference) (p : ℕ) (m : NamingIs naming earlier) (small : p < 2048) where
  naming_at : get_or naming p Unnamed ≡ naming_of p earlier
  unfolding NamingIs
  naming_at = m p small

  naming_as : (f n : Bool) → filled p earlier ≡ f → named p earlier ≡ n → get_or naming p Unnamed ≡ cond f Filled (cond n Named Unnamed)
  unfolding naming_of
  naming_as f n e g = naming_at ∙ rw (e, g)

  pub not_named : get_or naming p Unnamed ≡ Unnamed → named p earlier ≡ false
  not_named z = go (filled p earlier) (named p earlier) refl refl
    where
      go : (f n : Bool) → filled p earlier ≡ f → named p earlier ≡ n → n ≡ false
      go true n e g = let k : get_or naming p Unnamed ≡ Filled = naming_as true n e g in absurd cc
      go false true e g = let k : get_or naming p Unnamed ≡ Named = naming_as false true e g in absurd cc
      go false false e g = refl

  pub is_named : (get_or naming p Unnamed ≡ Unnamed → ⊥) → named p earlier ≡ true
  is_named z = go (filled p earlier) (named p earlier) refl refl
    where
      go : (f n : Bool) → filled p earlier ≡ f → named p earlier ≡ n → n ≡ true
      go true n e g = sym g ∙ filled_named p earlier e
      go false true e g = refl
      go false false e g = absurd (z (naming_as false false e g))

  pub is_filled : get_or naming p Unnamed ≡ Filled → filled p earlier ≡ true
  is_filled z = go (filled p earlier) (named p earlier) refl refl
    where
      go : (f n : Bool) → filled p earlier ≡ f → named p earlier ≡ n → f ≡ true
      go true n e g = refl
      go false true e g = let k : get_or naming p Unnamed ≡ Named = naming_as false true e g in absurd cc
      go false false e g = let k : get_or naming p Unnamed ≡ Unnamed = naming_as false false e g in absurd cc

  pub not_filled : (get_or naming p Unnamed ≡ Filled → ⊥) → filled p earlier ≡ false
  not_filled z = go (filled p earlier) (named p earlier) refl refl
    where
      go : (f n : Bool) → filled p earlier ≡ f → named p earlier ≡ n → f ≡ false
      go true n e g = absurd (z (naming_as true n e g))
      go false n e g = refl

all_unnamed : (n p : ℕ) → get_or (replicate n Unnamed) p Unnamed ≡ Unnamed
all_unnamed zero p = refl
all_unnamed (suc n) zero = refl
all_unnamed (suc n) (suc p) = all_unnamed n p

pub naming_none : NamingIs (replicate 2048 Unnamed) []
unfolding NamingIs naming_of filled named
naming_none p small = all_unnamed 2048 p

-- the naming of another place stays
other_naming : (r : Reference) (earlier : List Reference) (q : ℕ) → eqb r.place q ≡ false → naming_of q (r ∷ earlier) ≡ naming_of q earlier
unfolding naming_of filled named
other_naming r earlier q e = go r.new
  where
    go : (b : Bool) → cond ((b && eqb r.place q) || filled q earlier) Filled (cond (eqb r.place q || named q earlier) Named Unnamed) ≡ cond (filled q earlier) Filled (cond (named q earlier) Named Unnamed)
    go true = rw e
    go false = rw e

new_naming : (r : Reference) (earlier : List Reference) → r.new ≡ true → naming_of r.place (r ∷ earlier) ≡ Filled
unfolding naming_of filled named
new_naming r earlier e = rw (e, eq-eqb r.place r.place refl)

cached_naming : (r : Reference) (earlier : List Reference) → r.new ≡ false → filled r.place earlier ≡ false → naming_of r.place (r ∷ earlier) ≡ Named
unfolding naming_of filled named
cached_naming r earlier e f = rw (e, f, eq-eqb r.place r.place refl)

-- one reference more
naming_more : (naming : List Naming) (earlier : List Reference) (r : Reference) (v : Naming) → length naming ≡ 2048 → NamingIs naming earlier → r.place < 2048
    → naming_of r.place (r ∷ earlier) ≡ v → NamingIs (set naming r.place v) (r ∷ earlier)
unfolding NamingIs
naming_more naming earlier r v l m small e q below = go (eqb r.place q) refl
  where
    go : (b : Bool) → eqb r.place q ≡ b → get_or (set naming r.place v) q Unnamed ≡ naming_of q (r ∷ earlier)
    go true f =
        subst (λ (x : ℕ). get_or (set naming r.place v) x Unnamed ≡ naming_of x (r ∷ earlier)) (eqb-true r.place q f)
        (get_or-set_same naming r.place v Unnamed (omega arith) ∙ sym e)
    go false f =
        get_or-set_other naming r.place q v Unnamed (λ g. eqb-false r.place q f (sym g)) ∙ m q below ∙ sym (other_naming r earlier q f)

pub naming_new : (naming : List Naming) (earlier : List Reference) (p : ℕ) (t : List ℕ) → length naming ≡ 2048 → NamingIs naming earlier → p < 2048
    → NamingIs (set naming p Filled) (record { place = p; new = true; text = t } ∷ earlier)
naming_new naming earlier p t l m small =
    naming_more naming earlier (record { place = p; new = true; text = t }) Filled l m small (new_naming (record { place = p; new = true; text = t }) earlier refl)

pub naming_cached : (naming : List Naming) (earlier : List Reference) (p : ℕ) (t : List ℕ) → length naming ≡ 2048 → NamingIs naming earlier → p < 2048
    → filled p earlier ≡ false → NamingIs (set naming p Named) (record { place = p; new = false; text = t } ∷ earlier)
naming_cached naming earlier p t l m small f =
    naming_more naming earlier (record { place = p; new = false; text = t }) Named l m small (cached_naming (record { place = p; new = false; text = t }) earlier refl f)

-- what the tests of the table say
pub unnamed_told : (x : Naming) → false ≡ not (sameb the_type x Unnamed) → x ≡ Unnamed
unnamed_told Unnamed e = refl
unnamed_told Named e = absurd cc
unnamed_told Filled e = absurd cc

pub named_told : (x : Naming) → true ≡ not (sameb the_type x Unnamed) → x ≡ Unnamed → ⊥
named_told Unnamed e f = cc
named_told Named e f = cc
named_told Filled e f = cc

pub filled_told : (x : Naming) → true ≡ sameb the_type x Filled → x ≡ Filled
filled_told Unnamed e = absurd cc
filled_told Named e = absurd cc
filled_told Filled e = refl

pub not_filled_told : (x : Naming) → false ≡ sameb the_type x Filled → x ≡ Filled → ⊥
not_filled_told Unnamed e f = cc
not_filled_told Named e f = cc
not_filled_told Filled e f = cc
