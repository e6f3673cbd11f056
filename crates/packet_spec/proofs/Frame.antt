-- The cache after an accepted packet: places marked new hold those references' texts, every other place stays.
use mathlib.Core.Path.{◌≡◌, refl, ◌∙◌, ap, subst, fun_ext}
use mathlib.Core.Bool.{Bool, true, false, ◌&&◌, ◌||◌, cond}
use mathlib.Core.List.{List, [], ◌∷◌}
use Prim.Native.Nat.{ℕ}
use lib.Dec.{eqb}
use borrow.Author.Tests.{eqb-true, eq-eqb}
use Rattle.term_spec.proofs.Tests.{both_true}
use Rattle.packet_spec.specs.Memory.{Cache, CacheSized, text, held}
use Rattle.packet_spec.specs.Header.{Reference, named, filled}
use Rattle.packet_spec.specs.Calls.{enter, entered}
use Rattle.packet_spec.specs.Places.{Same, HeldNew, filled_by, filled_in_turn}
use Rattle.packet_spec.proofs.Cache.{same_refl, same_trans, same_holding, held_same, held_new, enter_sized, enter_other, enter_new}
use Rattle.packet_spec.proofs.Judged.{Sound, AllSound}

pub neither : (a b : Bool) → (a || b) ≡ false → (a ≡ false) × (b ≡ false)
neither true b e = absurd cc
neither false b e = (refl, e)

pub entered_sized : (rs : List Reference) (c : Cache) → CacheSized c → CacheSized (entered c rs)
unfolding entered
entered_sized [] c s = s
entered_sized (r ∷ rs) c s = entered_sized rs (enter c r) (enter_sized c r s)

-- a place that no reference fills new stays
pub entered_other : (rs : List Reference) (earlier : List Reference) (c : Cache) (p : ℕ)
    → AllSound earlier rs → filled p rs ≡ false → Same c (entered c rs) p
unfolding entered filled
entered_other [] earlier c p a e = same_refl c p
entered_other (r ∷ rs) earlier c p a e =
    let two : ((r.new && eqb r.place p) ≡ false) × (filled p rs ≡ false) = neither _ _ e in
    same_trans (enter_other c r a.0.a_text.short p two.0) (entered_other rs (r ∷ earlier) (enter c r) p a.1 two.1)

-- a place that was named is filled new by no later reference
not_again : (r : Reference) (earlier : List Reference) (p : ℕ) → Sound earlier r → named p earlier ≡ true → (r.new && eqb r.place p) ≡ false
not_again r earlier p a e = go r.new (eqb r.place p) refl refl
  where
    go : (x y : Bool) → r.new ≡ x → eqb r.place p ≡ y → (x && y) ≡ false
    go false y f g = refl
    go true false f g = refl
    go true true f g =
        let not_named : named p earlier ≡ false = subst (λ (q : ℕ). named q earlier ≡ false) (eqb-true r.place p g) (a.new_apart f) in
        cc

either : (a b : Bool) → b ≡ true → (a || b) ≡ true
either true b e = refl
either false b e = e

named_before : (rs : List Reference) (earlier : List Reference) (p : ℕ) → AllSound earlier rs → named p earlier ≡ true → filled p rs ≡ false
unfolding filled named
named_before [] earlier p a e = refl
named_before (r ∷ rs) earlier p a e =
    rw (not_again r earlier p a.0 e) (named_before rs (r ∷ earlier) p a.1 (either (eqb r.place p) (named p earlier) e))

named_itself : (r : Reference) (earlier : List Reference) → named r.place (r ∷ earlier) ≡ true
unfolding named
named_itself r earlier = rw (eq-eqb r.place r.place refl)

-- each new reference's place holds its text
pub entered_new : (rs : List Reference) (earlier : List Reference) (c : Cache) → CacheSized c → AllSound earlier rs → HeldNew (entered c rs) rs
unfolding entered
entered_new [] earlier c s a = tt
entered_new (r ∷ rs) earlier c s a = (
  λ new. same_holding
      (enter_new c r a.0.a_text.short new a.0.in_cache s)
      (entered_other rs (r ∷ earlier) (enter c r) r.place a.1 (named_before rs (r ∷ earlier) r.place a.1 (named_itself r earlier))),
  entered_new rs (r ∷ earlier) (enter c r) (enter_sized c r s) a.1,
)

-- what the places hold, as the references fill them in turn
held_enter : (r : Reference) (earlier : List Reference) (c : Cache) → CacheSized c → Sound earlier r → (p : ℕ) → held (enter c r) p ≡ filled_by r (held c) p
unfolding filled_by
held_enter r earlier c s a p = go (r.new && eqb r.place p) refl
  where
    go : (t : Bool) → (r.new && eqb r.place p) ≡ t → held (enter c r) p ≡ cond t (text r.text) (held c p)
    go false e = held_same (enter_other c r a.a_text.short p e)
    go true e =
        let two : (r.new ≡ true) × (eqb r.place p ≡ true) = both_true _ _ e in
        subst (λ (q : ℕ). held (enter c r) q ≡ text r.text) (eqb-true r.place p two.1)
        (held_new a.a_text.characters (enter_new c r a.a_text.short two.0 a.in_cache s) a.a_text.short a.a_text.is_utf8)

pub held_entered : (rs : List Reference) (earlier : List Reference) (c : Cache) → CacheSized c → AllSound earlier rs
    → held (entered c rs) ≡ filled_in_turn rs (held c)
unfolding entered filled_in_turn
held_entered [] earlier c s a = refl
held_entered (r ∷ rs) earlier c s a =
    held_entered rs (r ∷ earlier) (enter c r) (enter_sized c r s) a.1
    ∙ ap (filled_in_turn rs) (fun_ext (held_enter r earlier c s a.0))
