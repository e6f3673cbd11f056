-- `find_place` meets its contract.
use mathlib.Core.Path.{refl}
use native.Mathlib.Omega.{arith}
use Rattle.key_order.proofs.Places.{fit_at, taken_fit, taken_place, no_keys, all_but_last, goes_last, goes_before}
use Rattle.key_order.proofs.find_place.Goals as goal

pub returns-then-n-eq0 : goal.returns-then-n-eq0
returns-then-n-eq0 c = no_keys c.if-n-eq0.true

pub key_before-requires : goal.key_before-requires
key_before-requires c = fit_at _ _ c.requires (omega arith) c.from-last.ensures refl

pub returns-then-key_before : goal.returns-then-key_before
returns-then-key_before c = goes_last c.if-n-eq0.false c.from-last.ensures c.key_before.ensures c.if-key_before.true

pub place_by_halves-requires : goal.place_by_halves-requires
place_by_halves-requires c = taken_fit (omega arith) (all_but_last c.requires c.key_before.auto.out)

pub returns : goal.returns
returns c = goes_before c.if-n-eq0.false c.from-last.ensures c.key_before.ensures c.if-key_before.false (taken_place (omega arith) c.place_by_halves.ensures)
