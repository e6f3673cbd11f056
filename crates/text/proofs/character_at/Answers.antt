-- `character_at` meets its contract: the rule of its first byte says which bytes are due.
use native.Mathlib.Omega.{arith}
use Rattle.std.proofs.lemmas.Result.{err_from_is_err_and}
use Rattle.text.specs.Characters.{after}
use Rattle.text.proofs.Characters.{completes_none, completes_on, completes_last, character_by, character_none}
use Rattle.text.proofs.character_at.Goals as goal

pub returns-in-Some-One : goal.returns-in-Some-One
unfolding after
returns-in-Some-One c = character_by _ _ (omega arith) _ _ (rw (c.in-Some-One.field-0-is) at c.in-Some-One.ensures) (completes_none _ _ _ (omega arith))

pub returns-in_err-continued-in-Some-Two : goal.returns-in_err-continued-in-Some-Two
unfolding after
returns-in_err-continued-in-Some-Two c =
    let p = err_from_is_err_and c.from_residual.result c.from_residual.ensures.1 in
    rw (p.1, p.2) (character_by _ _ (omega arith) _ _ (rw (c.in-Some-Two.field-0-is) at c.in-Some-Two.ensures) (c.in_err-continued-in-Some-Two.ensures _))

pub returns-in_ok-continued-in-Some-Two : goal.returns-in_ok-continued-in-Some-Two
unfolding after
returns-in_ok-continued-in-Some-Two c =
    character_by _ _ (omega arith) _ _ (rw (c.in-Some-Two.field-0-is) at c.in-Some-Two.ensures)
    (completes_last _ _ _ _ _ (omega arith) c.in_ok-continued-in-Some-Two.ensures)

pub returns-in_err-continued-in-Some-Three : goal.returns-in_err-continued-in-Some-Three
unfolding after
returns-in_err-continued-in-Some-Three c =
    let p = err_from_is_err_and c.from_residual-in_err-continued-in-Some-Three.result c.from_residual-in_err-continued-in-Some-Three.ensures.1 in
    rw (p.1, p.2) (character_by _ _ (omega arith) _ _ (rw (c.in-Some-Three.field-0-is) at c.in-Some-Three.ensures) (c.in_err-continued-in-Some-Three.ensures _))

pub returns-in_err-continued-in-Some-Three-2 : goal.returns-in_err-continued-in-Some-Three-2
unfolding after
returns-in_err-continued-in-Some-Three-2 c =
    let p = err_from_is_err_and c.from_residual-in_err-continued-in-Some-Three-2.result c.from_residual-in_err-continued-in-Some-Three-2.ensures.1 in
    rw (p.1, p.2) (character_by _ _ (omega arith) _ _ (rw (c.in-Some-Three.field-0-is) at c.in-Some-Three.ensures)
    (completes_on _ _ _ _ _ _ _ (omega arith) c.in_ok-continued-in-Some-Three.ensures (c.in_err-continued-in-Some-Three-2.ensures _)))

pub returns-in_ok-continued-in-Some-Three-2 : goal.returns-in_ok-continued-in-Some-Three-2
unfolding after
returns-in_ok-continued-in-Some-Three-2 c =
    character_by _ _ (omega arith) _ _ (rw (c.in-Some-Three.field-0-is) at c.in-Some-Three.ensures)
    (completes_on _ _ _ _ _ _ _ (omega arith) c.in_ok-continued-in-Some-Three.ensures
    (completes_last _ _ _ _ _ (omega arith) c.in_ok-continued-in-Some-Three-2.ensures))

pub returns-in_err-continued-in-Some-Four : goal.returns-in_err-continued-in-Some-Four
unfolding after
returns-in_err-continued-in-Some-Four c =
    let p = err_from_is_err_and c.from_residual-in_err-continued-in-Some-Four.result c.from_residual-in_err-continued-in-Some-Four.ensures.1 in
    rw (p.1, p.2) (character_by _ _ (omega arith) _ _ (rw (c.in-Some-Four.field-0-is) at c.in-Some-Four.ensures) (c.in_err-continued-in-Some-Four.ensures _))

pub returns-in_err-continued-in-Some-Four-2 : goal.returns-in_err-continued-in-Some-Four-2
unfolding after
returns-in_err-continued-in-Some-Four-2 c =
    let p = err_from_is_err_and c.from_residual-in_err-continued-in-Some-Four-2.result c.from_residual-in_err-continued-in-Some-Four-2.ensures.1 in
    rw (p.1, p.2) (character_by _ _ (omega arith) _ _ (rw (c.in-Some-Four.field-0-is) at c.in-Some-Four.ensures)
    (completes_on _ _ _ _ _ _ _ (omega arith) c.in_ok-continued-in-Some-Four.ensures (c.in_err-continued-in-Some-Four-2.ensures _)))

pub returns-in_err-continued-in-Some-Four-3 : goal.returns-in_err-continued-in-Some-Four-3
unfolding after
returns-in_err-continued-in-Some-Four-3 c =
    let p = err_from_is_err_and c.from_residual-in_err-continued-in-Some-Four-3.result c.from_residual-in_err-continued-in-Some-Four-3.ensures.1 in
    rw (p.1, p.2) (character_by _ _ (omega arith) _ _ (rw (c.in-Some-Four.field-0-is) at c.in-Some-Four.ensures)
    (completes_on _ _ _ _ _ _ _ (omega arith) c.in_ok-continued-in-Some-Four.ensures
    (completes_on _ _ _ _ _ _ _ (omega arith) c.in_ok-continued-in-Some-Four-2.ensures
    (c.in_err-continued-in-Some-Four-3.ensures _))))

pub returns-in_ok-continued-in-Some-Four-3 : goal.returns-in_ok-continued-in-Some-Four-3
unfolding after
returns-in_ok-continued-in-Some-Four-3 c =
    character_by _ _ (omega arith) _ _ (rw (c.in-Some-Four.field-0-is) at c.in-Some-Four.ensures)
    (completes_on _ _ _ _ _ _ _ (omega arith) c.in_ok-continued-in-Some-Four.ensures
    (completes_on _ _ _ _ _ _ _ (omega arith) c.in_ok-continued-in-Some-Four-2.ensures
    (completes_last _ _ _ _ _ (omega arith) c.in_ok-continued-in-Some-Four-3.ensures)))

pub returns-in-None : goal.returns-in-None
unfolding after
returns-in-None c = character_none _ _ (omega arith) c.in-None.ensures
