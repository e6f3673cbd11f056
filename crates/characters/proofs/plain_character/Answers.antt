-- `plain_character` meets its contract. A character has its own byte, a 97 the next.
use Prim.Native.Nat.{◌+◌}
use native.Mathlib.Omega.{arith}
use Rattle.characters.proofs.Characters.{character_14, character_97}
use Rattle.characters.proofs.plain_character.Goals as goal

pub returns-in_ok-get-in-14 : goal.returns-in_ok-get-in-14
returns-in_ok-get-in-14 c = λ places lengths. let e = c.in_ok-get-in-14.ensures.lookup in
    character_14 c.args.msg.now places lengths _ _ (omega arith) _ c.in-14.is (omega arith) (omega (arith, c.type_inv.msg c.args.at))

pub returns-in_ok-get-in-1-2 : goal.returns-in_ok-get-in-1-2
returns-in_ok-get-in-1-2 c = λ places lengths. let e = c.in_ok-get-in-1.ensures.lookup in let f = c.in_ok-get-in-1-2.ensures.lookup in
    character_97 c.args.msg.now places lengths _ _ (omega arith) _ c.in-1.is (omega arith) (omega arith) (omega arith) (omega (arith, c.type_inv.msg (c.args.at + 1)))
