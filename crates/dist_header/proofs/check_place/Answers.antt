-- `check_place` meets its contract.
use native.Mathlib.Omega.{arith}
use Rattle.dist_header.proofs.Texts.{held_nothing, held_long, held_good, held_bad}
use Rattle.dist_header.proofs.check_place.Goals as goal

pub returns-then-size : goal.returns-then-size
returns-then-size c = let a = c.args in held_nothing a.cache.now.places.now a.cache.now.lengths.now a.place.0 c.from-size.result (omega arith) c.from-size.ensures c.if-size.true

pub returns-then-size-gt-PLACE_BYTES : goal.returns-then-size-gt-PLACE_BYTES
returns-then-size-gt-PLACE_BYTES c = let a = c.args in
    held_long a.cache.now.places.now a.cache.now.lengths.now a.place.0 c.from-size.result (omega arith) c.from-size.ensures c.if-size.false c.if-size-gt-PLACE_BYTES.true

pub returns-then-is_utf8 : goal.returns-then-is_utf8
returns-then-is_utf8 c = let a = c.args in
    held_good a.cache.now.places.now a.cache.now.lengths.now a.place.0 c.from-size.result (omega arith) c.from-size.ensures c.if-size.false c.if-size-gt-PLACE_BYTES.false _ c.is_utf8.ensures c.if-is_utf8.true

pub returns-else-is_utf8 : goal.returns-else-is_utf8
returns-else-is_utf8 c = let a = c.args in
    held_bad a.cache.now.places.now a.cache.now.lengths.now a.place.0 c.from-size.result (omega arith) c.from-size.ensures c.if-size.false c.if-size-gt-PLACE_BYTES.false _ c.is_utf8.ensures c.if-is_utf8.false
