-- `judge_cached` meets its contract.
use mathlib.Core.Path.{sym, ◌∙◌}
use Rattle.packet_spec.specs.Memory.{held}
use Rattle.dist_header.specs.Code.{lent_cache}
use Rattle.dist_header.proofs.PlaceNaming.{filled_told, not_filled_told}
use Rattle.dist_header.proofs.Judging.{cached_again, cached_refused, cached_good}
use Rattle.dist_header.proofs.judge_cached.Goals as goal

pub returns-then-eq : goal.returns-then-eq
returns-then-eq c = let a = c.args in cached_again (held (lent_cache a.cache.now)) a.place.0 a.end a.i.0 a.naming.now c.requires.0 (filled_told _ c.if-eq.ensures)

pub returns-in-Err : goal.returns-in-Err
returns-in-Err c = let a = c.args in
    cached_refused (held (lent_cache a.cache.now)) a.place.0 a.end a.i.0 a.naming.now c.requires.0 (not_filled_told _ c.if-eq.ensures) _ c.in-Err.ensures

pub returns : goal.returns
returns c = let a = c.args in
    cached_good (held (lent_cache a.cache.now)) a.place.0 a.end a.i.0 a.naming.now c.requires.0 (not_filled_told _ c.if-eq.ensures) (sym c.in_default.is ∙ c.check_place.ensures) c.requires.2
