-- `check_references` meets its contract.
use mathlib.Core.Path.{refl}
use native.Mathlib.Omega.{arith}
use borrow.Author.Rules.{rules}
use Rattle.std.proofs.lemmas.Result.{err_from_is_err_and}
use Rattle.term_spec.specs.Text.{coding_of}
use Rattle.packet_spec.specs.Memory.{held}
use Rattle.dist_header.specs.Code.{lent_cache}
use Rattle.dist_header.proofs.Standing.{flags_inside}
use Rattle.dist_header.proofs.Walk.{checking_none, checking_refused, checking_more, checking_all}
use Rattle.dist_header.proofs.check_references.Goals as goal

pub loop-i-init : goal.loop-i-init
loop-i-init c = let a = c.args in (refl, checking_none (coding_of a.utf8) (held (lent_cache a.cache.now)) a.packet.now a.at a.start c.requires.0)

pub half_of-half-requires : goal.half_of-half-requires
half_of-half-requires c = let a = c.args in flags_inside a.packet.now a.at c.loop-i.i a.start c.requires.0 c.loop-i-test.true

pub returns-in_err-next : goal.returns-in_err-next
returns-in_err-next c = let a = c.args in
    let l = c.loop-i in
    let p = err_from_is_err_and c.from_residual.result c.from_residual.ensures.1 in
    rw (p.1, p.2) (checking_refused (coding_of a.utf8) (held (lent_cache a.cache.now)) a.packet.now a.at a.start l.i l.next l.naming _ l.invariant.1 _ c.half_of-half.ensures.0 c.loop-i-test.true _ c.in_err-next.ensures)

pub loop-i-preserved : goal.loop-i-preserved
loop-i-preserved c = let a = c.args in
    let l = c.loop-i in (
      search rules,
      checking_more (coding_of a.utf8) (held (lent_cache a.cache.now)) a.packet.now a.at a.start l.i l.next l.naming _ l.invariant.1 _ c.half_of-half.ensures.0 c.loop-i-test.true _ c.in_ok-next.ensures,
    )

pub returns : goal.returns
returns c = let a = c.args in
    let l = c.loop-i in
    checking_all (coding_of a.utf8) (held (lent_cache a.cache.now)) a.packet.now a.at a.start l.i l.next l.naming l.naming l.invariant.1 (omega arith)
