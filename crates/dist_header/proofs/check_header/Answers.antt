-- `check_header` meets its contract.
use Rattle.std.proofs.lemmas.Result.{err_from_is_err_and}
use Rattle.term_spec.specs.Text.{coding_of}
use Rattle.packet_spec.specs.Memory.{held}
use Rattle.dist_header.specs.Code.{lent_cache}
use Rattle.dist_header.proofs.Walk.{start_inside, header_cut, header_refused, header_good}
use Rattle.dist_header.proofs.check_header.Goals as goal

pub returns-in_default : goal.returns-in_default
returns-in_default c = let a = c.args in header_cut (coding_of a.utf8) (held (lent_cache a.cache.now)) a.packet.now a.at c.in_default.ensures

pub check_references-requires : goal.check_references-requires
check_references-requires c = let a = c.args in (start_inside (coding_of a.utf8) (held (lent_cache a.cache.now)) a.packet.now a.at c.in-Some.start c.in-Some.ensures, c.requires.1)

pub returns-in_err-payload : goal.returns-in_err-payload
returns-in_err-payload c = let a = c.args in
    let p = err_from_is_err_and c.from_residual.result c.from_residual.ensures.1 in
    rw (p.1, p.2) (header_refused (coding_of a.utf8) (held (lent_cache a.cache.now)) a.packet.now a.at c.in-Some.start c.in-Some.ensures _ c.in_err-payload.ensures)

pub returns : goal.returns
returns c = let a = c.args in
    header_good (coding_of a.utf8) (held (lent_cache a.cache.now)) a.packet.now a.at c.in-Some.start c.in-Some.ensures _ c.in_ok-payload.ensures
