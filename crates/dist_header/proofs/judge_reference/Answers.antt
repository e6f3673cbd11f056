-- `judge_reference` meets its contract.
use Rattle.term_spec.specs.Text.{coding_of}
use Rattle.packet_spec.specs.Memory.{held}
use Rattle.dist_header.specs.Code.{lent_cache}
use Rattle.dist_header.proofs.Walk.{answer_cut, answer_new, answer_cached, new_inside, cached_inside}
use Rattle.dist_header.proofs.judge_reference.Goals as goal

pub judge_new-requires : goal.judge_new-requires
judge_new-requires c = let a = c.args in
    let i = new_inside a.packet.now a.half a.width a.at c.in-Some-New.place c.in-Some-New.from c.in-Some-New.size (rw c.in-Some-New.field-0-is at c.in-Some-New.ensures) in (i.0, i.2, i.3, c.requires.2)

pub judge_cached-requires : goal.judge_cached-requires
judge_cached-requires c = let a = c.args in
    let i = cached_inside a.packet.now a.half a.width a.at c.in-Some-Cached.place (rw c.in-Some-Cached.field-0-is at c.in-Some-Cached.ensures) in (i.0, c.requires.1, c.requires.2)

pub returns-in-None : goal.returns-in-None
returns-in-None c = let a = c.args in answer_cut (coding_of a.utf8) (held (lent_cache a.cache.now)) a.packet.now a.half a.width a.at a.i.0 a.naming.now _ c.in-None.ensures

pub returns-in-Some-New : goal.returns-in-Some-New
returns-in-Some-New c = let a = c.args in
    answer_new (coding_of a.utf8) (held (lent_cache a.cache.now)) a.packet.now a.half a.width a.at a.i.0 a.naming.now _ c.in-Some-New.place c.in-Some-New.from c.in-Some-New.size _
    (rw c.in-Some-New.field-0-is at c.in-Some-New.ensures) c.judge_new.ensures

pub returns-in-Some-Cached : goal.returns-in-Some-Cached
returns-in-Some-Cached c = let a = c.args in
    answer_cached (coding_of a.utf8) (held (lent_cache a.cache.now)) a.packet.now a.half a.width a.at a.i.0 a.naming.now _ c.in-Some-Cached.place _
    (rw c.in-Some-Cached.field-0-is at c.in-Some-Cached.ensures) c.judge_cached.ensures
