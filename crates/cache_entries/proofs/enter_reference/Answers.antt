-- `enter_reference` meets its contract.
use native.Mathlib.Omega.{arith}
use Rattle.term_spec.specs.Text.{coding_of}
use Rattle.packet_spec.specs.Memory.{cache_of}
use Rattle.dist_header.specs.Code.{Spells}
use Rattle.std.specs.Prelude.{Some}
use Rattle.dist_header.proofs.Walk.{new_inside}
use Rattle.dist_header.specs.declared.Spelled.TheVariants as spelled
use Rattle.cache_entries.proofs.Storing.{good_there, stands_new, enters_new, enters_cached}
use Rattle.cache_entries.proofs.enter_reference.Goals as goal

pub unwrap-requires : goal.unwrap-requires
unwrap-requires c = good_there _ c.requires.good_reference c.read_reference.ensures

pub enter_text-requires : goal.enter_text-requires
enter_text-requires c = let a = c.args in
    let e : Spells a.packet.now a.half a.width a.at (Some (spelled.New c.in-New.place c.in-New.from c.in-New.size)) = rw c.in-New.ensures at c.read_reference.ensures in
    let i = new_inside a.packet.now a.half a.width a.at c.in-New.place c.in-New.from c.in-New.size e in let p = c.requires in (i.0, p.cache_sized, stands_new (coding_of a.utf8) p.holding a.packet.now a.half a.width a.at c.in-New.place c.in-New.from c.in-New.size 0 32 p.good_reference e (omega arith))

pub overflow_add-result : goal.overflow_add-result
overflow_add-result c = let a = c.args in
    let e : Spells a.packet.now a.half a.width a.at (Some (spelled.New c.in-New.place c.in-New.from c.in-New.size)) = rw c.in-New.ensures at c.read_reference.ensures in
    let i = new_inside a.packet.now a.half a.width a.at c.in-New.place c.in-New.from c.in-New.size e in omega arith

pub returns-in-New : goal.returns-in-New
returns-in-New c = let a = c.args in
    let e : Spells a.packet.now a.half a.width a.at (Some (spelled.New c.in-New.place c.in-New.from c.in-New.size)) = rw c.in-New.ensures at c.read_reference.ensures in
    enters_new (coding_of a.utf8) a.packet.now a.half a.width a.at (cache_of a.cache.now a.cache_lengths.now) _ c.in-New.place c.in-New.from c.in-New.size e c.enter_text.ensures

pub returns-in-Cached : goal.returns-in-Cached
returns-in-Cached c = let a = c.args in
    let e : Spells a.packet.now a.half a.width a.at (Some (spelled.Cached c.in-Cached.place)) = rw c.in-Cached.ensures at c.read_reference.ensures in
    enters_cached (coding_of a.utf8) a.packet.now a.half a.width a.at (cache_of a.cache.now a.cache_lengths.now) c.in-Cached.place e
