-- `list_reference` meets its contract.
use Prim.Native.Nat.{◌*◌}
use native.Mathlib.Omega.{arith}
use Rattle.term_spec.specs.Text.{coding_of}
use Rattle.packet_spec.specs.Memory.{cache_of, held}
use Rattle.dist_header.specs.Code.{Spells}
use Rattle.std.specs.Prelude.{Some}
use Rattle.dist_header.proofs.Walk.{new_inside, cached_inside}
use Rattle.dist_header.specs.declared.Spelled.TheVariants as spelled
use Rattle.cache_entries.proofs.Storing.{good_there, stands_new, stands_cached, lists_new, lists_cached}
use Rattle.cache_entries.proofs.list_reference.Goals as goal

pub unwrap-requires : goal.unwrap-requires
unwrap-requires c = good_there _ c.requires.good_reference c.read_reference.ensures

pub put_text-stored-requires : goal.put_text-stored-requires
put_text-stored-requires c = let a = c.args in
    let e : Spells a.packet.now a.half a.width a.at (Some (spelled.New c.in-New.place c.in-New.from c.in-New.size)) = rw c.in-New.ensures at c.read_reference.ensures in
    stands_new (coding_of a.utf8) (held (cache_of a.cache.now.places.now a.cache.now.lengths.now)) a.packet.now a.half a.width a.at c.in-New.place c.in-New.from c.in-New.size (32 * a.i) _ c.requires.good_reference e (omega arith)

pub overflow_add-result : goal.overflow_add-result
overflow_add-result c = let a = c.args in
    let e : Spells a.packet.now a.half a.width a.at (Some (spelled.New c.in-New.place c.in-New.from c.in-New.size)) = rw c.in-New.ensures at c.read_reference.ensures in
    let i = new_inside a.packet.now a.half a.width a.at c.in-New.place c.in-New.from c.in-New.size e in omega arith

pub offset_bounds-cache-k : goal.offset_bounds-cache-k
offset_bounds-cache-k c = let a = c.args in
    let e : Spells a.packet.now a.half a.width a.at (Some (spelled.Cached c.in-Cached.place)) = rw c.in-Cached.ensures at c.read_reference.ensures in
    let i = cached_inside a.packet.now a.half a.width a.at c.in-Cached.place e in omega arith

pub bounds-cache-k : goal.bounds-cache-k
bounds-cache-k c = let a = c.args in
    let e : Spells a.packet.now a.half a.width a.at (Some (spelled.Cached c.in-Cached.place)) = rw c.in-Cached.ensures at c.read_reference.ensures in
    let i = cached_inside a.packet.now a.half a.width a.at c.in-Cached.place e in omega arith

pub overflow_mul-k : goal.overflow_mul-k
overflow_mul-k c = let a = c.args in
    let e : Spells a.packet.now a.half a.width a.at (Some (spelled.Cached c.in-Cached.place)) = rw c.in-Cached.ensures at c.read_reference.ensures in
    let i = cached_inside a.packet.now a.half a.width a.at c.in-Cached.place e in omega arith

pub copy-requires : goal.copy-requires
copy-requires c = let a = c.args in
    let e : Spells a.packet.now a.half a.width a.at (Some (spelled.Cached c.in-Cached.place)) = rw c.in-Cached.ensures at c.read_reference.ensures in
    let i = cached_inside a.packet.now a.half a.width a.at c.in-Cached.place e in let m = stands_cached (coding_of a.utf8) a.cache.now.places.now a.cache.now.lengths.now a.packet.now a.half a.width a.at c.in-Cached.place c.from-size.result c.requires.good_reference e c.requires.cache_sized c.from-size.ensures in (omega arith, omega arith)

pub returns-in-New : goal.returns-in-New
returns-in-New c = let a = c.args in
    let e : Spells a.packet.now a.half a.width a.at (Some (spelled.New c.in-New.place c.in-New.from c.in-New.size)) = rw c.in-New.ensures at c.read_reference.ensures in
    lists_new (coding_of a.utf8) (cache_of a.cache.now.places.now a.cache.now.lengths.now) a.packet.now a.half a.width a.at (32 * a.i) a.list_places.now _ c.in-New.place c.in-New.from c.in-New.size _ e c.put_text-stored.ensures

pub returns-in-Cached : goal.returns-in-Cached
returns-in-Cached c = let a = c.args in
    let e : Spells a.packet.now a.half a.width a.at (Some (spelled.Cached c.in-Cached.place)) = rw c.in-Cached.ensures at c.read_reference.ensures in
    lists_cached (coding_of a.utf8) a.cache.now.places.now a.cache.now.lengths.now a.packet.now a.half a.width a.at (32 * a.i) a.list_places.now _ c.in-Cached.place c.from-size.result e c.requires.cache_sized c.from-size.ensures c.copy.ensures
