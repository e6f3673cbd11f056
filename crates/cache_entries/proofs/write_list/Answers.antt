-- `write_list` meets its contract.
use mathlib.Core.Path.{refl, ◌∙◌}
use Prim.Native.Nat.{◌*◌}
use native.Mathlib.Omega.{arith}
use lib.ListN.{length-set}
use borrow.Author.Rules.{rules}
use Rattle.term_spec.specs.Text.{coding_of}
use Rattle.packet_spec.specs.Header.{half}
use Rattle.dist_header.proofs.Standing.{flags_half, flags_inside}
use Rattle.dist_header.specs.Code.{lent_cache, flags_of}
use Rattle.cache_entries.specs.Code.{Lists}
use Rattle.cache_entries.proofs.Loops.{list_none, list_stands, list_inside, list_more, list_all}
use Rattle.cache_entries.proofs.write_list.Goals as goal

pub loop-i-init : goal.loop-i-init
loop-i-init c = let a = c.args in
    let p = c.requires in (p.0.good_header.stands.first_inside, record { places_are = omega (arith, p.1.places_are); lengths_are = omega (arith, p.1.lengths_are) }, list_none (coding_of a.utf8) (lent_cache a.cache.now) a.packet.now a.at a.start _ _ a.list.now.places.now a.list.now.lengths.now p.1.places_are p.1.lengths_are (c.fill.ensures.after (λ y e. e)) (c.fill-2.ensures.after (λ y e. e)), record { n_same = refl; places_same = refl; lengths_same = refl })

pub half_of-half-requires : goal.half_of-half-requires
half_of-half-requires c = flags_inside _ _ _ _ c.requires.0.good_header.stands (omega arith)

pub list_reference-stored-requires : goal.list_reference-stored-requires
list_reference-stored-requires c = let a = c.args in
    let l = c.loop-i in
    let p = c.requires.0 in
    let h = p.good_header in
    record {
      read_at = record { half_small = c.half_of-half.ensures.1; width_least = h.stands.width_least; width_most = h.stands.width_most; inside = l.invariant.0 };
      good_reference = rw (c.half_of-half.ensures.0 ∙ flags_half a.packet.now a.at a.start.n l.i (omega arith) (omega arith)) (list_stands (coding_of a.utf8) (lent_cache a.cache.now) a.packet.now a.at a.start h l.i l.next l.list.places.now l.list.lengths.now l.invariant.2 c.loop-i-test.true);
      cache_sized = p.cache_sized;
      i_small = omega (arith, h.stands.few);
      places_are = l.invariant.1.places_are;
    }

pub overflow_cast-list : goal.overflow_cast-list
overflow_cast-list c = let a = c.args in
    let l = c.loop-i in
    let e : Lists (coding_of a.utf8) (lent_cache a.cache.now) a.packet.now (half (flags_of a.packet.now a.at a.start.n) l.i) a.start.width l.next (32 * l.i) l.list.places.now _ c.list_reference-stored.result = rw (c.half_of-half.ensures.0 ∙ flags_half a.packet.now a.at a.start.n l.i (omega arith) (omega arith)) at c.list_reference-stored.ensures in
    let m = list_inside (coding_of a.utf8) (lent_cache a.cache.now) a.packet.now a.at a.start c.requires.0.good_header l.i l.next l.list.places.now l.list.lengths.now l.invariant.2 c.loop-i-test.true _ _ _ e in omega (arith, m.1)

pub loop-i-preserved : goal.loop-i-preserved
loop-i-preserved c = let a = c.args in
    let l = c.loop-i in
    let e : Lists (coding_of a.utf8) (lent_cache a.cache.now) a.packet.now (half (flags_of a.packet.now a.at a.start.n) l.i) a.start.width l.next (32 * l.i) l.list.places.now _ c.list_reference-stored.result = rw (c.half_of-half.ensures.0 ∙ flags_half a.packet.now a.at a.start.n l.i (omega arith) (omega arith)) at c.list_reference-stored.ensures in (
      (list_inside (coding_of a.utf8) (lent_cache a.cache.now) a.packet.now a.at a.start c.requires.0.good_header l.i l.next l.list.places.now l.list.lengths.now l.invariant.2 c.loop-i-test.true _ _ _ e).0,
      record { places_are = search rules; lengths_are = simp length-set l.invariant.1.lengths_are },
      list_more (coding_of a.utf8) (lent_cache a.cache.now) a.packet.now a.at a.start c.requires.0.good_header l.i l.next l.list.places.now l.list.lengths.now l.invariant.2 c.loop-i-test.true _ _ _ e,
      record { n_same = l.invariant.3.n_same; places_same = l.invariant.3.places_same; lengths_same = l.invariant.3.lengths_same },
    )

pub returns : goal.returns
returns c = let a = c.args in
    let l = c.loop-i in
    record {
      written = list_all (coding_of a.utf8) (lent_cache a.cache.now) a.packet.now a.at a.start l.i l.next l.list.places.now l.list.lengths.now l.invariant.2 (omega arith);
      same = record { n_same = l.invariant.3.n_same; places_same = l.invariant.3.places_same; lengths_same = l.invariant.3.lengths_same };
    }
