-- `write_cache` meets its contract.
use mathlib.Core.Path.{◌∙◌}
use native.Mathlib.Omega.{arith}
use borrow.Author.Rules.{rules}
use Rattle.term_spec.specs.Text.{coding_of}
use Rattle.packet_spec.specs.Header.{half}
use Rattle.packet_spec.specs.Memory.{cache_of, held}
use Rattle.dist_header.proofs.Standing.{flags_half, flags_inside}
use Rattle.dist_header.specs.Code.{flags_of}
use Rattle.cache_entries.specs.Code.{Enters}
use Rattle.cache_entries.proofs.Loops.{cache_none, cache_stands, cache_inside, cache_more, cache_all}
use Rattle.cache_entries.proofs.write_cache.Goals as goal

pub loop-i-init : goal.loop-i-init
loop-i-init c = let a = c.args in
    let p = c.requires in (p.good_header.stands.first_inside, p.cache_sized, cache_none (coding_of a.utf8) (cache_of a.cache.now a.cache_lengths.now) a.packet.now a.at a.start)

pub half_of-half-requires : goal.half_of-half-requires
half_of-half-requires c = flags_inside _ _ _ _ c.requires.good_header.stands (omega arith)

pub enter_reference-next-requires : goal.enter_reference-next-requires
enter_reference-next-requires c = let a = c.args in
    let l = c.loop-i in
    let h = c.requires.good_header in
    record {
      read_at = record { half_small = c.half_of-half.ensures.1; width_least = h.stands.width_least; width_most = h.stands.width_most; inside = l.invariant.0 };
      holding = held (cache_of a.cache.now a.cache_lengths.now);
      good_reference = rw (c.half_of-half.ensures.0 ∙ flags_half a.packet.now a.at a.start.n l.i (omega arith) (omega arith)) (cache_stands (coding_of a.utf8) (cache_of a.cache.now a.cache_lengths.now) a.packet.now a.at a.start h l.i l.next (cache_of l.cache l.cache_lengths) l.invariant.2 c.loop-i-test.true);
      cache_sized = l.invariant.1;
    }

pub loop-i-preserved : goal.loop-i-preserved
loop-i-preserved c = let a = c.args in
    let l = c.loop-i in
    let e : Enters (coding_of a.utf8) a.packet.now (half (flags_of a.packet.now a.at a.start.n) l.i) a.start.width l.next (cache_of l.cache l.cache_lengths) _ c.enter_reference-next.result = rw (c.half_of-half.ensures.0 ∙ flags_half a.packet.now a.at a.start.n l.i (omega arith) (omega arith)) at c.enter_reference-next.ensures in (
      cache_inside (coding_of a.utf8) (cache_of a.cache.now a.cache_lengths.now) a.packet.now a.at a.start c.requires.good_header l.i l.next (cache_of l.cache l.cache_lengths) l.invariant.2 c.loop-i-test.true _ _ e,
      record { places_are = search rules; lengths_are = search rules },
      cache_more (coding_of a.utf8) (cache_of a.cache.now a.cache_lengths.now) a.packet.now a.at a.start c.requires.good_header l.i l.next (cache_of l.cache l.cache_lengths) l.invariant.2 c.loop-i-test.true _ _ e,
    )

pub returns : goal.returns
returns c = let a = c.args in
    let l = c.loop-i in
    cache_all (coding_of a.utf8) (cache_of a.cache.now a.cache_lengths.now) a.packet.now a.at a.start l.i l.next (cache_of l.cache l.cache_lengths) l.invariant.2 (omega arith)
