-- The functions that compare terms call each other and meet their contracts: each level counts 8, and a function that calls another at its own level counts more.
use mathlib.Core.Path.{◌∙◌}
use native.Mathlib.Omega.{arith}
use Rattle.map_keys.proofs.Found.{no_slots, found_start, found_empty, found_here, found_later, found_none}
use Rattle.map_keys.proofs.Steps.{rows_differ, rows_next, maps_differ, maps_next, rows_ended, no_level, maps_sizes, maps_few, maps_many, pairs_differ, pairs_next, pairs_ended, pair_here, pair_next, pair_none, marked_differ, marked_next, marked_ended}
use Rattle.map_keys.proofs.Slots.{slot_inside, place_at, no_seed, next_seeded}
use Rattle.map_keys.proofs.+compare.Goals as goal
use Rattle.map_keys.proofs.+compare.Goals.{same_maps-then-levels-eq0-via-then-levels-eq0, same_maps-then-levels-eq0-via-else-levels-eq0+then-size-size_in, same_rows-else-unordered-ne0-via-then-unordered-ne0+else-not-same_maps, same_rows-else-unordered-ne0-via-else-unordered-ne0}

pub found_key-returns-then-n-eq0-clause-found : goal.found_key-returns-then-n-eq0-clause-found
found_key-returns-then-n-eq0-clause-found t c = no_slots _ _ _ _ _ _ _ _ c.if-n-eq0.true

pub found_key-loop-d-init : goal.found_key-loop-d-init
found_key-loop-d-init t c = (no_seed _ _ _ _ _ _ _, found_start _ _ _ _ _ _ _ _ c.if-n-eq0.false)

pub found_key-path_slot-i-requires : goal.found_key-path_slot-i-requires
found_key-path_slot-i-requires t c = (omega arith, omega arith, slot_inside _ _ _ _ _ _ _ _ _ c.loop-d.invariant.1.last (omega arith))

pub found_key-returns-in_err-row-clause-found : goal.found_key-returns-in_err-row-clause-found
found_key-returns-in_err-row-clause-found t c = c.from_residual.ensures ∙ found_empty _ _ _ _ _ _ c.loop-d.invariant.1 c.loop-d-test.true _ (place_at _ _ _ _ _ _ _ _ _ _ _ c.loop-d.invariant.1.last c.path_seed-seed.ensures c.path_slot-i.ensures.0 c.path_slot-i.ensures.1) c.in_err-row.ensures

pub found_key-returns-then-same_key-clause-found : goal.found_key-returns-then-same_key-clause-found
found_key-returns-then-same_key-clause-found t c = found_here _ _ _ _ _ _ c.loop-d.invariant.1 c.loop-d-test.true _ (place_at _ _ _ _ _ _ _ _ _ _ _ c.loop-d.invariant.1.last c.path_seed-seed.ensures c.path_slot-i.ensures.0 c.path_slot-i.ensures.1) _ c.in_ok-row.ensures _ c.same_key.ensures c.if-same_key.true

pub found_key-loop-d-preserved : goal.found_key-loop-d-preserved
found_key-loop-d-preserved t c = (next_seeded _ _ _ _ _ _ _ _ c.path_seed-seed.ensures, found_later _ _ _ _ _ _ c.loop-d.invariant.1 c.loop-d-test.true _ (place_at _ _ _ _ _ _ _ _ _ _ _ c.loop-d.invariant.1.last c.path_seed-seed.ensures c.path_slot-i.ensures.0 c.path_slot-i.ensures.1) _ c.in_ok-row.ensures _ c.same_key.ensures c.if-same_key.false)

pub found_key-returns-clause-found : goal.found_key-returns-clause-found
found_key-returns-clause-found t c = found_none _ _ _ _ _ _ c.loop-d.invariant.1 c.loop-d-test.false

pub pair_among-returns-then-same_terms : goal.pair_among-returns-then-same_terms
pair_among-returns-then-same_terms t c = pair_here _ _ _ _ _ _ _ c.loop.invariant.1 c.loop-test.true _ c.same_terms.ensures c.if-same_terms.true _ _ _ _ c.row_at.ensures c.size_in.ensures.0 c.row_at-then-same_terms.ensures c.size_in-then-same_terms.ensures.0 _ c.same_terms-then-same_terms.ensures

pub pair_among-loop-preserved : goal.pair_among-loop-preserved
pair_among-loop-preserved t c = (omega arith, pair_next _ _ _ _ _ _ _ c.loop.invariant.1 c.loop-test.true _ c.same_terms.ensures c.if-same_terms.false _ c.pair_size-x.ensures.0)

pub pair_among-returns : goal.pair_among-returns
pair_among-returns t c = pair_none _ _ _ _ _ _ _ c.loop.invariant.1 c.loop-test.false

pub pairs_among-returns-then-not-pair_around : goal.pairs_among-returns-then-not-pair_around
pairs_among-returns-then-not-pair_around t c = pairs_differ _ _ _ _ _ _ _ _ c.loop-i.invariant.2 c.loop-i-test.true _ c.pair_around.ensures c.if-not-pair_around.true

pub pairs_among-loop-i-preserved : goal.pairs_among-loop-i-preserved
pairs_among-loop-i-preserved t c = (omega arith, omega arith, pairs_next _ _ _ _ _ _ _ _ c.loop-i.invariant.2 c.loop-i-test.true _ c.pair_around.ensures c.if-not-pair_around.false _ _ c.pair_size-x.ensures.0 c.pair_size-y.ensures.0)

pub pairs_among-returns : goal.pairs_among-returns
pairs_among-returns t c = pairs_ended _ _ _ _ _ _ _ _ c.loop-i.invariant.2 c.loop-i-test.false

pub pairs_marked-returns-then-not-pair_marked : goal.pairs_marked-returns-then-not-pair_marked
pairs_marked-returns-then-not-pair_marked t c = marked_differ _ _ _ _ _ _ _ _ _ c.loop.invariant.1 c.loop-test.true _ c.pair_marked.ensures c.if-not-pair_marked.true

pub pairs_marked-loop-preserved : goal.pairs_marked-loop-preserved
pairs_marked-loop-preserved t c = (omega arith, marked_next _ _ _ _ _ _ _ _ _ c.loop.invariant.1 c.loop-test.true _ c.pair_marked.ensures c.if-not-pair_marked.false _ c.pair_size-x.ensures.0)

pub pairs_marked-returns : goal.pairs_marked-returns
pairs_marked-returns t c = marked_ended _ _ _ _ _ _ _ _ _ c.loop.invariant.1 c.loop-test.false

pub same_maps-returns-then-levels-eq0 : goal.same_maps-returns-then-levels-eq0
same_maps-returns-then-levels-eq0 t c =
    elim c.then-levels-eq0.branch [
      | same_maps-then-levels-eq0-via-then-levels-eq0 w ↦ no_level _ _ _ _ _ _ w.if-levels-eq0.true
      | same_maps-then-levels-eq0-via-else-levels-eq0+then-size-size_in w ↦ maps_sizes _ _ _ _ _ _ w.if-levels-eq0.false _ _ _ _ c.row_at-v.ensures w.row_at.ensures c.size_in-size.ensures.0 w.size_in.ensures.0 w.if-size-size_in.true
    ]

pub same_maps-returns-then-n-lt-MANY_PAIRS : goal.same_maps-returns-then-n-lt-MANY_PAIRS
same_maps-returns-then-n-lt-MANY_PAIRS t c = maps_few _ _ _ _ _ _ c.if-levels-eq0.false _ _ _ _ c.row_at-v.ensures c.row_at.ensures c.size_in-size.ensures.0 c.size_in.ensures.0 c.if-size-size_in.false _ c.parts_in-n.ensures.0 c.if-n-lt-MANY_PAIRS.true _ c.pairs_among.ensures

pub same_maps-returns-else-n-lt-MANY_PAIRS : goal.same_maps-returns-else-n-lt-MANY_PAIRS
same_maps-returns-else-n-lt-MANY_PAIRS t c = maps_many _ _ _ _ _ _ c.if-levels-eq0.false _ _ _ _ c.row_at-v.ensures c.row_at.ensures c.size_in-size.ensures.0 c.size_in.ensures.0 c.if-size-size_in.false _ c.parts_in-n.ensures.0 c.if-n-lt-MANY_PAIRS.false _ c.size_in-size.ensures.0 _ c.many_among.ensures

pub same_rows-returns-then-not-same_row : goal.same_rows-returns-then-not-same_row
same_rows-returns-then-not-same_row t c = rows_differ _ _ _ _ _ _ _ _ c.loop-i.invariant c.loop-i-test.true _ _ c.row_at-v.ensures c.row_at-w.ensures _ c.same_row.ensures c.if-not-same_row.true

pub same_rows-returns-then-not-same_maps : goal.same_rows-returns-then-not-same_maps
same_rows-returns-then-not-same_maps t c = maps_differ _ _ _ _ _ _ _ _ c.loop-i.invariant c.loop-i-test.true _ _ c.row_at-v.ensures c.row_at-w.ensures _ c.same_row.ensures c.if-not-same_row.false _ c.unordered_rows-unordered.ensures.0 c.if-unordered-ne0.true _ c.same_maps.ensures c.if-not-same_maps.true

pub same_rows-loop-i-preserved : goal.same_rows-loop-i-preserved
same_rows-loop-i-preserved t c =
    elim c.else-unordered-ne0.branch [
      | same_rows-else-unordered-ne0-via-then-unordered-ne0+else-not-same_maps w ↦
          maps_next _ _ _ _ _ _ _ _ c.loop-i.invariant c.loop-i-test.true _ _ c.row_at-v.ensures c.row_at-w.ensures _ c.same_row.ensures c.if-not-same_row.false _ c.unordered_rows-unordered.ensures.0 w.if-unordered-ne0.true _ w.same_maps.ensures w.if-not-same_maps.false
      | same_rows-else-unordered-ne0-via-else-unordered-ne0 w ↦
          rows_next _ _ _ _ _ _ _ _ c.loop-i.invariant c.loop-i-test.true _ _ c.row_at-v.ensures c.row_at-w.ensures _ c.same_row.ensures c.if-not-same_row.false _ c.unordered_rows-unordered.ensures.0 w.if-unordered-ne0.false
    ]

pub same_rows-returns : goal.same_rows-returns
same_rows-returns t c = rows_ended _ _ _ _ _ _ _ _ c.loop-i.invariant c.loop-i-test.false
