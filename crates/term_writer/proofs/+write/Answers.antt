-- `write_term`, `write_parts`, `write_run` and `write_pairs` meet their contracts. The measure is the rows from a term on, to the table's end, then which function it is.
-- In the loops, what is left to store comes to the whole.
use Rattle.term_writer.proofs.Pairs.{pairs_start, pairs_step, pairs_end, pairs_here, pair_from, pair_fits, slot_there, slot_some, slot_none, key_below, key_size, value_below, value_size, pairs_room, pairs_put, run_room, run_put}
use Rattle.term_writer.proofs.Terms.{put_start, put_step, put_end, put_fits, put_rest, canonicals_none, canonicals_more, left_size, string_needs, string_written, parts_put, leaf_room, leaf_put, before_room, parts_room, after_room, fits_some, parts_some}
use Rattle.term_writer.proofs.Strings.{run_below, term_below, term_sound}
use Rattle.term_writer.specs.Code.{canonicals}
use Rattle.term_spec.specs.Canonical.{canonical}
use native.Mathlib.Omega.{arith}
use mathlib.Core.Logic.{inl, inr}
use mathlib.Core.Path.{refl, sym, ◌∙◌}
use Rattle.term_writer.proofs.+write.Goals as goal
use Rattle.term_writer.proofs.+write.Goals.{write_parts-else-has_order-via-then-has_order+else-is_some, write_parts-else-has_order-via-else-has_order}

pub write_pairs-loop-init : goal.write_pairs-loop-init
write_pairs-loop-init t c = λ ts h o p e. pairs_start _ _ _ _ _ ts h p (omega arith) c.requires.fit_slots

pub write_pairs-bounds-order-key : goal.write_pairs-bounds-order-key
write_pairs-bounds-order-key t c = slot_there c.requires c.loop.invariant (omega arith) _ refl

pub write_pairs-offset_bounds-order-key : goal.write_pairs-offset_bounds-order-key
write_pairs-offset_bounds-order-key t c = let b = slot_there c.requires c.loop.invariant (omega arith) _ refl in omega arith

pub write_pairs-write_run-end-requires : goal.write_pairs-write_run-end-requires
write_pairs-write_run-end-requires t c = let a = c.requires in let f = pair_from a c.loop.invariant (omega arith) _ c.from-slot.ensures in (omega arith, pair_fits a c.loop.invariant (omega arith) _ c.from-slot.ensures _ c.loop.auto.out)

pub write_pairs-offset_bounds-rows-key : goal.write_pairs-offset_bounds-rows-key
write_pairs-offset_bounds-rows-key t c = let g = pairs_here c.requires c.loop.invariant in let b = key_size g (omega arith) _ refl in omega arith

pub write_pairs-bounds-rows-key : goal.write_pairs-bounds-rows-key
write_pairs-bounds-rows-key t c = key_below (pairs_here c.requires c.loop.invariant) (omega arith)

pub write_pairs-overflow_add-value : goal.write_pairs-overflow_add-value
write_pairs-overflow_add-value t c = let g = pairs_here c.requires c.loop.invariant in let b = key_size g (omega arith) _ c.size_in.ensures.0 in omega arith

pub write_pairs-offset_bounds-rows-value : goal.write_pairs-offset_bounds-rows-value
write_pairs-offset_bounds-rows-value t c = let g = pairs_here c.requires c.loop.invariant in let b = value_size g (omega arith) _ c.size_in.ensures.0 _ refl in omega arith

pub write_pairs-bounds-rows-value : goal.write_pairs-bounds-rows-value
write_pairs-bounds-rows-value t c = value_below (pairs_here c.requires c.loop.invariant) (omega arith) _ c.size_in.ensures.0

pub write_pairs-overflow_add-key : goal.write_pairs-overflow_add-key
write_pairs-overflow_add-key t c = let g = pairs_here c.requires c.loop.invariant in let b = value_size g (omega arith) _ c.size_in.ensures.0 _ c.size_in-in-loop.ensures.0 in omega arith

pub write_pairs-loop-preserved : goal.write_pairs-loop-preserved
write_pairs-loop-preserved t c = let here = c.loop in
    λ ts h o p e. pairs_step (here.invariant ts h o p e) (omega arith) _ c.from-slot.ensures h o _ c.size_in.ensures.0 _ c.size_in-in-loop.ensures.0 _ c.write_run-end.ensures (omega arith)

pub write_pairs-returns : goal.write_pairs-returns
write_pairs-returns t c = λ ts h o p e. pairs_end (c.loop.invariant ts h o p e) (omega arith)

pub write_parts-bounds-rows-row : goal.write_parts-bounds-rows-row
write_parts-bounds-rows-row t c = term_below (parts_some c.requires)

pub write_parts-write_pairs-requires : goal.write_parts-write_pairs-requires
write_parts-write_pairs-requires t c = let a = c.requires in let b = term_below (parts_some a) in (omega arith, pairs_room _ c.parts_in-n.ensures.0 (c.has_order.ensures.0 c.if-has_order.true) (slot_some _ c.slot_at.ensures (sym c.is_some.ensures ∙ c.if-is_some.true)) a)

pub write_parts-returns-then-is_some : goal.write_parts-returns-then-is_some
write_parts-returns-then-is_some t c = pairs_put _ c.parts_in-n.ensures.0 (c.has_order.ensures.0 c.if-has_order.true) (slot_some _ c.slot_at.ensures (sym c.is_some.ensures ∙ c.if-is_some.true)) c.write_pairs.ensures

pub write_parts-write_run-requires : goal.write_parts-write_run-requires
write_parts-write_run-requires t c = let a = c.requires in let b = term_below (parts_some a) in let o = c.has_order.ensures in (
  omega arith,
  run_room _ c.parts_in-n.ensures.0 (elim c.else-has_order.branch [
    | write_parts-else-has_order-via-then-has_order+else-is_some w ↦ inl (o.0 w.if-has_order.true, slot_none _ w.slot_at.ensures (sym w.is_some.ensures ∙ w.if-is_some.false))
    | write_parts-else-has_order-via-else-has_order w ↦ inr (o.1 w.if-has_order.false)
  ]) a,
)

pub write_parts-returns : goal.write_parts-returns
write_parts-returns t c = let o = c.has_order.ensures in run_put _ c.parts_in-n.ensures.0 (elim c.else-has_order.branch [
  | write_parts-else-has_order-via-then-has_order+else-is_some w ↦ inl (o.0 w.if-has_order.true, slot_none _ w.slot_at.ensures (sym w.is_some.ensures ∙ w.if-is_some.false))
  | write_parts-else-has_order-via-else-has_order w ↦ inr (o.1 w.if-has_order.false)
]) c.write_run.ensures

pub write_run-loop-init : goal.write_run-loop-init
write_run-loop-init t c = (omega arith, λ ts h o e. put_start canonical canonicals canonicals_none canonicals_more _ _ _ _ ts h o (omega arith))

pub write_run-write_term-end-requires : goal.write_run-write_term-end-requires
write_run-write_term-end-requires t c = (omega arith, put_fits canonical canonicals canonicals_none canonicals_more c.requires c.loop.invariant.1 (omega arith) c.loop.auto.out)

pub write_run-offset_bounds-rows-next : goal.write_run-offset_bounds-rows-next
write_run-offset_bounds-rows-next t c = let b = left_size _ (put_rest c.requires c.loop.invariant.1) (omega arith) refl in omega arith

pub write_run-bounds-rows-next : goal.write_run-bounds-rows-next
write_run-bounds-rows-next t c = run_below (put_rest c.requires c.loop.invariant.1) (omega arith)

pub write_run-overflow_add-next : goal.write_run-overflow_add-next
write_run-overflow_add-next t c = let b = left_size _ (put_rest c.requires c.loop.invariant.1) (omega arith) c.size_in-next.ensures.0 in omega arith

pub write_run-loop-preserved : goal.write_run-loop-preserved
write_run-loop-preserved t c = let here = c.loop in (
  omega arith,
  λ ts h o e. put_step canonical canonicals canonicals_none canonicals_more _ _ (here.invariant.1 ts h o e) (omega arith) c.size_in-next.ensures.0 c.write_term-end.ensures,
)

pub write_run-returns : goal.write_run-returns
write_run-returns t c = λ ts h o e. put_end canonical canonicals canonicals_none canonicals_more (c.loop.invariant.1 ts h o e) (omega arith)

pub write_term-bounds-rows-row : goal.write_term-bounds-rows-row
write_term-bounds-rows-row t c = term_below (fits_some c.requires)

pub write_term-put_leaf-requires : goal.write_term-put_leaf-requires
write_term-put_leaf-requires t c = let a = c.requires in (term_sound (fits_some a), leaf_room c.parts_in-n.ensures.0 c.if-n-eq0.true a)

pub write_term-returns-then-n-eq0 : goal.write_term-returns-then-n-eq0
write_term-returns-then-n-eq0 t c = λ t h o. leaf_put c.parts_in-n.ensures.0 c.if-n-eq0.true c.put_leaf.ensures t h

pub write_term-is_string-requires : goal.write_term-is_string-requires
write_term-is_string-requires t c = fits_some c.requires

pub write_term-put_string-requires : goal.write_term-put_string-requires
write_term-put_string-requires t c = string_needs c.parts_in-n.ensures.0 c.requires c.is_string.ensures c.if-is_string.true

pub write_term-returns-then-is_string : goal.write_term-returns-then-is_string
write_term-returns-then-is_string t c = λ t h o. string_written c.parts_in-n.ensures.0 c.put_string.ensures t h (sym (c.is_string.ensures t h) ∙ c.if-is_string.true)

pub write_term-put_before-first-requires : goal.write_term-put_before-first-requires
write_term-put_before-first-requires t c = let a = c.requires in (term_sound (fits_some a), before_room a c.is_string.ensures c.if-is_string.false)

pub write_term-write_parts-end-requires : goal.write_term-write_parts-end-requires
write_term-write_parts-end-requires t c = (omega arith, parts_room c.requires c.is_string.ensures c.if-is_string.false c.put_before-first.ensures)

pub write_term-put_after-requires : goal.write_term-put_after-requires
write_term-put_after-requires t c = let a = c.requires in (term_sound (fits_some a), after_room a c.is_string.ensures c.if-is_string.false c.put_before-first.ensures c.write_parts-end.ensures)

pub write_term-returns : goal.write_term-returns
write_term-returns t c = λ t h o. parts_put _ c.put_before-first.ensures c.write_parts-end.ensures c.put_after.ensures t h o (sym (c.is_string.ensures t h) ∙ c.if-is_string.false)
