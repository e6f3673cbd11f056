-- `length_run` and `length_term` meet their contracts. The measure is the rows from a term on, to the table's end. In the loop, the sum and what the terms left have come to the whole.
use Rattle.term_writer.proofs.Terms.{length_start, length_step, length_end, length_rest, length_room, left_term, left_size, few_rows, string_length, parts_length, leaf_length}
use Rattle.term_writer.proofs.Strings.{run_below, term_below, term_sound, parts_run}
use native.Mathlib.Omega.{arith}
use mathlib.Core.Path.{refl, sym, ◌∙◌}
use Rattle.term_writer.proofs.+length.Goals as goal

pub length_run-loop-init : goal.length_run-loop-init
length_run-loop-init t c = (omega arith, λ ts h e. length_start _ _ ts h (omega arith))

pub length_run-length_term-sum-requires : goal.length_run-length_term-sum-requires
length_run-length_term-sum-requires t c = (omega arith, left_term (length_rest c.requires c.loop.invariant.1) (omega arith))

pub length_run-overflow_add-sum : goal.length_run-overflow_add-sum
length_run-overflow_add-sum t c = let b = length_room c.requires c.loop.invariant.1 _ (omega arith) c.length_term-sum.ensures in omega arith

pub length_run-offset_bounds-rows-next : goal.length_run-offset_bounds-rows-next
length_run-offset_bounds-rows-next t c = let b = left_size _ (length_rest c.requires c.loop.invariant.1) (omega arith) refl in omega arith

pub length_run-bounds-rows-next : goal.length_run-bounds-rows-next
length_run-bounds-rows-next t c = run_below (length_rest c.requires c.loop.invariant.1) (omega arith)

pub length_run-overflow_add-next : goal.length_run-overflow_add-next
length_run-overflow_add-next t c = let b = left_size _ (length_rest c.requires c.loop.invariant.1) (omega arith) c.size_in-next.ensures.0 in omega arith

pub length_run-loop-preserved : goal.length_run-loop-preserved
length_run-loop-preserved t c = (omega arith, λ ts h e. length_step _ _ (c.loop.invariant.1 ts h e) (omega arith) c.size_in-next.ensures.0 c.length_term-sum.ensures)

pub length_run-returns : goal.length_run-returns
length_run-returns t c = λ ts h e. length_end (c.loop.invariant.1 ts h e) (omega arith)

pub length_term-bounds-rows-row : goal.length_term-bounds-rows-row
length_term-bounds-rows-row t c = term_below c.requires

pub length_term-own_length-requires : goal.length_term-own_length-requires
length_term-own_length-requires t c = term_sound c.requires

pub length_term-returns-then-n-eq0 : goal.length_term-returns-then-n-eq0
length_term-returns-then-n-eq0 t c = λ t h. leaf_length c.parts_in-n.ensures.0 c.if-n-eq0.true _ c.own_length.ensures.0 c.own_length.ensures.1 t h

pub length_term-returns-then-is_string : goal.length_term-returns-then-is_string
length_term-returns-then-is_string t c = λ t h. string_length _ c.parts_in-n.ensures.0 t h (sym (c.is_string.ensures t h) ∙ c.if-is_string.true)

pub length_term-own_length-own-requires : goal.length_term-own_length-own-requires
length_term-own_length-own-requires t c = term_sound c.requires

pub length_term-length_run-inner-requires : goal.length_term-length_run-inner-requires
length_term-length_run-inner-requires t c = let a = c.requires in let b = term_below a in (omega arith, parts_run _ c.parts_in-n.ensures.0 a)

pub length_term-overflow_add-result-2 : goal.length_term-overflow_add-result-2
length_term-overflow_add-result-2 t c = let asked = c.requires in
    let p = parts_length _ _ _ c.parts_in-n.ensures.0 c.own_length-own.ensures.0 c.own_length-own.ensures.1 c.length_run-inner.ensures asked.term asked.held (sym (c.is_string.ensures asked.term asked.held) ∙ c.if-is_string.false) in let f = few_rows asked.term asked.held in omega arith

pub length_term-returns : goal.length_term-returns
length_term-returns t c = λ t h. parts_length _ _ _ c.parts_in-n.ensures.0 c.own_length-own.ensures.0 c.own_length-own.ensures.1 c.length_run-inner.ensures t h (sym (c.is_string.ensures t h) ∙ c.if-is_string.false)
