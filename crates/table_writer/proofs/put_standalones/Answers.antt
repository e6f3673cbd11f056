-- `put_standalones` meets its contract. What is left to store comes to the whole, as in a run of parts.
use Rattle.table_writer.proofs.Standalones.{standalones_none, standalones_more}
use Rattle.term_writer.proofs.Terms.{put_start, put_step, put_end, put_fits, put_rest, left_size}
use Rattle.term_writer.proofs.Strings.{run_below}
use Rattle.term_spec.specs.Canonical.{canonical_standalone, standalones}
use native.Mathlib.Omega.{arith}
use mathlib.Core.Path.{refl}
use Rattle.table_writer.proofs.put_standalones.Goals as goal

pub loop-init : goal.loop-init
loop-init c = λ ts h o e. put_start canonical_standalone standalones standalones_none standalones_more _ _ _ _ ts h o (omega arith)

pub put_standalone-end-requires : goal.put_standalone-end-requires
put_standalone-end-requires c = put_fits canonical_standalone standalones standalones_none standalones_more c.requires c.loop.invariant (omega arith) c.loop.auto.out

pub offset_bounds-rows-next : goal.offset_bounds-rows-next
offset_bounds-rows-next c = let b = left_size _ (put_rest c.requires c.loop.invariant) (omega arith) refl in omega arith

pub bounds-rows-next : goal.bounds-rows-next
bounds-rows-next c = run_below (put_rest c.requires c.loop.invariant) (omega arith)

pub overflow_add-next : goal.overflow_add-next
overflow_add-next c = let b = left_size _ (put_rest c.requires c.loop.invariant) (omega arith) c.size_in-next.ensures.0 in omega arith

pub loop-preserved : goal.loop-preserved
loop-preserved c = λ ts h o e. put_step canonical_standalone standalones standalones_none standalones_more _ _ (c.loop.invariant ts h o e) (omega arith) c.size_in-next.ensures.0 c.put_standalone-end.ensures

pub returns : goal.returns
returns c = λ ts h o e. put_end canonical_standalone standalones standalones_none standalones_more (c.loop.invariant ts h o e) (omega arith)
