-- `take_header` meets its contract.
use Rattle.std.proofs.lemmas.Result.{err_from_is_err_and}
use Rattle.cache_entries.proofs.Loops.{list_same}
use Rattle.headed_packets.proofs.Headers.{told_inside, told_good, heads_refused, heads_long, heads_good}
use Rattle.headed_packets.proofs.take_header.Goals as goal

pub returns-in_err-header : goal.returns-in_err-header
returns-in_err-header c = let p = err_from_is_err_and c.from_residual.result c.from_residual.ensures.1 in rw (p.1, p.2) (record { heads = heads_refused _ _ _ _ _ _ c.in_err-header.ensures; same = list_same _ })

pub overflow_sub-size : goal.overflow_sub-size
overflow_sub-size c = told_inside _ _ _ _ _ c.in_ok-header.ensures

pub returns-then-size-gt-MESSAGE_MOST : goal.returns-then-size-gt-MESSAGE_MOST
returns-then-size-gt-MESSAGE_MOST c = record { heads = heads_long _ _ _ _ _ c.in_ok-header.ensures _ c.if-size-gt-MESSAGE_MOST.true; same = list_same _ }

pub write_list-requires : goal.write_list-requires
write_list-requires c = let p = c.requires in (record { cache_sized = p.1; good_header = told_good _ _ _ _ _ c.in_ok-header.ensures }, p.2)

pub write_cache-requires : goal.write_cache-requires
write_cache-requires c = record { cache_sized = c.requires.1; good_header = told_good _ _ _ _ _ c.in_ok-header.ensures }

pub returns : goal.returns
returns c = record { heads = heads_good _ _ _ _ _ c.in_ok-header.ensures _ _ _ c.if-size-gt-MESSAGE_MOST.false c.write_list.ensures.written c.write_cache.ensures; same = c.write_list.ensures.same }
