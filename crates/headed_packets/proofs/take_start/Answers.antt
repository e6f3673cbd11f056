-- `take_start` meets its contract.
use native.Mathlib.Omega.{arith}
use Rattle.cache_entries.specs.Code.{list_lent}
use Rattle.cache_entries.proofs.Loops.{list_same}
use Rattle.term_spec.specs.Text.{coding_of}
use Rattle.packet_spec.specs.Memory.{cache_of}
use Rattle.headed_packets.proofs.Rests.{start_again, start_refused, start_good}
use Rattle.headed_packets.proofs.Headers.{head_inside}
use Rattle.headed_packets.proofs.take_start.Goals as goal

pub returns-then-pending-ne0 : goal.returns-then-pending-ne0
returns-then-pending-ne0 c = let a = c.args in
    rw c.refused.ensures (record { takes = record { takes_start = λ plain_list. start_again (coding_of a.utf8) (cache_of a.cache.now a.cache_lengths.now) (cache_of a.cache.now a.cache_lengths.now) (list_lent a.list.now) (list_lent a.list.now) a.packet.now plain_list a.pending a.gather.now a.ids.sequence a.ids.fragment c.if-pending-ne0.true }; same = list_same _ })

pub copy-requires : goal.copy-requires
copy-requires c = let i = head_inside _ _ _ _ _ _ _ _ c.in-Ok.ensures.heads in (i.0, omega (arith, i.1, c.requires.3))

pub returns-in-Err : goal.returns-in-Err
returns-in-Err c = record { takes = record { takes_start = λ plain_list. start_refused _ _ _ _ _ c.args.packet.now plain_list _ _ _ _ c.if-pending-ne0.false _ c.in-Err.ensures.heads }; same = c.in-Err.ensures.same }

pub returns-in-Ok : goal.returns-in-Ok
returns-in-Ok c = record { takes = record { takes_start = λ plain_list. start_good _ _ _ _ _ c.args.packet.now plain_list _ _ _ _ c.if-pending-ne0.false _ _ _ c.in-Ok.ensures.heads c.copy.ensures c.after_fragment.ensures }; same = c.in-Ok.ensures.same }
