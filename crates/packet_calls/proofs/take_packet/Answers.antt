-- `take_packet` meets its contract.
use mathlib.Core.Path.{ap}
use mathlib.Core.Bool.{not}
use mathlib.Core.Path.{refl}
use Rattle.packet_spec.specs.Memory.{none_pending, cache_of, memory_of}
use Rattle.packet_preamble.proofs.Preambles.{plain_there, start_there, more_there}
use Rattle.term_spec.specs.AtomList.{lent_list}
use Rattle.packet_spec.specs.Promises.{PacketCall}
use borrow.Author.Rules.{rules}
use Rattle.packet_calls.proofs.Whole.{list_told, size_done, unknown_done, false_done, preamble_done, plain_done, start_done, more_done}
use Rattle.lent_memory.proofs.Sizes.{lengths_told}
use Rattle.packet_calls.proofs.take_packet.Goals as goal

pub returns-then-not-memory_fits : goal.returns-then-not-memory_fits
returns-then-not-memory_fits c = rw c.refused.ensures (size_done _ _ _ (c.memory_fits.ensures.fits_told _ _ _) (ap not c.if-not-memory_fits.true))

pub returns-then-not-flags_known : goal.returns-then-not-flags_known
returns-then-not-flags_known c = rw c.refused-then-not-flags_known.ensures (unknown_done _ _ _ (c.memory_fits.ensures.fits_told _ _ _) (ap not c.if-not-memory_fits.false) c.flags_known.ensures (ap not c.if-not-flags_known.true))

pub returns-then-pending : goal.returns-then-pending
returns-then-pending c = rw c.refused-then-pending.ensures (false_done _ _ _ (c.memory_fits.ensures.fits_told _ _ _) (ap not c.if-not-memory_fits.false) c.flags_known.ensures (ap not c.if-not-flags_known.false) c.if-pending.true)

pub take_plain-answer-requires : goal.take_plain-answer-requires
take_plain-answer-requires c = let z = lengths_told _ (c.memory_fits.ensures.fits_told 0 0 none_pending) (ap not c.if-not-memory_fits.false) in
    (plain_there _ (rw c.in-Ok-Plain.field-0-is at c.in-Ok-Plain.ensures), z.cache_sized, record { places_are = z.plain_places; lengths_are = z.plain_lengths })

pub take_start-requires : goal.take_start-requires
take_start-requires c = let z = lengths_told _ (c.memory_fits.ensures.fits_told 0 0 none_pending) (ap not c.if-not-memory_fits.false) in
    let t = start_there _ _ (rw c.in-Ok-Start.field-0-is at c.in-Ok-Start.ensures) in
    (t.inside, z.cache_sized, record { places_are = z.pending_places; lengths_are = z.pending_lengths }, z.gathered, t.counts)

pub take_continuation-requires : goal.take_continuation-requires
take_continuation-requires c = let z = lengths_told _ (c.memory_fits.ensures.fits_told 0 0 none_pending) (ap not c.if-not-memory_fits.false) in
    let t = more_there _ _ (rw c.in-Ok-Continuation.field-0-is at c.in-Ok-Continuation.ensures) in
    (t.inside, z.gathered, t.counts, c.if-pending.false)

pub returns-in-Err : goal.returns-in-Err
returns-in-Err c = rw c.refused-in-Err.ensures (preamble_done _ _ _ (c.memory_fits.ensures.fits_told _ _ _) (ap not c.if-not-memory_fits.false) c.flags_known.ensures (ap not c.if-not-flags_known.false) c.if-pending.false _ c.in-Err.ensures)

pub returns-in-Ok-Plain : goal.returns-in-Ok-Plain
returns-in-Ok-Plain c =
    let a = c.args in
    list_told (λ list. PacketCall a.connection.flags a.packet.now (memory_of (cache_of a.cache.now a.cache_lengths.now) (lent_list a.plain_n.now a.plain_places.now a.plain_lengths.now) (lent_list a.pending_n.now a.pending_places.now a.pending_lengths.now) a.pending a.gather.now) (record { answer = c.take_plain-answer.result; pending = a.pending })
    (memory_of (cache_of c.take_plain-answer.new.cache c.take_plain-answer.new.cache_lengths) list (lent_list a.pending_n.now a.pending_places.now a.pending_lengths.now) a.pending a.gather.now))
    c.take_plain-answer.new.list (search rules) (search rules) (search rules)
    (plain_done _ _ _ (c.memory_fits.ensures.fits_told _ _ _) (ap not c.if-not-memory_fits.false) c.flags_known.ensures (ap not c.if-not-flags_known.false) c.if-pending.false c.utf8_agreed-utf8.ensures (rw c.in-Ok-Plain.field-0-is at c.in-Ok-Plain.ensures) _ _ refl (c.take_plain-answer.ensures.takes.takes_plain _ _ _))

pub returns-in-Ok-Start : goal.returns-in-Ok-Start
returns-in-Ok-Start c =
    let a = c.args in
    list_told (λ list. PacketCall a.connection.flags a.packet.now (memory_of (cache_of a.cache.now a.cache_lengths.now) (lent_list a.plain_n.now a.plain_places.now a.plain_lengths.now) (lent_list a.pending_n.now a.pending_places.now a.pending_lengths.now) a.pending a.gather.now) c.take_start.result
    (memory_of (cache_of c.take_start.new.cache c.take_start.new.cache_lengths) (lent_list a.plain_n.now a.plain_places.now a.plain_lengths.now) list c.take_start.result.pending c.take_start.new.gather))
    c.take_start.new.list (search rules) (search rules) (search rules)
    (start_done _ _ _ (c.memory_fits.ensures.fits_told _ _ _) (ap not c.if-not-memory_fits.false) c.flags_known.ensures (ap not c.if-not-flags_known.false) c.if-pending.false c.utf8_agreed-utf8.ensures _ (rw c.in-Ok-Start.field-0-is at c.in-Ok-Start.ensures) _ _ refl (c.take_start.ensures.takes.takes_start _))

pub returns-in-Ok-Continuation : goal.returns-in-Ok-Continuation
returns-in-Ok-Continuation c = more_done _ _ _ (c.memory_fits.ensures.fits_told _ _ _) (ap not c.if-not-memory_fits.false) c.flags_known.ensures (ap not c.if-not-flags_known.false) c.if-pending.false _ (rw c.in-Ok-Continuation.field-0-is at c.in-Ok-Continuation.ensures) _ _ refl (c.take_continuation.ensures.takes_continuation _ _ _ _)
