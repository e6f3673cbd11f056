-- Demand 2 over the calls `take_packet`, `drop_sequence` and `reset`: their promises are the relations `PacketCall`, `DropCall`, `ResetCall`, and what any run of
-- calls by these relations comes to is `Demand2` (packet_spec/specs/Demands).
use mathlib.Core.List.{List}
use contract.Lifetimes.{Lfts}
use Rattle.term_spec.specs.AtomList.{lent_list}
use Rattle.packet_spec.specs.Memory.{Memory, cache_of, memory_of}
use Rattle.packet_spec.specs.Promises.{PacketCall, DropCall, ResetCall}
use Rattle.packet_spec.specs.Runs.{Call, AllBytes}
use Rattle.packet_spec.specs.Demands.{Ran, Demand2}
use Rattle.packet_spec.specs.BadReferences.{BadReferences}
use Rattle.packet_spec.proofs.Demand as definitions
use Rattle.packet_spec.proofs.BadReferences as references
use Rattle.packet_calls.proofs.take_packet.Reads as taking_call
use Rattle.link_state.proofs.drop_sequence.Reads as dropping_call
use Rattle.link_state.proofs.reset.Reads as resetting_call

-- These are the promises of the calls
pub promised_take_packet : (κs : Lfts 10) (a : _) (r : _) (s : _) → taking_call.Post κs a r s
    → PacketCall a.0.flags a.1.0.now
    (memory_of (cache_of a.1.1.0.now a.1.1.1.0.now)
    (lent_list a.1.1.1.1.0.now a.1.1.1.1.1.0.now a.1.1.1.1.1.1.0.now)
    (lent_list a.1.1.1.1.1.1.1.0.now a.1.1.1.1.1.1.1.1.0.now a.1.1.1.1.1.1.1.1.1.0.now)
    a.1.1.1.1.1.1.1.1.1.1.0 a.1.1.1.1.1.1.1.1.1.1.1.0.now)
    r
    (memory_of (cache_of s.1.1.0.now s.1.1.1.0.now)
    (lent_list s.1.1.1.1.0.now s.1.1.1.1.1.0.now s.1.1.1.1.1.1.0.now)
    (lent_list s.1.1.1.1.1.1.1.0.now s.1.1.1.1.1.1.1.1.0.now s.1.1.1.1.1.1.1.1.1.0.now)
    r.pending s.1.1.1.1.1.1.1.1.1.1.1.0.now)
promised_take_packet κs a r s p = p

pub promised_drop : (κs : Lfts 0) (a : _) (r : _) (s : _) → dropping_call.Post κs a r s → DropCall a.0.flags a.1.0 r
promised_drop κs a r s p = p

pub promised_reset : (κs : Lfts 2) (a : _) (r : _) (s : _) → resetting_call.Post κs a r s
    → ResetCall (cache_of a.0.now a.1.0.now) a.1.1.0 r (cache_of s.0.now s.1.0.now)
promised_reset κs a r s p = p

-- For any run of these calls, whatever memory is lent at first
pub demand_2 : {m n : Memory} {cs : List Call} → AllBytes cs → Ran m cs n → Demand2 m cs n
demand_2 = definitions.demand_2

-- Of `take_packet`: where it refuses with 5, the place is the bad byte of a new reference's text
pub bad_references : BadReferences
bad_references = references.bad_references
