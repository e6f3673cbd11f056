-- Runs of calls, the memory handed on from each to the next.
use Rattle.std.specs.Prelude.{List, [], ◌∷◌, ℕ}
use Rattle.term_spec.specs.Numbers.{Under}
use Rattle.packet_spec.specs.declared.Pending.{Pending}
use Rattle.packet_spec.specs.Memory.{Cache, Memory}
use Rattle.packet_spec.specs.Calls.{after_packet, drop_sequence, reset, unless_refused}

-- A call: of a packet and of a drop, each with the connection's flags, of a reset
pub data Call : Type 0 where
  taking : ℕ → List ℕ → Call
  dropping : ℕ → Call
  resetting : Call

-- a packet is bytes
abbrev pub Bytes : Call → Type 0
Bytes (taking flags bs) = Under 256 bs
Bytes (dropping flags) = Unit {0}
Bytes resetting = Unit {0}

-- and so is each packet of a run
abbrev pub AllBytes : List Call → Type 0
AllBytes [] = Unit {0}
AllBytes (c ∷ cs) = Bytes c × AllBytes cs

-- the same memory with this cache and this record
abbrev pub with_state : Memory → Cache × Pending → Memory
with_state m s = record { cache = s.0; plain_list = m.plain_list; pending_list = m.pending_list; pending = s.1; gather = m.gather }

-- all lent memory after a call
unfoldable pub after_call : Memory → Call → Memory
after_call m (taking flags bs) = after_packet flags m bs
after_call m (dropping flags) = with_state m (m.cache, unless_refused m.pending (drop_sequence flags m.pending))
after_call m resetting = with_state m (unless_refused (m.cache, m.pending) (reset m.cache))

-- over several calls memory is lent back as the last call left it
unfoldable pub after_calls : Memory → List Call → Memory
after_calls m [] = m
after_calls m (c ∷ cs) = after_calls (after_call m c) cs
