-- What the places of the cache and of the lists hold: after a header, a packet, a call, a run of calls.
use Rattle.std.specs.Prelude.{◌≡◌, true, false, ◌&&◌, cond, List, [], ◌∷◌, ℕ, eqb, length}
use Rattle.term_spec.specs.Answer.{Answer, good, refused}
use Rattle.term_spec.specs.AtomList.{AtomList}
use Rattle.packet_spec.specs.declared.Pending.{Pending}
use Rattle.packet_spec.specs.Memory.{Cache, Memory, cache_of_size, cache_length, cache_bytes, Held, nothing, text}
use Rattle.packet_spec.specs.Header.{Reference, filled}
use Rattle.packet_spec.specs.Packet.{Packet, plain, start, continuation, judged}
use Rattle.packet_spec.specs.Calls.{zeros_to, list_of, reset}
use Rattle.packet_spec.specs.Runs.{Call, taking, dropping, resetting, after_call}

-- ---- the cache, byte by byte

-- a place has the same bytes and the same length
pub record Same (c d : Cache) (p : ℕ) : Type 0 where
  pub bytes : cache_bytes d p ≡ cache_bytes c p
  pub long : cache_length d p ≡ cache_length c p

-- a place holds a text, zeros after it
pub record Holding (c : Cache) (p : ℕ) (t : List ℕ) : Type 0 where
  pub bytes : cache_bytes c p ≡ zeros_to 32 t
  pub long : cache_length c p ≡ length t

-- each new reference's place holds its text
abbrev pub HeldNew : Cache → List Reference → Type 0
HeldNew c [] = Unit {0}
HeldNew c (r ∷ rs) = (r.new ≡ true → Holding c r.place r.text) × HeldNew c rs

-- the references that a packet brings
unfoldable pub brought : Packet → List Reference
brought (plain rs at bs) = rs
brought (start sequence fragment rs bs) = rs
brought (continuation sequence fragment bs) = []

-- a call leaves a place alone: a packet that does not fill it new, a drop, a reset that is refused
abbrev pub Alone : Memory → Call → ℕ → Type 0
Alone m (taking flags bs) q = (p : Packet) → judged flags m bs ≡ good p → filled q (brought p) ≡ false
Alone m (dropping flags) q = Unit {0}
Alone m resetting q = cache_of_size m.cache ≡ false

-- each call of a run leaves it alone
abbrev pub AllAlone : Memory → List Call → ℕ → Type 0
AllAlone m [] q = Unit {0}
AllAlone m (c ∷ cs) q = Alone m c q × AllAlone (after_call m c) cs q

-- ---- the cache, as texts

-- what a place holds after a reference: a new one's place its text
unfoldable pub filled_by : Reference → (ℕ → Held) → ℕ → Held
filled_by r h p = cond (r.new && eqb r.place p) (text r.text) (h p)

-- and after references in turn
unfoldable pub filled_in_turn : List Reference → (ℕ → Held) → ℕ → Held
filled_in_turn [] h = h
filled_in_turn (r ∷ rs) h = filled_in_turn rs (filled_by r h)

-- what the places hold after a packet judged so: an accepted one's new references fill theirs, in turn; a refused one's fill none
unfoldable pub holding_of : Answer Packet → (ℕ → Held) → ℕ → Held
holding_of (good p) h = filled_in_turn (brought p) h
holding_of (refused number place) h = h

-- after a reset: nothing, but where it is refused
unfoldable pub emptied : Answer (Cache × Pending) → (ℕ → Held) → ℕ → Held
emptied (good s) h = λ p. nothing
emptied (refused number place) h = h

-- what the places hold after a call
unfoldable pub holding_after : Memory → Call → (ℕ → Held) → ℕ → Held
holding_after m (taking flags bs) h = holding_of (judged flags m bs) h
holding_after m (dropping flags) h = h
holding_after m resetting h = emptied (reset m.cache) h

-- and after all calls of a run
unfoldable pub holding_after_all : Memory → List Call → (ℕ → Held) → ℕ → Held
holding_after_all m [] h = h
holding_after_all m (c ∷ cs) h = holding_after_all (after_call m c) cs (holding_after m c h)

-- ---- the lists

-- the list for plain packets after a packet judged so: an accepted plain packet's references fix it, all else leaves it
unfoldable pub plain_list_of : Answer Packet → AtomList → AtomList
plain_list_of (good (plain rs at bs)) list = list_of rs
plain_list_of (good (start sequence fragment rs bs)) list = list
plain_list_of (good (continuation sequence fragment bs)) list = list
plain_list_of (refused number place) list = list

-- after a call: a drop and a reset leave it
unfoldable pub plain_list_after : Memory → Call → AtomList → AtomList
plain_list_after m (taking flags bs) list = plain_list_of (judged flags m bs) list
plain_list_after m (dropping flags) list = list
plain_list_after m resetting list = list

-- and after all calls of a run
unfoldable pub plain_list_after_all : Memory → List Call → AtomList → AtomList
plain_list_after_all m [] list = list
plain_list_after_all m (c ∷ cs) list = plain_list_after_all (after_call m c) cs (plain_list_after m c list)
