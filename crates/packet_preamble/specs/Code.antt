-- What the code reads before the header of a packet, in terms of the definitions of packets.
-- About the code alone, proved against the definitions of packet_spec: nothing here has to be believed.
use Rattle.std.specs.Prelude.{◌≡◌, List, ℕ, ◌≤◌, ◌<◌, length, Result, Ok, Err}
use Rattle.term_spec.specs.Answer.{good, refused, at_offset}
use Rattle.packet_spec.specs.Packet.{Kind, normal, starting, continuing, ids, preamble}
use Rattle.packet_spec.specs.declared.Ids.{Ids}
use Rattle.packet_preamble.specs.declared.Preamble.{Preamble}
use Rattle.packet_preamble.specs.declared.Preamble.TheVariants as preambles

-- a fragment's ids stand in the packet, and FragmentId is not 0
pub record IdsInside (s : List ℕ) (ids : Ids) : Type 0 where
  pub inside : 18 ≤ length s
  pub counts : 0 < ids.fragment

-- the ids after the first two bytes
unfoldable pub IdsAre : List ℕ → Result Ids ℕ → Type 0
IdsAre s (Err k) = (kind : ℕ → ℕ → Kind) → ids kind (at_offset s 2 0) ≡ refused k 0
IdsAre s (Ok i) = ((kind : ℕ → ℕ → Kind) → ids kind (at_offset s 2 0) ≡ good (kind i.sequence i.fragment, at_offset s 18 0)) × IdsInside s i

-- what stands before the header
unfoldable pub PreambleIs : List ℕ → Result Preamble ℕ → Type 0
PreambleIs s (Err k) = preamble (at_offset s 0 0) ≡ refused k 0
PreambleIs s (Ok preambles.Plain) = (preamble (at_offset s 0 0) ≡ good (normal, at_offset s 2 0)) × (2 ≤ length s)
PreambleIs s (Ok (preambles.Start i)) = (preamble (at_offset s 0 0) ≡ good (starting i.sequence i.fragment, at_offset s 18 0)) × IdsInside s i
PreambleIs s (Ok (preambles.Continuation i)) = (preamble (at_offset s 0 0) ≡ good (continuing i.sequence i.fragment, at_offset s 18 0)) × IdsInside s i
