-- Where a packet is refused with 5, its place is the bad byte of a new reference's text that stands in the packet's header: `BadReferences`, at the end.
use Rattle.std.specs.Prelude.{◌≡◌, true, cond, List, ℕ, zero, suc, ◌+◌, ◌≤◌, ◌<◌, length, get_or, take, drop, Err}
use Rattle.term_spec.specs.Numbers.{big_endian}
use Rattle.term_spec.specs.Connection.{coding_agreed}
use Rattle.term_spec.specs.BadByte.{BadByte}
use Rattle.term_spec.specs.Answer.{refused}
use Rattle.packet_spec.specs.Memory.{Memory}
use Rattle.packet_spec.specs.Header.{flag_bytes, half, is_new, length_width}
use Rattle.packet_spec.specs.Packet.{judged}
use Rattle.packet_spec.specs.Promises.{PacketCall}
use Rattle.packet_spec.specs.Answers.{Taken, refusal_of}

-- Where the count of references stands in the packet
pub data CountAt (packet : List ℕ) (at : ℕ) : Type 0 where
  -- after 131, 68
  after_68 : get_or packet 1 0 ≡ 68 → at ≡ 2 → CountAt packet at
  -- after 131, 69, SequenceId, FragmentId
  after_69 : get_or packet 1 0 ≡ 69 → at ≡ 18 → CountAt packet at

-- A header whose count stands at `c`
module _ (packet : List ℕ) (c : ℕ) where
  abbrev pub reference_count : ℕ
  reference_count = get_or packet c 0

  abbrev pub header_flags : List ℕ
  header_flags = take (flag_bytes reference_count) (drop (c + 1) packet)

  abbrev pub header_width : ℕ
  header_width = length_width (half header_flags reference_count)

  -- the length of a new reference's text, after an internal index at `at`
  abbrev pub size_at : ℕ → ℕ
  size_at at = big_endian (take header_width (drop (at + 1) packet))

  -- Where reference i begins: after the flags and the references before it
  unfoldable pub reference_at : ℕ → ℕ
  reference_at zero = c + 1 + flag_bytes reference_count
  reference_at (suc i) = reference_at i + 1 + cond (is_new (half header_flags i)) (header_width + size_at (reference_at i)) 0

-- In the packet's header stands a new reference whose text has so many bytes, from `first` on: before the text its length, and before that the internal index
pub record ReferenceText (packet : List ℕ) (first size : ℕ) : Type 0 where
  -- the header
  pub c : ℕ
  pub count_there : CountAt packet c
  -- the reference's number
  pub i : ℕ
  pub counted : i < reference_count packet c
  pub new : is_new (half (header_flags packet c) i) ≡ true
  pub first_is : first ≡ reference_at packet c i + 1 + header_width packet c
  pub size_is : size ≡ size_at packet c (reference_at packet c i)
  pub inside : first + size ≤ length packet

-- byte p of the packet is the bad byte of such a text, in the coding agreed
pub record BadReference (flags : ℕ) (packet : List ℕ) (p : ℕ) : Type 0 where
  pub first : ℕ
  pub size : ℕ
  pub k : ℕ
  pub there : ReferenceText packet first size
  pub place_is : p ≡ first + k
  pub bad : BadByte (coding_agreed flags) (take size (drop first packet)) k

-- The place of refusal 5 is such a byte, counted from the packet's first byte, ids and all: with any flags, whatever memory is lent
pub record BadReferences : Type 0 where
  -- of all that the rules refuse with 5
  pub by_the_rules : (flags : ℕ) (m : Memory) (packet : List ℕ) (p : ℕ) → judged flags m packet ≡ refused 5 p → BadReference flags packet p
  -- of all that a call refuses with 5
  pub by_taking : (flags : ℕ) (packet : List ℕ) (m : Memory) (r : Taken) (m' : Memory) → PacketCall flags packet m r m'
      → (p : ℕ) → r.answer ≡ Err (refusal_of 5 p) → BadReference flags packet p
