-- A distribution header: count, flags, references.
use Rattle.std.specs.Prelude.{Bool, true, false, not, ◌&&◌, ◌||◌, cond, List, [], ◌∷◌, ℕ, zero, suc, ◌+◌, ◌*◌, ◌/◌, ◌%◌, eqb, leb, length, get_or}
use Rattle.term_spec.specs.Text.{Coding, check, encodes}
use Rattle.term_spec.specs.Answer.{Reading, ◌>>=◌, ◌>>◌, done, refuse, here, rule, byte, bytes, number}
use Rattle.term_spec.specs.Head.{text_or}
use Rattle.packet_spec.specs.Memory.{Held, nothing, no_text, text}

-- A reference of a header: the place it names, whether it is new, and its text, in UTF-8
pub record Reference : Type 0 where
  pub place : ℕ
  pub new : Bool
  pub text : List ℕ

-- For n = 0 flags are absent, else n/2+1 flag bytes
unfoldable pub flag_bytes : ℕ → ℕ
flag_bytes n = cond (eqb n 0) 0 (n / 2 + 1)

-- Half i is of flag byte i/2: the low half for even i. Reference i has half i; the half after the last reference's is the spare one
unfoldable pub half : List ℕ → ℕ → ℕ
half flags i = cond (eqb (i % 2) 0) (get_or flags (i / 2) 0 % 16) (get_or flags (i / 2) 0 / 16)

-- Top bit: new
unfoldable pub is_new : ℕ → Bool
is_new h = leb 8 h

-- Low three: segment. A place is 256 times the segment plus the internal index
unfoldable pub place_at : ℕ → ℕ → ℕ
place_at h internal = 256 * (h % 8) + internal

-- The spare half's lowest bit, LongAtoms, makes lengths 2 bytes
unfoldable pub length_width : ℕ → ℕ
length_width spare = 1 + spare % 2

-- Refusal 22: does one of these references name the place?
unfoldable pub named : ℕ → List Reference → Bool
named p [] = false
named p (r ∷ rs) = eqb r.place p || named p rs

-- Refusal 22: does one of them fill it new?
unfoldable pub filled : ℕ → List Reference → Bool
filled p [] = false
filled p (r ∷ rs) = (r.new && eqb r.place p) || filled p rs

-- Refusal 21: cached place empty. Refusal 14: lent state false
unfoldable pub held_or : ℕ → Held → Reading (List ℕ)
held_or i nothing = refuse 21 i
held_or i no_text = refuse 14 i
held_or i (text bs) = done bs

-- With the coding agreed, Latin-1 or UTF-8 as the caller states, and what the places of the cache hold. A refusal's place is the number of the
-- reference, i; that of 5 the offset of the byte at which the text fails, counted from the packet's first byte
module _ (agreed : Coding) (holding : ℕ → Held) where
  -- A new reference, its text in these bytes, the first at `first`: 22 (at the later one), 5, 23. Text is stored as UTF-8
  unfoldable pub new_reference : List Reference → ℕ → ℕ → ℕ → List ℕ → Reading Reference
  new_reference earlier i place first bs = do
    rule (not (named place earlier)) 22 i
    cs ← text_or (check agreed bs) 5 (λ k. first + k)
    rule (leb (length (encodes cs)) 32) 23 i
    done (record { place = place; new = true; text = encodes cs })

  -- A cached one: 22, 21, 14. A place filled new is named by no other reference of that header
  unfoldable pub cached_reference : List Reference → ℕ → ℕ → Reading Reference
  cached_reference earlier i place = do
    rule (not (filled place earlier)) 22 i
    bs ← held_or i (holding place)
    done (record { place = place; new = false; text = bs })

  -- Reference i, with the half h, after the earlier ones: a new one is internal index, length, text; a cached one is the internal index alone
  unfoldable pub reference : ℕ → List Reference → ℕ → ℕ → Reading Reference
  reference width earlier i h = do
    internal ← byte i
    elim (is_new h) [
      | true ↦ do
        size ← number i width
        first ← here
        bs ← bytes i size
        new_reference earlier i (place_at h internal) first bs
      | false ↦ cached_reference earlier i (place_at h internal)
    ]

  -- Order: each reference in turn. The references from number i on, so many more, after the earlier ones
  unfoldable pub references : List ℕ → ℕ → List Reference → ℕ → ℕ → Reading (List Reference)
  references flags width earlier i zero = done []
  references flags width earlier i (suc more) = do
    r ← reference width earlier i (half flags i)
    rs ← references flags width (r ∷ earlier) (i + 1) more
    done (r ∷ rs)

  -- n, flags, references: 2 on the count and flags, then each reference in turn
  unfoldable pub header : Reading (List Reference)
  header = do
    n ← byte 0
    flags ← bytes 0 (flag_bytes n)
    references flags (length_width (half flags n)) [] 0 n
