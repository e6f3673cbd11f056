-- What stands before the header of a packet: one law for each way out.
use mathlib.Core.Path.{◌≡◌, refl, sym, ◌∙◌, ap}
use mathlib.Core.List.{List, [], ◌∷◌}
use Prim.Native.Nat.{ℕ, ◌≤◌, ◌<◌}
use native.Mathlib.Omega.{arith}
use lib.ListN.{length, get_or, take, drop}
use borrow.Author.Tests.{eq-eqb, ne_eqb}
use Rattle.std.specs.Prelude.{Ok, Err}
use Rattle.term_spec.specs.Numbers.{big_endian}
use Rattle.term_spec.specs.Answer.{good, refused, Position, at_offset}
use Rattle.term_spec.specs.Message.{version}
use Rattle.term_spec.proofs.Bridge.{byte_at, byte_end, number_at, number_end}
use Rattle.term_spec.proofs.Tests.{by_less}
use Rattle.packet_spec.specs.Packet.{starting, continuing, ids, packet_kind, preamble}
use Rattle.packet_preamble.specs.Code.{IdsInside, IdsAre, PreambleIs}
use Rattle.packet_spec.specs.declared.Ids.{Ids}
use Rattle.packet_preamble.specs.declared.Preamble.TheVariants as preambles

module _ (s : List ℕ) (h : 2 ≤ length s) where
  pub ids_cut : length s < 18 → IdsAre s (Err 2)
  unfolding IdsAre ids
  ids_cut k kind =
      by_less (length s) 10
      (λ less. rw (number_end s 0 8 2 0 h less))
      (λ over. rw (number_at s 0 8 2 0 over, number_end s 0 8 10 0 over k))

  module _ (k : 18 ≤ length s) (f : ℕ) (f_is : f ≡ big_endian (take 8 (drop 10 s))) where
    pub ids_zero : f ≡ 0 → IdsAre s (Err 24)
    unfolding IdsAre ids
    ids_zero z kind = rw (number_at s 0 8 2 0 (omega arith), number_at s 0 8 10 0 k, sym f_is, eq-eqb f 0 z)

    pub ids_found : (q : ℕ) → q ≡ big_endian (take 8 (drop 2 s)) → (f ≡ 0 → ⊥) → IdsAre s (Ok (record { sequence = q; fragment = f }))
    unfolding IdsAre ids
    ids_found q q_is z = (
      λ kind. rw (number_at s 0 8 2 0 (omega arith), number_at s 0 8 10 0 k, sym f_is, sym q_is, ne_eqb f 0 z),
      record { inside = k; counts = omega arith },
    )

version_good : (s : List ℕ) → 0 < length s → get_or s 0 0 ≡ 131 → version (at_offset s 0 0) ≡ good (tt, at_offset s 1 0)
unfolding version
version_good [] h e = absurd (omega arith)
version_good (b ∷ bs) h e = rw (version, eq-eqb b 131 e)

version_wrong : (s : List ℕ) → (get_or s 0 0 ≡ 131 → ⊥) → version (at_offset s 0 0) ≡ refused 1 0
unfolding version
version_wrong [] e = refl
version_wrong (b ∷ bs) e = rw (version, ne_eqb b 131 e)

version_empty : (s : List ℕ) → length s ≡ 0 → version (at_offset s 0 0) ≡ refused 1 0
unfolding version
version_empty [] e = refl
version_empty (b ∷ bs) e = absurd (omega arith)

kind_other : (tag : ℕ) (t : Position) → (tag ≡ 68 → ⊥) → (tag ≡ 69 → ⊥) → (tag ≡ 70 → ⊥) → packet_kind tag t ≡ refused 20 0
unfolding packet_kind
kind_other tag t a b c = rw (packet_kind, ne_eqb tag 68 a, ne_eqb tag 69 b, ne_eqb tag 70 c)

pub preamble_empty : (s : List ℕ) → length s ≡ 0 → PreambleIs s (Err 1)
unfolding PreambleIs preamble
preamble_empty s e = rw (version_empty s e)

pub preamble_wrong : (s : List ℕ) → (get_or s 0 0 ≡ 131 → ⊥) → PreambleIs s (Err 1)
unfolding PreambleIs preamble
preamble_wrong s e = rw (version_wrong s e)

module _ (s : List ℕ) (some : 0 < length s) (first : get_or s 0 0 ≡ 131) where
  pub preamble_short : length s ≡ 1 → PreambleIs s (Err 2)
  unfolding PreambleIs preamble
  preamble_short e = rw (version_good s some first, byte_end s 0 1 0 (omega arith))

  module _ (h : 2 ≤ length s) where
    tag_read : preamble (at_offset s 0 0) ≡ packet_kind (get_or s 1 0) (at_offset s 2 0)
    unfolding preamble
    tag_read = rw (version_good s some first, byte_at s 0 1 0 (omega arith))

    pub preamble_plain : get_or s 1 0 ≡ 68 → PreambleIs s (Ok preambles.Plain)
    unfolding PreambleIs packet_kind
    preamble_plain e = (tag_read ∙ ap (λ (tag : ℕ). packet_kind tag (at_offset s 2 0)) e, h)

    start_read : get_or s 1 0 ≡ 69 → preamble (at_offset s 0 0) ≡ ids starting (at_offset s 2 0)
    unfolding packet_kind
    start_read e = tag_read ∙ ap (λ (tag : ℕ). packet_kind tag (at_offset s 2 0)) e

    pub preamble_start_refused : get_or s 1 0 ≡ 69 → (k : ℕ) → IdsAre s (Err k) → PreambleIs s (Err k)
    unfolding PreambleIs IdsAre
    preamble_start_refused e k i = start_read e ∙ i starting

    pub preamble_start : get_or s 1 0 ≡ 69 → (i : Ids) → IdsAre s (Ok i) → PreambleIs s (Ok (preambles.Start i))
    unfolding PreambleIs IdsAre
    preamble_start e i h = (start_read e ∙ h.0 starting, h.1)

    more_read : get_or s 1 0 ≡ 70 → preamble (at_offset s 0 0) ≡ ids continuing (at_offset s 2 0)
    unfolding packet_kind
    more_read e = tag_read ∙ ap (λ (tag : ℕ). packet_kind tag (at_offset s 2 0)) e

    pub preamble_more_refused : get_or s 1 0 ≡ 70 → (k : ℕ) → IdsAre s (Err k) → PreambleIs s (Err k)
    unfolding PreambleIs IdsAre
    preamble_more_refused e k i = more_read e ∙ i continuing

    pub preamble_more : get_or s 1 0 ≡ 70 → (i : Ids) → IdsAre s (Ok i) → PreambleIs s (Ok (preambles.Continuation i))
    unfolding PreambleIs IdsAre
    preamble_more e i h = (more_read e ∙ h.0 continuing, h.1)

    pub preamble_other : (get_or s 1 0 ≡ 68 → ⊥) → (get_or s 1 0 ≡ 69 → ⊥) → (get_or s 1 0 ≡ 70 → ⊥) → PreambleIs s (Err 20)
    unfolding PreambleIs
    preamble_other a b c = tag_read ∙ kind_other (get_or s 1 0) (at_offset s 2 0) a b c

-- what is read is there
pub plain_there : (s : List ℕ) → PreambleIs s (Ok preambles.Plain) → 2 ≤ length s
unfolding PreambleIs
plain_there s e = e.1

pub start_there : (s : List ℕ) (i : Ids) → PreambleIs s (Ok (preambles.Start i)) → IdsInside s i
unfolding PreambleIs
start_there s i e = e.1

pub more_there : (s : List ℕ) (i : Ids) → PreambleIs s (Ok (preambles.Continuation i)) → IdsInside s i
unfolding PreambleIs
more_there s i e = e.1
