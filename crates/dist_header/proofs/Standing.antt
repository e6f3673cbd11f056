-- What stands in a header, as the code finds it at an offset of the packet: one law for each way out.
use mathlib.Core.Path.{◌≡◌, refl, sym, ◌∙◌, ap, ap₂, subst}
use mathlib.Core.List.{List, []}
use mathlib.Core.Bool.{cond}
use Prim.Native.Nat.{ℕ, zero, suc, ◌+◌, ◌*◌, ◌/◌, ◌%◌, ◌^◌, ◌≤◌, ◌<◌}
use native.Mathlib.Omega.{arith}
use lib.ListN.{length, get_or, take, drop}
use lib.Seq.{get_or-take, get_or-drop}
use lib.Dec.{eqb}
use borrow.Author.Tests.{eq-eqb, ne_eqb, le-leb, lt-leb}
use Rattle.std.specs.Prelude.{Some, None}
use Rattle.term_spec.specs.Numbers.{big_endian}
use Rattle.term_spec.specs.Text.{Coding}
use Rattle.term_spec.specs.Answer.{at_offset}
use Rattle.term_spec.proofs.Bridge.{byte_at, byte_end, bytes_at, bytes_end, number_at, number_end}
use Rattle.octets.specs.Parts.{Width}
use Rattle.octets.proofs.Numbers.{big_joined, big_one}
use Rattle.octets.proofs.Widths.{width_1, width_2}
use Rattle.packet_spec.specs.Memory.{Held}
use Rattle.packet_spec.specs.Header.{flag_bytes, half, is_new, place_at, length_width, reference, references, header}
use Rattle.dist_header.specs.Code.{flags_of, HeaderAt, HeaderStarts, Spells}
use Rattle.dist_header.specs.declared.HeaderStart.{HeaderStart}
use Rattle.dist_header.specs.declared.Spelled.TheVariants as spelled

flag_count : (n : ℕ) → 0 < n → flag_bytes n ≡ n / 2 + 1
unfolding flag_bytes
flag_count n h = rw (ne_eqb n 0 (λ e. omega arith))

-- half i of all bytes after the count is half i of the flags
pub flags_half : (s : List ℕ) (at n i : ℕ) → 0 < n → i ≤ n → half (drop (at + 1) s) i ≡ half (flags_of s at n) i
unfolding half flags_of
flags_half s at n i h k =
    let f : flag_bytes n ≡ n / 2 + 1 = flag_count n h in
    ap (λ (b : ℕ). cond (eqb (i % 2) 0) (b % 16) (b / 16)) (sym (get_or-take (flag_bytes n) (drop (at + 1) s) (i / 2) 0 (omega arith)))

-- the flags of reference i stand inside
pub flags_inside : (s : List ℕ) (at i : ℕ) (start : HeaderStart) → HeaderAt s at start → i < start.n → at + 1 + i / 2 < length s
flags_inside s at i start h k =
    let f : flag_bytes start.n ≡ start.n / 2 + 1 = flag_count start.n (omega arith) in
    omega (arith, h.first_is, h.first_inside)

-- half i is of flag byte i/2: the low half for even i, else the high half
pub half_low : (s : List ℕ) (at i : ℕ) → i % 2 ≡ 0 → get_or s (at + 1 + i / 2) 0 % 16 ≡ half (drop (at + 1) s) i
unfolding half
half_low s at i e = rw (eq-eqb (i % 2) 0 e, get_or-drop (at + 1) s (i / 2) 0)

pub half_high : (s : List ℕ) (at i : ℕ) → (i % 2 ≡ 0 → ⊥) → get_or s (at + 1 + i / 2) 0 / 16 ≡ half (drop (at + 1) s) i
unfolding half
half_high s at i e = rw (ne_eqb (i % 2) 0 e, get_or-drop (at + 1) s (i / 2) 0)

-- ---- count and flags

pub starts_end : (s : List ℕ) (at : ℕ) → length s ≤ at → HeaderStarts s at None
unfolding HeaderStarts header
starts_end s at h agreed holding = rw (byte_end s 0 at 0 h)

header_starts : (s : List ℕ) (at : ℕ) → at < length s → at + 1 + flag_bytes (get_or s at 0) ≤ length s → (agreed : Coding) (holding : ℕ → Held)
    → header agreed holding (at_offset s at 0)
    ≡ references agreed holding (flags_of s at (get_or s at 0)) (length_width (half (flags_of s at (get_or s at 0)) (get_or s at 0))) [] 0 (get_or s at 0) (at_offset s (at + 1 + flag_bytes (get_or s at 0)) 0)
unfolding header flags_of
header_starts s at h k agreed holding = rw (byte_at s 0 at 0 h, bytes_at s 0 (flag_bytes (get_or s at 0)) (at + 1) 0 k)

pub starts_cut : (s : List ℕ) (at : ℕ) → at < length s → 0 < get_or s at 0 → length s < at + 1 + (get_or s at 0 / 2 + 1) → HeaderStarts s at None
unfolding HeaderStarts header
starts_cut s at h z k agreed holding =
    let f : flag_bytes (get_or s at 0) ≡ get_or s at 0 / 2 + 1 = flag_count (get_or s at 0) z in
    rw (byte_at s 0 at 0 h, bytes_end s 0 (flag_bytes (get_or s at 0)) (at + 1) 0 (omega arith) (omega arith))

-- any count, with its width
starts_as : (s : List ℕ) (at n width first : ℕ) → at < length s → get_or s at 0 ≡ n → n < 256 → first ≡ at + 1 + flag_bytes n → first ≤ length s
    → width ≡ length_width (half (flags_of s at n) n) → 0 < width → width ≤ 2 → HeaderStarts s at (Some (record { n = n; width = width; first = first }))
unfolding HeaderStarts
starts_as s at n width first h is small e k w lo hi = (
  λ agreed holding.
      header_starts s at h (subst (λ (m : ℕ). at + 1 + flag_bytes m ≤ length s) (sym is) (omega arith)) agreed holding
      ∙ ap (λ (m : ℕ). references agreed holding (flags_of s at m) (length_width (half (flags_of s at m) m)) [] 0 m (at_offset s (at + 1 + flag_bytes m) 0)) is
      ∙ ap₂ (λ (w f : ℕ). references agreed holding (flags_of s at n) w [] 0 n (at_offset s f 0)) (sym w) (sym e),
  record { few = small; width_least = lo; width_most = hi; first_is = e; first_inside = k },
)

no_flags : (s : List ℕ) (at : ℕ) → length_width (half (flags_of s at 0) 0) ≡ 1
unfolding length_width half flags_of flag_bytes
no_flags s at = refl

pub starts_none : (s : List ℕ) (at : ℕ) → at < length s → get_or s at 0 ≡ 0 → HeaderStarts s at (Some (record { n = 0; width = 1; first = (at + 1) }))
unfolding flag_bytes
starts_none s at h e = starts_as s at 0 1 (at + 1) h e (omega arith) (omega arith) (omega arith) (sym (no_flags s at)) (omega arith) (omega arith)

width_of : (h : ℕ) → 1 + h % 2 ≡ length_width h
unfolding length_width
width_of h = refl

pub starts_some : (s : List ℕ) (at n spare : ℕ) → at < length s → get_or s at 0 ≡ n → 0 < n → n < 256 → at + 1 + (n / 2 + 1) ≤ length s
    → spare ≡ half (drop (at + 1) s) n → HeaderStarts s at (Some (record { n = n; width = (1 + spare % 2); first = (at + 1 + (n / 2 + 1)) }))
starts_some s at n spare h is z small k e =
    let f : flag_bytes n ≡ n / 2 + 1 = flag_count n z in
    starts_as s at n (1 + spare % 2) (at + 1 + (n / 2 + 1)) h is small (omega arith) k (width_of spare ∙ ap length_width (e ∙ flags_half s at n n z (omega arith))) (omega arith) (omega arith)

-- ---- one reference

-- a length in 1 or 2 bytes
pub length_width_is : (w : ℕ) → 0 < w → w ≤ 2 → Width w
length_width_is zero lo hi = absurd (omega arith)
length_width_is (suc zero) lo hi = width_1
length_width_is (suc (suc zero)) lo hi = width_2
length_width_is (suc (suc (suc w))) lo hi = absurd (omega arith)

pub length_small : (s : List ℕ) (at w : ℕ) → ((i : ℕ) → get_or s i 0 < 256) → at + w ≤ length s → w ≤ 2 → big_endian (take w (drop at s)) < 65536
unfolding big_endian
length_small s at zero bytes there hi = omega arith
length_small s at (suc zero) bytes there hi = let e = big_one s at (omega arith) in omega (arith, bytes at)
length_small s at (suc (suc zero)) bytes there hi =
    let e : big_endian (take 2 (drop at s)) ≡ get_or s at 0 * 256 ^ 1 + get_or s (at + 1) 0
    = sym (big_joined s at 1 1 (get_or s at 0) (get_or s (at + 1) 0) (omega arith) (sym (big_one s at (omega arith))) (sym (big_one s (at + 1) (omega arith)))) in
    omega (arith, bytes at, bytes (at + 1))
length_small s at (suc (suc (suc w))) bytes there hi = absurd (omega arith)

pub spells_end : (s : List ℕ) (h width at : ℕ) → length s ≤ at → Spells s h width at None
unfolding Spells reference
spells_end s h width at e agreed holding earlier i = rw (byte_end s i at 0 e)

pub spells_cached : (s : List ℕ) (h width at b : ℕ) → at < length s → h < 8 → b ≡ get_or s at 0 → b < 256
    → Spells s h width at (Some (spelled.Cached (record { 0 = 256 * (h % 8) + b })))
unfolding Spells reference is_new place_at
spells_cached s h width at b e low is small = (
  λ agreed holding earlier i. rw (byte_at s i at 0 e, lt-leb 8 h low, is),
  omega arith,
  e,
)

module _ (s : List ℕ) (h width at : ℕ) (e : at < length s) (high : 8 ≤ h) where
  pub spells_cut_length : length s < at + 1 + width → Spells s h width at None
  unfolding Spells reference is_new
  spells_cut_length k agreed holding earlier i = rw (byte_at s i at 0 e, le-leb 8 h high, number_end s i width (at + 1) 0 (omega arith) k)

  module _ (size : ℕ) (is : size ≡ big_endian (take width (drop (at + 1) s))) (there : at + 1 + width ≤ length s) where
    pub spells_cut_text : length s < at + 1 + width + size → Spells s h width at None
    unfolding Spells reference is_new
    spells_cut_text k agreed holding earlier i =
        rw (byte_at s i at 0 e, le-leb 8 h high, number_at s i width (at + 1) 0 there, sym is, bytes_end s i size (at + 1 + width) 0 there k)

    pub spells_new : (b : ℕ) → h < 16 → b ≡ get_or s at 0 → b < 256 → at + 1 + width + size ≤ length s → size < 65536
        → Spells s h width at (Some (spelled.New (record { 0 = 256 * (h % 8) + b }) (at + 1 + width) size))
    unfolding Spells reference is_new place_at
    spells_new b top as_read small k few = (
      λ agreed holding earlier i.
          rw (byte_at s i at 0 e, le-leb 8 h high, number_at s i width (at + 1) 0 there, sym is, bytes_at s i size (at + 1 + width) 0 k, as_read),
      omega arith,
      omega arith,
      k,
      few,
    )
