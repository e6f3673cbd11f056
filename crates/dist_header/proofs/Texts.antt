-- Texts of headers and of places, as the code finds them.
use mathlib.Core.Path.{◌≡◌, refl, sym, ◌∙◌, ap}
use mathlib.Core.Bool.{Bool, true, false}
use mathlib.Core.List.{List, [], ◌∷◌}
use Prim.Native.Nat.{ℕ, zero, suc, ◌+◌, ◌*◌, ◌-◌, ◌≤◌, ◌<◌}
use native.Mathlib.Omega.{arith}
use lib.ListN.{length, get_or, take, drop}
use lib.Seq.{take-take}
use borrow.Author.Tests.{eq-eqb, ne_eqb, le-leb, lt-leb}
use Rattle.std.specs.Prelude.{Result, Ok, Err, ⊤}
use Rattle.term_spec.specs.Text.{Coding, utf_8, coding_of, valid, check, encodes}
use Rattle.term_spec.proofs.Text.{utf8_spelt, latin1_is}
use Rattle.octets.proofs.Parts.{length_part}
use Rattle.text.specs.Shown.{shown, is_valid}
use Rattle.text.proofs.Valid.{coding_utf8, coding_latin1, found, failed}
use Rattle.packet_spec.specs.Memory.{cache_of, text_if, held_as, held}
use Rattle.dist_header.specs.Code.{held_case, TextFits}

-- a part of a slice, by its length
pub part : (s : List ℕ) (from size : ℕ) → take (from + size - from) (drop from s) ≡ take size (drop from s)
part s from size = let e : from + size - from ≡ size = omega arith in ap (λ (n : ℕ). take n (drop from s)) e

-- what the code answers for such a part
pub text_part : (coding : Coding) (s : List ℕ) (from size : ℕ) (c : Result ⊤ ℕ) → c ≡ shown (check coding (take (from + size - from) (drop from s))) → c ≡ shown (check coding (take size (drop from s)))
text_part coding s from size c e = e ∙ ap (λ (bs : List ℕ). shown (check coding bs)) (part s from size)

module _ (utf8 : Bool) (s : List ℕ) (from size : ℕ) where
  -- where UTF-8 was agreed, the bytes stored are the bytes that came; in Latin-1 the bytes are the characters
  pub same_bytes : (cs : List ℕ) → utf8 ≡ true → check (coding_of utf8) (take size (drop from s)) ≡ valid cs → take size (drop from s) ≡ encodes cs
  same_bytes cs u e = sym (utf8_spelt _ cs (rw (coding_utf8 utf8 u) at e))

  pub same_characters : (cs : List ℕ) → utf8 ≡ false → check (coding_of utf8) (take size (drop from s)) ≡ valid cs → take size (drop from s) ≡ cs
  same_characters cs u e = (latin1_is _ cs (rw (coding_latin1 utf8 u) at e)).0

  pub stored_utf8 : utf8 ≡ true → from + size ≤ length s → (cs : List ℕ) → check (coding_of utf8) (take size (drop from s)) ≡ valid cs → size ≡ length (encodes cs)
  stored_utf8 u h cs e = sym (length_part s from size h) ∙ ap length (same_bytes cs u e)

  pub stored_latin : (r : ℕ) → utf8 ≡ false → r ≡ length (encodes (take size (drop from s))) → (cs : List ℕ) → check (coding_of utf8) (take size (drop from s)) ≡ valid cs
      → r ≡ length (encodes cs)
  stored_latin r u f cs e = f ∙ ap (λ (bs : List ℕ). length (encodes bs)) (same_characters cs u e)

  pub fits_utf8 : (at room : ℕ) → utf8 ≡ true → TextFits (coding_of utf8) s from size at room → at + size ≤ room
  fits_utf8 at room u t =
      let n : size ≡ length (encodes t.characters) = stored_utf8 u t.inside t.characters t.is in
      omega (arith, t.fits)

  pub fits_latin : (at room : ℕ) → utf8 ≡ false → TextFits (coding_of utf8) s from size at room → at + length (encodes (take size (drop from s))) ≤ room
  fits_latin at room u t = rw (same_characters t.characters u t.is) t.fits

-- ---- what a place of the cache holds

pub get_or_any : (l : List ℕ) (i a b : ℕ) → i < length l → get_or l i a ≡ get_or l i b
get_or_any [] i a b h = absurd (omega arith)
get_or_any (x ∷ l) zero a b h = refl
get_or_any (x ∷ l) (suc i) a b h = get_or_any l i a b (omega arith)

module _ (places lengths : List ℕ) (p n : ℕ) (h : p < length lengths) (is : n ≡ get_or lengths p 0) where
  held_is : held (cache_of places lengths) p ≡ held_as n (take 32 (drop (32 * p) places))
  unfolding held
  held_is = ap (λ (k : ℕ). held_as k (take 32 (drop (32 * p) places))) (get_or_any lengths p 65535 0 h ∙ sym is)

  pub held_nothing : n ≡ 65535 → Err 21 ≡ held_case (held (cache_of places lengths) p)
  unfolding held_as held_case
  held_nothing e = rw (held_is, held_as, eq-eqb n 65535 e)

  pub held_long : (n ≡ 65535 → ⊥) → 32 < n → Err 14 ≡ held_case (held (cache_of places lengths) p)
  unfolding held_as held_case
  held_long e l = rw (held_is, held_as, ne_eqb n 65535 e, lt-leb n 32 l)

  module _ (e : n ≡ 65535 → ⊥) (l : n ≤ 32) (b : Bool) (is_b : b ≡ is_valid (check utf_8 (take (32 * p + n - 32 * p) (drop (32 * p) places)))) where
    held_text : held (cache_of places lengths) p ≡ text_if (take n (drop (32 * p) places)) (check utf_8 (take n (drop (32 * p) places)))
    unfolding held_as
    held_text = rw (held_is, held_as, ne_eqb n 65535 e, le-leb n 32 l) (ap (λ (bs : List ℕ). text_if bs (check utf_8 bs)) (take-take n 32 (drop (32 * p) places) l))

    valid_is : b ≡ is_valid (check utf_8 (take n (drop (32 * p) places)))
    valid_is = is_b ∙ ap (λ (bs : List ℕ). is_valid (check utf_8 bs)) (part places (32 * p) n)

    pub held_good : b ≡ true → Ok tt ≡ held_case (held (cache_of places lengths) p)
    unfolding held_case text_if
    held_good t = let f = found _ (sym valid_is ∙ t) in rw (held_text, f.1)

    pub held_bad : b ≡ false → Err 14 ≡ held_case (held (cache_of places lengths) p)
    unfolding held_case text_if
    held_bad t = let f = failed _ (sym valid_is ∙ t) in rw (held_text, f.1)
