-- ASCII characters, and eight of them as one number that has no highest bit.
use mathlib.Core.Path.{◌≡◌, refl, sym, ◌∙◌, ap}
use mathlib.Core.List.{List, [], ◌∷◌, ◌++◌, append_assoc}
use Prim.Native.Nat.{ℕ, zero, suc, ◌+◌, ◌*◌, ◌-◌, ◌/◌, ◌%◌, ◌^◌, ◌≤◌, ◌<◌}
use native.Mathlib.Nat.{add-zero, zero-add, pow-suc, pow-le-pow_right, lt_of_lt_of_le}
use native.Mathlib.Omega.{arith}
use lib.Arith.{digits_lt}
use lib.Bits.{bit_and, and_block, and_shr, and_mask}
use lib.Dec.{lit<}
use lib.ListN.{length, get_or, take, drop, length-append}
use lib.Seq.{take-suc, take_at, drop_at, length-take-le}
use native.Mathlib.Numerals.{add-one}
use Rattle.std.proofs.lemmas.List.{take_all, get_or_append_left, get_or-append_right}
use Rattle.term_spec.proofs.Tests.{by_less}
use Rattle.text.specs.Characters.{Ascii}

module _ (s : List ℕ) where
  pub ascii_none : (at : ℕ) → at ≤ length s → Ascii s at 0
  ascii_none at h = record { inside = omega arith; low = λ i l. absurd (omega arith) }

  -- one more in front, or taken off
  ascii_first : (at n : ℕ) → get_or s at 0 < 0x80 → at < length s → Ascii s (at + 1) n → Ascii s at (suc n)
  ascii_first at n h k a = record { inside = omega (arith, a.inside); low = go }
    where
      go : (i : ℕ) → i < suc n → get_or s (at + i) 0 < 0x80
      go zero l = rw (add-zero at) h
      go (suc i) l = let e : at + suc i ≡ at + 1 + i = omega arith in rw e (a.low i (omega arith))

  pub ascii_rest : (at n : ℕ) → Ascii s at (suc n) → (get_or s at 0 < 0x80) × Ascii s (at + 1) n
  ascii_rest at n a = (
    rw (add-zero at) at (a.low 0 (omega arith)),
    record {
      inside = omega (arith, a.inside);
      low = λ i h. let e : at + suc i ≡ at + 1 + i = omega arith in rw e at (a.low (suc i) (omega arith));
    },
  )

-- these bytes are left of a text that begins with n ASCII characters
pub record Begins (s rest : List ℕ) (n : ℕ) : Type 0 where
  pub passed : List ℕ
  pub joined : s ≡ passed ++ rest
  pub long : length passed ≡ n
  pub low : (i : ℕ) → i < n → get_or passed i 0 < 0x80

module _ (s rest : List ℕ) where
  pub begins_none : rest ≡ s → Begins s rest 0
  begins_none e = record { passed = []; joined = sym e; long = refl; low = λ i h. absurd (omega arith) }

  module _ (n : ℕ) (is : Begins s rest n) where
    pub begins_more : (part next : List ℕ) (k : ℕ) → rest ≡ part ++ next → length part ≡ k → Ascii part 0 k → Begins s next (n + k)
    begins_more part next k e f a =
        let p : List ℕ = is.passed in
        let l : length p ≡ n = is.long in
        record {
          passed = p ++ part;
          joined = is.joined ∙ ap (λ (r : List ℕ). p ++ r) e ∙ sym (append_assoc p part next);
          long = length-append p part ∙ omega arith;
          low = λ i h.
              by_less i n
              (λ less. rw (get_or_append_left p part 0 i (omega arith)) (is.low i less))
              (λ past. let j : ℕ = i - n in rw (get_or-append_right p part n i 0 l past) (rw (zero-add j) at (a.low j (omega arith))));
        }

    pub begins_ascii : Ascii s 0 n
    begins_ascii =
        let p : List ℕ = is.passed in
        record {
          inside = omega (arith, ap length is.joined, length-append p rest, is.long);
          low = λ i h. let l : i < length p = omega (arith, is.long) in rw (zero-add i, is.joined, get_or_append_left p rest 0 i l) (is.low i h);
        }

-- the highest bit of each of n bytes
abbrev highest : ℕ → ℕ
highest zero = 0
highest (suc n) = highest n * 256 + 0x80

low_byte : (b : ℕ) → b < 256 → bit_and b 0x80 ≡ 0 → b < 0x80
low_byte b h e =
    let even : b / 128 % 2 ≡ 0 = sym (and_mask (b / 128) 1) ∙ sym (and_shr b 0x80 7) ∙ ap (λ (x : ℕ). x / 128) e in
    omega arith

-- w is of the n bytes from `at` on: they are ASCII characters where it has no highest bit
pub record Word (s : List ℕ) (at n w : ℕ) : Type 0 where
  pub short : w < 256 ^ n
  pub told : bit_and w (highest n) ≡ 0 → Ascii s at n

module _ (s : List ℕ) where
  pub word_none : (at : ℕ) → at ≤ length s → Word s at 0 0
  word_none at h = record { short = omega arith; told = λ e. ascii_none s at h }

  word_first : (at n w : ℕ) → at < length s → get_or s at 0 < 256 → Word s (at + 1) n w → Word s at (suc n) (w * 256 + get_or s at 0)
  word_first at n w h b is = record {
    short = rw (pow-suc 256 n) (digits_lt is.short b);
    told = λ e.
        let apart : bit_and w (highest n) * 256 + bit_and (get_or s at 0) 0x80 ≡ 0 = sym (and_block 8 w (highest n) (get_or s at 0) 0x80 b (lit< tt)) ∙ e in
        ascii_first s at n (low_byte _ b (omega arith)) h (is.told (omega arith));
  }

-- of 8 bytes these are not gone over yet, and w is of the others
pub record Over (s rest : List ℕ) (w : ℕ) : Type 0 where
  pub front : rest ≡ take (length rest) s
  pub few : length rest ≤ 8
  pub word : Word s (length rest) (8 - length rest) w

-- the last of a front, and what is before it
last_of : (s next : List ℕ) (b : ℕ) → length next < length s → next ++ (b ∷ []) ≡ take (length next + 1) s → (next ≡ take (length next) s) × (b ≡ get_or s (length next) 0)
last_of s next b h e =
    let n : ℕ = length next in
    let f : next ++ (b ∷ []) ≡ take n s ++ (get_or s n 0 ∷ []) = e ∙ ap (λ (k : ℕ). take k s) (add-one n) ∙ take-suc s n 0 h in
    let long : length (take n s) ≡ n = length-take-le n s (omega arith) in
    let p : next ≡ take n s = sym (take_at next (b ∷ []) n refl) ∙ ap (λ (l : List ℕ). take n l) f ∙ take_at (take n s) (get_or s n 0 ∷ []) n long in
    let q : ◌≡◌ {A = List ℕ} (b ∷ []) (get_or s n 0 ∷ []) = sym (drop_at next (b ∷ []) n refl) ∙ ap (λ (l : List ℕ). drop n l) f ∙ drop_at (take n s) (get_or s n 0 ∷ []) n long in
    let same : b ≡ get_or s n 0 = cc in
    (p, same)

module _ (s rest : List ℕ) (eight : length s ≡ 8) where
  pub over_none : rest ≡ s → Over s rest 0
  over_none e = record {
    front = e ∙ sym (ap (λ (l : List ℕ). take (length l) s) e ∙ take_all (length s) s (omega arith));
    few = omega (arith, ap length e);
    word =
        let f : length rest ≡ 8 = ap length e ∙ eight in
        rw f (word_none s 8 (omega arith));
  }

  module _ (w : ℕ) (is : Over s rest w) where
    pub over_word : w < 256 ^ 8
    over_word = lt_of_lt_of_le is.word.short (pow-le-pow_right (lit< tt) {j = 8} (omega arith))

    pub over_fits : (next : List ℕ) (b : ℕ) → rest ≡ next ++ (b ∷ []) → w < 256 ^ 7
    over_fits next b e =
        let l : length rest ≡ length next + 1 = ap length e ∙ length-append next (b ∷ []) in
        lt_of_lt_of_le is.word.short (pow-le-pow_right (lit< tt) {j = 7} (omega arith))

    pub over_more : (next : List ℕ) (b : ℕ) → ((i : ℕ) → get_or s i 0 < 256) → rest ≡ next ++ (b ∷ []) → Over s next (w * 256 + b)
    over_more next b bytes e =
        let n : ℕ = length next in
        let l : length rest ≡ n + 1 = ap length e ∙ length-append next (b ∷ []) in
        let few = is.few in
        let t = last_of s next b (omega arith) (sym e ∙ is.front ∙ ap (λ (k : ℕ). take k s) l) in
        let f : 8 - n ≡ suc (8 - (n + 1)) = omega arith in
        record {
          front = t.0;
          few = omega arith;
          word = rw (f, t.1) (word_first s n (8 - (n + 1)) w (omega arith) (bytes n) (rw l at is.word));
        }

    pub over_all : length rest ≡ 0 → bit_and w (highest 8) ≡ 0 → Ascii s 0 8
    over_all e h = let whole : Word s 0 8 w = rw e at is.word in whole.told h
