-- The ways through a character, and over the characters of a text.
use mathlib.Core.Path.{◌≡◌, refl, sym, ◌∙◌, ap}
use mathlib.Core.Bool.{Bool, true, false}
use mathlib.Core.List.{List, [], ◌∷◌}
use mathlib.Core.Option.{Option, none, some}
use Prim.Native.Nat.{ℕ, zero, suc, ◌+◌, ◌-◌, ◌≤◌, ◌<◌}
use native.Mathlib.Nat.{add-zero, zero-add}
use native.Mathlib.Numerals.{add-one}
use native.Mathlib.Omega.{arith}
use lib.ListN.{length, get_or, drop, drop_of_length-le}
use lib.Seq.{drop-cons}
use borrow.Author.Tests.{le-leb, ltb-true, lt-ltb}
use Rattle.term_spec.specs.Text as text
use Rattle.term_spec.specs.Text.{Range, ◌to◌, holds, Line, line, lines, marker, Begun, begun, first, valid, invalid_at, emit, decode, utf_8, check}
use Rattle.term_spec.proofs.Tests.{both_true}
use Rattle.term_spec.proofs.Text.{decode_first, between, pending}
use Rattle.text.specs.Shown.{shown}
use Rattle.text.specs.Characters.{text_from, onward, Within, due, byte_in, Completes, CharacterAt, Ascii}
use Rattle.std.proofs.Common.{Some, None, Result, Ok, Err}
use Rattle.text.proofs.Ascii.{ascii_rest}

-- a character that is put down leaves the rest as it is found
put_down : (v : ℕ) (o : text.Checked) → shown (emit (begun v []) o) ≡ shown o
unfolding shown emit
put_down v (valid cs) = refl
put_down v (invalid_at k) = refl

module _ (s : List ℕ) where
  byte_at : (at : ℕ) → at < length s → drop at s ≡ get_or s at 0 ∷ drop (at + 1) s
  byte_at at h = drop-cons s at 0 h ∙ ap (λ (k : ℕ). get_or s at 0 ∷ drop k s) (sym (add-one at))

  -- the bytes due: all had, cut off, in their range or not
  pub completes_none : (lead at : ℕ) → at ≤ length s → Completes s lead at [] (Ok at)
  unfolding onward text_from Within
  completes_none lead at h = record {
    text_is = λ room v. put_down v _ ∙ ap shown (between room lead 0 at v 0 (drop at s));
    inside = (omega arith, h);
  }

  module _ (lead at : ℕ) (r : Range) (rs : List Range) where
    pub completes_cut : length s ≤ at → Completes s lead at (r ∷ rs) (Err lead)
    unfolding onward Within decode emit shown
    completes_cut h = record { text_is = λ room v. rw (drop_of_length-le s h, decode, emit, shown); inside = tt }

    pub completes_bad : at < length s → holds r (get_or s at 0) ≡ false → Completes s lead at (r ∷ rs) (Err at)
    unfolding onward Within decode emit shown
    completes_bad h e = record { text_is = λ room v. rw (byte_at at h, e, decode, emit, shown); inside = tt }

    pub completes_more : (c : Result ℕ ℕ) → at < length s → holds r (get_or s at 0) ≡ true → Completes s lead (at + 1) rs c → Completes s lead at (r ∷ rs) c
    unfolding decode Within
    completes_more c h e m = record {
      text_is = λ room v. ap shown (pending v r rs _) ∙ rw (byte_at at h, e, decode) (m.text_is room _);
      inside = further c m.inside;
    }
      where
        further : (c : Result ℕ ℕ) → Within s (at + 1) c → Within s at c
        further (Ok k) w = (omega arith, w.1)
        further (Err k) w = tt

  -- whether the byte due is there and in its range, and what becomes of the character then
  module _ (at : ℕ) (r : Range) where
    pub byte_there : at < length s → holds r (get_or s at 0) ≡ byte_in s at r
    unfolding byte_in
    byte_there h = rw (lt-ltb at (length s) h)

    pub byte_inside : byte_in s at r ≡ true → at < length s
    unfolding byte_in
    byte_inside e = ltb-true at (length s) (both_true _ _ e).0

    -- the same of what is due after it, and where nothing is
    pub completes_on : (lead next : ℕ) (rs : List Range) (c : Result ℕ ℕ) → next ≡ at + 1 → byte_in s at r ≡ true → Completes s lead next rs c → Completes s lead at (r ∷ rs) c
    completes_on lead next rs c f e m = completes_more lead at r rs c (byte_inside e) (byte_there (byte_inside e) ∙ e) (rw f at m)

    pub completes_last : (lead next : ℕ) → next ≡ at + 1 → byte_in s at r ≡ true → Completes s lead at (r ∷ []) (Ok next)
    completes_last lead next f e = completes_on lead next [] (Ok next) f e (completes_none lead next (omega (arith, byte_inside e)))

  -- a first byte that is in a line, or in none
  module _ (at : ℕ) (h : at < length s) where
    pub character_by : (rs : List Range) (c : Result ℕ ℕ) → Some rs ≡ due (first (get_or s at 0) lines) → Completes s at (at + 1) rs c → CharacterAt s at c
    unfolding text_from due
    character_by rs c told m = go (first (get_or s at 0) lines) refl told
      where
        go : (o : Option Begun) → first (get_or s at 0) lines ≡ o → Some rs ≡ due o → CharacterAt s at c
        go (some (begun v qs)) e f =
            let is : rs ≡ qs = cc in
            let e' : first (get_or s at 0) lines ≡ some (begun v rs) = cc in
            record {
              text_is = λ room. rw (byte_at at h) (ap shown (decode_first room 0 at 0 (begun v rs) _ _ e') ∙ m.text_is room v);
              inside = m.inside;
            }
        go none e f = let no_way : ◌≡◌ {A = ℕ} 0 1 = cc in absurd (omega arith)

    pub character_none : None ≡ due (first (get_or s at 0) lines) → CharacterAt s at (Err at)
    unfolding text_from onward Within decode shown due
    character_none told = go (first (get_or s at 0) lines) refl told
      where
        go : (o : Option Begun) → first (get_or s at 0) lines ≡ o → None ≡ due o → CharacterAt s at (Err at)
        go none e f = record { text_is = λ room. rw (byte_at at h, e, decode, shown); inside = tt }
        go (some (begun v qs)) e f = let no_way : ◌≡◌ {A = ℕ} 0 1 = cc in absurd (omega arith)

-- a byte is looked for in these lines of the table, past those before them
abbrev pub Left : ℕ → List Line → Type 0
Left b ls = first b lines ≡ first b ls

-- it is past the first of them, in it, or none are left
module _ (b : ℕ) where
  pub past_line : (r : Range) (rs : List Range) (ls : List Line) {t : Bool} → Left b (line r rs ∷ ls) → t ≡ holds r b → t ≡ false → Left b ls
  unfolding first
  past_line r rs ls left told e = left ∙ rw (sym told ∙ e, first)

  pub in_line : (r : Range) (rs : List Range) (ls : List Line) {t : Bool} → Left b (line r rs ∷ ls) → t ≡ holds r b → t ≡ true → Some rs ≡ due (first b lines)
  unfolding first due
  in_line r rs ls left told e =
      let is : first b lines ≡ some (begun (b - marker rs) rs) = left ∙ rw (sym told ∙ e, first) in
      sym (ap due is)

  pub no_line : Left b [] → None ≡ due (first b lines)
  unfolding first due
  no_line left = sym (ap due left)

holds_low : (b : ℕ) → b < 0x80 → holds (0x00 to 0x7F) b ≡ true
unfolding holds
holds_low b h = rw (le-leb 0 b (omega arith), le-leb b 0x7F (omega arith))

-- Over the characters: `count` of them stand before offset `at`.
abbrev pub Counted : List ℕ → ℕ → ℕ → Type 0
Counted s count at = shown (check utf_8 s) ≡ text_from s (255 - count) at

module _ (s : List ℕ) where
  pub counted_none : Counted s 0 0
  unfolding check text_from
  counted_none = refl

  module _ (count at : ℕ) (so_far : Counted s count at) where
    pub counted_all : length s ≤ at → Ok tt ≡ shown (check utf_8 s)
    unfolding text_from decode shown
    counted_all h = sym (so_far ∙ rw (drop_of_length-le s h, decode, shown))

    pub counted_full : at < length s → count ≡ 255 → Err at ≡ shown (check utf_8 s)
    unfolding text_from decode shown
    counted_full h e =
        let none_left : 255 - count ≡ 0 = omega arith in
        sym (so_far ∙ ap (λ (n : ℕ). text_from s n at) none_left ∙ rw (byte_at s at h, decode, shown))

    module _ (few : count ≤ 255) (not_full : count ≡ 255 → ⊥) where
      room : 255 - count ≡ suc (254 - count)
      room = omega arith

      pub counted_bad : (place : ℕ) → CharacterAt s at (Err place) → Err place ≡ shown (check utf_8 s)
      unfolding onward
      counted_bad place c = sym (so_far ∙ rw (room, c.text_is (254 - count)))

      pub counted_more : (next : ℕ) → CharacterAt s at (Ok next) → Counted s (count + 1) next
      unfolding onward
      counted_more next c =
          let less : 255 - (count + 1) ≡ 254 - count = omega arith in
          so_far ∙ rw (room, c.text_is (254 - count), less)

  -- an ASCII byte is a character, and n of them are n
  ascii_character : (at : ℕ) → at < length s → get_or s at 0 < 0x80 → CharacterAt s at (Ok (at + 1))
  unfolding lines
  ascii_character at h low =
      character_by s at h [] _ (in_line (get_or s at 0) (0x00 to 0x7F) [] _ refl refl (holds_low _ low)) (completes_none s at (at + 1) (omega arith))

  counted_ascii : (n count at : ℕ) → Counted s count at → count + n ≤ 255 → Ascii s at n → Counted s (count + n) (at + n)
  counted_ascii zero count at so_far few a = rw (add-zero count, add-zero at) so_far
  counted_ascii (suc n) count at so_far few a =
      let next_count : count + suc n ≡ count + 1 + n = omega arith in
      let next_at : at + suc n ≡ at + 1 + n = omega arith in
      let r = ascii_rest s at n a in
      let one : Counted s (count + 1) (at + 1)
      = counted_more count at so_far (omega arith) (λ e. omega arith) (at + 1) (ascii_character at (omega (arith, a.inside)) r.0) in
      rw (next_count, next_at) (counted_ascii n (count + 1) (at + 1) one (omega arith) r.1)

  pub counted_start : (n : ℕ) → n ≤ 255 → Ascii s 0 n → Counted s n n
  counted_start n few a = rw (zero-add n) at (counted_ascii n 0 0 counted_none (omega arith) a)

  pub ends_inside : (at next : ℕ) → CharacterAt s at (Ok next) → (at < next) × (next ≤ length s)
  unfolding Within
  ends_inside at next c = (omega (arith, c.inside), c.inside.1)
