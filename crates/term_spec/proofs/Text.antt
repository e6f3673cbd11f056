-- Characters as UTF-8, and back.
use mathlib.Core.Path.{◌≡◌, refl, sym, ◌∙◌, ap, ap₂, subst}
use mathlib.Core.Bool.{Bool, true, false, ◌&&◌, ◌||◌, cond}
use mathlib.Core.List.{List, [], ◌∷◌, ◌++◌, append-nil}
use mathlib.Core.Option.{Option, none, some}
use Prim.Native.Nat.{ℕ, zero, suc, ◌+◌, ◌*◌, ◌-◌, ◌/◌, ◌%◌, ◌≤◌, ◌<◌}
use native.Mathlib.Nat.{div-div-eq-div-mul}
use native.Mathlib.Omega.{arith}
use lib.Dec.{leb, ltb}
use lib.ListN.{length, get_or, length-append}
use lib.Seq.{append_snoc}
use borrow.Author.Tests.{ltb-true, leb-true, lt-ltb, le-ltb, le-leb, lt-leb}
use Rattle.term_spec.specs.Numbers.{Under}
use Rattle.term_spec.specs.Text.{Range, ◌to◌, holds, Line, line, utf8_tail, lines, marker, Begun, begun, first, emit, Checked, valid, invalid_at, decode, Coding, latin_1, utf_8, check, is_character, encode, encodes, Characters}
use Rattle.term_spec.proofs.Tests.{also, by_less}

within : (from last b : ℕ) → from ≤ b → b ≤ last → holds (from to last) b ≡ true
unfolding holds
within from last b h k = rw (le-leb from b h, le-leb b last k)

beyond : (from last b : ℕ) → last < b → from ≤ b → holds (from to last) b ≡ false
unfolding holds
beyond from last b h k = rw (le-leb from b k, lt-leb b last h)

-- a first byte in a line, and beyond it
in_line : (b from last : ℕ) (rs : List Range) (ls : List Line) → from ≤ b → b ≤ last
    → first b (line (from to last) rs ∷ ls) ≡ some (begun (b - marker rs) rs)
unfolding first
in_line b from last rs ls h k = rw (within from last b h k, first)

past_line : (b from last : ℕ) (rs : List Range) (ls : List Line) → from ≤ b → last < b
    → first b (line (from to last) rs ∷ ls) ≡ first b ls
unfolding first
past_line b from last rs ls h k = rw (beyond from last b k h, first)

-- the line of each first byte
module _ (b : ℕ) where
  first_00 : b ≤ 0x7F → first b lines ≡ some (begun (b - 0) [])
  unfolding lines marker
  first_00 h = in_line b _ _ _ _ (omega arith) h

  first_C2 : 0xC2 ≤ b → b ≤ 0xDF → first b lines ≡ some (begun (b - 0xC0) (utf8_tail ∷ []))
  unfolding lines marker
  first_C2 h k = past_line b _ _ _ _ (omega arith) (omega arith) ∙ in_line b _ _ _ _ h k

  first_E0 : 0xE0 ≤ b → b ≤ 0xE0 → first b lines ≡ some (begun (b - 0xE0) ((0xA0 to 0xBF) ∷ utf8_tail ∷ []))
  unfolding lines marker
  first_E0 h k =
      past_line b _ _ _ _ (omega arith) (omega arith)
      ∙ past_line b _ _ _ _ (omega arith) (omega arith)
      ∙ in_line b _ _ _ _ h k

  first_E1 : 0xE1 ≤ b → b ≤ 0xEC → first b lines ≡ some (begun (b - 0xE0) (utf8_tail ∷ utf8_tail ∷ []))
  unfolding lines marker
  first_E1 h k =
      past_line b _ _ _ _ (omega arith) (omega arith)
      ∙ past_line b _ _ _ _ (omega arith) (omega arith)
      ∙ past_line b _ _ _ _ (omega arith) (omega arith)
      ∙ in_line b _ _ _ _ h k

  first_ED : 0xED ≤ b → b ≤ 0xED → first b lines ≡ some (begun (b - 0xE0) ((0x80 to 0x9F) ∷ utf8_tail ∷ []))
  unfolding lines marker
  first_ED h k =
      past_line b _ _ _ _ (omega arith) (omega arith)
      ∙ past_line b _ _ _ _ (omega arith) (omega arith)
      ∙ past_line b _ _ _ _ (omega arith) (omega arith)
      ∙ past_line b _ _ _ _ (omega arith) (omega arith)
      ∙ in_line b _ _ _ _ h k

  first_EE : 0xEE ≤ b → b ≤ 0xEF → first b lines ≡ some (begun (b - 0xE0) (utf8_tail ∷ utf8_tail ∷ []))
  unfolding lines marker
  first_EE h k =
      past_line b _ _ _ _ (omega arith) (omega arith)
      ∙ past_line b _ _ _ _ (omega arith) (omega arith)
      ∙ past_line b _ _ _ _ (omega arith) (omega arith)
      ∙ past_line b _ _ _ _ (omega arith) (omega arith)
      ∙ past_line b _ _ _ _ (omega arith) (omega arith)
      ∙ in_line b _ _ _ _ h k

  past_EF : (ls : List Line) → 0xF0 ≤ b
      → first b (line (0x00 to 0x7F) [] ∷ line (0xC2 to 0xDF) (utf8_tail ∷ [])
      ∷ line (0xE0 to 0xE0) ((0xA0 to 0xBF) ∷ utf8_tail ∷ []) ∷ line (0xE1 to 0xEC) (utf8_tail ∷ utf8_tail ∷ [])
      ∷ line (0xED to 0xED) ((0x80 to 0x9F) ∷ utf8_tail ∷ []) ∷ line (0xEE to 0xEF) (utf8_tail ∷ utf8_tail ∷ []) ∷ ls) ≡ first b ls
  past_EF ls h =
      past_line b _ _ _ _ (omega arith) (omega arith)
      ∙ past_line b _ _ _ _ (omega arith) (omega arith)
      ∙ past_line b _ _ _ _ (omega arith) (omega arith)
      ∙ past_line b _ _ _ _ (omega arith) (omega arith)
      ∙ past_line b _ _ _ _ (omega arith) (omega arith)
      ∙ past_line b _ _ _ _ (omega arith) (omega arith)

  first_F0 : 0xF0 ≤ b → b ≤ 0xF0 → first b lines ≡ some (begun (b - 0xF0) ((0x90 to 0xBF) ∷ utf8_tail ∷ utf8_tail ∷ []))
  unfolding lines marker
  first_F0 h k = past_EF _ h ∙ in_line b _ _ _ _ h k

  first_F1 : 0xF1 ≤ b → b ≤ 0xF3 → first b lines ≡ some (begun (b - 0xF0) (utf8_tail ∷ utf8_tail ∷ utf8_tail ∷ []))
  unfolding lines marker
  first_F1 h k = past_EF _ (omega arith) ∙ past_line b _ _ _ _ (omega arith) (omega arith) ∙ in_line b _ _ _ _ h k

  first_F4 : 0xF4 ≤ b → b ≤ 0xF4 → first b lines ≡ some (begun (b - 0xF0) ((0x80 to 0x8F) ∷ utf8_tail ∷ utf8_tail ∷ []))
  unfolding lines marker
  first_F4 h k =
      past_EF _ (omega arith)
      ∙ past_line b _ _ _ _ (omega arith) (omega arith)
      ∙ past_line b _ _ _ _ (omega arith) (omega arith)
      ∙ in_line b _ _ _ _ h k

-- a first byte, and a byte that is due
pub decode_first : (room lead at v : ℕ) (c : Begun) (b : ℕ) (bs : List ℕ) → first b lines ≡ some c
    → decode (suc room) lead at (begun v []) (b ∷ bs) ≡ emit c (decode room at (at + 1) c bs)
unfolding decode
decode_first room lead at v c b bs e = rw (e, decode)

pub decode_due : (room lead at v from last : ℕ) (rs : List Range) (b : ℕ) (bs : List ℕ) → from ≤ b → b ≤ last
    → decode room lead at (begun v ((from to last) ∷ rs)) (b ∷ bs)
    ≡ emit (begun (v * 64 + (b - 0x80)) rs) (decode room lead (at + 1) (begun (v * 64 + (b - 0x80)) rs) bs)
unfolding decode
decode_due room lead at v from last rs b bs h k = rw (within from last b h k, decode)

-- between characters the value and the first byte are nothing
pub between : (room lead lead' at v w : ℕ) (bs : List ℕ) → decode room lead at (begun v []) bs ≡ decode room lead' at (begun w []) bs
unfolding decode
between room lead lead' at v w [] = refl
between zero lead lead' at v w (b ∷ bs) = refl
between (suc room) lead lead' at v w (b ∷ bs) = refl

-- no character is put down while a byte of it is due
pub pending : (v : ℕ) (r : Range) (rs : List Range) (o : Checked) → emit (begun v (r ∷ rs)) o ≡ o
unfolding emit
pending v r rs (invalid_at k) = refl
pending v r rs (valid cs) = refl

-- characters of one to four bytes
module _ (room lead at w v : ℕ) (bs : List ℕ) where
  pub whole_1 : (b : ℕ) → first b lines ≡ some (begun v [])
      → decode (suc room) lead at (begun w []) (b ∷ bs) ≡ emit (begun v []) (decode room 0 (at + 1) (begun 0 []) bs)
  whole_1 b e = decode_first room lead at w _ b bs e ∙ ap (emit (begun v [])) (between room at 0 (at + 1) v 0 bs)

  pub whole_2 : (b c from last : ℕ) → first b lines ≡ some (begun v ((from to last) ∷ [])) → from ≤ c → c ≤ last
      → decode (suc room) lead at (begun w []) (b ∷ c ∷ bs) ≡ emit (begun (v * 64 + (c - 0x80)) []) (decode room 0 (at + 1 + 1) (begun 0 []) bs)
  whole_2 b c from last e h k =
      decode_first room lead at w _ b (c ∷ bs) e
      ∙ pending _ _ _ _
      ∙ decode_due room at (at + 1) v from last [] c bs h k
      ∙ ap (emit (begun (v * 64 + (c - 0x80)) [])) (between room at 0 _ _ 0 bs)

  pub whole_3 : (b c d from last : ℕ) → first b lines ≡ some (begun v ((from to last) ∷ utf8_tail ∷ [])) → from ≤ c → c ≤ last
      → 0x80 ≤ d → d ≤ 0xBF
      → decode (suc room) lead at (begun w []) (b ∷ c ∷ d ∷ bs)
      ≡ emit (begun ((v * 64 + (c - 0x80)) * 64 + (d - 0x80)) []) (decode room 0 (at + 1 + 1 + 1) (begun 0 []) bs)
  whole_3 b c d from last e h k h' k' =
      decode_first room lead at w _ b _ e
      ∙ pending _ _ _ _
      ∙ decode_due room at (at + 1) v from last _ c _ h k
      ∙ pending _ _ _ _
      ∙ decode_due room at (at + 1 + 1) _ 0x80 0xBF [] d bs h' k'
      ∙ ap (emit (begun ((v * 64 + (c - 0x80)) * 64 + (d - 0x80)) [])) (between room at 0 _ _ 0 bs)

  pub whole_4 : (b c d f from last : ℕ) → first b lines ≡ some (begun v ((from to last) ∷ utf8_tail ∷ utf8_tail ∷ [])) → from ≤ c → c ≤ last
      → 0x80 ≤ d → d ≤ 0xBF → 0x80 ≤ f → f ≤ 0xBF
      → decode (suc room) lead at (begun w []) (b ∷ c ∷ d ∷ f ∷ bs)
      ≡ emit (begun (((v * 64 + (c - 0x80)) * 64 + (d - 0x80)) * 64 + (f - 0x80)) []) (decode room 0 (at + 1 + 1 + 1 + 1) (begun 0 []) bs)
  whole_4 b c d f from last e h k h' k' h'' k'' =
      decode_first room lead at w _ b _ e
      ∙ pending _ _ _ _
      ∙ decode_due room at (at + 1) v from last _ c _ h k
      ∙ pending _ _ _ _
      ∙ decode_due room at (at + 1 + 1) _ 0x80 0xBF _ d _ h' k'
      ∙ pending _ _ _ _
      ∙ decode_due room at (at + 1 + 1 + 1) _ 0x80 0xBF [] f bs h'' k''
      ∙ ap (emit (begun (((v * 64 + (c - 0x80)) * 64 + (d - 0x80)) * 64 + (f - 0x80)) [])) (between room at 0 _ _ 0 bs)

-- what a character's number is not
character_below : (c : ℕ) → is_character c ≡ true → c < 0x110000
unfolding is_character
character_below c e = go (ltb c 0xD800) refl (leb 0xE000 c) refl (ltb c 0x110000) refl e
  where
    go : (x : Bool) → ltb c 0xD800 ≡ x → (y : Bool) → leb 0xE000 c ≡ y → (z : Bool) → ltb c 0x110000 ≡ z → (x || (y && z)) ≡ true → c < 0x110000
    go true p y q z r f = omega (arith, ltb-true c 0xD800 p)
    go false p true q true r f = ltb-true c 0x110000 r
    go false p true q false r f = let no_way : ◌≡◌ {A = ℕ} 0 1 = cc in omega arith
    go false p false q z r f = let no_way : ◌≡◌ {A = ℕ} 0 1 = cc in omega arith

no_surrogate : (c : ℕ) → is_character c ≡ true → 0xD800 ≤ c → 0xE000 ≤ c
unfolding is_character
no_surrogate c e h = go (leb 0xE000 c) refl (simp (le-ltb c 0xD800 h) at e)
  where
    go : (y : Bool) → leb 0xE000 c ≡ y → (y && ltb c 0x110000) ≡ true → 0xE000 ≤ c
    go true q f = leb-true _ _ q
    go false q f = let no_way : ◌≡◌ {A = ℕ} 0 1 = cc in omega arith

module _ (c : ℕ) where
  pub encode_1 : c < 0x80 → encode c ≡ c ∷ []
  unfolding encode
  encode_1 h = rw (lt-ltb c 0x80 h)

  pub encode_2 : 0x80 ≤ c → c < 0x800 → encode c ≡ (0xC0 + c / 64) ∷ (0x80 + c % 64) ∷ []
  unfolding encode
  encode_2 h k = rw (le-ltb c 0x80 h, lt-ltb c 0x800 k)

  encode_3 : 0x800 ≤ c → c < 0x10000 → encode c ≡ (0xE0 + c / 4096) ∷ (0x80 + c / 64 % 64) ∷ (0x80 + c % 64) ∷ []
  unfolding encode
  encode_3 h k = rw (le-ltb c 0x80 (omega arith), le-ltb c 0x800 h, lt-ltb c 0x10000 k)

  encode_4 : 0x10000 ≤ c
      → encode c ≡ (0xF0 + c / 262144) ∷ (0x80 + c / 4096 % 64) ∷ (0x80 + c / 64 % 64) ∷ (0x80 + c % 64) ∷ []
  unfolding encode
  encode_4 h = rw (le-ltb c 0x80 (omega arith), le-ltb c 0x800 (omega arith), le-ltb c 0x10000 h)

  module _ (room lead at : ℕ) (bs cs : List ℕ) (rest : (at : ℕ) → decode room 0 at (begun 0 []) bs ≡ valid cs) where
    -- the bytes of the character stand for it
    abbrev Back : Type 0
    Back = decode (suc room) lead at (begun 0 []) (encode c ++ bs) ≡ valid (c ∷ cs)

    -- a value that is c
    is_c : (v end : ℕ) → v ≡ c → emit (begun v []) (decode room 0 end (begun 0 []) bs) ≡ valid (c ∷ cs)
    unfolding emit
    is_c v end e = ap (emit (begun v [])) (rest end) ∙ ap (λ (x : ℕ). valid (x ∷ cs)) e

    back_1 : c < 0x80 → Back
    back_1 h = rw (encode_1 h) (whole_1 room lead at 0 _ bs c (first_00 c (omega arith)) ∙ is_c _ _ (omega arith))

    back_2 : 0x80 ≤ c → c < 0x800 → Back
    back_2 h k =
        rw (encode_2 h k)
        (whole_2 room lead at 0 _ bs _ _ _ _ (first_C2 _ (omega arith) (omega arith)) (omega arith) (omega arith) ∙ is_c _ _ (omega arith))

    back_3 : (from last : ℕ) → 0x800 ≤ c → c < 0x10000
        → first (0xE0 + c / 4096) lines ≡ some (begun (0xE0 + c / 4096 - 0xE0) ((from to last) ∷ utf8_tail ∷ []))
        → from ≤ 0x80 + c / 64 % 64 → 0x80 + c / 64 % 64 ≤ last → Back
    back_3 from last h k e f l =
        rw (encode_3 h k)
        (whole_3 room lead at 0 _ bs _ _ _ from last e f l (omega arith) (omega arith) ∙ is_c _ _ (omega arith))

    back_4 : (from last : ℕ) → 0x10000 ≤ c
        → first (0xF0 + c / 262144) lines ≡ some (begun (0xF0 + c / 262144 - 0xF0) ((from to last) ∷ utf8_tail ∷ utf8_tail ∷ []))
        → from ≤ 0x80 + c / 4096 % 64 → 0x80 + c / 4096 % 64 ≤ last → Back
    back_4 from last h e f l =
        rw (encode_4 h)
        (whole_4 room lead at 0 _ bs _ _ _ _ from last e f l (omega arith) (omega arith) (omega arith) (omega arith)
        ∙ is_c _ _ (omega (arith, div-div-eq-div-mul c 64 64, div-div-eq-div-mul c 4096 64)))

    -- RFC 3629: the ranges of characters, each on its line of the table
    pub back : is_character c ≡ true → Back
    back ok =
        below 0x80 back_1 λ h1.
        below 0x800 (back_2 h1) λ h2.
        below 0x1000 (λ k. back_3 _ _ h2 (omega arith) (first_E0 _ (omega arith) (omega arith)) (omega arith) (omega arith)) λ h3.
        below 0xD000 (λ k. back_3 _ _ h2 (omega arith) (first_E1 _ (omega arith) (omega arith)) (omega arith) (omega arith)) λ h4.
        below 0xD800 (λ k. back_3 _ _ h2 (omega arith) (first_ED _ (omega arith) (omega arith)) (omega arith) (omega arith)) λ h5.
        let h6 : 0xE000 ≤ c = no_surrogate c ok h5 in
        below 0x10000 (λ k. back_3 _ _ h2 k (first_EE _ (omega arith) (omega arith)) (omega arith) (omega arith)) λ h7.
        below 0x40000 (λ k. back_4 _ _ h7 (first_F0 _ (omega arith) (omega arith)) (omega arith) (omega arith)) λ h8.
        below 0x100000 (λ k. back_4 _ _ h7 (first_F1 _ (omega arith) (omega arith)) (omega arith) (omega arith)) λ h9.
        let h10 : c < 0x110000 = character_below c ok in
        back_4 _ _ h7 (first_F4 _ (omega arith) (omega arith)) (omega arith) (omega arith)
      where
        below : (n : ℕ) → (c < n → Back) → (n ≤ c → Back) → Back
        below n f g = by_less c n f g

-- numbers each of which is a byte
pub under_all : (s : List ℕ) → ((i : ℕ) → i < length s → get_or s i 0 < 256) → Under 256 s
under_all [] h = tt
under_all (x ∷ s) h = (h 0 (omega arith), under_all s (λ i l. h (suc i) (omega arith)))

encodes_decode : (cs : List ℕ) → Characters cs → (room lead at : ℕ) → length cs ≤ room → decode room lead at (begun 0 []) (encodes cs) ≡ valid cs
unfolding encodes decode
encodes_decode [] ok room lead at h = refl
encodes_decode (c ∷ cs) ok zero lead at h = absurd (omega arith)
encodes_decode (c ∷ cs) ok (suc room) lead at h =
    back c room lead at (encodes cs) cs (λ end. encodes_decode cs ok.1 room 0 end (omega arith)) ok.0

-- the bytes of characters, checked, are these characters
pub utf8_encodes : (cs : List ℕ) → Characters cs → length cs ≤ 255 → check utf_8 (encodes cs) ≡ valid cs
unfolding check
utf8_encodes cs ok h = encodes_decode cs ok 255 0 0 h

-- a character has one to four bytes
abbrev Few : List ℕ → Type 0
Few bs = (1 ≤ length bs) × (length bs ≤ 4)

length_encode : (c : ℕ) → Few (encode c)
unfolding encode
length_encode c = go (ltb c 0x80) (ltb c 0x800) (ltb c 0x10000)
  where
    go : (x y z : Bool) → Few (cond x (c ∷ [])
        (cond y ((0xC0 + c / 64) ∷ (0x80 + c % 64) ∷ [])
        (cond z ((0xE0 + c / 4096) ∷ (0x80 + c / 64 % 64) ∷ (0x80 + c % 64) ∷ [])
        ((0xF0 + c / 262144) ∷ (0x80 + c / 4096 % 64) ∷ (0x80 + c / 64 % 64) ∷ (0x80 + c % 64) ∷ []))))
    go true y z = omega arith
    go false true z = omega arith
    go false false true = omega arith
    go false false false = omega arith

pub length_encodes : (cs : List ℕ) → (length cs ≤ length (encodes cs)) × (length (encodes cs) ≤ 4 * length cs)
unfolding encodes
length_encodes [] = omega arith
length_encodes (c ∷ cs) = rw (length-append (encode c) (encodes cs)) (omega (arith, length_encode c, length_encodes cs))

-- What was found so far of a character that the bytes w begin: whatever bytes in the ranges due complete it, it is a character and w spells it
abbrev Completes : ℕ → List Range → List ℕ → Type 0
Completes v [] w = (is_character v ≡ true) × (encode v ≡ w)
Completes v ((from to last) ∷ rs) w = (b : ℕ) → from ≤ b → b ≤ last → Completes (v * 64 + (b - 0x80)) rs (w ++ (b ∷ []))

low_character : (c : ℕ) → c < 0xD800 → is_character c ≡ true
unfolding is_character
low_character c h = rw (lt-ltb c 0xD800 h)

high_character : (c : ℕ) → 0xE000 ≤ c → c < 0x110000 → is_character c ≡ true
unfolding is_character
high_character c h k = rw (le-ltb c 0xD800 (omega arith), le-leb 0xE000 c h, lt-ltb c 0x110000 k)

cons : {x y : ℕ} {xs ys : List ℕ} → x ≡ y → xs ≡ ys → x ∷ xs ≡ y ∷ ys
cons e f = ap₂ (λ (x : ℕ) (xs : List ℕ). x ∷ xs) e f

-- characters of bytes in these ranges
spell_1 : (a : ℕ) → a < 0x80 → encode (a - 0) ≡ a ∷ []
spell_1 a h = encode_1 (a - 0) (omega arith) ∙ cons (omega arith) refl

spell_2 : (a b : ℕ) → 0xC2 ≤ a → a ≤ 0xDF → 0x80 ≤ b → b ≤ 0xBF → encode ((a - 0xC0) * 64 + (b - 0x80)) ≡ a ∷ b ∷ []
spell_2 a b h h' i i' = encode_2 _ (omega arith) (omega arith) ∙ cons (omega arith) (cons (omega arith) refl)

spell_3 : (a b c : ℕ) → 0xE0 ≤ a → a ≤ 0xEF → 0x80 ≤ b → b ≤ 0xBF → 0x80 ≤ c → c ≤ 0xBF → 0x800 ≤ ((a - 0xE0) * 64 + (b - 0x80)) * 64 + (c - 0x80)
    → encode (((a - 0xE0) * 64 + (b - 0x80)) * 64 + (c - 0x80)) ≡ a ∷ b ∷ c ∷ []
spell_3 a b c h h' i i' j j' l = encode_3 _ l (omega arith) ∙ cons (omega arith) (cons (omega arith) (cons (omega arith) refl))

spell_4 : (a b c d : ℕ) → 0xF0 ≤ a → a ≤ 0xF4 → 0x80 ≤ b → b ≤ 0xBF → 0x80 ≤ c → c ≤ 0xBF → 0x80 ≤ d → d ≤ 0xBF
    → 0x10000 ≤ (((a - 0xF0) * 64 + (b - 0x80)) * 64 + (c - 0x80)) * 64 + (d - 0x80)
    → encode ((((a - 0xF0) * 64 + (b - 0x80)) * 64 + (c - 0x80)) * 64 + (d - 0x80)) ≡ a ∷ b ∷ c ∷ d ∷ []
spell_4 a b c d h h' i i' j j' k k' l = encode_4 _ l ∙ cons (omega arith) (cons (omega arith) (cons (omega arith) (cons (omega arith) refl)))

holds_true : (from last b : ℕ) → holds (from to last) b ≡ true → (from ≤ b) × (b ≤ last)
unfolding holds
holds_true from last b e = go (leb from b) refl (leb b last) refl e
  where
    go : (x : Bool) → leb from b ≡ x → (y : Bool) → leb b last ≡ y → (x && y) ≡ true → (from ≤ b) × (b ≤ last)
    go true p true q f = (leb-true from b p, leb-true b last q)
    go true p false q f = let no_way : ◌≡◌ {A = ℕ} 0 1 = cc in (omega arith, omega arith)
    go false p y q f = let no_way : ◌≡◌ {A = ℕ} 0 1 = cc in (omega arith, omega arith)

-- every line of the table
abbrev AllComplete : List Line → Type 0
AllComplete [] = Unit {0}
AllComplete (line (from to last) rs ∷ ls) = ((b : ℕ) → from ≤ b → b ≤ last → Completes (b - marker rs) rs (b ∷ [])) × AllComplete ls

lines_complete : AllComplete lines
unfolding lines marker
lines_complete =
    also (λ a h i. (low_character _ (omega arith), spell_1 a (omega arith)))
    (also (λ a h i b j k. (low_character _ (omega arith), spell_2 a b (omega arith) (omega arith) (omega arith) (omega arith)))
    (also (λ a h i b j k c l m. (low_character _ (omega arith), spell_3 a b c (omega arith) (omega arith) (omega arith) (omega arith) (omega arith) (omega arith) (omega arith)))
    (also (λ a h i b j k c l m. (low_character _ (omega arith), spell_3 a b c (omega arith) (omega arith) (omega arith) (omega arith) (omega arith) (omega arith) (omega arith)))
    (also (λ a h i b j k c l m. (low_character _ (omega arith), spell_3 a b c (omega arith) (omega arith) (omega arith) (omega arith) (omega arith) (omega arith) (omega arith)))
    (also (λ a h i b j k c l m. (high_character _ (omega arith) (omega arith), spell_3 a b c (omega arith) (omega arith) (omega arith) (omega arith) (omega arith) (omega arith) (omega arith)))
    (also (λ a h i b j k c l m d n o. (high_character _ (omega arith) (omega arith), spell_4 a b c d (omega arith) (omega arith) (omega arith) (omega arith) (omega arith) (omega arith) (omega arith) (omega arith) (omega arith)))
    (also (λ a h i b j k c l m d n o. (high_character _ (omega arith) (omega arith), spell_4 a b c d (omega arith) (omega arith) (omega arith) (omega arith) (omega arith) (omega arith) (omega arith) (omega arith) (omega arith)))
    (also (λ a h i b j k c l m d n o. (high_character _ (omega arith) (omega arith), spell_4 a b c d (omega arith) (omega arith) (omega arith) (omega arith) (omega arith) (omega arith) (omega arith) (omega arith) (omega arith)))
    tt))))))))

abbrev Completed : Begun → List ℕ → Type 0
Completed (begun v rs) w = Completes v rs w

first_completes : (ls : List Line) (b : ℕ) (c : Begun) → AllComplete ls → first b ls ≡ some c → Completed c (b ∷ [])
unfolding first
first_completes [] b c s e = let no_way : ◌≡◌ {A = ℕ} 0 1 = cc in absurd (omega arith)
first_completes (line (from to last) rs ∷ ls) b c s e = go (holds (from to last) b) refl e (λ f. first_completes ls b c s.1 f)
  where
    go : (t : Bool) → holds (from to last) b ≡ t → ◌≡◌ {A = Option Begun} (elim t [ true ↦ some (begun (b - marker rs) rs) | false ↦ first b ls ]) (some c)
        → (first b ls ≡ some c → Completed c (b ∷ [])) → Completed c (b ∷ [])
    go true h f ih =
        let is : begun (b - marker rs) rs ≡ c = cc in
        let in_range : (from ≤ b) × (b ≤ last) = holds_true from last b h in
        subst (λ (x : Begun). Completed x (b ∷ [])) is (s.0 b in_range.0 in_range.1)
    go false h f ih = ih f

-- Bytes that are valid are those of at most n characters, after the bytes w of one that is begun
pub record Spells (w bs cs : List ℕ) (n : ℕ) : Type 0 where
  pub spelt : w ++ bs ≡ encodes cs
  pub characters : Characters cs
  pub few : length cs ≤ n

-- the bytes of the character that is begun: none where none is due
abbrev Pending : Begun → List ℕ → Type 0
Pending (begun v []) w = w ≡ []
Pending (begun v (r ∷ rs)) w = Completes v (r ∷ rs) w

-- the characters that may still be put down
abbrev to_come : Begun → ℕ → ℕ
to_come (begun v []) room = room
to_come (begun v (r ∷ rs)) room = suc room

-- one byte more
module _ (room lead at : ℕ) (b : ℕ) (w bs : List ℕ)
    (later : (c : Begun) (w cs : List ℕ) → Pending c w → decode room lead at c bs ≡ valid cs → Spells w bs cs (to_come c room)) where
  grown : (c : Begun) → Completed c (w ++ (b ∷ [])) → (cs : List ℕ) → emit c (decode room lead at c bs) ≡ valid cs → Spells w (b ∷ bs) cs (suc room)
  unfolding emit encodes
  grown (begun v (r ∷ rs)) h cs e =
      let s : Spells (w ++ (b ∷ [])) bs cs (suc room) = later (begun v (r ∷ rs)) (w ++ (b ∷ [])) cs h (sym (pending v r rs _) ∙ e) in
      record { spelt = sym (append_snoc w b bs) ∙ s.spelt; characters = s.characters; few = s.few }
  grown (begun v []) h cs e = go (decode room lead at (begun v []) bs) refl e
    where
      go : (o : Checked) → decode room lead at (begun v []) bs ≡ o → emit (begun v []) o ≡ valid cs → Spells w (b ∷ bs) cs (suc room)
      go (invalid_at k) p f = let no_way : ◌≡◌ {A = ℕ} 0 1 = cc in absurd (omega arith)
      go (valid ds) p f =
          let is : v ∷ ds ≡ cs = cc in
          let s : Spells [] bs ds room = later (begun v []) [] ds refl p in
          subst (λ (x : List ℕ). Spells w (b ∷ bs) x (suc room)) is (record {
            spelt = sym (append_snoc w b bs) ∙ ap₂ (λ (x y : List ℕ). x ++ y) (sym h.1) s.spelt;
            characters = (h.0, s.characters);
            few = omega (arith, s.few);
          })

decoded : (bs : List ℕ) (room lead at : ℕ) (c : Begun) (w cs : List ℕ) → Pending c w → decode room lead at c bs ≡ valid cs → Spells w bs cs (to_come c room)
unfolding decode encodes
decoded [] room lead at (begun v []) w cs h e =
    let is : [] ≡ cs = cc in
    subst (λ (x : List ℕ). Spells w [] x room) is (record { spelt = append-nil w ∙ h; characters = tt; few = omega arith })
decoded [] room lead at (begun v (r ∷ rs)) w cs h e = let no_way : ◌≡◌ {A = ℕ} 0 1 = cc in absurd (omega arith)
decoded (b ∷ bs) zero lead at (begun v []) w cs h e = let no_way : ◌≡◌ {A = ℕ} 0 1 = cc in absurd (omega arith)
decoded (b ∷ bs) (suc room) lead at (begun v []) w cs h e =
    go (first b lines) refl e (grown room at (at + 1) b [] bs λ c w cs h e. decoded bs room at (at + 1) c w cs h e)
  where
    go : (o : Option Begun) → first b lines ≡ o
        → ◌≡◌ {A = Checked} (elim o [ none ↦ invalid_at at | some c ↦ emit c (decode room at (at + 1) c bs) ]) (valid cs)
        → ((c : Begun) → Completed c (b ∷ []) → (cs : List ℕ) → emit c (decode room at (at + 1) c bs) ≡ valid cs → Spells [] (b ∷ bs) cs (suc room))
        → Spells w (b ∷ bs) cs (suc room)
    go none p f more = let no_way : ◌≡◌ {A = ℕ} 0 1 = cc in absurd (omega arith)
    go (some c) p f more = rw h (more c (first_completes lines b c lines_complete p) cs f)
decoded (b ∷ bs) room lead at (begun v ((from to last) ∷ rs)) w cs h e =
    go (holds (from to last) b) refl e (grown room lead (at + 1) b w bs λ c w cs h e. decoded bs room lead (at + 1) c w cs h e)
  where
    go : (t : Bool) → holds (from to last) b ≡ t
        → ◌≡◌ {A = Checked} (elim t [
          | true ↦ emit (begun (v * 64 + (b - 0x80)) rs) (decode room lead (at + 1) (begun (v * 64 + (b - 0x80)) rs) bs)
          | false ↦ invalid_at at
        ]) (valid cs)
        → ((c : Begun) → Completed c (w ++ (b ∷ [])) → (cs : List ℕ) → emit c (decode room lead (at + 1) c bs) ≡ valid cs → Spells w (b ∷ bs) cs (suc room))
        → Spells w (b ∷ bs) cs (suc room)
    go false p f more = let no_way : ◌≡◌ {A = ℕ} 0 1 = cc in absurd (omega arith)
    go true p f more =
        let in_range : (from ≤ b) × (b ≤ last) = holds_true from last b p in
        more (begun (v * 64 + (b - 0x80)) rs) (h b in_range.0 in_range.1) cs f

pub utf8_spells : (bs cs : List ℕ) → check utf_8 bs ≡ valid cs → Spells [] bs cs 255
unfolding check
utf8_spells bs cs e = decoded bs 255 0 0 (begun 0 []) [] cs refl e

-- a text in UTF-8 is what its characters spell
pub utf8_spelt : (bs cs : List ℕ) → check utf_8 bs ≡ valid cs → encodes cs ≡ bs
utf8_spelt bs cs e = sym (utf8_spells bs cs e).spelt

-- bytes as Latin-1 are characters
pub latin1_characters : (bs : List ℕ) → Under 256 bs → Characters bs
latin1_characters [] h = tt
latin1_characters (b ∷ bs) h = (low_character b (omega arith), latin1_characters bs h.1)

pub latin1_is : (bs cs : List ℕ) → check latin_1 bs ≡ valid cs → (bs ≡ cs) × (length bs ≤ 255)
unfolding check
latin1_is bs cs e = go (leb (length bs) 255) refl e
  where
    go : (t : Bool) → leb (length bs) 255 ≡ t → ◌≡◌ {A = Checked} (elim t [ true ↦ valid bs | false ↦ invalid_at 255 ]) (valid cs) → (bs ≡ cs) × (length bs ≤ 255)
    go true p f = (cc, leb-true _ _ p)
    go false p f = let no_way : ◌≡◌ {A = ℕ} 0 1 = cc in absurd (omega arith)

-- A text that is valid is characters, 255 at most
pub check_characters : (coding : Coding) (bs cs : List ℕ) → Under 256 bs → check coding bs ≡ valid cs → Characters cs × (length cs ≤ 255)
check_characters latin_1 bs cs u e =
    let is : (bs ≡ cs) × (length bs ≤ 255) = latin1_is bs cs e in
    (rw is.0 at (latin1_characters bs u), rw is.0 at is.1)
check_characters utf_8 bs cs u e = ((utf8_spells bs cs e).characters, (utf8_spells bs cs e).few)
