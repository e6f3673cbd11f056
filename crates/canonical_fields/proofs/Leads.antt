-- The layouts that say a term's bytes before and after its parts.
use mathlib.Core.Path.{◌≡◌, refl, sym, ◌∙◌, ap, ap₂, subst}
use mathlib.Core.Bool.{Bool, true, false, cond}
use mathlib.Core.List.{List, [], ◌∷◌, ◌++◌, append-nil}
use Prim.Native.Nat.{ℕ, zero, suc, ◌+◌, ◌*◌, ◌-◌, ◌%◌, ◌^◌, ◌≤◌, ◌<◌}
use native.Mathlib.Omega.{arith}
use mir.Val.{bool_byte}
use lib.Arith.{digits_div, digits_mod}
use lib.Dec.{eqb, ltb}
use lib.IntN.{pos, negsuc}
use lib.ListN.{length, get_or, take, drop}
use borrow.Author.Tests.{lt-ltb, le-ltb, le-leb, lt-leb, ltb-true, ltb-false, ne_eqb}
use Rattle.term_spec.specs.Numbers.{big_endian, in_bytes, little_endian, digits, with_sign, Under}
use Rattle.term_spec.specs.Head.{clear_low}
use Rattle.term_spec.specs.Term.{tuple, list, improper_list, binary, bitstring, map, port, reference, export}
use Rattle.term_spec.specs.Canonical.{big_bytes, integer_bytes, atom_bytes, tuple_bytes, words_bytes}
use Rattle.term_spec.proofs.Numbers.{length_digits}
use Rattle.term_spec.proofs.Holds.{big_under}
use Rattle.term_spec.proofs.Text.{under_all}
use Rattle.octets.specs.Parts.{stretch}
use Rattle.octets.proofs.Numbers.{bytes_one, bytes_mod}
use Rattle.octets.proofs.Parts.{length_part, part_last, part_add}
use Rattle.row_fields.specs.Meaning.{sign, words_at, bare, label_of}
use Rattle.row_fields.specs.declared.Content.{Content}
use Rattle.row_fields.specs.declared.Content.TheVariants as fields
use Rattle.row_fields.specs.declared.Content.TheVariants.{Whole, Big, Text, Bytes, Reference}
use Rattle.row_fields.proofs.Values.{under_part}
use Rattle.layout.specs.declared.Body.{Body}
use Rattle.layout.specs.declared.Body.TheVariants.{Empty, Part, Digits, Bits}
use Rattle.layout.specs.declared.Layout.{Layout}
use Rattle.layout.specs.Layout.{body_bytes, Inside, BodyInside, Lays, laid_of}
use Rattle.layout.proofs.Digits.{digits_of}
use Rattle.layout.proofs.Bodies.{lays, length_stretch, length_bits}
use Rattle.canonical_fields.specs.Shape.{tagged_bytes, list_start, list_end, before, after}
use Rattle.canonical_fields.specs.Sound.{High, BytesOnly, SoundText, SoundContent, listed_in}

-- other bytes that are the same
pub says : {m places bs cs : List ℕ} {l : Layout} → bs ≡ cs → Lays m places bs l → Lays m places cs l
says e h = record { says = h.says ∙ e; can_be = h.can_be }

pub tagged_lays : (tag w n : ℕ) (body : Body) {l : Layout} → l ≡ laid_of 1 tag w n 0 0 body → tag < 256 → w ≤ 8
    → (m places : List ℕ) → BodyInside m places body → Lays m places (tagged_bytes tag w n (body_bytes m places body)) l
unfolding tagged_bytes in_bytes
tagged_lays tag w n body e t h m places i =
    lays 1 tag w n 0 0 body e (omega arith) h (omega arith) i
    (ap (λ (x : List ℕ). x ++ (in_bytes w n ++ body_bytes m places body)) (bytes_one tag t))

-- a layout with no body
abbrev Tagged : ℕ → ℕ → ℕ → Body → Layout → Type 0
Tagged tag w n body l = (m places : List ℕ) → BodyInside m places body → Lays m places (tagged_bytes tag w n (body_bytes m places body)) l

pub only_tagged : (tag w n : ℕ) {l : Layout} {bs : List ℕ} → Tagged tag w n Empty l → tag ∷ in_bytes w n ≡ bs → (m places : List ℕ) → Lays m places bs l
unfolding tagged_bytes body_bytes BodyInside
only_tagged tag w n t e m places = says (ap (λ (x : List ℕ). tag ∷ x) (append-nil (in_bytes w n)) ∙ e) (t m places tt)

-- integers
pub sign_byte : (z : Bool) → bool_byte z ≡ sign z
sign_byte true = refl
sign_byte false = refl

pub digits_lays : (n count : ℕ) (z : Bool) (s : ℕ) {l : Layout} → l ≡ laid_of 1 110 1 count 1 s (Digits n) → s ≡ sign z → count ≡ length (digits n) → count ≤ 8
    → (m places : List ℕ) → Lays m places (big_bytes (sign z) (digits n)) l
unfolding big_bytes body_bytes BodyInside
digits_lays n count z s {l} e f c few m places =
    let k : length (digits n) ≤ 255 = omega arith in
    subst (λ (t : ℕ). Lays m places (big_bytes t (digits n)) l) f
    (lays 1 110 1 count 1 s (Digits n) e (omega arith) (omega arith) (omega arith) tt
    (ap₂ (λ (x : List ℕ) (y : ℕ). x ++ (in_bytes 1 y ++ (in_bytes 1 s ++ digits n))) (bytes_one 110 (omega arith)) c
    ∙ sym (ap (λ (z : Bool). cond z (110 ∷ (in_bytes 1 (length (digits n)) ++ (in_bytes 1 s ++ digits n))) (111 ∷ (in_bytes 4 (length (digits n)) ++ (in_bytes 1 s ++ digits n)))) (le-leb (length (digits n)) 255 k))))

module _ (n : ℕ) where
  pub positive_97 : n < 256 → 97 ∷ in_bytes 1 n ≡ integer_bytes (pos n)
  unfolding integer_bytes
  positive_97 h = simp (lt-ltb n 256 h)

  pub positive_98 : 256 ≤ n → n < 2147483648 → 98 ∷ in_bytes 4 n ≡ integer_bytes (pos n)
  unfolding integer_bytes
  positive_98 g h = simp (le-ltb n 256 g, lt-ltb n 2147483648 h)

  pub positive_big : 2147483648 ≤ n → big_bytes 0 (digits n) ≡ integer_bytes (pos n)
  unfolding integer_bytes
  positive_big h = let g : 256 ≤ n = omega arith in simp (le-ltb n 256 g, le-ltb n 2147483648 h)

  pub negative_98 : 0 < n → n ≤ 2147483648 → 98 ∷ in_bytes 4 (4294967296 - n) ≡ integer_bytes (negsuc (n - 1))
  unfolding integer_bytes
  negative_98 p h =
      let g : n - 1 < 2147483648 = omega arith in
      let e : 4294967296 - n ≡ 4294967296 - suc (n - 1) = omega arith in
      simp (lt-ltb (n - 1) 2147483648 g) (ap (λ (k : ℕ). 98 ∷ in_bytes 4 k) e)

  pub negative_big : 2147483648 < n → big_bytes 1 (digits n) ≡ integer_bytes (negsuc (n - 1))
  unfolding integer_bytes
  negative_big h =
      let g : 2147483648 ≤ n - 1 = omega arith in
      let e : n ≡ suc (n - 1) = omega arith in
      simp (le-ltb (n - 1) 2147483648 g) (ap (λ (k : ℕ). big_bytes 1 (digits k)) e)

-- bytes of a part are bytes
part_under : (m : List ℕ) (start n : ℕ) → BytesOnly m → Under 256 (stretch m start n)
part_under m start n b = under_part m start n (under_all m (λ i l. b i))

-- an integer of more than 8 digits is a bignum
module _ (m : List ℕ) (start n : ℕ) (h : High m start n) (b : BytesOnly m) where
  big_value : digits (little_endian (stretch m start n)) ≡ stretch m start n
  big_value =
      let there : start + n ≤ length m = h.there.there in
      let many : 8 < n = h.many in
      let high : 0 < get_or m (start + (n - 1)) 0 = h.high in
      let e : suc (n - 1) ≡ n = omega arith in
      let f : stretch m start n ≡ stretch m start (n - 1) ++ (get_or m (start + (n - 1)) 0 ∷ [])
      = ap (λ (k : ℕ). stretch m start k) (sym e) ∙ part_last 0 m start (n - 1) (omega arith) in
      rw f (digits_of (stretch m start (n - 1)) (get_or m (start + (n - 1)) 0) (part_under m start (n - 1) b) (b (start + (n - 1))) high)

  pub big_large : 4294967296 ≤ little_endian (stretch m start n)
  big_large =
      let v : ℕ = little_endian (stretch m start n) in
      let many : 8 < n = h.many in
      let k : length (digits v) ≡ n = ap length big_value ∙ length_stretch m start n h.there in
      go v k many (ltb v 4294967296) refl
    where
      go : (v : ℕ) → length (digits v) ≡ n → 8 < n → (z : Bool) → ltb v 4294967296 ≡ z → 4294967296 ≤ v
      go v k many true e = let l : length (digits v) ≤ 4 = length_digits v 4 (ltb-true v 4294967296 e) in absurd (omega arith)
      go v k many false e = ltb-false v 4294967296 e

  signed_large : (s : Bool) (v : ℕ) → 4294967296 ≤ v → integer_bytes (with_sign (sign s) v) ≡ big_bytes (sign s) (digits v)
  unfolding with_sign
  signed_large s zero l = absurd (omega arith)
  signed_large true (suc v) l =
      let e : v ≡ suc v - 1 = omega arith in
      ap (λ (k : ℕ). integer_bytes (negsuc k)) e ∙ sym (negative_big (suc v) (omega arith))
  signed_large false (suc v) l = sym (positive_big (suc v) (omega arith))

  pub big_lays : (s : Bool) (places : List ℕ) (w tag sg : ℕ) {l : Layout} → l ≡ laid_of 1 tag w n 1 sg (Part false start n) → tag < 256 → w ≤ 8 → sg ≡ sign s
      → big_bytes (sign s) (stretch m start n) ≡ tag ∷ (in_bytes w n ++ (in_bytes 1 (sign s) ++ stretch m start n))
      → Lays m places (integer_bytes (with_sign (sign s) (little_endian (stretch m start n)))) l
  unfolding body_bytes BodyInside
  big_lays s places w tag sg e t k g f =
      says
      (ap₂ (λ (x : List ℕ) (y : ℕ). x ++ (in_bytes w n ++ (in_bytes 1 y ++ stretch m start n))) (bytes_one tag t) g
      ∙ sym f
      ∙ sym (signed_large s (little_endian (stretch m start n)) big_large ∙ ap (big_bytes (sign s)) big_value))
      (lays 1 tag w n 1 sg (Part false start n) e (omega arith) k (omega arith) h.there refl)

module _ (s : ℕ) (ds : List ℕ) (n : ℕ) (e : length ds ≡ n) where
  pub big_110 : n ≤ 255 → big_bytes s ds ≡ 110 ∷ (in_bytes 1 n ++ (in_bytes 1 s ++ ds))
  unfolding big_bytes
  big_110 h = rw (e, le-leb n 255 h)

  pub big_111 : 255 < n → big_bytes s ds ≡ 111 ∷ (in_bytes 4 n ++ (in_bytes 1 s ++ ds))
  unfolding big_bytes
  big_111 h = rw (e, lt-leb n 255 h)

-- atoms
module _ (n : ℕ) (bs : List ℕ) (e : n ≡ length bs) where
  pub atom_119 : n ≤ 255 → tagged_bytes 119 1 n bs ≡ atom_bytes bs
  unfolding tagged_bytes atom_bytes
  atom_119 h = rw e (simp (le-leb (length bs) 255 (rw e at h)))

  pub atom_118 : 255 < n → tagged_bytes 118 2 n bs ≡ atom_bytes bs
  unfolding tagged_bytes atom_bytes
  atom_118 h = rw e (simp (lt-leb (length bs) 255 (rw e at h)))

-- numbers stand as they are written
bytes_stand : (bs : List ℕ) → Under 256 bs → in_bytes (length bs) (big_endian bs) ≡ bs
unfolding in_bytes big_endian
bytes_stand [] u = refl
bytes_stand (b ∷ bs) u =
    let c : ℕ = 256 ^ length bs in
    let l : big_endian bs < c = big_under bs u.1 in
    let h : b % 256 ≡ b = omega (arith, u.0) in
    ap₂ (λ (x : ℕ) (y : List ℕ). x ∷ y) (ap (λ (x : ℕ). x % 256) (digits_div b l) ∙ h)
    (sym (bytes_mod (length bs) (b * c + big_endian bs)) ∙ ap (λ (x : ℕ). in_bytes (length bs) x) (digits_mod b l) ∙ bytes_stand bs u.1)

pub number_stands : (m : List ℕ) (w at : ℕ) → BytesOnly m → at + w ≤ length m → in_bytes w (big_endian (take w (drop at m))) ≡ take w (drop at m)
number_stands m w at b h =
    ap (λ (k : ℕ). in_bytes k (big_endian (take w (drop at m)))) (sym (length_part m at w h)) ∙ bytes_stand (take w (drop at m)) (part_under m at w b)

pub words_stand : (m : List ℕ) (start n : ℕ) → BytesOnly m → start + 4 * n ≤ length m → words_bytes (words_at m start n) ≡ stretch m start (4 * n)
unfolding words_bytes words_at
words_stand m start zero b h = refl
words_stand m start (suc n) b h =
    let e : 4 + 4 * n ≡ 4 * suc n = omega arith in
    ap₂ (λ (x y : List ℕ). x ++ y) (number_stands m 4 start b (omega arith)) (words_stand m (start + 4) n b (omega arith))
    ∙ sym (part_add m start 4 (4 * n))
    ∙ ap (λ (k : ℕ). take k (drop start m)) e

-- ---- the other terms

pub tuple_104 : (n : ℕ) → n ≤ 255 → 104 ∷ in_bytes 1 n ≡ before tuple n
unfolding before tuple_bytes
tuple_104 n h = simp (le-leb n 255 h) (ap (λ (x : List ℕ). 104 ∷ x) (sym (append-nil (in_bytes 1 n))))

pub tuple_105 : (n : ℕ) → 255 < n → 105 ∷ in_bytes 4 n ≡ before tuple n
unfolding before tuple_bytes
tuple_105 n h = simp (lt-leb n 255 h) (ap (λ (x : List ℕ). 105 ∷ x) (sym (append-nil (in_bytes 4 n))))

pub list_106 : (n : ℕ) → n ≡ 0 → 106 ∷ [] ≡ before list n
unfolding before list_start
list_106 n e = rw e

pub list_108 : (n : ℕ) → (n ≡ 0 → ⊥) → 108 ∷ in_bytes 4 n ≡ before list n
unfolding before list_start
list_108 zero h = absurd (h refl)
list_108 (suc n) h = refl

pub list_over : (n : ℕ) → n ≡ 0 → [] ≡ after list n
unfolding after list_end
list_over n e = rw e

pub list_closed : (n : ℕ) → (n ≡ 0 → ⊥) → 106 ∷ [] ≡ after list n
unfolding after list_end
list_closed zero h = absurd (h refl)
list_closed (suc n) h = refl

-- of a kind with no fields
pub bare_is : (kind k : ℕ) → kind ≡ k → bare k ≡ bare kind
bare_is kind k e = ap bare (sym e)

pub bare_export : (kind : ℕ) → (kind ≡ 4 → ⊥) → (kind ≡ 5 → ⊥) → (kind ≡ 6 → ⊥) → (kind ≡ 9 → ⊥) → export ≡ bare kind
unfolding bare
bare_export kind a b c d = simp (ne_eqb kind 4 a, ne_eqb kind 5 b, ne_eqb kind 6 c, ne_eqb kind 9 d)

pub bare_over : (kind n : ℕ) → (kind ≡ 5 → ⊥) → [] ≡ after (bare kind) n
unfolding bare after
bare_over kind n h = simp (ne_eqb kind 5 h) (go (eqb kind 4) (eqb kind 6) (eqb kind 9))
  where
    go : (x y z : Bool) → ◌≡◌ {A = List ℕ} [] (after (cond x tuple (cond y improper_list (cond z map export))) n)
    go true y z = refl
    go false true z = refl
    go false false true = refl
    go false false false = refl

pub port_89 : (id creation n : ℕ) → id < 268435456 → 89 ∷ [] ≡ before (port id creation) n
unfolding before
port_89 id creation n h = simp (lt-ltb id 268435456 h)

pub port_120 : (id creation n : ℕ) → 268435456 ≤ id → 120 ∷ [] ≡ before (port id creation) n
unfolding before
port_120 id creation n h = simp (le-ltb id 268435456 h)

pub port_four : (id creation n : ℕ) → id < 268435456 → in_bytes 4 id ++ in_bytes 4 creation ≡ after (port id creation) n
unfolding after
port_four id creation n h = simp (lt-ltb id 268435456 h)

pub port_eight : (id creation n : ℕ) → 268435456 ≤ id → in_bytes 8 id ++ in_bytes 4 creation ≡ after (port id creation) n
unfolding after
port_eight id creation n h = simp (le-ltb id 268435456 h)

-- a layout of numbers alone
pub numbers_lay : (v a w b x c : ℕ) {l : Layout} {bs : List ℕ} → l ≡ laid_of v a w b x c Empty → v ≤ 8 → w ≤ 8 → x ≤ 8
    → in_bytes v a ++ (in_bytes w b ++ in_bytes x c) ≡ bs → (m places : List ℕ) → Lays m places bs l
unfolding body_bytes BodyInside
numbers_lay v a w b x c e f g h s m places =
    lays v a w b x c Empty e f g h tt (ap (λ (y : List ℕ). in_bytes v a ++ (in_bytes w b ++ y)) (append-nil (in_bytes x c)) ∙ s)

pub words_lay : (m places : List ℕ) (creation start words n : ℕ) {l : Layout} → l ≡ laid_of 4 creation 0 0 0 0 (Part false start (4 * words))
    → Inside m start (4 * words) → BytesOnly m → Lays m places (after (reference creation (words_at m start words)) n) l
unfolding body_bytes BodyInside after in_bytes
words_lay m places creation start words n e i b =
    lays 4 creation 0 0 0 0 (Part false start (4 * words)) e (omega arith) (omega arith) (omega arith) i
    (ap (λ (y : List ℕ). in_bytes 4 creation ++ y) (sym (words_stand m start words b i.there)))

pub bits_lay : (m places : List ℕ) (bits start n : ℕ) {l : Layout} → l ≡ laid_of 1 77 4 n 1 bits (Bits bits start n)
    → Inside m start n → 1 ≤ n → Lays m places (before (bitstring bits (clear_low bits (stretch m start n))) 0) l
unfolding body_bytes BodyInside before
bits_lay m places bits start n e i one =
    lays 1 77 4 n 1 bits (Bits bits start n) e (omega arith) (omega arith) (omega arith) (i, one)
    (ap₂ (λ (x : List ℕ) (k : ℕ). x ++ (in_bytes 4 k ++ (in_bytes 1 bits ++ clear_low bits (stretch m start n)))) (bytes_one 77 (omega arith)) (sym (length_bits bits m start n i)))

pub bytes_lay : (m places : List ℕ) (start n : ℕ) {l : Layout} → Tagged 109 4 n (Part false start n) l → Inside m start n
    → Lays m places (before (binary (stretch m start n)) 0) l
unfolding body_bytes BodyInside before tagged_bytes
bytes_lay m places start n t i =
    says (ap (λ (k : ℕ). 109 ∷ (in_bytes 4 k ++ stretch m start n)) (sym (length_stretch m start n i))) (t m places i)

-- ---- contents

pub signed_below : (z : Bool) (n : ℕ) → z ≡ true → 0 < n → negsuc (n - 1) ≡ with_sign (sign z) n
unfolding with_sign
signed_below z zero e h = absurd (omega arith)
signed_below z (suc n) e h = let f : suc n - 1 ≡ n = omega arith in rw (e, f)

pub signed_above : (z : Bool) (n : ℕ) → z ≡ false → pos n ≡ with_sign (sign z) n
unfolding with_sign
signed_above z n e = rw e

-- nothing stands after the parts of what is neither bare, nor a pid, port or reference
plain_trail : (m places : List ℕ) (kind n : ℕ) (c : Content)
    → (c ≡ fields.Nothing → ⊥) → ((id serial creation : ℕ) → c ≡ fields.Pid id serial creation → ⊥) → ((id creation : ℕ) → c ≡ fields.Port id creation → ⊥) → ((creation start words : ℕ) → c ≡ Reference creation start words → ⊥)
    → after (label_of m (listed_in places) kind c) n ≡ []
unfolding label_of after
plain_trail m places kind n fields.Nothing x y z w = absurd (x refl)
plain_trail m places kind n (Whole negative k) x y z w = refl
plain_trail m places kind n (Big negative start k) x y z w = refl
plain_trail m places kind n (fields.Float bits) x y z w = refl
plain_trail m places kind n (Text latin1 listed start k) x y z w = refl
plain_trail m places kind n (Bytes start k) x y z w = refl
plain_trail m places kind n (fields.Bits bits start k) x y z w = refl
plain_trail m places kind n (fields.Pid id serial creation) x y z w = absurd (y id serial creation refl)
plain_trail m places kind n (fields.Port id creation) x y z w = absurd (z id creation refl)
plain_trail m places kind n (Reference creation start k) x y z w = absurd (w creation start k refl)

module _ (m places : List ℕ) (content : Content) where
  pub sound_whole : (negative : Bool) (n : ℕ) → content ≡ Whole negative n → SoundContent m places content → negative ≡ true → 0 < n
  unfolding SoundContent
  sound_whole negative n e h = rw e at h

  pub sound_big : (negative : Bool) (start n : ℕ) → content ≡ Big negative start n → SoundContent m places content → High m start n
  unfolding SoundContent
  sound_big negative start n e h = rw e at h

  pub sound_text : (latin1 listed : Bool) (start n : ℕ) → content ≡ Text latin1 listed start n → SoundContent m places content → SoundText m places latin1 listed start n
  unfolding SoundContent
  sound_text latin1 listed start n e h = rw e at h

  pub sound_bytes : (start n : ℕ) → content ≡ Bytes start n → SoundContent m places content → Inside m start n
  unfolding SoundContent
  sound_bytes start n e h = rw e at h

  pub sound_bits : (bits start n : ℕ) → content ≡ fields.Bits bits start n → SoundContent m places content → Inside m start n × (1 ≤ n)
  unfolding SoundContent
  sound_bits bits start n e h = rw e at h

  pub sound_words : (creation start words : ℕ) → content ≡ Reference creation start words → SoundContent m places content → Inside m start (4 * words)
  unfolding SoundContent
  sound_words creation start words e h = rw e at h

  module _ (kind n : ℕ) where
    -- the bytes by a content, where the content is known
    abbrev before_of : Content → List ℕ
    before_of c = before (label_of m (listed_in places) kind c) n

    abbrev after_of : Content → List ℕ
    after_of c = after (label_of m (listed_in places) kind c) n

    pub lead_by : (c : Content) {l : Layout} → content ≡ c → Lays m places (before_of c) l → Lays m places (before_of content) l
    lead_by c e h = says (sym (ap before_of e)) h

    pub no_trail : (content ≡ fields.Nothing → ⊥) → ((id serial creation : ℕ) → content ≡ fields.Pid id serial creation → ⊥) → ((id creation : ℕ) → content ≡ fields.Port id creation → ⊥)
        → ((creation start words : ℕ) → content ≡ Reference creation start words → ⊥) → {l : Layout} → Lays m places [] l → Lays m places (after_of content) l
    no_trail x y z w h = says (sym (plain_trail m places kind n content x y z w)) h

    pub trail_by : (c : Content) {l : Layout} → content ≡ c → Lays m places (after_of c) l → Lays m places (after_of content) l
    trail_by c e h = says (sym (ap after_of e)) h
