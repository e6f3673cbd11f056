-- Terms whose bytes stand in the message as they are written.
use mathlib.Core.Path.{◌≡◌, refl, sym, ◌∙◌, ap, ap₂}
use mathlib.Core.Bool.{Bool, true, false, cond}
use mathlib.Core.List.{List, [], ◌∷◌, ◌++◌, append-nil}
use Prim.Native.Nat.{ℕ, ◌+◌, ◌-◌, ◌≤◌, ◌<◌, ◌/◌}
use native.Mathlib.Omega.{arith}
use lib.Dec.{ltb}
use lib.ListN.{length, get_or, take, drop, length-append}
use borrow.Author.Tests.{le-ltb, ltb-true, ltb-false}
use Rattle.term_spec.specs.Numbers.{in_bytes}
use Rattle.term_spec.specs.Canonical.{integer_bytes, atom_bytes}
use Rattle.term_spec.specs.Rows.{kind_in, parts_in, offset_in}
use Rattle.octets.proofs.Numbers.{big_one}
use Rattle.octets.proofs.Parts.{length_part, part_add}
use Rattle.row_fields.specs.Meaning.{coded, bare, label_of}
use Rattle.row_fields.specs.declared.Content.{Content}
use Rattle.row_fields.specs.declared.Content.TheVariants.{Whole, Text, Bytes, Nothing, Float}
use Rattle.layout.specs.Layout.{Put}
use Rattle.layout.proofs.Puts.{put_same}
use Rattle.canonical_fields.specs.Shape.{tagged_bytes, before, after}
use Rattle.canonical_fields.specs.Sound.{BytesOnly, SoundContent, listed_in, before_in, after_in, SoundWord}
use lib.Seq.{drop-cons, sets}
use Rattle.row_fields.specs.Found.{value, signed_whole, signed_found, integer_found, float_found, text_width, atom_found, binary_found, kind_found, content_of}
use Rattle.row_fields.proofs.ByKind.{kind_2, kind_3, kind_7}
use Rattle.row_fields.proofs.There.{text_there, bytes_there, tag_text, tag_109}
use Rattle.already_canonical.specs.Stands.{Tagged, Counted, Bodied, Stands}
use Rattle.canonical_fields.proofs.Leads.{number_stands, positive_97, positive_98, negative_98, atom_119, tuple_104, list_106, list_over, signed_above, signed_below, sound_text, sound_bytes}
use Rattle.canonical_fields.proofs.There.{byte_there, there, integer_there, tag_97}

-- a tag and a number after it, and bytes after these
module _ (m : List ℕ) (tag at w : ℕ) (b : BytesOnly m) (e : get_or m at 0 ≡ tag) where
  pub one : at < length m → take 1 (drop at m) ≡ tag ∷ []
  one h = ap (take 1) (drop-cons m at 0 h) ∙ ap (λ (x : ℕ). x ∷ []) e

  pub number_there : at + (1 + w) ≤ length m → tag ∷ in_bytes w (value m w (at + 1)) ≡ take (1 + w) (drop at m)
  number_there h =
      sym
      (part_add m at 1 w
      ∙ ap₂ (λ (x y : List ℕ). x ++ y) (one (omega arith)) (sym (number_stands m w (at + 1) b (omega arith))))

  pub body_there : (k : ℕ) → at + (1 + (w + k)) ≤ length m → tag ∷ (in_bytes w (value m w (at + 1)) ++ take k (drop (at + 1 + w) m)) ≡ take (1 + (w + k)) (drop at m)
  body_there k h =
      sym
      (part_add m at 1 (w + k)
      ∙ ap₂ (λ (x y : List ℕ). x ++ y) (one (omega arith))
      (part_add m (at + 1) w k
      ∙ ap (λ (x : List ℕ). x ++ take k (drop (at + 1 + w) m)) (sym (number_stands m w (at + 1) b (omega arith)))))

signed_bytes : (v : ℕ) → 256 ≤ v → v < 4294967296 → (m places : List ℕ) (parts : ℕ)
    → (before (label_of m (listed_in places) 1 (signed_whole v)) parts ≡ 98 ∷ in_bytes 4 v) × (after (label_of m (listed_in places) 1 (signed_whole v)) parts ≡ [])
unfolding signed_whole label_of before after
signed_bytes v g h m places parts = go (ltb v 2147483648) refl
  where
    go : (z : Bool) → ltb v 2147483648 ≡ z
        → (before (label_of m (listed_in places) 1 (cond z (Whole false v) (Whole true (4294967296 - v)))) parts ≡ 98 ∷ in_bytes 4 v)
        × (after (label_of m (listed_in places) 1 (cond z (Whole false v) (Whole true (4294967296 - v)))) parts ≡ [])
    go true e = (ap integer_bytes (sym (signed_above false v refl)) ∙ sym (positive_98 v g (ltb-true v 2147483648 e)), refl)
    go false e =
        let n : ℕ = 4294967296 - v in
        let low : 2147483648 ≤ v = ltb-false v 2147483648 e in
        let p : 0 < n = omega arith in
        let q : n ≤ 2147483648 = omega arith in
        let f : 4294967296 - n ≡ v = omega arith in
        (ap integer_bytes (sym (signed_below true n refl p)) ∙ sym (negative_98 n p q) ∙ ap (λ (k : ℕ). 98 ∷ in_bytes 4 k) f, refl)

module _ (m places lengths : List ℕ) (at parts : ℕ) (b : BytesOnly m) where
  by_content : (kind n : ℕ) (c : Content) → content_of m places lengths kind at ≡ c → at + n ≤ length m → n ≤ 262192
      → before (label_of m (listed_in places) kind c) parts ≡ take n (drop at m) → after (label_of m (listed_in places) kind c) parts ≡ []
      → Stands m places lengths kind at parts n
  by_content kind n c e t f p q =
      record {
        there = t;
        few = f;
        whole = ap (λ (d : Content). before (label_of m (listed_in places) kind d) parts) e ∙ p;
        no_end = ap (λ (d : Content). after (label_of m (listed_in places) kind d) parts) e ∙ q;
      }

  stands_97 : get_or m at 0 ≡ 97 → at + 2 ≤ length m → Stands m places lengths 1 at parts 2
  unfolding label_of before after
  stands_97 e h =
      let v : ℕ = value m 1 (at + 1) in
      let w : v ≡ get_or m (at + 1) 0 = big_one m (at + 1) (omega arith) in
      let l : v < 256 = omega (arith, b (at + 1)) in
      by_content 1 2 (Whole false v)
      (integer_there m places lengths 1 at (omega arith) 97 refl e ∙ tag_97 m places lengths 1 at (omega arith) ∙ byte_there m (at + 1) (omega arith) ∙ ap (Whole false) (sym w))
      h (omega arith)
      (ap integer_bytes (sym (signed_above false v refl)) ∙ sym (positive_97 v l) ∙ number_there m 97 at 1 b e h)
      refl

  signed_there : get_or m at 0 ≡ 98 → at + 5 ≤ length m → content_of m places lengths 1 at ≡ signed_whole (value m 4 (at + 1))
  unfolding integer_found signed_found
  signed_there e h =
      let g : 5 ≤ length m - at = omega arith in
      integer_there m places lengths 1 at (omega arith) 98 refl e ∙ simp (le-ltb (length m - at) 5 g)

  stands_98 : (v : ℕ) → get_or m at 0 ≡ 98 → at + 5 ≤ length m → v ≡ value m 4 (at + 1) → 256 ≤ v → v < 4294967296 → Stands m places lengths 1 at parts 5
  stands_98 v e h f low high =
      let s = signed_bytes v low high m places parts in
      by_content 1 5 (signed_whole v) (signed_there e h ∙ ap signed_whole (sym f)) h (omega arith)
      (s.0 ∙ ap (λ (k : ℕ). 98 ∷ in_bytes 4 k) f ∙ number_there m 98 at 4 b e h)
      s.1

  float_there : at + 9 ≤ length m → content_of m places lengths 2 at ≡ Float (value m 8 (at + 1))
  unfolding float_found
  float_there h =
      let g : 9 ≤ length m - at = omega arith in
      there m places lengths 2 at (omega arith) ∙ sym (kind_2 m places lengths at 2 refl) ∙ simp (le-ltb (length m - at) 9 g)

  stands_70 : get_or m at 0 ≡ 70 → at + 9 ≤ length m → Stands m places lengths 2 at parts 9
  unfolding label_of before after
  stands_70 e h = by_content 2 9 (Float (value m 8 (at + 1))) (float_there h) h (omega arith) (number_there m 70 at 8 b e h) refl

  stands_119 : (v : ℕ) → get_or m at 0 ≡ 119 → v ≡ value m 1 (at + 1) → v < 256 → at + (2 + v) ≤ length m
      → SoundContent m places (content_of m places lengths 3 at) → Stands m places lengths 3 at parts (2 + v)
  unfolding label_of before after coded tagged_bytes text_width
  stands_119 v e f l h s =
      let start : ℕ = at + 1 + 1 in
      let bs : List ℕ = take v (drop start m) in
      let c : content_of m places lengths 3 at ≡ Text false false start v
      = there m places lengths 3 at (omega arith)
      ∙ sym (kind_3 m places lengths at 3 refl)
      ∙ ap (atom_found m places lengths at) e
      ∙ sym (text_there m at 1 v false (sym f) (omega arith) ∙ tag_text m at places lengths 119 1 false refl refl) in
      let spelt = (sound_text m places (content_of m places lengths 3 at) false false start v c s).1 refl in
      let k : v ≡ length bs = sym (length_part m start v (omega arith)) in
      let n : 1 + (1 + v) ≡ 2 + v = omega arith in
      by_content 3 (2 + v) (Text false false start v) c h (omega arith)
      (ap atom_bytes spelt.spelt
      ∙ sym (atom_119 v bs k (omega arith))
      ∙ ap (λ (x : ℕ). 119 ∷ (in_bytes 1 x ++ bs)) f
      ∙ body_there m 119 at 1 b e v (omega arith)
      ∙ ap (λ (x : ℕ). take x (drop at m)) n)
      refl

  stands_109 : (v : ℕ) → get_or m at 0 ≡ 109 → v ≡ value m 4 (at + 1) → at + (5 + v) ≤ length m
      → SoundContent m places (content_of m places lengths 7 at) → Stands m places lengths 7 at parts (5 + v)
  unfolding label_of before after
  stands_109 v e f h s =
      let bs : List ℕ = take v (drop (at + 5) m) in
      let c : content_of m places lengths 7 at ≡ Bytes (at + 5) v
      = there m places lengths 7 at (omega arith)
      ∙ sym (kind_7 m places lengths at 7 refl)
      ∙ ap (binary_found m at) e
      ∙ sym (bytes_there m at v (sym f) (omega arith) ∙ tag_109 m at) in
      let inside = sound_bytes m places (content_of m places lengths 7 at) (at + 5) v c s in
      let few : v ≤ 65536 = inside.few in
      let k : length bs ≡ value m 4 (at + 1) = length_part m (at + 5) v (omega arith) ∙ f in
      let n : 1 + (4 + v) ≡ 5 + v = omega arith in
      let o : at + 5 ≡ at + 1 + 4 = omega arith in
      by_content 7 (5 + v) (Bytes (at + 5) v) c h (omega arith)
      (ap₂ (λ (x y : ℕ). 109 ∷ (in_bytes 4 x ++ take v (drop y m))) k o
      ∙ body_there m 109 at 4 b e v (omega arith)
      ∙ ap (λ (x : ℕ). take x (drop at m)) n)
      refl

  -- terms with no fields of their own
  stands_104 : get_or m at 0 ≡ 104 → at + 2 ≤ length m → value m 1 (at + 1) ≡ parts → parts < 256 → Stands m places lengths 4 at parts 2
  unfolding kind_found label_of bare after
  stands_104 e h f l =
      by_content 4 2 Nothing (there m places lengths 4 at (omega arith)) h (omega arith)
      (sym (tuple_104 parts (omega arith)) ∙ ap (λ (k : ℕ). 104 ∷ in_bytes 1 k) (sym f) ∙ number_there m 104 at 1 b e h)
      refl

  stands_106 : get_or m at 0 ≡ 106 → at + 1 ≤ length m → parts ≡ 0 → Stands m places lengths 5 at parts 1
  unfolding kind_found label_of bare
  stands_106 e h f =
      by_content 5 1 Nothing (there m places lengths 5 at (omega arith)) h (omega arith)
      (sym (list_106 parts f) ∙ sym (one m 106 at 0 b e (omega arith)))
      (sym (list_over parts f))

  stands_113 : get_or m at 0 ≡ 113 → at + 1 ≤ length m → Stands m places lengths 13 at parts 1
  unfolding kind_found label_of bare before after
  stands_113 e h = by_content 13 1 Nothing (there m places lengths 13 at (omega arith)) h (omega arith) (sym (one m 113 at 0 b e (omega arith))) refl

  stands_116 : get_or m at 0 ≡ 116 → at + 5 ≤ length m → value m 4 (at + 1) ≡ parts / 2 → Stands m places lengths 9 at parts 5
  unfolding kind_found label_of bare before after
  stands_116 e h f =
      by_content 9 5 Nothing (there m places lengths 9 at (omega arith)) h (omega arith)
      (ap (λ (k : ℕ). 116 ∷ in_bytes 4 k) (sym f) ∙ number_there m 116 at 4 b e h)
      refl

  -- by what was found at the tag
  module _ {r : ℕ} where
    pub tagged_97 : Tagged m at 97 2 r → Stands m places lengths 1 at parts r
    tagged_97 t = rw t.all (stands_97 t.tag_is t.inside)

    pub tagged_98 : (v : ℕ) → Tagged m at 98 5 r → v ≡ value m 4 (at + 1) → 256 ≤ v → v < 4294967296 → Stands m places lengths 1 at parts r
    tagged_98 v t f low high = rw t.all (stands_98 v t.tag_is t.inside f low high)

    pub tagged_70 : Tagged m at 70 9 r → Stands m places lengths 2 at parts r
    tagged_70 t = rw t.all (stands_70 t.tag_is t.inside)

    pub tagged_113 : Tagged m at 113 1 r → Stands m places lengths 13 at parts r
    tagged_113 t = rw t.all (stands_113 t.tag_is t.inside)

    pub tagged_106 : Tagged m at 106 1 r → parts ≡ 0 → Stands m places lengths 5 at parts r
    tagged_106 t e = rw t.all (stands_106 t.tag_is t.inside e)

    pub counted_104 : Counted m at 104 1 parts r → Stands m places lengths 4 at parts r
    counted_104 t =
        let h = t.count_tagged.inside in
        let v : value m 1 (at + 1) ≡ get_or m (at + 1) 0 = big_one m (at + 1) (omega arith) in
        let e : value m 1 (at + 1) ≡ parts = t.count_is in
        let l : parts < 256 = omega (arith, b (at + 1)) in
        rw t.count_tagged.all (stands_104 t.count_tagged.tag_is h e l)

    pub counted_116 : Counted m at 116 4 (parts / 2) r → Stands m places lengths 9 at parts r
    counted_116 t = rw t.count_tagged.all (stands_116 t.count_tagged.tag_is t.count_tagged.inside t.count_is)

    pub bodied_119 : Bodied m at 119 1 r → SoundContent m places (content_of m places lengths 3 at) → Stands m places lengths 3 at parts r
    bodied_119 t s =
        let n : ℕ = value m 1 (at + 1) in
        let e : r ≡ 2 + n = t.all in
        let h : at + r ≤ length m = t.inside in
        let v : n ≡ get_or m (at + 1) 0 = big_one m (at + 1) (omega arith) in
        let l : n < 256 = omega (arith, b (at + 1)) in
        rw e (stands_119 n t.body_tag refl l (omega arith) s)

    pub bodied_109 : Bodied m at 109 4 r → SoundContent m places (content_of m places lengths 7 at) → Stands m places lengths 7 at parts r
    bodied_109 t s =
        let n : ℕ = value m 4 (at + 1) in
        let e : r ≡ 5 + n = t.all in
        let h : at + r ≤ length m = t.inside in
        rw e (stands_109 n t.body_tag refl (omega arith) s)

-- by the word
module _ (m places lengths : List ℕ) (w kind k at : ℕ) (e : kind ≡ kind_in w) (f : kind ≡ k) (g : at ≡ offset_in w) where
  pub sound_in : SoundWord m places lengths w → SoundContent m places (content_of m places lengths k at)
  sound_in s = rw (← f, e, g) s.sound

  pub stands_in : (n r : ℕ) → n ≡ parts_in w → Stands m places lengths k at n r → Stands m places lengths (kind_in w) (offset_in w) (parts_in w) r
  stands_in n r h s = rw (← e, f, ← g, ← h) s

-- bytes that stand in the message, copied
module _ (m : List ℕ) (o n : ℕ) {bs : List ℕ} (e : bs ≡ take n (drop o m)) (h : o + n ≤ length m) where
  pub copied_length : length bs ≡ n
  copied_length = ap length e ∙ length_part m o n h

  pub copied_room : (to room : ℕ) → to + length bs ≤ room → to + n ≤ room
  copied_room to room k = let l = copied_length in omega arith

  pub copied_put : {O P : List ℕ} {to : ℕ} → P ≡ sets O to (take n (drop o m)) → Put O to bs (to + n) P
  copied_put {O} {P} {to} f = record { past = ap (λ (j : ℕ). to + j) (sym copied_length); stored = f ∙ ap (sets O to) (sym e) }

module _ (m places lengths : List ℕ) (w n : ℕ) (s : Stands m places lengths (kind_in w) (offset_in w) (parts_in w) n) where
  pub stands_length : (n ≡ length (before_in m places lengths w) + length (after_in m places lengths w)) × (n ≤ 262192)
  stands_length =
      let p = copied_length m (offset_in w) n s.whole s.there in
      let q : length (after_in m places lengths w) ≡ 0 = ap length s.no_end in
      (omega arith, s.few)

  pub stands_room : (at room : ℕ) → at + length (before_in m places lengths w) ≤ room → at + n ≤ room
  stands_room = copied_room m (offset_in w) n s.whole s.there

  pub stands_put : {O P : List ℕ} {at o : ℕ} → o ≡ offset_in w → P ≡ sets O at (take n (drop o m)) → Put O at (before_in m places lengths w) (at + n) P
  stands_put {O} {P} {at} {o} e f = copied_put m (offset_in w) n s.whole s.there (f ∙ ap (λ (k : ℕ). sets O at (take n (drop k m))) e)

  pub stands_inside : (o : ℕ) → o ≡ offset_in w → o + n ≤ length m
  stands_inside o e = rw e s.there

  pub stands_whole : {O P : List ℕ} {at o : ℕ} → o ≡ offset_in w → P ≡ sets O at (take n (drop o m)) → Put O at (before_in m places lengths w ++ after_in m places lengths w) (at + n) P
  stands_whole e f = put_same (sym (append-nil _) ∙ ap (λ (x : List ℕ). before_in m places lengths w ++ x) (sym s.no_end)) (stands_put e f)

  pub whole_room : (at room : ℕ) → at + length (before_in m places lengths w ++ after_in m places lengths w) ≤ room → at + n ≤ room
  whole_room at room h = let a = length-append (before_in m places lengths w) (after_in m places lengths w) in stands_room at room (omega arith)
