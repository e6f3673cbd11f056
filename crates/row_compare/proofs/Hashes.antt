-- Hashes of contents: one law for each way through the functions that make them, and that contents that say the same have the same.
use mathlib.Core.Path.{◌≡◌, refl, sym, ◌∙◌, ap, ap₂}
use mathlib.Core.Bool.{Bool, true, false, cond}
use mathlib.Core.List.{List, [], ◌∷◌, ◌++◌, append-nil}
use Prim.Native.Nat.{ℕ, ◌+◌, ◌*◌, ◌-◌, ◌/◌, ◌%◌, ◌≤◌, ◌<◌}
use native.Mathlib.Nat.{mul-le-mul_left}
use native.Mathlib.Omega.{arith}
use lib.Dec.{eqb, leb, ltb}
use lib.ListN.{length, get_or, drop, drop_of_length-le}
use lib.Seq.{drop-cons}
use native.Mathlib.Numerals.{add-one}
use borrow.Author.Tests.{eqb-true, eqb-false, eq-eqb, ne_eqb}
use Rattle.term_spec.specs.Text.{encode, encodes}
use Rattle.term_spec.proofs.Tests.{never}
use Rattle.row_fields.specs.declared.Content.{Content}
use Rattle.row_fields.specs.declared.Content.TheVariants.{Nothing, Whole, Big, Float, Text, Bytes, Bits, Pid, Port, Reference}
use Rattle.row_fields.specs.Meaning.{stretch, sign}
use Rattle.row_compare.specs.Same.{same_list, same_part, same_stretch, same_spelling, same_text, same_last, same_bits, same_words, source, high, same_contents}
use Rattle.row_compare.specs.Hash.{mix, mix_all, as_utf8, hash_part, mix_ends, hash_ends, words_length, last_bits, hash_contents}
use Rattle.row_compare.proofs.Lists.{same_true, encode_low, encode_high}

-- a product of two halves leaves room for a half
pub product_below : (a b : ℕ) → a < 4294967296 → b < 4294967296 → a * b + 4294967295 < 18446744073709551616
product_below a b k l = let h : a * b ≤ a * 4294967295 = mul-le-mul_left a (omega arith) in omega arith

pub odd_mixed : (factor h x : ℕ) → factor % 2 ≡ 1 → ((h + x / 4294967296) % 4294967296 * factor + x % 4294967296) % 4294967296 ≡ mix factor h x
unfolding mix
odd_mixed factor h x e = rw (eq-eqb (factor % 2) 1 e)

pub even_mixed : (factor h x : ℕ) → (factor % 2 ≡ 1 → ⊥) → ((h + x / 4294967296) % 4294967296 * factor / 65536 + x % 4294967296) % 4294967296 ≡ mix factor h x
unfolding mix
even_mixed factor h x e = rw (ne_eqb (factor % 2) 1 e)

utf8_cons : (latin1 : Bool) (c : ℕ) (cs : List ℕ) → as_utf8 latin1 (c ∷ cs) ≡ as_utf8 latin1 (c ∷ []) ++ as_utf8 latin1 cs
unfolding as_utf8 encodes
utf8_cons true c cs = ap (λ (l : List ℕ). l ++ encodes cs) (sym (append-nil (encode c)))
utf8_cons false c cs = refl

-- ---- the last byte

module _ (m : List ℕ) (bits at n : ℕ) where
  pub last_none : n ≡ 0 → 0 ≡ last_bits m bits at n
  unfolding last_bits
  last_none e = rw (eq-eqb n 0 e)

  module _ (some : n ≡ 0 → ⊥) (t : Bool) (e : t ≡ leb (at + n) (length m)) where
    pub last_there : (r : ℕ) → t ≡ true → r ≡ high (get_or m (at + (n - 1)) 0) bits → r ≡ last_bits m bits at n
    unfolding last_bits
    last_there r f g = rw (ne_eqb n 0 some, ← e, f) g

-- ---- tests

pub both_true : (b c : Bool) → cond b c false ≡ true → (b ≡ true) × (c ≡ true)
both_true true c e = (refl, e)
both_true false c e = never e

pub unless_true : (b c : Bool) → cond b false c ≡ true → (b ≡ false) × (c ≡ true)
unless_true true c e = never e
unless_true false c e = (refl, e)

-- two stretches that are there, and whose bytes are tested
two_parts : (x y s : Bool) (p q h : ℕ) → (s ≡ true → p ≡ q) → cond x (cond y s false) false ≡ true → cond x p h ≡ cond y q h
two_parts true true s p q h f e = f e
two_parts true false s p q h f e = never e
two_parts false y s p q h f e = never e

module _ (factor : ℕ) where
  -- ---- bytes and characters

  module _ (latin1 : Bool) (h c r : ℕ) where
    pub byte_plain : latin1 ≡ false → r ≡ mix factor h c → r ≡ mix_all factor h (as_utf8 latin1 (c ∷ []))
    unfolding mix_all as_utf8
    byte_plain e f = rw e f

    pub byte_low : latin1 ≡ true → c < 128 → r ≡ mix factor h c → r ≡ mix_all factor h (as_utf8 latin1 (c ∷ []))
    unfolding mix_all as_utf8 encodes
    byte_low e l f = rw (e, encode_low c l) f

    pub byte_high : latin1 ≡ true → 128 ≤ c → c < 256 → (x : ℕ) → x ≡ mix factor h (192 + c / 64) → r ≡ mix factor x (128 + c % 64) → r ≡ mix_all factor h (as_utf8 latin1 (c ∷ []))
    unfolding mix_all as_utf8 encodes
    byte_high e l s x f g = rw (e, encode_high c l s, ← f) g

  mix_join : (h : ℕ) (xs ys : List ℕ) → mix_all factor h (xs ++ ys) ≡ mix_all factor (mix_all factor h xs) ys
  unfolding mix_all
  mix_join h [] ys = refl
  mix_join h (x ∷ xs) ys = mix_join (mix factor h x) xs ys

  -- ---- bytes one by one

  module _ (latin1 : Bool) (bs : List ℕ) where
    -- a hash after those that are left of them after i
    unfoldable pub left_after : ℕ → ℕ → ℕ
    left_after i sum = mix_all factor sum (as_utf8 latin1 (drop i bs))

    pub bytes_next : (i sum c t r : ℕ) → left_after i sum ≡ r → i < length bs → c ≡ get_or bs i 0 → t ≡ mix_all factor sum (as_utf8 latin1 (c ∷ [])) → left_after (i + 1) t ≡ r
    unfolding left_after
    bytes_next i sum c t r h l e f =
        let p : drop i bs ≡ c ∷ drop (i + 1) bs = rw (e, add-one) (drop-cons bs i 0 l) in
        rw f (sym (mix_join sum (as_utf8 latin1 (c ∷ [])) (as_utf8 latin1 (drop (i + 1) bs))) ∙ ap (mix_all factor sum) (sym (utf8_cons latin1 c (drop (i + 1) bs))) ∙ ap (λ (l : List ℕ). mix_all factor sum (as_utf8 latin1 l)) (sym p) ∙ h)

    pub bytes_end : (i sum r : ℕ) → left_after i sum ≡ r → length bs ≤ i → sum ≡ r
    unfolding left_after mix_all as_utf8 encodes
    bytes_end i sum r h l = sym (none latin1) ∙ (rw (drop_of_length-le bs l) at h)
      where
        none : (b : Bool) → mix_all factor sum (as_utf8 b []) ≡ sum
        none true = refl
        none false = refl

  -- ---- contents that say the same

  part_alike : (a : List ℕ) (i : ℕ) (b : List ℕ) (j n : ℕ) (latin1 : Bool) (h : ℕ) → same_part a i b j n ≡ true → hash_part factor a i n latin1 h ≡ hash_part factor b j n latin1 h
  unfolding same_part hash_part
  part_alike a i b j n latin1 h =
      two_parts (leb (i + n) (length a)) (leb (j + n) (length b)) (same_list (stretch a i n) (stretch b j n)) _ _ h
      (λ e. ap (λ (l : List ℕ). mix_all factor h (as_utf8 latin1 l)) (same_true (stretch a i n) (stretch b j n) e))

  ends_alike : (a : List ℕ) (i : ℕ) (b : List ℕ) (j n h : ℕ) → same_part a i b j n ≡ true → hash_ends factor a i n h ≡ hash_ends factor b j n h
  unfolding same_part hash_ends
  ends_alike a i b j n h =
      two_parts (leb (i + n) (length a)) (leb (j + n) (length b)) (same_list (stretch a i n) (stretch b j n)) _ _ h
      (λ e. ap (mix_ends factor h) (same_true (stretch a i n) (stretch b j n) e))

  module _ (a : List ℕ) (i n : ℕ) (b : List ℕ) (j k h : ℕ) where
    both_ends_alike : same_stretch a i n b j k ≡ true → hash_ends factor a i n h ≡ hash_ends factor b j k h
    unfolding same_stretch
    both_ends_alike e =
        let g = both_true (eqb n k) (same_part a i b j n) e in
        let f : n ≡ k = eqb-true n k g.0 in
        rw (← f) (ends_alike a i b j n h g.1)

    stretch_alike : (latin1 : Bool) → same_stretch a i n b j k ≡ true → hash_part factor a i n latin1 h ≡ hash_part factor b j k latin1 h
    unfolding same_stretch
    stretch_alike latin1 e =
        let g = both_true (eqb n k) (same_part a i b j n) e in
        let f : n ≡ k = eqb-true n k g.0 in
        rw (← f) (part_alike a i b j n latin1 h g.1)

    spelling_alike : same_spelling a i n b j k ≡ true → hash_part factor a i n true h ≡ hash_part factor b j k false h
    unfolding same_spelling hash_part as_utf8
    spelling_alike =
        two_parts (leb (i + n) (length a)) (leb (j + k) (length b)) (same_list (encodes (stretch a i n)) (stretch b j k)) _ _ h
        (λ e. ap (mix_all factor h) (same_true (encodes (stretch a i n)) (stretch b j k) e))

  text_alike : (a : List ℕ) (i n : ℕ) (b : List ℕ) (j k h : ℕ) (x y : Bool) → same_text a i n x b j k y ≡ true → hash_part factor a i n x h ≡ hash_part factor b j k y h
  unfolding same_text
  text_alike a i n b j k h true true e = stretch_alike a i n b j k h true e
  text_alike a i n b j k h true false e = spelling_alike a i n b j k h e
  text_alike a i n b j k h false true e = sym (spelling_alike b j k a i n h e)
  text_alike a i n b j k h false false e = stretch_alike a i n b j k h false e

  none_hashed : (s : List ℕ) (at h : ℕ) → hash_ends factor s at 0 h ≡ h
  unfolding hash_ends mix_ends mix_all
  none_hashed s at h = go (leb (at + 0) (length s))
    where
      go : (t : Bool) → cond t h h ≡ h
      go true = refl
      go false = refl

  module _ (m : List ℕ) (i n j k h : ℕ) where
    bits_alike : (bits : ℕ) → same_bits m bits i n j k ≡ true
        → mix factor (hash_ends factor m i (n - 1) h) (last_bits m bits i n) ≡ mix factor (hash_ends factor m j (k - 1) h) (last_bits m bits j k)
    unfolding same_bits same_last
    bits_alike bits e =
        let g = both_true (eqb n k) _ e in
        let f : n ≡ k = eqb-true n k g.0 in
        rw (← f) (go (eqb n 0) refl g.1)
      where
        none : n ≡ 0 → (x : ℕ) → mix factor (hash_ends factor m x (n - 1) h) (last_bits m bits x n) ≡ mix factor h 0
        none f x = let g : n - 1 ≡ 0 = omega arith in ap₂ (mix factor) (rw g (none_hashed m x h)) (sym (last_none m bits x n f))

        last : (x : ℕ) → (n ≡ 0 → ⊥) → leb (x + n) (length m) ≡ true → last_bits m bits x n ≡ high (get_or m (x + (n - 1)) 0) bits
        last x some t = sym (last_there m bits x n some true (sym t) _ refl refl)

        go : (t : Bool) → eqb n 0 ≡ t → cond t true (cond (leb (i + n) (length m)) (cond (leb (j + n) (length m)) (same_last m bits i j (n - 1)) false) false) ≡ true
            → mix factor (hash_ends factor m i (n - 1) h) (last_bits m bits i n) ≡ mix factor (hash_ends factor m j (n - 1) h) (last_bits m bits j n)
        go true z e = let f : n ≡ 0 = eqb-true n 0 z in none f i ∙ sym (none f j)
        go false z e =
            let some = eqb-false n 0 z in
            let p = both_true (leb (i + n) (length m)) _ e in
            let q = both_true (leb (j + n) (length m)) (same_last m bits i j (n - 1)) p.1 in
            let w = both_true (same_part m i m j (n - 1)) _ q.1 in
            ap₂ (mix factor) (ends_alike m i m j (n - 1) h w.0) (last i some p.0 ∙ eqb-true _ _ w.1 ∙ sym (last j some q.0))

    words_alike : same_words m i n j k ≡ true → hash_ends factor m i (words_length m n) h ≡ hash_ends factor m j (words_length m k) h
    unfolding same_words words_length
    words_alike e =
        let g = both_true (eqb n k) _ e in
        let f : n ≡ k = eqb-true n k g.0 in
        let l = unless_true (ltb (length m / 4) n) _ g.1 in
        rw (← f, l.0) (ends_alike m i m j (4 * n) h l.1)

  -- contents that say the same have the same hash
  pub hash_alike : (m places : List ℕ) (h : ℕ) (a b : Content) → same_contents m places a b ≡ true → hash_contents factor m places h a ≡ hash_contents factor m places h b
  unfolding same_contents hash_contents
  hash_alike m places h Nothing Nothing e = refl
  hash_alike m places h (Whole s n) (Whole t k) e =
      let g = both_true (eqb (sign s) (sign t)) (eqb n k) e in
      rw (eqb-true (sign s) (sign t) g.0, eqb-true n k g.1)
  hash_alike m places h (Big s i n) (Big t j k) e =
      let g = both_true (eqb (sign s) (sign t)) _ e in
      rw (eqb-true (sign s) (sign t) g.0) (both_ends_alike m i n m j k _ g.1)
  hash_alike m places h (Float x) (Float y) e = rw (eqb-true x y e)
  hash_alike m places h (Text x p i n) (Text y q j k) e = text_alike (source m places p) i n (source m places q) j k _ x y e
  hash_alike m places h (Bytes i n) (Bytes j k) e = both_ends_alike m i n m j k _ e
  hash_alike m places h (Bits x i n) (Bits y j k) e =
      let g = both_true (eqb x y) (same_bits m x i n j k) e in
      bits_alike m i n j k _ x g.1 ∙ rw (eqb-true x y g.0)
  hash_alike m places h (Pid i x c) (Pid j y d) e =
      let f = both_true (eqb i j) _ e in
      let g = both_true (eqb x y) _ f.1 in
      rw (eqb-true i j f.0, eqb-true x y g.0, eqb-true c d g.1)
  hash_alike m places h (Port i c) (Port j d) e =
      let g = both_true (eqb i j) (eqb c d) e in
      rw (eqb-true i j g.0, eqb-true c d g.1)
  hash_alike m places h (Reference c i n) (Reference d j k) e =
      let g = both_true (eqb c d) (same_words m i n j k) e in
      rw (eqb-true c d g.0) (words_alike m i n j k _ g.1)
  hash_alike m places h _ _ e = never e
