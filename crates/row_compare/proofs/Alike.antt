-- Two contents that are found of nodes are the same exactly where they say the same label.
use mathlib.Core.Path.{◌≡◌, refl, sym, ◌∙◌, ap, ap₂}
use mathlib.Core.Bool.{Bool, true, false, cond}
use mathlib.Core.List.{List, [], ◌∷◌, ◌++◌}
use Prim.Native.Nat.{ℕ, zero, suc, ◌+◌, ◌*◌, ◌-◌, ◌/◌, ◌^◌, ◌≤◌, ◌<◌}
use native.Mathlib.Nat.{pow-le-pow_right, le_antisymm}
use native.Mathlib.Omega.{arith}
use lib.Dec.{eqb, leb, ltb}
use lib.IntN.{pos-ne-negsuc}
use lib.ListN.{length, get_or, take, drop}
use lib.Seq.{take_at, drop_at}
use borrow.Author.Tests.{eqb-true, eqb-false, eq-eqb, le-leb, le-ltb}
use Rattle.term_spec.specs.Numbers.{big_endian, little_endian, with_sign, Under}
use Rattle.term_spec.specs.Text.{valid, utf_8, check, encodes}
use Rattle.term_spec.specs.Term.{Label, integer, float, atom, tuple, list, improper_list, binary, bitstring, map, pid, port, reference, export}
use Rattle.term_spec.specs.Head.{clear_low}
use Rattle.term_spec.specs.AtomList.{AtomList}
use Rattle.term_spec.proofs.Text.{utf8_spelt, utf8_encodes, latin1_characters}
use Rattle.term_spec.proofs.Heads.{length_clear}
use Rattle.term_spec.proofs.Tests.{never, by_less}
use Rattle.term_spec.proofs.Holds.{little_under}
use Rattle.octets.proofs.Parts.{length_part, part_last, length_words_at, part_add}
use Rattle.octets.proofs.Bits.{clear_last}
use Rattle.row_fields.specs.declared.Content.{Content}
use Rattle.row_fields.specs.declared.Content.TheVariants.{Nothing, Whole, Big, Float, Text, Bytes, Bits, Pid, Port, Reference}
use Rattle.row_fields.specs.Found.{value}
use Rattle.row_fields.specs.Meaning.{stretch, sign, words_at, characters_of, coded, bare, label_of}
use Rattle.row_compare.specs.Same.{same_list, high, same_part, same_stretch, same_spelling, same_text, same_last, same_bits, same_words, source, same_contents}
use Rattle.row_compare.proofs.Lists.{same_true, same_self}
use Rattle.row_fields.proofs.Values.{under_part, big_same, little_same, little_least}
use Rattle.row_fields.proofs.Says.{Readable, Sound}

-- a test and the equality that it stands for
pub record Agree (t : Bool) (A : Type 0) : Type 0 where
  pub sure : t ≡ true → A
  pub back : A → t ≡ true

-- one test and then another
both : {t u : Bool} {A B : Type 0} → Agree t A → Agree u B → Agree (cond t u false) (A × B)
both {t} {u} {A} {B} p q = go t p
  where
    go : (t : Bool) → Agree t A → Agree (cond t u false) (A × B)
    go true p = record { sure = λ e. (p.sure refl, q.sure e); back = λ x. q.back x.1 }
    go false p = record { sure = λ e. never e; back = λ x. p.back x.0 }

-- the same by another equality
pub through : {t : Bool} {A B : Type 0} → (A → B) → (B → A) → Agree t A → Agree t B
through f g p = record { sure = λ e. f (p.sure e); back = λ b. p.back (g b) }

pub numbers_agree : (x y : ℕ) → Agree (eqb x y) (x ≡ y)
numbers_agree x y = record { sure = eqb-true x y; back = eq-eqb x y }

lists_agree : (xs ys : List ℕ) → Agree (same_list xs ys) (xs ≡ ys)
lists_agree xs ys = record { sure = same_true xs ys; back = λ e. rw e (same_self ys) }

-- ---- stretches that are there

module _ (a : List ℕ) (i : ℕ) (b : List ℕ) (j : ℕ) where
  part_agrees : (n : ℕ) → i + n ≤ length a → j + n ≤ length b → Agree (same_part a i b j n) (stretch a i n ≡ stretch b j n)
  unfolding same_part
  part_agrees n h k = rw (le-leb (i + n) (length a) h, le-leb (j + n) (length b) k) (lists_agree (stretch a i n) (stretch b j n))

  stretch_agrees : (n k : ℕ) → i + n ≤ length a → j + k ≤ length b → Agree (same_stretch a i n b j k) (stretch a i n ≡ stretch b j k)
  unfolding same_stretch
  stretch_agrees n k h g = go (eqb n k) refl
    where
      go : (t : Bool) → eqb n k ≡ t → Agree (cond t (same_part a i b j n) false) (stretch a i n ≡ stretch b j k)
      go true e =
          let q : n ≡ k = eqb-true n k e in
          let u : j + n ≤ length b = omega arith in
          rw (← q) (part_agrees n h u)
      go false e =
          record {
            sure = λ f. never f;
            back = λ f. absurd (eqb-false n k e (sym (length_part a i n h) ∙ ap length f ∙ length_part b j k g));
          }

  spelling_agrees : (n k : ℕ) → i + n ≤ length a → j + k ≤ length b → Agree (same_spelling a i n b j k) (encodes (stretch a i n) ≡ stretch b j k)
  unfolding same_spelling
  spelling_agrees n k h g = rw (le-leb (i + n) (length a) h, le-leb (j + k) (length b) g) (lists_agree (encodes (stretch a i n)) (stretch b j k))

-- ---- texts

-- Latin-1 against UTF-8
spelt_alike : (bs ds cs : List ℕ) → Under 256 bs → length bs ≤ 255 → check utf_8 ds ≡ valid cs → (encodes bs ≡ ds → bs ≡ cs) × (bs ≡ cs → encodes bs ≡ ds)
spelt_alike bs ds cs u h e =
    (λ f. let g : valid bs ≡ valid cs = sym (utf8_encodes bs (latin1_characters bs u) h) ∙ ap (check utf_8) f ∙ e in cc, λ f. ap encodes f ∙ utf8_spelt ds cs e)

module _ (a : List ℕ) (i n : ℕ) (b : List ℕ) (j k : ℕ) (h : i + n ≤ length a) (g : j + k ≤ length b) where
  texts_agree : (x y : Bool) → Readable x (stretch a i n) → Readable y (stretch b j k)
      → Agree (same_text a i n x b j k y) (coded x (stretch a i n) ≡ coded y (stretch b j k))
  unfolding same_text coded characters_of
  texts_agree true true p q = stretch_agrees a i b j n k h g
  texts_agree true false p q =
      let w = spelt_alike (stretch a i n) (stretch b j k) q.0 p.0 p.1 q.1 in
      rw q.1 (through w.0 w.1 (spelling_agrees a i b j n k h g))
  texts_agree false true p q =
      let w = spelt_alike (stretch b j k) (stretch a i n) p.0 q.0 q.1 p.1 in
      rw p.1 (through (λ e. sym (w.0 e)) (λ e. w.1 (sym e)) (spelling_agrees b j a i k n g h))
  texts_agree false false p q =
      rw (p.1, q.1)
      (through
      (λ e. let f : valid p.0 ≡ valid q.0 = sym p.1 ∙ ap (check utf_8) e ∙ q.1 in cc)
      (λ e. sym (utf8_spelt (stretch a i n) p.0 p.1) ∙ ap encodes e ∙ utf8_spelt (stretch b j k) q.0 q.1)
      (stretch_agrees a i b j n k h g))

-- ---- lists in two parts

parts_equal : (a b c d : List ℕ) → length a ≡ length c → a ++ b ≡ c ++ d → (a ≡ c) × (b ≡ d)
parts_equal a b c d e f =
    (sym (take_at a b (length c) e) ∙ ap (take (length c)) f ∙ take_at c d (length c) refl, sym (drop_at a b (length c) e) ∙ ap (drop (length c)) f ∙ drop_at c d (length c) refl)

-- ---- bits

module _ (m : List ℕ) (bits i j : ℕ) where
  cleared : (n at : ℕ) → 0 < n → at + n ≤ length m → clear_low bits (stretch m at n) ≡ stretch m at (n - 1) ++ (high (get_or m (at + (n - 1)) 0) bits ∷ [])
  cleared n at h k =
      let e : suc (n - 1) ≡ n = omega arith in
      ap (λ (x : ℕ). clear_low bits (take x (drop at m))) (sym e)
      ∙ ap (clear_low bits) (part_last 0 m at (n - 1) (omega arith))
      ∙ clear_last bits (stretch m at (n - 1)) (get_or m (at + (n - 1)) 0)

  last_agrees : (n : ℕ) → i + n < length m → j + n < length m
      → Agree (same_last m bits i j n) (stretch m i n ++ (high (get_or m (i + n) 0) bits ∷ []) ≡ stretch m j n ++ (high (get_or m (j + n) 0) bits ∷ []))
  unfolding same_last
  last_agrees n h k =
      let x : ℕ = high (get_or m (i + n) 0) bits in
      let y : ℕ = high (get_or m (j + n) 0) bits in
      through
      (λ e. ap₂ (λ (l : List ℕ) (z : ℕ). l ++ (z ∷ [])) e.0 e.1)
      (λ e. let f = parts_equal (stretch m i n) (x ∷ []) (stretch m j n) (y ∷ []) (length_part m i n (omega arith) ∙ sym (length_part m j n (omega arith))) e in (f.0, let g : ◌≡◌ {A = List ℕ} (x ∷ []) (y ∷ []) = f.1 in cc))
      (both (part_agrees m i m j n (omega arith) (omega arith)) (numbers_agree x y))

  bits_agree : (n k : ℕ) → i + n ≤ length m → j + k ≤ length m → Agree (same_bits m bits i n j k) (clear_low bits (stretch m i n) ≡ clear_low bits (stretch m j k))
  unfolding same_bits
  bits_agree n k h g = go (eqb n k) refl (eqb n 0) refl
    where
      go : (t : Bool) → eqb n k ≡ t → (u : Bool) → eqb n 0 ≡ u
          → Agree (cond t (cond u true (cond (leb (i + n) (length m)) (cond (leb (j + n) (length m)) (same_last m bits i j (n - 1)) false) false)) false)
          (clear_low bits (stretch m i n) ≡ clear_low bits (stretch m j k))
      go true e true f =
          let z : n ≡ 0 = eqb-true n 0 f in
          let q : k ≡ 0 = sym (eqb-true n k e) ∙ z in
          record { sure = λ _. rw (z, q); back = λ _. refl }
      go true e false f =
          let q : n ≡ k = eqb-true n k e in
          let z : n ≡ 0 → ⊥ = eqb-false n 0 f in
          let u : j + n ≤ length m = omega arith in
          let a : i + (n - 1) < length m = omega arith in
          let b : j + (n - 1) < length m = omega arith in
          let c : 0 < n = omega arith in
          rw (← q, le-leb (i + n) (length m) h, le-leb (j + n) (length m) u, cleared n i c h, cleared n j c u) (last_agrees (n - 1) a b)
      go false e u f =
          record {
            sure = λ x. never x;
            back = λ x. absurd (eqb-false n k e (sym (length_clear bits (stretch m i n) ∙ length_part m i n h) ∙ ap length x ∙ length_clear bits (stretch m j k) ∙ length_part m j k g));
          }

-- ---- words

four_more : (m : List ℕ) (at n : ℕ) → stretch m at (4 * suc n) ≡ stretch m at 4 ++ stretch m (at + 4) (4 * n)
four_more m at n =
    let e : 4 * suc n ≡ 4 + 4 * n = omega arith in
    rw e (part_add m at 4 (4 * n))

module _ (m : List ℕ) (under : Under 256 m) where
  words_of : (n i j : ℕ) → i + 4 * n ≤ length m → j + 4 * n ≤ length m → stretch m i (4 * n) ≡ stretch m j (4 * n) → words_at m i n ≡ words_at m j n
  unfolding words_at
  words_of zero i j h k e = refl
  words_of (suc n) i j h k e =
      let a : length (stretch m i 4) ≡ 4 = length_part m i 4 (omega arith) in
      let b : length (stretch m j 4) ≡ 4 = length_part m j 4 (omega arith) in
      let f = parts_equal (stretch m i 4) (stretch m (i + 4) (4 * n)) (stretch m j 4) (stretch m (j + 4) (4 * n)) (a ∙ sym b) (sym (four_more m i n) ∙ e ∙ four_more m j n) in
      ap₂ (λ (x : ℕ) (xs : List ℕ). x ∷ xs) (ap big_endian f.0) (words_of n (i + 4) (j + 4) (omega arith) (omega arith) f.1)

  of_words : (n i j : ℕ) → i + 4 * n ≤ length m → j + 4 * n ≤ length m → words_at m i n ≡ words_at m j n → stretch m i (4 * n) ≡ stretch m j (4 * n)
  unfolding words_at
  of_words zero i j h k e = refl
  of_words (suc n) i j h k e =
      let a : length (stretch m i 4) ≡ 4 = length_part m i 4 (omega arith) in
      let b : length (stretch m j 4) ≡ 4 = length_part m j 4 (omega arith) in
      let x : value m 4 i ≡ value m 4 j = cc in
      let xs : words_at m (i + 4) n ≡ words_at m (j + 4) n = cc in
      four_more m i n
      ∙ ap₂ (λ (p q : List ℕ). p ++ q) (big_same (stretch m i 4) (stretch m j 4) (under_part m i 4 under) (under_part m j 4 under) (a ∙ sym b) x) (of_words n (i + 4) (j + 4) (omega arith) (omega arith) xs)
      ∙ sym (four_more m j n)

  words_agree : (i n j k : ℕ) → i + 4 * n ≤ length m → j + 4 * k ≤ length m → Agree (same_words m i n j k) (words_at m i n ≡ words_at m j k)
  unfolding same_words
  words_agree i n j k h g = go (eqb n k) refl
    where
      go : (t : Bool) → eqb n k ≡ t → Agree (cond t (cond (ltb (length m / 4) n) false (same_part m i m j (4 * n))) false) (words_at m i n ≡ words_at m j k)
      go true e =
          let q : n ≡ k = eqb-true n k e in
          let u : j + 4 * n ≤ length m = omega arith in
          let v : n ≤ length m / 4 = omega arith in
          rw (← q, le-ltb (length m / 4) n v) (through (words_of n i j h u) (of_words n i j h u) (part_agrees m i m j (4 * n) h u))
      go false e =
          record {
            sure = λ x. never x;
            back = λ x. absurd (eqb-false n k e (sym (length_words_at m i n) ∙ ap length x ∙ length_words_at m j k));
          }

-- ---- integers

-- a magnitude with its sign, where zero is not negative
sign_magnitude : (a b : Bool) (n k : ℕ) → (n ≡ 0 → a ≡ false) → (k ≡ 0 → b ≡ false) → with_sign (sign a) n ≡ with_sign (sign b) k → (a ≡ b) × (n ≡ k)
unfolding with_sign
sign_magnitude false false n k f g e = (refl, cc)
sign_magnitude false true n zero f g e = never (sym (g refl))
sign_magnitude false true n (suc k) f g e = absurd (pos-ne-negsuc n k e)
sign_magnitude true false zero k f g e = never (sym (f refl))
sign_magnitude true false (suc n) k f g e = absurd (pos-ne-negsuc k n (sym e))
sign_magnitude true true zero k f g e = never (sym (f refl))
sign_magnitude true true (suc n) zero f g e = never (sym (g refl))
sign_magnitude true true (suc n) (suc k) f g e = let q : n ≡ k = cc in (refl, ap suc q)

module _ (m : List ℕ) (under : Under 256 m) where
  below_power : (i n : ℕ) → i + n ≤ length m → little_endian (stretch m i n) < 256 ^ n
  below_power i n h = rw (length_part m i n h) at (little_under (stretch m i n) (under_part m i n under))

  -- digits whose highest is not zero are no fewer than others of the same value
  no_fewer : (i n j k : ℕ) → i + n ≤ length m → j + k ≤ length m → 0 < k → (get_or m (j + (k - 1)) 0 ≡ 0 → ⊥) → little_endian (stretch m i n) ≡ little_endian (stretch m j k) → k ≤ n
  no_fewer i n j k h g p f e =
      by_less n k
      (λ less.
      let u : n ≤ k - 1 = omega arith in
      let q : 256 ^ n ≤ 256 ^ (k - 1) = pow-le-pow_right {n = 256} (omega arith) {i = n} {j = k - 1} u in
      absurd (omega (arith, below_power i n h, little_least m j k p g f)))
      (λ more. more)

  digits_agree : (i n j k : ℕ) → i + n ≤ length m → j + k ≤ length m → 0 < n → 0 < k → (get_or m (i + (n - 1)) 0 ≡ 0 → ⊥) → (get_or m (j + (k - 1)) 0 ≡ 0 → ⊥)
      → Agree (same_stretch m i n m j k) (little_endian (stretch m i n) ≡ little_endian (stretch m j k))
  digits_agree i n j k h g p q s t =
      through (λ e. ap little_endian e)
      (λ e.
      let c : n ≡ k = le_antisymm (no_fewer j k i n g h p s (sym e)) (no_fewer i n j k h g q t e) in
      little_same (stretch m i n) (stretch m j k) (under_part m i n under) (under_part m j k under) (length_part m i n h ∙ c ∙ sym (length_part m j k g)) e)
      (stretch_agrees m i m j n k h g)

  -- more than eight digits are more than any number of eight
  large : (i n : ℕ) → 8 < n → i + n ≤ length m → (get_or m (i + (n - 1)) 0 ≡ 0 → ⊥) → 18446744073709551616 ≤ little_endian (stretch m i n)
  large i n h k f =
      let u : 8 ≤ n - 1 = omega arith in
      let q : 256 ^ 8 ≤ 256 ^ (n - 1) = pow-le-pow_right {n = 256} (omega arith) {i = 8} {j = n - 1} u in
      omega (arith, little_least m i n (omega arith) k f)

-- ---- the case of a content, as a number

-- labels by their contents' case; those with no fields have 0
class : Label → ℕ
class (integer z) = 1
class (float b) = 3
class (atom cs) = 4
class tuple = 0
class list = 0
class improper_list = 0
class (binary bs) = 5
class (bitstring n bs) = 6
class map = 0
class (pid i s c) = 7
class (port i c) = 8
class (reference c ws) = 9
class export = 0

bare_class : (kind : ℕ) → class (bare kind) ≡ 0
unfolding class bare
bare_class kind = go (eqb kind 4) (eqb kind 5) (eqb kind 6) (eqb kind 9)
  where
    go : (a b c d : Bool) → class (cond a tuple (cond b list (cond c improper_list (cond d map export)))) ≡ 0
    go true b c d = refl
    go false true c d = refl
    go false false true d = refl
    go false false false true = refl
    go false false false false = refl

-- integers have two cases
case_of : Content → ℕ
case_of Nothing = 0
case_of (Whole s n) = 1
case_of (Big s i n) = 1
case_of (Float b) = 3
case_of (Text l p i n) = 4
case_of (Bytes i n) = 5
case_of (Bits b i n) = 6
case_of (Pid i s c) = 7
case_of (Port i c) = 8
case_of (Reference c i n) = 9

label_class : (m : List ℕ) (atoms : AtomList) (kind : ℕ) (c : Content) → class (label_of m atoms kind c) ≡ case_of c
unfolding class case_of label_of
label_class m atoms kind Nothing = bare_class kind
label_class m atoms kind _ = refl

-- ---- two contents

pub self_agrees : (t : Bool) → Agree t (t ≡ true)
self_agrees t = record { sure = λ e. e; back = λ e. e }

signs_agree : (s t : Bool) → Agree (eqb (sign s) (sign t)) (s ≡ t)
signs_agree true true = record { sure = λ _. refl; back = λ _. refl }
signs_agree true false = record { sure = λ e. never e; back = λ e. never (sym e) }
signs_agree false true = record { sure = λ e. never e; back = λ e. never e }
signs_agree false false = record { sure = λ _. refl; back = λ _. refl }

-- the kinds k and k' are equal where neither term has fields of its own
module _ (atoms : AtomList) (m : List ℕ) (under : Under 256 m) (k k' : ℕ) (alike : bare k ≡ bare k') where
  abbrev Goal : Content → Content → Type 0
  Goal a b = Agree (same_contents m atoms.places a b) (label_of m atoms k a ≡ label_of m atoms k' b)

  -- contents of one case

  nothings : Goal Nothing Nothing
  unfolding same_contents label_of
  nothings = record { sure = λ _. alike; back = λ _. refl }

  wholes : (s t : Bool) (n o : ℕ) → (n ≡ 0 → s ≡ false) → (o ≡ 0 → t ≡ false) → Goal (Whole s n) (Whole t o)
  unfolding same_contents label_of
  wholes s t n o f g =
      through
      (λ x. ap₂ (λ (z : Bool) (y : ℕ). integer (with_sign (sign z) y)) x.0 x.1)
      (λ e. let w : with_sign (sign s) n ≡ with_sign (sign t) o = cc in sign_magnitude s t n o f g w)
      (both (signs_agree s t) (numbers_agree n o))

  module _ (s t : Bool) (i n j o : ℕ) (a : Sound m atoms.places (Big s i n)) (b : Sound m atoms.places (Big t j o)) where
    bigs : Goal (Big s i n) (Big t j o)
    unfolding same_contents label_of
    bigs =
        let x : 18446744073709551616 ≤ little_endian (stretch m i n) = large m under i n a.0 a.1 a.2 in
        let y : 18446744073709551616 ≤ little_endian (stretch m j o) = large m under j o b.0 b.1 b.2 in
        through
        (λ z. ap₂ (λ (u : Bool) (v : ℕ). integer (with_sign (sign u) v)) z.0 z.1)
        (λ e. let w : with_sign (sign s) (little_endian (stretch m i n)) ≡ with_sign (sign t) (little_endian (stretch m j o)) = cc in
        sign_magnitude s t (little_endian (stretch m i n)) (little_endian (stretch m j o)) (λ z. absurd (omega arith)) (λ z. absurd (omega arith)) w)
        (both (signs_agree s t) (digits_agree m under i n j o a.1 b.1 (omega (arith, a.0)) (omega (arith, b.0)) a.2 b.2))

  module _ (s t : Bool) (n j o : ℕ) (a : Sound m atoms.places (Whole s n)) (b : Sound m atoms.places (Big t j o)) where
    apart : with_sign (sign s) n ≡ with_sign (sign t) (little_endian (stretch m j o)) → ⊥
    apart w =
        let y : 18446744073709551616 ≤ little_endian (stretch m j o) = large m under j o b.0 b.1 b.2 in
        let v = sign_magnitude s t n (little_endian (stretch m j o)) a.1 (λ z. absurd (omega arith)) w in
        omega (arith, v.1, a.0)

    whole_big : Goal (Whole s n) (Big t j o)
    unfolding same_contents label_of
    whole_big = record { sure = λ e. never e; back = λ e. let w : with_sign (sign s) n ≡ with_sign (sign t) (little_endian (stretch m j o)) = cc in absurd (apart w) }

    big_whole : Goal (Big t j o) (Whole s n)
    unfolding same_contents label_of
    big_whole = record { sure = λ e. never e; back = λ e. let w : with_sign (sign s) n ≡ with_sign (sign t) (little_endian (stretch m j o)) = cc in absurd (apart w) }

  floats : (x y : ℕ) → Goal (Float x) (Float y)
  unfolding same_contents label_of
  floats x y = through (ap float) (λ e. cc) (numbers_agree x y)

  texts : (x y p q : Bool) (i n j o : ℕ) → Sound m atoms.places (Text x p i n) → Sound m atoms.places (Text y q j o) → Goal (Text x p i n) (Text y q j o)
  unfolding same_contents label_of
  texts x y p q i n j o a b =
      through (ap atom) (λ e. cc) (texts_agree (source m atoms.places p) i n (source m atoms.places q) j o a.0 b.0 x y a.1 b.1)

  byteses : (i n j o : ℕ) → i + n ≤ length m → j + o ≤ length m → Goal (Bytes i n) (Bytes j o)
  unfolding same_contents label_of
  byteses i n j o a b = through (ap binary) (λ e. cc) (stretch_agrees m i m j n o a b)

  bitses : (x y i n j o : ℕ) → i + n ≤ length m → j + o ≤ length m → Goal (Bits x i n) (Bits y j o)
  unfolding same_contents label_of
  bitses x y i n j o a b =
      through
      (λ z. ap₂ (λ (u : ℕ) (v : List ℕ). bitstring u v) z.0 (z.1 ∙ ap (λ (u : ℕ). clear_low u (stretch m j o)) z.0))
      (λ e. let f : x ≡ y = cc in let g : clear_low x (stretch m i n) ≡ clear_low y (stretch m j o) = cc in
      (f, g ∙ ap (λ (u : ℕ). clear_low u (stretch m j o)) (sym f)))
      (both (numbers_agree x y) (bits_agree m x i j n o a b))

  pids : (i s c j t d : ℕ) → Goal (Pid i s c) (Pid j t d)
  unfolding same_contents label_of
  pids i s c j t d =
      through (λ z. ap₂ (λ (u : ℕ) (v : ℕ). pid u v c) z.0 z.1.0 ∙ ap (pid j t) z.1.1) (λ e. (cc, (cc, cc)))
      (both (numbers_agree i j) (both (numbers_agree s t) (numbers_agree c d)))

  ports : (i c j d : ℕ) → Goal (Port i c) (Port j d)
  unfolding same_contents label_of
  ports i c j d = through (λ z. ap₂ (λ (u : ℕ) (v : ℕ). port u v) z.0 z.1) (λ e. (cc, cc)) (both (numbers_agree i j) (numbers_agree c d))

  references : (c i n d j o : ℕ) → i + 4 * n ≤ length m → j + 4 * o ≤ length m → Goal (Reference c i n) (Reference d j o)
  unfolding same_contents label_of
  references c i n d j o a b =
      through (λ z. ap₂ (λ (u : ℕ) (v : List ℕ). reference u v) z.0 z.1) (λ e. (cc, cc)) (both (numbers_agree c d) (words_agree m under i n j o a b))

  -- contents of any case

  abbrev S : Content → Type 0
  S = Sound m atoms.places

  other_case : (a b : Content) → (case_of a ≡ case_of b → ⊥) → label_of m atoms k a ≡ label_of m atoms k' b → ⊥
  other_case a b f e = f (sym (label_class m atoms k a) ∙ ap class e ∙ label_class m atoms k' b)

  pub alike_contents : (a b : Content) → S a → S b → Goal a b
  unfolding same_contents case_of
  alike_contents Nothing Nothing s t = nothings
  alike_contents (Whole x n) (Whole y o) s t = wholes x y n o s.1 t.1
  alike_contents (Whole x n) (Big y j o) s t = whole_big x y n j o s t
  alike_contents (Big x i n) (Whole y o) s t = big_whole y x o i n t s
  alike_contents (Big x i n) (Big y j o) s t = bigs x y i n j o s t
  alike_contents (Float x) (Float y) s t = floats x y
  alike_contents (Text x p i n) (Text y q j o) s t = texts x y p q i n j o s t
  alike_contents (Bytes i n) (Bytes j o) s t = byteses i n j o s t
  alike_contents (Bits x i n) (Bits y j o) s t = bitses x y i n j o s t
  alike_contents (Pid i x c) (Pid j y d) s t = pids i x c j y d
  alike_contents (Port i c) (Port j d) s t = ports i c j d
  alike_contents (Reference c i n) (Reference d j o) s t = references c i n d j o s t
  alike_contents a b s t = record { sure = λ e. never e; back = λ e. absurd (other_case a b (λ z. omega arith) e) }
