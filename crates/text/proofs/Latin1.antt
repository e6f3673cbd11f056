-- Latin-1 characters as UTF-8, one after another.
use mathlib.Core.Path.{◌≡◌, refl, sym, ◌∙◌, ap}
use mathlib.Core.List.{List, [], ◌∷◌, ◌++◌, append_assoc, append-nil}
use Prim.Native.Nat.{ℕ, ◌+◌, ◌-◌, ◌/◌, ◌%◌, ◌≤◌, ◌<◌}
use native.Mathlib.Numerals.{add-one}
use native.Mathlib.Omega.{arith}
use lib.ListN.{length, get_or, set, take, drop, length-append, length-drop}
use lib.Seq.{take-suc, take-add, get_or-drop, sets}
use Rattle.term_spec.specs.Text.{encode, encodes}
use Rattle.term_spec.proofs.Text.{encode_1, encode_2}
use Rattle.octets.proofs.Stores.{sets_sets}

encodes_append : (xs ys : List ℕ) → encodes (xs ++ ys) ≡ encodes xs ++ encodes ys
unfolding encodes
encodes_append [] ys = refl
encodes_append (x ∷ xs) ys = ap (λ (zs : List ℕ). encode x ++ zs) (encodes_append xs ys) ∙ sym (append_assoc (encode x) (encodes xs) (encodes ys))

encodes_one : (c : ℕ) → encodes (c ∷ []) ≡ encode c
unfolding encodes
encodes_one c = append-nil (encode c)

-- one character
module _ (b : ℕ) where
  pub length_low : b < 0x80 → length (encode b) ≡ 1
  length_low h = ap length (encode_1 b h)

  pub length_high : 0x80 ≤ b → b < 256 → length (encode b) ≡ 2
  length_high h k = ap length (encode_2 b h (omega arith))

  pub sets_low : (l : List ℕ) (at : ℕ) → b < 0x80 → set l at b ≡ sets l at (encode b)
  sets_low l at h = rw (encode_1 b h)

  pub sets_high : (l : List ℕ) (at : ℕ) → 0x80 ≤ b → b < 256 → set (set l at (0xC0 + b / 64)) (at + 1) (0x80 + b % 64) ≡ sets l at (encode b)
  sets_high l at h k = rw (encode_2 b h (omega arith), add-one at)

-- i of the characters from offset a on, and one more
module _ (s : List ℕ) (a : ℕ) where
  pub encodes_none : encodes (take 0 (drop a s)) ≡ []
  unfolding encodes
  encodes_none = refl

  pub encodes_more : (i : ℕ) → a + i < length s → encodes (take (i + 1) (drop a s)) ≡ encodes (take i (drop a s)) ++ encode (get_or s (a + i) 0)
  encodes_more i h =
      ap (λ (k : ℕ). encodes (take k (drop a s))) (add-one i)
      ∙ ap encodes (take-suc (drop a s) i 0 (simp length-drop (omega arith)))
      ∙ encodes_append _ _
      ∙ ap (λ (zs : List ℕ). encodes (take i (drop a s)) ++ zs) (encodes_one _ ∙ ap encode (get_or-drop a s i 0))

  pub length_more : (i : ℕ) → a + i < length s
      → length (encodes (take (i + 1) (drop a s))) ≡ length (encodes (take i (drop a s))) + length (encode (get_or s (a + i) 0))
  length_more i h = ap length (encodes_more i h) ∙ length-append (encodes (take i (drop a s))) (encode (get_or s (a + i) 0))

  -- what is written so far, and the next, is no more than all
  pub room_for : (i n : ℕ) → i < n → a + n ≤ length s
      → length (encodes (take i (drop a s))) + length (encode (get_or s (a + i) 0)) ≤ length (encodes (take n (drop a s)))
  room_for i n h k =
      let all : n ≡ (i + 1) + (n - (i + 1)) = omega arith in
      let rest : List ℕ = take (n - (i + 1)) (drop (i + 1) (drop a s)) in
      let split : length (encodes (take n (drop a s))) ≡ length (encodes (take (i + 1) (drop a s))) + length (encodes rest)
      = ap (λ (m : ℕ). length (encodes (take m (drop a s)))) all ∙ ap (λ (xs : List ℕ). length (encodes xs)) (take-add (i + 1) (n - (i + 1)) (drop a s))
      ∙ ap length (encodes_append (take (i + 1) (drop a s)) rest) ∙ length-append (encodes (take (i + 1) (drop a s))) (encodes rest) in
      omega (arith, length_more i (omega arith))

  -- i characters are written from b on, and then one more
  pub put_more : (D d d' : List ℕ) (b i end : ℕ) → a + i < length s → end ≡ b + length (encodes (take i (drop a s)))
      → d ≡ sets D b (encodes (take i (drop a s))) → d' ≡ sets d end (encode (get_or s (a + i) 0)) → d' ≡ sets D b (encodes (take (i + 1) (drop a s)))
  put_more D d d' b i end h e f g =
      rw (encodes_more i h) (g ∙ rw (f, e) (sets_sets D b (encodes (take i (drop a s))) (encode (get_or s (a + i) 0))))
