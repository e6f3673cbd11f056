-- The comparison of lists, of parts of them, and of characters with bytes.
use mathlib.Core.Path.{◌≡◌, refl, sym, ◌∙◌, ap, ap₂}
use mathlib.Core.Bool.{Bool, true, false, cond}
use mathlib.Core.List.{List, [], ◌∷◌, ◌++◌}
use Prim.Native.Nat.{ℕ, suc, ◌+◌, ◌-◌, ◌/◌, ◌%◌, ◌≤◌, ◌<◌}
use native.Mathlib.Omega.{arith}
use lib.Dec.{eqb}
use Rattle.std.specs.Bool.{◌==◌}
use lib.ListN.{length, get_or, take, drop, drop_of_length-le}
use lib.Seq.{drop-cons, take_all}
use native.Mathlib.Numerals.{add-one}
use borrow.Author.Tests.{eqb-true, eq-eqb, ne_eqb, lt-ltb, le-ltb}
use Rattle.term_spec.specs.Text.{encode, encodes}
use Rattle.row_compare.specs.Same.{same_list, Spelled, NotSpelled}

-- ---- equality as a test

pub same_true : (xs ys : List ℕ) → same_list xs ys ≡ true → xs ≡ ys
unfolding same_list
same_true [] [] e = refl
same_true [] (y ∷ ys) e = let z : ◌≡◌ {A = ℕ} 0 1 = cc in absurd (omega arith)
same_true (x ∷ xs) [] e = let z : ◌≡◌ {A = ℕ} 0 1 = cc in absurd (omega arith)
same_true (x ∷ xs) (y ∷ ys) e = go (eqb x y) refl e (λ f. same_true xs ys f)
  where
    go : (t : Bool) → eqb x y ≡ t → cond t (same_list xs ys) false ≡ true → (same_list xs ys ≡ true → xs ≡ ys) → ◌≡◌ {A = List ℕ} (x ∷ xs) (y ∷ ys)
    go true p f ih = ap₂ (λ (v : ℕ) (vs : List ℕ). v ∷ vs) (eqb-true x y p) (ih f)
    go false p f ih = let z : ◌≡◌ {A = ℕ} 0 1 = cc in absurd (omega arith)

pub same_self : (xs : List ℕ) → same_list xs xs ≡ true
unfolding same_list
same_self [] = refl
same_self (x ∷ xs) = rw (eq-eqb x x refl) (same_self xs)

pub same_unequal : (xs ys : List ℕ) → (xs ≡ ys → ⊥) → false ≡ same_list xs ys
same_unequal xs ys f = go (same_list xs ys) refl
  where
    go : (t : Bool) → same_list xs ys ≡ t → false ≡ same_list xs ys
    go true e = absurd (f (same_true xs ys e))
    go false e = sym e

-- by the outcome of a comparison of parts
pub same_by : (xs ys : List ℕ) (r : Bool) → (r ≡ true → xs ≡ ys) → (r ≡ false → xs ≡ ys → ⊥) → r ≡ same_list xs ys
same_by xs ys true f g = sym (rw (f refl) (same_self ys))
same_by xs ys false f g = same_unequal xs ys (g refl)

same_cons : (x : ℕ) (xs : List ℕ) (y : ℕ) (ys : List ℕ) → x ≡ y → same_list (x ∷ xs) (y ∷ ys) ≡ same_list xs ys
unfolding same_list
same_cons x xs y ys e = rw (eq-eqb x y e)

-- ---- characters under 256 in UTF-8

pub encode_low : (c : ℕ) → c < 128 → encode c ≡ c ∷ []
unfolding encode
encode_low c h = rw (lt-ltb c 0x80 h)

pub encode_high : (c : ℕ) → 128 ≤ c → c < 256 → encode c ≡ (192 + c / 64) ∷ (128 + c % 64) ∷ []
unfolding encode
encode_high c h k = rw (le-ltb c 0x80 h, lt-ltb c 0x800 (omega arith))

-- what comes after the first byte, and after two
pub spelled_low : (c : ℕ) (bs : List ℕ) → c < 128 → 1 ≤ length bs → get_or bs 0 0 ≡ c → Spelled c bs (take (length bs - 1) (drop 1 bs))
spelled_low c [] low l e more = absurd (omega arith)
spelled_low c (x ∷ xs) low l e more =
    let k : suc (length xs) - 1 ≡ length xs = omega arith in
    rw (encode_low c low, k, take_all (length xs) xs (omega arith)) (same_cons c more x xs (sym e))

pub not_spelled_low : (c : ℕ) (bs : List ℕ) → c < 128 → (1 ≤ length bs → get_or bs 0 0 ≡ c → ⊥) → NotSpelled c bs
unfolding same_list
not_spelled_low c [] low f more = rw (encode_low c low)
not_spelled_low c (x ∷ xs) low f more =
    rw (encode_low c low) (sym (same_unequal (c ∷ more) (x ∷ xs) (λ q. let e : x ≡ c = cc in f (omega arith) e)))

pub spelled_high : (c : ℕ) (bs : List ℕ) → 128 ≤ c → c < 256 → 2 ≤ length bs → get_or bs 0 0 ≡ 192 + c / 64 → get_or bs 1 0 ≡ 128 + c % 64 → Spelled c bs (take (length bs - 2) (drop 2 bs))
spelled_high c [] high small l e f more = absurd (omega arith)
spelled_high c (x ∷ []) high small l e f more = absurd (omega arith)
spelled_high c (x ∷ y ∷ xs) high small l e f more =
    let k : suc (suc (length xs)) - 2 ≡ length xs = omega arith in
    rw (encode_high c high small, k, take_all (length xs) xs (omega arith))
    (same_cons (192 + c / 64) ((128 + c % 64) ∷ more) x (y ∷ xs) (sym e) ∙ same_cons (128 + c % 64) more y xs (sym f))

pub not_spelled_high : (c : ℕ) (bs : List ℕ) → 128 ≤ c → c < 256 → (2 ≤ length bs → get_or bs 0 0 ≡ 192 + c / 64 → get_or bs 1 0 ≡ 128 + c % 64 → ⊥) → NotSpelled c bs
not_spelled_high c bs high small f more =
    rw (encode_high c high small) (sym (same_unequal ((192 + c / 64) ∷ (128 + c % 64) ∷ more) bs (two bs f)))
  where
    two : (bs : List ℕ) → (2 ≤ length bs → get_or bs 0 0 ≡ 192 + c / 64 → get_or bs 1 0 ≡ 128 + c % 64 → ⊥) → ◌≡◌ {A = List ℕ} ((192 + c / 64) ∷ (128 + c % 64) ∷ more) bs → ⊥
    two [] g q = cc
    two (x ∷ []) g q = cc
    two (x ∷ y ∷ xs) g q = let e : x ≡ 192 + c / 64 = cc in let h : y ≡ 128 + c % 64 = cc in g (omega arith) e h

-- ---- characters one by one

module _ (cs bs left : List ℕ) (i c : ℕ) (less : i < length cs) (is : c ≡ get_or cs i 0) (h : same_list (encodes cs) bs ≡ same_list (encodes (drop i cs)) left) where
  next_character : same_list (encodes cs) bs ≡ same_list (encode c ++ encodes (drop (i + 1) cs)) left
  unfolding encodes
  next_character =
      let d : drop i cs ≡ c ∷ drop (i + 1) cs = rw (is, add-one) (drop-cons cs i 0 less) in
      h ∙ ap (λ (l : List ℕ). same_list (encodes l) left) d

  pub character_differs : NotSpelled c left → false ≡ same_list (encodes cs) bs
  character_differs s = sym (next_character ∙ s _)

  pub character_same : (rest : List ℕ) → Spelled c left rest → same_list (encodes cs) bs ≡ same_list (encodes (drop (i + 1) cs)) rest
  character_same rest s = next_character ∙ s _

-- after the last character there must be nothing left
pub characters_end : (cs bs left : List ℕ) (i : ℕ) (r : Bool) → length cs ≤ i → same_list (encodes cs) bs ≡ same_list (encodes (drop i cs)) left → r ≡ (length left == 0) → r ≡ same_list (encodes cs) bs
unfolding encodes same_list
characters_end cs bs left i r l h e = e ∙ none left ∙ sym (h ∙ ap (λ (x : List ℕ). same_list (encodes x) left) (drop_of_length-le cs l))
  where
    none : (left : List ℕ) → (length left == 0) ≡ same_list [] left
    none [] = refl
    none (y ∷ ys) = ne_eqb (suc (length ys)) 0 (λ z. omega arith)
