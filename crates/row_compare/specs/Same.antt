-- Whether two contents say the same label, with the tests of the code in their order.
-- About the code alone, proved against the definitions of term_spec: nothing here has to be believed.
use Rattle.std.specs.Prelude.{◌≡◌, Bool, true, false, cond, List, [], ◌∷◌, ◌++◌, ℕ, ◌+◌, ◌*◌, ◌-◌, ◌/◌, eqb, leb, ltb, length, get_or}
use Rattle.term_spec.specs.Text.{encode, encodes}
use Rattle.octets.specs.Parts.{stretch}
use Rattle.row_fields.specs.Meaning.{sign}
pub use Rattle.octets.specs.Parts.{source, high}
use Rattle.row_fields.specs.declared.Content.{Content}
use Rattle.row_fields.specs.declared.Content.TheVariants.{Nothing, Whole, Big, Float, Text, Bytes, Bits, Pid, Port, Reference}

unfoldable pub same_list : List ℕ → List ℕ → Bool
same_list [] [] = true
same_list [] (y ∷ ys) = false
same_list (x ∷ xs) [] = false
same_list (x ∷ xs) (y ∷ ys) = cond (eqb x y) (same_list xs ys) false

-- the n bytes of a from i on are those of b from j on
unfoldable pub same_part : List ℕ → ℕ → List ℕ → ℕ → ℕ → Bool
same_part a i b j n =
    cond (leb (i + n) (length a)) (cond (leb (j + n) (length b)) (same_list (stretch a i n) (stretch b j n)) false) false

unfoldable pub same_stretch : List ℕ → ℕ → ℕ → List ℕ → ℕ → ℕ → Bool
same_stretch a i n b j k = cond (eqb n k) (same_part a i b j n) false

-- bs spell the character c and then what is left
abbrev pub Spelled : ℕ → List ℕ → List ℕ → Type 0
Spelled c bs left = (more : List ℕ) → same_list (encode c ++ more) bs ≡ same_list more left

-- bs do not begin with the character c
abbrev pub NotSpelled : ℕ → List ℕ → Type 0
NotSpelled c bs = (more : List ℕ) → same_list (encode c ++ more) bs ≡ false

-- the n characters that are the bytes of a from i on are, in UTF-8, the k bytes of b from j on
unfoldable pub same_spelling : List ℕ → ℕ → ℕ → List ℕ → ℕ → ℕ → Bool
same_spelling a i n b j k =
    cond (leb (i + n) (length a))
    (cond (leb (j + k) (length b)) (same_list (encodes (stretch a i n)) (stretch b j k)) false)
    false

-- two texts, each in Latin-1 or UTF-8
unfoldable pub same_text : List ℕ → ℕ → ℕ → Bool → List ℕ → ℕ → ℕ → Bool → Bool
same_text a i n latin b j k latin' =
    cond latin (cond latin' (same_stretch a i n b j k) (same_spelling a i n b j k))
    (cond latin' (same_spelling b j k a i n) (same_stretch a i n b j k))

-- two stretches, of whose last bytes so many bits count
unfoldable pub same_last : List ℕ → ℕ → ℕ → ℕ → ℕ → Bool
same_last m bits i j n =
    cond (same_part m i m j n) (eqb (high (get_or m (i + n) 0) bits) (high (get_or m (j + n) 0) bits)) false

unfoldable pub same_bits : List ℕ → ℕ → ℕ → ℕ → ℕ → ℕ → Bool
same_bits m bits i n j k =
    cond (eqb n k)
    (cond (eqb n 0) true
    (cond (leb (i + n) (length m))
    (cond (leb (j + n) (length m)) (same_last m bits i j (n - 1)) false)
    false))
    false

unfoldable pub same_words : List ℕ → ℕ → ℕ → ℕ → ℕ → Bool
same_words m i n j k = cond (eqb n k) (cond (ltb (length m / 4) n) false (same_part m i m j (4 * n))) false

-- do two contents say the same label?
unfoldable pub same_contents : List ℕ → List ℕ → Content → Content → Bool
same_contents m places Nothing Nothing = true
same_contents m places (Whole s n) (Whole t k) = cond (eqb (sign s) (sign t)) (eqb n k) false
same_contents m places (Big s i n) (Big t j k) = cond (eqb (sign s) (sign t)) (same_stretch m i n m j k) false
same_contents m places (Float x) (Float y) = eqb x y
same_contents m places (Text x p i n) (Text y q j k) = same_text (source m places p) i n x (source m places q) j k y
same_contents m places (Bytes i n) (Bytes j k) = same_stretch m i n m j k
same_contents m places (Bits x i n) (Bits y j k) = cond (eqb x y) (same_bits m x i n j k) false
same_contents m places (Pid i x c) (Pid j y d) = cond (eqb i j) (cond (eqb x y) (eqb c d) false) false
same_contents m places (Port i c) (Port j d) = cond (eqb i j) (eqb c d) false
same_contents m places (Reference c i n) (Reference d j k) = cond (eqb c d) (same_words m i n j k) false
same_contents m places _ _ = false
