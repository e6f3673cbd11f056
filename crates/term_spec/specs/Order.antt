-- A total order on terms, part by part, down to the leaves. It knows nothing of the bytes that a term is read from or written to.
use Rattle.std.specs.Prelude.{Bool, true, false, cond, List, [], ◌∷◌, ℕ, ltb, pos, negsuc}
use Rattle.term_spec.specs.Tree.{Forest, node, empty, ◌▹◌}
use Rattle.term_spec.specs.Term.{Label, Term, integer, float, atom, tuple, list, improper_list, binary, bitstring, map, pid, port, reference, export}

pub data Order : Type 0 where
  less equal greater : Order

-- the first difference decides
infixr 6 ◌then◌
abbrev pub ◌then◌ : Order → Order → Order
less then o = less
equal then o = o
greater then o = greater

-- less or equal
abbrev pub not_greater : Order → Bool
not_greater less = true
not_greater equal = true
not_greater greater = false

abbrev pub is_equal : Order → Bool
is_equal less = false
is_equal equal = true
is_equal greater = false

unfoldable pub compare_numbers : ℕ → ℕ → Order
compare_numbers m n = cond (ltb m n) less (cond (ltb n m) greater equal)

-- number by number; a list that begins another is less
unfoldable pub compare_lists : List ℕ → List ℕ → Order
compare_lists [] [] = equal
compare_lists [] (n ∷ ns) = less
compare_lists (m ∷ ms) [] = greater
compare_lists (m ∷ ms) (n ∷ ns) = compare_numbers m n then compare_lists ms ns

-- a label as numbers: one for its kind, then its own fields
unfoldable pub numbers_of : Label → List ℕ
numbers_of (integer (pos n)) = 0 ∷ n ∷ []
numbers_of (integer (negsuc m)) = 1 ∷ m ∷ []
numbers_of (float bits) = 2 ∷ bits ∷ []
numbers_of (atom cs) = 3 ∷ cs
numbers_of tuple = 4 ∷ []
numbers_of list = 5 ∷ []
numbers_of improper_list = 6 ∷ []
numbers_of (binary bs) = 7 ∷ bs
numbers_of (bitstring bits bs) = 8 ∷ bits ∷ bs
numbers_of map = 9 ∷ []
numbers_of (pid id serial creation) = 10 ∷ id ∷ serial ∷ creation ∷ []
numbers_of (port id creation) = 11 ∷ id ∷ creation ∷ []
numbers_of (reference creation ws) = 12 ∷ creation ∷ ws
numbers_of export = 13 ∷ []

-- the labels, then the parts in turn; a run that begins another is less
unfoldable mutual
  pub compare : Term → Term → Order
  compare (node l ts) (node m us) = compare_lists (numbers_of l) (numbers_of m) then compares ts us

  pub compares : Forest Label → Forest Label → Order
  compares empty empty = equal
  compares empty (u ▹ us) = less
  compares (t ▹ ts) empty = greater
  compares (t ▹ ts) (u ▹ us) = compare t u then compares ts us
