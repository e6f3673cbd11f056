-- The canonical form of a term's meaning.
use Rattle.std.specs.Prelude.{Bool, cond, List, [], ◌∷◌, ◌++◌, ℕ, zero, suc, ◌-◌, ◌/◌, ◌^◌, leb, ltb, ℤ, pos, negsuc, length}
use Rattle.std.proofs.Math.Option.{Option, none, some}
use Rattle.term_spec.specs.Tree.{Forest, node, ◌▹◌, count}
use Rattle.term_spec.specs.Numbers.{in_bytes, digits}
use Rattle.term_spec.specs.Text.{encodes}
use Rattle.term_spec.specs.Term.{Label, Term, integer, float, atom, tuple, list, improper_list, binary, bitstring, map, pid, port, reference, export}
use Rattle.term_spec.specs.Order.{not_greater, compare_lists}
use Rattle.term_spec.specs.Pairs.{Pair, arranged}

-- 110 up to 255 digits, else 111
unfoldable pub big_bytes : ℕ → List ℕ → List ℕ
big_bytes sign ds =
    cond (leb (length ds) 255) (110 ∷ (in_bytes 1 (length ds) ++ (in_bytes 1 sign ++ ds)))
    (111 ∷ (in_bytes 4 (length ds) ++ (in_bytes 1 sign ++ ds)))

-- 97 if 0 .. 255, else 98 if it fits, else a bignum with no high zero digit
unfoldable pub integer_bytes : ℤ → List ℕ
integer_bytes (pos n) =
    cond (ltb n 256) (97 ∷ in_bytes 1 n)
    (cond (ltb n (2 ^ 31)) (98 ∷ in_bytes 4 n)
    (big_bytes 0 (digits n)))
integer_bytes (negsuc m) =
    cond (ltb m (2 ^ 31)) (98 ∷ in_bytes 4 (2 ^ 32 - suc m))
    (big_bytes 1 (digits (suc m)))

-- 119 up to 255 bytes, else 118
unfoldable pub atom_bytes : List ℕ → List ℕ
atom_bytes bs = cond (leb (length bs) 255) (119 ∷ (in_bytes 1 (length bs) ++ bs)) (118 ∷ (in_bytes 2 (length bs) ++ bs))

-- 104 up to arity 255, else 105
unfoldable pub tuple_bytes : ℕ → List ℕ → List ℕ
tuple_bytes n parts = cond (leb n 255) (104 ∷ (in_bytes 1 n ++ parts)) (105 ∷ (in_bytes 4 n ++ parts))

-- 89 for a port ID under 2^28, else 120
unfoldable pub port_bytes : ℕ → ℕ → List ℕ → List ℕ
port_bytes id creation parts =
    cond (ltb id (2 ^ 28)) (89 ∷ (parts ++ (in_bytes 4 id ++ in_bytes 4 creation)))
    (120 ∷ (parts ++ (in_bytes 8 id ++ in_bytes 4 creation)))

-- words of four bytes
unfoldable pub words_bytes : List ℕ → List ℕ
words_bytes [] = []
words_bytes (w ∷ ws) = in_bytes 4 w ++ words_bytes ws

-- an integer 0 .. 255
unfoldable pub small : Label → Option ℕ
small (integer (pos n)) = cond (ltb n 256) (some n) none
small (integer (negsuc m)) = none
small (float b) = none
small (atom cs) = none
small tuple = none
small list = none
small improper_list = none
small (binary bs) = none
small (bitstring n bs) = none
small map = none
small (pid i s c) = none
small (port i c) = none
small (reference c ws) = none
small export = none

abbrev pub put : Option ℕ → Option (List ℕ) → Option (List ℕ)
put none o = none
put (some c) none = none
put (some c) (some cs) = some (c ∷ cs)

-- the parts, where all of them are integers 0 .. 255
unfoldable pub all_small : Forest Label → Option (List ℕ)
all_small Forest.empty = some []
all_small (node l ts ▹ us) = put (small l) (all_small us)

-- 106; 107 for a proper list of one or more integers 0 .. 255, else 108, its tail 106. Of lists of at most 8,191 elements: no accepted term has a longer one (Lists)
unfoldable pub list_bytes : ℕ → Option (List ℕ) → List ℕ → List ℕ
list_bytes zero characters parts = 106 ∷ []
list_bytes (suc n) none parts = 108 ∷ (in_bytes 4 (suc n) ++ (parts ++ (106 ∷ [])))
list_bytes (suc n) (some cs) parts = 107 ∷ (in_bytes 2 (suc n) ++ cs)

-- a term's bytes, from its label, its parts and the parts' bytes
unfoldable pub term_bytes : Label → Forest Label → List ℕ → List ℕ
term_bytes (integer z) ts parts = integer_bytes z
term_bytes (float bits) ts parts = 70 ∷ in_bytes 8 bits
term_bytes (atom cs) ts parts = atom_bytes (encodes cs)
term_bytes tuple ts parts = tuple_bytes (count ts) parts
term_bytes list ts parts = list_bytes (count ts) (all_small ts) parts
term_bytes improper_list ts parts = 108 ∷ (in_bytes 4 (count ts - 1) ++ parts)
term_bytes (binary bs) ts parts = 109 ∷ (in_bytes 4 (length bs) ++ bs)
term_bytes (bitstring bits bs) ts parts = 77 ∷ (in_bytes 4 (length bs) ++ (in_bytes 1 bits ++ bs))
term_bytes map ts parts = 116 ∷ (in_bytes 4 (count ts / 2) ++ parts)
term_bytes (pid id serial creation) ts parts = 88 ∷ (parts ++ (in_bytes 4 id ++ (in_bytes 4 serial ++ in_bytes 4 creation)))
term_bytes (port id creation) ts parts = port_bytes id creation parts
term_bytes (reference creation ws) ts parts = 90 ∷ (in_bytes 2 (length ws) ++ (parts ++ (in_bytes 4 creation ++ words_bytes ws)))
term_bytes export ts parts = 113 ∷ parts

-- a term's bytes, the pairs of its maps as they stand
unfoldable mutual
  pub bytes_of : Term → List ℕ
  bytes_of (node l ts) = term_bytes l ts (all_bytes ts)

  pub all_bytes : Forest Label → List ℕ
  all_bytes Forest.empty = []
  all_bytes (t ▹ ts) = bytes_of t ++ all_bytes ts

-- rising byte order of the keys' bytes
unfoldable pub key_before : Pair → Pair → Bool
key_before p q = not_greater (compare_lists (bytes_of p.0) (bytes_of q.0))

-- Pairs in rising byte order of the key's canonical form: `arranged` begins with the inmost maps, so a key's bytes are its canonical form when it is compared
unfoldable pub canonical : Term → List ℕ
canonical t = bytes_of (arranged key_before t)

-- a canonical standalone term
unfoldable pub canonical_standalone : Term → List ℕ
canonical_standalone t = 131 ∷ canonical t

-- one after the other
unfoldable pub standalones : Forest Label → List ℕ
standalones Forest.empty = []
standalones (t ▹ ts) = canonical_standalone t ++ standalones ts
