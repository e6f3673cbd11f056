-- The canonical form of a term that is written part by part: bytes before its parts, and bytes after them.
-- About the code alone, proved against the definitions of term_spec: nothing here has to be believed.
use Rattle.std.specs.Prelude.{cond, List, [], ◌∷◌, ◌++◌, ℕ, zero, suc, ◌-◌, ◌/◌, ◌^◌, ltb, length}
use Rattle.std.proofs.Math.Option.{Option, none}
use Rattle.term_spec.specs.Numbers.{in_bytes}
use Rattle.term_spec.specs.Text.{encodes}
use Rattle.term_spec.specs.Term.{Label, integer, float, atom, tuple, list, improper_list, binary, bitstring, map, pid, port, reference, export}
use Rattle.term_spec.specs.Canonical.{integer_bytes, atom_bytes, tuple_bytes, words_bytes}

-- a tag, a number in its width, and a body
unfoldable pub tagged_bytes : ℕ → ℕ → ℕ → List ℕ → List ℕ
tagged_bytes tag width n body = tag ∷ (in_bytes width n ++ body)

unfoldable pub list_start : ℕ → List ℕ
list_start zero = 106 ∷ []
list_start (suc n) = 108 ∷ in_bytes 4 (suc n)

unfoldable pub list_end : ℕ → List ℕ
list_end zero = []
list_end (suc n) = 106 ∷ []

-- by the label and the number of parts
unfoldable pub before : Label → ℕ → List ℕ
before (integer z) n = integer_bytes z
before (float bits) n = 70 ∷ in_bytes 8 bits
before (atom cs) n = atom_bytes (encodes cs)
before tuple n = tuple_bytes n []
before list n = list_start n
before improper_list n = 108 ∷ in_bytes 4 (n - 1)
before (binary bs) n = 109 ∷ (in_bytes 4 (length bs) ++ bs)
before (bitstring bits bs) n = 77 ∷ (in_bytes 4 (length bs) ++ (in_bytes 1 bits ++ bs))
before map n = 116 ∷ in_bytes 4 (n / 2)
before (pid id serial creation) n = 88 ∷ []
before (port id creation) n = cond (ltb id (2 ^ 28)) 89 120 ∷ []
before (reference creation ws) n = 90 ∷ in_bytes 2 (length ws)
before export n = 113 ∷ []

unfoldable pub after : Label → ℕ → List ℕ
after (integer z) n = []
after (float bits) n = []
after (atom cs) n = []
after tuple n = []
after list n = list_end n
after improper_list n = []
after (binary bs) n = []
after (bitstring bits bs) n = []
after map n = []
after (pid id serial creation) n = in_bytes 4 id ++ (in_bytes 4 serial ++ in_bytes 4 creation)
after (port id creation) n = in_bytes (cond (ltb id (2 ^ 28)) 4 8) id ++ in_bytes 4 creation
after (reference creation ws) n = in_bytes 4 creation ++ words_bytes ws
after export n = []

-- the characters of a list that is written as a 107
unfoldable pub some_small : ℕ → Option (List ℕ) → Option (List ℕ)
some_small zero o = none
some_small (suc n) o = o
