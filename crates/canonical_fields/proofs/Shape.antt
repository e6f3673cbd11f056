-- A term's bytes are what stands before its parts, the parts', and what stands after them; a list of small integers has its own.
use mathlib.Core.Path.{◌≡◌, refl, sym, ap}
use mathlib.Core.Bool.{Bool, true, false, cond}
use mathlib.Core.List.{List, [], ◌∷◌, ◌++◌, append-nil}
use mathlib.Core.Option.{Option, none, some}
use Prim.Native.Nat.{ℕ, zero, suc, ◌^◌}
use native.Mathlib.Omega.{arith}
use lib.Dec.{ltb, leb}
use lib.ListN.{length}
use Rattle.term_spec.specs.Tree.{Forest, node, ◌▹◌, count}
use Rattle.term_spec.specs.Numbers.{in_bytes}
use Rattle.term_spec.specs.Text.{encodes}
use Rattle.term_spec.specs.Term.{Label, integer, float, atom, tuple, list, improper_list, binary, bitstring, map, pid, port, reference, export}
use Rattle.term_spec.specs.Canonical.{integer_bytes, atom_bytes, tuple_bytes, port_bytes, all_small, list_bytes, term_bytes, bytes_of, all_bytes}
use Rattle.term_spec.specs.Valid.{Fits}
use Rattle.canonical_fields.specs.Shape.{list_start, list_end, before, after, some_small}

-- bytes with no parts and nothing after them
alone : (bs : List ℕ) (ts : Forest Label) → ts ≡ Forest.empty → bs ≡ bs ++ (all_bytes ts ++ [])
unfolding all_bytes
alone bs ts e = rw e (sym (append-nil bs))

list_shape : (n : ℕ) (o : Option (List ℕ)) (parts : List ℕ) → some_small n o ≡ none → (n ≡ 0 → parts ≡ []) → list_bytes n o parts ≡ list_start n ++ (parts ++ list_end n)
unfolding list_bytes list_start list_end some_small
list_shape zero o parts e f = ap (λ (p : List ℕ). 106 ∷ (p ++ [])) (sym (f refl))
list_shape (suc n) none parts e f = refl
list_shape (suc n) (some cs) parts e f = absurd (cc)

no_parts : (ts : Forest Label) → count ts ≡ 0 → all_bytes ts ≡ []
unfolding all_bytes
no_parts Forest.empty e = refl
no_parts (t ▹ ts) e = absurd (omega arith)

tuple_shape : (n : ℕ) (parts : List ℕ) → tuple_bytes n parts ≡ tuple_bytes n [] ++ (parts ++ [])
unfolding tuple_bytes
tuple_shape n parts = go (leb n 255)
  where
    go : (z : Bool) → cond z (104 ∷ (in_bytes 1 n ++ parts)) (105 ∷ (in_bytes 4 n ++ parts)) ≡ cond z (104 ∷ (in_bytes 1 n ++ [])) (105 ∷ (in_bytes 4 n ++ [])) ++ (parts ++ [])
    go true = simp append-nil
    go false = simp append-nil

port_shape : (id creation : ℕ) (parts : List ℕ)
    → port_bytes id creation parts ≡ (cond (ltb id (2 ^ 28)) 89 120 ∷ []) ++ (parts ++ (in_bytes (cond (ltb id (2 ^ 28)) 4 8) id ++ in_bytes 4 creation))
unfolding port_bytes
port_shape id creation parts = go (ltb id (2 ^ 28))
  where
    go : (z : Bool) → cond z (89 ∷ (parts ++ (in_bytes 4 id ++ in_bytes 4 creation))) (120 ∷ (parts ++ (in_bytes 8 id ++ in_bytes 4 creation)))
        ≡ (cond z 89 120 ∷ []) ++ (parts ++ (in_bytes (cond z 4 8) id ++ in_bytes 4 creation))
    go true = refl
    go false = refl

pub canonical_parts : (flags : ℕ) (l : Label) (ts : Forest Label) → Fits flags l ts → (l ≡ list → some_small (count ts) (all_small ts) ≡ none)
    → bytes_of (node l ts) ≡ before l (count ts) ++ (all_bytes ts ++ after l (count ts))
unfolding bytes_of term_bytes before after
canonical_parts flags (integer z) ts f s = alone (integer_bytes z) ts f.0
canonical_parts flags (float bits) ts f s = alone (70 ∷ in_bytes 8 bits) ts f.0
canonical_parts flags (atom cs) ts f s = alone (atom_bytes (encodes cs)) ts f.0
canonical_parts flags tuple ts f s = tuple_shape (count ts) (all_bytes ts)
canonical_parts flags list ts f s = list_shape (count ts) (all_small ts) (all_bytes ts) (s refl) (no_parts ts)
canonical_parts flags improper_list ts f s = simp append-nil
canonical_parts flags (binary bs) ts f s = alone (109 ∷ (in_bytes 4 (length bs) ++ bs)) ts f.0
canonical_parts flags (bitstring bits bs) ts f s = alone (77 ∷ (in_bytes 4 (length bs) ++ (in_bytes 1 bits ++ bs))) ts f.0
canonical_parts flags map ts f s = simp append-nil
canonical_parts flags (pid id serial creation) ts f s = refl
canonical_parts flags (port id creation) ts f s = port_shape id creation (all_bytes ts)
canonical_parts flags (reference creation ws) ts f s = refl
canonical_parts flags export ts f s = simp append-nil

pub canonical_string : (ts : Forest Label) (cs : List ℕ) → some_small (count ts) (all_small ts) ≡ some cs
    → bytes_of (node list ts) ≡ 107 ∷ (in_bytes 2 (count ts) ++ cs)
unfolding bytes_of term_bytes list_bytes some_small
canonical_string ts cs e = go (count ts) (all_small ts) e
  where
    go : (n : ℕ) (o : Option (List ℕ)) → some_small n o ≡ some cs → list_bytes n o (all_bytes ts) ≡ 107 ∷ (in_bytes 2 n ++ cs)
    go zero o e = absurd (cc)
    go (suc n) none e = absurd (cc)
    go (suc n) (some ds) e = let same : ds ≡ cs = cc in ap (λ (l : List ℕ). 107 ∷ (in_bytes 2 (suc n) ++ l)) same
