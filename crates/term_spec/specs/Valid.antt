-- Which trees are terms, whatever order their pairs stand in: what an accepted reading gives, and all that its canonical form needs.
-- For proofs alone: no promise of a public call and no demand cites it.
use Rattle.std.specs.Prelude.{◌≡◌, true, false, List, [], ◌∷◌, ℕ, suc, ◌^◌, ◌≤◌, ◌<◌, ℤ, pos, negsuc, length}
use Rattle.term_spec.specs.Tree.{Forest, node, empty, ◌▹◌, count}
use Rattle.term_spec.specs.Numbers.{digits, Under}
use Rattle.term_spec.specs.Term.{Label, Term, integer, float, atom, tuple, list, improper_list, binary, bitstring, map, pid, port, reference, export}
use Rattle.term_spec.specs.Meaning.{ordered}
use Rattle.term_spec.specs.Equal.{among}
use Rattle.term_spec.specs.Head.{limits, finite, bits_rule, bits_meaning}
use Rattle.term_spec.specs.Text.{Characters}

-- a whole number without its sign
abbrev pub magnitude : ℤ → ℕ
magnitude (pos n) = n
magnitude (negsuc m) = suc m

-- a list, proper or improper
abbrev pub IsList : Label → Type 0
IsList (integer z) = ⊥
IsList (float b) = ⊥
IsList (atom cs) = ⊥
IsList tuple = ⊥
IsList list = Unit {0}
IsList improper_list = Unit {0}
IsList (binary bs) = ⊥
IsList (bitstring n bs) = ⊥
IsList map = ⊥
IsList (pid i s c) = ⊥
IsList (port i c) = ⊥
IsList (reference c ws) = ⊥
IsList export = ⊥

-- one or more elements, and then a tail that is no list
abbrev pub Improper : Forest Label → Type 0
Improper empty = ⊥
Improper (t ▹ empty) = ⊥
Improper (t ▹ node l us ▹ empty) = ¬ IsList l
Improper (t ▹ u ▹ v ▹ ts) = Improper (u ▹ v ▹ ts)

-- keys, each with another meaning than those before it, and values
abbrev mutual
  pub Keys : List Term → Forest Label → Type 0
  Keys earlier empty = Unit {0}
  Keys earlier (k ▹ ts) = (among (ordered k) earlier ≡ false) × Values (ordered k ∷ earlier) ts

  pub Values : List Term → Forest Label → Type 0
  Values earlier empty = ⊥
  Values earlier (v ▹ ts) = Keys earlier ts

-- one part, an atom
abbrev pub OneAtom : Forest Label → Type 0
OneAtom ts = (cs : List ℕ) × (ts ≡ node (atom cs) empty ▹ empty)

-- what holds of a term's own fields and of its parts, by its label, with the connection's flags. The limits are those of tags 88 and 90, which the canonical form has
abbrev pub Fits : ℕ → Label → Forest Label → Type 0
Fits flags (integer z) ts = (ts ≡ empty) × (length (digits (magnitude z)) < 2 ^ 32)
Fits flags (float bits) ts = (ts ≡ empty) × (bits < 2 ^ 64) × (finite bits ≡ true)
Fits flags (atom cs) ts = (ts ≡ empty) × Characters cs × (length cs ≤ 255)
Fits flags tuple ts = count ts < 2 ^ 32
Fits flags list ts = count ts ≤ 8191
Fits flags improper_list ts = (count ts ≤ 8191) × Improper ts
Fits flags (binary bs) ts = (ts ≡ empty) × (length bs < 2 ^ 32)
Fits flags (bitstring bits bs) ts = (ts ≡ empty) × (length bs < 2 ^ 32) × (bits < 256) × (bits_rule (length bs) bits ≡ true) × (bits_meaning bits bs ≡ bitstring bits bs)
Fits flags map ts = (count ts < 2 ^ 33) × Keys [] ts
Fits flags (pid id serial creation) ts = OneAtom ts × (id < (limits flags 4).id) × (serial < (limits flags 4).serial) × (creation < 2 ^ 32)
Fits flags (port id creation) ts = OneAtom ts × (id < 2 ^ 64) × (creation < 2 ^ 32)
Fits flags (reference creation ws) ts = OneAtom ts × (creation < 2 ^ 32) × (1 ≤ length ws) × (length ws ≤ (limits flags 4).word_count) × Under (2 ^ 32) ws
Fits flags export ts =
    (m : List ℕ) × (f : List ℕ) × (a : ℕ) × (a < 256) × (ts ≡ node (atom m) empty ▹ node (atom f) empty ▹ node (integer (pos a)) empty ▹ empty)

-- each term of the tree has a label that fits
abbrev mutual
  pub Valid : ℕ → Term → Type 0
  Valid flags (node l ts) = Fits flags l ts × Valids flags ts

  pub Valids : ℕ → Forest Label → Type 0
  Valids flags empty = Unit {0}
  Valids flags (t ▹ ts) = Valid flags t × Valids flags ts
