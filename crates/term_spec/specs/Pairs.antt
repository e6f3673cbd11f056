-- The pairs of maps put in an order. A map's parts are the first key, its value, the second key, its value, ..
use Rattle.std.specs.Prelude.{◌≡◌, Bool, true, false}
use Rattle.term_spec.specs.Tree.{Forest, node, empty, ◌▹◌}
use Rattle.term_spec.specs.Term.{Label, Term, integer, float, atom, tuple, list, improper_list, binary, bitstring, map, pid, port, reference, export}

-- a key and its value
abbrev pub Pair : Type 0
Pair = Term × Term

-- with a test whether the first of two pairs may stand before the second:
module _ (before : Pair → Pair → Bool) where
  -- a pair put into a run of pairs that are in order, before the first that it may stand before
  unfoldable mutual
    pub put_in : Pair → Forest Label → Forest Label
    put_in p empty = p.0 ▹ p.1 ▹ empty
    put_in p (k ▹ ts) = put_near p k ts

    pub put_near : Pair → Term → Forest Label → Forest Label
    put_near p k empty = p.0 ▹ p.1 ▹ k ▹ empty
    put_near p k (v ▹ ts) = elim (before p (k, v)) [ true ↦ p.0 ▹ p.1 ▹ k ▹ v ▹ ts | false ↦ k ▹ v ▹ put_in p ts ]

  -- the pairs of a run, put in order one by one
  unfoldable mutual
    pub in_order : Forest Label → Forest Label
    in_order empty = empty
    in_order (k ▹ ts) = with_value k ts

    pub with_value : Term → Forest Label → Forest Label
    with_value k empty = k ▹ empty
    with_value k (v ▹ ts) = put_in (k, v) (in_order ts)

  -- the parts of a term with that label: a map's are put in order, all others stay
  unfoldable pub arranged_parts : Label → Forest Label → Forest Label
  arranged_parts (integer z) ts = ts
  arranged_parts (float bits) ts = ts
  arranged_parts (atom cs) ts = ts
  arranged_parts tuple ts = ts
  arranged_parts list ts = ts
  arranged_parts improper_list ts = ts
  arranged_parts (binary bs) ts = ts
  arranged_parts (bitstring bits bs) ts = ts
  arranged_parts map ts = in_order ts
  arranged_parts (pid id serial creation) ts = ts
  arranged_parts (port id creation) ts = ts
  arranged_parts (reference creation ws) ts = ts
  arranged_parts export ts = ts

  -- a term with the pairs of each of its maps put in order, at any depth, the inmost first
  unfoldable mutual
    pub arranged : Term → Term
    arranged (node l ts) = node l (arranged_parts l (all_arranged ts))

    pub all_arranged : Forest Label → Forest Label
    all_arranged empty = empty
    all_arranged (t ▹ ts) = arranged t ▹ all_arranged ts

-- ---- For proofs and inner functions alone: no promise of a public call and no demand cites what follows.

-- runs of pairs in which each may stand before the next
module _ (before : Pair → Pair → Bool) where
  abbrev mutual
    pub Next : Pair → Forest Label → Type 0
    Next p empty = Unit {0}
    Next p (k ▹ ts) = NextValue p k ts

    pub NextValue : Pair → Term → Forest Label → Type 0
    NextValue p k empty = Unit {0}
    NextValue p k (v ▹ ts) = before p (k, v) ≡ true

  abbrev mutual
    pub Rising : Forest Label → Type 0
    Rising empty = Unit {0}
    Rising (k ▹ ts) = RisingValue k ts

    pub RisingValue : Term → Forest Label → Type 0
    RisingValue k empty = Unit {0}
    RisingValue k (v ▹ ts) = Next (k, v) ts × Rising ts
