-- The order on terms is total, and equal only where two terms are equal.
use mathlib.Core.Path.{◌≡◌, refl, sym, ◌∙◌, ap, ap₂}
use mathlib.Core.Bool.{Bool, true, false, cond}
use mathlib.Core.List.{List, [], ◌∷◌}
use Prim.Native.Nat.{ℕ, ◌<◌}
use native.Mathlib.Omega.{arith}
use lib.Dec.{eqb}
use lib.IntN.{pos, negsuc}
use lib.ListN.{get_or, drop}
use borrow.Author.Tests.{lt-ltb, le-ltb}
use Rattle.term_spec.specs.Tree.{Forest, node, empty, ◌▹◌}
use Rattle.term_spec.specs.Term.{Label, Term, integer, float, atom, tuple, list, improper_list, binary, bitstring, map, pid, port, reference, export}
use Rattle.term_spec.specs.Order.{Order, less, equal, greater, ◌then◌, not_greater, compare_numbers, compare_lists, numbers_of, compare, compares}
use Rattle.term_spec.proofs.Tests.{by_less, never}

-- the other way round
abbrev pub flipped : Order → Order
flipped less = greater
flipped equal = equal
flipped greater = less

-- what a is to c, where a is so to b and b so to c
abbrev pub Joins : Order → Order → Order → Type 0
Joins less less o = o ≡ less
Joins less equal o = o ≡ less
Joins less greater o = Unit {0}
Joins equal less o = o ≡ less
Joins equal equal o = o ≡ equal
Joins equal greater o = o ≡ greater
Joins greater less o = Unit {0}
Joins greater equal o = o ≡ greater
Joins greater greater o = o ≡ greater

less≢equal : {P : Type 0} → less ≡ equal → P
less≢equal e = never (sym (ap is_less e))
  where
    is_less : Order → Bool
    is_less less = true
    is_less equal = false
    is_less greater = false

less≢greater : {P : Type 0} → less ≡ greater → P
less≢greater e = never (sym (ap not_greater e))

greater≢equal : {P : Type 0} → greater ≡ equal → P
greater≢equal e = less≢equal (ap flipped e)

pub flipped_then : (a b : Order) → flipped (a then b) ≡ (flipped a then flipped b)
flipped_then less b = refl
flipped_then equal b = refl
flipped_then greater b = refl

pub joins_then : (a b c : Order) (x y z : Order) → Joins a b c → Joins x y z → Joins (a then x) (b then y) (c then z)
joins_then less less c x y z j k = ap (λ (o : Order). o then z) j
joins_then less equal c x less z j k = ap (λ (o : Order). o then z) j
joins_then less equal c x equal z j k = ap (λ (o : Order). o then z) j
joins_then less equal c x greater z j k = tt
joins_then less greater c x y z j k = tt
joins_then equal less c less y z j k = ap (λ (o : Order). o then z) j
joins_then equal less c equal y z j k = ap (λ (o : Order). o then z) j
joins_then equal less c greater y z j k = tt
joins_then equal equal c x y z j k = rw j k
joins_then equal greater c less y z j k = tt
joins_then equal greater c equal y z j k = ap (λ (o : Order). o then z) j
joins_then equal greater c greater y z j k = ap (λ (o : Order). o then z) j
joins_then greater less c x y z j k = tt
joins_then greater equal c x less z j k = tt
joins_then greater equal c x equal z j k = ap (λ (o : Order). o then z) j
joins_then greater equal c x greater z j k = ap (λ (o : Order). o then z) j
joins_then greater greater c x y z j k = ap (λ (o : Order). o then z) j

pub then_equal : (a b : Order) → (a then b) ≡ equal → (a ≡ equal) × (b ≡ equal)
then_equal less b e = less≢equal e
then_equal equal b e = (refl, e)
then_equal greater b e = greater≢equal e

less_joins : (o : Order) → Joins less o less
less_joins less = refl
less_joins equal = refl
less_joins greater = tt

greater_joins : (o : Order) → Joins o greater greater
greater_joins less = tt
greater_joins equal = refl
greater_joins greater = refl

-- the test `not_greater` of such an order is total, joins, and holds both ways only where the two are equal
pub either_way : (o o' : Order) → o' ≡ flipped o → not_greater o ≡ false → not_greater o' ≡ true
either_way less o' e f = never (sym f)
either_way equal o' e f = never (sym f)
either_way greater o' e f = ap not_greater e

pub joined_way : (a b c : Order) → Joins a b c → not_greater a ≡ true → not_greater b ≡ true → not_greater c ≡ true
joined_way less less c j x y = ap not_greater j
joined_way less equal c j x y = ap not_greater j
joined_way less greater c j x y = never y
joined_way equal less c j x y = ap not_greater j
joined_way equal equal c j x y = ap not_greater j
joined_way equal greater c j x y = never y
joined_way greater b c j x y = never x

pub both_ways : (o o' : Order) → o' ≡ flipped o → not_greater o ≡ true → not_greater o' ≡ true → o ≡ equal
both_ways less o' e x y = never (sym (ap not_greater e) ∙ y)
both_ways equal o' e x y = refl
both_ways greater o' e x y = never x

-- numbers
pub numbers_less : (m n : ℕ) → m < n → compare_numbers m n ≡ less
unfolding compare_numbers
numbers_less m n h = rw (lt-ltb m n h)

pub numbers_greater : (m n : ℕ) → n < m → compare_numbers m n ≡ greater
unfolding compare_numbers
numbers_greater m n h = rw (le-ltb m n (omega arith), lt-ltb n m h)

pub numbers_same : (m n : ℕ) → m ≡ n → compare_numbers m n ≡ equal
unfolding compare_numbers
numbers_same m n h = rw (le-ltb m n (omega arith), le-ltb n m (omega arith))

pub data Three (m n : ℕ) : Type 0 where
  below : m < n → Three m n
  at : m ≡ n → Three m n
  above : n < m → Three m n

pub three : (m n : ℕ) → Three m n
three m n = by_less m n below (λ h. by_less n m above (λ k. at (omega arith)))

numbers_flipped : (m n : ℕ) → compare_numbers n m ≡ flipped (compare_numbers m n)
numbers_flipped m n = go (three m n)
  where
    go : Three m n → compare_numbers n m ≡ flipped (compare_numbers m n)
    go (below h) = rw (numbers_less m n h, numbers_greater n m h)
    go (at h) = rw (numbers_same m n h, numbers_same n m (sym h))
    go (above h) = rw (numbers_greater m n h, numbers_less n m h)

numbers_join : (m n p : ℕ) → Joins (compare_numbers m n) (compare_numbers n p) (compare_numbers m p)
numbers_join m n p = go (three m n) (three n p)
  where
    go : Three m n → Three n p → Joins (compare_numbers m n) (compare_numbers n p) (compare_numbers m p)
    go (below h) (below k) = rw (numbers_less m n h, numbers_less n p k) (numbers_less m p (omega arith))
    go (below h) (at k) = rw (numbers_less m n h, numbers_same n p k) (numbers_less m p (omega arith))
    go (below h) (above k) = rw (numbers_less m n h, numbers_greater n p k) tt
    go (at h) (below k) = rw (numbers_same m n h, numbers_less n p k) (numbers_less m p (omega arith))
    go (at h) (at k) = rw (numbers_same m n h, numbers_same n p k) (numbers_same m p (omega arith))
    go (at h) (above k) = rw (numbers_same m n h, numbers_greater n p k) (numbers_greater m p (omega arith))
    go (above h) (below k) = rw (numbers_greater m n h, numbers_less n p k) tt
    go (above h) (at k) = rw (numbers_greater m n h, numbers_same n p k) (numbers_greater m p (omega arith))
    go (above h) (above k) = rw (numbers_greater m n h, numbers_greater n p k) (numbers_greater m p (omega arith))

numbers_equal : (m n : ℕ) → compare_numbers m n ≡ equal → m ≡ n
numbers_equal m n e = go (three m n)
  where
    go : Three m n → m ≡ n
    go (below h) = less≢equal (sym (numbers_less m n h) ∙ e)
    go (at h) = h
    go (above h) = greater≢equal (sym (numbers_greater m n h) ∙ e)

-- lists of numbers
pub lists_flipped : (ms ns : List ℕ) → compare_lists ns ms ≡ flipped (compare_lists ms ns)
unfolding compare_lists
lists_flipped [] [] = refl
lists_flipped [] (n ∷ ns) = refl
lists_flipped (m ∷ ms) [] = refl
lists_flipped (m ∷ ms) (n ∷ ns) = ap₂ ◌then◌ (numbers_flipped m n) (lists_flipped ms ns) ∙ sym (flipped_then (compare_numbers m n) (compare_lists ms ns))

pub lists_join : (ms ns ps : List ℕ) → Joins (compare_lists ms ns) (compare_lists ns ps) (compare_lists ms ps)
unfolding compare_lists
lists_join [] [] [] = refl
lists_join [] [] (p ∷ ps) = refl
lists_join [] (n ∷ ns) [] = tt
lists_join [] (n ∷ ns) (p ∷ ps) = less_joins (compare_numbers n p then compare_lists ns ps)
lists_join (m ∷ ms) [] [] = refl
lists_join (m ∷ ms) [] (p ∷ ps) = tt
lists_join (m ∷ ms) (n ∷ ns) [] = greater_joins (compare_numbers m n then compare_lists ms ns)
lists_join (m ∷ ms) (n ∷ ns) (p ∷ ps) =
    joins_then (compare_numbers m n) (compare_numbers n p) (compare_numbers m p) (compare_lists ms ns) (compare_lists ns ps) (compare_lists ms ps)
    (numbers_join m n p) (lists_join ms ns ps)

pub lists_equal : (ms ns : List ℕ) → compare_lists ms ns ≡ equal → ms ≡ ns
unfolding compare_lists
lists_equal [] [] e = refl
lists_equal [] (n ∷ ns) e = less≢equal e
lists_equal (m ∷ ms) [] e = greater≢equal e
lists_equal (m ∷ ms) (n ∷ ns) e =
    let b = then_equal (compare_numbers m n) (compare_lists ms ns) e in
    ap₂ (λ (x : ℕ) (xs : List ℕ). x ∷ xs) (numbers_equal m n b.0) (lists_equal ms ns b.1)

-- a label follows from its numbers
label_from : List ℕ → Label
label_from [] = tuple
label_from (k ∷ ns) =
    cond (eqb k 0) (integer (pos (get_or ns 0 0)))
    (cond (eqb k 1) (integer (negsuc (get_or ns 0 0)))
    (cond (eqb k 2) (float (get_or ns 0 0))
    (cond (eqb k 3) (atom ns)
    (cond (eqb k 4) (tuple)
    (cond (eqb k 5) (list)
    (cond (eqb k 6) (improper_list)
    (cond (eqb k 7) (binary ns)
    (cond (eqb k 8) (bitstring (get_or ns 0 0) (drop 1 ns))
    (cond (eqb k 9) (map)
    (cond (eqb k 10) (pid (get_or ns 0 0) (get_or ns 1 0) (get_or ns 2 0))
    (cond (eqb k 11) (port (get_or ns 0 0) (get_or ns 1 0))
    (cond (eqb k 12) (reference (get_or ns 0 0) (drop 1 ns)) export))))))))))))

from_numbers : (l : Label) → label_from (numbers_of l) ≡ l
unfolding label_from numbers_of
from_numbers (integer (pos n)) = refl
from_numbers (integer (negsuc m)) = refl
from_numbers (float bits) = refl
from_numbers (atom cs) = refl
from_numbers tuple = refl
from_numbers list = refl
from_numbers improper_list = refl
from_numbers (binary bs) = refl
from_numbers (bitstring bits bs) = refl
from_numbers map = refl
from_numbers (pid id serial creation) = refl
from_numbers (port id creation) = refl
from_numbers (reference creation ws) = refl
from_numbers export = refl

pub labels_equal : (l m : Label) → compare_lists (numbers_of l) (numbers_of m) ≡ equal → l ≡ m
labels_equal l m e = sym (from_numbers l) ∙ ap label_from (lists_equal (numbers_of l) (numbers_of m) e) ∙ from_numbers m

-- terms
mutual
  unfolding compare

  pub compare_flipped : (t u : Term) → compare u t ≡ flipped (compare t u)
  compare_flipped (node l ts) (node m us) =
      ap₂ ◌then◌ (lists_flipped (numbers_of l) (numbers_of m)) (compares_flipped ts us)
      ∙ sym (flipped_then (compare_lists (numbers_of l) (numbers_of m)) (compares ts us))

  compares_flipped : (ts us : Forest Label) → compares us ts ≡ flipped (compares ts us)
  compares_flipped empty empty = refl
  compares_flipped empty (u ▹ us) = refl
  compares_flipped (t ▹ ts) empty = refl
  compares_flipped (t ▹ ts) (u ▹ us) = ap₂ ◌then◌ (compare_flipped t u) (compares_flipped ts us) ∙ sym (flipped_then (compare t u) (compares ts us))

mutual
  unfolding compare

  pub compare_join : (t u v : Term) → Joins (compare t u) (compare u v) (compare t v)
  compare_join (node l ts) (node m us) (node n vs) =
      joins_then (compare_lists (numbers_of l) (numbers_of m)) (compare_lists (numbers_of m) (numbers_of n)) (compare_lists (numbers_of l) (numbers_of n))
      (compares ts us) (compares us vs) (compares ts vs)
      (lists_join (numbers_of l) (numbers_of m) (numbers_of n)) (compares_join ts us vs)

  compares_join : (ts us vs : Forest Label) → Joins (compares ts us) (compares us vs) (compares ts vs)
  compares_join empty empty empty = refl
  compares_join empty empty (v ▹ vs) = refl
  compares_join empty (u ▹ us) empty = tt
  compares_join empty (u ▹ us) (v ▹ vs) = less_joins (compare u v then compares us vs)
  compares_join (t ▹ ts) empty empty = refl
  compares_join (t ▹ ts) empty (v ▹ vs) = tt
  compares_join (t ▹ ts) (u ▹ us) empty = greater_joins (compare t u then compares ts us)
  compares_join (t ▹ ts) (u ▹ us) (v ▹ vs) =
      joins_then (compare t u) (compare u v) (compare t v) (compares ts us) (compares us vs) (compares ts vs) (compare_join t u v) (compares_join ts us vs)

mutual
  unfolding compare

  pub compare_equal : (t u : Term) → compare t u ≡ equal → t ≡ u
  compare_equal (node l ts) (node m us) e =
      let b = then_equal (compare_lists (numbers_of l) (numbers_of m)) (compares ts us) e in
      ap₂ (λ (x : Label) (xs : Forest Label). node x xs) (labels_equal l m b.0) (compares_equal ts us b.1)

  compares_equal : (ts us : Forest Label) → compares ts us ≡ equal → ts ≡ us
  compares_equal empty empty e = refl
  compares_equal empty (u ▹ us) e = less≢equal e
  compares_equal (t ▹ ts) empty e = greater≢equal e
  compares_equal (t ▹ ts) (u ▹ us) e =
      let b = then_equal (compare t u) (compares ts us) e in
      ap₂ (λ (x : Term) (xs : Forest Label). x ▹ xs) (compare_equal t u b.0) (compares_equal ts us b.1)

self_flipped : (o : Order) → o ≡ flipped o → o ≡ equal
self_flipped less e = less≢greater e
self_flipped equal e = refl
self_flipped greater e = less≢greater (sym e)

pub compare_self : (t : Term) → compare t t ≡ equal
compare_self t = self_flipped (compare t t) (compare_flipped t t)
