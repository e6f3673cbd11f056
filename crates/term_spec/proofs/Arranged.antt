-- A valid term stays valid, whatever order its maps' pairs are put in.
use mathlib.Core.Path.{◌≡◌, refl, sym, ◌∙◌, ap}
use mathlib.Core.Bool.{Bool, true, false, ◌||◌}
use mathlib.Core.List.{List, [], ◌∷◌}
use Prim.Native.Nat.{ℕ}
use Rattle.term_spec.specs.Tree.{Forest, node, empty, ◌▹◌}
use Rattle.term_spec.specs.Term.{Label, Term, integer, float, atom, tuple, list, improper_list, binary, bitstring, map, pid, port, reference, export}
use Rattle.term_spec.specs.Pairs.{Pair, arranged_parts, arranged, all_arranged}
use Rattle.term_spec.specs.Meaning.{ordered}
use Rattle.term_spec.specs.Same.{Rearranged, stay, keep, swap, chain}
use Rattle.term_spec.specs.Order.{Order, less, equal, greater, is_equal, compare}
use Rattle.term_spec.specs.Equal.{same, among}
use Rattle.term_spec.specs.Valid.{Fits, Valid, Valids, Keys, Values, Improper, OneAtom}
use Rattle.term_spec.proofs.Tests.{never}
use Rattle.term_spec.proofs.Order.{compare_equal, compare_self}
use Rattle.term_spec.proofs.Pairs.{rearranged_count, Kind, a_map, no_map, kind, order_rearranges, count_arranged}
use Rattle.term_spec.proofs.Same.{ordered_arranged}

-- the test `same` says whether two terms are equal
pub same_true : (t u : Term) → same t u ≡ true → t ≡ u
unfolding same
same_true t u e = go (compare t u) refl e
  where
    go : (o : Order) → compare t u ≡ o → is_equal o ≡ true → t ≡ u
    go less f g = never g
    go equal f g = compare_equal t u f
    go greater f g = never g

pub same_equal : (t u : Term) → t ≡ u → same t u ≡ true
unfolding same
same_equal t u e = ap is_equal (ap (λ (x : Term). compare x u) e ∙ compare_self u)

same_turned : (t u : Term) → same t u ≡ false → same u t ≡ false
same_turned t u e = go (same u t) refl
  where
    go : (b : Bool) → same u t ≡ b → b ≡ false
    go false f = refl
    go true f = never (sym e ∙ same_equal t u (sym (same_true u t f)))

neither : (a b : Bool) → (a || b) ≡ false → (a ≡ false) × (b ≡ false)
neither true b e = never (sym e)
neither false b e = (refl, e)

or_swap : (a b c : Bool) → (a || (b || c)) ≡ (b || (a || c))
or_swap true true c = refl
or_swap true false c = refl
or_swap false true c = refl
or_swap false false c = refl

-- which keys came earlier counts, and not their order
abbrev Alike : List Term → List Term → Type 0
Alike e f = (t : Term) → among t e ≡ among t f

mutual
  unfolding among

  keys_alike : (e f : List Term) → Alike e f → (ts : Forest Label) → Keys e ts → Keys f ts
  keys_alike e f a empty ok = tt
  keys_alike e f a (k ▹ ts) ok =
      (sym (a (ordered k)) ∙ ok.0, values_alike (ordered k ∷ e) (ordered k ∷ f) (λ t. ap (λ (b : Bool). same t (ordered k) || b) (a t)) ts ok.1)

  values_alike : (e f : List Term) → Alike e f → (ts : Forest Label) → Values e ts → Values f ts
  values_alike e f a empty ok = absurd ok
  values_alike e f a (v ▹ ts) ok = keys_alike e f a ts ok

pub keys_rearranged : {ts us : Forest Label} → Rearranged ts us → (e : List Term) → Keys e ts → Keys e us
unfolding among
keys_rearranged stay e ok = ok
keys_rearranged (keep k v r) e ok = (ok.0, keys_rearranged r (ordered k ∷ e) ok.1)
keys_rearranged (swap k v j w {ts}) e ok =
    let apart = neither (same (ordered j) (ordered k)) (among (ordered j) e) ok.1.0 in
    let turned : same (ordered k) (ordered j) ≡ false = same_turned (ordered j) (ordered k) apart.0 in (
      apart.1,
      (
        ap (λ (b : Bool). b || among (ordered k) e) turned ∙ ok.0,
        keys_alike (ordered j ∷ ordered k ∷ e) (ordered k ∷ ordered j ∷ e) (λ t. or_swap (same t (ordered j)) (same t (ordered k)) (among t e)) ts ok.1.1,
      ),
    )
keys_rearranged (chain r s) e ok = keys_rearranged s e (keys_rearranged r e ok)

pub valids_rearranged : (flags : ℕ) {ts us : Forest Label} → Rearranged ts us → Valids flags ts → Valids flags us
valids_rearranged flags stay ok = ok
valids_rearranged flags (keep k v r) ok = (ok.0, (ok.1.0, valids_rearranged flags r ok.1.1))
valids_rearranged flags (swap k v j w) ok = (ok.1.1.0, (ok.1.1.1.0, (ok.0, (ok.1.0, ok.1.1.1.1))))
valids_rearranged flags (chain r s) ok = valids_rearranged flags s (valids_rearranged flags r ok)

module _ (before : Pair → Pair → Bool) where
  mutual
    unfolding arranged

    pub keys_arranged : (e : List Term) (ts : Forest Label) → Keys e ts → Keys e (all_arranged before ts)
    keys_arranged e empty ok = tt
    keys_arranged e (k ▹ ts) ok = rw (ordered_arranged before k) (ok.0, values_arranged (ordered k ∷ e) ts ok.1)

    values_arranged : (e : List Term) (ts : Forest Label) → Values e ts → Values e (all_arranged before ts)
    values_arranged e empty ok = absurd ok
    values_arranged e (v ▹ ts) ok = keys_arranged e ts ok

  improper_arranged : (ts : Forest Label) → Improper ts → Improper (all_arranged before ts)
  unfolding arranged
  improper_arranged empty h = absurd h
  improper_arranged (t ▹ empty) h = absurd h
  improper_arranged (t ▹ node l us ▹ empty) h = h
  improper_arranged (t ▹ u ▹ v ▹ ts) h = improper_arranged (u ▹ v ▹ ts) h

  atom_arranged : (ts : Forest Label) → OneAtom ts → OneAtom (all_arranged before ts)
  unfolding arranged arranged_parts
  atom_arranged ts h = (h.0, ap (all_arranged before) h.1)

  empty_arranged : (ts : Forest Label) → ts ≡ empty → all_arranged before ts ≡ empty
  unfolding arranged
  empty_arranged ts e = ap (all_arranged before) e

  fits_arranged : (flags : ℕ) (l : Label) (ts : Forest Label) → Fits flags l ts → Fits flags l (arranged_parts before l (all_arranged before ts))
  unfolding arranged_parts arranged
  fits_arranged flags (integer z) ts f = (empty_arranged ts f.0, f.1)
  fits_arranged flags (float bits) ts f = (empty_arranged ts f.0, f.1, f.2)
  fits_arranged flags (atom cs) ts f = (empty_arranged ts f.0, f.1, f.2)
  fits_arranged flags tuple ts f = rw (count_arranged before ts) f
  fits_arranged flags list ts f = rw (count_arranged before ts) f
  fits_arranged flags improper_list ts f = (rw (count_arranged before ts) f.0, improper_arranged ts f.1)
  fits_arranged flags (binary bs) ts f = (empty_arranged ts f.0, f.1)
  fits_arranged flags (bitstring bits bs) ts f = (empty_arranged ts f.0, f.1, f.2, f.3, f.4)
  fits_arranged flags map ts f = (
    rw (rearranged_count (order_rearranges before (all_arranged before ts)), count_arranged before ts) f.0,
    keys_rearranged (order_rearranges before (all_arranged before ts)) [] (keys_arranged [] ts f.1),
  )
  fits_arranged flags (pid id serial creation) ts f = (atom_arranged ts f.0, f.1, f.2, f.3)
  fits_arranged flags (port id creation) ts f = (atom_arranged ts f.0, f.1, f.2)
  fits_arranged flags (reference creation ws) ts f = (atom_arranged ts f.0, f.1, f.2, f.3, f.4)
  fits_arranged flags export ts f = (f.0, f.1, f.2, f.3, ap (all_arranged before) f.4)

  valids_parts : (flags : ℕ) (l : Label) (ts : Forest Label) → Valids flags ts → Valids flags (arranged_parts before l ts)
  unfolding arranged_parts
  valids_parts flags l ts ok = go (kind l)
    where
      go : {l : Label} → Kind l → Valids flags (arranged_parts before l ts)
      go a_map = valids_rearranged flags (order_rearranges before ts) ok
      go (no_map stays) = rw (stays before ts) ok

  mutual
    unfolding arranged

    pub valid_arranged : (flags : ℕ) (t : Term) → Valid flags t → Valid flags (arranged before t)
    valid_arranged flags (node l ts) ok = (fits_arranged flags l ts ok.0, valids_parts flags l (all_arranged before ts) (valids_arranged flags ts ok.1))

    pub valids_arranged : (flags : ℕ) (ts : Forest Label) → Valids flags ts → Valids flags (all_arranged before ts)
    valids_arranged flags empty ok = tt
    valids_arranged flags (t ▹ ts) ok = (valid_arranged flags t ok.0, valids_arranged flags ts ok.1)
