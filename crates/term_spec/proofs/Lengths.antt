-- The canonical form is as long as the bytes of the term as it stands: the writer can judge the room before it puts any pairs in order.
use mathlib.Core.Path.{◌≡◌, refl, sym, ◌∙◌, ap, ap₂}
use mathlib.Core.Bool.{Bool, true, false, cond}
use mathlib.Core.List.{List, [], ◌∷◌, ◌++◌}
use mathlib.Core.Option.{Option, none, some}
use Prim.Native.Nat.{ℕ, zero, suc, ◌+◌, ◌-◌, ◌/◌, ◌^◌}
use native.Mathlib.Omega.{arith}
use lib.Dec.{leb, ltb}
use lib.ListN.{length, length-append}
use Rattle.term_spec.specs.Tree.{Forest, node, empty, ◌▹◌, count}
use Rattle.term_spec.specs.Numbers.{in_bytes}
use Rattle.term_spec.specs.Term.{Label, Term, integer, float, atom, tuple, list, improper_list, binary, bitstring, map, pid, port, reference, export}
use Rattle.term_spec.specs.Pairs.{Pair, arranged_parts, arranged, all_arranged}
use Rattle.term_spec.specs.Same.{Rearranged, stay, keep, swap, chain}
use Rattle.term_spec.specs.Canonical.{tuple_bytes, port_bytes, words_bytes, small, put, all_small, list_bytes, term_bytes, bytes_of, all_bytes, key_before, canonical}
use Rattle.term_spec.proofs.Pairs.{rearranged_count, Kind, a_map, no_map, kind, order_rearranges, count_arranged}

-- runs of equal length before or after the same bytes
before_same : (a p q : List ℕ) → length p ≡ length q → length (a ++ p) ≡ length (a ++ q)
before_same a p q e = length-append a p ∙ ap (λ (n : ℕ). length a + n) e ∙ sym (length-append a q)

after_same : (a p q : List ℕ) → length p ≡ length q → length (p ++ a) ≡ length (q ++ a)
after_same a p q e = length-append p a ∙ ap (λ (n : ℕ). n + length a) e ∙ sym (length-append q a)

either : (b : Bool) (x y x' y' : List ℕ) → length x ≡ length x' → length y ≡ length y' → length (cond b x y) ≡ length (cond b x' y')
either true x y x' y' e f = e
either false x y x' y' e f = f

list_same : (n : ℕ) (o : Option (List ℕ)) (p q : List ℕ) → length p ≡ length q → length (list_bytes n o p) ≡ length (list_bytes n o q)
unfolding list_bytes
list_same zero o p q e = refl
list_same (suc n) none p q e = ap suc (before_same (in_bytes 4 (suc n)) _ _ (after_same (106 ∷ []) p q e))
list_same (suc n) (some cs) p q e = refl

-- a term's length follows from its label, its number of parts, which of them are small, and the length of their bytes
term_same : (l : Label) (ts us : Forest Label) → count us ≡ count ts → (l ≡ list → all_small us ≡ all_small ts) → (p q : List ℕ) → length p ≡ length q
    → length (term_bytes l us p) ≡ length (term_bytes l ts q)
unfolding term_bytes tuple_bytes port_bytes
term_same (integer z) ts us n s p q e = refl
term_same (float bits) ts us n s p q e = refl
term_same (atom cs) ts us n s p q e = refl
term_same tuple ts us n s p q e = rw n (either (leb (count ts) 255) _ _ _ _ (ap suc (before_same (in_bytes 1 (count ts)) p q e)) (ap suc (before_same (in_bytes 4 (count ts)) p q e)))
term_same list ts us n s p q e = rw (n, s refl) (list_same (count ts) (all_small ts) p q e)
term_same improper_list ts us n s p q e = rw n (ap suc (before_same (in_bytes 4 (count ts - 1)) p q e))
term_same (binary bs) ts us n s p q e = refl
term_same (bitstring bits bs) ts us n s p q e = refl
term_same map ts us n s p q e = rw n (ap suc (before_same (in_bytes 4 (count ts / 2)) p q e))
term_same (pid id serial creation) ts us n s p q e = ap suc (after_same (in_bytes 4 id ++ (in_bytes 4 serial ++ in_bytes 4 creation)) p q e)
term_same (port id creation) ts us n s p q e =
    either (ltb id (2 ^ 28)) _ _ _ _ (ap suc (after_same (in_bytes 4 id ++ in_bytes 4 creation) p q e)) (ap suc (after_same (in_bytes 8 id ++ in_bytes 4 creation) p q e))
term_same (reference creation ws) ts us n s p q e = ap suc (before_same (in_bytes 2 (length ws)) _ _ (after_same (in_bytes 4 creation ++ words_bytes ws) p q e))
term_same export ts us n s p q e = ap suc e

pub rearranged_length : {ts us : Forest Label} → Rearranged ts us → length (all_bytes us) ≡ length (all_bytes ts)
unfolding all_bytes
rearranged_length stay = refl
rearranged_length (keep k v r) = before_same (bytes_of k) _ _ (before_same (bytes_of v) _ _ (rearranged_length r))
rearranged_length (swap k v j w {ts}) =
    four (bytes_of j) (bytes_of w) (bytes_of k) (bytes_of v) (all_bytes ts) ∙ omega arith ∙ sym (four (bytes_of k) (bytes_of v) (bytes_of j) (bytes_of w) (all_bytes ts))
  where
    four : (a b c d x : List ℕ) → length (a ++ (b ++ (c ++ (d ++ x)))) ≡ length a + (length b + (length c + (length d + length x)))
    four a b c d x =
        length-append a _ ∙ ap (λ (n : ℕ). length a + n) (length-append b _ ∙ ap (λ (n : ℕ). length b + n) (length-append c _ ∙ ap (λ (n : ℕ). length c + n) (length-append d x)))
rearranged_length (chain r s) = rearranged_length s ∙ rearranged_length r

module _ (before : Pair → Pair → Bool) where
  small_arranged : (ts : Forest Label) → all_small (all_arranged before ts) ≡ all_small ts
  unfolding arranged all_small
  small_arranged empty = refl
  small_arranged (node l ts ▹ us) = ap (put (small l)) (small_arranged us)

  pub parts_count : (l : Label) (ts : Forest Label) → count (arranged_parts before l ts) ≡ count ts
  unfolding arranged_parts
  parts_count l ts = go (kind l)
    where
      go : {l : Label} → Kind l → count (arranged_parts before l ts) ≡ count ts
      go a_map = rearranged_count (order_rearranges before ts)
      go (no_map stays) = ap count (stays before ts)

  parts_length : (l : Label) (ts : Forest Label) → length (all_bytes (arranged_parts before l ts)) ≡ length (all_bytes ts)
  unfolding arranged_parts
  parts_length l ts = go (kind l)
    where
      go : {l : Label} → Kind l → length (all_bytes (arranged_parts before l ts)) ≡ length (all_bytes ts)
      go a_map = rearranged_length (order_rearranges before ts)
      go (no_map stays) = ap (λ (us : Forest Label). length (all_bytes us)) (stays before ts)

  pub list_small : (l : Label) (ts : Forest Label) → l ≡ list → all_small (arranged_parts before l (all_arranged before ts)) ≡ all_small ts
  unfolding arranged_parts
  list_small l ts e = rw e (small_arranged ts)

  mutual
    unfolding arranged bytes_of

    pub length_arranged : (t : Term) → length (bytes_of (arranged before t)) ≡ length (bytes_of t)
    length_arranged (node l ts) =
        term_same l ts (arranged_parts before l (all_arranged before ts)) (parts_count l (all_arranged before ts) ∙ count_arranged before ts) (list_small l ts)
        (all_bytes (arranged_parts before l (all_arranged before ts))) (all_bytes ts) (parts_length l (all_arranged before ts) ∙ lengths_arranged ts)

    lengths_arranged : (ts : Forest Label) → length (all_bytes (all_arranged before ts)) ≡ length (all_bytes ts)
    lengths_arranged empty = refl
    lengths_arranged (t ▹ ts) =
        length-append (bytes_of (arranged before t)) (all_bytes (all_arranged before ts))
        ∙ ap₂ ◌+◌ (length_arranged t) (lengths_arranged ts) ∙ sym (length-append (bytes_of t) (all_bytes ts))

pub length_canonical : (t : Term) → length (canonical t) ≡ length (bytes_of t)
unfolding canonical
length_canonical t = length_arranged key_before t
