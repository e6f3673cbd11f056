-- Room for a run of terms is room for the pairs of each map in it.
use mathlib.Core.Path.{◌≡◌, refl, ap}
use mathlib.Core.List.{List, ◌++◌}
use mathlib.Core.Option.{Option, none, some}
use Prim.Native.Nat.{ℕ, ◌/◌, ◌≤◌}
use native.Mathlib.Omega.{arith}
use lib.ListN.{length, length-append}
use Rattle.term_spec.specs.Tree.{Forest, node, empty, ◌▹◌, count, EachNode, EachNodes}
use Rattle.term_spec.specs.Numbers.{in_bytes}
use Rattle.term_spec.specs.Term.{Label, integer, float, atom, tuple, list, improper_list, binary, bitstring, map, pid, port, reference, export}
use Rattle.term_spec.specs.Canonical.{small, put, all_small, term_bytes, bytes_of, all_bytes}
use Rattle.term_spec.specs.Reading.{Offset, Located, as_read}
use Rattle.term_spec.specs.Message.{Terms, all_as_read}
use Rattle.term_spec.specs.Valid.{Fits}
use Rattle.canonical_fields.specs.Shape.{before, after, some_small}
use Rattle.canonical_fields.proofs.Shape.{canonical_parts}
use Rattle.term_writer.specs.InTable.{Writable}
use Rattle.term_writer.proofs.Strings.{small_is}

-- so much room is enough for the parts, if they are a map's
abbrev pub MapRoom : ℕ → Label × Offset → Terms → Type 0
MapRoom room l ts = l.0 ≡ map → length (all_bytes (all_as_read ts)) ≤ room

-- ---- elements of a string are no maps

put_some : (o : Option ℕ) (q : Option (List ℕ)) (cs : List ℕ) → put o q ≡ some cs → (c : ℕ) × (ds : List ℕ) × (o ≡ some c) × (q ≡ some ds)
put_some none q cs e = let no_way : ◌≡◌ {A = ℕ} 0 1 = cc in absurd (omega arith)
put_some (some c) none cs e = let no_way : ◌≡◌ {A = ℕ} 0 1 = cc in absurd (omega arith)
put_some (some c) (some ds) cs e = (c, ds, refl, refl)

-- an integer is no map, and has no parts
small_leaf : (flags : ℕ) (l : Label) (us : Forest Label) (c : ℕ) → small l ≡ some c → Fits flags l us → (l ≡ map → ⊥) × (us ≡ empty)
unfolding small
small_leaf flags (integer z) us c e f = (λ x. let no_way : ◌≡◌ {A = ℕ} 0 1 = cc in omega arith, f.0)
small_leaf flags (float b) us c e f = let no_way : ◌≡◌ {A = ℕ} 0 1 = cc in absurd (omega arith)
small_leaf flags (atom cs) us c e f = let no_way : ◌≡◌ {A = ℕ} 0 1 = cc in absurd (omega arith)
small_leaf flags tuple us c e f = let no_way : ◌≡◌ {A = ℕ} 0 1 = cc in absurd (omega arith)
small_leaf flags list us c e f = let no_way : ◌≡◌ {A = ℕ} 0 1 = cc in absurd (omega arith)
small_leaf flags improper_list us c e f = let no_way : ◌≡◌ {A = ℕ} 0 1 = cc in absurd (omega arith)
small_leaf flags (binary bs) us c e f = let no_way : ◌≡◌ {A = ℕ} 0 1 = cc in absurd (omega arith)
small_leaf flags (bitstring n bs) us c e f = let no_way : ◌≡◌ {A = ℕ} 0 1 = cc in absurd (omega arith)
small_leaf flags map us c e f = let no_way : ◌≡◌ {A = ℕ} 0 1 = cc in absurd (omega arith)
small_leaf flags (pid i s n) us c e f = let no_way : ◌≡◌ {A = ℕ} 0 1 = cc in absurd (omega arith)
small_leaf flags (port i n) us c e f = let no_way : ◌≡◌ {A = ℕ} 0 1 = cc in absurd (omega arith)
small_leaf flags (reference n ws) us c e f = let no_way : ◌≡◌ {A = ℕ} 0 1 = cc in absurd (omega arith)
small_leaf flags export us c e f = let no_way : ◌≡◌ {A = ℕ} 0 1 = cc in absurd (omega arith)

module _ (m places lengths : List ℕ) (flags room : ℕ) where
  none_roomy : (us : Terms) → all_as_read us ≡ empty → EachNodes (MapRoom room) us
  unfolding EachNode
  none_roomy empty e = tt
  none_roomy (u ▹ us) e = let c : count (all_as_read (u ▹ us)) ≡ 0 = ap count e in absurd (omega arith)

  small_roomy : (ts : Terms) (cs : List ℕ) → all_small (all_as_read ts) ≡ some cs → EachNodes (Writable m places lengths flags) ts → EachNodes (MapRoom room) ts
  unfolding EachNode all_small
  small_roomy empty cs e n = tt
  small_roomy (node l us ▹ ts) cs e n =
      let p = put_some (small l.0) (all_small (all_as_read ts)) cs e in
      let s = small_leaf flags l.0 (all_as_read us) p.0 p.2 n.0.0.fits in
      ((λ x. absurd (s.0 x), none_roomy us s.1), small_roomy ts p.1 p.3 n.1)

  -- ---- parts are no longer than their whole, but for a string's

  map_longer : (us : Forest Label) → length (all_bytes us) ≤ length (bytes_of (node map us))
  unfolding bytes_of term_bytes
  map_longer us = let a = length-append (in_bytes 4 (count us / 2)) (all_bytes us) in omega arith

  parts_longer : (l : Label) (us : Forest Label) → Fits flags l us → some_small (count us) (all_small us) ≡ none → length (all_bytes us) ≤ length (bytes_of (node l us))
  parts_longer l us f e =
      let s = ap length (canonical_parts flags l us f (λ x. e)) in
      let a = length-append (before l (count us)) (all_bytes us ++ after l (count us)) in
      let b = length-append (all_bytes us) (after l (count us)) in
      omega arith

  -- by what the parts are written as; `each` is what room for all of them gives
  parts_roomy : (l : Label) (ts : Terms) → Fits flags l (all_as_read ts) → EachNodes (Writable m places lengths flags) ts → length (bytes_of (node l (all_as_read ts))) ≤ room
      → (length (all_bytes (all_as_read ts)) ≤ room → EachNodes (MapRoom room) ts)
      → (o : Option (List ℕ)) → some_small (count (all_as_read ts)) (all_small (all_as_read ts)) ≡ o → EachNodes (MapRoom room) ts
  parts_roomy l ts f n h each none e = let a = parts_longer l (all_as_read ts) f e in each (omega arith)
  parts_roomy l ts f n h each (some cs) e = small_roomy ts cs (small_is (count (all_as_read ts)) (all_small (all_as_read ts)) cs e) n

  own_room : (l : Label) (us : Forest Label) → length (bytes_of (node l us)) ≤ room → l ≡ map → length (all_bytes us) ≤ room
  own_room l us h e = let a = map_longer us in let b : length (bytes_of (node map us)) ≤ room = rw e at h in omega arith

  mutual
    unfolding EachNode all_bytes

    term_roomy : (t : Located) → EachNode (Writable m places lengths flags) t → length (bytes_of (as_read t)) ≤ room → EachNode (MapRoom room) t
    term_roomy (node l ts) n h = (
      own_room l.0 (all_as_read ts) h,
      parts_roomy l.0 ts n.0.fits n.1 h (λ g. run_roomy ts n.1 g) (some_small (count (all_as_read ts)) (all_small (all_as_read ts))) refl,
    )

    pub run_roomy : (ts : Terms) → EachNodes (Writable m places lengths flags) ts → length (all_bytes (all_as_read ts)) ≤ room → EachNodes (MapRoom room) ts
    run_roomy empty n h = tt
    run_roomy (t ▹ ts) n h =
        let a = length-append (bytes_of (as_read t)) (all_bytes (all_as_read ts)) in
        (term_roomy t n.0 (omega arith), run_roomy ts n.1 (omega arith))
