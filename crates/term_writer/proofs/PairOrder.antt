-- The order of pairs: what holds of a pair that a slot names, and that the pairs so listed are those of the canonical form.
use mathlib.Core.Path.{◌≡◌}
use mathlib.Core.List.{List, []}
use Prim.Native.Nat.{ℕ, ◌+◌, ◌≤◌}
use native.Mathlib.Omega.{arith}
use Rattle.term_spec.specs.Tree.{node, empty, ◌▹◌, size, sizes, EachNode, EachNodes}
use Rattle.term_spec.specs.Reading.{Located, as_read}
use Rattle.term_spec.specs.Message.{Terms, all_as_read}
use Rattle.term_spec.specs.Pairs.{in_order, all_arranged}
use Rattle.term_spec.specs.Canonical.{key_before}
use Rattle.term_spec.specs.Valid.{Valid, Valids, Keys}
use Rattle.term_spec.proofs.Words.{left_here}
use Rattle.term_spec.proofs.Pairs.{all_arranged_rearranges}
use Rattle.term_spec.proofs.Arranged.{keys_arranged, valids_arranged}
use Rattle.term_spec.proofs.Canonical.{only_order}
use Rattle.term_writer.specs.InTable.{Writable, TermInTable, RunInTable}
use Rattle.term_writer.specs.PairOrder.{PairAt, the_first, a_later, PairsOrdered, Ordered, AllOrdered}
use Rattle.term_writer.proofs.InTable.{run_first, run_others}

-- ---- a term whose maps are ordered from its own row on is ordered whole
module _ (R : List ℕ) (least : ℕ) where
  mutual
    unfolding Ordered

    pub ordered_least : (row : ℕ) (t : Located) → least ≤ row → Ordered R least row t → Ordered R 0 row t
    ordered_least row (node l ts) from h = (λ z e n. h.0 from e n, all_ordered_least (row + 1) ts (omega arith) h.1)

    pub all_ordered_least : (row : ℕ) (ts : Terms) → least ≤ row → AllOrdered R least row ts → AllOrdered R 0 row ts
    all_ordered_least row empty from h = tt
    all_ordered_least row (t ▹ ts) from h = (ordered_least row t from h.0, all_ordered_least (row + size t) ts (omega arith) h.1)

-- ---- a pair of a run, by its key's row

-- its key and its value stand in the table, within the run's rows
pub record PairHeld (m places lengths T : List ℕ) (row : ℕ) (ts : Terms) (r : ℕ) (k v : Located) : Type 0 where
  pub pair_run : RunInTable m places lengths T r (k ▹ v ▹ empty)
  pub pair_key : TermInTable m places lengths T r k
  pub pair_value : TermInTable m places lengths T (r + size k) v
  pub pair_from : row ≤ r
  pub pair_to : r + size k + size v ≤ row + sizes ts

module _ {m places lengths T : List ℕ} where
  -- the first pair of a run
  first_pair : {row : ℕ} {k v : Located} {ts : Terms} → RunInTable m places lengths T row (k ▹ v ▹ ts) → RunInTable m places lengths T row (k ▹ v ▹ empty)
  unfolding EachNode
  first_pair {row} {k} {v} {ts} h =
      let f : row + (size k + (size v + sizes ts)) ≤ 8192 = h.run_few in
      record {
        run_whole = h.run_whole;
        run_above = h.run_above;
        run_stands = left_here (k ▹ v ▹ empty) ts h.run_stands;
        run_few = omega arith;
        run_flags = h.run_flags;
        run_nodes = (h.run_nodes.0, (h.run_nodes.1.0, tt));
      }

  pub pair_held : {row r : ℕ} {ts : Terms} {k v : Located} → PairAt row ts r k v → RunInTable m places lengths T row ts → PairHeld m places lengths T row ts r k v
  pair_held (the_first {row} {k} {v} {ts}) h =
      record { pair_run = first_pair h; pair_key = run_first h; pair_value = run_first (run_others h); pair_from = omega arith; pair_to = omega arith }
  pair_held (a_later {row} {r} {k} {v} {j} {w} {ts} p) h =
      let i = pair_held p (run_others (run_others h)) in
      let from : row + size k + size v ≤ r = i.pair_from in
      let to : r + size j + size w ≤ row + size k + size v + sizes ts = i.pair_to in
      record { pair_run = i.pair_run; pair_key = i.pair_key; pair_value = i.pair_value; pair_from = omega arith; pair_to = omega arith }

-- the maps in it are ordered where those of the run are
module _ (R : List ℕ) (least : ℕ) where
  pub pair_ordered : {row r : ℕ} {ts : Terms} {k v : Located} → PairAt row ts r k v → AllOrdered R least row ts → Ordered R least r k × Ordered R least (r + size k) v
  unfolding Ordered
  pair_ordered the_first h = (h.0, h.1.0)
  pair_ordered (a_later p) h = pair_ordered p h.1.1

  pub pair_run_ordered : {row r : ℕ} {ts : Terms} {k v : Located} → PairAt row ts r k v → AllOrdered R least row ts → AllOrdered R least r (k ▹ v ▹ empty)
  unfolding Ordered
  pair_run_ordered p h = let o = pair_ordered p h in (o.0, (o.1, tt))

-- ---- terms that can be written are valid
module _ (m places lengths : List ℕ) (flags : ℕ) where
  mutual
    unfolding EachNode

    pub writable_valid : (t : Located) → EachNode (Writable m places lengths flags) t → Valid flags (as_read t)
    writable_valid (node l ts) h = (h.0.fits, writable_valids ts h.1)

    pub writable_valids : (ts : Terms) → EachNodes (Writable m places lengths flags) ts → Valids flags (all_as_read ts)
    writable_valids empty h = tt
    writable_valids (t ▹ ts) h = (writable_valid t h.0, writable_valids ts h.1)

-- ---- the pairs that the slots list are those of the canonical form
pub pairs_sorted : (flags : ℕ) {R : List ℕ} {row : ℕ} {ts : Terms} (p : PairsOrdered R row ts) → Keys [] (all_as_read ts) → Valids flags (all_as_read ts)
    → in_order key_before (all_arranged key_before (all_as_read ts)) ≡ all_arranged key_before (all_as_read p.sorted)
pairs_sorted flags {ts = ts} p ks vs =
    only_order flags (all_arranged_rearranges key_before p.same_pairs) [] (keys_arranged key_before [] (all_as_read ts) ks) (valids_arranged key_before flags (all_as_read ts) vs) p.rises
