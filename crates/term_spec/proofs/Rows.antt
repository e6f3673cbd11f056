-- How many rows terms have, and where the rows of their parts stand.
use mathlib.Core.Path.{◌≡◌, refl, sym, ◌∙◌, ap, ap₂}
use mathlib.Core.List.{List, ◌++◌, append_assoc}
use mathlib.Core.Option.{Option, some}
use Prim.Native.Nat.{ℕ, suc, ◌+◌, ◌≤◌, ◌<◌}
use native.Mathlib.Omega.{arith}
use lib.ListN.{length, length-append}
use Rattle.term_spec.specs.Tree.{Tree, Forest, node, empty, ◌▹◌, ◌▹▹◌, count, size, sizes, relabel, relabels, EachNode, EachNodes}
use Rattle.term_spec.specs.Reading.{Located, as_read, meaning}
use Rattle.term_spec.specs.Message.{Terms, all_as_read, meanings}
use Rattle.term_spec.specs.Meaning.{pair_before}
use Rattle.term_spec.specs.Rows.{Row, tree_rows, rows}
use Rattle.term_spec.proofs.Pairs.{size_arranged, sizes_arranged}

-- new labels change no number of nodes and no number of trees
module _ {A B : Type 0} (f : A → B) where
  mutual
    pub size_relabel : (t : Tree A) → size (relabel f t) ≡ size t
    size_relabel (node a ts) = ap suc (sizes_relabels ts)

    pub sizes_relabels : (ts : Forest A) → sizes (relabels f ts) ≡ sizes ts
    sizes_relabels empty = refl
    sizes_relabels (t ▹ ts) = ap₂ ◌+◌ (size_relabel t) (sizes_relabels ts)

  pub count_relabels : (ts : Forest A) → count (relabels f ts) ≡ count ts
  count_relabels empty = refl
  count_relabels (t ▹ ts) = ap suc (count_relabels ts)

pub size_as_read : (t : Located) → size (as_read t) ≡ size t
size_as_read t = size_relabel (λ l. l.0) t

pub sizes_as_read : (ts : Terms) → sizes (all_as_read ts) ≡ sizes ts
sizes_as_read ts = sizes_relabels (λ l. l.0) ts

pub size_meaning : (t : Located) → size (meaning t) ≡ size t
size_meaning t = size_arranged pair_before (as_read t) ∙ size_as_read t

pub sizes_meanings : (ts : Terms) → sizes (meanings ts) ≡ sizes ts
sizes_meanings ts = sizes_arranged pair_before (all_as_read ts) ∙ sizes_as_read ts

-- one run after the other
module _ {A : Type 0} where
  pub sizes_join : (ts us : Forest A) → sizes (ts ▹▹ us) ≡ sizes ts + sizes us
  sizes_join empty us = omega arith
  sizes_join (t ▹ ts) us = omega (arith, sizes_join ts us)

  pub count_join : (ts us : Forest A) → count (ts ▹▹ us) ≡ count ts + count us
  count_join empty us = omega arith
  count_join (t ▹ ts) us = omega (arith, count_join ts us)

  pub size_positive : (t : Tree A) → 1 ≤ size t
  size_positive (node a ts) = omega arith

  pub count_le_sizes : (ts : Forest A) → count ts ≤ sizes ts
  count_le_sizes empty = omega arith
  count_le_sizes (t ▹ ts) = omega (arith, size_positive t, count_le_sizes ts)

module _ {A : Type 0} where
  mutual
    unfolding EachNode

    -- a node has fewer parts than the whole tree has nodes
    pub fewer_parts : (t : Tree A) (n : ℕ) → size t ≤ n → EachNode (λ a ts. count ts < n) t
    fewer_parts (node a ts) n h = (omega (arith, count_le_sizes ts), fewer_parts_each ts n (omega arith))

    pub fewer_parts_each : (ts : Forest A) (n : ℕ) → sizes ts ≤ n → EachNodes (λ a us. count us < n) ts
    fewer_parts_each empty n h = tt
    fewer_parts_each (t ▹ ts) n h = (fewer_parts t n (omega arith), fewer_parts_each ts n (omega arith))

  -- what follows at each node from what holds at each
  module _ (P Q : A → Forest A → Type 0) (from : (a : A) (ts : Forest A) → P a ts → Q a ts) where
    mutual
      unfolding EachNode

      pub each_node_map : (t : Tree A) → EachNode P t → EachNode Q t
      each_node_map (node a ts) h = (from a ts h.0, each_nodes_map ts h.1)

      pub each_nodes_map : (ts : Forest A) → EachNodes P ts → EachNodes Q ts
      each_nodes_map empty h = tt
      each_nodes_map (t ▹ ts) h = (each_node_map t h.0, each_nodes_map ts h.1)

  pub each_nodes_join : (P : A → Forest A → Type 0) (ts us : Forest A) → EachNodes P ts → EachNodes P us → EachNodes P (ts ▹▹ us)
  unfolding EachNode
  each_nodes_join P empty us h g = g
  each_nodes_join P (t ▹ ts) us h g = (h.0, each_nodes_join P ts us h.1 g)

mutual
  unfolding tree_rows

  -- a row for each node
  pub length_tree_rows : (whole : Option ℕ) (n : ℕ) (t : Located) → length (tree_rows whole n t) ≡ size t
  length_tree_rows whole n (node l ts) = ap suc (length_rows (some n) (n + 1) ts)

  pub length_rows : (whole : Option ℕ) (n : ℕ) (ts : Terms) → length (rows whole n ts) ≡ sizes ts
  length_rows whole n empty = refl
  length_rows whole n (t ▹ ts) =
      length-append (tree_rows whole n t) (rows whole (n + size t) ts)
      ∙ ap₂ ◌+◌ (length_tree_rows whole n t) (length_rows whole (n + size t) ts)

-- the number of rows follows from the meaning
pub rows_of_meanings : (whole : Option ℕ) (n : ℕ) (ts : Terms) → length (rows whole n ts) ≡ sizes (meanings ts)
rows_of_meanings whole n ts = length_rows whole n ts ∙ sym (sizes_meanings ts)

pub rows_join : (whole : Option ℕ) (n : ℕ) (ts us : Terms) → rows whole n (ts ▹▹ us) ≡ rows whole n ts ++ rows whole (n + sizes ts) us
unfolding rows
rows_join whole n empty us = let e : n ≡ n + 0 = omega arith in ap (λ (k : ℕ). rows whole k us) e
rows_join whole n (t ▹ ts) us =
    let e : n + size t + sizes ts ≡ n + (size t + sizes ts) = omega arith in
    ap (λ (rs : List Row). tree_rows whole n t ++ rs)
    (rows_join whole (n + size t) ts us
    ∙ ap (λ (k : ℕ). rows whole (n + size t) ts ++ rows whole k us) e)
    ∙ sym (append_assoc (tree_rows whole n t) (rows whole (n + size t) ts) (rows whole (n + (size t + sizes ts)) us))
