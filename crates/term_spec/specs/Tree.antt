-- Trees with any number of parts, and runs of such trees.
use Rattle.std.specs.Prelude.{ℕ, suc, ◌+◌, max}

infixr 5 ◌▹◌
mutual
  pub data Tree (A : Type 0) : Type 0 where
    node : A → Forest A → Tree A

  pub data Forest (A : Type 0) : Type 0 where
    empty : Forest A
    ◌▹◌ : Tree A → Forest A → Forest A

module _ {A : Type 0} where
  infixr 5 ◌▹▹◌
  -- one run after the other
  abbrev pub ◌▹▹◌ : Forest A → Forest A → Forest A
  empty ▹▹ us = us
  (t ▹ ts) ▹▹ us = t ▹ (ts ▹▹ us)

  -- how many trees a run has
  abbrev pub count : Forest A → ℕ
  count empty = 0
  count (t ▹ ts) = suc (count ts)

  -- how many nodes a tree has: a row stands for each
  abbrev mutual
    pub size : Tree A → ℕ
    size (node a ts) = suc (sizes ts)

    pub sizes : Forest A → ℕ
    sizes empty = 0
    sizes (t ▹ ts) = size t + sizes ts

  -- a part is one deeper than its whole; the outermost has depth 1
  abbrev mutual
    pub depth : Tree A → ℕ
    depth (node a ts) = suc (deepest ts)

    pub deepest : Forest A → ℕ
    deepest empty = 0
    deepest (t ▹ ts) = max (depth t) (deepest ts)

-- the same tree with each node's label changed
module _ {A B : Type 0} (f : A → B) where
  abbrev mutual
    pub relabel : Tree A → Tree B
    relabel (node a ts) = node (f a) (relabels ts)

    pub relabels : Forest A → Forest B
    relabels empty = empty
    relabels (t ▹ ts) = relabel t ▹ relabels ts

-- P holds of the label and the parts of each node
module _ {A : Type 0} (P : A → Forest A → Type 0) where
  unfoldable mutual
    pub EachNode : Tree A → Type 0
    EachNode (node a ts) = P a ts × EachNodes ts

    pub EachNodes : Forest A → Type 0
    EachNodes empty = Unit {0}
    EachNodes (t ▹ ts) = EachNode t × EachNodes ts
