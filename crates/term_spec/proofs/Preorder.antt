-- A tree is settled by its nodes in reading order, each with its label and its number of parts: keys can be compared row by row.
use mathlib.Core.Path.{◌≡◌, refl, sym, ◌∙◌, ap, ap₂}
use mathlib.Core.List.{List, [], ◌∷◌, ◌++◌, append_assoc}
use Prim.Native.Nat.{ℕ}
use native.Mathlib.Omega.{arith}
use Rattle.term_spec.specs.Tree.{Tree, Forest, node, empty, ◌▹◌, count}

module _ {A : Type 0} where
  abbrev mutual
    pub nodes : Tree A → List (A × ℕ)
    nodes (node a ts) = (a, count ts) ∷ all_nodes ts

    pub all_nodes : Forest A → List (A × ℕ)
    all_nodes empty = []
    all_nodes (t ▹ ts) = nodes t ++ all_nodes ts

  mutual
    -- where the nodes of two trees begin one list, the trees are equal, and so is what comes after
    pub nodes_prefix : (t u : Tree A) (xs ys : List (A × ℕ)) → nodes t ++ xs ≡ nodes u ++ ys → (t ≡ u) × (xs ≡ ys)
    nodes_prefix (node a ts) (node b us) xs ys e =
        let first : ◌≡◌ {A = A × ℕ} (a, count ts) (b, count us) = cc in
        let rest : all_nodes ts ++ xs ≡ all_nodes us ++ ys = cc in
        let more : (ts ≡ us) × (xs ≡ ys) = all_nodes_prefix ts us xs ys (ap (λ (p : A × ℕ). p.1) first) rest in
        (ap₂ (λ (x : A) (vs : Forest A). node x vs) (ap (λ (p : A × ℕ). p.0) first) more.0, more.1)

    pub all_nodes_prefix : (ts us : Forest A) (xs ys : List (A × ℕ)) → count ts ≡ count us → all_nodes ts ++ xs ≡ all_nodes us ++ ys
        → (ts ≡ us) × (xs ≡ ys)
    all_nodes_prefix empty empty xs ys n e = (refl, e)
    all_nodes_prefix empty (u ▹ us) xs ys n e = absurd (omega arith)
    all_nodes_prefix (t ▹ ts) empty xs ys n e = absurd (omega arith)
    all_nodes_prefix (t ▹ ts) (u ▹ us) xs ys n e =
        let e' : nodes t ++ (all_nodes ts ++ xs) ≡ nodes u ++ (all_nodes us ++ ys)
        = sym (append_assoc (nodes t) (all_nodes ts) xs) ∙ e ∙ append_assoc (nodes u) (all_nodes us) ys in
        let first : (t ≡ u) × (all_nodes ts ++ xs ≡ all_nodes us ++ ys) = nodes_prefix t u (all_nodes ts ++ xs) (all_nodes us ++ ys) e' in
        let more : (ts ≡ us) × (xs ≡ ys) = all_nodes_prefix ts us xs ys (omega arith) first.1 in
        (ap₂ (λ (v : Tree A) (vs : Forest A). v ▹ vs) first.0 more.0, more.1)
