-- Maps have no order: `MapsHaveNoOrder`, at the end. Before it: when two terms are the same but for the order of pairs.
use Rattle.std.specs.Prelude.{◌≡◌, ◌↔◌}
use Rattle.term_spec.specs.Tree.{Forest, node, empty, ◌▹◌}
use Rattle.term_spec.specs.Term.{Label, Term, map}
use Rattle.term_spec.specs.Meaning.{ordered}
use Rattle.term_spec.specs.Reading.{Located, as_read, meaning}

-- the same pairs in another order: two that stand side by side are swapped, as often as need be
pub data Rearranged : Forest Label → Forest Label → Type 0 where
  stay : {ts : Forest Label} → Rearranged ts ts
  keep : (k v : Term) {ts us : Forest Label} → Rearranged ts us → Rearranged (k ▹ v ▹ ts) (k ▹ v ▹ us)
  swap : (k v j w : Term) {ts : Forest Label} → Rearranged (k ▹ v ▹ j ▹ w ▹ ts) (j ▹ w ▹ k ▹ v ▹ ts)
  chain : {ts us vs : Forest Label} → Rearranged ts us → Rearranged us vs → Rearranged ts vs

-- the same term but for the order of pairs, at any depth
mutual
  pub data Same : Term → Term → Type 0 where
    with_parts : {l : Label} {ts us : Forest Label} → Sames ts us → Same (node l ts) (node l us)
    with_pairs : {ts us : Forest Label} → Rearranged ts us → Same (node map ts) (node map us)
    and_then : {t u v : Term} → Same t u → Same u v → Same t v

  pub data Sames : Forest Label → Forest Label → Type 0 where
    no_more : Sames empty empty
    and_also : {t u : Term} {ts us : Forest Label} → Same t u → Sames ts us → Sames (t ▹ ts) (u ▹ us)

-- Two terms mean the same exactly when they are the same but for the order of pairs, at any depth
pub record MapsHaveNoOrder : Type 0 where
  -- of terms as they were read
  pub as_they_came : (t u : Located) → (meaning t ≡ meaning u) ↔ Same (as_read t) (as_read u)
  -- of any terms
  pub of_any : (t u : Term) → (ordered t ≡ ordered u) ↔ Same t u
