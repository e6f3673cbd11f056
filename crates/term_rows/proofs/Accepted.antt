-- The rows of an accepted message's terms stand in the table after reading, are small, and the message backs them.
use mathlib.Core.List.{List}
use mathlib.Core.Option as option
use Prim.Native.Nat.{ℕ, ◌≤◌, min}
use native.Mathlib.Omega.{arith}
use lib.ListN.{length}
use Rattle.term_spec.specs.Tree.{node, empty, ◌▹◌, sizes, EachNode, EachNodes}
use Rattle.term_spec.specs.Answer.{good}
use Rattle.term_spec.specs.Head.{Given}
use Rattle.term_spec.specs.Reading.{Located}
use Rattle.term_spec.specs.AtomList.{AtomList, given_of}
use Rattle.term_spec.specs.Message.{Terms}
use Rattle.term_spec.specs.Rows.{whole_code, table_after, Placed}
use Rattle.term_spec.proofs.Backed.{Backed, Backeds}
use Rattle.term_spec.proofs.Message.{AcceptedMessage}
use Rattle.term_spec.proofs.Words.{small_rows, table_rows}
use Rattle.row_fields.proofs.Read.{label_inside}
use Rattle.term_rows.proofs.InTable.{RowsInTable}

-- ---- every node stands below the message's end

module _ (message : List ℕ) (cap : ℕ) (given : Given) where
  mutual
    unfolding EachNode

    placed_tree : (n : ℕ) → length message ≤ n → (t : Located) → Backed message cap given t → EachNode (Placed n) t
    placed_tree n h (node l ts) b = (omega (arith, label_inside message cap given l.1 l.0 b.0), placed_trees n h ts b.1)

    pub placed_trees : (n : ℕ) → length message ≤ n → (ts : Terms) → Backeds message cap given ts → EachNodes (Placed n) ts
    placed_trees n h empty b = tt
    placed_trees n h (t ▹ ts) b = (placed_tree n h t b.0, placed_trees n h ts b.1)

-- ---- an accepted message

pub held_rows : (flags : ℕ) (list : AtomList) (lent : ℕ) (message : List ℕ) (ts : Terms) → AcceptedMessage flags list lent message ts
    → RowsInTable message (min 8192 lent) (given_of flags list) (table_after lent (good ts)) option.none 0 ts
unfolding whole_code
held_rows flags list lent message ts a =
    let few : sizes ts ≤ min 8192 lent = a.known.few in
    record {
      stand = table_rows lent ts;
      all_small = small_rows option.none 0 ts (omega arith) (omega arith) (placed_trees message (min 8192 lent) (given_of flags list) 65536 a.short ts a.known.all_backed);
      all_backed = a.known.all_backed;
    }
