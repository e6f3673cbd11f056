-- Terms whose rows stand in a table, and whose fields are found again in the message.
-- About the code alone, proved against the definitions of term_spec: nothing here has to be believed.
use Rattle.std.specs.Prelude.{◌≡◌, Bool, true, false, List, ℕ, ◌+◌, ◌≤◌, ◌<◌, eqb}
use Rattle.std.proofs.Math.Option.{Option, none, some}
use Rattle.term_spec.specs.Tree.{Forest, count, size, sizes, EachNode, EachNodes}
use Rattle.term_spec.specs.Term.{Label, list}
use Rattle.term_spec.specs.Reading.{Offset, Located}
use Rattle.term_spec.specs.Message.{Terms, all_as_read}
use Rattle.term_spec.specs.Rows.{kind_of, kind_at, offset_of, whole_code, TreeHere, RowsHere}
use Rattle.term_spec.specs.Canonical.{all_small}
use Rattle.term_spec.specs.Valid.{Fits}
use Rattle.row_fields.specs.Found.{content_of}
use Rattle.row_fields.specs.Meaning.{label_of}
use Rattle.canonical_fields.specs.Shape.{some_small}
use Rattle.canonical_fields.specs.Sound.{SoundContent, listed_in}

module _ (m places lengths : List ℕ) where
  -- a node whose fields are found again, and that has a canonical form: with these flags it fits
  pub record Writable (flags : ℕ) (l : Label × Offset) (ts : Terms) : Type 0 where
    pub near : offset_of l.1 < 65536
    pub says : label_of m (listed_in places) (kind_at l.0 l.1) (content_of m places lengths (kind_at l.0 l.1) (offset_of l.1)) ≡ l.0
    pub sound : SoundContent m places (content_of m places lengths (kind_at l.0 l.1) (offset_of l.1))
    pub fits : Fits flags l.0 (all_as_read ts)
    pub at_tag : l.0 ≡ list → kind_at l.0 l.1 ≡ 5

  module _ (T : List ℕ) (row : ℕ) where
    -- the rows of a term, of terms one after the other, stand from `row` on
    pub record TermInTable (t : Located) : Type 0 where
      pub whole : Option ℕ
      pub above : whole_code whole ≤ row
      pub stands : TreeHere T whole row t
      pub few : row + size t ≤ 8192
      pub flags : ℕ
      pub nodes : EachNode (Writable flags) t

    pub record RunInTable (ts : Terms) : Type 0 where
      pub run_whole : Option ℕ
      pub run_above : whole_code run_whole ≤ row
      pub run_stands : RowsHere T run_whole row ts
      pub run_few : row + sizes ts ≤ 8192
      pub run_flags : ℕ
      pub run_nodes : EachNodes (Writable run_flags) ts

-- the characters of a list that is written as a 107
unfoldable pub as_string : Label → Forest Label → Option (List ℕ)
as_string l ts = elim (eqb (kind_of l) 5) [ true ↦ some_small (count ts) (all_small ts) | false ↦ none ]

unfoldable pub is_some : {A : Type 0} → Option A → Bool
is_some none = false
is_some (some a) = true
