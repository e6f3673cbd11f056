-- The order in which the pairs of maps are written, in a table of slots, one for each row: the slot at a key's row has the row of the key that is written in its place. 0 at the first key: as they stand.
-- About the code alone, proved against the definitions of term_spec: nothing here has to be believed.
use Rattle.std.specs.Prelude.{◌≡◌, List, [], ◌∷◌, ℕ, ◌+◌, ◌≤◌, ◌<◌, get_or}
use Rattle.term_spec.specs.Tree.{node, empty, ◌▹◌, count, size}
use Rattle.term_spec.specs.Term.{map}
use Rattle.term_spec.specs.Pairs.{all_arranged, Rising}
use Rattle.term_spec.specs.Same.{Rearranged}
use Rattle.term_spec.specs.Canonical.{key_before}
use Rattle.term_spec.specs.Reading.{Located}
use Rattle.term_spec.specs.Message.{Terms, all_as_read}
use Rattle.term_spec.specs.Rows.{kind_in, parts_in}

-- a row's word is that of a map of two pairs or more
pub record HasOrder (word : ℕ) : Type 0 where
  pub is_map : kind_in word ≡ 9
  pub two_pairs : 4 ≤ parts_in word

-- a pair of a run of pairs, the first one's key at `row`, by its own key's row
pub data PairAt : ℕ → Terms → ℕ → Located → Located → Type 0 where
  the_first : {row : ℕ} {k v : Located} {ts : Terms} → PairAt row (k ▹ v ▹ ts) row k v
  a_later : {row r : ℕ} {k v j w : Located} {ts : Terms} → PairAt (row + size k + size v) ts r j w → PairAt row (k ▹ v ▹ ts) r j w

-- pairs of that run, by their keys' rows
pub data Listed (row : ℕ) (ts : Terms) : List ℕ → Terms → Type 0 where
  none_listed : Listed row ts [] empty
  one_listed : {r : ℕ} {rs : List ℕ} {k v : Located} {us : Terms} → PairAt row ts r k v → Listed row ts rs us → Listed row ts (r ∷ rs) (k ▹ v ▹ us)

module _ (R : List ℕ) where
  -- the slots at the keys of a run of pairs, in turn
  unfoldable mutual
    pub slots_at : ℕ → Terms → List ℕ
    slots_at row empty = []
    slots_at row (k ▹ ts) = slot_then row k ts

    pub slot_then : ℕ → Located → Terms → List ℕ
    slot_then row k empty = []
    slot_then row k (v ▹ ts) = get_or R row 0 ∷ slots_at (row + size k + size v) ts

  -- the pairs in rising byte order of the keys' canonical forms: as they stand, or as the slots list them
  pub record PairsOrdered (row : ℕ) (ts : Terms) : Type 0 where
    pub sorted : Terms
    pub as_they_stand : get_or R row 0 ≡ 0 → sorted ≡ ts
    pub listed : 0 < get_or R row 0 → Listed row ts (slots_at row ts) sorted
    pub same_pairs : Rearranged (all_as_read ts) (all_as_read sorted)
    pub rises : Rising key_before (all_arranged key_before (all_as_read sorted))

  -- in a term whose rows begin at `row` each map of two pairs or more is ordered, if its row is `least` or a later one
  module _ (least : ℕ) where
    unfoldable mutual
      pub Ordered : ℕ → Located → Type 0
      Ordered row (node l ts) = (least ≤ row → l.0 ≡ map → 4 ≤ count ts → PairsOrdered (row + 1) ts) × AllOrdered (row + 1) ts

      pub AllOrdered : ℕ → Terms → Type 0
      AllOrdered row empty = Unit {0}
      AllOrdered row (t ▹ ts) = Ordered row t × AllOrdered (row + size t) ts
