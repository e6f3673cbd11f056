-- What the functions that put the keys of maps in order ask and promise of a table and of the slots: some terms stand there, and whichever do, this is found or stored.
-- About the code alone, proved against the definitions of term_spec: nothing here has to be believed.
use Rattle.std.specs.Prelude.{◌≡◌, Bool, true, List, ℕ, ◌+◌, ◌*◌, ◌-◌, ◌≤◌, ◌<◌, length, get_or, take, drop}
use Rattle.term_spec.specs.Tree.{node, count, sizes}
use Rattle.term_spec.specs.Term.{Label, map}
use Rattle.term_spec.specs.Order.{not_greater, compare_lists}
use Rattle.term_spec.specs.Pairs.{all_arranged, Rising}
use Rattle.term_spec.specs.Same.{Rearranged}
use Rattle.term_spec.specs.Canonical.{all_bytes, key_before, canonical}
use Rattle.term_spec.specs.Reading.{Offset, Located, as_read}
use Rattle.term_spec.specs.Message.{Terms, all_as_read}
use Rattle.term_spec.specs.Rows.{whole_in, offset_in}
use Rattle.octets.specs.Parts.{stretch}
use Rattle.term_writer.specs.InTable.{TermInTable, RunInTable}
use Rattle.term_writer.specs.PairOrder.{Listed, slots_at, PairsOrdered, Ordered, AllOrdered}

-- pairs of a run of them, the first one's key at `row`, listed by their keys' rows in rising byte order of the keys' canonical forms: those in `done`, as they stand there if it is told so
pub record Sorted (row : ℕ) (ts done : Terms) (rs : List ℕ) (told : Bool) : Type 0 where
  pub in_turn : Terms
  pub listed : Listed row ts rs in_turn
  pub same_pairs : Rearranged (all_as_read done) (all_as_read in_turn)
  pub rises : Rising key_before (all_arranged key_before (all_as_read in_turn))
  pub as_they_stand : told ≡ true → in_turn ≡ done

-- ---- the slots at the keys of a map, from the row of its first key on

module _ (T : List ℕ) (row : ℕ) where
  -- n keys, and a slot at each
  pub record SlotsFit (n slots : ℕ) : Type 0 where
    pub message : List ℕ
    pub places : List ℕ
    pub lengths : List ℕ
    pub slot_pairs : Terms
    pub slot_held : RunInTable message places lengths T row slot_pairs
    pub slot_count : count slot_pairs ≡ 2 * n
    pub slots_there : row + sizes slot_pairs ≤ slots

  -- the slots at its keys have these rows in turn, and all others stay
  pub record SlotsFilled (S R R' : List ℕ) : Type 0 where
    pub in_slots : {message places lengths : List ℕ} (ts : Terms) → RunInTable message places lengths T row ts → count ts ≡ 2 * length S → slots_at R' row ts ≡ S
    pub other_slots : (i : ℕ) → (whole_in (get_or T i 0) ≡ whole_in (get_or T row 0) → ⊥) → get_or R' i 0 ≡ get_or R i 0

-- so many slots, and room for so many keys, are enough for terms of so many rows
abbrev pub SlotsFor : ℕ → ℕ → ℕ → Type 0
SlotsFor rows slots keys = (rows ≤ slots) × (rows ≤ 2 * keys)

-- the canonical form of the term at a row is the n bytes of the message from its tag on
pub record FormStands (m T : List ℕ) (row n : ℕ) (t : Located) : Type 0 where
  pub form_there : offset_in (get_or T row 0) + n ≤ length m
  pub form_is : canonical (as_read t) ≡ stretch m (offset_in (get_or T row 0)) n

module _ (m places lengths T : List ℕ) where
  module _ (R : List ℕ) where
    -- a term stands at the row, and its maps are ordered
    pub record Ready (row : ℕ) (t : Located) : Type 0 where
      pub held : TermInTable m places lengths T row t
      pub ordered : Ordered R 0 row t

    -- ---- the terms at two rows

    module _ (a b : ℕ) where
      -- their canonical forms have room one after the other
      pub record TwoFit (room : ℕ) : Type 0 where
        pub first : Located
        pub second : Located
        pub first_ready : Ready a first
        pub second_ready : Ready b second
        pub both_fit : length (canonical (as_read first)) + length (canonical (as_read second)) ≤ room

      -- the first may stand before the second
      abbrev pub Before : Type 0
      Before = (t u : Located) → Ready a t → Ready b u → not_greater (compare_lists (canonical (as_read t)) (canonical (as_read u))) ≡ true

      pub record Compared (O : List ℕ) (r : Bool) (P : List ℕ) : Type 0 where
        pub told : (t u : Located) → Ready a t → Ready b u → r ≡ not_greater (compare_lists (canonical (as_read t)) (canonical (as_read u)))
        pub past_both : (total : ℕ) → TwoFit total → drop total P ≡ drop total O

    -- ---- a key, and the first n rows in S

    module _ (S : List ℕ) (n key : ℕ) where
      pub record KeysFit (room : ℕ) : Type 0 where
        pub all_there : n ≤ length S
        pub each_fits : (i : ℕ) → i < n → TwoFit (get_or S i 0) key room

      -- where it goes among them: after what may stand before it, and before what it may stand before
      pub record PlaceFound (O : List ℕ) (r : ℕ) (P : List ℕ) : Type 0 where
        pub inside : r ≤ n
        pub after_last : 0 < r → Before (get_or S (r - 1) 0) key
        pub before_next : r < n → Before key (get_or S r 0)
        pub past_keys : (total : ℕ) → KeysFit total → drop total P ≡ drop total O

    -- ---- the n pairs of a map, its first key at `row`

    module _ (row n : ℕ) where
      pub record PairsFit (room : ℕ) : Type 0 where
        pub pairs : Terms
        pub pairs_held : RunInTable m places lengths T row pairs
        pub pairs_ready : AllOrdered R 0 row pairs
        pub pairs_count : count pairs ≡ 2 * n
        pub pairs_room : length (all_bytes (all_as_read pairs)) ≤ room

      pub record KeysSorted (O S : List ℕ) (r : Bool) (P : List ℕ) : Type 0 where
        pub sorted_rows : (ts : Terms) → RunInTable m places lengths T row ts → AllOrdered R 0 row ts → count ts ≡ 2 * n → Sorted row ts ts (take n S) r
        pub past_pairs : (total : ℕ) → PairsFit total → drop total P ≡ drop total O

    -- ---- the term at a row, all maps in it ordered

    module _ (row : ℕ) where
      -- any two keys of it, if it is a map, have room
      pub record PartsReady (room : ℕ) : Type 0 where
        pub label : Label × Offset
        pub parts : Terms
        pub node_held : TermInTable m places lengths T row (node label parts)
        pub parts_ordered : AllOrdered R 0 (row + 1) parts
        pub parts_room : label.0 ≡ map → length (all_bytes (all_as_read parts)) ≤ room

      -- so many slots and rows are enough
      pub record MapFits (room slots rows : ℕ) : Type 0 where
        pub ready : PartsReady room
        pub enough_slots : row + 1 + sizes ready.parts ≤ slots
        pub enough_rows : count ready.parts ≤ 2 * rows

      -- if it is a map of two pairs or more, it is ordered now
      pub record MapOrdered (R' O P : List ℕ) : Type 0 where
        pub pairs_in_order : (l : Label × Offset) (ts : Terms) → TermInTable m places lengths T row (node l ts) → AllOrdered R 0 (row + 1) ts
            → l.0 ≡ map → 4 ≤ count ts → PairsOrdered R' (row + 1) ts
        pub other_maps : (i : ℕ) → (whole_in (get_or T i 0) ≡ row + 1 → ⊥) → get_or R' i 0 ≡ get_or R i 0
        pub past_map : (total : ℕ) → PartsReady total → drop total P ≡ drop total O

  -- ---- the run of terms whose rows fill the table's first rows

  pub record RunFits (rows room : ℕ) : Type 0 where
    pub terms : Terms
    pub terms_held : RunInTable m places lengths T 0 terms
    pub terms_rows : sizes terms ≡ rows
    pub terms_room : length (all_bytes (all_as_read terms)) ≤ room

  pub record AllInOrder (rows : ℕ) (R' O P : List ℕ) : Type 0 where
    pub run_ordered : (ts : Terms) → RunInTable m places lengths T 0 ts → sizes ts ≡ rows → AllOrdered R' 0 0 ts
    pub past_run : (total : ℕ) → RunFits rows total → drop total P ≡ drop total O
