-- What the functions that measure and write a term ask and promise of a table: some terms stand there, and whichever do, this is found or written.
-- About the code alone, proved against the definitions of term_spec: nothing here has to be believed.
use Rattle.std.specs.Prelude.{◌≡◌, Bool, List, ◌∷◌, ◌++◌, ℕ, ◌+◌, ◌*◌, ◌≤◌, ◌<◌, length, get_or}
use Rattle.std.proofs.Math.Option.{some}
use Rattle.term_spec.specs.Tree.{Forest, node, count, size, sizes}
use Rattle.term_spec.specs.Numbers.{in_bytes}
use Rattle.term_spec.specs.Term.{Label, Term}
use Rattle.term_spec.specs.Reading.{Offset, Located, as_read}
use Rattle.term_spec.specs.Message.{Terms, all_as_read}
use Rattle.term_spec.specs.Canonical.{all_small, bytes_of, all_bytes, key_before}
use Rattle.term_spec.specs.Pairs.{arranged_parts, all_arranged}
use Rattle.layout.specs.Layout.{Put}
use Rattle.term_writer.specs.PairOrder.{PairsOrdered, Ordered, AllOrdered}
use Rattle.term_writer.specs.InTable.{TermInTable, RunInTable, as_string, is_some}

-- is a located term written as a 107?
unfoldable pub string_term : Located → Bool
string_term (node l ts) = is_some (as_string l.0 (all_as_read ts))

-- the canonical forms of terms, one after the other
unfoldable pub canonicals : Forest Label → List ℕ
canonicals ts = all_bytes (all_arranged key_before ts)

-- a term's parts, arranged in themselves, in the order in which they are written: a map's pairs in rising byte order of the keys' canonical forms
abbrev pub in_writing : Label → Terms → Forest Label
in_writing l ts = arranged_parts key_before l (all_arranged key_before (all_as_read ts))

module _ (m places lengths T : List ℕ) (row : ℕ) where
  pub record SomeTerm : Type 0 where
    pub term : Located
    pub held : TermInTable m places lengths T row term

  pub record SomeRun (n : ℕ) : Type 0 where
    pub terms : Terms
    pub held : RunInTable m places lengths T row terms
    pub counted : count terms ≡ n

  -- all are integers 0 .. 255
  pub record SomeSmall (n : ℕ) : Type 0 where
    pub small_terms : Terms
    pub small_held : RunInTable m places lengths T row small_terms
    pub small_counted : count small_terms ≡ n
    pub characters : List ℕ
    pub are_small : all_small (all_as_read small_terms) ≡ some characters

  abbrev pub StringTold : Bool → Type 0
  StringTold r = (t : Located) → TermInTable m places lengths T row t → r ≡ string_term t

  abbrev pub SmallTold : ℕ → Bool → Type 0
  SmallTold n r = (ts : Terms) → RunInTable m places lengths T row ts → count ts ≡ n → r ≡ is_some (all_small (all_as_read ts))

  abbrev pub CharactersPut : ℕ → List ℕ → ℕ → ℕ → List ℕ → Type 0
  CharactersPut n O at r P =
      (ts : Terms) (cs : List ℕ) → RunInTable m places lengths T row ts → count ts ≡ n → all_small (all_as_read ts) ≡ some cs → Put O at cs r P

  abbrev pub StringPut : ℕ → List ℕ → ℕ → ℕ → List ℕ → Type 0
  StringPut n O at r P =
      (ts : Terms) (cs : List ℕ) → RunInTable m places lengths T row ts → count ts ≡ n → all_small (all_as_read ts) ≡ some cs → Put O at (107 ∷ (in_bytes 2 n ++ cs)) r P

  -- how long the bytes of terms are, their pairs as they stand: so long are their canonical forms
  abbrev pub TermLength : ℕ → Type 0
  TermLength r = (t : Located) → TermInTable m places lengths T row t → (r ≡ length (bytes_of (as_read t))) × (r ≤ 524288 * size t)

  abbrev pub RunLength : ℕ → ℕ → Type 0
  RunLength n r = (ts : Terms) → RunInTable m places lengths T row ts → count ts ≡ n → (r ≡ length (all_bytes (all_as_read ts))) × (r ≤ 524288 * sizes ts)

  -- terms written, with the order of their pairs in R: each by `one`, all by `all`
  module _ (R : List ℕ) where
    module _ (one : Term → List ℕ) where
      abbrev pub TermPut : List ℕ → ℕ → ℕ → List ℕ → Type 0
      TermPut O at r P = (t : Located) → TermInTable m places lengths T row t → Ordered R 0 row t → Put O at (one (as_read t)) r P

      pub record TermFits (room at : ℕ) : Type 0 where
        pub fit_term : Located
        pub fit_held : TermInTable m places lengths T row fit_term
        pub fit_ordered : Ordered R 0 row fit_term
        pub fit_room : at + length (one (as_read fit_term)) ≤ room

    module _ (all : Forest Label → List ℕ) where
      abbrev pub RunPut : ℕ → List ℕ → ℕ → ℕ → List ℕ → Type 0
      RunPut n O at r P = (ts : Terms) → RunInTable m places lengths T row ts → AllOrdered R 0 row ts → count ts ≡ n → Put O at (all (all_as_read ts)) r P

      pub record RunFits (n room at : ℕ) : Type 0 where
        pub fit_terms : Terms
        pub fit_run : RunInTable m places lengths T row fit_terms
        pub fit_all_ordered : AllOrdered R 0 row fit_terms
        pub fit_count : count fit_terms ≡ n
        pub fit_space : at + length (all (all_as_read fit_terms)) ≤ room

    -- the n pairs of a map, in the order that the slots give
    abbrev pub PairsPut : ℕ → List ℕ → ℕ → ℕ → List ℕ → Type 0
    PairsPut n O at r P =
        (ts : Terms) → RunInTable m places lengths T row ts → AllOrdered R 0 row ts → (p : PairsOrdered R row ts) → count ts ≡ 2 * n
        → Put O at (canonicals (all_as_read p.sorted)) r P

    pub record PairsFit (n room at : ℕ) : Type 0 where
      pub fit_below : 0 < row
      pub fit_pairs : Terms
      pub fit_pairs_held : RunInTable m places lengths T row fit_pairs
      pub fit_each : AllOrdered R 0 row fit_pairs
      pub fit_sorted : PairsOrdered R row fit_pairs
      pub fit_slots : 0 < get_or R row 0
      pub fit_pairs_count : count fit_pairs ≡ 2 * n
      pub fit_pairs_room : at + length (canonicals (all_as_read fit_sorted.sorted)) ≤ room

    -- the parts of a term that is not written as a string
    abbrev pub PartsPut : List ℕ → ℕ → ℕ → List ℕ → Type 0
    PartsPut O at r P =
        (l : Label × Offset) (ts : Terms) → TermInTable m places lengths T row (node l ts) → Ordered R 0 row (node l ts)
        → Put O at (all_bytes (in_writing l.0 ts)) r P

    pub record PartsFit (room at : ℕ) : Type 0 where
      pub fit_label : Label × Offset
      pub fit_parts : Terms
      pub fit_node : TermInTable m places lengths T row (node fit_label fit_parts)
      pub fit_node_ordered : Ordered R 0 row (node fit_label fit_parts)
      pub fit_parts_room : at + length (all_bytes (in_writing fit_label.0 fit_parts)) ≤ room
