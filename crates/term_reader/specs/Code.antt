-- What the contracts of reading terms say of the code's own values.
-- About the code alone, proved against the definitions of term_spec: nothing here has to be believed.
use Rattle.std.specs.Prelude.{◌≡◌, true, List, [], ◌∷◌, ◌++◌, ℕ, zero, suc, ◌+◌, ◌-◌, ◌≤◌, ◌<◌, min, Result, Ok, length, get_or, drop, replicate, Some}
use Rattle.std.proofs.Math.Option.{Option, none, some}
use Rattle.std.proofs.lemmas.List.Edits.{sets}
use Rattle.term_spec.specs.Tree.{◌▹▹◌, count, size, sizes, EachNode, EachNodes}
use Rattle.term_spec.specs.Term.{Label, list, map}
use Rattle.term_spec.specs.Answer.{◌>>=◌, Answer, good, refused, Position, at_offset, Reading, done}
use Rattle.term_spec.specs.Head.{Given, Wanted, any, an_atom, an_arity, Head, parts, characters, elements, pairs, Later, later, term_head}
use Rattle.term_spec.specs.AtomList.{AtomList, of_size}
use Rattle.term_spec.specs.Reading.{Located, bytes_left, each, run, entries, string, list_tail, opening, body, term}
use Rattle.term_spec.specs.Message.{Terms}
use Rattle.term_spec.specs.Rows.{tree_rows, rows, kind_of, pack, row_words, Placed}
use Rattle.term_head.specs.declared.Head as code
use Rattle.term_head.specs.declared.Later as code_later
use Rattle.term_head.specs.Code.{refusal, kind_later, later_of, head_at, head_of}
use Rattle.term_head.specs.Quick.{Told, quick_word}
use Rattle.map_keys.specs.KeySet.{Keeps}
use Rattle.term_spec.specs.declared.Refusal.{Refusal}
use Rattle.term_reader.specs.declared.Reached as code_reached
use Rattle.term_reader.specs.declared.Parts as code_parts

-- what reading a term, or some terms in turn, comes to: the offset and the row past them
abbrev pub Step : Type 0
Step = Result code_reached.Reached Refusal

abbrev pub got : ℕ → ℕ → Step
got next rows = Ok (record { next = next; rows = rows })

-- what reading the parts of a term comes to
abbrev pub PartsStep : Type 0
PartsStep = Result code_parts.Parts Refusal

abbrev pub got_parts : ℕ → ℕ → ℕ → ℕ → PartsStep
got_parts next rows many kind = Ok (record { next = next; rows = rows; parts = many; kind = kind })

-- the whole that a number in a row's word stands for: its row plus 1, or 0
unfoldable pub whole_of : ℕ → Option ℕ
whole_of zero = none
whole_of (suc n) = some n

-- what is asked for where n parts are wanted: atoms, and as a third an arity
unfoldable pub asked : ℕ → List Wanted
asked n = replicate (min n 2) an_atom ++ replicate (n - 2) an_arity

-- the words of n characters, the first one's byte at `at`
unfoldable pub character_words : ℕ → ℕ → ℕ → List ℕ
character_words whole at zero = []
character_words whole at (suc n) = pack 14 at whole 0 1 ∷ character_words whole (at + 1) n

-- What the reader is given: a table with room for cap rows, of which those below `row` are taken. A message's bytes and a list's count are bytes, as the types of the code say
pub record Room (m : List ℕ) (list : AtomList) (T : List ℕ) (cap at row whole : ℕ) : Type 0 where
  pub sized : of_size list ≡ true
  pub short : length m ≤ 65536
  pub near : at ≤ length m
  pub few : cap ≤ 8192
  pub wide : cap ≤ length T
  pub low : row ≤ cap
  pub inside : whole ≤ row
  pub bytes : (i : ℕ) → get_or m i 0 < 256
  pub listed : list.n < 256

-- what a head at `place` of a message promises of what it says: parts are asked for by their number, characters stand in the message
unfoldable pub HeadFits : List ℕ → ℕ → Head → Type 0
HeadFits m place (parts ws n l) = ws ≡ asked (length ws)
HeadFits m place (characters cs) = (length cs ≡ 0 → ⊥) → place + 3 + length cs ≤ length m
HeadFits m place (elements n) = Unit {0}
HeadFits m place (pairs n) = Unit {0}

pub record SoundHead (m : List ℕ) (place next : ℕ) (h : Head) : Type 0 where
  pub before : place < next
  pub end : next ≤ length m
  pub fits : HeadFits m place h

-- a head that was read at `place`
pub record HeadRead (m : List ℕ) (place : ℕ) (head : code.Head) : Type 0 where
  pub h : Head
  pub next : ℕ
  pub is : head ≡ head_at h next
  pub sound : SoundHead m place next h

-- no 108 opens at an offset: a tail there is joined no further
pub record LastAt (m : List ℕ) (at : ℕ) : Type 0 where
  pub no_elements : (given : Given) (rows place n : ℕ) (t : Position) → opening given (drop at m) any (at_offset m at rows) ≡ good ((place, elements n), t) → ⊥

-- With `deep` levels left for the parts:
module _ (given : Given) (cap deep : ℕ) where
  -- the parts of the term at p, and its label
  unfoldable pub inner : ℕ → Head → Reading (Terms × Label)
  inner p (parts ws n l) = do
    ts ← each (term given cap deep) ws
    us ← run (term given cap deep) n
    label ← later given.flags p l
    done (ts ▹▹ us, label)
  inner p (characters cs) = do
    ts ← string given cap deep p (p + 3) cs
    done (ts, list)
  inner p (elements n) = do
    ts ← run (term given cap deep) n
    bound ← bytes_left
    end ← list_tail given cap deep (body given cap deep) bound
    done (ts ▹▹ end.0, end.1)
  inner p (pairs n) = do
    ts ← entries (term given cap deep) [] n
    done (ts, map)

-- What a reader leaves: T' is T with the words of what was read stored from `row` on, and reading goes on at an offset of m
module _ {X : Type 0} (size_of : X → ℕ) (as_rows : X → List ℕ) (From : X → Type 0) (m : List ℕ) (cap row : ℕ) (T : List ℕ) where
  pub record RowsStored (x : X) (s : Position) (T' : List ℕ) : Type 0 where
    pub table_is : T' ≡ sets T row (as_rows x)
    pub stands : s ≡ at_offset m s.at (row + size_of x)
    pub near : s.at ≤ length m
    pub room : row + size_of x ≤ cap
    pub from : From x

module _ {X S : Type 0} (got : X → ℕ → ℕ → S) (no : ℕ → ℕ → S) (size_of : X → ℕ) (as_rows : X → List ℕ) (From : X → Type 0) where
  unfoldable pub Done : List ℕ → ℕ → ℕ → List ℕ → Answer (X × Position) → S → List ℕ → Type 0
  Done m cap row T (good x) r T' = (r ≡ got x.0 x.1.at (row + size_of x.0)) × RowsStored size_of as_rows From m cap row T x.0 x.1 T'
  Done m cap row T (refused n p) r T' = r ≡ no n p

-- one term
abbrev pub TermDone : List ℕ → ℕ → ℕ → ℕ → List ℕ → Answer (Located × Position) → Step → List ℕ → Type 0
TermDone m cap row whole =
    Done (λ t next end. got next end) refusal size (λ t. row_words (tree_rows (whole_of whole) row t)) (EachNode (Placed 65536)) m cap row

-- n terms in turn
abbrev pub RunDone : List ℕ → ℕ → ℕ → ℕ → ℕ → List ℕ → Answer (Terms × Position) → Step → List ℕ → Type 0
RunDone m n cap row whole =
    Done (λ ts next end. got next end) refusal sizes (λ ts. row_words (rows (whole_of whole) row ts)) (λ ts. (count ts ≡ n) × EachNodes (Placed 65536) ts) m cap row

-- the parts of a term, of which `before` are read already, and its label
abbrev pub PartsDone : List ℕ → ℕ → ℕ → ℕ → ℕ → List ℕ → Answer ((Terms × Label) × Position) → PartsStep → List ℕ → Type 0
PartsDone m before cap row whole =
    Done (λ e next end. got_parts next end (before + count e.0) (kind_of e.1)) refusal (λ e. sizes e.0) (λ e. row_words (rows (whole_of whole) row e.0))
    (λ e. EachNodes (Placed 65536) e.0) m cap row

-- this word says the head of the term at an offset
abbrev pub QuickAt : List ℕ → Given → Wanted → ℕ → ℕ → Type 0
QuickAt m given wanted at word = (rows : ℕ) → Some word ≡ quick_word (head_of (term_head given wanted (at_offset m at rows)))

-- a 107 at `place` with any `count` characters, whatever else is given
abbrev pub CharactersRead : ℕ → ℕ → ℕ → ℕ → ℕ → ℕ → ℕ → ℕ → List ℕ → PartsStep → List ℕ → Type 0
CharactersRead cap left place count next before row whole T r T' =
    (given : Given) (m cs : List ℕ) → length cs ≡ count → next ≤ length m → PartsDone m before cap row whole T (inner given cap left place (characters cs) (at_offset m next row)) r T'

-- What the functions that read promise. Of the message m they read with these flags and this atom list, room for cap rows and `left` levels, from the offset `at` and the row `row` on,
-- as parts of `whole`; they store rows in the table T and remember keys in S. T' and S' are the two after it
module _ (m : List ℕ) (given : Given) (cap left at row whole : ℕ) (T S : List ℕ) where
  -- a term that is wanted so
  pub record TermRead (wanted : Wanted) (r : Step) (T' S' : List ℕ) : Type 0 where
    pub rows_stored : TermDone m cap row whole T (term given cap left wanted (at_offset m at row)) r T'
    pub keys_kept : Keeps S S'

  -- n terms that are wanted so, in turn
  pub record RunRead (n : ℕ) (wanted : List Wanted) (r : Step) (T' S' : List ℕ) : Type 0 where
    pub rows_stored : RunDone m n cap row whole T (each (term given cap left) wanted (at_offset m at row)) r T'
    pub keys_kept : Keeps S S'

  -- the term at `at`, whose head is read
  pub record BodyRead (head : code.Head) (r : Step) (T' S' : List ℕ) : Type 0 where
    pub rows_stored : (h : Head) (next : ℕ) → head ≡ head_at h next → SoundHead m at next h
        → TermDone m cap row whole T (body given cap left at h (at_offset m next row)) r T'
    pub keys_kept : Keeps S S'

  -- the parts of the term at `at`, whose head is read
  pub record InnerRead (head : code.Head) (r : PartsStep) (T' S' : List ℕ) : Type 0 where
    pub rows_stored : (h : Head) (next : ℕ) → head ≡ head_at h next → SoundHead m at next h
        → PartsDone m 0 cap row whole T (inner given cap left at h (at_offset m next row)) r T'
    pub keys_kept : Keeps S S'

  -- the parts of the term at `place`, of this kind: wanted parts, then `count` of any kind, then later fields
  pub record PartsRead (place kind wanted count : ℕ) (later : code_later.Later) (r : PartsStep) (T' S' : List ℕ) : Type 0 where
    pub rows_stored : (l : Later) → kind ≡ kind_later l → later_of l ≡ later
        → PartsDone m 0 cap row whole T (inner given cap left place (parts (asked wanted) count l) (at_offset m at row)) r T'
    pub keys_kept : Keeps S S'

  -- the parts of any term with the head h
  pub record ManyRead (h : Head) (r : PartsStep) (T' S' : List ℕ) : Type 0 where
    pub rows_stored : (place : ℕ) → PartsDone m 0 cap row whole T (inner given cap left place h (at_offset m at row)) r T'
    pub keys_kept : Keeps S S'

  -- what follows the elements of a list, of which `before` are read
  pub record TailRead (before : ℕ) (r : PartsStep) (T' S' : List ℕ) : Type 0 where
    pub rows_stored : PartsDone m before cap row whole T (list_tail given cap left (body given cap left) (drop at m) (at_offset m at row)) r T'
    pub keys_kept : Keeps S S'

  -- the same of a tail that is joined no further, by any bound as long as the bytes left
  pub record LastRead (before : ℕ) (r : PartsStep) (T' S' : List ℕ) : Type 0 where
    pub rows_stored : (bound : List ℕ) → length m - at ≤ length bound
        → PartsDone m before cap row whole T (list_tail given cap left (body given cap left) bound (at_offset m at row)) r T'
    pub keys_kept : Keeps S S'

-- the parts of a term whose head is in a word
pub record CommonRead (m : List ℕ) (given : Given) (cap left row whole : ℕ) (T S : List ℕ) (word : ℕ) (r : PartsStep) (T' S' : List ℕ) : Type 0 where
  pub rows_stored : (place : ℕ) (h : Head) (next : ℕ) → Told word h next
      → PartsDone m 0 cap row whole T (inner given cap left place h (at_offset m next row)) r T'
  pub keys_kept : Keeps S S'
