-- The rows of terms that were read, and the table that holds them: one row for each term of the meaning, in reading order, parts after their whole.
use Rattle.std.specs.Prelude.{◌≡◌, List, [], ◌∷◌, ◌++◌, ℕ, suc, ◌+◌, ◌*◌, ◌-◌, ◌/◌, ◌%◌, ◌^◌, ◌<◌, length, replicate, drop}
use Rattle.std.proofs.Math.Option.{Option, none, some}
use Rattle.term_spec.specs.Tree.{Forest, node, ◌▹◌, count, size, sizes}
use Rattle.term_spec.specs.Term.{Label, integer, float, atom, tuple, list, improper_list, binary, bitstring, map, pid, port, reference, export}
use Rattle.term_spec.specs.Answer.{Answer, good, refused}
use Rattle.term_spec.specs.Reading.{Offset, tag_at, character_at, Located}
use Rattle.term_spec.specs.Message.{Terms}

-- a term's own fields, where it stands, the row of its whole, if it has one, its number of parts, and the rows of it and all its parts
pub record Row : Type 0 where
  pub label : Label
  pub place : Offset
  pub whole : Option ℕ
  pub parts : ℕ
  pub size : ℕ

-- the rows of terms that have the same whole, the first of them numbered n (rows count from 0)
unfoldable mutual
  pub tree_rows : Option ℕ → ℕ → Located → List Row
  tree_rows whole n (node l ts) =
      record { label = l.0; place = l.1; whole = whole; parts = count ts; size = suc (sizes ts) } ∷ rows (some n) (n + 1) ts

  pub rows : Option ℕ → ℕ → Terms → List Row
  rows whole n Forest.empty = []
  rows whole n (t ▹ ts) = tree_rows whole n t ++ rows whole (n + size t) ts

-- A row as a word of 64 bits (docs/ROWS.md): from the lowest bit on, 4 bits of kind, 16 of offset, 14 of the whole's row plus 1 (0: none),
-- 13 of the number of parts, 14 of the size

-- the kind of a term; a character of a 107 has its own
unfoldable pub kind_of : Label → ℕ
kind_of (integer z) = 1
kind_of (float bits) = 2
kind_of (atom cs) = 3
kind_of tuple = 4
kind_of list = 5
kind_of improper_list = 6
kind_of (binary bs) = 7
kind_of (bitstring n bs) = 8
kind_of map = 9
kind_of (pid i s c) = 10
kind_of (port i c) = 11
kind_of (reference c ws) = 12
kind_of export = 13

unfoldable pub kind_at : Label → Offset → ℕ
kind_at l (tag_at p) = kind_of l
kind_at l (character_at p) = 14

unfoldable pub offset_of : Offset → ℕ
offset_of (tag_at p) = p
offset_of (character_at p) = p

unfoldable pub whole_code : Option ℕ → ℕ
whole_code none = 0
whole_code (some n) = n + 1

unfoldable pub pack : ℕ → ℕ → ℕ → ℕ → ℕ → ℕ
pack kind offset whole parts size = kind + 2 ^ 4 * offset + 2 ^ 20 * whole + 2 ^ 34 * parts + 2 ^ 47 * size

unfoldable pub word : Row → ℕ
word r = pack (kind_at r.label r.place) (offset_of r.place) (whole_code r.whole) r.parts r.size

unfoldable pub row_words : List Row → List ℕ
row_words [] = []
row_words (r ∷ rs) = word r ∷ row_words rs

-- A lent table of that many words after a reading: the rows, all past them zero; all zero on any refusal
unfoldable pub table_after : ℕ → Answer Terms → List ℕ
table_after lent (good ts) = let ws : List ℕ = row_words (rows none 0 ts) in ws ++ replicate (lent - length ws) 0
table_after lent (refused n p) = replicate lent 0

-- ---- For proofs and inner functions alone: no promise of a public call and no demand cites what follows.

-- the fields within their bits
pub record SmallFields (kind offset whole parts size : ℕ) : Type 0 where
  pub small_kind : kind < 2 ^ 4
  pub small_offset : offset < 2 ^ 16
  pub small_whole : whole < 2 ^ 14
  pub small_parts : parts < 2 ^ 13
  pub small_size : size < 2 ^ 14

-- what a reader of a word takes out
unfoldable pub kind_in : ℕ → ℕ
kind_in w = w % 2 ^ 4

unfoldable pub offset_in : ℕ → ℕ
offset_in w = w / 2 ^ 4 % 2 ^ 16

unfoldable pub whole_in : ℕ → ℕ
whole_in w = w / 2 ^ 20 % 2 ^ 14

unfoldable pub parts_in : ℕ → ℕ
parts_in w = w / 2 ^ 34 % 2 ^ 13

unfoldable pub size_in : ℕ → ℕ
size_in w = w / 2 ^ 47 % 2 ^ 14

-- a term stands below an offset
abbrev pub Placed : ℕ → Label × Offset → Terms → Type 0
Placed bound l ts = offset_of l.1 < bound

-- xs stand in T from index a on
pub record Here (T : List ℕ) (a : ℕ) (xs : List ℕ) : Type 0 where
  pub after : List ℕ
  pub stands : drop a T ≡ xs ++ after

-- the rows of a term stand in a table from row n on
pub record TreeHere (T : List ℕ) (whole : Option ℕ) (n : ℕ) (t : Located) : Type 0 where
  pub tree_words : Here T n (row_words (tree_rows whole n t))

-- the rows of terms with the same whole stand in a table from row n on
pub record RowsHere (T : List ℕ) (whole : Option ℕ) (n : ℕ) (ts : Terms) : Type 0 where
  pub words : Here T n (row_words (rows whole n ts))
