-- Two questions on a message: a row's number, and an atom's text. They lend no table, so 8,192 rows count.
use Rattle.std.specs.Prelude.{Bool, true, false, ◌&&◌, ◌||◌, cond, List, [], ◌∷◌, ℕ, zero, suc, ◌+◌, ◌*◌, ◌^◌, eqb, ltb, ℤ, pos, negsuc, get_or, take, drop}
use Rattle.std.proofs.Math.Option.{none}
use Rattle.term_spec.specs.Numbers.{big_endian}
use Rattle.term_spec.specs.Text.{Coding, latin_1, utf_8}
use Rattle.term_spec.specs.Term.{Label, integer, float, atom, tuple, list, improper_list, binary, bitstring, map, pid, port, reference, export}
use Rattle.term_spec.specs.Answer.{Answer, good, refused}
use Rattle.term_spec.specs.AtomList.{AtomList, place_length}
use Rattle.term_spec.specs.Reading.{Offset, tag_at, character_at}
use Rattle.term_spec.specs.Message.{Framing, Terms, read}
use Rattle.term_spec.specs.Rows.{Row, rows}

pub data Number : Type 0 where
  whole_number : ℤ → Number
  float_bits : ℕ → Number
  neither : Number

-- whole where an integer lies in -2^63 .. 2^63-1, a float for tag 70, otherwise neither
unfoldable pub number_of : Label → Number
number_of (integer (pos n)) = cond (ltb n (2 ^ 63)) (whole_number (pos n)) neither
number_of (integer (negsuc m)) = cond (ltb m (2 ^ 63)) (whole_number (negsuc m)) neither
number_of (float bits) = float_bits bits
number_of (atom cs) = neither
number_of tuple = neither
number_of list = neither
number_of improper_list = neither
number_of (binary bs) = neither
number_of (bitstring n bs) = neither
number_of map = neither
number_of (pid i s c) = neither
number_of (port i c) = neither
number_of (reference c ws) = neither
number_of export = neither

-- also where no such row is (they count from 0)
unfoldable pub number_at : ℕ → List Row → Number
number_at i [] = neither
number_at zero (r ∷ rs) = number_of r.label
number_at (suc i) (r ∷ rs) = number_at i rs

-- a refused message gives its refusal
unfoldable pub row_number : ℕ → Answer Terms → Answer Number
row_number i (refused n p) = refused n p
row_number i (good ts) = good (number_at i (rows none 0 ts))

-- the number of a row of a message
unfoldable pub number_in : ℕ → Framing → AtomList → List ℕ → ℕ → Answer Number
number_in flags framing atoms message i = row_number i (read flags framing atoms 8192 message)

abbrev is_atom : Label → Bool
is_atom (integer z) = false
is_atom (float bits) = false
is_atom (atom cs) = true
is_atom tuple = false
is_atom list = false
is_atom improper_list = false
is_atom (binary bs) = false
is_atom (bitstring n bs) = false
is_atom map = false
is_atom (pid i s c) = false
is_atom (port i c) = false
is_atom (reference c ws) = false
is_atom export = false

abbrev stands_at : ℕ → Offset → Bool
stands_at at (tag_at p) = eqb p at
stands_at at (character_at p) = false

-- does one of the rows stand for an atom whose tag is at this offset?
unfoldable pub atom_at : ℕ → List Row → Bool
atom_at at [] = false
atom_at at (r ∷ rs) = (is_atom r.label && stands_at at r.place) || atom_at at rs

-- a stretch of the message or of the atom list's places: from, length
pub data Stretch : Type 0 where
  of_message of_list : ℕ → ℕ → Stretch

-- The text of the atom at this offset, with its mark: Latin-1 for 100 and 115, else UTF-8, as the list's texts are. 82 names a place of the list;
-- 100 and 118 have lengths of 2 bytes, 115 and 119 of 1
unfoldable pub text_of : List ℕ → AtomList → ℕ → Stretch × Coding
text_of message atoms at =
    let tag : ℕ = get_or message at 0 in
    let index : ℕ = get_or message (at + 1) 0 in
    let short : Stretch = of_message (at + 2) index in
    let long : Stretch = of_message (at + 3) (big_endian (take 2 (drop (at + 1) message))) in
    cond (eqb tag 82) (of_list (32 * index) (place_length atoms index), utf_8)
    (cond (eqb tag 100) (long, latin_1)
    (cond (eqb tag 118) (long, utf_8)
    (cond (eqb tag 115) (short, latin_1) (short, utf_8))))

-- the message's own refusal, or 4 at the offset asked for where none of its atoms' tags stands
unfoldable pub atom_text : List ℕ → AtomList → ℕ → Answer Terms → Answer (Stretch × Coding)
atom_text message atoms at (refused n p) = refused n p
atom_text message atoms at (good ts) = cond (atom_at at (rows none 0 ts)) (good (text_of message atoms at)) (refused 4 at)

-- the text of an atom of a message, asked for by its term's offset
unfoldable pub text_in : ℕ → Framing → AtomList → List ℕ → ℕ → Answer (Stretch × Coding)
text_in flags framing atoms message at = atom_text message atoms at (read flags framing atoms 8192 message)

-- the bytes of a stretch
unfoldable pub stretch_bytes : List ℕ → AtomList → Stretch → List ℕ
stretch_bytes message atoms (of_message from n) = take n (drop from message)
stretch_bytes message atoms (of_list from n) = take n (drop from atoms.places)

-- what the call that answers a text hands back: empty where refused
unfoldable pub text_bytes : List ℕ → AtomList → Answer (Stretch × Coding) → List ℕ
text_bytes message atoms (good t) = stretch_bytes message atoms t.0
text_bytes message atoms (refused n p) = []
