-- The own fields of the term whose tag stands at an offset of the message, as they are found again: total, with the tests of the code in their order.
-- The message was read before, so nothing is judged again: fields that are not there are Nothing.
-- About the code alone, proved against the definitions of term_spec: nothing here has to be believed.
use Rattle.std.specs.Prelude.{Bool, true, false, cond, List, ℕ, zero, suc, ◌+◌, ◌*◌, ◌-◌, eqb, leb, ltb, length, get_or, take, drop, Option, Some, None, unwrap_or}
use Rattle.term_spec.specs.Numbers.{little_endian}
pub use Rattle.octets.specs.Parts.{Width, value}
use Rattle.octets.specs.Parts.{counted_end}
use Rattle.row_fields.specs.declared.Content.{Content}
use Rattle.row_fields.specs.declared.Content.TheVariants.{Nothing, Whole, Big, Float, Text, Bytes, Bits, Pid, Port, Reference}

-- a content where the message has the bytes that are counted
unfoldable pub if_counted : Option ℕ → Content → Content
if_counted None c = Nothing
if_counted (Some end) c = c

-- the number of digits, of the n from `start` on, up to the highest that is not zero
unfoldable pub stripped : List ℕ → ℕ → ℕ → ℕ
stripped m start zero = 0
stripped m start (suc n) = cond (eqb (get_or m (start + n) 0) 0) (stripped m start n) (suc n)

-- an integer of one byte
unfoldable pub byte_found : List ℕ → ℕ → Content
byte_found m at = cond (ltb (length m - at) 1) Nothing (Whole false (value m 1 at))

-- an integer of 32 bits
unfoldable pub signed_whole : ℕ → Content
signed_whole n = cond (ltb n 2147483648) (Whole false n) (Whole true (4294967296 - n))

unfoldable pub signed_found : List ℕ → ℕ → Content
signed_found m at = cond (ltb (length m - at) 5) Nothing (signed_whole (value m 4 (at + 1)))

-- an integer by its sign and digits, the highest not zero
unfoldable pub integer_of : Bool → ℕ → Content
integer_of negative n = cond (eqb n 0) (Whole false 0) (Whole negative n)

unfoldable pub stripped_found : List ℕ → Bool → ℕ → ℕ → Content
stripped_found m negative start n =
    cond (ltb 8 n) (Big negative start n) (integer_of negative (little_endian (take n (drop start m))))

-- an integer by its sign and digits, with w bytes of their number
unfoldable pub big_found : List ℕ → ℕ → ℕ → Content
big_found m w at =
    if_counted (counted_end m at w 1)
    (stripped_found m (ltb 0 (value m 1 (at + 1 + w))) (at + 2 + w) (stripped m (at + 2 + w) (value m w (at + 1))))

unfoldable pub integer_found : List ℕ → ℕ → ℕ → Content
integer_found m at tag =
    cond (eqb tag 97) (byte_found m (at + 1))
    (cond (eqb tag 98) (signed_found m at)
    (cond (eqb tag 110) (big_found m 1 at)
    (cond (eqb tag 111) (big_found m 4 at) Nothing)))

unfoldable pub float_found : List ℕ → ℕ → Content
float_found m at = cond (ltb (length m - at) 9) Nothing (Float (value m 8 (at + 1)))

-- the width of an atom's length; None for tag 82, which has none
unfoldable pub text_width : ℕ → Option ℕ
text_width tag = cond (eqb tag 100) (Some 2) (cond (eqb tag 118) (Some 2) (cond (eqb tag 115) (Some 1) (cond (eqb tag 119) (Some 1) None)))

-- an atom's text in the message
unfoldable pub text_found : List ℕ → ℕ → Bool → ℕ → Content
text_found m w latin1 at = if_counted (counted_end m at w 0) (Text latin1 false (at + 1 + w) (value m w (at + 1)))

-- the text of the list's place i
unfoldable pub place_found : List ℕ → List ℕ → ℕ → Content
place_found places lengths i =
    cond (leb (length lengths) i) Nothing
    (cond (ltb (length places - 32 * i) (get_or lengths i 0)) Nothing
    (Text false true (32 * i) (get_or lengths i 0)))

unfoldable pub listed_found : List ℕ → List ℕ → List ℕ → ℕ → Content
listed_found m places lengths at = cond (ltb (length m - at) 2) Nothing (place_found places lengths (value m 1 (at + 1)))

unfoldable pub atom_found : List ℕ → List ℕ → List ℕ → ℕ → ℕ → Content
atom_found m places lengths at tag =
    elim (text_width tag) [ Some w ↦ text_found m w (ltb tag 118) at | None ↦ listed_found m places lengths at ]

-- where an atom of the message ends
unfoldable pub text_end : List ℕ → Option ℕ → ℕ → ℕ
text_end m (Some w) at = unwrap_or (counted_end m at w 0) (length m)
text_end m None at = at + 2

unfoldable pub atom_end : List ℕ → ℕ → ℕ
atom_end m at = cond (ltb (length m - at) 1) (length m) (text_end m (text_width (get_or m at 0)) at)

-- bytes, and bytes of whose last one some bits count
unfoldable pub bytes_found : List ℕ → ℕ → Content
bytes_found m at = if_counted (counted_end m at 4 0) (Bytes (at + 5) (value m 4 (at + 1)))

unfoldable pub bits_of : ℕ → ℕ → ℕ → Content
bits_of bits start n = cond (eqb bits 0) (Bytes start n) (cond (eqb bits 8) (Bytes start n) (Bits bits start n))

unfoldable pub bits_found : List ℕ → ℕ → Content
bits_found m at =
    if_counted (counted_end m at 4 1) (bits_of (value m 1 (at + 5)) (at + 6) (value m 4 (at + 1)))

unfoldable pub binary_found : List ℕ → ℕ → ℕ → Content
binary_found m at tag = cond (eqb tag 77) (bits_found m at) (bytes_found m at)

-- the fields after an identifier's node, from its end on
unfoldable pub pid_found : List ℕ → ℕ → ℕ → Content
pid_found m w end = cond (ltb (length m - end) (8 + w)) Nothing (Pid (value m 4 end) (value m 4 (end + 4)) (value m w (end + 8)))

unfoldable pub port_found : List ℕ → ℕ → ℕ → ℕ → Content
port_found m v w end = cond (ltb (length m - end) (v + w)) Nothing (Port (value m v end) (value m w (end + v)))

unfoldable pub words_found : List ℕ → ℕ → ℕ → ℕ → Content
words_found m w n end = cond (ltb (length m - end) (w + 4 * n)) Nothing (Reference (value m w end) (end + w) n)

unfoldable pub word_found : List ℕ → ℕ → Content
word_found m end = cond (ltb (length m - end) 5) Nothing (Reference (value m 1 (end + 4)) end 1)

unfoldable pub counted_found : List ℕ → ℕ → ℕ → Content
counted_found m w at = cond (ltb (length m - at) 3) Nothing (words_found m w (value m 2 (at + 1)) (atom_end m (at + 3)))

unfoldable pub pids_found : List ℕ → ℕ → ℕ → Content
pids_found m at tag = pid_found m (cond (eqb tag 103) 1 4) (atom_end m (at + 1))

unfoldable pub ports_found : List ℕ → ℕ → ℕ → Content
ports_found m at tag =
    cond (eqb tag 120) (port_found m 8 4 (atom_end m (at + 1)))
    (cond (eqb tag 102) (port_found m 4 1 (atom_end m (at + 1)))
    (port_found m 4 4 (atom_end m (at + 1))))

unfoldable pub references_found : List ℕ → ℕ → ℕ → Content
references_found m at tag =
    cond (eqb tag 101) (word_found m (atom_end m (at + 1)))
    (cond (eqb tag 114) (counted_found m 1 at)
    (counted_found m 4 at))

-- by the row's kind (`kind_of`)
unfoldable pub kind_found : List ℕ → List ℕ → List ℕ → ℕ → ℕ → Content
kind_found m places lengths at kind =
    cond (eqb kind 1) (integer_found m at (get_or m at 0))
    (cond (eqb kind 2) (float_found m at)
    (cond (eqb kind 3) (atom_found m places lengths at (get_or m at 0))
    (cond (eqb kind 7) (binary_found m at (get_or m at 0))
    (cond (eqb kind 8) (binary_found m at (get_or m at 0))
    (cond (eqb kind 10) (pids_found m at (get_or m at 0))
    (cond (eqb kind 11) (ports_found m at (get_or m at 0))
    (cond (eqb kind 12) (references_found m at (get_or m at 0))
    (cond (eqb kind 14) (byte_found m at)
    Nothing))))))))

unfoldable pub content_of : List ℕ → List ℕ → List ℕ → ℕ → ℕ → Content
content_of m places lengths kind at = cond (leb (length m) at) Nothing (kind_found m places lengths at kind)
