-- What a content says: the label that its fields make.
-- About the code alone, proved against the definitions of term_spec: nothing here has to be believed.
use Rattle.std.specs.Prelude.{Bool, cond, List, [], ℕ, eqb}
use Rattle.term_spec.specs.Numbers.{little_endian, with_sign}
use Rattle.term_spec.specs.Text.{Checked, valid, invalid_at, utf_8, check}
use Rattle.term_spec.specs.Term.{Label, integer, float, atom, tuple, list, improper_list, binary, bitstring, map, pid, port, reference, export}
use Rattle.term_spec.specs.Head.{clear_low}
use Rattle.term_spec.specs.AtomList.{AtomList}
pub use Rattle.octets.specs.Parts.{stretch}
unfoldable pub use Rattle.octets.specs.Parts.{words_at}
use Rattle.row_fields.specs.declared.Content.{Content}
use Rattle.row_fields.specs.declared.Content.TheVariants.{Nothing, Whole, Big, Float, Text, Bytes, Bits, Pid, Port, Reference}

abbrev pub sign : Bool → ℕ
sign negative = cond negative 1 0

-- a text's characters: none where it is invalid
unfoldable pub characters_of : Checked → List ℕ
characters_of (valid cs) = cs
characters_of (invalid_at k) = []

unfoldable pub coded : Bool → List ℕ → List ℕ
coded latin1 bs = cond latin1 bs (characters_of (check utf_8 bs))

-- the label of a term that has no fields of its own, by its kind
unfoldable pub bare : ℕ → Label
bare kind = cond (eqb kind 4) tuple (cond (eqb kind 5) list (cond (eqb kind 6) improper_list (cond (eqb kind 9) map export)))

unfoldable pub label_of : List ℕ → AtomList → ℕ → Content → Label
label_of m atoms kind Nothing = bare kind
label_of m atoms kind (Whole negative n) = integer (with_sign (sign negative) n)
label_of m atoms kind (Big negative start n) = integer (with_sign (sign negative) (little_endian (stretch m start n)))
label_of m atoms kind (Float bits) = float bits
label_of m atoms kind (Text latin1 listed start n) = atom (coded latin1 (stretch (cond listed atoms.places m) start n))
label_of m atoms kind (Bytes start n) = binary (stretch m start n)
label_of m atoms kind (Bits bits start n) = bitstring bits (clear_low bits (stretch m start n))
label_of m atoms kind (Pid id serial creation) = pid id serial creation
label_of m atoms kind (Port id creation) = port id creation
label_of m atoms kind (Reference creation start n) = reference creation (words_at m start n)

-- a row's kind, that of a character being an integer's
unfoldable pub term_kind : ℕ → ℕ
term_kind kind = cond (eqb kind 14) 1 kind
