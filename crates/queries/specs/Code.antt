-- What the calls find, said of the table's words and the message's bytes alone, with the tests of the code in their order.
-- About the code alone, proved against the definitions of term_spec: nothing here has to be believed.
use Rattle.std.specs.Prelude.{Bool, false, cond, List, [], ℕ, ◌-◌, ◌%◌, eqb, leb, ltb, pos, negsuc, get_or, take, drop, Ok, Err, ◌≤◌, length, min}
use Rattle.std.specs.List.{list_any}
use Rattle.term_spec.specs.Rows.{kind_in, offset_in}
use Rattle.term_spec.specs.Look.{Number, whole_number, float_bits, neither}
use Rattle.term_spec.specs.AtomList.{AtomList}
use Rattle.term_spec.specs.Message.{Framing}
use Rattle.term_spec.specs.Promises.{ReadCall}
use Rattle.term_spec.specs.Answers.{ReadAnswer, NumberAnswer, number_case}
use Rattle.term_spec.specs.declared.Refusal.{Refusal}
use Rattle.term_spec.specs.declared.RowNumber.TheVariants as numbers
use Rattle.term_spec.specs.declared.Mark.{Mark}
use Rattle.term_spec.specs.declared.Mark.TheVariants as marks
use Rattle.row_fields.specs.declared.Content.{Content}
use Rattle.row_fields.specs.declared.Content.TheVariants as content
use Rattle.row_fields.specs.Found.{content_of}
use Rattle.queries.specs.declared.TextAt.{TextAt}
use Rattle.queries.specs.declared.TextAt.TheVariants as texts
use Rattle.queries.specs.Promises.{TextAnswer}

-- ---- numbers

-- the whole number with this sign and magnitude
unfoldable pub signed_number : Bool → ℕ → Number
signed_number negative n =
    cond negative
    (cond (eqb n 0) (whole_number (pos 0)) (cond (ltb 9223372036854775808 n) neither (whole_number (negsuc (n - 1)))))
    (cond (ltb n 9223372036854775808) (whole_number (pos n)) neither)

-- the float of these bits, where its exponent is not all ones
unfoldable pub float_number : ℕ → Number
float_number bits = cond (ltb (bits % 9223372036854775808) 9218868437227405312) (float_bits bits) neither

unfoldable pub content_number : Content → Number
content_number content.Nothing = neither
content_number (content.Whole negative n) = signed_number negative n
content_number (content.Big negative start n) = neither
content_number (content.Float bits) = float_number bits
content_number (content.Text latin1 listed start n) = neither
content_number (content.Bytes start n) = neither
content_number (content.Bits bits start n) = neither
content_number (content.Pid id serial creation) = neither
content_number (content.Port id creation) = neither
content_number (content.Reference creation start n) = neither

unfoldable pub numbered : List ℕ → List ℕ → List ℕ → List ℕ → ReadAnswer → ℕ → NumberAnswer
numbered m places lengths T (Ok read) row =
    Ok (cond (leb read.rows row) numbers.Neither
    (number_case (content_number (content_of m places lengths (kind_in (get_or T row 0)) (offset_in (get_or T row 0))))))
numbered m places lengths T (Err refusal) row = Err refusal

-- ---- texts

unfoldable pub atom_row : ℕ → ℕ → Bool
atom_row w at = cond (eqb (kind_in w) 3) (eqb (offset_in w) at) false

-- of the first n rows
unfoldable pub atom_among : List ℕ → ℕ → ℕ → Bool
atom_among T n at = list_any (λ w. atom_row w at) (take n T)

abbrev pub no_atom : ℕ → Refusal
no_atom at = record { number = 4; place = at }

unfoldable pub text_said : ℕ → Content → TextAnswer
text_said at content.Nothing = Err (no_atom at)
text_said at (content.Whole negative n) = Err (no_atom at)
text_said at (content.Big negative start n) = Err (no_atom at)
text_said at (content.Float bits) = Err (no_atom at)
text_said at (content.Text latin1 listed start n) = Ok (cond listed (texts.List start n) (texts.Message start n latin1))
text_said at (content.Bytes start n) = Err (no_atom at)
text_said at (content.Bits bits start n) = Err (no_atom at)
text_said at (content.Pid id serial creation) = Err (no_atom at)
text_said at (content.Port id creation) = Err (no_atom at)
text_said at (content.Reference creation start n) = Err (no_atom at)

unfoldable pub located : List ℕ → List ℕ → List ℕ → List ℕ → ReadAnswer → ℕ → TextAnswer
located m places lengths T (Ok read) at =
    cond (atom_among T read.rows at) (text_said at (content_of m places lengths 3 at)) (Err (no_atom at))
located m places lengths T (Err refusal) at = Err refusal

-- its mark, and its bytes, none where refused
unfoldable pub mark_at : TextAt → Mark
mark_at (texts.Message start n latin1) = cond latin1 marks.Latin1 marks.Utf8
mark_at (texts.List start n) = marks.Utf8

unfoldable pub bytes_at : List ℕ → List ℕ → TextAnswer → List ℕ
bytes_at m places (Ok (texts.Message start n latin1)) = take n (drop start m)
bytes_at m places (Ok (texts.List start n)) = take n (drop start places)
bytes_at m places (Err refusal) = []

-- ---- both questions

-- what was read of a message into a table that is large enough, whose answer and whose rows after it are as P says
pub record Asked (flags : ℕ) (framing : Framing) (list : AtomList) (m : List ℕ) (P : List ℕ → ReadAnswer → Type 0) : Type 0 where
  pub lent : List ℕ
  pub table : List ℕ
  pub read : ReadAnswer
  pub enough : min 8192 (length m) ≤ length lent
  pub most : length lent ≤ 8192
  pub called : ReadCall flags framing list m lent read table
  pub answered : P table read
