-- Where reading refuses with 5, its place is the bad byte of an atom's text that stands in the message: `BadTexts`, at the end.
use Rattle.std.specs.Prelude.{◌≡◌, List, ℕ, ◌+◌, ◌≤◌, length, get_or, take, drop, Err}
use Rattle.std.proofs.Math.Option.{some}
use Rattle.term_spec.specs.Numbers.{big_endian}
use Rattle.term_spec.specs.Text.{Coding}
use Rattle.term_spec.specs.BadByte.{BadByte}
use Rattle.term_spec.specs.Answer.{refused}
use Rattle.term_spec.specs.Head.{atom_ext, forms, form_in}
use Rattle.term_spec.specs.AtomList.{AtomList}
use Rattle.term_spec.specs.Message.{Framing, read}
use Rattle.term_spec.specs.Promises.{ReadCall, WriteCall}
use Rattle.term_spec.specs.Answers.{ReadAnswer, WriteAnswer}

-- An atom's text of so many bytes stands in the message from `first` on: before it its length, and before that the tag of an atom in this coding
pub record TextThere (message : List ℕ) (coding : Coding) (first size : ℕ) : Type 0 where
  pub tag_at : ℕ
  pub width : ℕ
  pub tag_is : form_in forms (get_or message tag_at 0) ≡ some (atom_ext coding width)
  pub first_is : first ≡ tag_at + 1 + width
  pub size_is : size ≡ big_endian (take width (drop (tag_at + 1) message))
  pub inside : first + size ≤ length message

-- byte p of the message is the bad byte of such a text
pub record BadText (message : List ℕ) (p : ℕ) : Type 0 where
  pub coding : Coding
  pub first : ℕ
  pub size : ℕ
  pub k : ℕ
  pub there : TextThere message coding first size
  pub place_is : p ≡ first + k
  pub bad : BadByte coding (take size (drop first message)) k

-- The place of refusal 5 is such a byte: in a standalone term or a payload, with any flags, any atom list and any number of lent rows
pub record BadTexts : Type 0 where
  -- of all that the rules refuse with 5
  pub by_the_rules : (flags : ℕ) (framing : Framing) (atoms : AtomList) (lent : ℕ) (message : List ℕ) (p : ℕ) → read flags framing atoms lent message ≡ refused 5 p
      → BadText message p
  -- of all that a call that reads refuses with 5
  pub by_reading : (flags : ℕ) (framing : Framing) (atoms : AtomList) (message table : List ℕ) (answer : ReadAnswer) (left : List ℕ)
      → ReadCall flags framing atoms message table answer left
      → (p : ℕ) → answer ≡ Err (record { number = 5; place = p }) → BadText message p
  -- of all that a call that writes refuses with 5
  pub by_writing : (flags : ℕ) (framing : Framing) (atoms : AtomList) (message scratch output : List ℕ) (answer : WriteAnswer) (scratch_is output_is : List ℕ)
      → WriteCall flags framing atoms message scratch output answer scratch_is output_is
      → (p : ℕ) → answer ≡ Err (record { number = 5; place = p }) → BadText message p
