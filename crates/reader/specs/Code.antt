-- What the contracts of the message level say of the code's own values.
-- About the code alone, proved against the definitions of term_spec: nothing here has to be believed.
use Rattle.std.specs.Prelude.{Bool, true, false, List, ℕ, Option, Some, None, Ok, Err, leb, length}
use Rattle.std.proofs.Math.Option.{none}
use Rattle.term_spec.specs.Tree.{count, sizes}
use Rattle.term_spec.specs.Connection.{flags_known}
use Rattle.term_spec.specs.Head.{Given}
use Rattle.term_spec.specs.Answer.{Answer, Position, at_offset}
use Rattle.term_spec.specs.AtomList.{AtomList, of_size}
use Rattle.term_spec.specs.Message as message
use Rattle.term_spec.specs.Message.{Terms, outermost, terms_framed}
use Rattle.term_spec.specs.Rows.{rows, row_words}
use Rattle.term_spec.specs.Answers.{ReadAnswer}
use Rattle.term_reader.specs.Code.{Step, Done, TermDone}
use Rattle.reader.specs.declared.Framing.{Framing}
use Rattle.reader.specs.declared.Framing.TheVariants as framing

-- an outermost term: its rows are stored in the table from `row` on
abbrev pub OutermostRead : List ℕ → Given → ℕ → ℕ → ℕ → List ℕ → Step → List ℕ → Type 0
OutermostRead m given cap at row T = TermDone m cap row 0 T (outermost given cap (at_offset m at row))

-- some terms: their rows are stored in the table from its front on
abbrev pub MessageDone : List ℕ → ℕ → List ℕ → Answer (Terms × Position) → ReadAnswer → List ℕ → Type 0
MessageDone m cap =
    Done (λ ts next end. Ok (record { terms = count ts; rows = end })) (λ n p. Err (record { number = n; place = p })) sizes (λ ts. row_words (rows none 0 ts)) (λ ts. Unit {0}) m cap 0

-- the terms of a message that are set so
abbrev pub MessageRead : message.Framing → List ℕ → Given → ℕ → List ℕ → ReadAnswer → List ℕ → Type 0
MessageRead framing m given cap T = MessageDone m cap T (terms_framed given cap framing (at_offset m 0 0))

-- how the terms of a message are set
unfoldable pub framing_of : Framing → message.Framing
framing_of framing.Standalone = message.standalone
framing_of framing.Payload = message.payload

-- the refusal before any byte is read: 13, then 14, then 12
unfoldable pub first_number : Bool → Bool → Bool → Option ℕ
first_number false known short = Some 13
first_number true false short = Some 14
first_number true true false = Some 12
first_number true true true = None

unfoldable pub first_refusal : ℕ → AtomList → List ℕ → Option ℕ
first_refusal flags list m = first_number (of_size list) (flags_known flags) (leb (length m) 65536)

-- the rows that an answer says
unfoldable pub rows_in : ReadAnswer → ℕ
rows_in (Ok x) = x.rows
rows_in (Err x) = 0
