-- What the calls that look into a message promise: relations of what is lent to a call and what it answers.
use Rattle.std.specs.Prelude.{◌≡◌, Bool, true, false, List, ℕ, ◌+◌, ◌≤◌, length, Result, Ok, Err}
use Rattle.term_spec.specs.Text.{Coding, latin_1, utf_8}
use Rattle.term_spec.specs.Answer.{Answer, good, refused}
use Rattle.term_spec.specs.AtomList.{AtomList}
use Rattle.term_spec.specs.Message.{Framing}
use Rattle.term_spec.specs.Answers.{NumberAnswer, MarkAnswer, number_answer, mark_answer}
use Rattle.term_spec.specs.Look.{Stretch, of_message, of_list, number_in, text_in, text_bytes}
use Rattle.term_spec.specs.declared.Refusal.{Refusal}
use Rattle.queries.specs.declared.TextAt.{TextAt}
use Rattle.queries.specs.declared.TextAt.TheVariants as texts

-- Where a text stands, as the code has it: a stretch of the message with its mark, or a stretch of the list's places; or the refusal
abbrev pub TextAnswer : Type 0
TextAnswer = Result TextAt Refusal

unfoldable pub is_latin1 : Coding → Bool
is_latin1 latin_1 = true
is_latin1 utf_8 = false

unfoldable pub stretch_at : Stretch → Coding → TextAt
stretch_at (of_message start n) coding = texts.Message start n (is_latin1 coding)
stretch_at (of_list start n) coding = texts.List start n

unfoldable pub text_at : Answer (Stretch × Coding) → TextAnswer
text_at (good t) = Ok (stretch_at t.0 t.1)
text_at (refused n p) = Err (record { number = n; place = p })

-- a stretch stays inside the message, or inside the list's places
unfoldable pub TextInside : List ℕ → List ℕ → TextAnswer → Type 0
TextInside m places (Ok (texts.Message start n latin1)) = start + n ≤ length m
TextInside m places (Ok (texts.List start n)) = start + n ≤ length places
TextInside m places (Err refusal) = Unit {0}

-- a row's number
abbrev pub NumberCall : ℕ → Framing → AtomList → List ℕ → ℕ → NumberAnswer → Type 0
NumberCall flags framing list message row answer = answer ≡ number_answer (number_in flags framing list message row)

-- where the text stands of the atom whose tag is at this offset: settled whole, and inside the message or the list's places
pub record LocateCall (flags : ℕ) (framing : Framing) (list : AtomList) (message : List ℕ) (at : ℕ) (answer : TextAnswer) : Type 0 where
  pub text_located : answer ≡ text_at (text_in flags framing list message at)
  pub text_inside : TextInside message list.places answer

-- its bytes, none where refused
abbrev pub TextCall : ℕ → Framing → AtomList → List ℕ → ℕ → List ℕ → Type 0
TextCall flags framing list message at bytes = bytes ≡ text_bytes message list (text_in flags framing list message at)

-- its mark
abbrev pub MarkCall : ℕ → Framing → AtomList → List ℕ → ℕ → MarkAnswer → Type 0
MarkCall flags framing list message at answer = answer ≡ mark_answer (text_in flags framing list message at)
