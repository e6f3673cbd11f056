-- The answers of the calls, as the code has them: for each answer of document 01 an Ok, or an Err with the refusal's number and place.
use Rattle.std.specs.Float.{binary64}
use Rattle.std.specs.Float.Ieee.{of_bits}
use Rattle.std.specs.Prelude.{Result, Ok, Err, length}
use Rattle.term_spec.specs.declared.Refusal.{Refusal}
use Rattle.term_spec.specs.declared.TermsRead.{TermsRead}
use Rattle.term_spec.specs.declared.TermsWritten.{TermsWritten}
use Rattle.term_spec.specs.declared.RowNumber.{RowNumber}
use Rattle.term_spec.specs.declared.RowNumber.TheVariants as numbers
use Rattle.term_spec.specs.declared.Mark.{Mark}
use Rattle.term_spec.specs.declared.Mark.TheVariants as marks
use Rattle.term_spec.specs.Tree.{count, sizes}
use Rattle.term_spec.specs.Text.{Coding, latin_1, utf_8}
use Rattle.term_spec.specs.Answer.{Answer, good, refused}
use Rattle.term_spec.specs.Message.{Terms}
use Rattle.term_spec.specs.Writing.{Written}
use Rattle.term_spec.specs.Look.{Number, whole_number, float_bits, neither, Stretch}

abbrev pub ReadAnswer : Type 0
ReadAnswer = Result TermsRead Refusal

abbrev pub WriteAnswer : Type 0
WriteAnswer = Result TermsWritten Refusal

abbrev pub NumberAnswer : Type 0
NumberAnswer = Result RowNumber Refusal

abbrev pub MarkAnswer : Type 0
MarkAnswer = Result Mark Refusal

-- reading: the number of terms and of rows
unfoldable pub read_answer : Answer Terms → ReadAnswer
read_answer (good ts) = Ok (record { terms = count ts; rows = sizes ts })
read_answer (refused n p) = Err (record { number = n; place = p })

-- writing: the number of terms and of bytes
unfoldable pub write_answer : Answer Written → WriteAnswer
write_answer (good w) = Ok (record { terms = w.terms; length = length w.bytes })
write_answer (refused n p) = Err (record { number = n; place = p })

-- a row's number: a whole number, the float that has exactly those 64 bits, or neither
unfoldable pub number_case : Number → RowNumber
number_case (whole_number z) = numbers.Whole z
number_case (float_bits bits) = numbers.Float (of_bits binary64 bits)
number_case neither = numbers.Neither

unfoldable pub number_answer : Answer Number → NumberAnswer
number_answer (good x) = Ok (number_case x)
number_answer (refused n p) = Err (record { number = n; place = p })

-- an atom's mark
unfoldable pub mark_case : Coding → Mark
mark_case latin_1 = marks.Latin1
mark_case utf_8 = marks.Utf8

unfoldable pub mark_answer : Answer (Stretch × Coding) → MarkAnswer
mark_answer (good t) = Ok (mark_case t.1)
mark_answer (refused n p) = Err (record { number = n; place = p })
