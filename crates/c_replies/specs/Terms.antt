-- The answers of the calls on terms for C, as numbers: the refusal's number (0: accepted) and place, then the call's own; what is not answered is 0.
use Rattle.std.specs.Prelude.{pos, Ok, Err}
use Rattle.std.specs.Float.{binary64}
use Rattle.std.specs.Float.Ieee.{of_bits}
use Rattle.term_spec.specs.Answers.{ReadAnswer, WriteAnswer, NumberAnswer, MarkAnswer}
use Rattle.term_spec.specs.declared.RowNumber.TheVariants as numbers
use Rattle.term_spec.specs.declared.Mark.TheVariants as marks
use Rattle.queries.specs.declared.TextAt.TheVariants as texts
use Rattle.queries.specs.Promises.{TextAnswer}
use Rattle.c_replies.specs.declared.ReadReply.{ReadReply}
use Rattle.c_replies.specs.declared.WriteReply.{WriteReply}
use Rattle.c_replies.specs.declared.NumberReply.{NumberReply}
use Rattle.c_replies.specs.declared.TextReply.{TextReply}
use Rattle.c_replies.specs.declared.MarkReply.{MarkReply}

unfoldable pub flat_read : ReadAnswer → ReadReply
flat_read (Ok read) = record { refusal = 0; place = 0; terms = read.terms; rows = read.rows }
flat_read (Err r) = record { refusal = r.number; place = r.place; terms = 0; rows = 0 }

unfoldable pub flat_write : WriteAnswer → WriteReply
flat_write (Ok written) = record { refusal = 0; place = 0; terms = written.terms; length = written.length }
flat_write (Err r) = record { refusal = r.number; place = r.place; terms = 0; length = 0 }

-- kind 1 whole, 2 float, 0 neither
unfoldable pub flat_number : NumberAnswer → NumberReply
flat_number (Ok (numbers.Whole z)) = record { refusal = 0; place = 0; kind = 1; integer = z; real = of_bits binary64 0 }
flat_number (Ok (numbers.Float x)) = record { refusal = 0; place = 0; kind = 2; integer = pos 0; real = x }
flat_number (Ok numbers.Neither) = record { refusal = 0; place = 0; kind = 0; integer = pos 0; real = of_bits binary64 0 }
flat_number (Err r) =
    record { refusal = r.number; place = r.place; kind = 0; integer = pos 0; real = of_bits binary64 0 }

-- from 1 the message, 2 the list's places, 0 nowhere
unfoldable pub flat_text : TextAnswer → TextReply
flat_text (Ok (texts.Message start size latin1)) = record { from = 1; start = start; length = size }
flat_text (Ok (texts.List start size)) = record { from = 2; start = start; length = size }
flat_text (Err r) = record { from = 0; start = 0; length = 0 }

-- mark 1 Latin-1, 2 UTF-8
unfoldable pub flat_mark : MarkAnswer → MarkReply
flat_mark (Ok marks.Latin1) = record { refusal = 0; place = 0; mark = 1 }
flat_mark (Ok marks.Utf8) = record { refusal = 0; place = 0; mark = 2 }
flat_mark (Err r) = record { refusal = r.number; place = r.place; mark = 0 }
