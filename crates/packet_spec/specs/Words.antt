-- The word of a reference: the text of reference i of a message, by that message's atom list. A refusal's place is 0.
use Rattle.std.specs.Prelude.{List, [], ◌∷◌, ℕ, zero, suc, ltb}
use Rattle.term_spec.specs.Text.{Checked, valid, invalid_at}
use Rattle.term_spec.specs.Connection.{flags_known}
use Rattle.term_spec.specs.Answer.{Answer, good, refused}
use Rattle.term_spec.specs.AtomList.{AtomList, of_size, place_bytes, place_text}
use Rattle.term_spec.specs.Message.{first_check}
use Rattle.packet_spec.specs.Header.{Reference}

-- Refusal 14: a length over 32, or a text that is not UTF-8
unfoldable pub word_if : List ℕ → Checked → Answer (List ℕ)
word_if bs (valid cs) = good bs
word_if bs (invalid_at k) = refused 14 0

-- Order: 13 on the list's size, 14 for an unknown flag, 6 for an index not below n, 14
unfoldable pub listed_word : ℕ → AtomList → ℕ → Answer (List ℕ)
listed_word flags list i =
    first_check (of_size list) 13
    (first_check (flags_known flags) 14
    (first_check (ltb i list.n) 6 (word_if (place_bytes list i) (place_text list i))))

-- What a header's own references say: the text of reference i, and 6 for an index not below their number
unfoldable pub own_word : List Reference → ℕ → Answer (List ℕ)
own_word [] i = refused 6 0
own_word (r ∷ rs) zero = good r.text
own_word (r ∷ rs) (suc i) = own_word rs i
