-- The line that the bench program prints of an answer: fields parted by tabs.
use Rattle.std.specs.Prelude.{true, false, ◌≡◌, List, [], ◌∷◌, ◌++◌, ℕ, zero, suc, ◌+◌, ◌/◌, ◌%◌, ◌≤◌, ltb, length, drop}
use Rattle.io.specs.Digits.{hex_digit_ascii}
use Rattle.term_spec.specs.Answer.{Answer, good, refused}
use Rattle.term_spec.specs.AtomList.{empty_list}
use Rattle.term_spec.specs.Message.{standalone}
use Rattle.term_spec.specs.Writing.{Written, write}

-- two hexadecimal digits for each byte, in lower case
unfoldable pub hex : List ℕ → List ℕ
hex [] = []
hex (b ∷ bs) = hex_digit_ascii (b / 16) ∷ hex_digit_ascii (b % 16) ∷ hex bs

-- the decimal digits of n in ASCII, with no leading zero; at most `most` of them
unfoldable pub decimal_within : ℕ → ℕ → List ℕ
decimal_within zero n = []
decimal_within (suc most) n = elim (ltb n 10) [ true ↦ (48 + n) ∷ [] | false ↦ decimal_within most (n / 10) ++ ((48 + n % 10) ∷ []) ]

-- n has no more than n + 1 digits
unfoldable pub decimal : ℕ → List ℕ
decimal n = decimal_within (suc n) n

-- `ok`, tab, hex, line end
unfoldable pub ok_line : List ℕ → List ℕ
ok_line bs = 111 ∷ 107 ∷ 9 ∷ (hex bs ++ (10 ∷ []))

-- `refused`, tab, number, tab, place, line end
unfoldable pub refused_line : ℕ → ℕ → List ℕ
refused_line n p =
    114 ∷ 101 ∷ 102 ∷ 117 ∷ 115 ∷ 101 ∷ 100 ∷ 9 ∷ (decimal n ++ (9 ∷ (decimal p ++ (10 ∷ []))))

-- the line of what the writer answers
unfoldable pub line_of : Answer Written → List ℕ
line_of (good w) = ok_line w.bytes
line_of (refused n p) = refused_line n p

-- the bench's answer: both flags on, an empty list, 8,192 scratch rows and 65,536 bytes of output
unfoldable pub bench_answer : List ℕ → Answer Written
bench_answer input = write 3 standalone empty_list 8192 65536 input

-- r bytes, this text, stand at the front of lent bytes; every byte past them is as it was
pub record Stored (text before : List ℕ) (r : ℕ) (later : List ℕ) : Type 0 where
  pub counted : r ≡ length text
  pub inside : r ≤ length before
  pub bytes_left : later ≡ text ++ drop (length text) before
