-- The connection record, which all calls but the reset share: a byte of flags that the nodes agreed on in the handshake.
use Rattle.std.specs.Prelude.{Bool, ℕ, ◌/◌, ◌%◌, eqb, ltb}
use Rattle.term_spec.specs.Text.{Coding, coding_of}

-- Bit 0, UTF-8: the texts of headers are in UTF-8, else in Latin-1
unfoldable pub coding_agreed : ℕ → Coding
coding_agreed flags = coding_of (eqb (flags % 2) 1)

-- Bit 1, V4_NC: newer identifiers
unfoldable pub v4_nc : ℕ → Bool
v4_nc flags = eqb (flags / 2 % 2) 1

-- Refusal 14: a record with an unknown flag, any other bit
unfoldable pub flags_known : ℕ → Bool
flags_known flags = ltb flags 4
