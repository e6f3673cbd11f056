-- What the code answers for a text: that it is one, or the offset at which it fails; whether it is one.
-- About the code alone, proved against the definitions of term_spec: nothing here has to be believed.
use Rattle.std.specs.Prelude.{Bool, true, false, ℕ, Result, Ok, Err, ⊤}
use Rattle.term_spec.specs.Text.{Checked, valid, invalid_at}

unfoldable pub shown : Checked → Result ⊤ ℕ
shown (valid cs) = Ok tt
shown (invalid_at k) = Err k

-- is it a text?
unfoldable pub is_valid : Checked → Bool
is_valid (valid cs) = true
is_valid (invalid_at k) = false
