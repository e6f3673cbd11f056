-- What the functions answer of a term's own fields that are no number, and no text.
use mathlib.Core.Path.{◌≡◌, refl}
use mathlib.Core.Bool.{Bool}
use Prim.Native.Nat.{ℕ}
use Rattle.std.proofs.Common.{Err}
use Rattle.term_spec.specs.Answers.{number_case}
use Rattle.term_spec.specs.declared.RowNumber.TheVariants as numbers
use Rattle.row_fields.specs.declared.Content.{Content}
use Rattle.row_fields.specs.declared.Content.TheVariants.{Nothing, Whole, Big, Float, Text, Bytes, Bits, Pid, Port, Reference}
use Rattle.queries.specs.Code.{content_number, text_said}

-- neither an integer of at most 8 digits nor a float
pub no_number : (c : Content) → ((negative : Bool) (n : ℕ) → c ≡ Whole negative n → ⊥) → ((bits : ℕ) → c ≡ Float bits → ⊥) → numbers.Neither ≡ number_case (content_number c)
unfolding content_number number_case
no_number Nothing w f = refl
no_number (Whole negative n) w f = absurd (w negative n refl)
no_number (Big negative start n) w f = refl
no_number (Float bits) w f = absurd (f bits refl)
no_number (Text latin1 listed start n) w f = refl
no_number (Bytes start n) w f = refl
no_number (Bits bits start n) w f = refl
no_number (Pid id serial creation) w f = refl
no_number (Port id creation) w f = refl
no_number (Reference creation start n) w f = refl

module _ (at : ℕ) where
  -- no atom
  pub no_text : (c : Content) → ((latin1 listed : Bool) (start n : ℕ) → c ≡ Text latin1 listed start n → ⊥) → Err (record { number = 4; place = at }) ≡ text_said at c
  unfolding text_said
  no_text Nothing h = refl
  no_text (Whole negative n) h = refl
  no_text (Big negative start n) h = refl
  no_text (Float bits) h = refl
  no_text (Text latin1 listed start n) h = absurd (h latin1 listed start n refl)
  no_text (Bytes start n) h = refl
  no_text (Bits bits start n) h = refl
  no_text (Pid id serial creation) h = refl
  no_text (Port id creation) h = refl
  no_text (Reference creation start n) h = refl
