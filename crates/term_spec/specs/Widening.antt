-- V4_NC only widens: what is accepted without it is accepted with it, as the same terms. `OnlyWidens`, at the end.
use Rattle.std.specs.Prelude.{◌≡◌, true, List, ℕ, Ok}
use Rattle.term_spec.specs.Connection.{v4_nc, flags_known}
use Rattle.term_spec.specs.Answer.{good}
use Rattle.term_spec.specs.AtomList.{AtomList}
use Rattle.term_spec.specs.Message.{Framing, Terms, read}
use Rattle.term_spec.specs.Promises.{ReadCall, WriteCall}
use Rattle.term_spec.specs.Answers.{ReadAnswer, WriteAnswer}

-- What is accepted with some flags is accepted, as the same terms, with V4_NC beside them: V4_NC only widens
pub record OnlyWidens : Type 0 where
  -- by the rules
  pub still_read : (flags wider : ℕ) → flags_known wider ≡ true → (v4_nc flags ≡ true → v4_nc wider ≡ true)
      → (framing : Framing) (list : AtomList) (lent : ℕ) (message : List ℕ) (ts : Terms) → read flags framing list lent message ≡ good ts → read wider framing list lent message ≡ good ts
  -- by the calls: a call that reads answers and leaves the same
  pub by_reading : (flags wider : ℕ) → flags_known wider ≡ true → (v4_nc flags ≡ true → v4_nc wider ≡ true)
      → (framing : Framing) (list : AtomList) (message table : List ℕ) (answer answer' : ReadAnswer) (left left' : List ℕ)
      → ReadCall flags framing list message table answer left → ReadCall wider framing list message table answer' left'
      → (terms rows : ℕ) → answer ≡ Ok (record { terms = terms; rows = rows }) → (answer' ≡ answer) × (left' ≡ left)
  -- and one that writes
  pub by_writing : (flags wider : ℕ) → flags_known wider ≡ true → (v4_nc flags ≡ true → v4_nc wider ≡ true)
      → (framing : Framing) (list : AtomList) (message scratch output : List ℕ) (answer answer' : WriteAnswer) (scratch_is scratch_is' output_is output_is' : List ℕ)
      → WriteCall flags framing list message scratch output answer scratch_is output_is → WriteCall wider framing list message scratch output answer' scratch_is' output_is'
      → (terms bytes : ℕ) → answer ≡ Ok (record { terms = terms; length = bytes }) → (answer' ≡ answer) × (scratch_is' ≡ scratch_is) × (output_is' ≡ output_is)
