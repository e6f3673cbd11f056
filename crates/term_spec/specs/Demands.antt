-- Demand 3: accepted terms, their outputs, and what is promised of them: `Demand3`, at the end.
use Rattle.std.specs.Prelude.{◌≡◌, ◌↔◌, ◌⊎◌, true, List, ◌++◌, ℕ, ◌≤◌, length, drop, replicate, Ok, Err}
use Rattle.term_spec.specs.Tree.{Forest, empty, ◌▹◌, ◌▹▹◌, count, size, sizes}
use Rattle.term_spec.specs.Term.{Label, Term}
use Rattle.term_spec.specs.Answer.{good}
use Rattle.term_spec.specs.Reading.{Located, meaning}
use Rattle.term_spec.specs.AtomList.{AtomList, of_size}
use Rattle.term_spec.specs.Message.{Framing, standalone, Terms, meanings, read}
use Rattle.term_spec.specs.Numbers.{Under}
use Rattle.term_spec.specs.Rows.{table_after}
use Rattle.term_spec.specs.Canonical.{canonical_standalone, standalones}
use Rattle.term_spec.specs.Promises.{ReadCall, WriteCall}
use Rattle.term_spec.specs.Answers.{ReadAnswer, WriteAnswer}

-- a term is one of these
abbrev pub IsOneOf : Term → Forest Label → Type 0
IsOneOf t empty = ⊥
IsOneOf t (u ▹ us) = (t ≡ u) ⊎ IsOneOf t us

-- An accepted term: a term of a message, standalone or payload, that the rules allow whole, with the connection's flags, its own atom list and 8,192 rows. A message is bytes
pub record AcceptedTerm (flags : ℕ) (t : Term) : Type 0 where
  pub framing : Framing
  pub list : AtomList
  pub message : List ℕ
  pub are_bytes : Under 256 message
  pub terms : Terms
  pub accepted : read flags framing list 8192 message ≡ good terms
  pub one_of_them : IsOneOf t (meanings terms)

-- in what is written for these terms stands the output of this one of them: after the outputs of those before it, and before those of the others
pub record OwnOutput (t : Term) (ts : Forest Label) : Type 0 where
  pub earlier : Forest Label
  pub others : Forest Label
  pub terms_are : ts ≡ earlier ▹▹ (t ▹ others)
  pub stands : standalones ts ≡ standalones earlier ++ (canonical_standalone t ++ standalones others)

-- What a call that writes leaves: so many terms, these bytes at the front of the output, the others as they were, the scratch table all zero
pub record WrittenOut (terms : ℕ) (bs scratch output : List ℕ) (answer : WriteAnswer) (scratch_is output_is : List ℕ) : Type 0 where
  pub answer_is : answer ≡ Ok (record { terms = terms; length = length bs })
  pub output_holds : output_is ≡ bs ++ drop (length bs) output
  pub scratch_zero : scratch_is ≡ replicate (length scratch) 0

-- What a call that writes leaves where it refuses: the refusal's number and place, the output as it was, the scratch table all zero
pub record RefusedOut (number place : ℕ) (scratch output : List ℕ) (answer : WriteAnswer) (scratch_is output_is : List ℕ) : Type 0 where
  pub answer_is : answer ≡ Err (record { number = number; place = place })
  pub output_stays : output_is ≡ output
  pub scratch_zero : scratch_is ≡ replicate (length scratch) 0

-- What is read: one term that means t, its rows in the table and all past them zero
pub record Means (t : Term) (table : List ℕ) (answer : ReadAnswer) (left : List ℕ) : Type 0 where
  pub tree : Located
  pub meaning_is : meaning tree ≡ t
  pub answer_is : answer ≡ Ok (record { terms = 1; rows = size t })
  pub rows_are : left ≡ table_after (length table) (good (tree ▹ empty))

-- The output of an accepted term, over the promises of the calls, with room and scratch rows enough where they are lent
pub record OutputOf (flags : ℕ) (t : Term) (a : AcceptedTerm flags t) : Type 0 where
  -- whatever scratch table and output held before, the writer's call on its message leaves in the output the canonical standalone terms of the message's
  -- terms, one after the other, the bytes past them as they were, and the scratch table all zero
  pub canonical_written : (scratch output : List ℕ) → sizes a.terms ≤ length scratch → length (standalones (meanings a.terms)) ≤ length output
      → (answer : WriteAnswer) (scratch_is output_is : List ℕ) → WriteCall flags a.framing a.list a.message scratch output answer scratch_is output_is
      → WrittenOut (count a.terms) (standalones (meanings a.terms)) scratch output answer scratch_is output_is
  -- its own output stands there
  pub own_output : OwnOutput t (meanings a.terms)
  -- its bytes, where they are at most 65,536, are accepted by the reader's call, with any atom list of the stated size, so with an empty one, and any table of
  -- at least as many rows as the term has; and they mean the same term
  pub read_again : (list : AtomList) → of_size list ≡ true → length (canonical_standalone t) ≤ 65536 → (table : List ℕ) → size t ≤ length table
      → (answer : ReadAnswer) (left : List ℕ) → ReadCall flags standalone list (canonical_standalone t) table answer left → Means t table answer left
  -- and the writer's call on them leaves the same bytes
  pub written_again : (list : AtomList) → of_size list ≡ true → length (canonical_standalone t) ≤ 65536
      → (scratch output : List ℕ) → size t ≤ length scratch → length (canonical_standalone t) ≤ length output
      → (answer : WriteAnswer) (scratch_is output_is : List ℕ) → WriteCall flags standalone list (canonical_standalone t) scratch output answer scratch_is output_is
      → WrittenOut 1 (canonical_standalone t) scratch output answer scratch_is output_is

-- Demand 3, for any two terms accepted with the same flags, of one message or of two: each has its output under these flags, and the two outputs are the same bytes exactly when the terms mean the same
pub record Demand3 (flags : ℕ) (t u : Term) (a : AcceptedTerm flags t) (b : AcceptedTerm flags u) : Type 0 where
  pub first_output : OutputOf flags t a
  pub second_output : OutputOf flags u b
  pub same_output : (canonical_standalone t ≡ canonical_standalone u) ↔ (t ≡ u)
