-- How long the lists of accepted terms are, at most: `NoLongList`, at the end. The canonical form has rules for such lists alone.
use Rattle.std.specs.Prelude.{◌≡◌, ◌⊎◌, List, ℕ, ◌≤◌, length, Ok}
use Rattle.term_spec.specs.Tree.{Forest, count, EachNode, EachNodes}
use Rattle.term_spec.specs.Term.{Label, Term, list, improper_list}
use Rattle.term_spec.specs.Answer.{good}
use Rattle.term_spec.specs.AtomList.{AtomList}
use Rattle.term_spec.specs.Message.{Framing, Terms, meanings, read}
use Rattle.term_spec.specs.Promises.{ReadCall, WriteCall}
use Rattle.term_spec.specs.Demands.{AcceptedTerm}
use Rattle.term_spec.specs.Answers.{ReadAnswer, WriteAnswer}

-- a list, proper or improper, has at most 8,191 elements; the tail of an improper one is counted with them
abbrev pub ShortList : Label → Forest Label → Type 0
ShortList l ts = (l ≡ list) ⊎ (l ≡ improper_list) → count ts ≤ 8191

-- What a call accepted: the terms that the rules find in the message with so many rows lent, and no list in them, at any depth, is longer
pub record ShortLists (flags : ℕ) (framing : Framing) (atoms : AtomList) (lent : ℕ) (message : List ℕ) (terms : ℕ) : Type 0 where
  pub found : Terms
  pub accepted : read flags framing atoms lent message ≡ good found
  pub terms_are : count found ≡ terms
  pub no_longer : EachNodes ShortList (meanings found)

-- No list in an accepted term, at any depth, proper or improper, has more than 8,191 elements: in a standalone term or a payload, with any flags, any atom list and any
-- number of lent rows
pub record NoLongList : Type 0 where
  -- of all that the rules allow
  pub by_the_rules : (flags : ℕ) (framing : Framing) (atoms : AtomList) (lent : ℕ) (message : List ℕ) (ts : Terms) → read flags framing atoms lent message ≡ good ts
      → EachNodes ShortList (meanings ts)
  -- of all that a call that reads accepts
  pub by_reading : (flags : ℕ) (framing : Framing) (atoms : AtomList) (message table : List ℕ) (answer : ReadAnswer) (left : List ℕ)
      → ReadCall flags framing atoms message table answer left
      → (terms rows : ℕ) → answer ≡ Ok (record { terms = terms; rows = rows }) → ShortLists flags framing atoms (length table) message terms
  -- of all that a call that writes writes
  pub by_writing : (flags : ℕ) (framing : Framing) (atoms : AtomList) (message scratch output : List ℕ) (answer : WriteAnswer) (scratch_is output_is : List ℕ)
      → WriteCall flags framing atoms message scratch output answer scratch_is output_is
      → (terms bytes : ℕ) → answer ≡ Ok (record { terms = terms; length = bytes }) → ShortLists flags framing atoms (length scratch) message terms
  -- of each accepted term of demand 3
  pub of_demand_3 : (flags : ℕ) (t : Term) → AcceptedTerm flags t → EachNode ShortList t
