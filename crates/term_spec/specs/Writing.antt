-- What writing a message answers, and the lent output and scratch table after it.
use Rattle.std.specs.Prelude.{true, false, List, ◌++◌, ℕ, leb, length, drop, replicate}
use Rattle.term_spec.specs.Tree.{count}
use Rattle.term_spec.specs.Answer.{Answer, good, refused}
use Rattle.term_spec.specs.AtomList.{AtomList}
use Rattle.term_spec.specs.Message.{Framing, Terms, meanings, read}
use Rattle.term_spec.specs.Canonical.{standalones}

-- what is written: the number of terms, and the canonical standalone form of each, one after the other
pub record Written : Type 0 where
  pub terms : ℕ
  pub bytes : List ℕ

-- The writer's answer, of a reading's. Refusal 11, last: output shorter than the canonical form
unfoldable pub written : ℕ → Answer Terms → Answer Written
written room (refused n p) = refused n p
written room (good ts) =
    let bs : List ℕ = standalones (meanings ts) in
    elim (leb (length bs) room) [ true ↦ good (record { terms = count ts; bytes = bs }) | false ↦ refused 11 0 ]

-- with the connection's flags, this atom list, so many scratch rows and so many bytes of output lent
unfoldable pub write : ℕ → Framing → AtomList → ℕ → ℕ → List ℕ → Answer Written
write flags framing list scratch room message = written room (read flags framing list scratch message)

-- the lent output after it: bytes past those written stay, and all stay where it is refused
unfoldable pub output_after : List ℕ → Answer Written → List ℕ
output_after before (good w) = w.bytes ++ drop (length w.bytes) before
output_after before (refused n p) = before

-- the scratch table always ends all zero
unfoldable pub scratch_after : ℕ → List ℕ
scratch_after lent = replicate lent 0
