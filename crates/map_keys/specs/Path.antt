-- The path of a key through the slots of the set: 256 steps in 128 rounds of two.
-- About the code alone, proved against the definitions of term_spec: nothing here has to be believed.
use Rattle.std.specs.Prelude.{cond, List, ℕ, ◌+◌, ◌*◌, ◌/◌, ◌%◌, eqb, length, get_or}
use Rattle.term_hash.specs.Hash.{round_hash}

-- which of n slots a path comes to at step d, where hs are the hashes of all rounds: each round looks at the slot to which its hash points and at the next one
unfoldable pub place : (ℕ → ℕ) → ℕ → ℕ → ℕ
place hs n d = (hs (d / 2) * n / 65536 + d % 2) % n

-- the same by the seed of the round and slot i at the step before
unfoldable pub next_place : ℕ → ℕ → ℕ → ℕ → ℕ
next_place seed n d i = cond (eqb (d % 2) 0) (round_hash seed (d / 2) * n / 65536) ((i + 1) % n)

-- the slot at step d
abbrev pub slot : List ℕ → (ℕ → ℕ) → ℕ → ℕ
slot L hs d = get_or L (place hs (length L) d) 0
