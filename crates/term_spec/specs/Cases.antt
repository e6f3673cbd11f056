-- The cases P of document 01, with the nested tuples, and maps in another order: `Cases`, of any way to say what a writer does with a message.
use Rattle.std.specs.Prelude.{◌≡◌, List, [], ◌∷◌, ℕ, zero, suc, ◌≤◌, length}
use Rattle.term_spec.specs.Answer.{good, refused}
use Rattle.term_spec.specs.AtomList.{AtomList}
use Rattle.term_spec.specs.Message.{standalone}
use Rattle.term_spec.specs.Writing.{write}
use Rattle.term_spec.specs.Promises.{WriteCall}
use Rattle.term_spec.specs.Demands.{WrittenOut, RefusedOut}
use Rattle.term_spec.specs.Answers.{WriteAnswer}

-- n tuples of one element around what follows
unfoldable pub nested : ℕ → List ℕ → List ℕ
nested zero bs = bs
nested (suc n) bs = 104 ∷ 1 ∷ nested n bs

-- a map of two pairs, which follow
abbrev pub two_pairs : List ℕ → List ℕ
two_pairs bs = 116 ∷ 0 ∷ 0 ∷ 0 ∷ 2 ∷ bs

-- a message and the bytes that are written for it, or a message and the refusal's number and place
pub record Cases (Writes : List ℕ → List ℕ → Type 0) (Refuses : List ℕ → ℕ → ℕ → Type 0) : Type 0 where
  pub p1 : Writes (131 ∷ 98 ∷ 0 ∷ 0 ∷ 0 ∷ 5 ∷ []) (131 ∷ 97 ∷ 5 ∷ [])
  pub p2 : Writes (131 ∷ 110 ∷ 2 ∷ 0 ∷ 5 ∷ 0 ∷ []) (131 ∷ 97 ∷ 5 ∷ [])
  pub p4 : Writes (131 ∷ 110 ∷ 4 ∷ 1 ∷ 0 ∷ 0 ∷ 0 ∷ 128 ∷ []) (131 ∷ 98 ∷ 128 ∷ 0 ∷ 0 ∷ 0 ∷ [])
  pub p6 : Writes (131 ∷ 108 ∷ 0 ∷ 0 ∷ 0 ∷ 2 ∷ 97 ∷ 7 ∷ 97 ∷ 8 ∷ 106 ∷ []) (131 ∷ 107 ∷ 0 ∷ 2 ∷ 7 ∷ 8 ∷ [])
  pub p8 : Writes (131 ∷ 77 ∷ 0 ∷ 0 ∷ 0 ∷ 1 ∷ 3 ∷ 191 ∷ []) (131 ∷ 77 ∷ 0 ∷ 0 ∷ 0 ∷ 1 ∷ 3 ∷ 160 ∷ [])
  pub p9 : Writes (131 ∷ 100 ∷ 0 ∷ 1 ∷ 233 ∷ []) (131 ∷ 119 ∷ 2 ∷ 195 ∷ 169 ∷ [])
  pub p10 : Refuses (131 ∷ 82 ∷ 0 ∷ []) 6 1
  pub p11 : Refuses (131 ∷ []) 2 1
  pub p13 : Refuses (131 ∷ 116 ∷ 0 ∷ 0 ∷ 0 ∷ 2 ∷ 97 ∷ 1 ∷ 97 ∷ 5 ∷ 98 ∷ 0 ∷ 0 ∷ 0 ∷ 1 ∷ 97 ∷ 6 ∷ []) 7 10
  -- 64 nested tuples, the inmost empty, pass; 65 is 8
  pub deep64 : Writes (131 ∷ nested 63 (104 ∷ 0 ∷ [])) (131 ∷ nested 63 (104 ∷ 0 ∷ []))
  pub deep65 : Refuses (131 ∷ nested 64 (104 ∷ 0 ∷ [])) 8 129
  -- pairs are written in rising byte order of their keys, and stay so
  pub turned : Writes (131 ∷ two_pairs (97 ∷ 2 ∷ 97 ∷ 6 ∷ 97 ∷ 1 ∷ 97 ∷ 5 ∷ [])) (131 ∷ two_pairs (97 ∷ 1 ∷ 97 ∷ 5 ∷ 97 ∷ 2 ∷ 97 ∷ 6 ∷ []))
  pub again : Writes (131 ∷ two_pairs (97 ∷ 1 ∷ 97 ∷ 5 ∷ 97 ∷ 2 ∷ 97 ∷ 6 ∷ [])) (131 ∷ two_pairs (97 ∷ 1 ∷ 97 ∷ 5 ∷ 97 ∷ 2 ∷ 97 ∷ 6 ∷ []))
  -- of their canonical form, neither by what they are nor by how they came: 1.0 (70), 5 (97), 256 (98), the atom a (119)
  pub by_bytes : Writes
      (131 ∷ 116 ∷ 0 ∷ 0 ∷ 0 ∷ 4 ∷ 100 ∷ 0 ∷ 1 ∷ 97 ∷ 106 ∷ 98 ∷ 0 ∷ 0 ∷ 1 ∷ 0 ∷ 106 ∷ 110 ∷ 1 ∷ 0 ∷ 5 ∷ 106 ∷ 70 ∷ 63 ∷ 240 ∷ 0 ∷ 0 ∷ 0 ∷ 0 ∷ 0 ∷ 0 ∷ 106 ∷ [])
      (131 ∷ 116 ∷ 0 ∷ 0 ∷ 0 ∷ 4 ∷ 70 ∷ 63 ∷ 240 ∷ 0 ∷ 0 ∷ 0 ∷ 0 ∷ 0 ∷ 0 ∷ 106 ∷ 97 ∷ 5 ∷ 106 ∷ 98 ∷ 0 ∷ 0 ∷ 1 ∷ 0 ∷ 106 ∷ 119 ∷ 1 ∷ 97 ∷ 106 ∷ [])
  -- the elements of tuples and lists keep their order
  pub kept : Writes (131 ∷ 104 ∷ 4 ∷ 97 ∷ 2 ∷ 106 ∷ 97 ∷ 1 ∷ 107 ∷ 0 ∷ 4 ∷ 2 ∷ 6 ∷ 1 ∷ 5 ∷ []) (131 ∷ 104 ∷ 4 ∷ 97 ∷ 2 ∷ 106 ∷ 97 ∷ 1 ∷ 107 ∷ 0 ∷ 4 ∷ 2 ∷ 6 ∷ 1 ∷ 5 ∷ [])
  -- at any depth: a map in a tuple that is a value
  pub within : Writes (131 ∷ 116 ∷ 0 ∷ 0 ∷ 0 ∷ 1 ∷ 97 ∷ 9 ∷ 104 ∷ 1 ∷ two_pairs (97 ∷ 2 ∷ 97 ∷ 6 ∷ 97 ∷ 1 ∷ 97 ∷ 5 ∷ []))
      (131 ∷ 116 ∷ 0 ∷ 0 ∷ 0 ∷ 1 ∷ 97 ∷ 9 ∷ 104 ∷ 1 ∷ two_pairs (97 ∷ 1 ∷ 97 ∷ 5 ∷ 97 ∷ 2 ∷ 97 ∷ 6 ∷ []))
  -- keys that are maps go by their own canonical forms: 1 with 3, 2 with 0 comes before 1 with 5, 3 with 0
  pub keys_of_maps : Writes
      (131 ∷ two_pairs (two_pairs (97 ∷ 1 ∷ 97 ∷ 5 ∷ 97 ∷ 3 ∷ 97 ∷ 0 ∷ 106 ∷ two_pairs (97 ∷ 2 ∷ 97 ∷ 0 ∷ 97 ∷ 1 ∷ 97 ∷ 3 ∷ 106 ∷ []))))
      (131 ∷ two_pairs (two_pairs (97 ∷ 1 ∷ 97 ∷ 3 ∷ 97 ∷ 2 ∷ 97 ∷ 0 ∷ 106 ∷ two_pairs (97 ∷ 1 ∷ 97 ∷ 5 ∷ 97 ∷ 3 ∷ 97 ∷ 0 ∷ 106 ∷ []))))
  -- 7 also for two keys that differ only in order, at the later key's first byte, before its value; and where they differ so deeper within
  pub same_keys : Refuses (131 ∷ two_pairs (two_pairs (97 ∷ 1 ∷ 97 ∷ 5 ∷ 97 ∷ 2 ∷ 97 ∷ 6 ∷ 106 ∷ two_pairs (97 ∷ 2 ∷ 97 ∷ 6 ∷ 97 ∷ 1 ∷ 97 ∷ 5 ∷ [])))) 7 20
  pub deep_keys : Refuses
      (131 ∷ two_pairs (104 ∷ 1 ∷ two_pairs (97 ∷ 1 ∷ 97 ∷ 5 ∷ 97 ∷ 2 ∷ 97 ∷ 6 ∷ 106 ∷ 104 ∷ 1 ∷ two_pairs (97 ∷ 2 ∷ 97 ∷ 6 ∷ 97 ∷ 1 ∷ 97 ∷ 5 ∷ 106 ∷ [])))) 7 22

-- with these flags and this list, 8,192 rows or more, and room for these bytes, they are what is written for a standalone term
abbrev pub Writes : ℕ → AtomList → List ℕ → List ℕ → Type 0
Writes flags list message bs = (rows room : ℕ) → 8192 ≤ rows → length bs ≤ room → write flags standalone list rows room message ≡ good (record { terms = 1; bytes = bs })

-- with these flags, this list and 8,192 rows or more it is refused, whatever the room
abbrev pub Refuses : ℕ → AtomList → List ℕ → ℕ → ℕ → Type 0
Refuses flags list message number place = (rows room : ℕ) → 8192 ≤ rows → write flags standalone list rows room message ≡ refused number place

-- any call of the writer on a standalone term, with these flags, this list, 8,192 scratch rows or more, and room for these bytes, leaves them
abbrev pub CallWrites : ℕ → AtomList → List ℕ → List ℕ → Type 0
CallWrites flags list message bs =
    (scratch output : List ℕ) → 8192 ≤ length scratch → length bs ≤ length output → (answer : WriteAnswer) (scratch_is output_is : List ℕ)
    → WriteCall flags standalone list message scratch output answer scratch_is output_is → WrittenOut 1 bs scratch output answer scratch_is output_is

-- any call of the writer on a standalone term, with these flags, this list and 8,192 scratch rows or more, refuses
abbrev pub CallRefuses : ℕ → AtomList → List ℕ → ℕ → ℕ → Type 0
CallRefuses flags list message number place =
    (scratch output : List ℕ) → 8192 ≤ length scratch → (answer : WriteAnswer) (scratch_is output_is : List ℕ)
    → WriteCall flags standalone list message scratch output answer scratch_is output_is → RefusedOut number place scratch output answer scratch_is output_is
