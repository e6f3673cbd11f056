-- Terms whose rows stand in two tables, or twice in one, and that the message backs have the same hash where they mean the same.
use mathlib.Core.Path.{◌≡◌}
use mathlib.Core.Bool.{true}
use mathlib.Core.List.{List}
use mathlib.Core.Option.{Option}
use Prim.Native.Nat.{ℕ}
use lib.Dec.{eqb}
use borrow.Author.Tests.{eqb-true}
use Rattle.term_spec.specs.AtomList.{AtomList}
use Rattle.term_spec.specs.Reading.{Located, meaning}
use Rattle.term_spec.specs.Rows.{word, kind_in, offset_in, parts_in}
use Rattle.row_fields.specs.Found.{content_of}
use Rattle.row_fields.specs.Meaning.{term_kind}
use Rattle.row_fields.proofs.Says.{Lent}
use Rattle.row_compare.proofs.Hashes.{both_true, hash_alike}
use Rattle.term_rows.specs.Rows.{same_fields, same_row}
use Rattle.term_rows.proofs.Known.{KnownTree}
use Rattle.term_rows.proofs.InTable.{Known, row_agrees, map_agrees}
use Rattle.term_hash.specs.Hash.{hash_row, term_hash}
use Rattle.term_hash.proofs.EqualHash.{equal_hash}

-- rows that say the same
row_alike : (factor : ℕ) (m places lengths : List ℕ) (h v w : ℕ) → same_row m places lengths v w ≡ true → hash_row factor m places lengths h v ≡ hash_row factor m places lengths h w
unfolding same_row same_fields hash_row
row_alike factor m places lengths h v w e =
    let g = both_true (eqb (term_kind (kind_in v)) (term_kind (kind_in w))) _ e in
    let f = both_true (eqb (parts_in v) (parts_in w)) _ g.1 in
    let k : term_kind (kind_in v) ≡ term_kind (kind_in w) = eqb-true _ _ g.0 in
    let p : parts_in v ≡ parts_in w = eqb-true _ _ f.0 in
    rw (k, p) (hash_alike factor m places _ (content_of m places lengths (kind_in v) (offset_in v)) (content_of m places lengths (kind_in w) (offset_in w)) f.1)

module _ (flags : ℕ) (list : AtomList) (message : List ℕ) (lent : Lent list message) (cap : ℕ) (T T' : List ℕ) where
  -- terms that mean the same have the same hash, in each round
  pub same_terms_hash : {whole whole' : Option ℕ} {a b : ℕ} (t u : Located) → KnownTree (Known flags list message lent cap) T whole a t → KnownTree (Known flags list message lent cap) T' whole' b u
      → meaning t ≡ meaning u → (round first : ℕ) → term_hash message list.places list.lengths T round first a ≡ term_hash message list.places list.lengths T' round first b
  same_terms_hash {whole} {whole'} {a} {b} t u h g e round first =
      equal_hash message list.places list.lengths (Known flags list message lent cap) (λ r k. k.0)
      (λ f r q k m e h. row_alike f message list.places list.lengths h (word r) (word q) ((row_agrees flags list message lent cap r q k m).back e))
      (map_agrees flags list message lent cap) T T' t u whole whole' a b h g e round first
