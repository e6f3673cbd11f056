-- Which keys the set contains, said of terms, and what a call that inserts a key says of them.
use mathlib.Core.Path.{◌≡◌, refl, sym, ◌∙◌, ap, subst}
use mathlib.Core.Bool.{Bool, true, false}
use mathlib.Core.List.{List}
use mathlib.Core.Option.{Option}
use Prim.Native.Nat.{ℕ, zero, suc, ◌+◌, ◌-◌}
use native.Mathlib.Omega.{arith}
use lib.ListN.{get_or}
use Rattle.term_spec.specs.Tree.{node, empty, ◌▹◌, ◌▹▹◌, size, sizes}
use Rattle.term_spec.specs.Term.{Term}
use Rattle.term_spec.specs.Equal.{among}
use Rattle.term_spec.specs.Head.{Given}
use Rattle.term_spec.specs.AtomList.{AtomList, given_of}
use Rattle.term_spec.specs.Valid.{Valid, Valids}
use Rattle.term_spec.specs.Reading.{Located, as_read, meaning}
use Rattle.term_spec.specs.Message.{Terms, all_as_read}
use Rattle.term_spec.specs.Rows.{tree_rows, whole_code, whole_in, TreeHere}
use Rattle.term_spec.proofs.Words.{EachRow, SmallRow, node_packed}
use Rattle.row_fields.proofs.Says.{Lent}
use Rattle.term_rows.specs.Rows.{pair_size}
use Rattle.term_rows.proofs.Known.{KnownRows, pair_sizes, valids_left, valids_right}
use Rattle.term_rows.proofs.InTable.{TermInTable, RowsInTable, held_left, held_right, held_first, known_tree}
use Rattle.term_hash.proofs.InTable.{same_terms_hash}
use Rattle.map_keys.specs.KeySet.{Contains, Keeps, key_hashes, same_terms_raw, ContainsFrom, ContainsBefore, ContainsOrInsert}
use Rattle.map_keys.proofs.Compare.{KeysOf}
use Rattle.map_keys.proofs.Slots.{contains_as, contains_kept}
pub use Rattle.map_keys.proofs.Slots.{keeps_refl, keeps_trans}
use Rattle.map_keys.proofs.InTable.{same_terms_same, last_among}

-- the set contains the key whose rows start at the row `row`: in each table where they stand, by its hashes there, which start from the row `first`
pub record ContainsKey (m places lengths : List ℕ) (whole : Option ℕ) (first row : ℕ) (k : Located) (L : List ℕ) : Type 0 where
  by_hash : (S : List ℕ) → TreeHere S whole row k → Contains L (key_hashes m places lengths S first row) row

-- the keys of these pairs, from the row `row` on
pub data ContainsKeys (m places lengths : List ℕ) (whole : Option ℕ) (first : ℕ) : ℕ → Terms → List ℕ → Type 0 where
  no_key : {row : ℕ} {L : List ℕ} → ContainsKeys m places lengths whole first row empty L
  a_key : {row : ℕ} {k v : Located} {ts : Terms} {L : List ℕ} → ContainsKey m places lengths whole first row k L
      → ContainsKeys m places lengths whole first (row + size k + size v) ts L → ContainsKeys m places lengths whole first row (k ▹ v ▹ ts) L

module _ {m places lengths : List ℕ} {whole : Option ℕ} {first : ℕ} where
  -- where occupied slots stay, keys stay contained
  pub key_kept : {row : ℕ} {k : Located} {L L' : List ℕ} → Keeps L L' → ContainsKey m places lengths whole first row k L → ContainsKey m places lengths whole first row k L'
  key_kept h k = record { by_hash = λ S g. contains_kept h (k.by_hash S g) }

  pub keys_kept : {row : ℕ} {ts : Terms} {L L' : List ℕ} → Keeps L L' → ContainsKeys m places lengths whole first row ts L → ContainsKeys m places lengths whole first row ts L'
  keys_kept h no_key = no_key
  keys_kept h (a_key k r) = a_key (key_kept h k) (keys_kept h r)

  -- one more key and its value at the end
  pub keys_more : {row : ℕ} {ts : Terms} {L : List ℕ} (k v : Located) → ContainsKeys m places lengths whole first row ts L
      → ContainsKey m places lengths whole first (row + sizes ts) k L → ContainsKeys m places lengths whole first row (ts ▹▹ (k ▹ v ▹ empty)) L
  keys_more {row} {L = L} k v no_key n =
      let e : row + 0 ≡ row = omega arith in
      a_key (subst (λ (i : ℕ). ContainsKey m places lengths whole first i k L) e n) no_key
  keys_more {row} {L = L} k v (a_key {k = j} {v = w} {ts = ts} o r) n =
      let e : row + (size j + (size w + sizes ts)) ≡ row + size j + size w + sizes ts = omega arith in
      a_key o (keys_more k v r (subst (λ (i : ℕ). ContainsKey m places lengths whole first i k L) e n))

-- ---- rows that stand in a table

-- a term's row says which term it is a part of
term_whole : (m : List ℕ) (cap : ℕ) (given : Given) {S : List ℕ} {whole : Option ℕ} {row : ℕ} (t : Located) → TermInTable m cap given S whole row t
    → whole_in (get_or S row 0) ≡ whole_code whole
unfolding tree_rows EachRow
term_whole m cap given (node l ts) h = (node_packed h.stands h.small.0).whole_is

-- the same, all of them are valid, and `first` says what they are parts of
module _ (flags : ℕ) (list : AtomList) (m : List ℕ) (lent : Lent list m) (cap : ℕ) {S : List ℕ} {whole : Option ℕ} {first : ℕ} (us : Terms) (u : Located)
    (h : RowsInTable m cap (given_of flags list) S whole first (us ▹▹ (u ▹ empty))) (valid : Valids flags (all_as_read (us ▹▹ (u ▹ empty)))) (code : whole_code whole ≡ first) where
  abbrev places : List ℕ
  places = list.places

  abbrev lengths : List ℕ
  lengths = list.lengths

  abbrev key : ℕ
  key = first + sizes us

  key_held : TermInTable m cap (given_of flags list) S whole key u
  key_held = held_first m cap (given_of flags list) u empty (held_right m cap (given_of flags list) us (u ▹ empty) h)

  -- a key that is equal has the same hashes
  one_hash : {row : ℕ} {L : List ℕ} (k : Located) → Valid flags (as_read k) → TermInTable m cap (given_of flags list) S whole row k
      → ContainsKey m places lengths whole first row k L → same_terms_raw m places lengths S L key row ≡ true → Contains L (key_hashes m places lengths S first key) row
  unfolding key_hashes
  one_hash {row} {L} k v g o e =
      let known_u = known_tree flags list m lent cap S u key_held in
      let known_k = known_tree flags list m lent cap S k g in
      let f : meaning u ≡ meaning k = (same_terms_same flags list m lent cap S L u k (valids_right flags us (u ▹ empty) valid).0 v known_u known_k).sure e in
      contains_as (λ round. sym (same_terms_hash flags list m lent cap S S u k known_u known_k f round first)) (o.by_hash S g.stands)

  contains_from : {L : List ℕ} (n row : ℕ) (ts : Terms) → ContainsKeys m places lengths whole first row ts L → key ≡ row + sizes ts → Valids flags (all_as_read ts)
      → RowsInTable m cap (given_of flags list) S whole row ts → ContainsFrom m places lengths S first key L n row
  unfolding ContainsFrom
  contains_from zero row ts r e v g = tt
  contains_from (suc n) row empty no_key e v g = λ l. absurd (omega arith)
  contains_from (suc n) row (k ▹ empty) r e v g = elim r [ ]
  contains_from {L} (suc n) row (k ▹ x ▹ ts) (a_key o r) e v g =
      let rest : RowsInTable m cap (given_of flags list) S whole (row + (size k + (size x + 0))) ts = held_right m cap (given_of flags list) (k ▹ x ▹ empty) ts g in
      let past : row + (size k + (size x + 0)) ≡ row + size k + size x = omega arith in
      let held : TermInTable m cap (given_of flags list) S whole row k = held_first m cap (given_of flags list) k (x ▹ ts) g in
      let known : KnownRows SmallRow S whole row (k ▹ x ▹ ts) = record { stand = g.stand; all_known = g.all_small } in
      let step : row + pair_size S row ≡ row + size k + size x = ap (λ (i : ℕ). row + i) (pair_sizes (λ r k. k) known) ∙ (omega arith) in
      λ l. (
        term_whole m cap (given_of flags list) k held ∙ code,
        one_hash k v.0 held o,
        subst (λ (i : ℕ). ContainsFrom m places lengths S first key L n i) (sym step)
            (contains_from n (row + size k + size x) ts r (omega arith) v.1.1 (rw past at rest)),
      )

  contains_before : {L : List ℕ} → ContainsKeys m places lengths whole first first us L → ContainsBefore m places lengths S first key L
  contains_before r =
      contains_from (key - first) first us r refl (valids_left flags us (u ▹ empty) valid) (held_left m cap (given_of flags list) us (u ▹ empty) h)

  -- a call answers whether the key is among those of the pairs, where the set contains them
  pub key_judged : {ks : List Term} {L L' : List ℕ} {answer : Bool} → KeysOf us ks → ContainsKeys m places lengths whole first first us L
      → ContainsOrInsert m places lengths S first key L answer L' → answer ≡ among (meaning u) ks
  key_judged {L = L} p r c = c.judged (contains_before r) ∙ last_among flags list m lent cap S L us u p valid h

-- a key that is inserted is contained: in another table where its rows stand it has the same hashes
pub key_inserted : (flags : ℕ) (list : AtomList) (m : List ℕ) (lent : Lent list m) (cap : ℕ) {S : List ℕ} {whole : Option ℕ} {first : ℕ} (us : Terms) (u : Located)
    → RowsInTable m cap (given_of flags list) S whole first (us ▹▹ (u ▹ empty)) → {L L' : List ℕ} {answer : Bool}
    → ContainsOrInsert m list.places list.lengths S first (first + sizes us) L answer L' → answer ≡ false
    → ContainsKey m list.places list.lengths whole first (first + sizes us) u L'
unfolding key_hashes
key_inserted flags list m lent cap {S} {first = first} us u h c e =
    let g = known_tree flags list m lent cap S u (held_first m cap (given_of flags list) u empty (held_right m cap (given_of flags list) us (u ▹ empty) h)) in
    record { by_hash = λ S' k. contains_as (λ round. same_terms_hash flags list m lent cap S S' u u g (record { stands = k; known = g.known }) refl round first) (c.inserted e) }
