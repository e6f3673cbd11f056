-- Terms whose rows stand in the table and that the message backs compare as their meanings do.
use mathlib.Core.Path.{◌≡◌, refl}
use mathlib.Core.List.{List}
use mathlib.Core.Option.{Option}
use Prim.Native.Nat.{ℕ, ◌+◌}
use Rattle.term_spec.specs.Tree.{empty, ◌▹◌, ◌▹▹◌, sizes}
use Rattle.term_spec.specs.Term.{Term}
use Rattle.term_spec.specs.Equal.{among}
use Rattle.term_spec.specs.Valid.{Valid, Valids}
use Rattle.term_spec.specs.Head.{Given}
use Rattle.term_spec.specs.AtomList.{AtomList, given_of}
use Rattle.term_spec.specs.Reading.{Located, as_read, meaning}
use Rattle.term_spec.specs.Message.{Terms, all_as_read}
use Rattle.term_spec.specs.Rows.{Row}
use Rattle.row_fields.proofs.Says.{Lent}
use Rattle.row_compare.proofs.Alike.{Agree}
use Rattle.term_rows.specs.Rows.{same_row}
use Rattle.term_rows.proofs.Known.{KnownTree, valids_left, valids_right}
use Rattle.term_rows.proofs.InTable.{RowsInTable, held_left, held_right, held_first, Known, row_agrees, map_agrees, known_tree, known_rows, few_levels}
use Rattle.map_keys.specs.KeySet.{key_found, same_terms_raw, among_rows}
use Rattle.map_keys.proofs.Compare.{terms_found, among_from_among, KeysOf}

module _ (flags : ℕ) (list : AtomList) (message : List ℕ) (lent : Lent list message) (cap : ℕ) (T L : List ℕ) where
  abbrev given : Given
  given = given_of flags list

  abbrev Told : Row → Type 0
  Told = Known flags list message lent cap

  -- two terms compare as their meanings do
  pub same_terms_same : {whole whole' : Option ℕ} {a b : ℕ} (t u : Located) → Valid flags (as_read t) → Valid flags (as_read u) → KnownTree Told T whole a t → KnownTree Told T whole' b u
      → Agree (same_terms_raw message list.places list.lengths T L a b) (meaning t ≡ meaning u)
  same_terms_same {whole} {whole'} {a} {b} t u v w h g =
      terms_found (same_row message list.places list.lengths) Told (λ r k. k.0) (row_agrees flags list message lent cap) (map_agrees flags list message lent cap) T
      (key_found message list.places list.lengths T L) flags 16384 t u (few_levels flags list message lent cap T t h) v w whole whole' a b h g

  -- the last of terms, after pairs, is compared with each of their keys
  pub last_among : {whole : Option ℕ} {first : ℕ} (ts : Terms) (u : Located) {ks : List Term} → KeysOf ts ks → Valids flags (all_as_read (ts ▹▹ (u ▹ empty)))
      → RowsInTable message cap given T whole first (ts ▹▹ (u ▹ empty)) → among_rows message list.places list.lengths T L first (first + sizes ts) ≡ among (meaning u) ks
  last_among {whole} {first} ts u p v h =
      let known : KnownTree Told T whole (first + sizes ts) u
      = known_tree flags list message lent cap T u (held_first message cap given u empty (held_right message cap given ts (u ▹ empty) h)) in
      among_from_among (same_row message list.places list.lengths) Told (λ r k. k.0) (row_agrees flags list message lent cap) (map_agrees flags list message lent cap) T
      (key_found message list.places list.lengths T L) flags 16384 whole whole (first + sizes ts) u (few_levels flags list message lent cap T u known)
      (valids_right flags ts (u ▹ empty) v).0 known first p refl (valids_left flags ts (u ▹ empty) v) (known_rows flags list message lent cap T ts (held_left message cap given ts (u ▹ empty) h))
