-- The comparisons of KeySet over the rows and the slots that are lent.
-- About the code alone, proved against the definitions of term_spec: nothing here has to be believed.
use Rattle.std.specs.Prelude.{Bool, Option, ℕ}
use Rattle.map_keys.specs.declared.Keys.{Keys}
use Rattle.map_keys.specs.KeySet.{key_found, maps_at, terms_at}

abbrev pub maps_of : Keys → ℕ → ℕ → ℕ → Bool
maps_of k = maps_at k.rows.msg.now k.rows.places.now k.rows.lengths.now k.rows.table.now k.slots.now

abbrev pub terms_of : Keys → ℕ → ℕ → ℕ → Bool
terms_of k = terms_at k.rows.msg.now k.rows.places.now k.rows.lengths.now k.rows.table.now k.slots.now

abbrev pub found_of : Keys → ℕ → ℕ → ℕ → Option ℕ
found_of k levels = key_found k.rows.msg.now k.rows.places.now k.rows.lengths.now k.rows.table.now k.slots.now (terms_of k levels)
