-- The slots at the keys of a map: which rows they are, and filled in turn.
use mathlib.Core.Path.{◌≡◌, refl, sym, ap, ap₂, ◌∙◌}
use mathlib.Core.List.{List, [], ◌∷◌, ◌++◌}
use mathlib.Core.Option.{Option}
use Prim.Native.Nat.{ℕ, suc, ◌+◌, ◌*◌, ◌≤◌, ◌<◌}
use native.Mathlib.Omega.{arith}
use native.Mathlib.Numerals.{add-one}
use lib.ListN.{length, get_or, set, take, length-set}
use Rattle.std.proofs.lemmas.List.{take_all}
use lib.Seq.{take-suc, get_or-set_same, get_or-set_other}
use Rattle.term_spec.specs.Tree.{node, empty, ◌▹◌, ◌▹▹◌, count, size, sizes, EachNode, EachNodes}
use Rattle.term_spec.specs.Term.{Label}
use Rattle.term_spec.specs.Reading.{Offset, Located}
use Rattle.term_spec.specs.Message.{Terms}
use Rattle.term_spec.specs.Rows.{whole_code, whole_in, size_in, RowsHere}
use Rattle.term_spec.proofs.Rows.{size_positive}
use Rattle.term_spec.proofs.Words.{first_here, others_here, parts_here}
use Rattle.term_writer.specs.InTable.{Writable, TermInTable, RunInTable}
use Rattle.term_writer.specs.PairOrder.{PairAt, the_first, a_later, Listed, one_listed, slots_at, slot_then}
use Rattle.term_writer.proofs.InTable.{held_whole}
use Rattle.term_writer.proofs.PairOrder.{pair_held}
use Rattle.key_order.specs.Code.{SlotsFit, SlotsFilled}
use Rattle.key_order.proofs.Walk.{Walk, none_walked, walk_count, walk_past, walk_all, walk_slots, PairHere, pair_here, value_step}

-- ---- the rows of keys

-- all keys of a run have the same whole
module _ (m places lengths : List ℕ) {T : List ℕ} (flags : ℕ) where
  whole_at : {whole : Option ℕ} {row r : ℕ} {ts : Terms} {k v : Located} → PairAt row ts r k v → RowsHere T whole row ts → whole_code whole ≤ row → row + sizes ts ≤ 8192
      → EachNodes (Writable m places lengths flags) ts → whole_in (get_or T r 0) ≡ whole_code whole
  unfolding EachNode
  whole_at {whole} (the_first {row = row} {k = node l us}) h a f n =
      let t : TermInTable m places lengths T row (node l us) = record { whole = whole; above = a; stands = first_here h; few = omega arith; flags = flags; nodes = n.0 } in
      held_whole t
  whole_at (a_later {k = k} {v = v} p) h a f n = whole_at p (others_here (others_here h)) (omega arith) (omega arith) n.1.1

pair_first : {row r : ℕ} {ts : Terms} {k v : Located} → PairAt row ts r k v → (j : Located) × (w : Located) × PairAt row ts row j w
pair_first (the_first {k = k} {v = v}) = (k, v, the_first)
pair_first (a_later {k = k} {v = v} p) = (k, v, the_first)

pair_below : {row r : ℕ} {ts : Terms} {k v : Located} → PairAt row ts r k v → r < row + sizes ts
pair_below (the_first {k = k}) = let s = size_positive k in omega arith
pair_below (a_later p) = let b = pair_below p in omega arith

module _ {m places lengths T : List ℕ} {row r : ℕ} {ts : Terms} {k v : Located} where
  one_whole : RunInTable m places lengths T row ts → PairAt row ts r k v → whole_in (get_or T r 0) ≡ whole_in (get_or T row 0)
  one_whole h p =
      whole_at m places lengths h.run_flags p h.run_stands h.run_above h.run_few h.run_nodes
      ∙ sym (whole_at m places lengths h.run_flags (pair_first p).2 h.run_stands h.run_above h.run_few h.run_nodes)

-- the whole of a map's keys is the map
pub map_whole : {m places lengths T : List ℕ} {row r : ℕ} {l : Label × Offset} {ts : Terms} {k v : Located} → TermInTable m places lengths T row (node l ts) → PairAt (row + 1) ts r k v
    → whole_in (get_or T r 0) ≡ row + 1
unfolding EachNode whole_code
map_whole {m} {places} {lengths} {row = row} {ts = ts} h p =
    let f : row + suc (sizes ts) ≤ 8192 = h.few in
    whole_at m places lengths h.flags p (parts_here h.stands) (omega arith) (omega arith) h.nodes.1

-- the first key of a map with some pairs
pub first_whole : {m places lengths T : List ℕ} {row : ℕ} {l : Label × Offset} {ts : Terms} → TermInTable m places lengths T row (node l ts) → 2 ≤ count ts
    → whole_in (get_or T (row + 1) 0) ≡ row + 1
first_whole {ts = empty} h c = absurd (omega arith)
first_whole {ts = k ▹ empty} h c = absurd (omega arith)
first_whole {ts = k ▹ v ▹ ts} h c = map_whole h the_first

-- ---- the slot at the first key, where slots list the pairs

pub first_slot : {m places lengths T : List ℕ} (R : List ℕ) {row : ℕ} (ts : Terms) {us : Terms} → RunInTable m places lengths T row ts → 2 ≤ count ts
    → Listed row ts (slots_at R row ts) us → row ≤ get_or R row 0
unfolding slots_at
first_slot R empty h c l = absurd (omega arith)
first_slot R (k ▹ empty) h c l = absurd (omega arith)
first_slot R (k ▹ v ▹ ts) h c (one_listed p l) = (pair_held p h).pair_from

-- ---- slots that stay

module _ (R R' : List ℕ) where
  mutual
    unfolding slots_at

    pub slots_same : (row : ℕ) (ts : Terms) → ((r : ℕ) (k v : Located) → PairAt row ts r k v → get_or R' r 0 ≡ get_or R r 0) → slots_at R' row ts ≡ slots_at R row ts
    slots_same row empty f = refl
    slots_same row (k ▹ ts) f = slot_same row k ts f

    slot_same : (row : ℕ) (k : Located) (ts : Terms) → ((r : ℕ) (j w : Located) → PairAt row (k ▹ ts) r j w → get_or R' r 0 ≡ get_or R r 0) → slot_then R' row k ts ≡ slot_then R row k ts
    slot_same row k empty f = refl
    slot_same row k (v ▹ ts) f = ap₂ (λ (x : ℕ) (xs : List ℕ). x ∷ xs) (f row k v the_first) (slots_same (row + size k + size v) ts (λ r j w p. f r j w (a_later p)))

-- a slot past those of a run
slots_before : (R : List ℕ) (row j x : ℕ) (ts : Terms) → row + sizes ts ≤ j → slots_at (set R j x) row ts ≡ slots_at R row ts
slots_before R row j x ts h = slots_same R (set R j x) row ts (λ r k v p. let b = pair_below p in get_or-set_other R j r x 0 (λ e. omega arith))

-- ---- filled in turn

pub record FilledSoFar (S : List ℕ) (row : ℕ) (R : List ℕ) (ts : Terms) (i key : ℕ) : Type 0 where
  pub done : Terms
  pub rest : Terms
  pub walk : Walk row ts done i key rest
  pub slots_are : slots_at R row done ≡ take i S

-- the slots at the first i keys are filled, the next key is at `key`
pub record Filling (T S : List ℕ) (row : ℕ) (R R' : List ℕ) (key i : ℕ) : Type 0 where
  pub few : i ≤ length S
  pub long : length R' ≡ length R
  pub so_far : {m places lengths : List ℕ} (ts : Terms) → RunInTable m places lengths T row ts → count ts ≡ 2 * length S → FilledSoFar S row R' ts i key
  pub others : (j : ℕ) → (whole_in (get_or T j 0) ≡ whole_in (get_or T row 0) → ⊥) → get_or R' j 0 ≡ get_or R j 0

pub filling_start : (T S : List ℕ) (row : ℕ) (R : List ℕ) → Filling T S row R R row 0
unfolding slots_at
filling_start T S row R =
    record { few = omega arith; long = refl; so_far = λ ts h c. record { done = empty; rest = ts; walk = none_walked; slots_are = refl }; others = λ j e. refl }

module _ {T S : List ℕ} {row : ℕ} {R R' : List ℕ} {key i : ℕ} (f : Filling T S row R R' key i) where
  pub filled : {slots : ℕ} (g : SlotsFit T row (length S) slots) → FilledSoFar S row R' g.slot_pairs i key
  filled g = f.so_far g.slot_pairs g.slot_held g.slot_count

  pub filling_pair : {slots : ℕ} (g : SlotsFit T row (length S) slots) → i < length S
      → PairHere g.message g.places g.lengths T row g.slot_pairs (filled g).done i key (filled g).rest
  filling_pair g l = pair_here (length S) (filled g).rest (filled g).walk g.slot_held g.slot_count l

  pub slot_there : {slots : ℕ} → SlotsFit T row (length S) slots → i < length S → key < slots
  slot_there {slots} g l =
      let h = filling_pair g l in
      let s = size_positive h.its_key in
      let w : key + size h.its_key + size h.its_value ≤ row + sizes g.slot_pairs = h.within in
      let b : row + sizes g.slot_pairs ≤ slots = g.slots_there in
      omega arith

  pub filling_next : {slots s t : ℕ} → SlotsFit T row (length S) slots → i < length S → key < length R' → s ≡ size_in (get_or T key 0) → t ≡ size_in (get_or T (key + s) 0)
      → Filling T S row R (set R' key (get_or S i 0)) (key + s + t) (i + 1)
  filling_next {s = s} {t = t} g l d p q =
      let x : ℕ = get_or S i 0 in
      record {
        few = omega arith;
        long = length-set R' key x ∙ f.long;
        so_far = λ ts h c.
            let a = f.so_far ts h c in
            let y = pair_here (length S) a.rest a.walk h c l in
            let e : key + s + t ≡ key + size y.its_key + size y.its_value = value_step y s t p q in
            let before : row + sizes a.done ≡ key = walk_past a.walk in
            record {
              done = a.done ▹▹ (y.its_key ▹ y.its_value ▹ empty);
              rest = y.later;
              walk = rw (e, add-one i) y.next;
              slots_are = walk_slots (set R' key x) y.its_key y.its_value a.walk
                  ∙ ap₂ (λ (u w : List ℕ). u ++ w) (slots_before R' row key x a.done (omega arith) ∙ a.slots_are) (ap (λ (z : ℕ). z ∷ []) (get_or-set_same R' key x 0 d))
                  ∙ sym (take-suc S i 0 (omega arith))
                  ∙ ap (λ (k : ℕ). take k S) (sym (add-one i));
            };
        others = λ j e.
            let y = filling_pair g l in
            get_or-set_other R' key j x 0 (λ z. e (ap (λ (k : ℕ). whole_in (get_or T k 0)) z ∙ one_whole g.slot_held y.pair)) ∙ f.others j e;
      }

  pub filling_end : length S ≤ i → SlotsFilled T row S R R'
  filling_end l =
      let few : i ≤ length S = f.few in
      record {
        in_slots = λ ts h c.
            let a = f.so_far ts h c in
            let k = walk_count a.walk in
            let all : a.done ≡ ts = walk_all a.walk (omega arith) in
            sym (ap (λ (us : Terms). slots_at R' row us) all) ∙ a.slots_are ∙ take_all i S l;
        other_slots = f.others;
      }
