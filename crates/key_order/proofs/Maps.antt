-- The pairs of one map put in order: a law for each way out of the function that does it.
use mathlib.Core.Path.{◌≡◌, refl, ap, ◌∙◌}
use mathlib.Core.Bool.{Bool, true}
use mathlib.Core.List.{List}
use Prim.Native.Nat.{ℕ, ◌+◌, ◌*◌, ◌/◌, ◌≤◌, ◌<◌}
use native.Mathlib.Omega.{arith}
use lib.ListN.{length, get_or, set, take}
use lib.Seq.{length-take-le, get_or-set_same, get_or-set_other}
use Rattle.term_spec.specs.Tree.{count, sizes}
use Rattle.term_spec.specs.Rows.{parts_in, whole_in}
use Rattle.term_spec.proofs.Rows.{count_le_sizes}
use Rattle.term_writer.specs.PairOrder.{HasOrder, Listed, slots_at}
use Rattle.term_writer.proofs.InTable.{held_parts}
use Rattle.term_writer.proofs.Pairs.{map_label, many_parts, halves, few_parts}
use Rattle.key_order.specs.Code.{SlotsFit, SlotsFilled, PairsFit, KeysSorted, PartsReady, MapFits, MapOrdered}
use Rattle.key_order.proofs.Slots.{first_whole, first_slot}

-- any other term stays
pub no_order : {m places lengths T : List ℕ} {row : ℕ} {R O : List ℕ} → (HasOrder (get_or T row 0) → ⊥) → MapOrdered m places lengths T R row R O O
no_order f = record { pairs_in_order = λ l ts h o x c. let d = few_parts f h x in absurd (omega arith); other_maps = λ i z. refl; past_map = λ total g. refl }

module _ {m places lengths T : List ℕ} {row n : ℕ} (w : HasOrder (get_or T row 0)) (f : n ≡ parts_in (get_or T row 0)) {R : List ℕ} where
  pub map_pairs : {room : ℕ} → PartsReady m places lengths T R row room → PairsFit m places lengths T R (row + 1) (n / 2) room
  map_pairs g =
      record {
        pairs = g.parts;
        pairs_held = held_parts g.node_held;
        pairs_ready = g.parts_ordered;
        pairs_count = halves w n f g.node_held;
        pairs_room = g.parts_room (map_label w g.node_held);
      }

  module _ {room slots rows : ℕ} (g : MapFits m places lengths T R row room slots rows) where
    pub map_rows : n / 2 ≤ rows
    map_rows =
        let c = halves w n f g.ready.node_held in
        let b : count g.ready.parts ≤ 2 * rows = g.enough_rows in
        omega arith

    -- so many rows of keys are kept
    pub keys_kept : (S : List ℕ) → length S ≡ rows → length (take (n / 2) S) ≡ n / 2
    keys_kept S e = let b = map_rows in length-take-le (n / 2) S (omega arith)

    pub map_slots : (keys : ℕ) → keys ≡ n / 2 → SlotsFit T (row + 1) keys slots
    map_slots keys x =
        record {
          message = m;
          places = places;
          lengths = lengths;
          slot_pairs = g.ready.parts;
          slot_held = held_parts g.ready.node_held;
          slot_count = rw x (halves w n f g.ready.node_held);
          slots_there = g.enough_slots;
        }

    pub first_there : row + 1 < slots
    first_there =
        let c = many_parts w g.ready.node_held in
        let d = count_le_sizes g.ready.parts in
        let b : row + 1 + sizes g.ready.parts ≤ slots = g.enough_slots in
        omega arith

    first_of : whole_in (get_or T (row + 1) 0) ≡ row + 1
    first_of = let h = g.ready.node_held in let c = many_parts w h in first_whole h (omega arith)

    module _ {O P S : List ℕ} {r : Bool} (s : KeysSorted m places lengths T R (row + 1) (n / 2) O S r P) where
      -- they stand in order
      pub stands_ordered : r ≡ true → row + 1 < length R → MapOrdered m places lengths T R row (set R (row + 1) 0) O P
      stands_ordered e b =
          record {
            pairs_in_order = λ l ts h o x c.
                let y = s.sorted_rows ts (held_parts h) o (halves w n f h) in
                let z : get_or (set R (row + 1) 0) (row + 1) 0 ≡ 0 = get_or-set_same R (row + 1) 0 0 b in
                record { sorted = y.in_turn; as_they_stand = λ _. y.as_they_stand e; listed = λ k. absurd (omega arith); same_pairs = y.same_pairs; rises = y.rises };
            other_maps = λ i z. get_or-set_other R (row + 1) i 0 0 (λ x. z (ap (λ (k : ℕ). whole_in (get_or T k 0)) x ∙ first_of));
            past_map = λ total p. s.past_pairs total (map_pairs p);
          }

      -- the slots list them
      pub slots_ordered : {R' : List ℕ} → length (take (n / 2) S) ≡ n / 2 → SlotsFilled T (row + 1) (take (n / 2) S) R R' → MapOrdered m places lengths T R row R' O P
      slots_ordered {R'} k v =
          record {
            pairs_in_order = λ l ts h o x c.
                let y = s.sorted_rows ts (held_parts h) o (halves w n f h) in
                let z = v.in_slots ts (held_parts h) (rw k (halves w n f h)) in
                let in_slots : Listed (row + 1) ts (slots_at R' (row + 1) ts) y.in_turn = rw z y.listed in
                let b = first_slot R' ts (held_parts h) (omega arith) in_slots in
                record { sorted = y.in_turn; as_they_stand = λ k. absurd (omega arith); listed = λ _. in_slots; same_pairs = y.same_pairs; rises = y.rises };
            other_maps = λ i z. v.other_slots i (λ x. z (x ∙ first_of));
            past_map = λ total p. s.past_pairs total (map_pairs p);
          }
