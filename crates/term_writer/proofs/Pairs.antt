-- The pairs of a map written in the order that their slots give, and which parts are written so.
use mathlib.Core.Path.{◌≡◌, refl, sym, ◌∙◌, ap}
use mathlib.Core.Bool.{Bool, true, false}
use Rattle.std.specs.Prelude.{Option, Some, None, MatchOption, is_some}
use mathlib.Core.Logic.{◌⊎◌, inl, inr, ⊎_map}
use mathlib.Core.List.{List, [], ◌∷◌, ◌++◌, append_assoc, append-nil}
use Prim.Native.Nat.{ℕ, suc, ◌+◌, ◌*◌, ◌/◌, ◌≤◌, ◌<◌}
use native.Mathlib.Omega.{arith}
use lib.ListN.{length, get_or, get_or-eq_default, length-append}
use lib.Seq.{sets}
use Rattle.term_spec.specs.Tree.{Forest, node, empty, ◌▹◌, count, sizes}
use Rattle.term_spec.specs.Term.{Label, Term, map}
use Rattle.term_spec.specs.Reading.{Offset, Located, as_read}
use Rattle.term_spec.specs.Message.{Terms, all_as_read}
use Rattle.term_spec.specs.Rows.{parts_in, size_in}
use Rattle.term_spec.specs.Pairs.{Pair, put_in, in_order, arranged_parts, all_arranged}
use Rattle.term_spec.specs.Canonical.{all_bytes, key_before}
use Rattle.term_spec.specs.Valid.{Keys}
use Rattle.term_spec.proofs.Pairs.{Kind, a_map, no_map, kind, count_arranged}
use Rattle.term_spec.proofs.RoundTrip.{even}
use Rattle.term_spec.proofs.Tests.{by_less}
use Rattle.octets.proofs.Stores.{sets_at}
use Rattle.layout.specs.Layout.{Put}
use Rattle.layout.proofs.Puts.{put_same}
use Rattle.term_writer.specs.InTable.{TermInTable, RunInTable}
use Rattle.term_writer.specs.PairOrder.{HasOrder, PairAt, Listed, none_listed, one_listed, slots_at, PairsOrdered, Ordered, AllOrdered}
use Rattle.term_writer.specs.Code.{canonicals, in_writing, RunPut, RunFits, PairsPut, PairsFit, PartsPut, PartsFit}
use Rattle.term_writer.proofs.InTable.{run_first, run_others, held_parts, held_writable, held_map, held_below, held_kind, held_count, held_size, kind_map, tag_kind}
use Rattle.term_writer.proofs.PairOrder.{pair_held, pair_run_ordered, writable_valids, pairs_sorted}
use Rattle.term_writer.proofs.Strings.{count_as_read}
use Rattle.term_writer.proofs.Terms.{no_terms, canonicals_none, canonicals_more}

-- ---- what is left in the loop

module _ (m places lengths T : List ℕ) where
  -- a run of pairs of which there is one more
  pub record PairFront (row : ℕ) (ts : Terms) : Type 0 where
    pub key_label : Label × Offset
    pub key_parts : Terms
    pub value_label : Label × Offset
    pub value_parts : Terms
    pub others : Terms
    pub is : ts ≡ node key_label key_parts ▹ node value_label value_parts ▹ others
    pub key_held : TermInTable m places lengths T row (node key_label key_parts)
    pub value_held : TermInTable m places lengths T (row + suc (sizes key_parts)) (node value_label value_parts)
    pub others_held : RunInTable m places lengths T (row + suc (sizes key_parts) + suc (sizes value_parts)) others

  -- the pairs as they were read, from this key on, and the pairs that their slots list, which are to be written
  pub record PairsLeft (R : List ℕ) (row : ℕ) (ts us : Terms) (O : List ℕ) (at key left : ℕ) (out : List ℕ) (end : ℕ) : Type 0 where
    pub rest : Terms
    pub rest_held : RunInTable m places lengths T key rest
    pub rest_count : count rest ≡ 2 * left
    pub to_come : Terms
    pub to_come_listed : Listed row ts (slots_at R key rest) to_come
    pub past : end + length (canonicals (all_as_read to_come)) ≡ at + length (canonicals (all_as_read us))
    pub stored : sets out end (canonicals (all_as_read to_come)) ≡ sets O at (canonicals (all_as_read us))

-- the first of the pairs that slots list
record ListedFirst (row : ℕ) (ts : Terms) (slot : ℕ) (slots : List ℕ) (us : Terms) : Type 0 where
  key : Located
  value : Located
  later : Terms
  are : us ≡ key ▹ value ▹ later
  first_at : PairAt row ts slot key value
  later_listed : Listed row ts slots later

listed_first : {row : ℕ} {ts : Terms} {slot : ℕ} {slots : List ℕ} {us : Terms} → Listed row ts (slot ∷ slots) us → ListedFirst row ts slot slots us
listed_first (one_listed {r} {rs} {k} {v} {us} p more) = record { key = k; value = v; later = us; are = refl; first_at = p; later_listed = more }

listed_none : {row : ℕ} {ts us : Terms} → Listed row ts [] us → us ≡ empty
listed_none none_listed = refl

-- the canonical forms of a pair, then those of the others
pair_forms : (k v : Term) (ts : Forest Label) → canonicals (k ▹ v ▹ ts) ≡ canonicals (k ▹ v ▹ empty) ++ canonicals ts
pair_forms k v ts = simp (canonicals_more, canonicals_none, append_assoc, append-nil)

module _ {m places lengths T : List ℕ} where
  pair_front : (row : ℕ) (ts : Terms) → RunInTable m places lengths T row ts → 2 ≤ count ts → PairFront m places lengths T row ts
  pair_front row empty h p = absurd (omega arith)
  pair_front row (t ▹ empty) h p = absurd (omega arith)
  pair_front row (node k us ▹ node v ws ▹ ts) h p =
      record {
        key_label = k;
        key_parts = us;
        value_label = v;
        value_parts = ws;
        others = ts;
        is = refl;
        key_held = run_first h;
        value_held = run_first (run_others h);
        others_held = run_others (run_others h);
      }

  -- the pairs as read: the sizes that lead to the next key
  module _ {R : List ℕ} {row : ℕ} {ts us : Terms} {O : List ℕ} {at key left : ℕ} {out : List ℕ} {end : ℕ} (g : PairsLeft m places lengths T R row ts us O at key left out end)
      (p : 0 < left) where
    two : 2 ≤ count g.rest
    two = let c : count g.rest ≡ 2 * left = g.rest_count in omega arith

    pair_next : PairFront m places lengths T key g.rest
    pair_next = pair_front key g.rest g.rest_held two

    pub key_below : key < length T
    key_below = held_below pair_next.key_held

    pub key_size : (s : ℕ) → s ≡ size_in (get_or T key 0) → key + s ≤ 8192
    key_size s e =
        let d : s ≡ suc (sizes pair_next.key_parts) = e ∙ held_size pair_next.key_held in
        let f : key + suc (sizes pair_next.key_parts) ≤ 8192 = pair_next.key_held.few in
        omega arith

    module _ (s : ℕ) (e : s ≡ size_in (get_or T key 0)) where
      value_here : TermInTable m places lengths T (key + s) (node pair_next.value_label pair_next.value_parts)
      value_here = let d : s ≡ suc (sizes pair_next.key_parts) = e ∙ held_size pair_next.key_held in rw d pair_next.value_held

      pub value_below : key + s < length T
      value_below = held_below value_here

      pub value_size : (r : ℕ) → r ≡ size_in (get_or T (key + s) 0) → key + s + r ≤ 8192
      value_size r f =
          let d : r ≡ suc (sizes pair_next.value_parts) = f ∙ held_size value_here in
          let q : key + s + suc (sizes pair_next.value_parts) ≤ 8192 = value_here.few in
          omega arith

    -- the pair that the slot at the key names
    module _ (slot : ℕ) (w : slot ≡ get_or R key 0) where
      first_listed : ListedFirst row ts slot
          (slots_at R (key + suc (sizes pair_next.key_parts) + suc (sizes pair_next.value_parts)) pair_next.others) g.to_come
      unfolding slots_at
      first_listed = listed_first (rw (pair_next.is, ← w) at g.to_come_listed)

      forms_left : canonicals (all_as_read g.to_come)
          ≡ canonicals (as_read first_listed.key ▹ as_read first_listed.value ▹ empty) ++ canonicals (all_as_read first_listed.later)
      forms_left =
          ap (λ (x : Terms). canonicals (all_as_read x)) first_listed.are
          ∙ pair_forms (as_read first_listed.key) (as_read first_listed.value) (all_as_read first_listed.later)

      module _ (h : RunInTable m places lengths T row ts) where
        slot_from : row ≤ slot
        slot_from = (pair_held first_listed.first_at h).pair_from

        module _ (o : AllOrdered R 0 row ts) where
          slot_fits : (room : ℕ) → at + length (canonicals (all_as_read us)) ≤ room → RunFits m places lengths T slot R canonicals 2 room end
          slot_fits room fit =
              let a : length (canonicals (all_as_read g.to_come))
              ≡ length (canonicals (as_read first_listed.key ▹ as_read first_listed.value ▹ empty) ++ canonicals (all_as_read first_listed.later))
              = ap length forms_left in
              let b = length-append (canonicals (as_read first_listed.key ▹ as_read first_listed.value ▹ empty)) (canonicals (all_as_read first_listed.later)) in
              let t = g.past in
              record {
                fit_terms = first_listed.key ▹ first_listed.value ▹ empty;
                fit_run = (pair_held first_listed.first_at h).pair_run;
                fit_all_ordered = pair_run_ordered R 0 first_listed.first_at o;
                fit_count = refl;
                fit_space = omega arith;
              }

          pub pairs_step : (s : ℕ) → s ≡ size_in (get_or T key 0) → (z : ℕ) → z ≡ size_in (get_or T (key + s) 0) → {next_out : List ℕ} (r : ℕ)
              → RunPut m places lengths T slot R canonicals 2 out end r next_out → {later : ℕ} → later + 1 ≡ left
              → PairsLeft m places lengths T R row ts us O at (key + s + z) later next_out r
          pairs_step s e z f {next_out} r put {later} less =
              let n = pair_next in
              let l = first_listed in
              let bs : List ℕ = canonicals (as_read l.key ▹ as_read l.value ▹ empty) in
              let cs : List ℕ = canonicals (all_as_read l.later) in
              let i : Put out end bs r next_out
              = put (l.key ▹ l.value ▹ empty) (pair_held l.first_at h).pair_run (pair_run_ordered R 0 l.first_at o) refl in
              let d : s ≡ suc (sizes n.key_parts) = e ∙ held_size n.key_held in
              let q : z ≡ suc (sizes n.value_parts) = f ∙ held_size (value_here s e) in
              let x : key + s + z ≡ key + suc (sizes n.key_parts) + suc (sizes n.value_parts) = omega arith in
              let c : count g.rest ≡ 2 * left = g.rest_count in
              let k : count g.rest ≡ suc (suc (count n.others)) = ap count n.is in
              let a : length (canonicals (all_as_read g.to_come)) ≡ length (bs ++ cs) = ap length forms_left in
              let b = length-append bs cs in
              let t = g.past in
              let y : r ≡ end + length bs = i.past in
              record {
                rest = n.others;
                rest_held = rw x n.others_held;
                rest_count = omega arith;
                to_come = l.later;
                to_come_listed = rw x l.later_listed;
                past = omega arith;
                stored = ap (λ (v : List ℕ). sets v r cs) i.stored ∙ sets_at out end bs cs r (sym y) ∙ ap (λ (v : List ℕ). sets out end v) (sym forms_left) ∙ g.stored;
              }

  pub pairs_start : (O : List ℕ) (at left row : ℕ) (R : List ℕ) (ts : Terms) → RunInTable m places lengths T row ts → (p : PairsOrdered R row ts) → count ts ≡ 2 * left
      → 0 < get_or R row 0 → PairsLeft m places lengths T R row ts p.sorted O at row left O at
  pairs_start O at left row R ts h p c l =
      record { rest = ts; rest_held = h; rest_count = c; to_come = p.sorted; to_come_listed = p.listed l; past = refl; stored = refl }

  pub pairs_end : {R : List ℕ} {row : ℕ} {ts us : Terms} {O : List ℕ} {at key left : ℕ} {out : List ℕ} {end : ℕ} → PairsLeft m places lengths T R row ts us O at key left out end
      → left ≤ 0 → Put O at (canonicals (all_as_read us)) end out
  unfolding slots_at
  pairs_end {R} {row} {ts} {us} {O} {at} {key} {left} {out} {end} g z =
      let n : g.rest ≡ empty = no_terms g.rest (2 * left) g.rest_count (omega arith) in
      let none : g.to_come ≡ empty = listed_none (rw n at g.to_come_listed) in
      let e : canonicals (all_as_read g.to_come) ≡ [] = ap (λ (x : Terms). canonicals (all_as_read x)) none ∙ canonicals_none in
      let k : length (canonicals (all_as_read g.to_come)) ≡ 0 = ap length e in
      let t = g.past in
      record { past = omega arith; stored = sym (ap (λ (x : List ℕ). sets out end x) e) ∙ g.stored }

  -- what is left of the pairs that are written
  module _ {R O out : List ℕ} {row n room at key left end : ℕ} (a : PairsFit m places lengths T row R n room at)
      (inv : (ts : Terms) → RunInTable m places lengths T row ts → AllOrdered R 0 row ts → (p : PairsOrdered R row ts) → count ts ≡ 2 * n
      → PairsLeft m places lengths T R row ts p.sorted O at key left out end) where
    pub pairs_here : PairsLeft m places lengths T R row a.fit_pairs a.fit_sorted.sorted O at key left out end
    pairs_here = inv a.fit_pairs a.fit_pairs_held a.fit_each a.fit_sorted a.fit_pairs_count

    module _ (p : 0 < left) (slot : ℕ) (w : slot ≡ get_or R key 0) where
      pub pair_from : row ≤ slot
      pair_from = slot_from pairs_here p slot w a.fit_pairs_held

      pub slot_there : key < length R
      slot_there = by_less key (length R) (λ x. x) (λ x. let z : get_or R key 0 ≡ 0 = get_or-eq_default R 0 x in let f = pair_from in absurd (omega (arith, a.fit_below)))

      pub pair_fits : (other : ℕ) → other ≡ room → RunFits m places lengths T slot R canonicals 2 other end
      pair_fits other e = slot_fits pairs_here p slot w a.fit_pairs_held a.fit_each other (rw e a.fit_pairs_room)

-- ---- which parts are written so

-- a slot that is found is not 0; where none is, it is 0
pub slot_some : {x : ℕ} (o : Option ℕ) → MatchOption o (x ≡ 0) (λ s. (s ≡ x) × (0 < s)) → is_some o ≡ true → 0 < x
slot_some None m e = cc
slot_some (Some s) m e = omega (arith, m)

pub slot_none : {x : ℕ} (o : Option ℕ) → MatchOption o (x ≡ 0) (λ s. (s ≡ x) × (0 < s)) → is_some o ≡ false → x ≡ 0
slot_none None m e = m
slot_none (Some s) m e = cc

-- a run of one pair at most is in order
few_in_order : (before : Pair → Pair → Bool) (us : Forest Label) → count us < 4 → in_order before us ≡ us
unfolding in_order put_in
few_in_order before empty h = refl
few_in_order before (k ▹ empty) h = refl
few_in_order before (k ▹ v ▹ empty) h = refl
few_in_order before (k ▹ v ▹ j ▹ empty) h = refl
few_in_order before (k ▹ v ▹ j ▹ w ▹ us) h = absurd (omega arith)

parts_stay : (before : Pair → Pair → Bool) (l : Label) (us : Forest Label) → (l ≡ map → count us < 4) → arranged_parts before l us ≡ us
unfolding arranged_parts
parts_stay before l us h = go (kind l) h
  where
    go : {l : Label} → Kind l → (l ≡ map → count us < 4) → arranged_parts before l us ≡ us
    go a_map h = few_in_order before us (h refl)
    go (no_map stays) h = stays before us

module _ {m places lengths T : List ℕ} {row : ℕ} {l : Label × Offset} {ts : Terms} (h : TermInTable m places lengths T row (node l ts)) where
  -- the keys of a map differ, so its parts are even in number
  map_keys : l.0 ≡ map → Keys [] (all_as_read ts)
  map_keys e = (rw e at (held_writable h).fits).1

  map_pairs : l.0 ≡ map → count ts ≡ 2 * (count ts / 2)
  map_pairs e =
      let n = even [] (all_as_read ts) (map_keys e) in
      let c : count (all_as_read ts) ≡ count ts = count_as_read ts in
      let d : count (all_as_read ts) ≡ n.0 + n.0 = n.1 in
      omega arith

  pairs_written : {R : List ℕ} → l.0 ≡ map → (p : PairsOrdered R (row + 1) ts) → all_bytes (in_writing l.0 ts) ≡ canonicals (all_as_read p.sorted)
  unfolding canonicals arranged_parts
  pairs_written e p =
      ap (λ (x : Label). all_bytes (in_writing x ts)) e
      ∙ ap all_bytes (pairs_sorted (held_parts h).run_flags p (map_keys e) (writable_valids m places lengths (held_parts h).run_flags ts (held_parts h).run_nodes))

  -- parts that are written in turn: any but a map's of two pairs or more, and those of a map whose pairs stand in order
  run_written : {R : List ℕ} → ((p : PairsOrdered R (row + 1) ts) × (l.0 ≡ map) × (get_or R (row + 1) 0 ≡ 0)) ⊎ (l.0 ≡ map → count ts < 4)
      → all_bytes (in_writing l.0 ts) ≡ canonicals (all_as_read ts)
  unfolding canonicals
  run_written (inl (p, e, z)) = pairs_written e p ∙ ap (λ (us : Terms). canonicals (all_as_read us)) (p.as_they_stand z)
  run_written (inr few) =
      let c : count (all_arranged key_before (all_as_read ts)) ≡ count ts = count_arranged key_before (all_as_read ts) ∙ count_as_read ts in
      ap all_bytes (parts_stay key_before l.0 (all_arranged key_before (all_as_read ts)) (λ e. rw c (few e)))

-- the row of a map of two pairs or more
module _ {m places lengths T : List ℕ} {row : ℕ} (w : HasOrder (get_or T row 0)) where
  pub map_label : {l : Label × Offset} {ts : Terms} → TermInTable m places lengths T row (node l ts) → l.0 ≡ map
  map_label {l} h = kind_map l.0 (tag_kind l.0 l.1 9 (omega arith) (sym (held_kind h) ∙ w.is_map))

  pub many_parts : {l : Label × Offset} {ts : Terms} → TermInTable m places lengths T row (node l ts) → 4 ≤ count ts
  many_parts h = let c = held_count h in omega (arith, w.two_pairs)

  pub halves : {l : Label × Offset} {ts : Terms} (n : ℕ) → n ≡ parts_in (get_or T row 0) → TermInTable m places lengths T row (node l ts) → count ts ≡ 2 * (n / 2)
  halves {l} {ts} n f h = let c : count ts ≡ n = sym (held_count h) ∙ sym f in map_pairs h (map_label h) ∙ ap (λ (j : ℕ). 2 * (j / 2)) c

  pairs_of : {R : List ℕ} {l : Label × Offset} {ts : Terms} → TermInTable m places lengths T row (node l ts) → Ordered R 0 row (node l ts) → PairsOrdered R (row + 1) ts
  unfolding Ordered
  pairs_of h o = o.0 (omega arith) (map_label h) (many_parts h)

-- any other row
pub few_parts : {m places lengths T : List ℕ} {row : ℕ} {l : Label × Offset} {ts : Terms} → (HasOrder (get_or T row 0) → ⊥) → TermInTable m places lengths T row (node l ts)
    → l.0 ≡ map → count ts < 4
few_parts {ts = ts} f h e =
    by_less (count ts) 4 (λ x. x) (λ x. let c = held_count h in absurd (f (record { is_map = held_kind h ∙ held_map h e; two_pairs = omega arith })))

module _ {m places lengths T : List ℕ} (R : List ℕ) {row n : ℕ} (f : n ≡ parts_in (get_or T row 0)) where
  -- a map of two pairs or more that slots list
  module _ (w : HasOrder (get_or T row 0)) (some : 0 < get_or R (row + 1) 0) where
    pub pairs_room : {room at : ℕ} → PartsFit m places lengths T row R room at → PairsFit m places lengths T (row + 1) R (n / 2) room at
    unfolding Ordered
    pairs_room {room} {at} a =
        let p : PairsOrdered R (row + 1) a.fit_parts = pairs_of w a.fit_node a.fit_node_ordered in
        record {
          fit_below = omega arith;
          fit_pairs = a.fit_parts;
          fit_pairs_held = held_parts a.fit_node;
          fit_each = a.fit_node_ordered.1;
          fit_sorted = p;
          fit_slots = some;
          fit_pairs_count = halves w n f a.fit_node;
          fit_pairs_room = rw (pairs_written a.fit_node (map_label w a.fit_node) p) at a.fit_parts_room;
        }

    pub pairs_put : {O P : List ℕ} {at r : ℕ} → PairsPut m places lengths T (row + 1) R (n / 2) O at r P → PartsPut m places lengths T row R O at r P
    unfolding Ordered
    pairs_put v l ts h o =
        let p : PairsOrdered R (row + 1) ts = pairs_of w h o in
        put_same (sym (pairs_written h (map_label w h) p)) (v ts (held_parts h) o.1 p (halves w n f h))

  -- any other term, and a map whose pairs stand in order
  module _ (few : (HasOrder (get_or T row 0) × (get_or R (row + 1) 0 ≡ 0)) ⊎ (HasOrder (get_or T row 0) → ⊥)) where
    in_turn : {l : Label × Offset} {ts : Terms} → TermInTable m places lengths T row (node l ts) → Ordered R 0 row (node l ts)
        → all_bytes (in_writing l.0 ts) ≡ canonicals (all_as_read ts)
    in_turn {l} {ts} h o = run_written h (⊎_map (λ x. (pairs_of x.0 h o, map_label x.0 h, x.1)) (λ x. few_parts x h) few)

    pub run_room : {room at : ℕ} → PartsFit m places lengths T row R room at → RunFits m places lengths T (row + 1) R canonicals n room at
    unfolding Ordered
    run_room a =
        record {
          fit_terms = a.fit_parts;
          fit_run = held_parts a.fit_node;
          fit_all_ordered = a.fit_node_ordered.1;
          fit_count = sym (held_count a.fit_node) ∙ sym f;
          fit_space = rw (in_turn a.fit_node a.fit_node_ordered) at a.fit_parts_room;
        }

    pub run_put : {O P : List ℕ} {at r : ℕ} → RunPut m places lengths T (row + 1) R canonicals n O at r P → PartsPut m places lengths T row R O at r P
    unfolding Ordered
    run_put v l ts h o = put_same (sym (in_turn h o)) (v ts (held_parts h) o.1 (sym (held_count h) ∙ sym f))
