-- Rows from the last to the first: the term that stands at a row of a run, and the maps from that row on.
use mathlib.Core.Path.{◌≡◌, refl, sym, subst, ◌∙◌}
use mathlib.Core.List.{List}
use Prim.Native.Nat.{ℕ, suc, ◌+◌, ◌*◌, ◌-◌, ◌≤◌, ◌<◌}
use native.Mathlib.Omega.{arith}
use lib.ListN.{length, get_or, drop}
use Rattle.term_spec.specs.Tree.{node, empty, ◌▹◌, count, size, sizes, EachNode, EachNodes}
use Rattle.term_spec.specs.Term.{Label, map}
use Rattle.term_spec.specs.Reading.{Offset, Located}
use Rattle.term_spec.specs.Message.{Terms}
use Rattle.term_spec.proofs.Rows.{count_le_sizes}
use Rattle.term_spec.proofs.Tests.{by_less}
use Rattle.term_writer.specs.InTable.{TermInTable, RunInTable}
use Rattle.term_writer.specs.PairOrder.{PairsOrdered, Ordered, AllOrdered}
use Rattle.term_writer.proofs.InTable.{run_first, run_others, held_parts}
use Rattle.term_writer.proofs.PairOrder.{all_ordered_least}
use Rattle.key_order.specs.Code.{SlotsFor, PartsReady, MapFits, MapOrdered, RunFits, AllInOrder}
use Rattle.key_order.proofs.Slots.{map_whole, first_whole, slots_same}
use Rattle.key_order.proofs.Rooms.{MapRoom, run_roomy}

-- ---- past the last row

module _ (R : List ℕ) (least : ℕ) where
  mutual
    unfolding Ordered

    none_ordered : (row : ℕ) (t : Located) → row + size t ≤ least → Ordered R least row t
    none_ordered row (node l ts) h = (λ b e c. absurd (omega arith), none_from (row + 1) ts (omega arith))

    pub none_from : (row : ℕ) (ts : Terms) → row + sizes ts ≤ least → AllOrdered R least row ts
    none_from row empty h = tt
    none_from row (t ▹ ts) h = (none_ordered row t (omega arith), none_from (row + size t) ts (omega arith))

-- ---- the term at row r

pub record Found (m places lengths T R : List ℕ) (r room end : ℕ) : Type 0 where
  pub ready : PartsReady m places lengths T R r room
  pub ends : r + 1 + sizes ready.parts ≤ end

module _ {m places lengths T : List ℕ} (R : List ℕ) (r room : ℕ) where
  further : {end more : ℕ} → end ≤ more → Found m places lengths T R r room end → Found m places lengths T R r room more
  further {end} h f = let e : r + 1 + sizes f.ready.parts ≤ end = f.ends in record { ready = f.ready; ends = omega arith }

  -- it is this one
  found_here : (row : ℕ) → row ≡ r → (l : Label × Offset) (ts : Terms) → TermInTable m places lengths T row (node l ts) → AllOrdered R (r + 1) (row + 1) ts → MapRoom room l ts
      → Found m places lengths T R r room (row + suc (sizes ts))
  found_here row e l ts h o n =
      record {
        ready = record {
          label = l;
          parts = ts;
          node_held = subst (λ (i : ℕ). TermInTable m places lengths T i (node l ts)) e h;
          parts_ordered = all_ordered_least R (r + 1) (r + 1) ts (omega arith) (subst (λ (i : ℕ). AllOrdered R (r + 1) (i + 1) ts) e o);
          parts_room = n;
        };
        ends = omega arith;
      }

  mutual
    unfolding Ordered EachNode

    found_in : (row : ℕ) (t : Located) → TermInTable m places lengths T row t → row ≤ r → r < row + size t → Ordered R (r + 1) row t → EachNode (MapRoom room) t
        → Found m places lengths T R r room (row + size t)
    found_in row (node l ts) h a b o n =
        by_less row r (λ x. further (omega arith) (found_among (row + 1) ts (held_parts h) (omega arith) (omega arith) o.1 n.1))
        (λ x. let e : row ≡ r = omega arith in found_here row e l ts h o.1 n.0)

    pub found_among : (row : ℕ) (ts : Terms) → RunInTable m places lengths T row ts → row ≤ r → r < row + sizes ts → AllOrdered R (r + 1) row ts → EachNodes (MapRoom room) ts
        → Found m places lengths T R r room (row + sizes ts)
    found_among row empty h a b o n = absurd (omega arith)
    found_among row (t ▹ ts) h a b o n =
        by_less r (row + size t) (λ x. further (omega arith) (found_in row t (run_first h) a x o.0 n.0))
        (λ x. further (omega arith) (found_among (row + size t) ts (run_others h) x (omega arith) o.1 n.1))

-- ---- once the map at row r is ordered

module _ {m places lengths T R : List ℕ} {r : ℕ} {R' O P : List ℕ} (h : MapOrdered m places lengths T R r R' O P) where
  -- other maps stay as they are
  pairs_kept : {row : ℕ} {l : Label × Offset} {ts : Terms} → TermInTable m places lengths T row (node l ts) → r < row → 4 ≤ count ts → PairsOrdered R (row + 1) ts → PairsOrdered R' (row + 1) ts
  pairs_kept {row} {ts = ts} t x c p =
      let e = slots_same R R' (row + 1) ts (λ q k v y. h.other_maps q (λ z. let w = map_whole t y in omega arith)) in
      let f : get_or R' (row + 1) 0 ≡ get_or R (row + 1) 0 = h.other_maps (row + 1) (λ z. let w = first_whole t (omega arith) in omega arith) in
      record { sorted = p.sorted; as_they_stand = λ z. p.as_they_stand (omega arith); listed = λ z. rw e (p.listed (omega arith)); same_pairs = p.same_pairs; rises = p.rises }

  -- the pairs of the map at a row
  own_pairs : (row : ℕ) (l : Label × Offset) (ts : Terms) → TermInTable m places lengths T row (node l ts) → Ordered R (r + 1) row (node l ts)
      → r ≤ row → l.0 ≡ map → 4 ≤ count ts → PairsOrdered R' (row + 1) ts
  unfolding Ordered
  own_pairs row l ts t o a e c =
      by_less r row (λ x. pairs_kept t x c (o.0 (omega arith) e c))
      (λ x.
      let i : row ≡ r = omega arith in
      let within : AllOrdered R 0 (row + 1) ts = all_ordered_least R (r + 1) (row + 1) ts (omega arith) o.1 in
      subst (λ (j : ℕ). PairsOrdered R' (j + 1) ts) (sym i)
      (h.pairs_in_order l ts (subst (λ (j : ℕ). TermInTable m places lengths T j (node l ts)) i t) (subst (λ (j : ℕ). AllOrdered R 0 (j + 1) ts) i within) e c))

  mutual
    unfolding Ordered

    one_more : (row : ℕ) (t : Located) → TermInTable m places lengths T row t → Ordered R (r + 1) row t → Ordered R' r row t
    one_more row (node l ts) t o = (λ a e c. own_pairs row l ts t o a e c, all_one_more (row + 1) ts (held_parts t) o.1)

    pub all_one_more : (row : ℕ) (ts : Terms) → RunInTable m places lengths T row ts → AllOrdered R (r + 1) row ts → AllOrdered R' r row ts
    all_one_more row empty t o = tt
    all_one_more row (u ▹ ts) t o = (one_more row u (run_first t) o.0, all_one_more (row + size u) ts (run_others t) o.1)

-- ---- from the last row to the first

-- the maps at `row` and later rows are ordered
pub record Ordering (m places lengths T : List ℕ) (rows : ℕ) (R S O R' S' P : List ℕ) (row : ℕ) : Type 0 where
  pub few : row ≤ rows
  pub slots_long : length R' ≡ length R
  pub run_long : length S' ≡ length S
  pub out_long : length P ≡ length O
  pub from_here : (ts : Terms) → RunInTable m places lengths T 0 ts → sizes ts ≡ rows → AllOrdered R' row 0 ts
  pub past : (total : ℕ) → RunFits m places lengths T rows total → drop total P ≡ drop total O

pub ordering_start : (m places lengths T : List ℕ) (rows : ℕ) (R S O : List ℕ) → Ordering m places lengths T rows R S O R S O rows
ordering_start m places lengths T rows R S O =
    record { few = omega arith; slots_long = refl; run_long = refl; out_long = refl; from_here = λ ts h e. none_from R rows 0 ts (omega arith); past = λ total f. refl }

module _ {m places lengths T : List ℕ} {rows : ℕ} {R S O R' S' P : List ℕ} {row : ℕ} (g : Ordering m places lengths T rows R S O R' S' P row) where
  pub run_ended : row ≤ 0 → AllInOrder m places lengths T rows R' O P
  run_ended l =
      let e : row ≡ 0 = omega arith in
      record { run_ordered = λ ts h x. subst (λ (i : ℕ). AllOrdered R' i 0 ts) e (g.from_here ts h x); past_run = g.past }

  module _ (l : 0 < row) where
    row_found : {room : ℕ} (f : RunFits m places lengths T rows room) → Found m places lengths T R' (row - 1) room (0 + sizes f.terms)
    row_found {room} f =
        let h = f.terms_held in
        let n : sizes f.terms ≡ rows = f.terms_rows in
        let few : row ≤ rows = g.few in
        let e : row ≡ row - 1 + 1 = omega arith in
        found_among R' (row - 1) room 0 f.terms h (omega arith) (omega arith)
        (subst (λ (i : ℕ). AllOrdered R' i 0 f.terms) e (g.from_here f.terms h n))
        (run_roomy m places lengths h.run_flags room f.terms h.run_nodes f.terms_room)

    pub row_fits : RunFits m places lengths T rows (length O) → SlotsFor rows (length R) (length S)
        → MapFits m places lengths T R' (row - 1) (length P) (length R') (length S')
    row_fits f enough =
        let x = row_found f in
        let n : sizes f.terms ≡ rows = f.terms_rows in
        let e : row - 1 + 1 + sizes x.ready.parts ≤ 0 + sizes f.terms = x.ends in
        let c = count_le_sizes x.ready.parts in
        let slots : rows ≤ length R = enough.0 in
        let keys : rows ≤ 2 * length S = enough.1 in
        rw (g.slots_long, g.run_long, g.out_long) (record { ready = x.ready; enough_slots = omega arith; enough_rows = omega arith })

    pub ordering_next : {R'' S'' Q : List ℕ} → MapOrdered m places lengths T R' (row - 1) R'' P Q → length R'' ≡ length R' → length S'' ≡ length S' → length Q ≡ length P
        → Ordering m places lengths T rows R S O R'' S'' Q (row - 1)
    ordering_next h a b c =
        let few : row ≤ rows = g.few in
        let e : row ≡ row - 1 + 1 = omega arith in
        record {
          few = omega arith;
          slots_long = a ∙ g.slots_long;
          run_long = b ∙ g.run_long;
          out_long = c ∙ g.out_long;
          from_here = λ ts t x. all_one_more h 0 ts t (subst (λ (i : ℕ). AllOrdered R' i 0 ts) e (g.from_here ts t x));
          past = λ total f. h.past_map total (row_found f).ready ∙ g.past total f;
        }
