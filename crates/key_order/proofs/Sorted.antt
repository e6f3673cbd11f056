-- Keys put in order one by one: each goes to its place among those before it.
use mathlib.Core.Path.{◌≡◌, refl, sym, ap, subst, ◌∙◌}
use mathlib.Core.Bool.{Bool, true}
use mathlib.Core.List.{List, ◌∷◌, ◌++◌}
use Prim.Native.Nat.{ℕ, zero, suc, ◌+◌, ◌*◌, ◌-◌, ◌≤◌, ◌<◌}
use native.Mathlib.Omega.{arith}
use native.Mathlib.Numerals.{add-one}
use lib.ListN.{length, get_or, take, drop, length-append}
use lib.Seq.{sets, length-sets, get_or-take, length-take-le}
use Rattle.term_spec.specs.Tree.{Forest, empty, ◌▹◌, ◌▹▹◌, count, size}
use Rattle.term_spec.specs.Term.{Label}
use Rattle.term_spec.specs.Pairs.{Pair, arranged, all_arranged, Next, Rising}
use Rattle.term_spec.specs.Same.{Rearranged, stay, keep, swap, chain}
use Rattle.term_spec.specs.Canonical.{bytes_of, all_bytes, key_before, canonical}
use Rattle.term_spec.specs.Reading.{Located, as_read}
use Rattle.term_spec.specs.Message.{Terms, all_as_read}
use Rattle.term_spec.specs.Rows.{size_in}
use Rattle.term_spec.proofs.Lengths.{rearranged_length, length_canonical}
use Rattle.octets.specs.Parts.{stretch}
use Rattle.term_writer.specs.InTable.{RunInTable}
use Rattle.term_writer.specs.PairOrder.{PairAt, Listed, none_listed, one_listed, Ordered, AllOrdered}
use Rattle.term_writer.proofs.PairOrder.{pair_held, pair_ordered}
use Rattle.key_order.specs.Code.{Sorted, Ready, TwoFit, Before, KeysFit, PlaceFound, PairsFit, KeysSorted}
use Rattle.key_order.proofs.Moved.{one_put}
use Rattle.key_order.proofs.Walk.{Walk, none_walked, walk_count, walk_all, walk_last, walk_bytes, PairHere, pair_here, value_step}

-- the pairs of a run as their keys' bytes are compared
abbrev in_form : Terms → Forest Label
in_form ts = all_arranged key_before (all_as_read ts)

abbrev in_pair : Located → Located → Pair
in_pair k v = (arranged key_before (as_read k), arranged key_before (as_read v))

-- ---- a pair put in at its place

record PutIn (row : ℕ) (ts : Terms) (key : ℕ) (k v : Located) (at : ℕ) (rs : List ℕ) (us : Terms) : Type 0 where
  with_it : Terms
  its_rows : Listed row ts (take at rs ++ (key ∷ drop at rs)) with_it
  its_pairs : Rearranged (as_read k ▹ as_read v ▹ all_as_read us) (all_as_read with_it)
  its_rise : Rising key_before (in_form with_it)
  its_end : at ≡ length rs → with_it ≡ (us ▹▹ (k ▹ v ▹ empty))
  its_first : (q : Pair) → (at ≡ 0 → key_before q (in_pair k v) ≡ true) → (0 < at → Next key_before q (in_form us)) → Next key_before q (in_form with_it)

module _ {m places lengths T R : List ℕ} {row : ℕ} {ts : Terms} (held : RunInTable m places lengths T row ts) (each : AllOrdered R 0 row ts) where
  ready_at : {r : ℕ} {k v : Located} → PairAt row ts r k v → Ready m places lengths T R r k
  unfolding Ordered
  ready_at p = record { held = (pair_held p held).pair_key; ordered = (pair_ordered R 0 p each).0 }

  in_turn : {r s : ℕ} {k v j w : Located} → PairAt row ts r k v → PairAt row ts s j w → Before m places lengths T R r s → key_before (in_pair k v) (in_pair j w) ≡ true
  unfolding key_before canonical
  in_turn p q b = b _ _ (ready_at p) (ready_at q)

  module _ {key : ℕ} {k v : Located} (p : PairAt row ts key k v) where
    next_to : {rs : List ℕ} {us : Terms} → Listed row ts rs us → (0 < length rs → Before m places lengths T R key (get_or rs 0 0)) → Next key_before (in_pair k v) (in_form us)
    unfolding arranged
    next_to none_listed b = tt
    next_to (one_listed q l) b = in_turn p q (b (omega arith))

    -- after the first of a run
    put_later : {at r : ℕ} {rs : List ℕ} {j w : Located} {us : Terms} → PairAt row ts r j w → Next key_before (in_pair j w) (in_form us)
        → Before m places lengths T R (get_or (r ∷ rs) at 0) key → PutIn row ts key k v at rs us → PutIn row ts key k v (suc at) (r ∷ rs) (j ▹ w ▹ us)
    unfolding arranged
    put_later {j = j} {w = w} q n b i =
        record {
          with_it = j ▹ w ▹ i.with_it;
          its_rows = one_listed q i.its_rows;
          its_pairs = chain (swap (as_read k) (as_read v) (as_read j) (as_read w)) (keep (as_read j) (as_read w) i.its_pairs);
          its_rise = (i.its_first (in_pair j w) (λ z. in_turn q p (rw z at b)) (λ x. n), i.its_rise);
          its_end = λ e. ap (λ (ws : Terms). j ▹ w ▹ ws) (i.its_end (omega arith));
          its_first = λ q a b. b (omega arith);
        }

    not_first : (r : ℕ) (rs : List ℕ) (at : ℕ) → Before m places lengths T R (get_or (r ∷ rs) at 0) key → 0 < at → Before m places lengths T R (get_or rs (at - 1) 0) key
    not_first r rs zero b x = absurd (omega arith)
    not_first r rs (suc at) b x = let e : suc at - 1 ≡ at = omega arith in rw e b

    put_in : (at : ℕ) {rs : List ℕ} {us : Terms} → Listed row ts rs us → at ≤ length rs → Rising key_before (in_form us)
        → (0 < at → Before m places lengths T R (get_or rs (at - 1) 0) key) → (at < length rs → Before m places lengths T R key (get_or rs at 0)) → PutIn row ts key k v at rs us
    unfolding arranged
    put_in zero {us = us} l h rise f g =
        record {
          with_it = k ▹ v ▹ us;
          its_rows = one_listed p l;
          its_pairs = stay;
          its_rise = (next_to l g, rise);
          its_end = λ e. ends l e;
          its_first = λ q a b. a refl;
        }
      where
        ends : {rs : List ℕ} {us : Terms} → Listed row ts rs us → 0 ≡ length rs → (k ▹ v ▹ us) ≡ (us ▹▹ (k ▹ v ▹ empty))
        ends none_listed e = refl
        ends (one_listed q l) e = absurd (omega arith)
    put_in (suc at) none_listed h rise f g = absurd (omega arith)
    put_in (suc at) (one_listed {r = r} {rs = rs} q l) h rise f g =
        let e : suc at - 1 ≡ at = omega arith in
        let b : Before m places lengths T R (get_or (r ∷ rs) at 0) key = rw e at (f (omega arith)) in
        put_later q rise.0 b (put_in at l (omega arith) rise.1 (not_first r rs at b) (λ x. g (omega arith)))

-- ---- a key of a pair that is listed

record ListedKey (row : ℕ) (ts : Terms) (r : ℕ) (us : Terms) : Type 0 where
  the_key : Located
  the_value : Located
  stands : PairAt row ts r the_key the_value
  short : length (bytes_of (as_read the_key)) ≤ length (all_bytes (all_as_read us))

first_short : (k v : Located) (us : Terms) → length (bytes_of (as_read k)) + (length (bytes_of (as_read v)) + length (all_bytes (all_as_read us))) ≡ length (all_bytes (all_as_read (k ▹ v ▹ us)))
unfolding all_bytes
first_short k v us =
    let a = length-append (bytes_of (as_read k)) (bytes_of (as_read v) ++ all_bytes (all_as_read us)) in
    let b = length-append (bytes_of (as_read v)) (all_bytes (all_as_read us)) in
    omega arith

listed_key : {row : ℕ} {ts : Terms} {rs : List ℕ} {us : Terms} → Listed row ts rs us → (j : ℕ) → j < length rs → ListedKey row ts (get_or rs j 0) us
listed_key none_listed j h = absurd (omega arith)
listed_key (one_listed {k = k} {v = v} {us = us} p l) zero h =
    let s = first_short k v us in
    record { the_key = k; the_value = v; stands = p; short = omega arith }
listed_key (one_listed {k = k} {v = v} {us = us} p l) (suc j) h =
    let i = listed_key l j (omega arith) in
    let s = first_short k v us in
    let x : length (bytes_of (as_read i.the_key)) ≤ length (all_bytes (all_as_read us)) = i.short in
    record { the_key = i.the_key; the_value = i.the_value; stands = i.stands; short = omega arith }

-- ---- the first i keys in order

pub record SortedSoFar (S : List ℕ) (row : ℕ) (ts : Terms) (rising : Bool) (i key : ℕ) : Type 0 where
  pub done : Terms
  pub rest : Terms
  pub walk : Walk row ts done i key rest
  pub sorted : Sorted row ts done (take i S) rising

pub record Sorting (m places lengths T R : List ℕ) (row n : ℕ) (N O S P : List ℕ) (rising : Bool) (key i : ℕ) : Type 0 where
  pub few : i ≤ n
  pub run_long : length S ≡ length N
  pub out_long : length P ≡ length O
  pub so_far : (ts : Terms) → RunInTable m places lengths T row ts → AllOrdered R 0 row ts → count ts ≡ 2 * n → SortedSoFar S row ts rising i key
  pub past : (total : ℕ) → PairsFit m places lengths T R row n total → drop total P ≡ drop total O

pub sorting_start : (m places lengths T R : List ℕ) (row n : ℕ) (N O : List ℕ) → Sorting m places lengths T R row n N O N O true row 0
unfolding arranged
sorting_start m places lengths T R row n N O =
    record {
      few = omega arith;
      run_long = refl;
      out_long = refl;
      so_far = λ ts h o c. record { done = empty; rest = ts; walk = none_walked; sorted = record { in_turn = empty; listed = none_listed; same_pairs = stay; rises = tt; as_they_stand = λ e. refl } };
      past = λ total f. refl;
    }

module _ {m places lengths T R : List ℕ} {row n : ℕ} {N O S P : List ℕ} {rising : Bool} {key i : ℕ} (g : Sorting m places lengths T R row n N O S P rising key i) where
  pub now_sorted : {room : ℕ} (f : PairsFit m places lengths T R row n room) → SortedSoFar S row f.pairs rising i key
  now_sorted f = g.so_far f.pairs f.pairs_held f.pairs_ready f.pairs_count

  module _ (l : i < n) where
    pub sorting_pair : {room : ℕ} (f : PairsFit m places lengths T R row n room) → PairHere m places lengths T row f.pairs (now_sorted f).done i key (now_sorted f).rest
    sorting_pair f = pair_here n (now_sorted f).rest (now_sorted f).walk f.pairs_held f.pairs_count l

    module _ (b : n ≤ length N) where
      short_run : i ≤ length S
      short_run = let s : length S ≡ length N = g.run_long in omega arith

      pub keys_fit : {room : ℕ} → PairsFit m places lengths T R row n room → KeysFit m places lengths T R S i key room
      keys_fit {room} f = record { all_there = short_run; each_fits = λ j x. fits j x }
        where
          fits : (j : ℕ) → j < i → TwoFit m places lengths T R (get_or S j 0) key room
          fits j x =
              let y = now_sorted f in
              let h = sorting_pair f in
              let k : length (take i S) ≡ i = length-take-le i S short_run in
              let q = listed_key y.sorted.listed j (omega arith) in
              let r : get_or (take i S) j 0 ≡ get_or S j 0 = get_or-take i S j 0 x in
              let a = length_canonical (as_read q.the_key) in
              let d = length_canonical (as_read h.its_key) in
              let c = rearranged_length y.sorted.same_pairs in
              let w = walk_bytes y.walk in
              let z = ap (λ (us : Terms). length (all_bytes (all_as_read us))) h.are in
              let u = first_short h.its_key h.its_value h.later in
              let s : length (bytes_of (as_read q.the_key)) ≤ length (all_bytes (all_as_read y.sorted.in_turn)) = q.short in
              let t : length (all_bytes (all_as_read f.pairs)) ≤ room = f.pairs_room in
              record {
                first = q.the_key;
                second = h.its_key;
                first_ready = ready_at f.pairs_held f.pairs_ready (subst (λ (e : ℕ). PairAt row f.pairs e q.the_key q.the_value) r q.stands);
                second_ready = ready_at f.pairs_held f.pairs_ready h.pair;
                both_fit = omega arith;
              }

      module _ {at : ℕ} {Q S' : List ℕ} (p : PlaceFound m places lengths T R S i key P at Q) (e : S' ≡ sets S at (key ∷ stretch S at (i - at)))
          {still : Bool} (last : still ≡ true → (rising ≡ true) × (i ≤ at)) where
        put_here : {ts done rest : Terms} → RunInTable m places lengths T row ts → AllOrdered R 0 row ts → Walk row ts done i key rest
            → Sorted row ts done (take i S) rising → (k v : Located) → PairAt row ts key k v
            → Sorted row ts (done ▹▹ (k ▹ v ▹ empty)) (take (i + 1) S') still
        put_here h o w x k v q =
            let j : length (take i S) ≡ i = length-take-le i S short_run in
            let in_run : (z : ℕ) → z < i → get_or S z 0 ≡ get_or (take i S) z 0 = λ z c. sym (get_or-take i S z 0 c) in
            let c : at ≤ i = p.inside in
            let s : length S ≡ length N = g.run_long in
            let it = put_in h o q at x.listed (omega arith) x.rises
            (λ d. subst (λ (z : ℕ). Before m places lengths T R z key) (in_run (at - 1) (omega arith)) (p.after_last d))
            (λ d. subst (λ (z : ℕ). Before m places lengths T R key z) (in_run at (omega arith)) (p.before_next (omega arith))) in
            let rows : take (i + 1) S' ≡ take at (take i S) ++ (key ∷ drop at (take i S)) = ap (take (i + 1)) e ∙ one_put S i at key c (omega arith) in
            record {
              in_turn = it.with_it;
              listed = rw rows it.its_rows;
              same_pairs = chain (walk_last k v w) (chain (keep (as_read k) (as_read v) x.same_pairs) it.its_pairs);
              rises = it.its_rise;
              as_they_stand = λ z.
                  let b : i ≤ at = (last z).1 in
                  it.its_end (omega arith) ∙ ap (λ (us : Terms). us ▹▹ (k ▹ v ▹ empty)) (x.as_they_stand (last z).0);
            }

        pub sorting_next : {s t : ℕ} → length Q ≡ length P → s ≡ size_in (get_or T key 0) → t ≡ size_in (get_or T (key + s) 0)
            → Sorting m places lengths T R row n N O S' Q still (key + s + t) (i + 1)
        sorting_next {s} {t} d a c =
            record {
              few = omega arith;
              run_long = ap length e ∙ length-sets S at (key ∷ stretch S at (i - at)) ∙ g.run_long;
              out_long = d ∙ g.out_long;
              so_far = λ ts h o f.
                  let x = g.so_far ts h o f in
                  let y = pair_here n x.rest x.walk h f l in
                  let z : key + s + t ≡ key + size y.its_key + size y.its_value = value_step y s t a c in
                  record {
                    done = x.done ▹▹ (y.its_key ▹ y.its_value ▹ empty);
                    rest = y.later;
                    walk = rw (z, add-one i) y.next;
                    sorted = put_here h o x.walk x.sorted y.its_key y.its_value y.pair;
                  };
              past = λ total f. p.past_keys total (keys_fit f) ∙ g.past total f;
            }

  pub sorting_end : n ≤ i → KeysSorted m places lengths T R row n O S rising P
  sorting_end l =
      let few : i ≤ n = g.few in
      let e : i ≡ n = omega arith in
      record {
        sorted_rows = λ ts h o c.
            let x = g.so_far ts h o c in
            let k = walk_count x.walk in
            let all : x.done ≡ ts = walk_all x.walk (omega arith) in
            rw (all, e) at x.sorted;
        past_pairs = g.past;
      }
