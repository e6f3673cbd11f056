-- A map's pairs walked one by one.
use mathlib.Core.Path.{◌≡◌, refl, ap, ◌∙◌}
use mathlib.Core.List.{List, [], ◌∷◌, ◌++◌}
use Prim.Native.Nat.{ℕ, suc, ◌+◌, ◌*◌, ◌≤◌, ◌<◌}
use native.Mathlib.Omega.{arith}
use lib.ListN.{length, get_or, length-append}
use Rattle.term_spec.specs.Tree.{node, empty, ◌▹◌, ◌▹▹◌, count, size, sizes}
use Rattle.term_spec.specs.Same.{Rearranged, stay, keep, swap, chain}
use Rattle.term_spec.specs.Canonical.{bytes_of, all_bytes}
use Rattle.term_spec.specs.Reading.{Located, as_read}
use Rattle.term_spec.specs.Message.{Terms, all_as_read}
use Rattle.term_spec.specs.Rows.{size_in}
use Rattle.term_writer.specs.InTable.{TermInTable, RunInTable}
use Rattle.term_writer.specs.PairOrder.{PairAt, the_first, a_later, slots_at}
use Rattle.term_writer.proofs.InTable.{held_below, held_size}
use Rattle.term_writer.proofs.PairOrder.{pair_held}

-- the first i pairs of a run, whose first key is at `row`, are walked: they are `done`, and the key of the first of the others is at `key`
pub data Walk : ℕ → Terms → Terms → ℕ → ℕ → Terms → Type 0 where
  none_walked : {row : ℕ} {ts : Terms} → Walk row ts empty 0 row ts
  one_walked : {row i key : ℕ} {k v : Located} {ts done rest : Terms} → Walk (row + size k + size v) ts done i key rest → Walk row (k ▹ v ▹ ts) (k ▹ v ▹ done) (suc i) key rest

pub walk_count : {row i key : ℕ} {ts done rest : Terms} → Walk row ts done i key rest → count ts ≡ 2 * i + count rest
walk_count none_walked = omega arith
walk_count (one_walked w) = let e = walk_count w in omega arith

pub walk_past : {row i key : ℕ} {ts done rest : Terms} → Walk row ts done i key rest → row + sizes done ≡ key
walk_past none_walked = omega arith
walk_past (one_walked w) = let e = walk_past w in omega arith

-- no more are left
pub walk_all : {row i key : ℕ} {ts done rest : Terms} → Walk row ts done i key rest → count rest ≡ 0 → done ≡ ts
walk_all (none_walked {ts = empty}) e = refl
walk_all (none_walked {ts = t ▹ ts}) e = absurd (omega arith)
walk_all (one_walked {k = k} {v = v} w) e = ap (λ (us : Terms). k ▹ v ▹ us) (walk_all w e)

-- the next pair
module _ {k v : Located} {us : Terms} where
  pub walk_pair : {row i key : ℕ} {ts done : Terms} → Walk row ts done i key (k ▹ v ▹ us) → PairAt row ts key k v
  walk_pair none_walked = the_first
  walk_pair (one_walked w) = a_later (walk_pair w)

  pub walk_next : {row i key : ℕ} {ts done : Terms} → Walk row ts done i key (k ▹ v ▹ us) → Walk row ts (done ▹▹ (k ▹ v ▹ empty)) (suc i) (key + size k + size v) us
  walk_next none_walked = one_walked none_walked
  walk_next (one_walked w) = one_walked (walk_next w)

-- a pair after those walked can be put before them
pub walk_last : (k v : Located) {row i key : ℕ} {ts done rest : Terms} → Walk row ts done i key rest
    → Rearranged (all_as_read (done ▹▹ (k ▹ v ▹ empty))) (as_read k ▹ as_read v ▹ all_as_read done)
walk_last k v none_walked = stay
walk_last k v (one_walked {k = j} {v = w} {done = done} x) =
    chain (keep (as_read j) (as_read w) (walk_last k v x)) (swap (as_read j) (as_read w) (as_read k) (as_read v))

-- how long their bytes are
pub walk_bytes : {row i key : ℕ} {ts done rest : Terms} → Walk row ts done i key rest
    → length (all_bytes (all_as_read ts)) ≡ length (all_bytes (all_as_read done)) + length (all_bytes (all_as_read rest))
unfolding all_bytes
walk_bytes none_walked = omega arith
walk_bytes (one_walked {k = k} {v = v} {ts = ts} {done = done} w) =
    let e = walk_bytes w in
    let a = length-append (bytes_of (as_read k)) (bytes_of (as_read v) ++ all_bytes (all_as_read ts)) in
    let b = length-append (bytes_of (as_read v)) (all_bytes (all_as_read ts)) in
    let c = length-append (bytes_of (as_read k)) (bytes_of (as_read v) ++ all_bytes (all_as_read done)) in
    let d = length-append (bytes_of (as_read v)) (all_bytes (all_as_read done)) in
    omega arith

-- the slots at their keys, and at the next one
pub walk_slots : (R : List ℕ) (k v : Located) {row i key : ℕ} {ts done rest : Terms} → Walk row ts done i key rest
    → slots_at R row (done ▹▹ (k ▹ v ▹ empty)) ≡ slots_at R row done ++ (get_or R key 0 ∷ [])
unfolding slots_at
walk_slots R k v none_walked = refl
walk_slots R k v (one_walked {row = row} w) = ap (λ (rs : List ℕ). get_or R row 0 ∷ rs) (walk_slots R k v w)

-- ---- what the code finds at the next pair

pub record PairHere (m places lengths T : List ℕ) (row : ℕ) (ts done : Terms) (i key : ℕ) (rest : Terms) : Type 0 where
  pub its_key : Located
  pub its_value : Located
  pub later : Terms
  pub are : rest ≡ its_key ▹ its_value ▹ later
  pub pair : PairAt row ts key its_key its_value
  pub next : Walk row ts (done ▹▹ (its_key ▹ its_value ▹ empty)) (suc i) (key + size its_key + size its_value) later
  pub key_below : key < length T
  pub value_below : key + size its_key < length T
  pub key_size : size_in (get_or T key 0) ≡ size its_key
  pub value_size : size_in (get_or T (key + size its_key) 0) ≡ size its_value
  pub within : key + size its_key + size its_value ≤ row + sizes ts
  pub few : key + size its_key + size its_value ≤ 8192

module _ {m places lengths T : List ℕ} where
  below_size : {row : ℕ} (t : Located) → TermInTable m places lengths T row t → (row < length T) × (size_in (get_or T row 0) ≡ size t)
  below_size (node l ts) h = (held_below h, held_size h)

  pub pair_here : (n : ℕ) {row i key : ℕ} {ts done : Terms} (rest : Terms) → Walk row ts done i key rest → RunInTable m places lengths T row ts → count ts ≡ 2 * n → i < n
      → PairHere m places lengths T row ts done i key rest
  pair_here n empty w h c l = let e = walk_count w in absurd (omega arith)
  pair_here n (k ▹ empty) w h c l = let e = walk_count w in absurd (omega arith)
  pair_here n {row} {i} {key} {ts} (k ▹ v ▹ us) w h c l =
      let p = walk_pair w in
      let g = pair_held p h in
      let to : key + size k + size v ≤ row + sizes ts = g.pair_to in
      let few : row + sizes ts ≤ 8192 = h.run_few in
      let a = below_size k g.pair_key in
      let b = below_size v g.pair_value in
      record {
        its_key = k;
        its_value = v;
        later = us;
        are = refl;
        pair = p;
        next = walk_next w;
        key_below = a.0;
        value_below = b.0;
        key_size = a.1;
        value_size = b.1;
        within = to;
        few = omega arith;
      }

-- the code's steps over the key and the value
module _ {m places lengths T : List ℕ} {row i key : ℕ} {ts done rest : Terms} (h : PairHere m places lengths T row ts done i key rest) where
  pub key_step : (s : ℕ) → s ≡ size_in (get_or T key 0) → (key + s < length T) × (key + s ≤ 8192)
  key_step s e =
      let b : key + size h.its_key < length T = h.value_below in
      let f : key + size h.its_key + size h.its_value ≤ 8192 = h.few in
      let g : size_in (get_or T key 0) ≡ size h.its_key = h.key_size in
      (omega arith, omega arith)

  pub value_step : (s t : ℕ) → s ≡ size_in (get_or T key 0) → t ≡ size_in (get_or T (key + s) 0) → key + s + t ≡ key + size h.its_key + size h.its_value
  value_step s t e f =
      let g : s ≡ size h.its_key = e ∙ h.key_size in
      let v : t ≡ size h.its_value = f ∙ ap (λ (x : ℕ). size_in (get_or T (key + x) 0)) g ∙ h.value_size in
      omega arith

  pub value_few : (s t : ℕ) → s ≡ size_in (get_or T key 0) → t ≡ size_in (get_or T (key + s) 0) → key + s + t ≤ 8192
  value_few s t e f =
      let g = value_step s t e f in
      let c : key + size h.its_key + size h.its_value ≤ 8192 = h.few in
      omega arith
