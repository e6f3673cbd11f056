-- The slots of the set of keys: where a path comes to, one law for each way through the functions that walk it, and that occupied slots stay.
use mathlib.Core.Path.{◌≡◌, refl, sym, ◌∙◌, ap, subst}
use mathlib.Core.Bool.{Bool, true, false, cond}
use mathlib.Core.List.{List}
use Rattle.std.specs.Prelude.{Option, Some, None, MatchOption, is_some}
use Prim.Native.Nat.{ℕ, ◌+◌, ◌*◌, ◌-◌, ◌/◌, ◌%◌, ◌≤◌, ◌<◌}
use native.Mathlib.Nat.{mul_comm, add-mul, mul_assoc, mul-le-mul, mul-le-mul_right, mul-add-div, div-add-mod, mod-lt, mod-eq_of_lt, mod-add-mod}
use native.Mathlib.Omega.{arith}
use lib.Dec.{eqb}
use lib.ListN.{length, get_or, set, length-set}
use lib.Seq.{get_or-set_same, get_or-set_other}
use borrow.Author.Count.{below_more}
use borrow.Author.Tests.{eqb-true, eqb-false, eq-eqb}
use Rattle.term_spec.specs.Rows.{whole_in}
use Rattle.term_spec.proofs.Tests.{never, by_less}
use Rattle.term_hash.specs.Hash.{round_hash, term_hash}
use Rattle.map_keys.specs.Path.{place, next_place, slot}
use Rattle.map_keys.specs.Found.{same_key}
use Rattle.map_keys.specs.KeySet.{Contains, FirstEmpty, Keeps, key_hashes, key_seed, Seeded, same_terms_raw, Absent}

-- ---- the slot to which a hash points

pub pointed_is : (h n : ℕ) → n / 65536 * h + n % 65536 * h / 65536 ≡ h * n / 65536
pointed_is h n =
    let e : h * n ≡ 65536 * (n / 65536 * h) + n % 65536 * h
    = mul_comm h n
    ∙ ap (λ (x : ℕ). x * h) (sym (div-add-mod n 65536))
    ∙ add-mul (65536 * (n / 65536)) (n % 65536) h
    ∙ ap (λ (x : ℕ). x + n % 65536 * h) (mul_assoc 65536 (n / 65536) h) in
    sym (ap (λ (x : ℕ). x / 65536) e ∙ mul-add-div (omega arith) (n / 65536 * h) (n % 65536 * h))

-- it is one of the n, and no product is large
pub pointed_small : (h n : ℕ) → h < 65536 → 0 < n → (n / 65536 * h + n % 65536 * h / 65536 < n) × (n % 65536 * h ≤ 65535 * 65535)
pointed_small h n l p =
    let e : h * n ≤ 65535 * n = mul-le-mul_right n (omega arith) in
    (omega (arith, pointed_is h n), mul-le-mul {n₂ = 65535} {m₂ = 65535} (omega arith) (omega arith))

-- ---- the places of a path

module _ (hs : ℕ → ℕ) where
  place_below : (n d : ℕ) → 0 < n → place hs n d < n
  unfolding place
  place_below n d l = mod-lt (hs (d / 2) * n / 65536 + d % 2) l

  -- a round starts
  place_start : (n d r : ℕ) → d % 2 ≡ 0 → r ≡ hs (d / 2) * n / 65536 → r < n → r ≡ place hs n d
  unfolding place
  place_start n d r z e l = let f : hs (d / 2) * n / 65536 + d % 2 ≡ r = omega arith in rw f (sym (mod-eq_of_lt l))

  -- a round goes on, from slot i
  module _ (n d i : ℕ) (z : d % 2 ≡ 0 → ⊥) (e : 0 < d → i ≡ place hs n (d - 1)) where
    last_place : i ≡ place hs n (d - 1)
    last_place = e (omega arith)

    place_next : (r : ℕ) → r ≡ (i + 1) % n → r ≡ place hs n d
    unfolding place
    place_next r f =
        let x : ℕ = hs (d / 2) * n / 65536 in
        let round : (d - 1) / 2 ≡ d / 2 = omega arith in
        let at : hs ((d - 1) / 2) * n / 65536 + (d - 1) % 2 ≡ x = ap (λ (k : ℕ). hs k * n / 65536 + (d - 1) % 2) round ∙ (omega arith) in
        let odd : d % 2 ≡ 1 = omega arith in
        f ∙ ap (λ (k : ℕ). (k + 1) % n) (last_place ∙ ap (λ (k : ℕ). k % n) at) ∙ mod-add-mod x n 1 ∙ ap (λ (k : ℕ). (x + k) % n) (sym odd)

  place_as : {hs' : ℕ → ℕ} → ((round : ℕ) → hs round ≡ hs' round) → (n d : ℕ) → place hs n d ≡ place hs' n d
  unfolding place
  place_as f n d = ap (λ (h : ℕ). (h * n / 65536 + d % 2) % n) (f (d / 2))

module _ (m places lengths T : List ℕ) (first key n d : ℕ) where
  -- the slot before is inside
  pub slot_inside : (i : ℕ) → (0 < d → i ≡ place (key_hashes m places lengths T first key) n (d - 1)) → 0 < n → 0 < d → i < n
  slot_inside i last l k = let b : place (key_hashes m places lengths T first key) n (d - 1) < n = place_below (key_hashes m places lengths T first key) n (d - 1) l in omega (arith, last k)

  -- the next one, by the seed of its round
  pub place_at : (i seed r : ℕ) → (0 < d → i ≡ place (key_hashes m places lengths T first key) n (d - 1)) → seed ≡ key_seed m places lengths T first key (d / 2) → r ≡ next_place seed n d i → r < n
      → r ≡ place (key_hashes m places lengths T first key) n d
  unfolding next_place key_hashes key_seed term_hash
  place_at i seed r last s e l = go (eqb (d % 2) 0) refl e
    where
      go : (t : Bool) → eqb (d % 2) 0 ≡ t → r ≡ cond t (round_hash seed (d / 2) * n / 65536) ((i + 1) % n) → r ≡ place (key_hashes m places lengths T first key) n d
      go true z f = place_start (key_hashes m places lengths T first key) n d r (eqb-true (d % 2) 0 z) (f ∙ ap (λ (x : ℕ). round_hash x (d / 2) * n / 65536) s) l
      go false z f = place_next (key_hashes m places lengths T first key) n d i (eqb-false (d % 2) 0 z) last r f

pub no_seed : (m places lengths T : List ℕ) (first key seed : ℕ) → Seeded m places lengths T first key 0 seed
no_seed m places lengths T first key seed l = absurd (omega arith)

module _ (m places lengths T : List ℕ) (first key d seed : ℕ) where
  -- the next step
  pub next_seeded : seed ≡ key_seed m places lengths T first key (d / 2) → Seeded m places lengths T first key (d + 1) seed
  next_seeded e l = let k : d + 1 - 1 ≡ d = omega arith in rw k e

-- ---- occupied slots stay

zero_or_not : {P : Type 0} (x : ℕ) → (x ≡ 0 → P) → ((x ≡ 0 → ⊥) → P) → P
zero_or_not {P} x f g = go (eqb x 0) refl
  where
    go : (t : Bool) → eqb x 0 ≡ t → P
    go true e = f (eqb-true x 0 e)
    go false e = g (eqb-false x 0 e)

pub keeps_refl : (L : List ℕ) → Keeps L L
keeps_refl L = record { as_many = refl; occupied = λ i e. refl }

pub keeps_trans : {L L' L'' : List ℕ} → Keeps L L' → Keeps L' L'' → Keeps L L''
keeps_trans h g = record { as_many = g.as_many ∙ h.as_many; occupied = λ i e. g.occupied i (λ z. e (sym (h.occupied i e) ∙ z)) ∙ h.occupied i e }

module _ {L L' : List ℕ} (k : Keeps L L') where
  -- an empty slot was empty before
  was_empty : (i : ℕ) → get_or L' i 0 ≡ 0 → get_or L i 0 ≡ 0
  was_empty i e = zero_or_not (get_or L i 0) (λ z. z) (λ n. absurd (n (sym (k.occupied i n) ∙ e)))

  same_slot : (hs : ℕ → ℕ) (d : ℕ) → slot L' hs d ≡ get_or L' (place hs (length L) d) 0
  same_slot hs d = ap (λ (n : ℕ). get_or L' (place hs n d) 0) k.as_many

  slot_was_empty : (hs : ℕ → ℕ) (d : ℕ) → slot L' hs d ≡ 0 → slot L hs d ≡ 0
  slot_was_empty hs d e = was_empty (place hs (length L) d) (sym (same_slot hs d) ∙ e)

-- the same by equal hashes
pub contains_as : {L : List ℕ} {hs hs' : ℕ → ℕ} {k : ℕ} → ((round : ℕ) → hs round ≡ hs' round) → Contains L hs k → Contains L hs' k
contains_as {L} {hs} {hs'} f c =
    let at : (d : ℕ) → slot L hs d ≡ slot L hs' d = λ d. ap (λ (i : ℕ). get_or L i 0) (place_as hs f (length L) d) in
    record { stands = λ d l e. let w = c.stands d l (at d ∙ e) in (w.0, w.1, sym (at w.0) ∙ w.2) }

-- a key that is contained stays so
pub contains_kept : {L L' : List ℕ} {hs : ℕ → ℕ} {k : ℕ} → Keeps L L' → Contains L hs k → Contains L' hs k
contains_kept {L} {L'} {hs} {k} g f =
    record {
      stands = λ d l e.
          let w = f.stands d l (slot_was_empty g hs d e) in
          let here : slot L hs w.0 ≡ k + 1 = w.2 in
          (w.0, w.1, same_slot g hs w.0 ∙ g.occupied (place hs (length L) w.0) (λ z. omega arith) ∙ here);
    }

-- ---- walking a path

-- d steps are passed, P holds of the slot at each; the last was slot i, of n
pub record Walked (P : ℕ → Type 0) (L : List ℕ) (hs : ℕ → ℕ) (n i d : ℕ) : Type 0 where
  pub all : n ≡ length L
  pub last : 0 < d → i ≡ place hs n (d - 1)
  pub passed : (e : ℕ) → e < d → P (slot L hs e)

module _ (P : ℕ → Type 0) (L : List ℕ) (hs : ℕ → ℕ) where
  module _ {n i d : ℕ} (p : Walked P L hs n i d) (j : ℕ) (e : j ≡ place hs n d) where
    slot_here : slot L hs d ≡ get_or L j 0
    slot_here = rw (e, p.all)

    pub walk_next : d < 256 → P (get_or L j 0) → Walked P L hs n j (d + 1)
    walk_next l x =
        let s : d + 1 - 1 ≡ d = omega arith in
        record {
          all = p.all;
          last = λ _. e ∙ ap (place hs n) (sym s);
          passed = below_more (λ (e : ℕ). P (slot L hs e)) d p.passed (subst P (sym slot_here) x);
        }

-- ---- a path to the first empty slot

-- a part of the map is compared
part_compared : (T : List ℕ) (terms : ℕ → ℕ → Bool) (first key row : ℕ) → whole_in (get_or T row 0) ≡ first → same_key T terms first key row ≡ terms key row
unfolding same_key
part_compared T terms first key row e = rw (eq-eqb (whole_in (get_or T row 0)) first e)

module _ (m places lengths T : List ℕ) (first key : ℕ) (L : List ℕ) where
  -- what is known of a slot that is passed: it is occupied, and the row in it, if it is a part of the map, means something else
  abbrev pub Other : ℕ → Type 0
  Other x = (x ≡ 0 → ⊥) × (whole_in (get_or T (x - 1) 0) ≡ first → same_terms_raw m places lengths T L key (x - 1) ≡ false)

  module _ {n i d : ℕ} (p : Walked Other L (key_hashes m places lengths T first key) n i d) (j : ℕ) (l : d < 256) (e : j ≡ place (key_hashes m places lengths T first key) n d) where
    pub free_found : get_or L j 0 ≡ 0 → Absent m places lengths T first key L j
    free_found z =
        let hs : ℕ → ℕ = key_hashes m places lengths T first key in
        record {
          free = record { step = d; on_path = l; place_is = e ∙ ap (λ (k : ℕ). place hs k d) p.all; is_empty = z; passed = λ e k. (p.passed e k).0 };
          others = λ e k. (p.passed e k).1;
        }

    pub free_later : (row : ℕ) (s : Bool) → row + 1 ≡ get_or L j 0 → s ≡ same_key T (same_terms_raw m places lengths T L) first key row → s ≡ false
        → Walked Other L (key_hashes m places lengths T first key) n j (d + 1)
    free_later row s f g z =
        let here : row + 1 - 1 ≡ row = omega arith in
        walk_next Other L (key_hashes m places lengths T first key) p j e l
        (subst Other f (λ o. omega arith, rw here (λ w. sym (part_compared T (same_terms_raw m places lengths T L) first key row w) ∙ sym g ∙ z)))

-- ---- insert

abbrev pub Occupied : ℕ → Type 0
Occupied x = x ≡ 0 → ⊥

-- what a slot x is read as
pub none_empty : (x : ℕ) (r : Option ℕ) → MatchOption r (x ≡ 0) (λ row. row + 1 ≡ x) → is_some r ≡ false → x ≡ 0
none_empty x None m e = m
none_empty x (Some row) m e = never (sym e)

pub some_occupied : (x : ℕ) (r : Option ℕ) → MatchOption r (x ≡ 0) (λ row. row + 1 ≡ x) → is_some r ≡ true → Occupied x
some_occupied x None m e = never e
some_occupied x (Some row) m e = λ z. omega arith

-- in the first empty slot
module _ (L : List ℕ) (hs : ℕ → ℕ) (k : ℕ) {i : ℕ} (f : FirstEmpty L hs i) (inside : i < length L) where
  pub keeps_set : Keeps L (set L i (k + 1))
  keeps_set =
      record { as_many = length-set L i (k + 1); occupied = λ j e. get_or-set_other L i j (k + 1) 0 (λ q. e (ap (λ (x : ℕ). get_or L x 0) q ∙ f.is_empty)) }

  occupied_now : slot (set L i (k + 1)) hs f.step ≡ k + 1
  occupied_now =
      same_slot keeps_set hs f.step ∙ ap (λ (x : ℕ). get_or (set L i (k + 1)) x 0) (sym f.place_is) ∙ get_or-set_same L i (k + 1) 0 inside

  -- it is occupied now, so the next empty one comes later
  later_empty : (e : ℕ) → slot (set L i (k + 1)) hs e ≡ 0 → f.step < e
  later_empty e y =
      by_less f.step e (λ x. x)
      (λ x. by_less e f.step (λ w. absurd (f.passed e w (slot_was_empty keeps_set hs e y)))
      (λ w.
      let q : e ≡ f.step = omega arith in
      let g : slot (set L i (k + 1)) hs e ≡ k + 1 = ap (slot (set L i (k + 1)) hs) q ∙ occupied_now in
      absurd (omega arith)))

  pub contains_set : Contains (set L i (k + 1)) hs k
  contains_set = record { stands = λ e b y. (f.step, later_empty e y, occupied_now) }

-- slots S that are still as they were, L
module _ (L S : List ℕ) (hs : ℕ → ℕ) (k : ℕ) {n i d : ℕ} (e : S ≡ L) (p : Walked Occupied S hs n i d) where
  pub insert_empty : (j : ℕ) → d < 256 → j ≡ place hs n d → j < n → get_or S j 0 ≡ 0 → Keeps L (set S j (k + 1)) × Contains (set S j (k + 1)) hs k
  insert_empty j l g b z =
      let f : FirstEmpty S hs j = record { step = d; on_path = l; place_is = g ∙ ap (λ (k : ℕ). place hs k d) p.all; is_empty = z; passed = p.passed } in
      let inside : j < length S = omega (arith, p.all) in
      (subst (λ (l : List ℕ). Keeps l (set S j (k + 1))) e (keeps_set S hs k f inside), contains_set S hs k f inside)
