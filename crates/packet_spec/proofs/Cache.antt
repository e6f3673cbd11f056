-- What a header does to the cache, place by place.
use mathlib.Core.Path.{◌≡◌, refl, sym, ◌∙◌, ap, ap₂}
use mathlib.Core.Bool.{Bool, true, false, ◌&&◌}
use mathlib.Core.List.{List}
use Prim.Native.Nat.{ℕ, ◌*◌, ◌≤◌, ◌<◌}
use native.Mathlib.Omega.{arith}
use lib.Dec.{eqb, leb}
use lib.ListN.{length, take, set, length-set}
use lib.Seq.{sets, length-sets, get_or-set_same, get_or-set_other}
use borrow.Author.Tests.{eqb-true, eqb-false, eq-eqb, ne_eqb, le-leb}
use Rattle.term_spec.specs.Text.{valid, utf_8, check}
use Rattle.term_spec.proofs.Tests.{both_true, by_less}
use Rattle.octets.proofs.Stores.{drop_after, part_sets}
use Rattle.packet_spec.specs.Memory.{Cache, cache_of_size, CacheSized, text, text_if, held_as, held}
use Rattle.packet_spec.specs.Header.{Reference}
use Rattle.packet_spec.specs.Calls.{zeros_to, enter}
use Rattle.packet_spec.specs.Places.{Same, Holding}
use Rattle.packet_spec.proofs.Stores.{sets_before_at, length_zeros_to, take_zeros_to}

pub same_refl : (c : Cache) (p : ℕ) → Same c c p
same_refl c p = record { bytes = refl; long = refl }

pub same_trans : {c d e : Cache} {p : ℕ} → Same c d p → Same d e p → Same c e p
same_trans h k = record { bytes = k.bytes ∙ h.bytes; long = k.long ∙ h.long }

pub same_holding : {c d : Cache} {p : ℕ} {t : List ℕ} → Holding c p t → Same c d p → Holding d p t
same_holding h k = record { bytes = k.bytes ∙ h.bytes; long = k.long ∙ h.long }

pub held_same : {c d : Cache} {p : ℕ} → Same c d p → held d p ≡ held c p
unfolding held
held_same s = ap₂ held_as s.long s.bytes

held_as_text : (n : ℕ) (bs : List ℕ) → eqb n 65535 ≡ false → leb n 32 ≡ true → held_as n bs ≡ text_if (take n bs) (check utf_8 (take n bs))
unfolding held_as
held_as_text n bs e f = rw (e, f, held_as)

pub held_new : {c : Cache} {p : ℕ} {t : List ℕ} (cs : List ℕ) → Holding c p t → length t ≤ 32 → check utf_8 t ≡ valid cs → held c p ≡ text t
unfolding held text_if
held_new {c} {p} {t} cs h l u =
    ap₂ held_as h.long h.bytes
    ∙ held_as_text (length t) (zeros_to 32 t) (ne_eqb (length t) 65535 (λ e. omega arith)) (le-leb (length t) 32 l)
    ∙ rw (take_zeros_to 32 t, u)

-- a cache of its stated size
pub sized : (c : Cache) → cache_of_size c ≡ true → CacheSized c
unfolding cache_of_size
sized c e =
    let two : (eqb (length c.places) 65536 ≡ true) × (eqb (length c.lengths) 2048 ≡ true) = both_true _ _ e in
    record { places_are = eqb-true _ _ two.0; lengths_are = eqb-true _ _ two.1 }

pub sized_back : {c : Cache} → CacheSized c → cache_of_size c ≡ true
unfolding cache_of_size
sized_back {c} s = rw (eq-eqb (length c.places) 65536 s.places_are, eq-eqb (length c.lengths) 2048 s.lengths_are)

-- ---- one reference

-- the cache with a text put into a place
abbrev put : Cache → ℕ → List ℕ → Cache
put c p t = record { places = sets c.places (32 * p) (zeros_to 32 t); lengths = set c.lengths p (length t) }

pub enter_sized : (c : Cache) (r : Reference) → CacheSized c → CacheSized (enter c r)
unfolding enter
enter_sized c r s = go r.new
  where
    go : (b : Bool) → CacheSized (elim b [ true ↦ put c r.place r.text | false ↦ c ])
    go false = s
    go true =
        record {
          places_are = length-sets c.places (32 * r.place) (zeros_to 32 r.text) ∙ s.places_are;
          lengths_are = length-set c.lengths r.place (length r.text) ∙ s.lengths_are;
        }

module _ (c : Cache) (r : Reference) (short_text : length r.text ≤ 32) where
  long_32 : length (zeros_to 32 r.text) ≡ 32
  long_32 = length_zeros_to 32 r.text short_text

  -- every other place stays
  pub enter_other : (p : ℕ) → (r.new && eqb r.place p) ≡ false → Same c (enter c r) p
  unfolding enter
  enter_other p e = go r.new e
    where
      go : (b : Bool) → (b && eqb r.place p) ≡ false → Same c (elim b [ true ↦ put c r.place r.text | false ↦ c ]) p
      go false e = same_refl c p
      go true e =
          let apart : r.place ≡ p → ⊥ = eqb-false r.place p e in
          let l : length (zeros_to 32 r.text) ≡ 32 = long_32 in
          record {
            bytes =
                by_less p r.place
                (λ less. sets_before_at (zeros_to 32 r.text) c.places (32 * r.place) (32 * p) 32 (omega arith))
                (λ over. ap (take 32) (drop_after c.places (zeros_to 32 r.text) (32 * r.place) (32 * p) (omega arith)));
            long = get_or-set_other c.lengths r.place p (length r.text) 65535 (λ e. apart (sym e));
          }

  -- a new reference's place holds its text
  pub enter_new : r.new ≡ true → r.place < 2048 → CacheSized c → Holding (enter c r) r.place r.text
  unfolding enter
  enter_new e p s = go r.new e
    where
      go : (b : Bool) → b ≡ true → Holding (elim b [ true ↦ put c r.place r.text | false ↦ c ]) r.place r.text
      go false e = absurd cc
      go true e =
          let l : length (zeros_to 32 r.text) ≡ 32 = long_32 in
          let big : length c.places ≡ 65536 = s.places_are in
          let many : length c.lengths ≡ 2048 = s.lengths_are in
          record {
            bytes =
                part_sets c.places (zeros_to 32 r.text) (32 * r.place) 32 l (omega arith);
            long = get_or-set_same c.lengths r.place (length r.text) 65535 (omega arith);
          }
