-- Texts stored in a list or in the cache.
use mathlib.Core.Path.{◌≡◌, refl, sym, ◌∙◌, ap, ap₂}
use mathlib.Core.Bool.{Bool, true, false}
use mathlib.Core.List.{List, [], ◌∷◌, ◌++◌, append_assoc}
use Prim.Native.Nat.{ℕ, zero, suc, ◌+◌, ◌*◌, ◌-◌, ◌≤◌, ◌<◌}
use native.Mathlib.Omega.{arith}
use lib.Dec.{eqb, leb}
use lib.ListN.{length, get_or, take, drop, replicate, set, length-append, length-replicate, replicate-append-replicate}
use lib.Seq.{sets, sets-eq, length-sets, take_at, drop_at, take-append_seam, drop-append-add, length-take-le, take-take}
use borrow.Author.Tests.{leb-true}
use borrow.Rule.Slice.PartMut.{put_mid}
use Rattle.std.specs.Prelude.{Option, Some, None, IsSome}
use Rattle.term_spec.specs.Text.{Coding, valid, invalid_at, check, encodes, utf_8}
use Rattle.term_spec.specs.Answer.{Answer, good, refused, Position, at_offset}
use Rattle.term_spec.specs.Text as texts
use Rattle.packet_spec.specs.declared.Place.{Place}
use Rattle.packet_spec.specs.Memory.{Cache, cache_of, CacheSized, Held, nothing, no_text, text, text_if, held_as, held}
use Rattle.packet_spec.specs.Header.{Reference}
use Rattle.packet_spec.specs.Calls.{zeros_to, enter}
use Rattle.packet_spec.proofs.Stores.{length_zeros_to}
use Rattle.dist_header.specs.Code.{TextFits, PutsText, Spells}
use Rattle.octets.proofs.Parts.{length_part}
use Rattle.octets.proofs.Stores.{mid_sets}
use Rattle.dist_header.proofs.Texts.{get_or_any}
use Rattle.dist_header.proofs.Good.{GoodNew, GoodCached, good_new, good_cached}
use Rattle.dist_header.specs.declared.Spelled.{Spelled}
use Rattle.dist_header.specs.declared.Spelled.TheVariants as spelled
use Rattle.cache_entries.specs.Code.{GoodReference, Lists, StoresText, Enters}

-- ---- zeros

drop_zeros : (k m : ℕ) → k ≤ m → ◌≡◌ {A = List ℕ} (drop k (replicate m 0)) (replicate (m - k) 0)
drop_zeros zero m h = let e : m ≡ m - 0 = omega arith in ap (λ (n : ℕ). replicate n 0) e
drop_zeros (suc k) zero h = absurd (omega arith)
drop_zeros (suc k) (suc m) h = let e : m - k ≡ suc m - suc k = omega arith in drop_zeros k m (omega arith) ∙ ap (λ (n : ℕ). replicate n 0) e

-- a text stored where zeros stand
pub stored_next : (front t : List ℕ) (m : ℕ) → length t ≤ 32 → 32 ≤ m
    → sets (front ++ replicate m 0) (length front) t ≡ (front ++ zeros_to 32 t) ++ replicate (m - 32) 0
unfolding zeros_to
stored_next front t m h k =
    let z : List ℕ = replicate m 0 in
    let l : length (front ++ replicate m 0) ≡ length front + m = length-append front (replicate m 0) ∙ ap (λ (n : ℕ). length front + n) (length-replicate {A = ℕ} m 0) in
    let e : (32 - length t) + (m - 32) ≡ m - length t = omega arith in
    sets-eq t (front ++ replicate m 0) (length front) (omega arith)
    ∙ ap₂ (λ (x y : List ℕ). x ++ t ++ y) (take-append_seam front (replicate m 0))
    (drop-append-add front (replicate m 0) (length t) ∙ drop_zeros (length t) m (omega arith) ∙ ap (λ (n : ℕ). replicate n 0) (sym e) ∙ sym (replicate-append-replicate (32 - length t) (m - 32) 0))
    ∙ sym (append_assoc (front ++ t) (replicate (32 - length t) 0) (replicate (m - 32) 0))
    ∙ ap (λ (x : List ℕ). x ++ replicate (m - 32) 0) (append_assoc front t (replicate (32 - length t) 0))

-- a length stored where zeros stand
pub length_next : (front : List ℕ) (v m : ℕ) → set (front ++ replicate (suc m) 0) (length front) v ≡ (front ++ (v ∷ [])) ++ replicate m 0
length_next [] v m = refl
length_next (x ∷ front) v m = ap (λ (l : List ℕ). x ∷ l) (length_next front v m)

-- a text stored over 32 zeros
pub stored_over : (l t : List ℕ) (i : ℕ) → length t ≤ 32 → i + 32 ≤ length l → sets (sets l i (replicate 32 0)) i t ≡ sets l i (zeros_to 32 t)
unfolding zeros_to
stored_over l t i h k =
    let z : List ℕ = replicate {A = ℕ} 32 0 in
    let rest : List ℕ = drop (i + 32) l in
    let at : length (take i l) ≡ i = length-take-le i l (omega arith) in
    let first : sets l i (replicate 32 0) ≡ take i l ++ replicate 32 0 ++ drop (i + 32) l = sets-eq (replicate 32 0) l i k in
    let long : length (sets l i (replicate 32 0)) ≡ length l = length-sets l i (replicate 32 0) in
    let full : length (t ++ replicate (32 - length t) 0) ≡ 32 = length_zeros_to 32 t h in
    let e : i + length t ≡ length (take i l) + length t = ap (λ (n : ℕ). n + length t) (sym at) in
    sets-eq t (sets l i (replicate 32 0)) i (omega arith)
    ∙ ap (λ (x : List ℕ). take i x ++ t ++ drop (i + length t) x) (first ∙ append_assoc (take i l) (replicate 32 0) (drop (i + 32) l))
    ∙ ap₂ (λ (x y : List ℕ). x ++ t ++ y) (take_at (take i l) (replicate 32 0 ++ drop (i + 32) l) i at)
    (ap (λ (n : ℕ). drop n (take i l ++ (replicate 32 0 ++ drop (i + 32) l))) e
    ∙ drop-append-add (take i l) (replicate 32 0 ++ drop (i + 32) l) (length t)
    ∙ ap (λ (x : List ℕ). drop (length t) (x ++ drop (i + 32) l)) (split (length t) h)
    ∙ ap (drop (length t)) (append_assoc (replicate (length t) 0) (replicate (32 - length t) 0) (drop (i + 32) l))
    ∙ drop_at (replicate (length t) 0) (replicate (32 - length t) 0 ++ drop (i + 32) l) (length t) (length-replicate {A = ℕ} (length t) 0))
    ∙ sym (append_assoc (take i l ++ t) (replicate (32 - length t) 0) (drop (i + 32) l))
    ∙ ap (λ (x : List ℕ). x ++ drop (i + 32) l) (append_assoc (take i l) t (replicate (32 - length t) 0))
    ∙ ap (λ (n : ℕ). take i l ++ (t ++ replicate (32 - length t) 0) ++ drop (i + n) l) (sym full)
    ∙ sym (sets-eq (t ++ replicate (32 - length t) 0) l i (omega arith))
  where
    split : (n : ℕ) → n ≤ 32 → ◌≡◌ {A = List ℕ} (replicate 32 0) (replicate n 0 ++ replicate (32 - n) 0)
    split n h = let e : 32 ≡ n + (32 - n) = omega arith in ap (λ (k : ℕ). replicate k 0) e ∙ sym (replicate-append-replicate n (32 - n) 0)

-- 32 bytes of a slice, filled with zeros
pub zeros_put : (l : List ℕ) (i : ℕ) (r : List ℕ) → i + 32 ≤ length l → r ≡ replicate (length (take (i + 32 - i) (drop i l))) 0 → put_mid i (i + 32 - i) l r ≡ sets l i (replicate 32 0)
zeros_put l i r h e =
    let m : i + 32 - i ≡ 32 = omega arith in
    let z : r ≡ replicate 32 0 = e ∙ ap (λ (k : ℕ). replicate (length (take k (drop i l))) 0) m ∙ ap (λ (k : ℕ). replicate k 0) (length_part l i 32 h) in
    ap (put_mid i (i + 32 - i) l) z ∙ mid_sets l (replicate 32 0) i (i + 32 - i) (omega arith) (omega arith)

-- ---- what a place holds

as_text : (n : ℕ) (l bs : List ℕ) → held_as n l ≡ text bs → (bs ≡ take n l) × (n ≤ 32)
unfolding held_as text_if
as_text n l bs e = go (eqb n 65535) (leb n 32) refl e
  where
    inner : (o : texts.Checked) → text_if (take n l) o ≡ text bs → bs ≡ take n l
    inner (invalid_at k) f = absurd cc
    inner (valid cs) f = cc

    go : (x y : Bool) → leb n 32 ≡ y
        → ◌≡◌ {A = Held} (elim x [ true ↦ nothing | false ↦ elim y [ true ↦ text_if (take n l) (check utf_8 (take n l)) | false ↦ no_text ] ]) (text bs)
        → (bs ≡ take n l) × (n ≤ 32)
    go true y h f = absurd cc
    go false false h f = absurd cc
    go false true h f = (inner (check utf_8 (take n l)) f, leb-true n 32 h)

-- the bytes of a place that holds a text
pub held_bytes : (places lengths : List ℕ) (p n : ℕ) (bs : List ℕ) → p < length lengths → n ≡ get_or lengths p 0 → 32 * p + 32 ≤ length places
    → held (cache_of places lengths) p ≡ text bs → (bs ≡ take n (drop (32 * p) places)) × (n ≤ 32) × (length bs ≡ n)
unfolding held
held_bytes places lengths p n bs h is there e =
    let f : held_as n (take 32 (drop (32 * p) places)) ≡ text bs = ap (λ (k : ℕ). held_as k (take 32 (drop (32 * p) places))) (is ∙ get_or_any lengths p 0 65535 h) ∙ e in
    let k : (bs ≡ take n (take 32 (drop (32 * p) places))) × (n ≤ 32) = as_text n (take 32 (drop (32 * p) places)) bs f in
    let b : bs ≡ take n (drop (32 * p) places) = k.0 ∙ take-take n 32 (drop (32 * p) places) k.1 in
    (b, k.1, ap length b ∙ length_part places (32 * p) n (omega (arith, k.1)))

-- a good reference is not cut off
pub good_there : {agreed : Coding} {holding : ℕ → Held} {s : List ℕ} {h width at : ℕ} (o : Option Spelled) → GoodReference agreed holding s h width at → Spells s h width at o → IsSome o
unfolding Spells
good_there {agreed} {holding} None st e = let cut : ◌≡◌ {A = Answer (Reference × Position)} (refused 2 st.i) (good (st.reference, st.end)) = sym (e agreed holding st.earlier st.i) ∙ st.is in absurd cc
good_there (Some x) st e = refl

-- ---- one reference into a list

module _ (agreed : Coding) (c : Cache) (s : List ℕ) (h width at to : ℕ) (before now : List ℕ) where
  pub lists_new : (p : Place) (from size stored : ℕ) → Spells s h width at (Some (spelled.New p from size))
      → PutsText agreed (take size (drop from s)) to before now stored
      → Lists agreed c s h width at to before now (record { size = stored; next = from + size })
  unfolding Spells
  lists_new p from size stored e put =
      record {
        lists = λ earlier i x t f.
            let g : GoodNew agreed p.0 (take size (drop from s)) (at_offset s (from + size) 0) x t =
            good_new agreed (held c) earlier i p.0 from (take size (drop from s)) (at_offset s (from + size) 0) x t (sym (e.0 agreed (held c) earlier i) ∙ f) in
            let k : (stored ≡ length (encodes g.characters)) × (now ≡ sets before to (encodes g.characters)) = put.puts g.characters g.is_text in
            let w : encodes g.characters ≡ x.text = sym (ap (λ (r : Reference). r.text) g.is) in
            (g.ends, e.3, k.0 ∙ ap length w, omega (arith, k.0, g.short), k.1 ∙ ap (sets before to) w);
      }

pub lists_cached : (agreed : Coding) (places lengths s : List ℕ) (h width at to : ℕ) (before now : List ℕ) (p : Place) (n : ℕ)
    → Spells s h width at (Some (spelled.Cached p)) → CacheSized (cache_of places lengths) → n ≡ get_or lengths p.0 0
    → now ≡ sets before to (take n (drop (32 * p.0) places))
    → Lists agreed (cache_of places lengths) s h width at to before now (record { size = n; next = at + 1 })
unfolding Spells
lists_cached agreed places lengths s h width at to before now p n e sized is put =
    record {
      lists = λ earlier i x t f.
          let g : GoodCached (held (cache_of places lengths)) p.0 (at_offset s (at + 1) 0) x t =
          good_cached agreed (held (cache_of places lengths)) earlier i p.0 (at_offset s (at + 1) 0) x t (sym (e.0 agreed (held (cache_of places lengths)) earlier i) ∙ f) in
          let small : p.0 < 2048 = e.1 in
          let big : length places ≡ 65536 = sized.places_are in
          let many : length lengths ≡ 2048 = sized.lengths_are in
          let k : (g.bytes ≡ take n (drop (32 * p.0) places)) × (n ≤ 32) × (length g.bytes ≡ n) =
          held_bytes places lengths p.0 n g.bytes (omega arith) is (omega arith) g.held_there in
          let w : g.bytes ≡ x.text = sym (ap (λ (r : Reference). r.text) g.is) in
          (g.ends, omega (arith, e.2), sym k.2 ∙ ap length w, k.1, put ∙ ap (sets before to) (sym k.0 ∙ w));
    }

-- the text of a good new reference fits where 32 bytes do
pub stands_new : (agreed : Coding) (holding : ℕ → Held) (s : List ℕ) (h width at : ℕ) (p : Place) (from size to room : ℕ) → GoodReference agreed holding s h width at
    → Spells s h width at (Some (spelled.New p from size)) → to + 32 ≤ room → TextFits agreed s from size to room
unfolding Spells
stands_new agreed holding s h width at p from size to room st e l =
    let g : GoodNew agreed p.0 (take size (drop from s)) (at_offset s (from + size) 0) st.reference st.end =
    good_new agreed holding st.earlier st.i p.0 from (take size (drop from s)) (at_offset s (from + size) 0) st.reference st.end
    (sym (e.0 agreed holding st.earlier st.i) ∙ st.is) in
    record { inside = e.3; small = e.4; characters = g.characters; is = g.is_text; fits = omega (arith, g.short) }

-- the length of a place that a good cached reference names
pub stands_cached : (agreed : Coding) (places lengths s : List ℕ) (h width at : ℕ) (p : Place) (n : ℕ) → GoodReference agreed (held (cache_of places lengths)) s h width at
    → Spells s h width at (Some (spelled.Cached p)) → CacheSized (cache_of places lengths) → n ≡ get_or lengths p.0 0 → n ≤ 32
unfolding Spells
stands_cached agreed places lengths s h width at p n st e sized is =
    let g : GoodCached (held (cache_of places lengths)) p.0 (at_offset s (at + 1) 0) st.reference st.end =
    good_cached agreed (held (cache_of places lengths)) st.earlier st.i p.0 (at_offset s (at + 1) 0) st.reference st.end
    (sym (e.0 agreed (held (cache_of places lengths)) st.earlier st.i) ∙ st.is) in
    let small : p.0 < 2048 = e.1 in
    let big : length places ≡ 65536 = sized.places_are in
    let many : length lengths ≡ 2048 = sized.lengths_are in
    (held_bytes places lengths p.0 n g.bytes (omega arith) is (omega arith) g.held_there).1

-- ---- one reference into the cache

pub text_entered : (agreed : Coding) (s : List ℕ) (from size : ℕ) (places lengths between places' : List ℕ) (p stored : ℕ) → p < 2048 → CacheSized (cache_of places lengths)
    → between ≡ sets places (32 * p) (replicate 32 0)
    → PutsText agreed (take size (drop from s)) (32 * p) between places' stored
    → TextFits agreed s from size 0 32
    → StoresText agreed s from size p (cache_of places lengths) (cache_of places' (set lengths p stored))
unfolding enter
text_entered agreed s from size places lengths between places' p stored small sized cleared put fits =
    record {
      stores = λ cs e.
          let k : (stored ≡ length (encodes cs)) × (places' ≡ sets between (32 * p) (encodes cs)) = put.puts cs e in
          let big : length places ≡ 65536 = sized.places_are in
          let same : ◌≡◌ {A = texts.Checked} (valid cs) (valid fits.characters) = sym e ∙ fits.is in
          let c : cs ≡ fits.characters = cc in
          let room : length (encodes fits.characters) ≤ 32 = omega (arith, fits.fits) in
          let short : length (encodes cs) ≤ 32 = rw c room in
          ap₂ (λ (x : List ℕ) (n : ℕ). cache_of x (set lengths p n))
          (k.1 ∙ ap (λ (l : List ℕ). sets l (32 * p) (encodes cs)) cleared ∙ stored_over places (encodes cs) (32 * p) short (omega arith)) k.0;
    }

module _ (agreed : Coding) (s : List ℕ) (h width at : ℕ) (before now : Cache) where
  pub enters_new : (p : Place) (from size : ℕ) → Spells s h width at (Some (spelled.New p from size)) → StoresText agreed s from size p.0 before now
      → Enters agreed s h width at before now (from + size)
  unfolding Spells
  enters_new p from size e put =
      record {
        enters = λ holding earlier i x t f.
            let g : GoodNew agreed p.0 (take size (drop from s)) (at_offset s (from + size) 0) x t =
            good_new agreed holding earlier i p.0 from (take size (drop from s)) (at_offset s (from + size) 0) x t (sym (e.0 agreed holding earlier i) ∙ f) in
            (g.ends, e.3, put.stores g.characters g.is_text ∙ ap (enter before) (sym g.is));
      }

pub enters_cached : (agreed : Coding) (s : List ℕ) (h width at : ℕ) (c : Cache) (p : Place) → Spells s h width at (Some (spelled.Cached p)) → Enters agreed s h width at c c (at + 1)
unfolding Spells enter
enters_cached agreed s h width at c p e =
    record {
      enters = λ holding earlier i x t f.
          let g : GoodCached holding p.0 (at_offset s (at + 1) 0) x t =
          good_cached agreed holding earlier i p.0 (at_offset s (at + 1) 0) x t (sym (e.0 agreed holding earlier i) ∙ f) in
          (g.ends, omega (arith, e.2), ap (enter c) (sym g.is));
    }
