-- The references of an accepted header, one after the other, into a list and into the cache.
use mathlib.Core.Path.{◌≡◌, refl, sym, ◌∙◌, ap, ap₂}
use mathlib.Core.List.{List, [], ◌∷◌, ◌++◌, append_assoc, append-nil}
use Prim.Native.Nat.{ℕ, suc, ◌+◌, ◌*◌, ◌-◌, ◌≤◌, ◌<◌}
use native.Mathlib.Omega.{arith}
use lib.ListN.{length, replicate, set, length-append}
use lib.Seq.{sets}
use Rattle.term_spec.specs.AtomList.{lent_list}
use Rattle.term_spec.specs.Text.{Coding}
use Rattle.term_spec.specs.Answer.{Answer, good, Position, at_offset}
use Rattle.packet_spec.specs.Memory.{Cache, Held, held}
use Rattle.packet_spec.specs.Header.{Reference, half}
use Rattle.packet_spec.specs.Calls.{zeros_to, enter, entered, texts_in_places, lengths_of, list_of}
use Rattle.packet_spec.proofs.Stores.{length_zeros_to}
use Rattle.packet_spec.proofs.SizesKept.{length_lengths}
use Rattle.dist_header.specs.declared.HeaderStart.{HeaderStart}
use Rattle.dist_header.specs.Code.{flags_of, GoodHeader}
use Rattle.dist_header.proofs.Walk.{along_more, along_all, Turned, turned}
use Rattle.dist_header.proofs.Accepted.{HalfWay, begun}
use Rattle.cache_entries.specs.declared.ListMut.{ListMut}
use Rattle.cache_entries.specs.Code.{SameList, GoodReference, Lists, ListWritten, Enters, CacheWritten}
use Rattle.cache_entries.proofs.Storing.{stored_next, length_next}

texts_more : (done : List Reference) (x : Reference) → texts_in_places (done ++ (x ∷ [])) ≡ texts_in_places done ++ zeros_to 32 x.text
unfolding texts_in_places
texts_more [] x = append-nil (zeros_to 32 x.text)
texts_more (r ∷ done) x = ap (λ (l : List ℕ). zeros_to 32 r.text ++ l) (texts_more done x) ∙ sym (append_assoc (zeros_to 32 r.text) (texts_in_places done) (zeros_to 32 x.text))

lengths_more : (done : List Reference) (x : Reference) → lengths_of (done ++ (x ∷ [])) ≡ lengths_of done ++ (length x.text ∷ [])
unfolding lengths_of
lengths_more [] x = refl
lengths_more (r ∷ done) x = ap (λ (l : List ℕ). length r.text ∷ l) (lengths_more done x)

entered_more : (done : List Reference) (c : Cache) (x : Reference) → entered c (done ++ (x ∷ [])) ≡ enter (entered c done) x
unfolding entered
entered_more [] c x = refl
entered_more (r ∷ done) c x = entered_more done (enter c r) x

done_is : (whole : Answer (List Reference × Position)) (d rs : List Reference) (u t : Position) → whole ≡ good (d, u) → whole ≡ good (rs, t) → d ≡ rs
done_is whole d rs u t e f =
    let g : ◌≡◌ {A = Answer (List Reference × Position)} (good (d, u)) (good (rs, t)) = sym e ∙ f in
    let p : ◌≡◌ {A = List Reference × Position} (d, u) (rs, t) = cc in
    ap (λ (x : List Reference × Position). x.0) p

module _ (agreed : Coding) (holding : ℕ → Held) (s : List ℕ) (at : ℕ) (start : HeaderStart) where
  module _ (good_header : GoodHeader agreed holding s at start) (i next : ℕ) (w : HalfWay agreed holding s at start i next) (less : i < start.n) where
    abbrev next_turn : Turned agreed holding s (flags_of s at start.n) start.width _ start.n i next w.earlier w.done w.along
    next_turn = turned agreed holding s (flags_of s at start.n) start.width _ start.n i next w.earlier w.done w.along good_header.references good_header.end less good_header.is

    -- reference i is good
    abbrev pub stands_next : GoodReference agreed holding s (half (flags_of s at start.n) i) start.width next
    stands_next = record { earlier = w.earlier; i = i; reference = next_turn.reference; end = next_turn.end; is = next_turn.is }

    abbrev onward : (a : ℕ) → next_turn.end ≡ at_offset s a 0 → HalfWay agreed holding s at start (i + 1) a
    onward a e =
        let c : length w.done ≡ i = w.count in
        record {
          earlier = next_turn.reference ∷ w.earlier;
          done = w.done ++ (next_turn.reference ∷ []);
          along = along_more agreed holding s (flags_of s at start.n) start.width _ start.n i next w.earlier w.done w.along next_turn.reference a less
              (next_turn.is ∙ ap (λ (u : Position). good (next_turn.reference, u)) e);
          count = length-append w.done (next_turn.reference ∷ []) ∙ ap (λ (m : ℕ). m + 1) c;
        }

-- ---- a list

pub list_same : (l : ListMut) → SameList l l
list_same l = record { n_same = refl; places_same = refl; lengths_same = refl }

module _ (agreed : Coding) (c : Cache) (s : List ℕ) (at : ℕ) (start : HeaderStart) where
  pub record ListWalk (i next : ℕ) (list sizes : List ℕ) : Type 0 where
    pub way : HalfWay agreed (held c) s at start i next
    pub places_are : list ≡ texts_in_places way.done ++ replicate (8160 - 32 * i) 0
    pub long : length (texts_in_places way.done) ≡ 32 * i
    pub lengths_are : sizes ≡ lengths_of way.done ++ replicate (255 - i) 0

  pub list_none : (list sizes list₀ sizes₀ : List ℕ) → length list₀ ≡ 8160 → length sizes₀ ≡ 255 → list ≡ replicate (length list₀) 0 → sizes ≡ replicate (length sizes₀) 0
      → ListWalk 0 start.first list sizes
  unfolding texts_in_places lengths_of
  list_none list sizes list₀ sizes₀ h k e f =
      record {
        way = begun agreed (held c) s at start;
        places_are = e ∙ ap (λ (m : ℕ). replicate m 0) h;
        long = refl;
        lengths_are = f ∙ ap (λ (m : ℕ). replicate m 0) k;
      }

  module _ (good_header : GoodHeader agreed (held c) s at start) (i next : ℕ) (list sizes : List ℕ) (w : ListWalk i next list sizes) (less : i < start.n) where
    abbrev pub list_stands : GoodReference agreed (held c) s (half (flags_of s at start.n) i) start.width next
    list_stands = stands_next agreed (held c) s at start good_header i next w.way less

    module _ (list' : List ℕ) (size a : ℕ) (put : Lists agreed c s (half (flags_of s at start.n) i) start.width next (32 * i) list list' (record { size = size; next = a })) where
      pub list_inside : (a ≤ length s) × (size ≤ 32)
      list_inside =
          let t : GoodReference agreed (held c) s (half (flags_of s at start.n) i) start.width next = list_stands in
          let k = put.lists t.earlier t.i t.reference t.end t.is in
          (k.1, k.3)

      pub list_more : ListWalk (i + 1) a list' (set sizes i size)
      list_more =
          let t : GoodReference agreed (held c) s (half (flags_of s at start.n) i) start.width next = list_stands in
          let x : Reference = t.reference in
          let k = put.lists t.earlier t.i x t.end t.is in
          let few : start.n < 256 = good_header.stands.few in
          let count : length w.way.done ≡ i = w.way.count in
          let lc : length (lengths_of w.way.done) ≡ i = length_lengths w.way.done ∙ count in
          let short : length x.text ≤ 32 = omega (arith, k.2, k.3) in
          let m : 8160 - 32 * i - 32 ≡ 8160 - 32 * (i + 1) = omega arith in
          let p : 255 - i ≡ suc (255 - (i + 1)) = omega arith in
          record {
            way = onward agreed (held c) s at start good_header i next w.way less a k.0;
            places_are =
                k.4
                ∙ ap₂ (λ (l : List ℕ) (j : ℕ). sets l j x.text) w.places_are (sym w.long)
                ∙ stored_next (texts_in_places w.way.done) x.text (8160 - 32 * i) short (omega arith)
                ∙ ap₂ (λ (l : List ℕ) (j : ℕ). l ++ replicate j 0) (sym (texts_more w.way.done x)) m;
            long =
                ap length (texts_more w.way.done x)
                ∙ length-append (texts_in_places w.way.done) (zeros_to 32 x.text)
                ∙ two w.long (length_zeros_to 32 x.text short);
            lengths_are =
                ap₂ (λ (l : List ℕ) (j : ℕ). set l j size) (w.lengths_are ∙ ap (λ (j : ℕ). lengths_of w.way.done ++ replicate j 0) p) (sym lc)
                ∙ length_next (lengths_of w.way.done) size (255 - (i + 1))
                ∙ ap (λ (l : List ℕ). l ++ replicate (255 - (i + 1)) 0) (ap (λ (v : ℕ). lengths_of w.way.done ++ (v ∷ [])) k.2 ∙ sym (lengths_more w.way.done x));
          }
        where
          two : {p q : ℕ} → p ≡ 32 * i → q ≡ 32 → p + q ≡ 32 * (i + 1)
          two e f = omega arith

  pub list_all : (i next : ℕ) (list sizes : List ℕ) → ListWalk i next list sizes → i ≡ start.n → ListWritten agreed c s at start (lent_list start.n list sizes)
  unfolding list_of zeros_to
  list_all i next list sizes w e =
      record {
        list_written = λ rs t f.
            let d : w.way.done ≡ rs =
            done_is _ w.way.done rs (at_offset s next 0) t (along_all agreed (held c) s (flags_of s at start.n) start.width _ start.n i next w.way.earlier w.way.done w.way.along e) f in
            let lt : 8160 - 32 * i ≡ 8160 - length (texts_in_places w.way.done) = ap (λ (m : ℕ). 8160 - m) (sym w.long) in
            let ll : 255 - i ≡ 255 - length (lengths_of w.way.done) = ap (λ (m : ℕ). 255 - m) (sym (length_lengths w.way.done ∙ w.way.count)) in
            ap₂ (lent_list start.n) (w.places_are ∙ ap (λ (m : ℕ). texts_in_places w.way.done ++ replicate m 0) lt) (w.lengths_are ∙ ap (λ (m : ℕ). lengths_of w.way.done ++ replicate m 0) ll)
            ∙ ap (λ (m : ℕ). lent_list m (zeros_to 8160 (texts_in_places w.way.done)) (zeros_to 255 (lengths_of w.way.done))) (sym (w.way.count ∙ e))
            ∙ ap list_of d;
      }

-- ---- the cache

module _ (agreed : Coding) (before : Cache) (s : List ℕ) (at : ℕ) (start : HeaderStart) where
  pub record CacheWalk (i next : ℕ) (now : Cache) : Type 0 where
    pub way : HalfWay agreed (held before) s at start i next
    pub cache_is : now ≡ entered before way.done

  pub cache_none : CacheWalk 0 start.first before
  unfolding entered
  cache_none = record { way = begun agreed (held before) s at start; cache_is = refl }

  module _ (good_header : GoodHeader agreed (held before) s at start) (i next : ℕ) (now : Cache) (w : CacheWalk i next now) (less : i < start.n) where
    pub cache_stands : GoodReference agreed (held before) s (half (flags_of s at start.n) i) start.width next
    cache_stands = stands_next agreed (held before) s at start good_header i next w.way less

    module _ (now' : Cache) (a : ℕ) (put : Enters agreed s (half (flags_of s at start.n) i) start.width next now now' a) where
      pub cache_inside : a ≤ length s
      cache_inside =
          let t : GoodReference agreed (held before) s (half (flags_of s at start.n) i) start.width next = stands_next agreed (held before) s at start good_header i next w.way less in
          (put.enters (held before) t.earlier t.i t.reference t.end t.is).1

      pub cache_more : CacheWalk (i + 1) a now'
      cache_more =
          let t : GoodReference agreed (held before) s (half (flags_of s at start.n) i) start.width next = stands_next agreed (held before) s at start good_header i next w.way less in
          let k = put.enters (held before) t.earlier t.i t.reference t.end t.is in
          record {
            way = onward agreed (held before) s at start good_header i next w.way less a k.0;
            cache_is = k.2 ∙ ap (λ (c : Cache). enter c t.reference) w.cache_is ∙ sym (entered_more w.way.done before t.reference);
          }

  pub cache_all : (i next : ℕ) (now : Cache) → CacheWalk i next now → i ≡ start.n → CacheWritten agreed s at start before now
  cache_all i next now w e =
      record {
        cache_written = λ rs t f.
            w.cache_is
            ∙ ap (entered before) (done_is _ w.way.done rs (at_offset s next 0) t
            (along_all agreed (held before) s (flags_of s at start.n) start.width _ start.n i next w.way.earlier w.way.done w.way.along e) f);
      }
