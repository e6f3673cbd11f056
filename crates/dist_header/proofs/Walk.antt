-- The references of a header, one after the other.
use mathlib.Core.Path.{◌≡◌, refl, sym, ◌∙◌, ap}
use mathlib.Core.List.{List, [], ◌∷◌, ◌++◌, append_assoc, append-nil}
use Prim.Native.Nat.{ℕ, suc, ◌+◌, ◌-◌, ◌≤◌, ◌<◌}
use native.Mathlib.Omega.{arith}
use lib.ListN.{length, drop, replicate}
use Rattle.std.specs.Prelude.{Some, None, Result, Ok, Err}
use Rattle.term_spec.specs.Text.{Coding}
use Rattle.term_spec.specs.Answer.{Answer, good, refused, Position, at_offset, after}
use Rattle.packet_spec.specs.declared.Place.{Place}
use Rattle.packet_spec.specs.Memory.{Held}
use Rattle.packet_spec.specs.Header.{Reference, half, reference, references}
use Rattle.term_spec.specs.declared.Refusal.{Refusal}
use Rattle.packet_spec.specs.Answers.{refusal_of}
use Rattle.dist_header.specs.declared.HeaderStart.{HeaderStart}
use Rattle.dist_header.specs.declared.Naming.{Naming}
use Rattle.dist_header.specs.declared.Naming.TheVariants.{Unnamed}
use Rattle.dist_header.proofs.Standing.{flags_half}
use Rattle.dist_header.specs.Code.{references_from, flags_of, HeaderAt, HeaderStarts, reference_from, Spells, NamingIs, Went, JudgedAs, GoesOn, JudgesNew, JudgesCached, ReferenceIs, Ends, HeaderIs}
use Rattle.dist_header.proofs.PlaceNaming.{naming_none}
use Rattle.dist_header.specs.declared.Spelled.TheVariants as spelled

-- ---- one reference, read and judged

went_from : {o o' : Answer (Reference × Position)} {t : Position} {naming : List Naming} {earlier : List Reference} → o' ≡ o → Went o t naming earlier → Went o' t naming earlier
went_from e w = record { reference = w.reference; is = e ∙ w.is; naming_is = w.naming_is }

-- what is judged so, and what comes to the same
judged_from : (j j' : List Reference → Answer (Reference × Position)) (s : List ℕ) (naming naming' : List Naming) (r : Result ℕ Refusal)
    → ((earlier : List Reference) → j' earlier ≡ j earlier) → JudgedAs j s naming naming' r → JudgedAs j' s naming naming' r
unfolding JudgedAs
judged_from j j' s naming naming' (Err f) e w = λ earlier m. e earlier ∙ w earlier m
judged_from j j' s naming naming' (Ok a) e w = λ earlier m. went_from (e earlier) (w earlier m)

wider : (least most least' most' : ℕ) (r : Result ℕ Refusal) → least' ≤ least → most ≤ most' → GoesOn least most r → GoesOn least' most' r
unfolding GoesOn
wider least most least' most' (Err f) l m g = tt
wider least most least' most' (Ok a) l m g = (omega arith, omega arith)

module _ (agreed : Coding) (holding : ℕ → Held) (s : List ℕ) (h width at i : ℕ) (naming naming' : List Naming) where
  pub answer_cut : Spells s h width at None → ReferenceIs agreed holding s h width at i naming naming' (Err (refusal_of 2 i))
  unfolding Spells JudgedAs GoesOn
  answer_cut e = record { judged = λ earlier m. e agreed holding earlier i; ends = tt }

  pub answer_new : (p : Place) (from size : ℕ) (r : Result ℕ Refusal) → Spells s h width at (Some (spelled.New p from size))
      → JudgesNew agreed s p.0 from size i naming naming' r → ReferenceIs agreed holding s h width at i naming naming' r
  unfolding Spells
  answer_new p from size r e j = record {
    judged = judged_from _ _ s naming naming' r (λ earlier. e.0 agreed holding earlier i) (j.judged holding);
    ends = wider (from + size) (from + size) (at + 1) (length s) r (omega (arith, e.2)) e.3 j.ends;
  }

  pub answer_cached : (p : Place) (r : Result ℕ Refusal) → Spells s h width at (Some (spelled.Cached p))
      → JudgesCached holding p.0 (at + 1) i naming naming' r → ReferenceIs agreed holding s h width at i naming naming' r
  unfolding Spells
  answer_cached p r e j = record {
    judged = judged_from _ _ s naming naming' r (λ earlier. e.0 agreed holding earlier i) (j.judged agreed s);
    ends = wider (at + 1) (at + 1) (at + 1) (length s) r (omega arith) (omega (arith, e.2)) j.ends;
  }

-- what is known of a reference that stands there
pub new_inside : (s : List ℕ) (h width at : ℕ) (p : Place) (from size : ℕ) → Spells s h width at (Some (spelled.New p from size))
    → (p.0 < 2048) × (at < from) × (from + size ≤ length s) × (size < 65536)
unfolding Spells
new_inside s h width at p from size e = (e.1, e.2, e.3, e.4)

pub cached_inside : (s : List ℕ) (h width at : ℕ) (p : Place) → Spells s h width at (Some (spelled.Cached p)) → (p.0 < 2048) × (at < length s)
unfolding Spells
cached_inside s h width at p e = (e.1, e.2)

-- ---- references in turn

-- these references before those read
unfoldable pub prepended : List Reference → Answer (List Reference × Position) → Answer (List Reference × Position)
prepended done (good r) = good (done ++ r.0, r.1)
prepended done (refused n p) = refused n p

prepended_none : (o : Answer (List Reference × Position)) → o ≡ prepended [] o
unfolding prepended
prepended_none (good r) = refl
prepended_none (refused n p) = refl

prepended_one : (done : List Reference) (r : Reference) (o : Answer (List Reference × Position))
    → prepended done (after o (λ rs t. good (r ∷ rs, t))) ≡ prepended (done ++ (r ∷ [])) o
unfolding prepended
prepended_one done r (good x) = ap (λ (rs : List Reference). good (rs, x.1)) (sym (append_assoc done (r ∷ []) x.0))
prepended_one done r (refused n p) = refl

module _ (agreed : Coding) (holding : ℕ → Held) (s : List ℕ) (flags : List ℕ) (width : ℕ) where
  -- reading `whole` stands before reference i at offset `next`, after the references `done`
  pub record Along (whole : Answer (List Reference × Position)) (n i next : ℕ) (earlier done : List Reference) : Type 0 where
    pub is : whole ≡ prepended done (references agreed holding flags width earlier i (n - i) (at_offset s next 0))

  pub along_none : (n first : ℕ) → Along (references agreed holding flags width [] 0 n (at_offset s first 0)) n 0 first [] []
  along_none n first =
      let e : n ≡ n - 0 = omega arith in
      record { is = prepended_none _ ∙ ap (λ (k : ℕ). prepended [] (references agreed holding flags width [] 0 k (at_offset s first 0))) e }

  turn : (n i next m : ℕ) (earlier : List Reference) → n - i ≡ suc m → references agreed holding flags width earlier i (n - i) (at_offset s next 0)
      ≡ after (reference agreed holding width earlier i (half flags i) (at_offset s next 0)) (λ r t. after (references agreed holding flags width (r ∷ earlier) (i + 1) m t) (λ rs u. good (r ∷ rs, u)))
  unfolding references
  turn n i next m earlier e = ap (λ (k : ℕ). references agreed holding flags width earlier i k (at_offset s next 0)) e

  module _ (whole : Answer (List Reference × Position)) (n i next : ℕ) (earlier done : List Reference) (along : Along whole n i next earlier done) where
    pub along_refused : (k p : ℕ) → i < n → reference agreed holding width earlier i (half flags i) (at_offset s next 0) ≡ refused k p → whole ≡ refused k p
    unfolding prepended
    along_refused k p less e =
        along.is
        ∙ ap (prepended done) (turn n i next (n - (i + 1)) earlier (omega arith)
        ∙ ap (λ (o : Answer (Reference × Position)). after o (λ r t. after (references agreed holding flags width (r ∷ earlier) (i + 1) (n - (i + 1)) t) (λ rs u. good (r ∷ rs, u)))) e)

    pub along_more : (r : Reference) (a : ℕ) → i < n → reference agreed holding width earlier i (half flags i) (at_offset s next 0) ≡ good (r, at_offset s a 0)
        → Along whole n (i + 1) a (r ∷ earlier) (done ++ (r ∷ []))
    along_more r a less e =
        record {
          is =
              along.is
              ∙ ap (prepended done) (turn n i next (n - (i + 1)) earlier (omega arith)
              ∙ ap (λ (o : Answer (Reference × Position)). after o (λ r t. after (references agreed holding flags width (r ∷ earlier) (i + 1) (n - (i + 1)) t) (λ rs u. good (r ∷ rs, u)))) e)
              ∙ prepended_one done r _;
        }

    -- where all references are good, so is the next one
    pub record Turned : Type 0 where
      pub reference : Reference
      pub end : Position
      pub is : reference_from agreed holding s (half flags i) width next earlier i ≡ good (reference, end)

    pub turned : (rs : List Reference) (t : Position) → i < n → whole ≡ good (rs, t) → Turned
    turned rs t less e = go (reference agreed holding width earlier i (half flags i) (at_offset s next 0)) refl
      where
        go : (o : Answer (Reference × Position)) → reference agreed holding width earlier i (half flags i) (at_offset s next 0) ≡ o → Turned
        go (good x) f = record { reference = x.0; end = x.1; is = f }
        go (refused k p) f =
            let g : whole ≡ refused k p = along_refused k p less f in
            absurd cc

    pub along_all : i ≡ n → whole ≡ good (done, at_offset s next 0)
    unfolding prepended references
    along_all e =
        along.is
        ∙ ap (λ (k : ℕ). prepended done (references agreed holding flags width earlier i k (at_offset s next 0))) (none_left n i e)
        ∙ ap (λ (rs : List Reference). good (rs, at_offset s next 0)) (append-nil done)
      where
        none_left : (n i : ℕ) → i ≡ n → n - i ≡ 0
        none_left n i e = omega arith

-- The check of the references of the header at `at`
module _ (agreed : Coding) (holding : ℕ → Held) (s : List ℕ) (at : ℕ) (start : HeaderStart) where
  -- it stands before reference i at offset `next`
  pub record Checking (i next : ℕ) (naming : List Naming) : Type 0 where
    pub earlier : List Reference
    pub done : List Reference
    pub naming_is : NamingIs naming earlier
    pub along : Along agreed holding s (flags_of s at start.n) start.width (references_from agreed holding s at start) start.n i next earlier done
    pub inside : next ≤ length s

  pub checking_none : HeaderAt s at start → Checking 0 start.first (replicate 2048 Unnamed)
  checking_none stands =
      record {
        earlier = [];
        done = [];
        naming_is = naming_none;
        along = along_none agreed holding s (flags_of s at start.n) start.width start.n start.first;
        inside = stands.first_inside;
      }

  module _ (i next : ℕ) (naming naming' : List Naming) (c : Checking i next naming) where
    -- reference i, judged with the half that the code finds
    module _ (h : ℕ) (half_is : h ≡ half (drop (at + 1) s) i) (less : i < start.n) where
      its_half : h ≡ half (flags_of s at start.n) i
      its_half = half_is ∙ flags_half s at start.n i (omega arith) (omega arith)

      pub checking_refused : (f : Refusal) → ReferenceIs agreed holding s h start.width next i naming naming' (Err f) → Ends (references_from agreed holding s at start) s (Err f)
      unfolding JudgedAs Ends
      checking_refused f e =
          along_refused agreed holding s (flags_of s at start.n) start.width _ start.n i next c.earlier c.done c.along f.number f.place less
          (ap (λ (h : ℕ). reference agreed holding start.width c.earlier i h (at_offset s next 0)) (sym its_half) ∙ e.judged c.earlier c.naming_is)

      pub checking_more : (a : ℕ) → ReferenceIs agreed holding s h start.width next i naming naming' (Ok a) → Checking (i + 1) a naming'
      unfolding JudgedAs GoesOn
      checking_more a e =
          let w : Went (reference agreed holding start.width c.earlier i h (at_offset s next 0)) (at_offset s a 0) naming' c.earlier = e.judged c.earlier c.naming_is in
          record {
            earlier = w.reference ∷ c.earlier;
            done = c.done ++ (w.reference ∷ []);
            naming_is = w.naming_is;
            along = along_more agreed holding s (flags_of s at start.n) start.width _ start.n i next c.earlier c.done c.along w.reference a less
                (ap (λ (h : ℕ). reference agreed holding start.width c.earlier i h (at_offset s next 0)) (sym its_half) ∙ w.is);
            inside = e.ends.1;
          }

    pub checking_all : i ≡ start.n → Ends (references_from agreed holding s at start) s (Ok next)
    unfolding Ends
    checking_all e =
        (record { references = c.done; is = along_all agreed holding s (flags_of s at start.n) start.width _ start.n i next c.earlier c.done c.along e }, c.inside)

-- ---- the whole header

pub header_cut : (agreed : Coding) (holding : ℕ → Held) (s : List ℕ) (at : ℕ) → HeaderStarts s at None → HeaderIs agreed holding s at (Err (refusal_of 2 0))
unfolding HeaderStarts HeaderIs
header_cut agreed holding s at e = e agreed holding

module _ (agreed : Coding) (holding : ℕ → Held) (s : List ℕ) (at : ℕ) (start : HeaderStart) (o : HeaderStarts s at (Some start)) where
  pub start_inside : HeaderAt s at start
  unfolding HeaderStarts
  start_inside = o.1

  pub header_refused : (f : Refusal) → Ends (references_from agreed holding s at start) s (Err f) → HeaderIs agreed holding s at (Err f)
  unfolding HeaderStarts HeaderIs Ends
  header_refused f e = o.0 agreed holding ∙ e

  pub header_good : (a : ℕ) → Ends (references_from agreed holding s at start) s (Ok a) → HeaderIs agreed holding s at (Ok (record { start = start; payload = a }))
  unfolding HeaderStarts HeaderIs Ends
  header_good a e = (o, record { references = e.0.references; is = o.0 agreed holding ∙ e.0.is }, e.1)
