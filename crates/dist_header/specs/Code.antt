-- What the code of headers answers, in terms of the definitions of packets.
-- About the code alone, proved against the definitions of packet_spec: nothing here has to be believed.
use Rattle.std.specs.Prelude.{◌≡◌, cond, List, [], ◌∷◌, ℕ, ◌+◌, ◌≤◌, ◌<◌, length, get_or, take, drop, Option, Some, None, Result, Ok, Err}
use Rattle.std.proofs.lemmas.List.Edits.{sets}
use Rattle.term_spec.specs.Text.{Coding, valid, check, encodes}
use Rattle.term_spec.specs.Answer.{Answer, good, refused, Position, at_offset}
use Rattle.term_spec.specs.declared.Refusal.{Refusal}
use Rattle.packet_spec.specs.Memory.{Held, nothing, no_text, text}
use Rattle.packet_spec.specs.Memory as memory
use Rattle.packet_spec.specs.Header.{Reference, flag_bytes, named, filled, new_reference, cached_reference, reference, references, header}
use Rattle.dist_header.specs.declared.Cache.{Cache}
use Rattle.dist_header.specs.declared.HeaderStart.{HeaderStart}
use Rattle.dist_header.specs.declared.Header.{Header}
use Rattle.dist_header.specs.declared.Spelled.{Spelled}
use Rattle.dist_header.specs.declared.Spelled.TheVariants as spelled
use Rattle.dist_header.specs.declared.Naming.{Naming}
use Rattle.dist_header.specs.declared.Naming.TheVariants.{Unnamed, Named, Filled}

-- the cache as it is read
abbrev pub lent_cache : Cache → memory.Cache
lent_cache c = memory.cache_of c.places.now c.lengths.now

-- the flag bytes of the header at `at` with n references
unfoldable pub flags_of : List ℕ → ℕ → ℕ → List ℕ
flags_of s at n = take (flag_bytes n) (drop (at + 1) s)

-- the header at `at` has so many references, the first at this offset, and lengths of this width
pub record HeaderAt (s : List ℕ) (at : ℕ) (start : HeaderStart) : Type 0 where
  pub few : start.n < 256
  pub width_least : 0 < start.width
  pub width_most : start.width ≤ 2
  pub first_is : start.first ≡ at + 1 + flag_bytes start.n
  pub first_inside : start.first ≤ length s

-- its references, judged in turn
abbrev pub references_from : Coding → (ℕ → Held) → List ℕ → ℕ → HeaderStart → Answer (List Reference × Position)
references_from agreed holding s at start = references agreed holding (flags_of s at start.n) start.width [] 0 start.n (at_offset s start.first 0)

-- what stands before the references of the header at `at`
unfoldable pub HeaderStarts : List ℕ → ℕ → Option HeaderStart → Type 0
HeaderStarts s at None = (agreed : Coding) (holding : ℕ → Held) → header agreed holding (at_offset s at 0) ≡ refused 2 0
HeaderStarts s at (Some start) =
    ((agreed : Coding) (holding : ℕ → Held) → header agreed holding (at_offset s at 0) ≡ references_from agreed holding s at start)
    × HeaderAt s at start

-- a reference is read at `at`, with the half h and the width of lengths
pub record ReferenceAt (s : List ℕ) (h width at : ℕ) : Type 0 where
  pub half_small : h < 16
  pub width_least : 0 < width
  pub width_most : width ≤ 2
  pub inside : at ≤ length s

-- that reference, judged as reference i after the earlier ones
abbrev pub reference_from : Coding → (ℕ → Held) → List ℕ → ℕ → ℕ → ℕ → List Reference → ℕ → Answer (Reference × Position)
reference_from agreed holding s h width at earlier i = reference agreed holding width earlier i h (at_offset s at 0)

-- the reference at `at`, with the half h and the width of lengths
unfoldable pub Spells : List ℕ → ℕ → ℕ → ℕ → Option Spelled → Type 0
Spells s h width at None =
    (agreed : Coding) (holding : ℕ → Held) (earlier : List Reference) (i : ℕ) → reference_from agreed holding s h width at earlier i ≡ refused 2 i
Spells s h width at (Some (spelled.New p from size)) =
    ((agreed : Coding) (holding : ℕ → Held) (earlier : List Reference) (i : ℕ)
    → reference_from agreed holding s h width at earlier i
    ≡ new_reference agreed holding earlier i p.0 from (take size (drop from s)) (at_offset s (from + size) 0))
    × (p.0 < 2048) × (at < from) × (from + size ≤ length s) × (size < 65536)
Spells s h width at (Some (spelled.Cached p)) =
    ((agreed : Coding) (holding : ℕ → Held) (earlier : List Reference) (i : ℕ)
    → reference_from agreed holding s h width at earlier i ≡ cached_reference agreed holding earlier i p.0 (at_offset s (at + 1) 0))
    × (p.0 < 2048) × (at < length s)

-- the `size` bytes from `from` on are a text, and as UTF-8 it fits from `at` on
pub record TextFits (agreed : Coding) (s : List ℕ) (from size at room : ℕ) : Type 0 where
  pub inside : from + size ≤ length s
  pub small : size < 65536
  pub characters : List ℕ
  pub is : check agreed (take size (drop from s)) ≡ valid characters
  pub fits : at + length (encodes characters) ≤ room

-- the text of these bytes is stored as UTF-8 from `at` on, in r bytes
pub record PutsText (agreed : Coding) (bs : List ℕ) (at : ℕ) (before after : List ℕ) (r : ℕ) : Type 0 where
  pub puts : (cs : List ℕ) → check agreed bs ≡ valid cs → (r ≡ length (encodes cs)) × (after ≡ sets before at (encodes cs))

-- what a place holds: a text, or the number of the refusal
unfoldable pub held_case : Held → Result Unit ℕ
held_case nothing = Err 21
held_case no_text = Err 14
held_case (text bs) = Ok tt

-- how these references name place p: one fills it new, one names it, none does
unfoldable pub naming_of : ℕ → List Reference → Naming
naming_of p rs = cond (filled p rs) Filled (cond (named p rs) Named Unnamed)

-- the table says it of each place
unfoldable pub NamingIs : List Naming → List Reference → Type 0
NamingIs naming earlier = (p : ℕ) → p < 2048 → get_or naming p Unnamed ≡ naming_of p earlier

-- a reference is good, reading goes on at t, and the table is the one with it
pub record Went (o : Answer (Reference × Position)) (t : Position) (naming : List Naming) (earlier : List Reference) : Type 0 where
  pub reference : Reference
  pub is : o ≡ good (reference, t)
  pub naming_is : NamingIs naming (reference ∷ earlier)

-- reference i of the packet s judged, with the table before and after it
unfoldable pub JudgedAs : (List Reference → Answer (Reference × Position)) → List ℕ → List Naming → List Naming → Result ℕ Refusal → Type 0
JudgedAs judging s naming naming' (Err f) = (earlier : List Reference) → NamingIs naming earlier → judging earlier ≡ refused f.number f.place
JudgedAs judging s naming naming' (Ok a) = (earlier : List Reference) → NamingIs naming earlier → Went (judging earlier) (at_offset s a 0) naming' earlier

-- a good one goes on at an offset between these
unfoldable pub GoesOn : ℕ → ℕ → Result ℕ Refusal → Type 0
GoesOn least most (Err f) = Unit {0}
GoesOn least most (Ok a) = (least ≤ a) × (a ≤ most)

-- new reference i to place p, with so many bytes of text from `from` on
pub record JudgesNew (agreed : Coding) (s : List ℕ) (p from size i : ℕ) (naming naming' : List Naming) (r : Result ℕ Refusal) : Type 0 where
  pub judged : (holding : ℕ → Held)
      → JudgedAs (λ earlier. new_reference agreed holding earlier i p from (take size (drop from s)) (at_offset s (from + size) 0)) s naming naming' r
  pub ends : GoesOn (from + size) (from + size) r

-- cached reference i to place p that ends at `end`
pub record JudgesCached (holding : ℕ → Held) (p end i : ℕ) (naming naming' : List Naming) (r : Result ℕ Refusal) : Type 0 where
  pub judged : (agreed : Coding) (s : List ℕ) → JudgedAs (λ earlier. cached_reference agreed holding earlier i p (at_offset s end 0)) s naming naming' r
  pub ends : GoesOn end end r

-- reference i at `at`, read and judged
pub record ReferenceIs (agreed : Coding) (holding : ℕ → Held) (s : List ℕ) (h width at i : ℕ) (naming naming' : List Naming) (r : Result ℕ Refusal) : Type 0 where
  pub judged : JudgedAs (λ earlier. reference_from agreed holding s h width at earlier i) s naming naming' r
  pub ends : GoesOn (at + 1) (length s) r

-- references are read, and reading goes on at offset a of s
pub record Reads (o : Answer (List Reference × Position)) (s : List ℕ) (a : ℕ) : Type 0 where
  pub references : List Reference
  pub is : o ≡ good (references, at_offset s a 0)

-- all references of a header
unfoldable pub Ends : Answer (List Reference × Position) → List ℕ → Result ℕ Refusal → Type 0
Ends o s (Err f) = o ≡ refused f.number f.place
Ends o s (Ok a) = Reads o s a × (a ≤ length s)

-- a header judged
unfoldable pub HeaderIs : Coding → (ℕ → Held) → List ℕ → ℕ → Result Header Refusal → Type 0
HeaderIs agreed holding s at (Err f) = header agreed holding (at_offset s at 0) ≡ refused f.number f.place
HeaderIs agreed holding s at (Ok h) =
    HeaderStarts s at (Some h.start) × Reads (header agreed holding (at_offset s at 0)) s h.payload × (h.payload ≤ length s)

-- the references of the header at `at` are good, with where they stand
pub record GoodHeader (agreed : Coding) (holding : ℕ → Held) (s : List ℕ) (at : ℕ) (start : HeaderStart) : Type 0 where
  pub references : List Reference
  pub end : Position
  pub is : references_from agreed holding s at start ≡ good (references, end)
  pub stands : HeaderAt s at start
