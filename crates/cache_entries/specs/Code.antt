-- What the code leaves of an accepted header, in terms of the definitions of packets.
-- About the code alone, proved against the definitions of packet_spec: nothing here has to be believed.
use Rattle.std.specs.Prelude.{◌≡◌, true, List, ℕ, ◌≤◌, ◌<◌, length, take, drop}
use Rattle.std.proofs.lemmas.List.Edits.{sets}
use Rattle.term_spec.specs.Text.{Coding, valid, check, encodes}
use Rattle.term_spec.specs.AtomList.{AtomList, lent_list}
use Rattle.term_spec.specs.Answer.{good, Position, at_offset}
use Rattle.packet_spec.specs.Memory.{Cache, CacheSized, Held, held}
use Rattle.packet_spec.specs.Header.{Reference}
use Rattle.packet_spec.specs.Calls.{enter, entered, list_of}
use Rattle.dist_header.specs.declared.HeaderStart.{HeaderStart}
use Rattle.dist_header.specs.Code.{references_from, ReferenceAt, reference_from, GoodHeader}
use Rattle.cache_entries.specs.declared.ListMut.{ListMut}
use Rattle.cache_entries.specs.declared.ListedText.{ListedText}

-- the list that is lent
abbrev pub list_lent : ListMut → AtomList
list_lent l = lent_list l.n.now l.places.now l.lengths.now

-- it is written where it was lent
pub record SameList (old new : ListMut) : Type 0 where
  pub n_same : new.n.ghost_name ≡ old.n.ghost_name
  pub places_same : new.places.ghost_name ≡ old.places.ghost_name
  pub lengths_same : new.lengths.ghost_name ≡ old.lengths.ghost_name

-- an atom list of its stated size
pub record ListSized (list : AtomList) : Type 0 where
  pub places_are : length list.places ≡ 8160
  pub lengths_are : length list.lengths ≡ 255

-- a good header, judged with a cache of its stated size
pub record HeaderIn (agreed : Coding) (c : Cache) (s : List ℕ) (at : ℕ) (start : HeaderStart) : Type 0 where
  pub cache_sized : CacheSized c
  pub good_header : GoodHeader agreed (held c) s at start

-- a good reference stands at `at`
pub record GoodReference (agreed : Coding) (holding : ℕ → Held) (s : List ℕ) (h width at : ℕ) : Type 0 where
  pub earlier : List Reference
  pub i : ℕ
  pub reference : Reference
  pub end : Position
  pub is : reference_from agreed holding s h width at earlier i ≡ good (reference, end)

-- a good reference, judged with a cache of its stated size, can be put into place i of a list
pub record Listable (agreed : Coding) (c : Cache) (s : List ℕ) (h width at i : ℕ) (places : List ℕ) : Type 0 where
  pub read_at : ReferenceAt s h width at
  pub good_reference : GoodReference agreed (held c) s h width at
  pub cache_sized : CacheSized c
  pub i_small : i < 255
  pub places_are : length places ≡ 8160

-- a good reference, whatever the cache was that it was judged with, can be entered into a cache of its stated size
pub record Enterable (agreed : Coding) (c : Cache) (s : List ℕ) (h width at : ℕ) : Type 0 where
  pub read_at : ReferenceAt s h width at
  pub holding : ℕ → Held
  pub good_reference : GoodReference agreed holding s h width at
  pub cache_sized : CacheSized c

-- the text of the good reference at `at` is stored from offset `to` on
pub record Lists (agreed : Coding) (c : Cache) (s : List ℕ) (h width at to : ℕ) (before after : List ℕ) (r : ListedText) : Type 0 where
  pub lists : (earlier : List Reference) (i : ℕ) (x : Reference) (t : Position) → reference_from agreed (held c) s h width at earlier i ≡ good (x, t)
      → (t ≡ at_offset s r.next 0) × (r.next ≤ length s) × (r.size ≡ length x.text) × (r.size ≤ 32) × (after ≡ sets before to x.text)

-- the list is that of the references
pub record ListWritten (agreed : Coding) (c : Cache) (s : List ℕ) (at : ℕ) (start : HeaderStart) (after : AtomList) : Type 0 where
  pub list_written : (rs : List Reference) (t : Position) → references_from agreed (held c) s at start ≡ good (rs, t) → after ≡ list_of rs

-- the text of the `size` bytes from `from` on is in the place
pub record StoresText (agreed : Coding) (s : List ℕ) (from size p : ℕ) (before after : Cache) : Type 0 where
  pub stores : (cs : List ℕ) → check agreed (take size (drop from s)) ≡ valid cs → after ≡ enter before (record { place = p; new = true; text = encodes cs })

-- the good reference at `at` is entered, and reading goes on at offset r
pub record Enters (agreed : Coding) (s : List ℕ) (h width at : ℕ) (before after : Cache) (r : ℕ) : Type 0 where
  pub enters : (holding : ℕ → Held) (earlier : List Reference) (i : ℕ) (x : Reference) (t : Position) → reference_from agreed holding s h width at earlier i ≡ good (x, t)
      → (t ≡ at_offset s r 0) × (r ≤ length s) × (after ≡ enter before x)

-- the references, judged with the cache before, are entered
pub record CacheWritten (agreed : Coding) (s : List ℕ) (at : ℕ) (start : HeaderStart) (before after : Cache) : Type 0 where
  pub cache_written : (rs : List Reference) (t : Position) → references_from agreed (held before) s at start ≡ good (rs, t)
      → after ≡ entered before rs
