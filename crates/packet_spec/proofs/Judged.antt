-- What is known of the references of an accepted header.
use mathlib.Core.Path.{◌≡◌, refl, ap, subst}
use mathlib.Core.Bool.{Bool, true, false, not}
use mathlib.Core.List.{List, [], ◌∷◌}
use Prim.Native.Nat.{ℕ, zero, suc, ◌+◌, ◌≤◌, ◌<◌}
use native.Mathlib.Omega.{arith}
use lib.Dec.{eqb, leb}
use lib.ListN.{length, take, length-take}
use borrow.Author.Tests.{eqb-true, eqb-false, leb-true, not-true}
use Rattle.term_spec.specs.Connection.{coding_agreed, flags_known}
use Rattle.term_spec.specs.Text.{Coding, utf_8, Checked, valid, invalid_at, check, Characters}
use Rattle.term_spec.specs.Answer.{Answer, good, refused, Position, Reading, after, bytes, number}
use Rattle.term_spec.specs.Message.{version, result_of}
use Rattle.term_spec.specs.Numbers.{Under}
use Rattle.term_spec.proofs.Text.{utf8_encodes, check_characters}
use Rattle.term_spec.proofs.Message.{passed, found_good}
use Rattle.term_spec.proofs.Holds.{Holds, Fine, bind, done_holds, refused_holds, rule_holds, text_holds, byte_holds, bytes_holds, number_holds, next, weaken}
use Rattle.packet_spec.specs.declared.Pending.{Pending}
use Rattle.packet_spec.specs.Memory.{Cache, Memory, Held, nothing, no_text, text, text_if, held_as, held, memory_of_size, record_true}
use Rattle.packet_spec.specs.Header.{Reference, half, is_new, place_at, named, filled, held_or, new_reference, cached_reference, reference, references, header}
use Rattle.packet_spec.specs.Packet.{Kind, normal, starting, continuing, ids, packet_kind, preamble, Packet, plain, start, continuation, payload_after, rest, packet, judged}

-- a text of 32 bytes at most, in UTF-8
pub record Text (bs : List ℕ) : Type 0 where
  pub short : length bs ≤ 32
  pub characters : List ℕ
  pub is_utf8 : check utf_8 bs ≡ valid characters

-- a reference after earlier ones
pub record Sound (earlier : List Reference) (r : Reference) : Type 0 where
  pub in_cache : r.place < 2048
  pub a_text : Text r.text
  -- a new one's place is named by none of them, a cached one's filled new by none of them
  pub new_apart : r.new ≡ true → named r.place earlier ≡ false
  pub cached_apart : r.new ≡ false → filled r.place earlier ≡ false

abbrev pub AllSound : List Reference → List Reference → Type 0
AllSound earlier [] = Unit {0}
AllSound earlier (r ∷ rs) = Sound earlier r × AllSound (r ∷ earlier) rs

-- what a place holds is a text, if it holds one
pub held_as_true : (n : ℕ) (bs t : List ℕ) → held_as n bs ≡ text t → Text t
unfolding held_as text_if
held_as_true n bs t e = go (eqb n 65535) (leb n 32) refl e
  where
    inner : (o : Checked) → check utf_8 (take n bs) ≡ o → text_if (take n bs) o ≡ text t → length (take n bs) ≤ 32 → Text t
    inner (invalid_at k) u f l = absurd cc
    inner (valid cs) u f l = let is : take n bs ≡ t = cc in subst Text is (record { short = l; characters = cs; is_utf8 = u })

    go : (x y : Bool) → leb n 32 ≡ y
        → ◌≡◌ {A = Held} (elim x [ true ↦ nothing | false ↦ elim y [ true ↦ text_if (take n bs) (check utf_8 (take n bs)) | false ↦ no_text ] ]) (text t) → Text t
    go true y l f = absurd cc
    go false false l f = absurd cc
    go false true l f = inner (check utf_8 (take n bs)) refl f (omega (arith, leb-true n 32 l, length-take n bs))

-- every text that the places hold is one
abbrev pub Texts : (ℕ → Held) → Type 0
Texts h = (p : ℕ) (bs : List ℕ) → h p ≡ text bs → Text bs

pub held_texts : (c : Cache) → Texts (held c)
unfolding held
held_texts c p bs e = held_as_true _ _ bs e

pub held_or_holds : (i : ℕ) (h : Held) (s : Position) {Q : List ℕ → Position → Type 0}
    → ((bs : List ℕ) → h ≡ text bs → Q bs s) → Holds (held_or i h s) Q
unfolding held_or
held_or_holds i nothing s q = refused_holds 21 i
held_or_holds i no_text s q = refused_holds 14 i
held_or_holds i (text bs) s q = done_holds bs s (q bs refl)

module _ (agreed : Coding) (holding : ℕ → Held) (texts : Texts holding) where
  new_holds : (earlier : List Reference) (i place first : ℕ) (bs : List ℕ) (t₂ : Position) → place < 2048 → Under 256 bs → Fine 0 t₂
      → Holds (new_reference agreed holding earlier i place first bs t₂) (λ r t. Sound earlier r × Fine 0 t)
  unfolding new_reference
  new_holds earlier i place first bs t₂ p u f₂ =
      bind (rule_holds (not (named place earlier)) 22 i t₂ λ apart.
      bind (text_holds (check agreed bs) 5 _ t₂ λ cs e.
      bind (rule_holds _ 23 i t₂ λ l.
      done_holds _ t₂ (
        record {
          in_cache = p;
          a_text = record { short = leb-true _ 32 l; characters = cs; is_utf8 = let k : Characters cs × (length cs ≤ 255) = check_characters agreed bs cs u e in utf8_encodes cs k.0 k.1 };
          new_apart = λ _. not-true _ apart;
          cached_apart = λ no_way. cc;
        },
        f₂,
      ))))

  cached_holds : (earlier : List Reference) (i place : ℕ) (s : Position) → place < 2048 → Fine 0 s
      → Holds (cached_reference agreed holding earlier i place s) (λ r t. Sound earlier r × Fine 0 t)
  unfolding cached_reference
  cached_holds earlier i place s p f =
      bind (rule_holds _ 22 i s λ apart.
      bind (held_or_holds i (holding place) s λ bs e.
      done_holds _ s (
        record {
          in_cache = p;
          a_text = texts place bs e;
          new_apart = λ no_way. cc;
          cached_apart = λ _. not-true _ apart;
        },
        f,
      )))

  reference_holds : (width : ℕ) (earlier : List Reference) (i h : ℕ) (s : Position) → Fine 0 s
      → Holds (reference agreed holding width earlier i h s) (λ r t. Sound earlier r × Fine 0 t)
  unfolding reference place_at
  reference_holds width earlier i h s f =
      bind (byte_holds i s f λ internal t b g. go (is_new h) internal t b g)
    where
      go : (new : Bool) (internal : ℕ) (t : Position) → internal < 256 → Fine 0 t
          → Holds ((elim new as (λ _. Reading Reference) [
            | true ↦ λ s. after (number i width s) (λ size t. after (bytes i size t) (new_reference agreed holding earlier i (place_at h internal) t.at))
            | false ↦ cached_reference agreed holding earlier i (place_at h internal)
          ]) t) (λ r u. Sound earlier r × Fine 0 u)
      go true internal t b g =
          bind (number_holds i width t g λ size t₁ _ f₁.
          bind (bytes_holds i size t₁ f₁ λ bs t₂ _ u f₂. new_holds earlier i (place_at h internal) t₁.at bs t₂ (omega arith) u f₂))
      go false internal t b g = cached_holds earlier i (place_at h internal) t (omega arith) g

  references_holds : (flags : List ℕ) (width : ℕ) (earlier : List Reference) (i more : ℕ) (s : Position) → Fine 0 s
      → Holds (references agreed holding flags width earlier i more s) (λ rs t. AllSound earlier rs × (length rs ≡ more) × Fine 0 t)
  unfolding references
  references_holds flags width earlier i zero s f = done_holds [] s (tt, refl, f)
  references_holds flags width earlier i (suc more) s f =
      next _ (reference_holds width earlier i (half flags i) s f) λ r t g.
      next _ (references_holds flags width (r ∷ earlier) (i + 1) more t g.1) λ rs u k.
      done_holds (r ∷ rs) u ((g.0, k.0), ap suc k.1, k.2)

  pub header_holds : (s : Position) → Fine 0 s
      → Holds (header agreed holding s) (λ rs t. AllSound [] rs × (length rs < 256) × Fine 0 t)
  unfolding header
  header_holds s f =
      bind (byte_holds 0 s f λ n t b g.
      bind (bytes_holds 0 _ t g λ flags u _ _ k.
      weaken _ (references_holds flags _ [] 0 n u k) λ rs v h. (h.0, omega arith, h.2)))

-- ---- packets

version_holds : (s : Position) → Fine 0 s → {Q : Unit → Position → Type 0} → ((t : Position) → Fine 0 t → Q tt t) → Holds (version s) Q
unfolding version
version_holds s f {Q} q = go s.left f.bytes_under
  where
    inner : (b : ℕ) (bs : List ℕ) → Under 256 bs → (is : Bool)
        → Holds {A = Unit} (elim is [ true ↦ good (tt, record { at = 1; left = bs; rows_taken = s.rows_taken }) | false ↦ refused 1 0 ]) Q
    inner b bs u true = done_holds tt _ (q _ (record { bytes_under = u; rows_are = f.rows_are }))
    inner b bs u false = refused_holds 1 0

    go : (left : List ℕ) → Under 256 left → Holds {A = Unit} (elim left [
      | [] ↦ refused 1 0
      | b ∷ bs ↦ elim (eqb b 131) [ true ↦ good (tt, record { at = 1; left = bs; rows_taken = s.rows_taken }) | false ↦ refused 1 0 ]
    ]) Q
    go [] u = refused_holds 1 0
    go (b ∷ bs) u = inner b bs u.1 (eqb b 131)

-- FragmentId is not 0
abbrev pub Numbered : Kind → Type 0
Numbered normal = Unit {0}
Numbered (starting s f) = f ≡ 0 → ⊥
Numbered (continuing s f) = f ≡ 0 → ⊥

preamble_holds : (s : Position) → Fine 0 s → Holds (preamble s) (λ k t. Numbered k × Fine 0 t)
unfolding preamble packet_kind ids
preamble_holds s f =
    bind (version_holds s f λ t g. bind (byte_holds 0 t g λ tag u _ h. go (eqb tag 68) (eqb tag 69) (eqb tag 70) u h))
  where
    numbers : (k : ℕ → ℕ → Kind) → ((s f : ℕ) → (f ≡ 0 → ⊥) → Numbered (k s f)) → (u : Position) → Fine 0 u
        → Holds (ids k u) (λ k t. Numbered k × Fine 0 t)
    numbers k n u h =
        bind (number_holds 0 8 u h λ sequence v _ i.
        bind (number_holds 0 8 v i λ fragment w _ j.
        bind (rule_holds _ 24 0 w λ e.
        done_holds _ w (n sequence fragment (eqb-false fragment 0 (not-true _ e)), j))))

    go : (x y z : Bool) (u : Position) → Fine 0 u → Holds ((elim x as (λ _. Reading Kind) [
      | true ↦ λ s. good (normal, s)
      | false ↦ elim y [ true ↦ ids starting | false ↦ elim z [ true ↦ ids continuing | false ↦ λ s. refused 20 0 ] ]
    ]) u) (λ k t. Numbered k × Fine 0 t)
    go true y z u h = done_holds normal u (tt, h)
    go false true z u h = numbers starting (λ s f n. n) u h
    go false false true u h = numbers continuing (λ s f n. n) u h
    go false false false u h = refused_holds 20 0

payload_holds : (g : ℕ) (s : Position) {Q : List ℕ → Position → Type 0}
    → (g + length s.left ≤ 65536 → Q s.left s) → Holds (payload_after g s) Q
unfolding payload_after
payload_holds g s q = bind (rule_holds _ 12 0 s λ e. done_holds s.left s (q (leb-true _ 65536 e)))

-- what is known of an accepted packet, with the record as it was before
abbrev pub SoundPacket : Pending → Packet → Type 0
SoundPacket r (plain rs at bs) = AllSound [] rs × (length rs < 256) × (length bs ≤ 65536)
SoundPacket r (start s f rs bs) = AllSound [] rs × (length rs < 256) × (length bs ≤ 65536) × (f ≡ 0 → ⊥) × (r.due ≡ 0)
SoundPacket r (continuation s f bs) = (r.gathered + length bs ≤ 65536) × (s ≡ r.sequence) × (f ≡ r.due) × (f ≡ 0 → ⊥)

module _ (agreed : Coding) (holding : ℕ → Held) (texts : Texts holding) (r : Pending) where
  rest_holds : (k : Kind) (s : Position) → Numbered k → Fine 0 s → Holds (rest agreed holding r k s) (λ p t. SoundPacket r p)
  unfolding rest
  rest_holds normal s n f =
      next _ (header_holds agreed holding texts s f) λ rs t h.
      bind (payload_holds 0 t λ l. done_holds (plain rs t.at t.left) t (h.0, h.1, omega arith))
  rest_holds (starting sequence fragment) s n f =
      bind (rule_holds _ 26 0 s λ e.
      next _ (header_holds agreed holding texts s f) λ rs t h.
      bind (payload_holds 0 t λ l. done_holds (start sequence fragment rs t.left) t (h.0, h.1, omega arith, n, eqb-true _ 0 e)))
  rest_holds (continuing sequence fragment) s n f =
      bind (rule_holds (not (eqb r.due 0)) 25 0 s λ _.
      bind (rule_holds _ 25 0 s λ e.
      bind (rule_holds _ 24 0 s λ d.
      bind (payload_holds r.gathered s λ l. done_holds (continuation sequence fragment s.left) s (l, eqb-true _ _ e, eqb-true _ _ d, n)))))

  pub packet_holds : (s : Position) → Fine 0 s → Holds (packet agreed holding r s) (λ p t. SoundPacket r p)
  unfolding packet
  packet_holds s f =
      bind (rule_holds (record_true r) 14 0 s λ _.
      next _ (preamble_holds s f) λ k t h.
      rest_holds k t h.0 h.1)

-- what is known of an accepted packet of a call
pub record Accepted (m : Memory) (p : Packet) : Type 0 where
  pub of_its_size : memory_of_size m ≡ true
  pub sound : SoundPacket m.pending p

pub accepted : (flags : ℕ) (m : Memory) (bs : List ℕ) (p : Packet) → Under 256 bs → judged flags m bs ≡ good p → Accepted m p
unfolding judged
accepted flags m bs p u e =
    let begin : Position = record { at = 0; left = bs; rows_taken = 0 } in
    let o : Answer (Packet × Position) = packet (coding_agreed flags) (held m.cache) m.pending begin in
    let a = passed (memory_of_size m) 13 _ p e in
    let k = passed (flags_known flags) 14 (result_of o) p a.1 in
    let g = found_good o p k.1 in
    record {
      of_its_size = a.0;
      sound = (packet_holds (coding_agreed flags) (held m.cache) (held_texts m.cache) m.pending begin (record { bytes_under = u; rows_are = refl })).known p g.0 g.1;
    }
