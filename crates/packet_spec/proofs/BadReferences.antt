-- Where a packet is refused with 5, its place is the bad byte of a new reference's text: by a walk over the packet, at offsets of its bytes.
use mathlib.Core.Path.{◌≡◌, refl, sym, ◌∙◌, ap, subst}
use mathlib.Core.Bool.{Bool, true, false, not}
use mathlib.Core.List.{List, [], ◌∷◌}
use Prim.Native.Nat.{ℕ, zero, suc, ◌+◌, ◌≤◌, ◌<◌}
use native.Mathlib.Numerals.{add-one}
use native.Mathlib.Omega.{arith}
use lib.Dec.{eqb, leb}
use lib.ListN.{length, get_or, take, drop}
use borrow.Author.Tests.{eqb-true}
use Rattle.std.specs.Prelude.{Err}
use Rattle.term_spec.specs.Numbers.{big_endian}
use Rattle.term_spec.specs.Connection.{coding_agreed, flags_known}
use Rattle.term_spec.specs.Text.{Coding, Checked, valid, invalid_at, check, encodes}
use Rattle.term_spec.specs.Answer.{Answer, good, refused, Position, Reading, at_offset, after, byte, bytes, number}
use Rattle.term_spec.specs.Head.{text_or}
use Rattle.term_spec.proofs.Tests.{by_less}
use Rattle.term_spec.proofs.Bridge.{byte_at, byte_end, bytes_at, bytes_end, number_at, number_end}
use Rattle.term_spec.proofs.Holds.{refused_holds}
use Rattle.term_spec.proofs.Walk.{Keeps, and_then, next_step, end, no, rule_keeps, version_keeps}
use Rattle.term_spec.proofs.BadByte.{bad_bytes}
use Rattle.term_spec.proofs.BadTexts.{past_check, found_refused, as_told}
use Rattle.packet_spec.specs.declared.Pending.{Pending}
use Rattle.packet_spec.specs.Memory.{Memory, Held, nothing, no_text, text, held, memory_of_size, record_true}
use Rattle.packet_spec.specs.Header.{Reference, flag_bytes, half, is_new, place_at, named, filled, held_or, new_reference, cached_reference, reference, references, header}
use Rattle.packet_spec.specs.Packet.{Kind, normal, starting, continuing, ids, packet_kind, preamble, Packet, payload_after, rest, packet, judged}
use Rattle.packet_spec.specs.Calls.{taken, take_packet}
use Rattle.packet_spec.specs.Answers.{refusal_of, outcome_case, packet_answer}
use Rattle.packet_spec.specs.BadReferences.{CountAt, after_68, after_69, reference_count, header_flags, header_width, size_at, reference_at, BadReference, BadReferences}
use Rattle.packet_spec.proofs.Demand.{answer_is}

-- Steps at an offset: what they find stands there
module _ {F : ℕ → Type 0} (s : List ℕ) (p : ℕ) where
  byte_keeps : (at : ℕ) {Q : ℕ → Position → Type 0} → (at < length s → Q (get_or s at 0) (at_offset s (at + 1) 0)) → Keeps Q F (byte p (at_offset s at 0))
  byte_keeps at q = by_less at (length s) (λ inside. rw (byte_at s p at 0 inside) (end _ _ (q inside))) λ over. rw (byte_end s p at 0 over) (no 2 p refl)

  module _ (n at : ℕ) (inside : at ≤ length s) where
    bytes_keep : {Q : List ℕ → Position → Type 0} → (at + n ≤ length s → Q (take n (drop at s)) (at_offset s (at + n) 0)) → Keeps Q F (bytes p n (at_offset s at 0))
    bytes_keep q = by_less (length s) (at + n) (λ over. rw (bytes_end s p n at 0 inside over) (no 2 p refl)) λ fits. rw (bytes_at s p n at 0 fits) (end _ _ (q fits))

    number_keeps : {Q : ℕ → Position → Type 0} → (at + n ≤ length s → Q (big_endian (take n (drop at s))) (at_offset s (at + n) 0)) → Keeps Q F (number p n (at_offset s at 0))
    number_keeps q = by_less (length s) (at + n) (λ over. rw (number_end s p n at 0 inside over) (no 2 p refl)) λ fits. rw (number_at s p n at 0 fits) (end _ _ (q fits))

-- a text that fails is refused where it does
text_keeps : {F : ℕ → Type 0} (o : Checked) (place : ℕ → ℕ) (s : Position) {Q : List ℕ → Position → Type 0}
    → ((k : ℕ) → o ≡ invalid_at k → F (place k)) → ((cs : List ℕ) → Q cs s) → Keeps Q F (text_or o 5 place s)
unfolding text_or
text_keeps {F} (invalid_at k) place s fails q =
    record { ends = refused_holds 5 (place k); refuses = λ p e. let is : place k ≡ p = cc in subst F is (fails k refl) }
text_keeps (valid cs) place s fails q = end cs s (q cs)

held_keeps : {F : ℕ → Type 0} (i : ℕ) (h : Held) (s : Position) {Q : List ℕ → Position → Type 0} → ((bs : List ℕ) → Q bs s) → Keeps Q F (held_or i h s)
unfolding held_or
held_keeps i nothing s q = no 21 i refl
held_keeps i no_text s q = no 14 i refl
held_keeps i (text bs) s q = end bs s (q bs)

module _ (flags : ℕ) (holding : ℕ → Held) (bs : List ℕ) where
  abbrev agreed : Coding
  agreed = coding_agreed flags

  abbrev Told : {A : Type 0} → (A → Position → Type 0) → Answer (A × Position) → Type 0
  Told Q o = Keeps Q (BadReference flags bs) o

  -- The references of a header whose count stands at `c`
  module _ (c : ℕ) (there : CountAt bs c) where
    abbrev n : ℕ
    n = reference_count bs c

    abbrev fs : List ℕ
    fs = header_flags bs c

    abbrev w : ℕ
    w = header_width bs c

    abbrev begin : ℕ → ℕ
    begin = reference_at bs c

    abbrev size : ℕ → ℕ
    size i = size_at bs c (begin i)

    -- where reference i begins, inside the packet
    abbrev At : ℕ → Position → Type 0
    At i t = (t ≡ at_offset bs (begin i) 0) × (begin i ≤ length bs)

    -- reference i + 1 begins where reference i ends
    next_at : (i at : ℕ) → at ≡ begin (i + 1) → at ≤ length bs → At (i + 1) (at_offset bs at 0)
    next_at i at e inside = (ap (λ (a : ℕ). at_offset bs a 0) e, subst (λ (a : ℕ). a ≤ length bs) e inside)

    after_new : (i : ℕ) → is_new (half fs i) ≡ true → begin i + 1 + w + size i ≡ begin (i + 1)
    unfolding reference_at
    after_new i new = rw (add-one i, new) (omega arith)

    after_cached : (i : ℕ) → is_new (half fs i) ≡ false → begin i + 1 ≡ begin (i + 1)
    unfolding reference_at
    after_cached i cached = rw (add-one i, cached) (omega arith)

    reference_told : (earlier : List Reference) (i : ℕ) → i < n → Told (λ _. At (i + 1)) (reference agreed holding w earlier i (half fs i) (at_offset bs (begin i) 0))
    unfolding reference new_reference cached_reference
    reference_told earlier i counted = and_then (byte_keeps bs i (begin i) λ inside. go (is_new (half fs i)) refl (get_or bs (begin i) 0) inside)
      where
        go : (new : Bool) → is_new (half fs i) ≡ new → (internal : ℕ) → begin i < length bs
            → Told (λ _. At (i + 1)) ((elim new as (λ _. Reading Reference) [
              | true ↦ λ s. after (number i w s) (λ size t. after (bytes i size t) (new_reference agreed holding earlier i (place_at (half fs i) internal) t.at))
              | false ↦ cached_reference agreed holding earlier i (place_at (half fs i) internal)
            ]) (at_offset bs (begin i + 1) 0))
        go true new internal inside =
            and_then (number_keeps bs i w (begin i + 1) (omega arith) λ fits.
            and_then (bytes_keep bs i (size i) (begin i + 1 + w) fits λ all.
            and_then (rule_keeps (not (named (place_at (half fs i) internal) earlier)) 22 i refl _ λ _.
            and_then (text_keeps (check agreed _) _ _
            (λ k fails. record {
              first = begin i + 1 + w;
              size = size i;
              k = k;
              there = record { c = c; count_there = there; i = i; counted = counted; new = new; first_is = refl; size_is = refl; inside = all };
              place_is = refl;
              bad = bad_bytes.told agreed _ k fails;
            })
            λ cs. and_then (rule_keeps (leb (length (encodes cs)) 32) 23 i refl _ λ _. end _ _ (next_at i _ (after_new i new) all))))))
        go false cached internal inside =
            and_then (rule_keeps (not (filled (place_at (half fs i) internal) earlier)) 22 i refl _ λ _.
            and_then (held_keeps i (holding (place_at (half fs i) internal)) _ λ bs. end _ _ (next_at i _ (after_cached i cached) (omega arith))))

    references_told : (earlier : List Reference) (i more : ℕ) (t : Position) → i + more ≡ n → At i t
        → Told (λ _ _. Unit {0}) (references agreed holding fs w earlier i more t)
    unfolding references
    references_told earlier i zero t all at = end [] t tt
    references_told earlier i (suc more) t all at = first_then λ r t at. references_told (r ∷ earlier) (i + 1) more t (omega arith) at
      where
        first_then : ((r : Reference) (t : Position) → At (i + 1) t → Told (λ _ _. Unit {0}) (references agreed holding fs w (r ∷ earlier) (i + 1) more t))
            → Told (λ _ _. Unit {0}) (references agreed holding fs w earlier i (suc more) t)
        first_then later =
            rw at.0 (next_step (reference_told earlier i (omega arith)) λ r t _ at. next_step (later r t at) λ rs t _ _. end _ t tt)

    header_told : Told (λ _ _. Unit {0}) (header agreed holding (at_offset bs c 0))
    unfolding header reference_at
    header_told =
        and_then (byte_keeps bs 0 c λ inside. and_then (bytes_keep bs 0 (flag_bytes n) (c + 1) (omega arith) λ fits. references_told [] 0 n _ (omega arith) (refl, fits)))

  -- where the preamble ends, a header begins, unless the packet is a continuation
  abbrev Begun : Kind → Position → Type 0
  Begun normal t = (c : ℕ) × (t ≡ at_offset bs c 0) × CountAt bs c
  Begun (starting s f) t = (c : ℕ) × (t ≡ at_offset bs c 0) × CountAt bs c
  Begun (continuing s f) t = Unit {0}

  ids_told : (kind : ℕ → ℕ → Kind) → ((s f : ℕ) → Begun (kind s f) (at_offset bs 18 0)) → 2 ≤ length bs → Told Begun (ids kind (at_offset bs 2 0))
  unfolding ids
  ids_told kind begun inside =
      and_then (number_keeps bs 0 8 2 inside λ fits. and_then (number_keeps bs 0 8 10 fits λ fits.
      let fragment : ℕ = big_endian (take 8 (drop 10 bs)) in
      and_then (rule_keeps (not (eqb fragment 0)) 24 0 refl (at_offset bs 18 0) λ _. end (kind _ fragment) (at_offset bs 18 0) (begun _ fragment))))

  preamble_told : Told Begun (preamble (at_offset bs 0 0))
  unfolding preamble packet_kind
  preamble_told =
      and_then (version_keeps _ λ b left e.
      let is : left ≡ drop 1 bs = sym (ap (drop 1) e) in
      rw is (and_then (byte_keeps bs 0 1 λ inside. go (eqb (get_or bs 1 0) 68) (eqb (get_or bs 1 0) 69) (eqb (get_or bs 1 0) 70) refl refl inside)))
    where
      go : (x y z : Bool) → eqb (get_or bs 1 0) 68 ≡ x → eqb (get_or bs 1 0) 69 ≡ y → 2 ≤ length bs
          → Told Begun ((elim x as (λ _. Reading Kind) [
            | true ↦ λ s. good (normal, s)
            | false ↦ elim y [ true ↦ ids starting | false ↦ elim z [ true ↦ ids continuing | false ↦ λ s. refused 20 0 ] ]
          ]) (at_offset bs 2 0))
      go true y z is_68 is_69 inside = end normal _ (2, refl, after_68 (eqb-true _ 68 is_68) refl)
      go false true z is_68 is_69 inside = ids_told starting (λ s f. (18, refl, after_69 (eqb-true _ 69 is_69) refl)) inside
      go false false true is_68 is_69 inside = ids_told continuing (λ s f. tt) inside
      go false false false is_68 is_69 inside = no 20 0 refl

  module _ (r : Pending) where
    payload_told : (g : ℕ) (t : Position) → Told (λ _ _. Unit {0}) (payload_after g t)
    unfolding payload_after
    payload_told g t = and_then (rule_keeps (leb (g + length t.left) 65536) 12 0 refl t λ _. end _ t tt)

    rest_told : (kind : Kind) (t : Position) → Begun kind t → Told (λ _ _. Unit {0}) (rest agreed holding r kind t)
    unfolding rest
    rest_told normal t begun =
        rw begun.1 (next_step (header_told begun.0 begun.2) λ rs t _ _. next_step (payload_told 0 t) λ bs t _ _. end _ t tt)
    rest_told (starting s f) t begun =
        and_then (rule_keeps (eqb r.due 0) 26 0 refl t λ _.
        rw begun.1 (next_step (header_told begun.0 begun.2) λ rs t _ _. next_step (payload_told 0 t) λ bs t _ _. end _ t tt))
    rest_told (continuing s f) t begun =
        and_then (rule_keeps (not (eqb r.due 0)) 25 0 refl t λ _. and_then (rule_keeps (eqb s r.sequence) 25 0 refl t λ _.
        and_then (rule_keeps (eqb f r.due) 24 0 refl t λ _. next_step (payload_told r.gathered t) λ bs t _ _. end _ t tt)))

    packet_told : Told (λ _ _. Unit {0}) (packet agreed holding r (at_offset bs 0 0))
    unfolding packet
    packet_told = and_then (rule_keeps (record_true r) 14 0 refl _ λ _. next_step preamble_told λ kind t _ begun. rest_told kind t begun)

module _ (flags : ℕ) (m : Memory) (bs : List ℕ) (p : ℕ) where
  rules_bad : judged flags m bs ≡ refused 5 p → BadReference flags bs p
  unfolding judged
  rules_bad e =
      (packet_told flags (held m.cache) bs m.pending).refuses p
      (found_refused _ 5 p (past_check (flags_known flags) 14 p _ refl (past_check (memory_of_size m) 13 p _ refl e)))

  taking_bad : packet_answer (take_packet flags m bs) ≡ Err (refusal_of 5 p) → BadReference flags bs p
  unfolding packet_answer outcome_case take_packet
  taking_bad e = rules_bad (go (judged flags m bs) e)
    where
      go : (o : Answer Packet) → packet_answer (taken m o) ≡ Err (refusal_of 5 p) → o ≡ refused 5 p
      go (good a) e = absurd cc
      go (refused n q) e = as_told n q 5 p cc

pub bad_references : BadReferences
bad_references =
    record {
      by_the_rules = rules_bad;
      by_taking = λ flags packet m r m' c p e. taking_bad flags m packet p (sym (answer_is c) ∙ e);
    }
