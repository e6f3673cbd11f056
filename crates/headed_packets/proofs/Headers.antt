-- A header taken: one law for each way out.
use mathlib.Core.Path.{◌≡◌, refl, sym, ◌∙◌}
use mathlib.Core.List.{List}
use Prim.Native.Nat.{ℕ, ◌+◌, ◌-◌, ◌≤◌, ◌<◌}
use native.Mathlib.Omega.{arith}
use lib.ListN.{length, drop, length-drop}
use borrow.Author.Tests.{le-leb, lt-leb}
use Rattle.std.specs.Prelude.{Ok, Err}
use Rattle.term_spec.specs.Text.{Coding}
use Rattle.term_spec.specs.Answer.{good, after, at_offset}
use Rattle.term_spec.specs.AtomList.{AtomList}
use Rattle.term_spec.specs.declared.Refusal.{Refusal}
use Rattle.packet_spec.specs.Answers.{refusal_of}
use Rattle.packet_spec.specs.Memory.{Cache, held}
use Rattle.packet_spec.specs.Header.{Reference}
use Rattle.packet_spec.specs.Packet.{payload_after}
use Rattle.packet_spec.specs.Calls.{list_of}
use Rattle.dist_header.specs.Code.{GoodHeader, HeaderIs}
use Rattle.dist_header.specs.declared.Header.{Header}
use Rattle.dist_header.proofs.Accepted.{header_references, header_is, references_are, payload_inside, good_of}
use Rattle.cache_entries.specs.Code.{ListWritten, CacheWritten}
use Rattle.headed_packets.specs.Code.{headed, Heads}
use Rattle.headed_packets.specs.declared.Payload.{Payload}

module _ (agreed : Coding) (c : Cache) (s : List ℕ) (at : ℕ) where
  pub heads_refused : (list : AtomList) (f : Refusal) → HeaderIs agreed (held c) s at (Err f) → Heads agreed s at c list (Err f) c list
  unfolding HeaderIs Heads headed
  heads_refused list f e = record { is = rw e; cache_stays = refl; list_stays = refl }

  module _ (h : Header) (told : HeaderIs agreed (held c) s at (Ok h)) where
    pub told_inside : h.payload ≤ length s
    told_inside = payload_inside agreed (held c) s at h told

    pub told_good : GoodHeader agreed (held c) s at h.start
    told_good = good_of agreed (held c) s at h told

    after_header : headed agreed (held c) (at_offset s at 0)
        ≡ after (payload_after 0 (at_offset s h.payload 0)) (λ bs t. good ((header_references agreed (held c) s at h told, h.payload, bs), t))
    unfolding headed
    after_header = rw (header_is agreed (held c) s at h told)

    left : length (drop h.payload s) ≡ length s - h.payload
    left = length-drop h.payload s

    pub heads_long : (list : AtomList) → 65536 < length s - h.payload → Heads agreed s at c list (Err (refusal_of 12 0)) c list
    unfolding Heads payload_after
    heads_long list l = record { is = after_header ∙ rw (lt-leb (0 + length (drop h.payload s)) 65536 (omega (arith, left))); cache_stays = refl; list_stays = refl }

    pub heads_good : (list : AtomList) (c' : Cache) (list' : AtomList) → length s - h.payload ≤ 65536 → ListWritten agreed c s at h.start list' → CacheWritten agreed s at h.start c c'
        → Heads agreed s at c list (Ok (record { offset = h.payload; size = length s - h.payload })) c' list'
    unfolding Heads payload_after list_of
    heads_good list c' list' l list_written all =
        let rs : List Reference = header_references agreed (held c) s at h told in
        let e = references_are agreed (held c) s at h told in
        let inside = told_inside in
        record {
          references = rs;
          is = after_header ∙ rw (le-leb (0 + length (drop h.payload s)) 65536 (omega (arith, left)));
          size_is = sym left;
          inside = omega arith;
          small = l;
          cache_is = all.cache_written rs (at_offset s h.payload 0) e;
          list_is = list_written.list_written rs (at_offset s h.payload 0) e;
        }

-- the payload of a header that is taken
pub head_inside : (agreed : Coding) (s : List ℕ) (at : ℕ) (c c' : Cache) (list list' : AtomList) (p : Payload)
    → Heads agreed s at c list (Ok p) c' list' → (p.offset + p.size ≤ length s) × (p.size ≤ 65536)
unfolding Heads
head_inside agreed s at c c' list list' p h = (omega (arith, h.inside), h.small)
