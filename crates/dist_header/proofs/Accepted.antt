-- The references of an accepted header: what they are, and where the next one stands.
use mathlib.Core.Path.{◌≡◌, refl, sym, ◌∙◌}
use mathlib.Core.List.{List, []}
use Prim.Native.Nat.{ℕ, ◌≤◌}
use lib.ListN.{length}
use Rattle.std.specs.Prelude.{Ok}
use Rattle.term_spec.specs.Text.{Coding}
use Rattle.term_spec.specs.Answer.{good, at_offset}
use Rattle.packet_spec.specs.Memory.{Held}
use Rattle.packet_spec.specs.Header.{Reference, header}
use Rattle.dist_header.specs.Code.{flags_of, references_from, HeaderStarts, GoodHeader, HeaderIs}
use Rattle.dist_header.specs.declared.HeaderStart.{HeaderStart}
use Rattle.dist_header.specs.declared.Header.{Header}
use Rattle.dist_header.proofs.Walk.{Along, along_none}

-- a good header, with where its references stand
module _ (agreed : Coding) (holding : ℕ → Held) (s : List ℕ) (at : ℕ) (h : Header) (is : HeaderIs agreed holding s at (Ok h)) where
  -- the references that it has
  pub header_references : List Reference
  unfolding HeaderIs
  header_references = is.1.references

  pub header_is : header agreed holding (at_offset s at 0) ≡ good (header_references, at_offset s h.payload 0)
  unfolding HeaderIs header_references
  header_is = is.1.is

  pub references_are : references_from agreed holding s at h.start ≡ good (header_references, at_offset s h.payload 0)
  unfolding HeaderIs HeaderStarts
  references_are = sym (is.0.0 agreed holding) ∙ header_is

  pub payload_inside : h.payload ≤ length s
  unfolding HeaderIs
  payload_inside = is.2

pub good_of : (agreed : Coding) (holding : ℕ → Held) (s : List ℕ) (at : ℕ) (h : Header) → HeaderIs agreed holding s at (Ok h) → GoodHeader agreed holding s at h.start
unfolding HeaderIs HeaderStarts
good_of agreed holding s at h is =
    record {
      references = header_references agreed holding s at h is;
      end = at_offset s h.payload 0;
      is = references_are agreed holding s at h is;
      stands = is.0.1;
    }

module _ (agreed : Coding) (holding : ℕ → Held) (s : List ℕ) (at : ℕ) (start : HeaderStart) where
  -- the references before reference i are done, and it stands at `next`
  pub record HalfWay (i next : ℕ) : Type 0 where
    pub earlier : List Reference
    pub done : List Reference
    pub along : Along agreed holding s (flags_of s at start.n) start.width (references_from agreed holding s at start) start.n i next earlier done
    pub count : length done ≡ i

  abbrev pub begun : HalfWay 0 start.first
  begun = record { earlier = []; done = []; along = along_none agreed holding s (flags_of s at start.n) start.width start.n start.first; count = refl }
