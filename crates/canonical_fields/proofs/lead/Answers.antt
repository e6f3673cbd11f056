-- `lead` meets its contract. By the content: each case says the label that the content says.
use Rattle.canonical_fields.specs.Shape.{before}
use Rattle.row_fields.specs.Meaning.{label_of}
use Rattle.term_spec.specs.Canonical.{integer_bytes}
use Rattle.term_spec.specs.Numbers.{in_bytes}
use Prim.Native.Nat.{ℕ}
use mathlib.Core.List.{◌∷◌}
use Rattle.octets.proofs.Parts.{length_words_at}
use Rattle.canonical_fields.proofs.Leads.{says, only_tagged, lead_by, signed_below, signed_above, sound_whole, sound_big, sound_text, sound_bytes, sound_bits}
use native.Mathlib.Omega.{arith}
use mathlib.Core.Path.{refl, sym, ap}
use Rattle.canonical_fields.proofs.lead.Goals as goal

pub negative_lead-requires : goal.negative_lead-requires
negative_lead-requires c = let args = c.args in
    sound_whole args.msg.now args.places.now args.content _ _ c.in-Whole.is c.requires.0 c.if-negative.true

pub returns-then-negative : goal.returns-then-negative
unfolding label_of before
returns-then-negative c = let args = c.args in
    lead_by args.msg.now args.places.now args.content args.kind args.n _ c.in-Whole.is (says (ap integer_bytes (signed_below _ _ c.if-negative.true (sound_whole args.msg.now args.places.now args.content _ _ c.in-Whole.is c.requires.0 c.if-negative.true))) (c.negative_lead.ensures _ _))

pub text-requires : goal.text-requires
text-requires c = let args = c.args in
    sound_text args.msg.now args.places.now args.content _ _ _ _ c.in-Text.is c.requires.0

pub returns-in-Nothing : goal.returns-in-Nothing
unfolding label_of before
returns-in-Nothing c = let args = c.args in
    lead_by args.msg.now args.places.now args.content args.kind args.n _ c.in-Nothing.is (c.bare_lead.ensures _ _)

pub returns-else-negative : goal.returns-else-negative
unfolding label_of before
returns-else-negative c = let args = c.args in
    lead_by args.msg.now args.places.now args.content args.kind args.n _ c.in-Whole.is (says (ap integer_bytes (signed_above _ _ c.if-negative.false)) (c.positive_lead.ensures _ _))

pub returns-in-Big : goal.returns-in-Big
unfolding label_of before
returns-in-Big c = let args = c.args in
    lead_by args.msg.now args.places.now args.content args.kind args.n _ c.in-Big.is (c.big_lead.ensures _ _ (sound_big args.msg.now args.places.now args.content _ _ _ c.in-Big.is c.requires.0) (λ i. omega (arith, c.type_inv.msg i)))

pub returns-in-Float : goal.returns-in-Float
unfolding label_of before
returns-in-Float c = let args = c.args in
    lead_by args.msg.now args.places.now args.content args.kind args.n _ c.in-Float.is (only_tagged _ _ _ c.tagged.ensures refl _ _)

pub returns-in-Text : goal.returns-in-Text
unfolding label_of before
returns-in-Text c = let args = c.args in
    lead_by args.msg.now args.places.now args.content args.kind args.n _ c.in-Text.is c.text.ensures

pub returns-in-Bytes : goal.returns-in-Bytes
unfolding label_of before
returns-in-Bytes c = let args = c.args in
    lead_by args.msg.now args.places.now args.content args.kind args.n _ c.in-Bytes.is (c.bytes_lead.ensures _ _ (sound_bytes args.msg.now args.places.now args.content _ _ c.in-Bytes.is c.requires.0))

pub returns-in-Bits : goal.returns-in-Bits
unfolding label_of before
returns-in-Bits c = let args = c.args in
    let asked = c.requires in
    lead_by args.msg.now args.places.now args.content args.kind args.n _ c.in-Bits.is (c.bits_lead.ensures _ _ (sound_bits args.msg.now args.places.now args.content _ _ _ c.in-Bits.is asked.0).0 (sound_bits args.msg.now args.places.now args.content _ _ _ c.in-Bits.is asked.0).1)

pub returns-in-Pid : goal.returns-in-Pid
unfolding label_of before in_bytes
returns-in-Pid c = let args = c.args in
    lead_by args.msg.now args.places.now args.content args.kind args.n _ c.in-Pid.is (only_tagged _ _ _ c.tagged-in-Pid.ensures refl _ _)

pub returns-in-Port : goal.returns-in-Port
unfolding label_of before
returns-in-Port c = let args = c.args in
    lead_by args.msg.now args.places.now args.content args.kind args.n _ c.in-Port.is (c.port_lead.ensures c.in-Port.creation args.n _ _)

pub returns-in-Reference : goal.returns-in-Reference
unfolding label_of before
returns-in-Reference c = let args = c.args in
    lead_by args.msg.now args.places.now args.content args.kind args.n _ c.in-Reference.is (only_tagged _ _ _ c.tagged-in-Reference.ensures (ap (λ (k : ℕ). 90 ∷ in_bytes 2 k) (sym (length_words_at _ _ _))) _ _)
