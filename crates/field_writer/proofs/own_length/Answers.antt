-- `own_length` meets its contract. Bytes that stand as they are written are counted as they are, a list by its elements.
use native.Mathlib.Omega.{arith}
use lib.ListN.{length}
use Prim.Native.Nat.{ℕ, ◌+◌}
use mathlib.Core.List.{List}
use mathlib.Core.Path.{refl, ◌∙◌, ap₂}
use Rattle.already_canonical.proofs.Nodes.{around_length}
use Rattle.field_writer.proofs.Own.{there_is, list_before, list_after}
use Rattle.field_writer.proofs.own_length.Goals as goal

pub returns-then-kind-eq-LIST : goal.returns-then-kind-eq-LIST
returns-then-kind-eq-LIST c = let args = c.args in
    let b = list_before args.msg.now args.places.now args.lengths.now args.word _ _ c.kind_in-kind.ensures.0 c.if-kind-eq-LIST.true c.parts_in.ensures.0 in
    let e = list_after args.msg.now args.places.now args.lengths.now args.word _ _ c.kind_in-kind.ensures.0 c.if-kind-eq-LIST.true c.parts_in.ensures.0 in
    (c.list_length.ensures.0 ∙ ap₂ (λ (x y : List ℕ). length x + length y) b e, omega (arith, c.list_length.ensures.1))

pub returns-then-is_some : goal.returns-then-is_some
returns-then-is_some c = let args = c.args in
    let a = there_is c.pid_node.result c.if-is_some.ensures (c.pid_node.ensures args.places.now args.lengths.now _) in
    around_length args.msg.now args.places.now args.lengths.now args.word _ _ _ _ _ c.kind_in-kind.ensures.0 c.offset_in-tag.ensures.0 a.1 _ refl

pub reference_tail-requires : goal.reference_tail-requires
reference_tail-requires c = let args = c.args in
    let a = there_is c.reference_node.result c.if-is_some-2.ensures (c.reference_node.ensures args.places.now args.lengths.now 0) in
    a.1.first_there

pub returns-then-is_some-2 : goal.returns-then-is_some-2
returns-then-is_some-2 c = let args = c.args in
    let a = there_is c.reference_node.result c.if-is_some-2.ensures (c.reference_node.ensures args.places.now args.lengths.now _) in
    around_length args.msg.now args.places.now args.lengths.now args.word _ _ _ _ _ c.kind_in-kind.ensures.0 c.offset_in-tag.ensures.0 a.1 _ (omega (arith, c.reference_tail.ensures.0))
