-- `port_trail` meets its contract. An ID of 4 or 8 bytes, and Creation.
use Rattle.term_spec.specs.Numbers.{in_bytes}
use Prim.Native.Nat.{ℕ}
use mathlib.Core.List.{List, ◌++◌, append-nil}
use Rattle.canonical_fields.proofs.Leads.{numbers_lay, port_four, port_eight}
use native.Mathlib.Omega.{arith}
use mathlib.Core.Path.{ap, ◌∙◌}
use Rattle.canonical_fields.proofs.port_trail.Goals as goal

pub returns-then-id-lt-NEW_PORT_IDS : goal.returns-then-id-lt-NEW_PORT_IDS
unfolding in_bytes
returns-then-id-lt-NEW_PORT_IDS c = let args = c.args in
    λ n. numbers_lay _ _ _ _ _ _ c.laid.ensures (omega arith) (omega arith) (omega arith) (ap (λ (y : List ℕ). in_bytes 4 args.id ++ y) (append-nil (in_bytes 4 args.creation)) ∙ port_four _ _ _ c.if-id-lt-NEW_PORT_IDS.true)

pub returns : goal.returns
unfolding in_bytes
returns c = let args = c.args in
    λ n. numbers_lay _ _ _ _ _ _ c.laid-2.ensures (omega arith) (omega arith) (omega arith) (ap (λ (y : List ℕ). in_bytes 8 args.id ++ y) (append-nil (in_bytes 4 args.creation)) ∙ port_eight _ _ _ c.if-id-lt-NEW_PORT_IDS.false)
