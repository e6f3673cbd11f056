use mathlib.Core.Path.{◌≡◌}
use Prim.Native.Nat.{◌*◌, ◌≤◌}
use lib.ListN.{length, take, drop}
use Rattle.term_spec.specs.Text.{encodes}
use Rattle.text.proofs.utf8_length.Given as goal

abbrev pub invariant-loop-b : goal.invariant-loop-b
invariant-loop-b l = (l.count ≡ length (encodes (take l.b-index (drop l.at l.s)))) × (l.count ≤ 2 * l.b-index)
