use mathlib.Core.Path.{◌≡◌}
use Prim.Native.Nat.{◌+◌, ◌*◌, ◌≤◌}
use Rattle.text.proofs.Ascii.{Begins}
use Rattle.text.proofs.ascii_start.Given as goal

abbrev pub invariant-loop-eight : goal.invariant-loop-eight
invariant-loop-eight l = (l.n + 8 * l.eight-iterator.n ≤ 255) × (l.eight-iterator.iter.size ≡ 8) × Begins l.s l.eight-iterator.iter.rest.now l.n
