-- `put_hex` meets its contract. The bytes up to the index are stored.
use mathlib.Core.Path.{◌≡◌}
use Prim.Native.Nat.{◌+◌, ◌*◌}
use lib.ListN.{take}
use Rattle.layout.specs.Layout.{Put}
use Rattle.bench_line.specs.Line.{hex}
use Rattle.bench_line.proofs.put_hex.Given as goal

abbrev pub invariant-loop-x : goal.invariant-loop-x
invariant-loop-x l = Put l.initial.dst l.at (hex (take l.x-index l.bytes)) l.next l.dst × (l.next ≡ l.at + 2 * l.x-index)
