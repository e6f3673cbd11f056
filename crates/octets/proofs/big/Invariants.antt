use mathlib.Core.Path.{◌≡◌}
use Prim.Native.Nat.{◌^◌, ◌<◌}
use lib.ListN.{take, drop}
use Rattle.term_spec.specs.Numbers.{big_endian}
use Rattle.octets.proofs.big.Given as goal

abbrev pub invariant-loop-b : goal.invariant-loop-b
invariant-loop-b g l = (l.n ≡ big_endian (take l.b-index (drop l.at l.s))) × (l.n < 256 ^ l.b-index)
