use Rattle.term_spec.specs.Numbers.{big_endian}
use Rattle.std.proofs.Common.{◌≡◌, ◌<◌, take, drop}
use Rattle.term_head.proofs.below.Given as goal

abbrev pub invariant-loop-i : goal.invariant-loop-i
invariant-loop-i l = (l.n ≡ big_endian (take l.i (drop l.at l.msg))) × (l.n < l.limit)
