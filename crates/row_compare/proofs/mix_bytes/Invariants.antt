use mathlib.Core.Path.{◌≡◌}
use Prim.Native.Nat.{◌<◌}
use Rattle.row_compare.specs.Hash.{mix_all, as_utf8}
use Rattle.row_compare.proofs.Hashes.{left_after}
use Rattle.row_compare.proofs.mix_bytes.Given as goal

abbrev pub invariant-loop-c : goal.invariant-loop-c
invariant-loop-c l = (l.sum < 4294967296) × (left_after l.factor l.latin1 l.bytes l.c-index l.sum ≡ mix_all l.factor l.h (as_utf8 l.latin1 l.bytes))
