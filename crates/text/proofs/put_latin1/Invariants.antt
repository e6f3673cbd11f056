use mathlib.Core.Path.{◌≡◌}
use Prim.Native.Nat.{◌+◌}
use lib.ListN.{length, take, drop}
use lib.Seq.{sets}
use Rattle.term_spec.specs.Text.{encodes}
use Rattle.text.proofs.put_latin1.Given as goal

abbrev pub invariant-loop-c : goal.invariant-loop-c
invariant-loop-c l = (l.end ≡ l.b + length (encodes (take l.c-index (drop l.a l.src)))) × (l.dst ≡ sets l.initial.dst l.b (encodes (take l.c-index (drop l.a l.src))))
