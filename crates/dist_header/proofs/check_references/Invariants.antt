use Rattle.term_spec.specs.Text.{coding_of}
use mathlib.Core.Path.{◌≡◌}
use lib.ListN.{length}
use Rattle.packet_spec.specs.Memory.{held}
use Rattle.dist_header.specs.Code.{lent_cache}
use Rattle.dist_header.proofs.Walk.{Checking}
use Rattle.dist_header.proofs.check_references.Given as goal

abbrev pub invariant-loop-i : goal.invariant-loop-i
invariant-loop-i l = (length l.naming ≡ 2048) × Checking (coding_of l.utf8) (held (lent_cache l.cache)) l.packet l.at l.start l.i l.next l.naming
