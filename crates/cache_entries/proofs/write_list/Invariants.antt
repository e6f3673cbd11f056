use Prim.Native.Nat.{◌≤◌}
use lib.ListN.{length}
use Rattle.term_spec.specs.Text.{coding_of}
use Rattle.dist_header.specs.Code.{lent_cache}
use Rattle.cache_entries.specs.Code.{list_lent, SameList, ListSized}
use Rattle.cache_entries.proofs.Loops.{ListWalk}
use Rattle.cache_entries.proofs.write_list.Given as goal

abbrev pub invariant-loop-i : goal.invariant-loop-i
invariant-loop-i l = (l.next ≤ length l.packet) × ListSized (list_lent l.list) × ListWalk (coding_of l.utf8) (lent_cache l.cache) l.packet l.at l.start l.i l.next l.list.places.now l.list.lengths.now × SameList l.fn.list l.list
