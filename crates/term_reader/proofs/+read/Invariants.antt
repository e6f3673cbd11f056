use Rattle.term_reader.proofs.Entries.{BeforeKey}
use Rattle.term_reader.proofs.Inner.{Tailed}
use Rattle.term_reader.specs.Code.{Step, Room, RunDone, PartsDone}
use Rattle.map_keys.specs.KeySet.{Keeps}
use Rattle.term_head.specs.Code.{wanted_of}
use Rattle.term_spec.specs.Answer.{at_offset}
use Rattle.term_spec.specs.Reading.{each, list_tail, body, term}
use Rattle.context.specs.Given.{list_in, given_in}
use lib.ListN.{length, drop, replicate}
use mathlib.Core.List.{List}
use mathlib.Core.Path.{◌≡◌}
use Prim.Native.Nat.{ℕ, ◌+◌, ◌-◌, ◌*◌, ◌≤◌}
use Rattle.term_reader.proofs.+read.Given as goal

abbrev pub decreases-read_body : goal.decreases-read_body
decreases-read_body l = l.left * 8 + 0

abbrev pub decreases-read_common : goal.decreases-read_common
decreases-read_common l = l.deep * 8 + 5

abbrev pub decreases-read_entry : goal.decreases-read_entry
decreases-read_entry l = l.deep * 8 + 3

abbrev pub decreases-read_inner : goal.decreases-read_inner
decreases-read_inner l = l.deep * 8 + 6

abbrev pub decreases-read_last : goal.decreases-read_last
decreases-read_last l = l.deep * 8 + 1

abbrev pub decreases-read_list : goal.decreases-read_list
decreases-read_list l = l.deep * 8 + 4

abbrev pub decreases-read_more : goal.decreases-read_more
decreases-read_more l = l.deep * 8 + 3

abbrev pub decreases-read_pairs : goal.decreases-read_pairs
decreases-read_pairs l = l.deep * 8 + 4

abbrev pub decreases-read_parts : goal.decreases-read_parts
decreases-read_parts l = l.deep * 8 + 5

abbrev pub decreases-read_quick : goal.decreases-read_quick
decreases-read_quick l = l.left * 8 + 0

abbrev pub decreases-read_run : goal.decreases-read_run
decreases-read_run l = l.deep * 8 + 2

abbrev pub decreases-read_tail : goal.decreases-read_tail
decreases-read_tail l = l.deep * 8 + 3

abbrev pub decreases-read_term : goal.decreases-read_term
decreases-read_term l = l.left * 8 + 1

abbrev pub decreases-read_wanted : goal.decreases-read_wanted
decreases-read_wanted l = l.deep * 8 + 4

abbrev pub invariant-read_pairs-loop-i : goal.invariant-read_pairs-loop-i
invariant-read_pairs-loop-i l = Room l.c.msg.now (list_in l.c) l.table (l.c.capacity) l.at_now l.row_now l.row
    × (length l.table ≡ length l.initial.table)
    × BeforeKey (given_in l.c) (l.c.capacity) l.deep l.c.msg.now l.c.places.now l.c.lengths.now l.at l.row l.count l.initial.table l.at_now l.row_now (l._i * 2) l.table l.seen
    × Keeps l.initial.seen l.seen

abbrev pub invariant-read_run-loop-i : goal.invariant-read_run-loop-i
invariant-read_run-loop-i l = Room l.c.msg.now (list_in l.c) l.table (l.c.capacity) l.at_now l.row_now l.whole
    × (length l.table ≡ length l.initial.table)
    × ((s : Step) (U : List ℕ)
    → RunDone l.c.msg.now (l.count - l._i) (l.c.capacity) l.row_now l.whole l.table (each (term (given_in l.c) (l.c.capacity) l.deep) (replicate (l.count - l._i) (wanted_of l.wanted)) (at_offset l.c.msg.now l.at_now l.row_now)) s U
    → RunDone l.c.msg.now l.count (l.c.capacity) l.row l.whole l.initial.table (each (term (given_in l.c) (l.c.capacity) l.deep) (replicate l.count (wanted_of l.wanted)) (at_offset l.c.msg.now l.at l.row)) s U)
    × Keeps l.initial.seen l.seen

abbrev pub invariant-read_tail-loop-at : goal.invariant-read_tail-loop-at
invariant-read_tail-loop-at l = Room l.c.msg.now (list_in l.c) l.table (l.c.capacity) l.at_now l.row_now l.whole
    × (length l.table ≡ length l.initial.table)
    × (l.sum ≤ l.row_now)
    × Tailed (given_in l.c) (l.c.capacity) l.deep l.c.msg.now l.at_now l.row_now l.whole l.table l.sum
    (PartsDone l.c.msg.now l.before (l.c.capacity) l.row l.whole l.initial.table (list_tail (given_in l.c) (l.c.capacity) l.deep (body (given_in l.c) (l.c.capacity) l.deep) (drop l.at l.c.msg.now) (at_offset l.c.msg.now l.at l.row)))
    × Keeps l.initial.seen l.seen

abbrev pub decreases-read_tail-loop-at : goal.decreases-read_tail-loop-at
decreases-read_tail-loop-at l = length l.c.msg.now - l.at_now
