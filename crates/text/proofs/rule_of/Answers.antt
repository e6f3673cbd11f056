-- `rule_of` meets its contract. A byte that is past some lines of the table is in the next, or past it too.
use mathlib.Core.Path.{refl}
use lib.ListN.{drop}
use Rattle.term_spec.specs.Text.{lines}
use Rattle.text.specs.Characters.{range, after}
use Rattle.text.proofs.Characters.{Left, past_line, in_line, no_line}
use Rattle.text.proofs.rule_of.Goals.{Else-within, Else-within-2, Else-within-3, Else-within-4, Else-within-5, Else-within-6, Else-within-7, Else-within-8, Else-within-9}
use Rattle.text.proofs.rule_of.Goals as goal

-- the lines that are left of the table where the test of each line fails
past-1 : (c : Else-within) → Left c.args.b (drop 1 lines)
unfolding lines range
past-1 c = past_line _ _ _ _ refl c.within.ensures c.if-within.false

past-2 : (c : Else-within-2) → Left c.args.b (drop 2 lines)
unfolding lines range
past-2 c = past_line _ _ _ _ (past-1 c.before.before) c.within-2.ensures c.if-within-2.false

past-3 : (c : Else-within-3) → Left c.args.b (drop 3 lines)
unfolding lines range
past-3 c = past_line _ _ _ _ (past-2 c.before.before) c.within-3.ensures c.if-within-3.false

past-4 : (c : Else-within-4) → Left c.args.b (drop 4 lines)
unfolding lines range
past-4 c = past_line _ _ _ _ (past-3 c.before.before) c.within-4.ensures c.if-within-4.false

past-5 : (c : Else-within-5) → Left c.args.b (drop 5 lines)
unfolding lines range
past-5 c = past_line _ _ _ _ (past-4 c.before.before) c.within-5.ensures c.if-within-5.false

past-6 : (c : Else-within-6) → Left c.args.b (drop 6 lines)
unfolding lines range
past-6 c = past_line _ _ _ _ (past-5 c.before.before) c.within-6.ensures c.if-within-6.false

past-7 : (c : Else-within-7) → Left c.args.b (drop 7 lines)
unfolding lines range
past-7 c = past_line _ _ _ _ (past-6 c.before.before) c.within-7.ensures c.if-within-7.false

past-8 : (c : Else-within-8) → Left c.args.b (drop 8 lines)
unfolding lines range
past-8 c = past_line _ _ _ _ (past-7 c.before.before) c.within-8.ensures c.if-within-8.false

past-9 : (c : Else-within-9) → Left c.args.b (drop 9 lines)
unfolding lines range
past-9 c = past_line _ _ _ _ (past-8 c.before.before) c.within-9.ensures c.if-within-9.false

pub returns-then-within : goal.returns-then-within
unfolding lines range after
returns-then-within c = in_line _ _ _ _ refl c.within.ensures c.if-within.true

pub returns-then-within-2 : goal.returns-then-within-2
unfolding lines range after
returns-then-within-2 c = in_line _ _ _ _ (past-1 (goal.at.returns-then-within-2 c).Else-within) c.within-2.ensures c.if-within-2.true

pub returns-then-within-3 : goal.returns-then-within-3
unfolding lines range after
returns-then-within-3 c = in_line _ _ _ _ (past-2 (goal.at.returns-then-within-3 c).Else-within-2) c.within-3.ensures c.if-within-3.true

pub returns-then-within-4 : goal.returns-then-within-4
unfolding lines range after
returns-then-within-4 c = in_line _ _ _ _ (past-3 (goal.at.returns-then-within-4 c).Else-within-3) c.within-4.ensures c.if-within-4.true

pub returns-then-within-5 : goal.returns-then-within-5
unfolding lines range after
returns-then-within-5 c = in_line _ _ _ _ (past-4 (goal.at.returns-then-within-5 c).Else-within-4) c.within-5.ensures c.if-within-5.true

pub returns-then-within-6 : goal.returns-then-within-6
unfolding lines range after
returns-then-within-6 c = in_line _ _ _ _ (past-5 (goal.at.returns-then-within-6 c).Else-within-5) c.within-6.ensures c.if-within-6.true

pub returns-then-within-7 : goal.returns-then-within-7
unfolding lines range after
returns-then-within-7 c = in_line _ _ _ _ (past-6 (goal.at.returns-then-within-7 c).Else-within-6) c.within-7.ensures c.if-within-7.true

pub returns-then-within-8 : goal.returns-then-within-8
unfolding lines range after
returns-then-within-8 c = in_line _ _ _ _ (past-7 (goal.at.returns-then-within-8 c).Else-within-7) c.within-8.ensures c.if-within-8.true

pub returns-then-within-9 : goal.returns-then-within-9
unfolding lines range after
returns-then-within-9 c = in_line _ _ _ _ (past-8 (goal.at.returns-then-within-9 c).Else-within-8) c.within-9.ensures c.if-within-9.true

pub returns : goal.returns
unfolding lines after
returns c = no_line _ (past-9 (goal.at.returns c).Else-within-9)
