use Rattle.term_writer.proofs.Strings.{CharactersLeft}
use Rattle.term_writer.specs.InTable.{RunInTable}
use Rattle.term_spec.specs.Canonical.{all_small}
use Rattle.term_spec.specs.Message.{Terms, all_as_read}
use Rattle.term_spec.specs.Tree.{count}
use Prim.Native.Nat.{ℕ}
use mathlib.Core.Option.{some}
use mathlib.Core.List.{List}
use mathlib.Core.Path.{◌≡◌}
use Rattle.term_writer.proofs.put_characters.Given as goal

abbrev pub invariant-loop-i : goal.invariant-loop-i
invariant-loop-i l = ((ts : Terms) (cs : List ℕ) → RunInTable l.rows.msg.now l.rows.places.now l.rows.lengths.now l.rows.table.now l.row ts → count ts ≡ l.n → all_small (all_as_read ts) ≡ some cs → CharactersLeft l.rows.msg.now l.rows.places.now l.rows.lengths.now l.rows.table.now l.row l.n l.at cs l.initial.out l.out l.i)
