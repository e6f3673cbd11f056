-- `put_standalone` meets its contract. 131, then the term.
use Rattle.table_writer.proofs.Standalones.{standalone_room, standalone_rest, standalone_put}
use lib.ListN.{length-set}
use mathlib.Core.Path.{refl}
use native.Mathlib.Omega.{arith}
use Rattle.table_writer.proofs.put_standalone.Goals as goal

pub bounds-out-at : goal.bounds-out-at
bounds-out-at c = let b = standalone_room _ _ c.requires in omega arith

pub write_term-requires : goal.write_term-requires
write_term-requires c = standalone_rest _ _ _ (length-set _ _ _) c.requires

pub returns : goal.returns
returns c = standalone_put _ refl c.write_term.ensures
