-- `put_string` meets its contract. The head, then the characters.
use Rattle.term_writer.proofs.Terms.{string_put}
use mathlib.Core.Path.{refl}
use Rattle.term_writer.proofs.put_string.Goals as goal

pub returns : goal.returns
returns c = λ ts cs h e f. string_put _ _ cs refl c.put2.ensures (c.put_characters.ensures ts cs h e f)
