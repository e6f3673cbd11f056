-- `check_text` meets its contract.
use mathlib.Core.Path.{◌≡◌}
use Rattle.term_spec.specs.Text.{coding_of, check}
use Rattle.text.specs.Shown.{shown}
use Rattle.text.proofs.Valid.{coding_utf8, coding_latin1, fails_inside}
use Rattle.text.proofs.check_text.Goals as goal

pub returns-then-utf8 : goal.returns-then-utf8
returns-then-utf8 c =
    let e : c.check_utf8.result ≡ shown (check (coding_of c.args.utf8) c.args.s.now) = rw (coding_utf8 _ c.if-utf8.true) c.check_utf8.ensures in
    (e, fails_inside _ _ _ e)

pub returns-else-utf8 : goal.returns-else-utf8
returns-else-utf8 c =
    let e : c.check_latin1.result ≡ shown (check (coding_of c.args.utf8) c.args.s.now) = rw (coding_latin1 _ c.if-utf8.false) c.check_latin1.ensures in
    (e, fails_inside _ _ _ e)
