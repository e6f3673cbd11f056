-- `locate_word` meets its contract: 13, 14, 6, 14, then the word.
use mathlib.Core.Path.{ap}
use mathlib.Core.Bool.{not}
use native.Mathlib.Omega.{arith}
use Rattle.term_spec.specs.AtomList.{lent_list, place_length}
use Rattle.term_spec.proofs.Tests.{refuted, confirmed, sizes_of}
use Rattle.word_lookup.proofs.Words.{not_sized, not_known, not_below, not_text, word_there}
use Rattle.word_lookup.proofs.locate_word.Goals as goal

pub returns-then-not-list_fits : goal.returns-then-not-list_fits
returns-then-not-list_fits c = let a = c.args in
    not_sized _ _ _ (refuted (c.list_fits.ensures a.n) (ap not c.if-not-list_fits.true))

pub returns-then-not-flags_known : goal.returns-then-not-flags_known
returns-then-not-flags_known c = let a = c.args in
    not_known _ _ _ (confirmed (c.list_fits.ensures a.n) (ap not c.if-not-list_fits.false)) (refuted c.flags_known.ensures (ap not c.if-not-flags_known.true))

pub returns-then-from-i : goal.returns-then-from-i
returns-then-from-i c = let a = c.args in
    not_below _ _ _ (confirmed (c.list_fits.ensures a.n) (ap not c.if-not-list_fits.false)) (confirmed c.flags_known.ensures (ap not c.if-not-flags_known.false)) (omega arith)

pub place_holds_text-requires : goal.place_holds_text-requires
place_holds_text-requires c = let a = c.args in
    let z = sizes_of (lent_list a.n a.places.now a.lengths.now) (confirmed (c.list_fits.ensures a.n) (ap not c.if-not-list_fits.false)) in (omega arith, z.0, z.1)

pub returns-then-not-place_holds_text : goal.returns-then-not-place_holds_text
returns-then-not-place_holds_text c = let a = c.args in
    not_text _ _ _ (confirmed (c.list_fits.ensures a.n) (ap not c.if-not-list_fits.false)) (confirmed c.flags_known.ensures (ap not c.if-not-flags_known.false)) (omega arith)
    (refuted (c.place_holds_text.ensures a.n) (ap not c.if-not-place_holds_text.true))

pub bounds-lengths-i : goal.bounds-lengths-i
bounds-lengths-i c = let a = c.args in
    let z = sizes_of (lent_list a.n a.places.now a.lengths.now) (confirmed (c.list_fits.ensures a.n) (ap not c.if-not-list_fits.false)) in omega arith

pub returns : goal.returns
unfolding place_length
returns c = let a = c.args in
    rw c.from-2.ensures (word_there _ (lent_list a.n a.places.now a.lengths.now) a.index.0 (confirmed (c.list_fits.ensures a.n) (ap not c.if-not-list_fits.false)) (confirmed c.flags_known.ensures (ap not c.if-not-flags_known.false)) (omega arith) (omega arith)
    (confirmed (c.place_holds_text.ensures a.n) (ap not c.if-not-place_holds_text.false)))
