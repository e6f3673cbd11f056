-- `cached_atom` meets its contract. The index, then the text at its place.
use mathlib.Core.Path.{sym, ap, ◌∙◌}
use native.Mathlib.Omega.{arith}
use Rattle.term_spec.proofs.Tests.{sizes_of}
use Rattle.term_head.proofs.Texts.{cached_short, cached_past, cached_false, cached_there}
use Rattle.std.specs.Prelude.{Ok, Err}
use Rattle.term_head.proofs.cached_atom.Goals as goal

pub returns-then-c-at-lt1 : goal.returns-then-c-at-lt1
returns-then-c-at-lt1 c = λ rows. ap Err c.cut.ensures ∙ cached_short _ _ _ _ _ _ _ (omega arith) c.if-c-at-lt1.true

pub returns-then-from-i : goal.returns-then-from-i
returns-then-from-i c = λ rows. cached_past _ _ _ _ _ _ _ (omega arith) _ c.if-c-at-lt1.false c.big1-i.ensures.0 (omega (arith, c.from.ensures))

pub place_holds_text-requires : goal.place_holds_text-requires
place_holds_text-requires c = let z = sizes_of _ c.requires.1 in (omega (arith, c.from.ensures), z.0, z.1)

pub returns-then-not-place_holds_text : goal.returns-then-not-place_holds_text
returns-then-not-place_holds_text c = λ rows. cached_false _ _ _ _ _ _ _ (omega arith) _ c.if-c-at-lt1.false c.big1-i.ensures.0 (omega (arith, c.from.ensures)) (sym (c.place_holds_text.ensures _) ∙ c.if-not-place_holds_text.true)

pub returns : goal.returns
returns c = λ rows. ap Ok c.leaf.ensures ∙ cached_there _ _ _ _ _ _ _ (omega arith) _ c.if-c-at-lt1.false c.big1-i.ensures.0 (omega (arith, c.from.ensures)) (sym (c.place_holds_text.ensures _) ∙ c.if-not-place_holds_text.false)
