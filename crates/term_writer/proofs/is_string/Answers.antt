-- `is_string` meets its contract. A list with elements that are all small.
use Rattle.term_writer.proofs.Strings.{other_kind, no_elements, elements_told, term_below, parts_run}
use Rattle.term_writer.specs.Code.{string_term}
use mathlib.Core.Path.{◌≡◌}
use mathlib.Core.Bool.{false}
use mathlib.Core.Logic.{inl, inr}
use Rattle.term_writer.proofs.is_string.Goals as goal

pub bounds-rows-row : goal.bounds-rows-row
bounds-rows-row c = term_below c.requires

pub all_small-requires : goal.all_small-requires
all_small-requires c = parts_run _ c.parts_in-n.ensures.0 c.requires

pub returns-then-n-ne0 : goal.returns-then-n-ne0
returns-then-n-ne0 c = elements_told _ _ _ c.kind_in.ensures.0 c.if-n-ne0.true.0 c.parts_in-n.ensures.0 c.if-n-ne0.true.1 c.all_small.ensures

pub returns-else-n-ne0 : goal.returns-else-n-ne0
returns-else-n-ne0 c = λ t h.
    let told : false ≡ string_term t
    = elim c.if-n-ne0.either [ inl e ↦ no_elements _ c.parts_in-n.ensures.0 e.1 t h | inr e ↦ other_kind _ c.kind_in.ensures.0 e t h ] in
    cc
