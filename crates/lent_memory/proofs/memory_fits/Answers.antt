-- `memory_fits` meets its contract.
use mathlib.Core.Path.{sym, ◌∙◌}
use Rattle.lent_memory.proofs.Sizes.{cache_fails, plain_fails, pending_fails, gather_if}
use Rattle.lent_memory.proofs.memory_fits.Goals as goal
use Rattle.lent_memory.proofs.memory_fits.Goals.{then-cache_fits, else-cache_fits, then-list_fits, else-list_fits}

pub returns-then-list_fits-2 : goal.returns-then-list_fits-2
returns-then-list_fits-2 c = record {
  fits_told = λ n count pending. elim c.if-list_fits.branch [
    | then-list_fits w ↦ elim c.if-cache_fits.branch [
      | then-cache_fits v ↦
          gather_if _ c.cache_fits.ensures v.if-cache_fits.true (v.list_fits.ensures n) (sym v.value-is ∙ w.if-list_fits.true)
          (w.list_fits-then-list_fits.ensures count) (sym w.value-is ∙ c.if-list_fits-2.true)
      | else-cache_fits v ↦ let met = sym v.if-cache_fits.false ∙ (sym v.value-is ∙ w.if-list_fits.true) in absurd cc
    ]
    | else-list_fits w ↦ let met = sym w.if-list_fits.false ∙ (sym w.value-is ∙ c.if-list_fits-2.true) in absurd cc
  ];
}

pub returns-else-list_fits-2 : goal.returns-else-list_fits-2
returns-else-list_fits-2 c = record {
  fits_told = λ n count pending. elim c.if-list_fits.branch [
    | then-list_fits w ↦ elim c.if-cache_fits.branch [
      | then-cache_fits v ↦
          c.if-list_fits-2.false
          ∙ pending_fails _ c.cache_fits.ensures v.if-cache_fits.true (v.list_fits.ensures n) (sym v.value-is ∙ w.if-list_fits.true)
          (w.list_fits-then-list_fits.ensures count) (sym w.value-is ∙ c.if-list_fits-2.false)
      | else-cache_fits v ↦ let met = sym v.if-cache_fits.false ∙ (sym v.value-is ∙ w.if-list_fits.true) in absurd cc
    ]
    | else-list_fits w ↦ elim c.if-cache_fits.branch [
      | then-cache_fits v ↦
          c.if-list_fits-2.false
          ∙ plain_fails _ c.cache_fits.ensures v.if-cache_fits.true (v.list_fits.ensures n) (sym v.value-is ∙ w.if-list_fits.false)
      | else-cache_fits v ↦ c.if-list_fits-2.false ∙ cache_fails _ c.cache_fits.ensures v.if-cache_fits.false
    ]
  ];
}
