-- The cases P of document 01 and the nested tuples, for any known flags, any empty atom list and any call of the writer, as a single statement: `cases`. The promise of
-- `write_standalone` is `WriteCall standalone` (`promised_write_standalone`, Demand).
use mathlib.Core.Path.{◌≡◌}
use mathlib.Core.Bool.{true}
use mathlib.Core.List.{List}
use Prim.Native.Nat.{ℕ}
use Rattle.term_spec.specs.Connection.{flags_known}
use Rattle.term_spec.specs.AtomList.{of_size, lent_list}
use Rattle.term_spec.specs.Cases.{Cases, CallWrites, CallRefuses}
use Rattle.term_spec.proofs.Cases as definitions

-- n = 0, and of its stated size: whatever its places and lengths hold
pub cases : (flags : ℕ) → flags_known flags ≡ true → (places lengths : List ℕ) → of_size (lent_list 0 places lengths) ≡ true
    → Cases (CallWrites flags (lent_list 0 places lengths)) (CallRefuses flags (lent_list 0 places lengths))
cases = definitions.called_cases
