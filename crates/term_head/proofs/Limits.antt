-- What the limits of identifiers are, by the test of the code.
use mathlib.Core.Path.{◌≡◌, refl}
use mathlib.Core.Bool.{true, false, ◌&&◌}
use Prim.Native.Nat.{ℕ, ◌^◌}
use lib.Dec.{eqb}
use Rattle.term_spec.specs.Connection.{v4_nc}
use Rattle.term_spec.specs.Head.{limits}

module _ (flags w : ℕ) where
  pub newer : (v4_nc flags && eqb w 4) ≡ true → limits flags w ≡ record { id = 2 ^ 32; serial = 2 ^ 32; word_count = 5 }
  unfolding limits
  newer e = rw e refl

  pub older : (v4_nc flags && eqb w 4) ≡ false → limits flags w ≡ record { id = 2 ^ 15; serial = 2 ^ 13; word_count = 3 }
  unfolding limits
  older e = rw e refl
