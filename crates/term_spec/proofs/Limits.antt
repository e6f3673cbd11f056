-- The limits of identifiers under the connection's flags: what their fields' widths hold, and none wider than those of tags 88 and 90; V4_NC only widens them.
use mathlib.Core.Path.{◌≡◌, refl}
use mathlib.Core.Bool.{Bool, true, false, ◌&&◌, cond}
use Prim.Native.Nat.{ℕ, ◌^◌, ◌≤◌}
use native.Mathlib.Omega.{arith}
use lib.Dec.{eqb}
use Rattle.term_spec.specs.Connection.{v4_nc}
use Rattle.term_spec.specs.Head.{Limits, limits}
use Rattle.term_spec.proofs.Tests.{never}

pub record Within (few many : Limits) : Type 0 where
  pub ids : few.id ≤ many.id
  pub serials : few.serial ≤ many.serial
  pub counts : few.word_count ≤ many.word_count

abbrev narrow : Limits
narrow = record { id = 2 ^ 15; serial = 2 ^ 13; word_count = 3 }

abbrev wide : Limits
wide = record { id = 2 ^ 32; serial = 2 ^ 32; word_count = 5 }

-- of the two, wide is the most and narrow the least
most : (b : Bool) → Within (cond b wide narrow) wide
most true = record { ids = omega arith; serials = omega arith; counts = omega arith }
most false = record { ids = omega arith; serials = omega arith; counts = omega arith }

least : (b : Bool) → Within narrow (cond b wide narrow)
least true = record { ids = omega arith; serials = omega arith; counts = omega arith }
least false = record { ids = omega arith; serials = omega arith; counts = omega arith }

-- a test that may only turn true
wider : (a b c : Bool) → (a ≡ true → b ≡ true) → Within (cond (a && c) wide narrow) (cond (b && c) wide narrow)
wider true true true f = most true
wider true true false f = least false
wider true false c f = never (f refl)
wider false b c f = least (b && c)

module _ (flags : ℕ) where
  -- four bytes of ID and Serial, and 5 words, are enough; and there is always room for a word
  pub limits_most : (w : ℕ) → Within (limits flags w) wide
  unfolding limits
  limits_most w = most (v4_nc flags && eqb w 4)

  pub limits_least : (w : ℕ) → Within narrow (limits flags w)
  unfolding limits
  limits_least w = least (v4_nc flags && eqb w 4)

  -- a Creation of four bytes has the widest
  pub limits_widest : (w : ℕ) → Within (limits flags w) (limits flags 4)
  unfolding limits
  limits_widest w = go (v4_nc flags) (eqb w 4)
    where
      go : (a b : Bool) → Within (cond (a && b) wide narrow) (cond (a && true) wide narrow)
      go true b = most b
      go false b = least false

  -- V4_NC only widens them
  pub limits_wider : (more : ℕ) → (v4_nc flags ≡ true → v4_nc more ≡ true) → (w : ℕ) → Within (limits flags w) (limits more w)
  unfolding limits
  limits_wider more f w = wider (v4_nc flags) (v4_nc more) (eqb w 4) f
