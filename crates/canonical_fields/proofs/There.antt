-- Contents that are there.
use mathlib.Core.Path.{◌≡◌, refl, sym, ◌∙◌, ap}
use mathlib.Core.Bool.{false}
use mathlib.Core.List.{List}
use Prim.Native.Nat.{ℕ, ◌+◌, ◌-◌, ◌≤◌, ◌<◌}
use native.Mathlib.Omega.{arith}
use lib.ListN.{length, get_or}
use borrow.Author.Tests.{le-ltb, lt-leb}
use Rattle.octets.proofs.Numbers.{big_one}
use Rattle.row_fields.specs.declared.Content.TheVariants.{Whole}
use Rattle.row_fields.specs.Found.{byte_found, integer_found, kind_found, content_of}
use Rattle.row_fields.proofs.ByKind.{kind_1}

pub byte_there : (m : List ℕ) (at : ℕ) → at < length m → byte_found m at ≡ Whole false (get_or m at 0)
unfolding byte_found
byte_there m at h = let g : 1 ≤ length m - at = omega arith in simp (le-ltb (length m - at) 1 g) (ap (Whole false) (big_one m at h))

module _ (m places lengths : List ℕ) (kind at : ℕ) (h : at < length m) where
  pub there : content_of m places lengths kind at ≡ kind_found m places lengths at kind
  unfolding content_of
  there = simp (lt-leb (length m) at h)

  pub integer_there : (tag : ℕ) → kind ≡ 1 → get_or m at 0 ≡ tag → content_of m places lengths kind at ≡ integer_found m at tag
  integer_there tag k e = there ∙ sym (kind_1 m places lengths at kind k) ∙ ap (integer_found m at) e

  pub tag_97 : integer_found m at 97 ≡ byte_found m (at + 1)
  unfolding integer_found
  tag_97 = refl
