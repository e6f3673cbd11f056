-- Whether a place of an atom list holds a text, from the tests that the code makes.
use mathlib.Core.Path.{◌≡◌}
use mathlib.Core.Bool.{Bool, false}
use mathlib.Core.List.{List}
use Prim.Native.Nat.{ℕ, ◌+◌, ◌-◌, ◌*◌, ◌<◌, ◌≤◌}
use native.Mathlib.Omega.{arith}
use lib.ListN.{get_or, take, drop}
use borrow.Author.Tests.{le-leb, lt-leb}
use Rattle.term_spec.specs.Text.{utf_8, check}
use Rattle.term_spec.specs.AtomList.{place_length, place_bytes, place_text, lent_list}
use Rattle.text.specs.Shown.{is_valid}

module _ (places lengths : List ℕ) (i : ℕ) where
  pub text_long : 32 < get_or lengths i 0 → (n : ℕ) → false ≡ is_valid (place_text (lent_list n places lengths) i)
  unfolding place_text place_length is_valid
  text_long h n = rw (lt-leb (get_or lengths i 0) 32 h, place_text)

  pub text_short : get_or lengths i 0 ≤ 32 → (r : Bool) → r ≡ is_valid (check utf_8 (take (32 * i + get_or lengths i 0 - 32 * i) (drop (32 * i) places)))
      → (n : ℕ) → r ≡ is_valid (place_text (lent_list n places lengths) i)
  unfolding place_text place_length place_bytes
  text_short h r e n =
      let same : 32 * i + get_or lengths i 0 - 32 * i ≡ get_or lengths i 0 = omega arith in
      rw (le-leb (get_or lengths i 0) 32 h, place_text) (rw same at e)
