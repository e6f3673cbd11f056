-- Whether a text was found, in the coding asked for.
use mathlib.Core.Path.{◌≡◌, refl, sym, ap}
use mathlib.Core.Bool.{Bool, true, false}
use mathlib.Core.List.{List}
use Prim.Native.Nat.{ℕ, ◌<◌}
use native.Mathlib.Omega.{arith}
use lib.ListN.{length}
use Rattle.std.specs.Prelude.{⊤}
use Rattle.std.proofs.Common.{Result, Ok, Err, IfErr, is_ok}
use Rattle.term_spec.specs.Text.{Checked, valid, invalid_at, Coding, latin_1, utf_8, coding_of, check}
use Rattle.term_spec.proofs.BadByte as bytes
use Rattle.text.specs.Shown.{shown, is_valid}

-- a text's characters, or the offset at which it fails, by what the code answers
pub is_text : (o : Checked) → Ok tt ≡ shown o → (cs : List ℕ) × (o ≡ valid cs)
unfolding shown
is_text (valid cs) e = (cs, refl)
is_text (invalid_at k) e = let no_way : ◌≡◌ {A = ℕ} 0 1 = cc in absurd (omega arith)

pub is_bad : (o : Checked) (k : ℕ) → Err k ≡ shown o → o ≡ invalid_at k
unfolding shown
is_bad (valid cs) k e = let no_way : ◌≡◌ {A = ℕ} 0 1 = cc in absurd (omega arith)
is_bad (invalid_at j) k e = let same : k ≡ j = cc in ap invalid_at (sym same)

pub bad_inside : (c : Coding) (bs : List ℕ) (k : ℕ) → Err k ≡ shown (check c bs) → k < length bs
bad_inside c bs k e = bytes.bad_inside c bs k (is_bad (check c bs) k e)

-- an offset at which it fails is inside
pub fails_inside : (c : Coding) (bs : List ℕ) (r : Result ⊤ ℕ) → r ≡ shown (check c bs) → IfErr r (λ k. k < length bs)
fails_inside c bs (Ok x) e = tt
fails_inside c bs (Err k) e = bad_inside c bs k e

pub shown_tested : (o : Checked) → is_ok (shown o) ≡ is_valid o
unfolding shown is_valid
shown_tested (valid cs) = refl
shown_tested (invalid_at k) = refl

pub coding_utf8 : (utf8 : Bool) → utf8 ≡ true → coding_of utf8 ≡ utf_8
unfolding coding_of
coding_utf8 utf8 e = rw (e, coding_of)

pub coding_latin1 : (utf8 : Bool) → utf8 ≡ false → coding_of utf8 ≡ latin_1
unfolding coding_of
coding_latin1 utf8 e = rw (e, coding_of)

-- and by whether it is one
pub found : (o : Checked) → is_valid o ≡ true → (cs : List ℕ) × (o ≡ valid cs)
unfolding is_valid
found (valid cs) e = (cs, refl)
found (invalid_at k) e = let no_way : ◌≡◌ {A = ℕ} 0 1 = cc in absurd (omega arith)

pub failed : (o : Checked) → is_valid o ≡ false → (k : ℕ) × (o ≡ invalid_at k)
unfolding is_valid
failed (valid cs) e = let no_way : ◌≡◌ {A = ℕ} 0 1 = cc in absurd (omega arith)
failed (invalid_at k) e = (k, refl)
