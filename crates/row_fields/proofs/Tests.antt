-- The ways through a definition that follows the code's tests: one law for each test and its outcome.
use mathlib.Core.Path.{◌≡◌, refl, sym, ◌∙◌, ap, ap₂}
use mathlib.Core.Bool.{Bool, true, false, cond}
use Prim.Native.Nat.{ℕ, ◌+◌, ◌-◌, ◌≤◌, ◌<◌}
use native.Mathlib.Omega.{arith}
use lib.Dec.{eqb, leb, ltb}
use borrow.Author.Tests.{lt-ltb, le-ltb, lt-leb, le-leb, eq-eqb}

module _ {A : Type 0} {t u : Bool} where
  pub yes_way : {z a : A} (b : A) → t ≡ u → t ≡ true → z ≡ a → z ≡ cond u a b
  yes_way {z} {a} b p e f = f ∙ ap (λ (x : Bool). cond x a b) (sym e ∙ p)

  pub no_way : {z b : A} (a : A) → t ≡ u → t ≡ false → z ≡ b → z ≡ cond u a b
  no_way {z} {b} a p e f = f ∙ ap (λ (x : Bool). cond x a b) (sym e ∙ p)

module _ {A : Type 0} {x y k n : ℕ} where
  pub below : {z a : A} (b : A) → x ≡ y → k ≡ n → x < k → z ≡ a → z ≡ cond (ltb y n) a b
  below b p q h f = yes_way b (ap₂ ltb p q) (lt-ltb x k h) f

  pub not_below : {z b : A} (a : A) → x ≡ y → k ≡ n → k ≤ x → z ≡ b → z ≡ cond (ltb y n) a b
  not_below a p q h f = no_way a (ap₂ ltb p q) (le-ltb x k h) f

  pub at_most : {z a : A} (b : A) → x ≡ y → k ≡ n → x ≤ k → z ≡ a → z ≡ cond (leb y n) a b
  at_most b p q h f = yes_way b (ap₂ leb p q) (le-leb x k h) f

  pub above : {z b : A} (a : A) → x ≡ y → k ≡ n → k < x → z ≡ b → z ≡ cond (leb y n) a b
  above a p q h f = no_way a (ap₂ leb p q) (lt-leb x k h) f

  pub equal : {z a : A} (b : A) → x ≡ y → k ≡ n → x ≡ k → z ≡ a → z ≡ cond (eqb y n) a b
  equal b p q h f = yes_way b (ap₂ eqb p q) (eq-eqb x k h) f

-- k are left after `at`
pub enough : {A : Type 0} {z b : A} (a : A) (l at k n : ℕ) → k ≡ n → at + k ≤ l → z ≡ b → z ≡ cond (ltb (l - at) n) a b
enough a l at k n q h f = let g : k ≤ l - at = omega arith in not_below a refl q g f
