-- Two valid terms have the same bytes only where they are the same, their pairs as they stand; and neither's bytes begin the other's.
use mathlib.Core.Path.{◌≡◌, sym, ◌∙◌, ap}
use mathlib.Core.List.{List, [], ◌++◌, append-nil}
use Prim.Native.Nat.{ℕ, ◌+◌}
use native.Mathlib.Omega.{arith}
use Rattle.term_spec.specs.Tree.{size, depth}
use Rattle.term_spec.specs.Text.{invalid_at}
use Rattle.term_spec.specs.Term.{Term}
use Rattle.term_spec.specs.Answer.{Answer, good, Position}
use Rattle.term_spec.specs.Head.{Given, any}
use Rattle.term_spec.specs.Reading.{Located, as_read, term}
use Rattle.term_spec.specs.Canonical.{bytes_of}
use Rattle.term_spec.specs.Valid.{Valid}
use Rattle.term_spec.proofs.Steps.{spot}
use Rattle.term_spec.proofs.Parts.{Reads}
use Rattle.term_spec.proofs.RoundTrip.{read_tree}

-- what a good answer holds
pub good_is : {A : Type 0} {a b : A} → ◌≡◌ {A = Answer A} (good a) (good b) → a ≡ b
good_is e = cc

pub bytes_prefix : (flags : ℕ) (t u : Term) → Valid flags t → Valid flags u → (x y : List ℕ) → bytes_of t ++ x ≡ bytes_of u ++ y → (t ≡ u) × (x ≡ y)
bytes_prefix flags t u v w x y e =
    let none_known : Given = record { flags = flags; n = 0; text = λ i. invalid_at 0 } in
    let cap : ℕ = size t + size u in
    let d : ℕ = depth t + depth u in
    let a : Reads none_known cap d any (bytes_of t ++ x) x 0 0 t = read_tree none_known cap t v d (omega arith) 0 0 x (omega arith) in
    let b : Reads none_known cap d any (bytes_of u ++ y) y 0 0 u = read_tree none_known cap u w d (omega arith) 0 0 y (omega arith) in
    let same : ◌≡◌ {A = Located × Position} (a.tree, spot a.end x (0 + size t)) (b.tree, spot b.end y (0 + size u))
    = good_is (sym a.reads ∙ ap (λ (left : List ℕ). term none_known cap d any (spot 0 left 0)) e ∙ b.reads) in
    (sym a.means ∙ ap (λ (p : Located × Position). as_read p.0) same ∙ b.means, ap (λ (p : Located × Position). p.1.left) same)

pub bytes_injective : (flags : ℕ) (t u : Term) → Valid flags t → Valid flags u → bytes_of t ≡ bytes_of u → t ≡ u
bytes_injective flags t u v w e =
    (bytes_prefix flags t u v w [] [] (append-nil (bytes_of t) ∙ e ∙ sym (append-nil (bytes_of u)))).0
