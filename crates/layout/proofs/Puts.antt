-- Bytes stored one run after the other.
use mathlib.Core.Path.{◌≡◌, refl, sym, ◌∙◌, ap}
use mathlib.Core.List.{List, [], ◌++◌}
use Prim.Native.Nat.{ℕ, ◌+◌, ◌-◌, ◌≤◌}
use native.Mathlib.Omega.{arith}
use lib.ListN.{length, length-append}
use borrow.Rule.Slice.PartMut.{put_mid}
use lib.Seq.{sets, length-sets}
use Rattle.octets.proofs.Stores.{sets_at, mid_sets}
use Rattle.layout.specs.Layout.{Put}

module _ {O P Q : List ℕ} {at next end : ℕ} where
  pub put_then : {xs ys : List ℕ} → Put O at xs next P → Put P next ys end Q → Put O at (xs ++ ys) end Q
  put_then {xs} {ys} p q =
      let n = length-append xs ys in
      record {
        past = omega arith;
        stored = q.stored ∙ ap (λ (l : List ℕ). sets l next ys) p.stored ∙ sets_at O at xs ys next (sym p.past);
      }

-- bytes in the place of a part
pub put_part : {O xs : List ℕ} {bs : List ℕ} (at k : ℕ) → xs ≡ bs → k ≡ length bs → at + k ≤ length O → Put O at bs (at + k) (put_mid at (at + k - at) O xs)
put_part {O} {xs} {bs} at k e l h =
    record { past = omega arith; stored = ap (λ (x : List ℕ). put_mid at (at + k - at) O x) e ∙ mid_sets O bs at (at + k - at) (omega arith) (omega arith) }

-- nothing stored
pub put_none : (O : List ℕ) (at : ℕ) → Put O at [] at O
put_none O at = record { past = omega arith; stored = refl }

-- other bytes that are the same
pub put_same : {O P bs cs : List ℕ} {at next : ℕ} → bs ≡ cs → Put O at bs next P → Put O at cs next P
put_same {O} {P} {bs} {cs} {at} {next} e p = rw (← e) p

-- stores keep the length
pub put_length : {O P bs : List ℕ} {at next : ℕ} → Put O at bs next P → length P ≡ length O
put_length {O} {P} {bs} {at} p = ap length p.stored ∙ length-sets O at bs

-- room for one run, and then for the next
pub room_first : (O : List ℕ) (at : ℕ) (xs ys : List ℕ) → at + length (xs ++ ys) ≤ length O → at + length xs ≤ length O
room_first O at xs ys h = let n = length-append xs ys in omega arith

pub room_next : {O P : List ℕ} {at next : ℕ} (xs ys : List ℕ) → at + length (xs ++ ys) ≤ length O → Put O at xs next P → next + length ys ≤ length P
room_next {O} {P} xs ys h p = let n = length-append xs ys in let k : length P ≡ length O = put_length p in omega arith
