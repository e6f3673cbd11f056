-- What a walk has at exit of a parameter that it gave up to a callee: what the callee says of its last value.
use Prim.Native.Nat.{ℕ}
use seplogic.Ra.Ura.{Ura}
use types.Logic.{Logic, sem}
use denote.Exit.{Kept, left}
use denote.Signature.{Slot}
use denote.Triple.Walked.{Stay, Goes}

abbrev pub given : {n : ℕ} (s : Slot n) (k : Kept) → Stay s k
given s k = record { fit = λ κs x f. Unit {0}; has = λ κs x f vs. left ((s.row κs).exit k) x f }

pub goes_given : {M : Type 1} {𝓤 : Ura M} (𝓛 : Logic 𝓤) (n : ℕ) (s : Slot n) (k : Kept) → Goes 𝓛 n s k (given s k)
goes_given 𝓛 n s k κs x f vs ok = 𝓛.laws.⇛_intro (sem 𝓛 (left ((s.row κs).exit k) x f))
