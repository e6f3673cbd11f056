-- The head of a common term in one word: what the code makes of it, and what is told of the term by a word that is not 0.
use mathlib.Core.Path.{◌≡◌, refl}
use Prim.Native.Nat.{ℕ, ◌+◌, ◌*◌, ◌≤◌, ◌<◌}
use native.Mathlib.Omega.{arith}
use borrow.Author.Tests.{lt-ltb, le-ltb, eq-eqb, ne_eqb}
use Rattle.term_head.specs.declared.Later.{Later}
use Rattle.term_head.specs.declared.Later.TheVariants.{Known, Pid, Port, Reference, OldReference}
use Rattle.term_spec.specs.declared.Refusal.{Refusal}
use Rattle.std.specs.Prelude.{Option, Some, None, Result, Ok, Err}
use Rattle.term_head.specs.declared.Head.{Head}
use Rattle.term_head.specs.declared.Head.TheVariants.{Parts, Characters, Elements, Pairs}
use Rattle.term_head.specs.Quick.{only_if, fit, quick_later, head_word, quick_word}

-- ---- `fit`

module _ (kind next count : ℕ) where
  pub fit_kind : 16 ≤ kind → None ≡ fit kind next count
  unfolding fit only_if
  fit_kind h = rw (le-ltb kind 16 h)

  pub fit_next : kind < 16 → 131072 ≤ next → None ≡ fit kind next count
  unfolding fit only_if
  fit_next k h = rw (lt-ltb kind 16 k, le-ltb next 131072 h)

  pub fit_count : kind < 16 → next < 131072 → 4294967296 ≤ count → None ≡ fit kind next count
  unfolding fit only_if
  fit_count k n h = rw (lt-ltb kind 16 k, lt-ltb next 131072 n, le-ltb count 4294967296 h)

  pub fit_all : kind < 16 → next < 131072 → count < 4294967296 → Some (kind + 16 * next + 2097152 * count) ≡ fit kind next count
  unfolding fit only_if
  fit_all k n c = rw (lt-ltb kind 16 k, lt-ltb next 131072 n, lt-ltb count 4294967296 c)

-- ---- `word_of_parts`

pub other_later : (later : Later) (w : Option ℕ) → (later ≡ Known → ⊥) → None ≡ quick_later later w
unfolding quick_later
other_later Known w h = absurd (h refl)
other_later (Pid a) w h = refl
other_later (Port a b) w h = refl
other_later (Reference a b) w h = refl
other_later OldReference w h = refl

-- ---- `word_of`

pub refused_word : (r : Result Head Refusal) → ((h : Head) → r ≡ Ok h → ⊥) → None ≡ quick_word r
unfolding quick_word
refused_word (Ok h) f = absurd (f h refl)
refused_word (Err x) f = refl

module _ (kind wanted count : ℕ) (later : Later) (next : ℕ) where
  pub parts_wanted : (wanted ≡ 0 → ⊥) → None ≡ head_word (Parts kind wanted count later next)
  unfolding head_word only_if
  parts_wanted h = rw (ne_eqb wanted 0 h)

  pub parts_word : wanted ≡ 0 → quick_later later (fit kind next count) ≡ head_word (Parts kind wanted count later next)
  unfolding head_word only_if
  parts_word h = rw (eq-eqb wanted 0 h)

module _ (count next : ℕ) where
  pub characters_some : (count ≡ 0 → ⊥) → None ≡ head_word (Characters count next)
  unfolding head_word only_if
  characters_some h = rw (ne_eqb count 0 h)

  pub characters_none : count ≡ 0 → fit 5 next 0 ≡ head_word (Characters count next)
  unfolding head_word only_if
  characters_none h = rw (eq-eqb count 0 h)

  pub elements_none : count ≡ 0 → None ≡ head_word (Elements count next)
  unfolding head_word only_if
  elements_none h = rw (le-ltb 0 count (omega arith))

  pub elements_some : (count ≡ 0 → ⊥) → fit 15 next count ≡ head_word (Elements count next)
  unfolding head_word only_if
  elements_some h = rw (lt-ltb 0 count (omega arith))

  pub pairs_none : count ≡ 0 → None ≡ head_word (Pairs count next)
  unfolding head_word only_if
  pairs_none h = rw (le-ltb 0 count (omega arith))

  pub pairs_some : (count ≡ 0 → ⊥) → fit 0 next count ≡ head_word (Pairs count next)
  unfolding head_word only_if
  pairs_some h = rw (lt-ltb 0 count (omega arith))
