-- The head of a common term in one word, which is handed about faster than a head: its kind, the offset past it, the number of its parts.
-- About the code alone, proved against the definitions of term_spec: nothing here has to be believed.
use Rattle.std.specs.Prelude.{◌≡◌, Bool, true, false, [], ℕ, ◌+◌, ◌*◌, ◌<◌, Option, Some, None, Result, Ok, Err, eqb, ltb}
use Rattle.term_spec.specs.Term.{Label}
use Rattle.term_spec.specs.Head.{known, parts, characters, elements, pairs}
use Rattle.term_spec.specs.Head as head_spec
use Rattle.term_spec.specs.Rows.{kind_of}
use Rattle.term_spec.specs.declared.Refusal.{Refusal}
use Rattle.term_head.specs.declared.Later.{Later}
use Rattle.term_head.specs.declared.Later.TheVariants.{Known, Pid, Port, Reference, OldReference}
use Rattle.term_head.specs.declared.Head.{Head}
use Rattle.term_head.specs.declared.Head.TheVariants.{Parts, Characters, Elements, Pairs}

unfoldable pub only_if : Bool → Option ℕ → Option ℕ
only_if true w = w
only_if false w = None

-- None where they do not fit
unfoldable pub fit : ℕ → ℕ → ℕ → Option ℕ
fit kind next count = only_if (ltb kind 16) (only_if (ltb next 131072) (only_if (ltb count 4294967296) (Some (kind + 16 * next + 2097152 * count))))

unfoldable pub quick_later : Later → Option ℕ → Option ℕ
quick_later Known w = w
quick_later (Pid a) w = None
quick_later (Port a b) w = None
quick_later (Reference a b) w = None
quick_later OldReference w = None

-- Of a head with no wanted parts and no later fields. In the kind's place some elements have 15, some pairs 0, which are no kinds of a row. Where there are none, and
-- for characters, there is no word
unfoldable pub head_word : Head → Option ℕ
head_word (Parts kind wanted count later next) = only_if (eqb wanted 0) (quick_later later (fit kind next count))
head_word (Characters count next) = only_if (eqb count 0) (fit 5 next 0)
head_word (Elements count next) = only_if (ltb 0 count) (fit 15 next count)
head_word (Pairs count next) = only_if (ltb 0 count) (fit 0 next count)

-- where a head is refused, there is no word
unfoldable pub quick_word : Result Head Refusal → Option ℕ
quick_word (Ok h) = head_word h
quick_word (Err x) = None

-- The heads that have a word, each with what stands in the kind's place and with the number of parts
pub data Common : head_spec.Head → ℕ → ℕ → Type 0 where
  some_parts : (l : Label) (n : ℕ) → Common (parts [] n (known l)) (kind_of l) n
  no_characters : Common (characters []) 5 0
  some_elements : (n : ℕ) → (n ≡ 0 → ⊥) → Common (elements n) 15 n
  some_pairs : (n : ℕ) → (n ≡ 0 → ⊥) → Common (pairs n) 0 n

-- what a word holds: kind, offset past the head and number of parts, each within its bits
pub record HoldsWord (w kind next count : ℕ) : Type 0 where
  pub few_kinds : kind < 16
  pub near : next < 131072
  pub few : count < 4294967296
  pub word_is : w ≡ kind + 16 * next + 2097152 * count

-- w is the word of the head h that ends at `next`
pub record Told (w : ℕ) (h : head_spec.Head) (next : ℕ) : Type 0 where
  pub kind : ℕ
  pub count : ℕ
  pub common : Common h kind count
  pub holds : HoldsWord w kind next count
