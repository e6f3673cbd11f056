-- What the code says of a term's tag and fields, from what the definitions say.
-- About the code alone, proved against the definitions of term_spec: nothing here has to be believed.
use Rattle.std.specs.Prelude.{◌≡◌, Bool, true, false, ◌&&◌, List, [], ◌∷◌, ℕ, ◌+◌, ◌-◌, ◌≤◌, Option, Some, None, Result, Ok, Err, eqb, leb, length, get_or, take, drop}
use Rattle.term_spec.specs.Answer.{Answer, good, refused, Position, at_offset, after}
use Rattle.term_spec.specs.Term.{Label}
use Rattle.term_spec.specs.Head.{any, an_atom, an_arity, parts, characters, elements, pairs, known, pid_fields, port_fields, reference_fields, old_reference_fields}
use Rattle.term_spec.specs.Head as head_spec
use Rattle.term_spec.specs.Head.{bits_rule, bits_meaning, fields, later, form_or, form_in, forms, one_of, term_head}
use Rattle.term_spec.specs.Numbers.{big_endian}
use Rattle.term_spec.specs.Reading.{opening}
use Rattle.term_spec.specs.Rows.{kind_of}
use Rattle.term_spec.specs.declared.Refusal.{Refusal}
use Rattle.term_head.specs.declared.Wanted.{Wanted}
use Rattle.term_head.specs.declared.Wanted.TheVariants.{Any, Atom, Arity}
use Rattle.term_head.specs.declared.Later.{Later}
use Rattle.term_head.specs.declared.Later.TheVariants.{Known, Pid, Port, Reference, OldReference}
use Rattle.term_head.specs.declared.Head.{Head}
use Rattle.term_head.specs.declared.Head.TheVariants.{Parts, Characters, Elements, Pairs}
use Rattle.term_head.specs.declared.Opening.{Opening}

unfoldable pub wanted_of : Wanted → head_spec.Wanted
wanted_of Any = any
wanted_of Atom = an_atom
wanted_of Arity = an_arity

-- the kind of the term, which its later fields do not change
unfoldable pub kind_later : head_spec.Later → ℕ
kind_later (known l) = kind_of l
kind_later (pid_fields w) = 10
kind_later (port_fields v w) = 11
kind_later (reference_fields k w) = 12
kind_later old_reference_fields = 12

unfoldable pub later_of : head_spec.Later → Later
later_of (known l) = Known
later_of (pid_fields w) = Pid w
later_of (port_fields v w) = Port v w
later_of (reference_fields k w) = Reference k w
later_of old_reference_fields = OldReference

-- a head, and the offset past it
unfoldable pub head_at : head_spec.Head → ℕ → Head
head_at (parts ws n l) next = Parts (kind_later l) (length ws) n (later_of l) next
head_at (characters cs) next = Characters (length cs) next
head_at (elements n) next = Elements n next
head_at (pairs n) next = Pairs n next

abbrev pub refusal : {A : Type 0} → ℕ → ℕ → Result A Refusal
refusal number place = Err (record { number = number; place = place })

unfoldable pub head_of : Answer (head_spec.Head × Position) → Result Head Refusal
head_of (refused n p) = refusal n p
head_of (good x) = Ok (head_at x.0 x.1.at)

-- the fields after the tag at `at` of a message
unfoldable pub fields_of : head_spec.Given → List ℕ → ℕ → head_spec.Form → ℕ → Result Head Refusal
fields_of given m at f rows = head_of (fields given at f (at_offset m (at + 1) rows))

-- the kind of n bytes with `bits` bits in the last one; None where the rule is broken
pub record Bits (n bits : ℕ) (kind : Option ℕ) : Type 0 where
  pub broken : kind ≡ None → bits_rule n bits ≡ false
  pub kept : (k : ℕ) → kind ≡ Some k → bits_rule n bits ≡ true
  pub kind_is : (k : ℕ) → kind ≡ Some k → (bs : List ℕ) → kind_of (bits_meaning bits bs) ≡ k

unfoldable pub opening_of : Answer ((ℕ × head_spec.Head) × Position) → Result Opening Refusal
opening_of (refused n p) = refusal n p
opening_of (good x) = Ok (record { place = x.0.0; head = head_at x.0.1 x.1.at })

-- later fields: where they end
unfoldable pub end_of : Answer (Label × Position) → Result ℕ Refusal
end_of (refused n p) = refusal n p
end_of (good x) = Ok x.1.at

-- the later fields, with these flags, from `at` on, of the term at `place`
unfoldable pub later_fields : ℕ → List ℕ → ℕ → ℕ → head_spec.Later → ℕ → Result ℕ Refusal
later_fields flags m at place l rows = end_of (later flags place l (at_offset m at rows))

-- the fields that a tag has; refusal 3: a tag not in the table
unfoldable pub tag_fields : head_spec.Given → List ℕ → ℕ → ℕ → ℕ → Result Head Refusal
tag_fields given m at tag rows = head_of (after (form_or 3 at (form_in forms tag) (at_offset m (at + 1) rows)) (fields given at))

-- whether a term with this tag may stand where one is so wanted
unfoldable pub allowed : Wanted → ℕ → Bool
allowed Any tag = true
allowed Atom tag = one_of tag (82 ∷ 100 ∷ 115 ∷ 118 ∷ 119 ∷ [])
allowed Arity tag = one_of tag (97 ∷ [])

-- whether a 108 of length 0 stands at an offset
unfoldable pub empty_at : List ℕ → ℕ → Bool
empty_at m at = leb 5 (length m - at) && eqb (get_or m at 0) 108 && eqb (big_endian (take 4 (drop (at + 1) m))) 0

-- the number of elements of the 108 that stands at an offset; None where none stands
pub record ElementsAt (m : List ℕ) (at : ℕ) (number : Option ℕ) : Type 0 where
  pub inside : (n : ℕ) → number ≡ Some n → at + 5 ≤ length m
  pub some : (n : ℕ) → number ≡ Some n → (given : head_spec.Given) (rows : ℕ) → term_head given any (at_offset m at rows) ≡ good (elements n, at_offset m (at + 5) rows)
  pub none : number ≡ None → (given : head_spec.Given) (rows k : ℕ) (t : Position) → term_head given any (at_offset m at rows) ≡ good (elements k, t) → ⊥

-- the bytes left bound the 108s of length 0 as long as they are as many as those of the message
pub record Skipped (m : List ℕ) (at place : ℕ) : Type 0 where
  pub from : at ≤ place
  pub inside : place ≤ length m
  pub stops : empty_at m place ≡ false
  pub opens : (given : head_spec.Given) (rows : ℕ) (bound : List ℕ) → length m - at ≤ length bound
      → (rest : List ℕ) × (length m - place ≤ length rest) × (opening given bound any (at_offset m at rows) ≡ opening given rest any (at_offset m place rows))
