-- Reading a term: its parts are read by the same rules as the whole.
use Rattle.std.specs.Prelude.{Bool, true, false, not, List, [], ◌∷◌, ℕ, zero, suc, ◌+◌, ltb, pos}
use Rattle.term_spec.specs.Tree.{Tree, Forest, node, empty, ◌▹◌, ◌▹▹◌, relabel}
use Rattle.term_spec.specs.Term.{Label, Term, integer, list, improper_list, map}
use Rattle.term_spec.specs.Meaning.{ordered}
use Rattle.term_spec.specs.Equal.{among}
use Rattle.term_spec.specs.Answer.{good, refused, Reading, ◌>>=◌, ◌>>◌, done, refuse, here, rule}
use Rattle.term_spec.specs.Head.{Given, Wanted, any, Head, parts, characters, elements, pairs, term_head, later}

-- Where a term of the message stands: its tag's offset; of a character of a 107, its byte's
pub data Offset : Type 0 where
  tag_at character_at : ℕ → Offset

-- a term as it was read
abbrev pub Located : Type 0
Located = Tree (Label × Offset)

-- the term alone, its maps' pairs in the order in which they came
abbrev pub as_read : Located → Term
as_read = relabel (λ l. l.0)

-- what it means
abbrev pub meaning : Located → Term
meaning t = ordered (as_read t)

-- the bytes left
abbrev pub bytes_left : Reading (List ℕ)
bytes_left s = good (s.left, s)

-- a 108 of length 0
abbrev pub empty_108 : Head → Bool
empty_108 (parts ws n l) = false
empty_108 (characters cs) = false
empty_108 (elements zero) = true
empty_108 (elements (suc n)) = false
empty_108 (pairs n) = false

-- A term's tag and fields, with the tag's offset. A 108 of length 0 means the tail itself, so what stands in its place is taken.
-- Each such takes a byte or more, so the bytes left bound their number.
unfoldable pub opening : Given → List ℕ → Wanted → Reading (ℕ × Head)
opening given [] wanted = do
  p ← here
  refuse 2 p
opening given (b ∷ bound) wanted = do
  p ← here
  h ← term_head given wanted
  elim (empty_108 h) [ true ↦ opening given bound any | false ↦ done (p, h) ]

-- a term: its tag and fields, and then what `inner` reads of the term at p with the head h
unfoldable pub one_term : Given → (ℕ → Head → Reading Located) → Wanted → Reading Located
one_term given inner wanted = do
  bound ← bytes_left
  o ← opening given bound wanted
  inner o.0 o.1

module _ (part : Wanted → Reading Located) where
  -- parts that are wanted so, in turn
  unfoldable pub each : List Wanted → Reading (Forest (Label × Offset))
  each [] = done empty
  each (w ∷ ws) = do
    t ← part w
    ts ← each ws
    done (t ▹ ts)

  -- n parts of any kind
  unfoldable pub run : ℕ → Reading (Forest (Label × Offset))
  run zero = done empty
  run (suc n) = do
    t ← part any
    ts ← run n
    done (t ▹ ts)

  -- n keys with their values. Refusal 7: key equal to an earlier key, judged before the value is read
  unfoldable pub entries : List Term → ℕ → Reading (Forest (Label × Offset))
  entries earlier zero = done empty
  entries earlier (suc n) = do
    p ← here
    k ← part any
    rule (not (among (meaning k) earlier)) 7 p
    v ← part any
    more ← entries (meaning k ∷ earlier) n
    done (k ▹ v ▹ more)

module _ (given : Given) (capacity : ℕ) where
  -- a row is taken. Refusal 9: no row left
  unfoldable pub row : ℕ → Reading Unit
  row p s =
      elim (ltb s.rows_taken capacity) [
        | true ↦ good (tt, record { at = s.at; left = s.left; rows_taken = s.rows_taken + 1 })
        | false ↦ refused 9 p
      ]

  -- the characters of the 107 at p, the first one's byte at `at`, with `deep` levels left for them: 8 and 9 are judged at that 107's tag
  unfoldable pub string : ℕ → ℕ → ℕ → List ℕ → Reading (Forest (Label × Offset))
  string deep p at [] = done empty
  string zero p at (c ∷ cs) = refuse 8 p
  string (suc deep) p at (c ∷ cs) = do
    row p
    ts ← string (suc deep) p (at + 1) cs
    done (node (integer (pos c), character_at at) empty ▹ ts)

  -- With `deep` levels left for the parts, of which `inner` reads what comes after their heads:
  module _ (deep : ℕ) (inner : ℕ → Head → Reading Located) where
    -- What follows the elements of a 108: a tail that is a list is joined on, any other is the last part of an improper list.
    -- Each joined tail takes a byte or more, so the bytes left bound their number.
    unfoldable pub list_tail : List ℕ → Reading (Forest (Label × Offset) × Label)
    list_tail [] = do
      p ← here
      refuse 2 p
    list_tail (b ∷ bound) = do
      left ← bytes_left
      o ← opening given left any
      elim o.1 [
        | characters cs ↦ do
          ts ← string deep o.0 (o.0 + 3) cs
          done (ts, list)
        | elements n ↦ do
          ts ← run (one_term given inner) n
          end ← list_tail bound
          done (ts ▹▹ end.0, end.1)
        | parts ws n l ↦ do
          t ← inner o.0 (parts ws n l)
          done (t ▹ empty, improper_list)
        | pairs n ↦ do
          t ← inner o.0 (pairs n)
          done (t ▹ empty, improper_list)
      ]

    -- the parts and the later fields of the term at p
    unfoldable pub contents : ℕ → Head → Reading Located
    contents p (parts ws n l) = do
      ts ← each (one_term given inner) ws
      us ← run (one_term given inner) n
      label ← later given.flags p l
      done (node (label, tag_at p) (ts ▹▹ us))
    contents p (characters cs) = do
      ts ← string deep p (p + 3) cs
      done (node (list, tag_at p) ts)
    contents p (elements n) = do
      ts ← run (one_term given inner) n
      bound ← bytes_left
      end ← list_tail bound
      done (node (end.1, tag_at p) (ts ▹▹ end.0))
    contents p (pairs n) = do
      ts ← entries (one_term given inner) [] n
      done (node (map, tag_at p) ts)

  -- The term at p, whose tag and fields are read, with `deep` levels left for it: 8, then 9, then parts, then later fields
  unfoldable pub body : ℕ → ℕ → Head → Reading Located
  body zero p h = refuse 8 p
  body (suc deep) p h = do
    row p
    contents deep (body deep) p h

  -- a term, with `deep` levels left for it
  abbrev pub term : ℕ → Wanted → Reading Located
  term deep = one_term given (body deep)
