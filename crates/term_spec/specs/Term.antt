-- Terms: trees whose nodes are labelled with the terms' own fields. Meaning says what a term means.
use Rattle.std.specs.Prelude.{List, ℕ, ℤ}
use Rattle.term_spec.specs.Tree.{Tree}

pub data Label : Type 0 where
  -- tags 97, 98, 110, 111
  integer : ℤ → Label
  -- tag 70: the 64 bits, so the two zeros differ, and 1.0 is not 1
  float : ℕ → Label
  -- tags 82, 100, 115, 118, 119: the characters, whichever tag
  atom : List ℕ → Label
  -- tags 104, 105: parts are the elements
  tuple : Label
  -- tags 106, 107, 108: parts are the elements
  list : Label
  -- tag 108 whose last tail is no list: parts are the elements, then that tail
  improper_list : Label
  -- tag 109
  binary : List ℕ → Label
  -- tag 77: how many bits of the last byte count, 1 to 7; the bytes, the last one's lower bits zero
  bitstring : ℕ → List ℕ → Label
  -- tag 116: parts are the first key, its value, the second key, ..; the order of pairs carries no meaning
  map : Label
  -- tags 88, 103: ID, Serial, Creation; the part is the node
  pid : ℕ → ℕ → ℕ → Label
  -- tags 89, 102, 120: ID, Creation; the part is the node
  port : ℕ → ℕ → Label
  -- tags 90, 101, 114: Creation, words; the part is the node
  reference : ℕ → List ℕ → Label
  -- tag 113: parts are module, function, arity
  export : Label

abbrev pub Term : Type 0
Term = Tree Label
