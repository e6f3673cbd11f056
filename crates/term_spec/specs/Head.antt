-- A term's tag, and its fields before the first part.
use Rattle.std.specs.Prelude.{Bool, true, false, not, ◌&&◌, ◌||◌, cond, List, [], ◌∷◌, ℕ, zero, suc, ◌+◌, ◌-◌, ◌/◌, ◌%◌, ◌^◌, eqb, leb, ltb, pos}
use Rattle.std.proofs.Math.Option.{Option, none, some}
use Rattle.term_spec.specs.Numbers.{little_endian, signed32, with_sign}
use Rattle.term_spec.specs.Text.{Checked, valid, invalid_at, Coding, latin_1, utf_8, check}
use Rattle.term_spec.specs.Term.{Label, integer, float, atom, tuple, binary, bitstring, pid, port, reference, export}
use Rattle.term_spec.specs.Connection.{v4_nc}
use Rattle.term_spec.specs.Answer.{Reading, ◌>>=◌, ◌>>◌, done, refuse, here, rule, byte, bytes, number}

-- The layouts of the tag table, under source document 002's names. A number after the name is a width in bytes: of the
-- value's length or count, and for identifiers of their fields (port: ID and Creation; pid, reference: Creation). Layouts that differ only in
-- a width, or in the coding of a text, are one.
pub data Form : Type 0 where
  small_integer_ext integer_ext new_float_ext atom_cache_ref nil_ext string_ext list_ext : Form
  binary_ext bit_binary_ext map_ext reference_ext export_ext : Form
  big_ext tuple_ext pid_ext new_reference_ext : ℕ → Form
  atom_ext : Coding → ℕ → Form
  port_ext : ℕ → ℕ → Form

-- Terms, the tag table
unfoldable pub forms : List (ℕ × Form)
forms =
    (97, small_integer_ext)
    ∷ (98, integer_ext)
    ∷ (110, big_ext 1)
    ∷ (111, big_ext 4)
    ∷ (70, new_float_ext)
    ∷ (100, atom_ext latin_1 2)
    ∷ (115, atom_ext latin_1 1)
    ∷ (118, atom_ext utf_8 2)
    ∷ (119, atom_ext utf_8 1)
    ∷ (82, atom_cache_ref)
    ∷ (104, tuple_ext 1)
    ∷ (105, tuple_ext 4)
    ∷ (106, nil_ext)
    ∷ (107, string_ext)
    ∷ (108, list_ext)
    ∷ (109, binary_ext)
    ∷ (77, bit_binary_ext)
    ∷ (116, map_ext)
    ∷ (88, pid_ext 4)
    ∷ (103, pid_ext 1)
    ∷ (89, port_ext 4 4)
    ∷ (102, port_ext 4 1)
    ∷ (120, port_ext 8 4)
    ∷ (90, new_reference_ext 4)
    ∷ (114, new_reference_ext 1)
    ∷ (101, reference_ext)
    ∷ (113, export_ext)
    ∷ []

-- the table's row for a tag
unfoldable pub form_in : List (ℕ × Form) → ℕ → Option Form
form_in [] tag = none
form_in (f ∷ fs) tag = elim (eqb f.0 tag) [ true ↦ some f.1 | false ↦ form_in fs tag ]

-- Which terms may stand at a place: any, or those with one of these tags
pub data Wanted : Type 0 where
  any : Wanted
  tagged : List ℕ → Wanted

-- Node, module and function have tag 82, 100, 115, 118 or 119; an arity has 97
abbrev pub an_atom : Wanted
an_atom = tagged (82 ∷ 100 ∷ 115 ∷ 118 ∷ 119 ∷ [])

abbrev pub an_arity : Wanted
an_arity = tagged (97 ∷ [])

abbrev pub one_of : ℕ → List ℕ → Bool
one_of n [] = false
one_of n (m ∷ ms) = eqb n m || one_of n ms

-- Refusal 3: tag not in the table. Refusal 4: any other tag than those wanted, known or not
unfoldable pub form_or : ℕ → ℕ → Option Form → Reading Form
form_or number place none = refuse number place
form_or number place (some f) = done f

unfoldable pub form : ℕ → Wanted → ℕ → Reading Form
form place any tag = form_or 3 place (form_in forms tag)
form place (tagged ts) tag = elim (one_of tag ts) [ true ↦ form_or 4 place (form_in forms tag) | false ↦ refuse 4 place ]

-- What is read after the parts
pub data Later : Type 0 where
  -- nothing: the label is known
  known : Label → Later
  -- ID, Serial, Creation of this width
  pid_fields : ℕ → Later
  -- ID and Creation of these widths
  port_fields : ℕ → ℕ → Later
  -- Creation of this width, that many words
  reference_fields : ℕ → ℕ → Later
  -- one word, Creation of one byte
  old_reference_fields : Later

-- What the tag and the fields before the first part say is to come
pub data Head : Type 0 where
  -- the wanted parts, that many parts of any kind, then later fields
  parts : List Wanted → ℕ → Later → Head
  -- the elements of a list: these characters
  characters : List ℕ → Head
  -- the elements of a list: that many parts, and then a tail
  elements : ℕ → Head
  -- that many keys and values
  pairs : ℕ → Head

-- a term without parts
abbrev pub leaf : Label → Head
leaf l = parts [] 0 (known l)

-- What reading is given beside the bytes: the connection's flags; the atom list's count n, and its text at an index
pub record Given : Type 0 where
  pub flags : ℕ
  pub n : ℕ
  pub text : ℕ → Checked

-- a text's characters, or a refusal, whose place may follow from the offset at which the text fails
unfoldable pub text_or : Checked → ℕ → (ℕ → ℕ) → Reading (List ℕ)
text_or (invalid_at k) number place = refuse number (place k)
text_or (valid cs) number place = done cs

-- What the fields of pids and references stay under: ID and Serial below these, at most so many words
pub record Limits : Type 0 where
  pub id : ℕ
  pub serial : ℕ
  pub word_count : ℕ

-- With these flags and a Creation of this width. With V4_NC, tag 88 may use all 32 bits of ID and Serial and tag 90 up to 5 words: theirs has four bytes
unfoldable pub limits : ℕ → ℕ → Limits
limits flags w =
    cond (v4_nc flags && eqb w 4) (record { id = 2 ^ 32; serial = 2 ^ 32; word_count = 5 }) (record { id = 2 ^ 15; serial = 2 ^ 13; word_count = 3 })

-- tag 70: all-ones exponent refused
unfoldable pub finite : ℕ → Bool
finite bits = not (eqb (bits / 2 ^ 52 % 2 ^ 11) (2 ^ 11 - 1))

-- tag 77: at length 0 Bits is 0, else 1 .. 8
unfoldable pub bits_rule : ℕ → ℕ → Bool
bits_rule zero bits = eqb bits 0
bits_rule (suc n) bits = leb 1 bits && leb bits 8

-- tag 77: the lower bits of the last byte carry nothing
unfoldable pub clear_low : ℕ → List ℕ → List ℕ
clear_low bits [] = []
clear_low bits (b ∷ []) = (b - b % 2 ^ (8 - bits)) ∷ []
clear_low bits (b ∷ c ∷ bs) = b ∷ clear_low bits (c ∷ bs)

-- tag 77: at length 0 the empty binary; Bits 8 is a binary
unfoldable pub bits_meaning : ℕ → List ℕ → Label
bits_meaning bits bs = elim (eqb bits 0 || eqb bits 8) [ true ↦ binary bs | false ↦ bitstring bits (clear_low bits bs) ]

module _ (given : Given) where
  -- The fields, at their term's place: all that follow the tag are read (2) before a rule is judged (4, 5, 6, 14). The place of 5 is the
  -- offset of the byte at which the text fails
  unfoldable pub fields : ℕ → Form → Reading Head
  fields p small_integer_ext = do
    n ← number p 1
    done (leaf (integer (pos n)))
  fields p integer_ext = do
    n ← number p 4
    done (leaf (integer (signed32 n)))
  fields p (big_ext w) = do
    n ← number p w
    sign ← number p 1
    ds ← bytes p n
    rule (leb sign 1) 4 p
    done (leaf (integer (with_sign sign (little_endian ds))))
  fields p new_float_ext = do
    bits ← number p 8
    rule (finite bits) 4 p
    done (leaf (float bits))
  fields p (atom_ext coding w) = do
    n ← number p w
    first ← here
    bs ← bytes p n
    cs ← text_or (check coding bs) 5 (λ k. first + k)
    done (leaf (atom cs))
  fields p atom_cache_ref = do
    i ← number p 1
    rule (ltb i given.n) 6 p
    cs ← text_or (given.text i) 14 (λ k. 0)
    done (leaf (atom cs))
  fields p (tuple_ext w) = do
    n ← number p w
    done (parts [] n (known tuple))
  fields p nil_ext = done (characters [])
  fields p string_ext = do
    n ← number p 2
    bs ← bytes p n
    done (characters bs)
  fields p list_ext = do
    n ← number p 4
    done (elements n)
  fields p binary_ext = do
    n ← number p 4
    bs ← bytes p n
    done (leaf (binary bs))
  fields p bit_binary_ext = do
    n ← number p 4
    bits ← number p 1
    bs ← bytes p n
    rule (bits_rule n bits) 4 p
    done (leaf (bits_meaning bits bs))
  fields p map_ext = do
    n ← number p 4
    done (pairs n)
  fields p (pid_ext w) = done (parts (an_atom ∷ []) 0 (pid_fields w))
  fields p (port_ext v w) = done (parts (an_atom ∷ []) 0 (port_fields v w))
  fields p (new_reference_ext w) = do
    n ← number p 2
    rule (leb 1 n && leb n (limits given.flags w).word_count) 4 p
    done (parts (an_atom ∷ []) 0 (reference_fields n w))
  fields p reference_ext = done (parts (an_atom ∷ []) 0 old_reference_fields)
  fields p export_ext = done (parts (an_atom ∷ an_atom ∷ an_arity ∷ []) 0 (known export))

  -- tag, then fields
  unfoldable pub term_head : Wanted → Reading Head
  term_head wanted = do
    p ← here
    tag ← byte p
    f ← form p wanted tag
    fields p f

-- A one-byte Creation is at most 3
unfoldable pub creation_rule : ℕ → ℕ → Bool
creation_rule w creation = not (eqb w 1) || leb creation 3

-- k words of four bytes
unfoldable pub id_words : ℕ → ℕ → Reading (List ℕ)
id_words p zero = done []
id_words p (suc k) = do
  word ← number p 4
  rest ← id_words p k
  done (word ∷ rest)

-- tag 114, whose Creation has one byte: the first word is under 2^18
unfoldable pub words_rule : ℕ → List ℕ → Bool
words_rule w [] = true
words_rule w (word ∷ rest) = not (eqb w 1) || ltb word (2 ^ 18)

-- The later fields, with these flags, at their term's place: all are read (2) before a rule is judged (4)
unfoldable pub later : ℕ → ℕ → Later → Reading Label
later flags p (known l) = done l
later flags p (pid_fields w) = do
  id ← number p 4
  serial ← number p 4
  creation ← number p w
  rule (ltb id (limits flags w).id && ltb serial (limits flags w).serial && creation_rule w creation) 4 p
  done (pid id serial creation)
later flags p (port_fields v w) = do
  id ← number p v
  creation ← number p w
  rule ((eqb v 8 || ltb id (2 ^ 28)) && creation_rule w creation) 4 p
  done (port id creation)
later flags p (reference_fields k w) = do
  creation ← number p w
  ws ← id_words p k
  rule (creation_rule w creation && words_rule w ws) 4 p
  done (reference creation ws)
later flags p old_reference_fields = do
  ws ← id_words p 1
  creation ← number p 1
  rule (words_rule 1 ws && creation_rule 1 creation) 4 p
  done (reference creation ws)
