-- What the fields of a canonical form say, one fact for each layout and over its widths.
use mathlib.Core.Path.{◌≡◌, refl}
use mathlib.Core.Bool.{true, ◌||◌}
use mathlib.Core.List.{List, [], ◌∷◌, ◌++◌, append_assoc}
use Prim.Native.Nat.{ℕ, ◌+◌, ◌*◌, ◌^◌, ◌≤◌, ◌<◌}
use native.Mathlib.Omega.{arith}
use lib.Dec.{ltb, eqb}
use lib.IntN.{pos}
use lib.ListN.{length}
use borrow.Author.Tests.{lt-ltb, le-leb}
use Rattle.term_spec.specs.Numbers.{in_bytes, little_endian, signed32, with_sign, Under}
use Rattle.term_spec.specs.Text.{utf_8, encodes, Characters}
use Rattle.term_spec.specs.Term.{integer, float, atom, tuple, binary, bitstring, pid, port, reference}
use Rattle.term_spec.specs.Answer.{good}
use Rattle.term_spec.specs.Head.{Given, limits, small_integer_ext, integer_ext, big_ext, new_float_ext, atom_ext, tuple_ext, list_ext, string_ext, binary_ext, bit_binary_ext, map_ext, new_reference_ext, fields, leaf, parts, characters, elements, pairs, known, finite, bits_rule, bits_meaning, text_or, an_atom, pid_fields, port_fields, reference_fields, id_words, words_rule, creation_rule, later}
use Rattle.term_spec.specs.Canonical.{words_bytes}
use Rattle.term_spec.proofs.Limits.{limits_most}
use Rattle.term_spec.proofs.Steps.{spot, ends_at, number_of, bytes_append}
use Rattle.term_spec.proofs.Text.{utf8_encodes}

module _ (given : Given) (p at r : ℕ) (rest : List ℕ) where
  pub small_fields : (n : ℕ) → n < 256
      → fields given p small_integer_ext (spot at (in_bytes 1 n ++ rest) r) ≡ good (leaf (integer (pos n)), spot (at + 1) rest r)
  unfolding fields
  small_fields n h = rw (number_of p 1 n rest at r h)

  pub integer_fields : (n : ℕ) → n < 2 ^ 32
      → fields given p integer_ext (spot at (in_bytes 4 n ++ rest) r) ≡ good (leaf (integer (signed32 n)), spot (at + 4) rest r)
  unfolding fields
  integer_fields n h = rw (number_of p 4 n rest at r h)

  -- over the width
  pub big_fields : (w sign : ℕ) (ds : List ℕ) → length ds < 256 ^ w → sign ≤ 1
      → fields given p (big_ext w) (spot at (in_bytes w (length ds) ++ (in_bytes 1 sign ++ (ds ++ rest))) r)
      ≡ good (leaf (integer (with_sign sign (little_endian ds))), spot (at + w + 1 + length ds) rest r)
  unfolding fields
  big_fields w sign ds h k =
      rw (
        number_of p w (length ds) (in_bytes 1 sign ++ (ds ++ rest)) at r h,
        number_of p 1 sign (ds ++ rest) (at + w) r (omega arith),
        bytes_append p ds rest (at + w + 1) r,
        le-leb sign 1 k,
      )

  pub float_fields : (bits : ℕ) → bits < 2 ^ 64 → finite bits ≡ true
      → fields given p new_float_ext (spot at (in_bytes 8 bits ++ rest) r) ≡ good (leaf (float bits), spot (at + 8) rest r)
  unfolding fields
  float_fields bits h e = rw (number_of p 8 bits rest at r h, e)

  pub atom_fields : (w : ℕ) (cs : List ℕ) → length (encodes cs) < 256 ^ w → Characters cs → length cs ≤ 255
      → fields given p (atom_ext utf_8 w) (spot at (in_bytes w (length (encodes cs)) ++ (encodes cs ++ rest)) r)
      ≡ good (leaf (atom cs), spot (at + w + length (encodes cs)) rest r)
  unfolding fields text_or
  atom_fields w cs h ok k =
      rw (
        number_of p w (length (encodes cs)) (encodes cs ++ rest) at r h,
        bytes_append p (encodes cs) rest (at + w) r,
        utf8_encodes cs ok k,
      )

  pub tuple_fields : (w n : ℕ) → n < 256 ^ w
      → fields given p (tuple_ext w) (spot at (in_bytes w n ++ rest) r) ≡ good (parts [] n (known tuple), spot (at + w) rest r)
  unfolding fields
  tuple_fields w n h = rw (number_of p w n rest at r h)

  pub string_fields : (cs : List ℕ) → length cs < 2 ^ 16
      → fields given p string_ext (spot at (in_bytes 2 (length cs) ++ (cs ++ rest)) r) ≡ good (characters cs, spot (at + 2 + length cs) rest r)
  unfolding fields
  string_fields cs h = rw (number_of p 2 (length cs) (cs ++ rest) at r h, bytes_append p cs rest (at + 2) r)

  pub list_fields : (n : ℕ) → n < 2 ^ 32
      → fields given p list_ext (spot at (in_bytes 4 n ++ rest) r) ≡ good (elements n, spot (at + 4) rest r)
  unfolding fields
  list_fields n h = rw (number_of p 4 n rest at r h)

  pub binary_fields : (bs : List ℕ) → length bs < 2 ^ 32
      → fields given p binary_ext (spot at (in_bytes 4 (length bs) ++ (bs ++ rest)) r) ≡ good (leaf (binary bs), spot (at + 4 + length bs) rest r)
  unfolding fields
  binary_fields bs h = rw (number_of p 4 (length bs) (bs ++ rest) at r h, bytes_append p bs rest (at + 4) r)

  pub bits_fields : (bits : ℕ) (bs : List ℕ) → length bs < 2 ^ 32 → bits < 256 → bits_rule (length bs) bits ≡ true
      → bits_meaning bits bs ≡ bitstring bits bs
      → fields given p bit_binary_ext (spot at (in_bytes 4 (length bs) ++ (in_bytes 1 bits ++ (bs ++ rest))) r)
      ≡ good (leaf (bitstring bits bs), spot (at + 4 + 1 + length bs) rest r)
  unfolding fields
  bits_fields bits bs h k e m =
      rw (
        number_of p 4 (length bs) (in_bytes 1 bits ++ (bs ++ rest)) at r h,
        number_of p 1 bits (bs ++ rest) (at + 4) r k,
        bytes_append p bs rest (at + 4 + 1) r,
        e,
        m,
      )

  pub map_fields : (n : ℕ) → n < 2 ^ 32
      → fields given p map_ext (spot at (in_bytes 4 n ++ rest) r) ≡ good (pairs n, spot (at + 4) rest r)
  unfolding fields
  map_fields n h = rw (number_of p 4 n rest at r h)

  pub reference_head : (w n : ℕ) → 1 ≤ n → n ≤ (limits given.flags w).word_count
      → fields given p (new_reference_ext w) (spot at (in_bytes 2 n ++ rest) r)
      ≡ good (parts (an_atom ∷ []) 0 (reference_fields n w), spot (at + 2) rest r)
  unfolding fields
  reference_head w n h k = rw (number_of p 2 n rest at r (omega (arith, (limits_most given.flags w).counts)), le-leb 1 n h, le-leb n (limits given.flags w).word_count k)

-- Later fields.

pub words_of : (p at r : ℕ) (ws rest : List ℕ) → Under (2 ^ 32) ws
    → id_words p (length ws) (spot at (words_bytes ws ++ rest) r) ≡ good (ws, spot (at + 4 * length ws) rest r)
unfolding id_words words_bytes
words_of p at r [] rest ok = ends_at [] rest r _ _ (omega arith)
words_of p at r (w ∷ ws) rest ok =
    rw (
      append_assoc (in_bytes 4 w) (words_bytes ws) rest,
      number_of p 4 w (words_bytes ws ++ rest) at r ok.0,
      words_of p (at + 4) r ws rest ok.1,
    )
    (ends_at (w ∷ ws) rest r _ _ (omega arith))

-- four bytes of Creation set the words no rule
wide : (ws : List ℕ) → words_rule 4 ws ≡ true
unfolding words_rule
wide [] = refl
wide (w ∷ ws) = refl

module _ (flags p at r : ℕ) (rest : List ℕ) where
  pub pid_later : (id serial creation : ℕ) → id < (limits flags 4).id → serial < (limits flags 4).serial → creation < 2 ^ 32
      → later flags p (pid_fields 4) (spot at (in_bytes 4 id ++ (in_bytes 4 serial ++ (in_bytes 4 creation ++ rest))) r)
      ≡ good (pid id serial creation, spot (at + 4 + 4 + 4) rest r)
  unfolding later creation_rule
  pid_later id serial creation h k l =
      rw (
        number_of p 4 id (in_bytes 4 serial ++ (in_bytes 4 creation ++ rest)) at r (omega (arith, (limits_most flags 4).ids)),
        number_of p 4 serial (in_bytes 4 creation ++ rest) (at + 4) r (omega (arith, (limits_most flags 4).serials)),
        number_of p 4 creation rest (at + 4 + 4) r l,
        lt-ltb id (limits flags 4).id h,
        lt-ltb serial (limits flags 4).serial k,
      )

  -- over the width of the ID
  pub port_later : (v id creation : ℕ) → id < 256 ^ v → (eqb v 8 || ltb id (2 ^ 28)) ≡ true → creation < 2 ^ 32
      → later flags p (port_fields v 4) (spot at (in_bytes v id ++ (in_bytes 4 creation ++ rest)) r)
      ≡ good (port id creation, spot (at + v + 4) rest r)
  unfolding later creation_rule
  port_later v id creation h e l =
      rw (
        number_of p v id (in_bytes 4 creation ++ rest) at r h,
        number_of p 4 creation rest (at + v) r l,
        e,
      )

  pub reference_later : (creation : ℕ) (ws : List ℕ) → creation < 2 ^ 32 → Under (2 ^ 32) ws
      → later flags p (reference_fields (length ws) 4) (spot at (in_bytes 4 creation ++ (words_bytes ws ++ rest)) r)
      ≡ good (reference creation ws, spot (at + 4 + 4 * length ws) rest r)
  unfolding later creation_rule
  reference_later creation ws l ok =
      rw (
        number_of p 4 creation (words_bytes ws ++ rest) at r l,
        words_of p (at + 4) r ws rest ok,
        wide ws,
      )
