-- What the fields before the first part say, from the tests that the code makes.
use mathlib.Core.Path.{◌≡◌, refl, sym, ap, ap₂, ◌∙◌}
use mathlib.Core.Bool.{Bool, true, false, ◌&&◌, ◌||◌}
use mathlib.Core.List.{List}
use Prim.Native.Nat.{ℕ, zero, suc, ◌+◌, ◌-◌, ◌/◌, ◌%◌, ◌<◌, ◌≤◌}
use native.Mathlib.Omega.{arith}
use lib.Dec.{eqb, leb}
use lib.IntN.{ℤ}
use lib.ListN.{length, take, drop}
use borrow.Author.Tests.{le-leb, lt-leb, eq-eqb, ne_eqb}
use Rattle.term_spec.specs.Numbers.{big_endian, little_endian, with_sign}
use Rattle.term_spec.specs.Term.{Label, integer, binary, bitstring}
use Rattle.term_spec.specs.Answer.{◌>>◌, Reading, after, done, rule, number, at_offset}
use Rattle.term_spec.specs.Head.{Given, limits, Head, fields, characters, leaf, tuple_ext, list_ext, map_ext, string_ext, binary_ext, bit_binary_ext, big_ext, new_float_ext, new_reference_ext, finite, bits_rule, bits_meaning, clear_low}
use Rattle.term_spec.specs.Rows.{kind_of}
use Rattle.term_spec.proofs.Bridge.{number_at, number_end}
use Rattle.octets.proofs.Parts.{length_part}
use Rattle.term_head.specs.declared.Later.TheVariants.{Known, Reference}
use Rattle.term_head.specs.declared.Head.TheVariants.{Parts, Characters, Elements, Pairs}
use Rattle.octets.specs.Parts.{value, counted_end}
use Rattle.octets.proofs.Counted.{past_some}
use Rattle.std.specs.Prelude.{Some, None, Ok}
use Rattle.term_head.proofs.Counted.{plain_cut, plain_there, marked_cut, marked_there}
use Rattle.term_head.specs.Code.{Bits, refusal, head_of, head_at, fields_of, kind_later, later_of}

module _ (m : List ℕ) (at w : ℕ) (value : ℕ → ℤ) (rows : ℕ) (inside : at < length m) where
  pub integer_short : length m - at - 1 < w → refusal 2 at ≡ head_of (after (number at w (at_offset m (at + 1) rows)) (λ n. done (leaf (integer (value n)))))
  unfolding head_of
  integer_short h = rw (number_end m at w (at + 1) rows (omega arith) (omega arith))

  pub integer_there : w ≤ length m - at - 1 → Ok (Parts 1 0 0 Known (at + 1 + w)) ≡ head_of (after (number at w (at_offset m (at + 1) rows)) (λ n. done (leaf (integer (value n)))))
  unfolding head_of head_at kind_later kind_of later_of
  integer_there h = rw (number_at m at w (at + 1) rows (omega arith))

module _ (given : Given) (m : List ℕ) (at rows : ℕ) (inside : at < length m) where
  pub tuple_short : (w : ℕ) → length m - at - 1 < w → refusal 2 at ≡ fields_of given m at (tuple_ext w) rows
  unfolding fields_of fields head_of
  tuple_short w h = rw (number_end m at w (at + 1) rows (omega arith) (omega arith))

  pub tuple_there : (w n : ℕ) → w ≤ length m - at - 1 → n ≡ big_endian (take w (drop (at + 1) m))
      → Ok (Parts 4 0 n Known (at + 1 + w)) ≡ fields_of given m at (tuple_ext w) rows
  unfolding fields_of fields head_of head_at kind_later kind_of later_of
  tuple_there w n h e = rw (number_at m at w (at + 1) rows (omega arith), ← e)

  pub list_short : length m - at - 1 < 4 → refusal 2 at ≡ fields_of given m at list_ext rows
  unfolding fields_of fields head_of
  list_short h = rw (number_end m at 4 (at + 1) rows (omega arith) (omega arith))

  pub list_there : (n : ℕ) → 4 ≤ length m - at - 1 → n ≡ big_endian (take 4 (drop (at + 1) m)) → Ok (Elements n (at + 1 + 4)) ≡ fields_of given m at list_ext rows
  unfolding fields_of fields head_of head_at
  list_there n h e = rw (number_at m at 4 (at + 1) rows (omega arith), ← e)

  pub map_short : length m - at - 1 < 4 → refusal 2 at ≡ fields_of given m at map_ext rows
  unfolding fields_of fields head_of
  map_short h = rw (number_end m at 4 (at + 1) rows (omega arith) (omega arith))

  pub map_there : (n : ℕ) → 4 ≤ length m - at - 1 → n ≡ big_endian (take 4 (drop (at + 1) m)) → Ok (Pairs n (at + 1 + 4)) ≡ fields_of given m at map_ext rows
  unfolding fields_of fields head_of head_at
  map_there n h e = rw (number_at m at 4 (at + 1) rows (omega arith), ← e)

  pub string_cut : None ≡ counted_end m at 2 0 → refusal 2 at ≡ fields_of given m at string_ext rows
  unfolding fields_of fields head_of
  string_cut c = sym (ap head_of (plain_cut m at 2 rows inside (λ first bs. done (characters bs)) c))

  pub string_there : (end : ℕ) → Some end ≡ counted_end m at 2 0 → Ok (Characters (end - at - 3) end) ≡ fields_of given m at string_ext rows
  unfolding fields_of fields head_of head_at
  string_there end c =
      let near = past_some m at 2 0 c in
      let n : end - at - 3 ≡ length (take (end - (at + 1 + 2)) (drop (at + 1 + 2) m)) = sym (length_part m (at + 1 + 2) (end - (at + 1 + 2)) (omega (arith, near.0, near.1)) ∙ omega arith) in
      ap (λ (k : ℕ). Ok (Characters k end)) n ∙ sym (ap head_of (plain_there m at 2 rows inside (λ first bs. done (characters bs)) c))

  pub binary_cut : None ≡ counted_end m at 4 0 → refusal 2 at ≡ fields_of given m at binary_ext rows
  unfolding fields_of fields head_of
  binary_cut c = sym (ap head_of (plain_cut m at 4 rows inside (λ first bs. done (leaf (binary bs))) c))

  pub binary_there : (end : ℕ) → Some end ≡ counted_end m at 4 0 → Ok (Parts 7 0 0 Known end) ≡ fields_of given m at binary_ext rows
  unfolding fields_of fields head_of head_at kind_later kind_of later_of
  binary_there end c = sym (ap head_of (plain_there m at 4 rows inside (λ first bs. done (leaf (binary bs))) c))

  module _ (w : ℕ) where
    abbrev big_head : ℕ → ℕ → List ℕ → Reading Head
    big_head n sign ds = do
      rule (leb sign 1) 4 at
      done (leaf (integer (with_sign sign (little_endian ds))))

    pub big_cut : None ≡ counted_end m at w 1 → refusal 2 at ≡ fields_of given m at (big_ext w) rows
    unfolding fields_of fields head_of
    big_cut c = sym (ap head_of (marked_cut m at w rows inside big_head c))

    module _ (end : ℕ) (c : Some end ≡ counted_end m at w 1) (sign : ℕ) (f : sign ≡ value m 1 (at + 1 + w)) where
      pub big_sign : 1 < sign → refusal 4 at ≡ fields_of given m at (big_ext w) rows
      unfolding fields_of fields head_of
      big_sign h = rw (marked_there m at w rows inside big_head c, ← f, lt-leb sign 1 h)

      pub big_there : sign ≤ 1 → Ok (Parts 1 0 0 Known end) ≡ fields_of given m at (big_ext w) rows
      unfolding fields_of fields head_of head_at kind_later kind_of later_of
      big_there h = rw (marked_there m at w rows inside big_head c, ← f, le-leb sign 1 h)

  module _ where
    abbrev bits_head : ℕ → ℕ → List ℕ → Reading Head
    bits_head n bits bs = do
      rule (bits_rule n bits) 4 at
      done (leaf (bits_meaning bits bs))

    pub bits_cut : None ≡ counted_end m at 4 1 → refusal 2 at ≡ fields_of given m at bit_binary_ext rows
    unfolding fields_of fields head_of
    bits_cut c = sym (ap head_of (marked_cut m at 4 rows inside bits_head c))

    module _ (end : ℕ) (c : Some end ≡ counted_end m at 4 1) (n bits : ℕ) (e : n ≡ end - (at + 1 + 4 + 1)) (f : bits ≡ value m 1 (at + 1 + 4)) where
      pub bits_broken : Bits n bits None → refusal 4 at ≡ fields_of given m at bit_binary_ext rows
      unfolding fields_of fields head_of
      bits_broken told = rw (marked_there m at 4 rows inside bits_head c, ← f, ← e, told.broken refl)

      pub bits_there : (kind : ℕ) → Bits n bits (Some kind) → Ok (Parts kind 0 0 Known end) ≡ fields_of given m at bit_binary_ext rows
      unfolding fields_of fields head_of head_at kind_later later_of
      bits_there kind told = rw (marked_there m at 4 rows inside bits_head c, ← f, ← e, told.kept kind refl, told.kind_is kind refl)

  pub float_short : length m - at - 1 < 8 → refusal 2 at ≡ fields_of given m at new_float_ext rows
  unfolding fields_of fields head_of
  float_short h = rw (number_end m at 8 (at + 1) rows (omega arith) (omega arith))

  module _ (bits : ℕ) (there : 8 ≤ length m - at - 1) (e : bits ≡ big_endian (take 8 (drop (at + 1) m))) where
    pub float_odd : bits / 4503599627370496 % 2048 ≡ 2047 → refusal 4 at ≡ fields_of given m at new_float_ext rows
    unfolding fields_of fields finite head_of
    float_odd h = rw (number_at m at 8 (at + 1) rows (omega arith), ← e, eq-eqb (bits / 4503599627370496 % 2048) 2047 h)

    pub float_there : (bits / 4503599627370496 % 2048 ≡ 2047 → ⊥) → Ok (Parts 2 0 0 Known (at + 1 + 8)) ≡ fields_of given m at new_float_ext rows
    unfolding fields_of fields finite head_of head_at kind_later kind_of later_of
    float_there h = rw (number_at m at 8 (at + 1) rows (omega arith), ← e, ne_eqb (bits / 4503599627370496 % 2048) 2047 h)

  pub reference_short : (w : ℕ) → length m - at - 1 < 2 → refusal 2 at ≡ fields_of given m at (new_reference_ext w) rows
  unfolding fields_of fields head_of
  reference_short w h = rw (number_end m at 2 (at + 1) rows (omega arith) (omega arith))

  module _ (w n : ℕ) (there : 2 ≤ length m - at - 1) (e : n ≡ big_endian (take 2 (drop (at + 1) m))) where
    pub reference_none : n < 1 → refusal 4 at ≡ fields_of given m at (new_reference_ext w) rows
    unfolding fields_of fields head_of
    reference_none h = rw (number_at m at 2 (at + 1) rows (omega arith), ← e, lt-leb 1 n h)

    pub reference_many : 1 ≤ n → (flags most : ℕ) → given.flags ≡ flags → most ≡ (limits flags w).word_count → most < n → refusal 4 at ≡ fields_of given m at (new_reference_ext w) rows
    unfolding fields_of fields head_of
    reference_many g flags most flags_are most_is h = rw (number_at m at 2 (at + 1) rows (omega arith), ← e, le-leb 1 n g, flags_are, ← most_is, lt-leb n most h)

    pub reference_there : 1 ≤ n → (flags most : ℕ) → given.flags ≡ flags → most ≡ (limits flags w).word_count → n ≤ most → Ok (Parts 12 1 0 (Reference n w) (at + 1 + 2)) ≡ fields_of given m at (new_reference_ext w) rows
    unfolding fields_of fields head_of head_at kind_later later_of
    reference_there g flags most flags_are most_is h = rw (number_at m at 2 (at + 1) rows (omega arith), ← e, le-leb 1 n g, flags_are, ← most_is, le-leb n most h)

-- the bits of the last byte
part_kind : (bits : ℕ) (bs : List ℕ) → kind_of (bitstring bits bs) ≡ 8
unfolding kind_of
part_kind bits bs = refl

pub bits_none : (n bits : ℕ) → n ≡ 0 → bits ≡ 0 → Bits n bits (Some 7)
unfolding bits_rule bits_meaning kind_of
bits_none n bits z e = record { broken = λ z. absurd (cc); kept = λ _ _. rw (z, e); kind_is = λ k f bs. let g : 7 ≡ k = cc in rw (e, ← g) }

broken : (n bits : ℕ) → bits_rule n bits ≡ false → Bits n bits None
broken n bits e = record { broken = λ _. e; kept = λ k z. absurd (cc); kind_is = λ k z. absurd (cc) }

pub bits_over_none : (n bits : ℕ) → n ≡ 0 → (bits ≡ 0 → ⊥) → Bits n bits None
unfolding bits_rule
bits_over_none n bits z f = broken n bits (rw (z, ne_eqb bits 0 f))

rule_some : (n bits : ℕ) → (n ≡ 0 → ⊥) → bits_rule n bits ≡ (leb 1 bits && leb bits 8)
unfolding bits_rule
rule_some zero bits f = absurd (f refl)
rule_some (suc n) bits f = refl

module _ (n bits : ℕ) (some : n ≡ 0 → ⊥) where
  pub bits_few : bits < 1 → Bits n bits None
  bits_few h = broken n bits (rw (rule_some n bits some, lt-leb 1 bits h))

  pub bits_many : 8 < bits → Bits n bits None
  bits_many h = broken n bits (rw (rule_some n bits some, le-leb 1 bits (omega arith), lt-leb bits 8 h))

  pub bits_all : bits ≡ 8 → Bits n bits (Some 7)
  unfolding bits_meaning kind_of
  bits_all e = record { broken = λ z. absurd (cc); kept = λ _ _. rw (rule_some n bits some, e); kind_is = λ k f bs. let g : 7 ≡ k = cc in rw (e, ← g) }

  pub bits_part : 1 ≤ bits → bits ≤ 8 → (bits ≡ 8 → ⊥) → Bits n bits (Some 8)
  unfolding bits_meaning
  bits_part g h f =
      let low : eqb bits 0 ≡ false = ne_eqb bits 0 (λ z. omega arith) in
      let high : eqb bits 8 ≡ false = ne_eqb bits 8 f in
      record {
        broken = λ z. absurd (cc);
        kept = λ _ _. rw (rule_some n bits some, le-leb 1 bits g, le-leb bits 8 h);
        kind_is =
            λ k d bs.
            let c : 8 ≡ k = cc in
            ap₂ (λ (s t : Bool). kind_of (elim (s || t) as (λ _. Label) [ true ↦ binary bs | false ↦ bitstring bits (clear_low bits bs) ])) low high
            ∙ part_kind bits (clear_low bits bs)
            ∙ c;
      }
