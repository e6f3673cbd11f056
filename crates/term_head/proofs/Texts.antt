-- What the fields of atoms say, from the tests that the code makes.
use mathlib.Core.Path.{◌≡◌, sym, ap}
use mathlib.Core.Bool.{Bool, true, false}
use mathlib.Core.List.{List}
use Prim.Native.Nat.{ℕ, ◌+◌, ◌-◌, ◌<◌, ◌≤◌}
use native.Mathlib.Omega.{arith}
use lib.ListN.{length, take, drop}
use borrow.Author.Tests.{lt-ltb, le-ltb}
use Rattle.term_spec.specs.Numbers.{big_endian}
use Rattle.term_spec.specs.Text.{coding_of, check}
use Rattle.term_spec.specs.Answer.{◌>>=◌, Reading, done}
use Rattle.term_spec.specs.Term.{atom}
use Rattle.term_spec.specs.Head.{Given, Head, leaf, fields, text_or, atom_ext, atom_cache_ref}
use Rattle.term_spec.specs.AtomList.{place_text, given_of, lent_list}
use Rattle.term_spec.specs.Rows.{kind_of}
use Rattle.term_spec.proofs.Bridge.{number_at, number_end}
use Rattle.text.specs.Shown.{shown, is_valid}
use Rattle.text.proofs.Valid.{is_text, is_bad, found, failed}
use Rattle.term_head.specs.declared.Later.TheVariants.{Known}
use Rattle.term_head.specs.declared.Head.TheVariants.{Parts}
use Rattle.std.specs.Prelude.{Some, None, Ok, Err}
use Rattle.octets.specs.Parts.{counted_end}
use Rattle.term_head.proofs.Counted.{plain_cut, plain_there}
use Rattle.term_head.specs.Code.{refusal, head_of, head_at, fields_of, kind_later, later_of}

module _ (given : Given) (m : List ℕ) (at rows : ℕ) (inside : at < length m) (utf8 : Bool) (w : ℕ) where
  abbrev atom_head : ℕ → List ℕ → Reading Head
  atom_head first bs = do
    cs ← text_or (check (coding_of utf8) bs) 5 (λ k. first + k)
    done (leaf (atom cs))

  pub atom_cut : None ≡ counted_end m at w 0 → refusal 2 at ≡ fields_of given m at (atom_ext (coding_of utf8) w) rows
  unfolding fields_of fields head_of
  atom_cut c = sym (ap head_of (plain_cut m at w rows inside atom_head c))

  module _ (end : ℕ) (c : Some end ≡ counted_end m at w 0) where
    pub atom_bad : (k : ℕ) → Err k ≡ shown (check (coding_of utf8) (take (end - (at + 1 + w)) (drop (at + 1 + w) m)))
        → refusal 5 (at + 1 + w + k) ≡ fields_of given m at (atom_ext (coding_of utf8) w) rows
    unfolding fields_of fields head_of text_or
    atom_bad k e = rw (plain_there m at w rows inside atom_head c, is_bad (check (coding_of utf8) (take (end - (at + 1 + w)) (drop (at + 1 + w) m))) k e)

    pub atom_there : Ok tt ≡ shown (check (coding_of utf8) (take (end - (at + 1 + w)) (drop (at + 1 + w) m)))
        → Ok (Parts 3 0 0 Known end) ≡ fields_of given m at (atom_ext (coding_of utf8) w) rows
    unfolding fields_of fields head_of head_at kind_later kind_of later_of text_or
    atom_there e = rw (plain_there m at w rows inside atom_head c, (is_text (check (coding_of utf8) (take (end - (at + 1 + w)) (drop (at + 1 + w) m))) e).1)

module _ (flags n : ℕ) (places lengths : List ℕ) (m : List ℕ) (at rows : ℕ) (inside : at < length m) where
  pub cached_short : length m - at - 1 < 1 → refusal 2 at ≡ fields_of (given_of flags (lent_list n places lengths)) m at atom_cache_ref rows
  unfolding fields_of fields head_of
  cached_short h = rw (number_end m at 1 (at + 1) rows (omega arith) (omega arith))

  module _ (i : ℕ) (there : 1 ≤ length m - at - 1) (e : i ≡ big_endian (take 1 (drop (at + 1) m))) where
    pub cached_past : n ≤ i → refusal 6 at ≡ fields_of (given_of flags (lent_list n places lengths)) m at atom_cache_ref rows
    unfolding fields_of fields head_of given_of
    cached_past h = rw (number_at m at 1 (at + 1) rows (omega arith), ← e, le-ltb i n h)

    module _ (below : i < n) where
      pub cached_false : is_valid (place_text (lent_list n places lengths) i) ≡ false → refusal 14 0 ≡ fields_of (given_of flags (lent_list n places lengths)) m at atom_cache_ref rows
      unfolding fields_of fields head_of given_of text_or
      cached_false f = rw (number_at m at 1 (at + 1) rows (omega arith), ← e, lt-ltb i n below, (failed (place_text (lent_list n places lengths) i) f).1)

      pub cached_there : is_valid (place_text (lent_list n places lengths) i) ≡ true
          → Ok (Parts 3 0 0 Known (at + 1 + 1)) ≡ fields_of (given_of flags (lent_list n places lengths)) m at atom_cache_ref rows
      unfolding fields_of fields head_of head_at kind_later kind_of later_of given_of text_or
      cached_there f = rw (number_at m at 1 (at + 1) rows (omega arith), ← e, lt-ltb i n below, (found (place_text (lent_list n places lengths) i) f).1)
