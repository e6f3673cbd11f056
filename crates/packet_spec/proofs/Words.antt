-- What the word of a reference is, by the tests on the list, the flags, the index and the text.
use mathlib.Core.Path.{◌≡◌}
use mathlib.Core.Bool.{true, false}
use mathlib.Core.List.{List}
use Prim.Native.Nat.{ℕ, ◌<◌, ◌≤◌}
use borrow.Author.Tests.{lt-ltb, le-ltb}
use Rattle.term_spec.specs.Connection.{flags_known}
use Rattle.term_spec.specs.Text.{valid, invalid_at}
use Rattle.term_spec.specs.Answer.{good, refused}
use Rattle.term_spec.specs.AtomList.{AtomList, of_size, place_bytes, place_text}
use Rattle.packet_spec.specs.Words.{word_if, listed_word}

module _ (flags : ℕ) (list : AtomList) (i : ℕ) where
  pub word_unsized : of_size list ≡ false → listed_word flags list i ≡ refused 13 0
  unfolding listed_word
  word_unsized s = rw s

  module _ (s : of_size list ≡ true) where
    pub word_unknown : flags_known flags ≡ false → listed_word flags list i ≡ refused 14 0
    unfolding listed_word
    word_unknown f = rw (s, f)

    module _ (f : flags_known flags ≡ true) where
      pub word_past : list.n ≤ i → listed_word flags list i ≡ refused 6 0
      unfolding listed_word
      word_past h = rw (s, f, le-ltb i list.n h)

      module _ (l : i < list.n) where
        pub word_false : (k : ℕ) → place_text list i ≡ invalid_at k → listed_word flags list i ≡ refused 14 0
        unfolding listed_word word_if
        word_false k e = rw (s, f, lt-ltb i list.n l, e)

        pub word_good : (cs : List ℕ) → place_text list i ≡ valid cs → listed_word flags list i ≡ good (place_bytes list i)
        unfolding listed_word word_if
        word_good cs e = rw (s, f, lt-ltb i list.n l, e)
