-- What the look-up answers, from the tests that the code makes.
use mathlib.Core.Path.{◌≡◌, refl, sym, ◌∙◌, ap, ap₂}
use mathlib.Core.Bool.{Bool, true, false}
use mathlib.Core.List.{List, [], ◌∷◌}
use Prim.Native.Nat.{ℕ, zero, suc, ◌+◌, ◌-◌, ◌*◌, ◌<◌, ◌≤◌}
use native.Mathlib.Omega.{arith}
use lib.Dec.{ltb, leb}
use lib.ListN.{length, take, drop, length-drop}
use lib.Seq.{length-take-le}
use borrow.Author.Tests.{leb-true}
use Rattle.std.specs.Prelude.{Ok, Err}
use Rattle.term_spec.specs.Connection.{flags_known}
use Rattle.term_spec.specs.Text.{Checked, valid, invalid_at, utf_8, check}
use Rattle.term_spec.specs.Answer.{Answer, good, refused}
use Rattle.term_spec.specs.AtomList.{AtomList, of_size, place_length, place_bytes, place_text}
use Rattle.term_spec.specs.declared.Refusal.{Refusal}
use Rattle.term_spec.proofs.Message.{passed}
use Rattle.term_spec.proofs.Tests.{sizes_of, never}
use Rattle.text.specs.Shown.{is_valid}
use Rattle.text.proofs.Valid.{found, failed}
use Rattle.packet_spec.specs.declared.WordAt.{WordAt}
use Rattle.packet_spec.specs.Words.{word_if, listed_word}
use Rattle.packet_spec.specs.Answers.{WordAnswer, refusal_of, word_answer, word_bytes}
use Rattle.packet_spec.specs.Promises.{WordInside, LocateWordCall, WordCall}
use Rattle.packet_spec.proofs.Words.{word_unsized, word_unknown, word_past, word_false, word_good}

-- a place that holds a text has a length of 32 at most
text_fits : (list : AtomList) (i : ℕ) → is_valid (place_text list i) ≡ true → place_length list i ≤ 32
unfolding place_text is_valid
text_fits list i e = go (leb (place_length list i) 32) refl e
  where
    go : (b : Bool) → leb (place_length list i) 32 ≡ b
        → is_valid (elim b as (λ _. Checked) [ true ↦ check utf_8 (place_bytes list i) | false ↦ invalid_at 32 ]) ≡ true → place_length list i ≤ 32
    go true l f = leb-true (place_length list i) 32 l
    go false l f = never f

-- what is answered where the look-up is refused
none_there : (flags : ℕ) (list : AtomList) (i number : ℕ) → listed_word flags list i ≡ refused number 0 → LocateWordCall flags list i (Err (refusal_of number 0))
unfolding word_answer WordInside
none_there flags list i number e = record { word_located = sym (ap (word_answer i) e); word_inside = tt }

module _ (flags : ℕ) (list : AtomList) (i : ℕ) where
  pub not_sized : of_size list ≡ false → LocateWordCall flags list i (Err (refusal_of 13 0))
  not_sized s = none_there flags list i 13 (word_unsized flags list i s)

  module _ (s : of_size list ≡ true) where
    pub not_known : flags_known flags ≡ false → LocateWordCall flags list i (Err (refusal_of 14 0))
    not_known u = none_there flags list i 14 (word_unknown flags list i s u)

    module _ (k : flags_known flags ≡ true) where
      pub not_below : list.n ≤ i → LocateWordCall flags list i (Err (refusal_of 6 0))
      not_below h = none_there flags list i 6 (word_past flags list i s k h)

      module _ (l : i < list.n) where
        pub not_text : is_valid (place_text list i) ≡ false → LocateWordCall flags list i (Err (refusal_of 14 0))
        not_text f = let b = failed (place_text list i) f in none_there flags list i 14 (word_false flags list i s k l b.0 b.1)

        pub word_there : i < 255 → is_valid (place_text list i) ≡ true → LocateWordCall flags list i (Ok (record { start = 32 * i; length = place_length list i }))
        unfolding word_answer WordInside place_bytes
        word_there few f =
            let t = found (place_text list i) f in
            let z : (length list.places ≡ 8160) × (length list.lengths ≡ 255) = sizes_of list s in
            let short : place_length list i ≤ 32 = text_fits list i f in
            let rest : length (drop (32 * i) list.places) ≡ length list.places - 32 * i = length-drop (32 * i) list.places in
            let all : length (place_bytes list i) ≡ place_length list i = length-take-le (place_length list i) (drop (32 * i) list.places) (omega arith) in
            record {
              word_located = ap (λ (n : ℕ). Ok (record { start = 32 * i; length = n })) (sym all) ∙ sym (ap (word_answer i) (word_good flags list i s k l t.0 t.1));
              word_inside = omega arith;
            }

-- ---- the word itself

-- as many bytes as were taken
taken_again : (k : ℕ) (bs : List ℕ) → take (length (take k bs)) bs ≡ take k bs
taken_again zero bs = refl
taken_again (suc k) [] = refl
taken_again (suc k) (b ∷ bs) = ap (λ (x : List ℕ). b ∷ x) (taken_again k bs)

module _ (flags : ℕ) (list : AtomList) (i : ℕ) where
  -- a word is its place's bytes
  place_word : (bs : List ℕ) → listed_word flags list i ≡ good bs → bs ≡ place_bytes list i
  unfolding listed_word word_if
  place_word bs e =
      let sized = passed (of_size list) 13 _ bs e in
      let known = passed (flags_known flags) 14 _ bs sized.1 in
      let below = passed (ltb i list.n) 6 _ bs known.1 in
      go (place_text list i) below.1
    where
      go : (o : Checked) → word_if (place_bytes list i) o ≡ good bs → bs ≡ place_bytes list i
      go (valid cs) f = cc
      go (invalid_at k) f = absurd cc

  module _ (answer : WordAnswer) (w : LocateWordCall flags list i answer) where
    module _ (start size : ℕ) (e : answer ≡ Ok (record { start = start; length = size })) where
      pub part_inside : start + size ≤ length list.places
      unfolding WordInside
      part_inside = rw e at w.word_inside

      pub word_part : WordCall flags list i (take (start + size - start) (drop start list.places))
      unfolding word_answer word_bytes place_bytes
      word_part = go (listed_word flags list i) refl (sym e ∙ w.word_located)
        where
          go : (o : Answer (List ℕ)) → listed_word flags list i ≡ o → Ok (record { start = start; length = size }) ≡ word_answer i o
              → take (start + size - start) (drop start list.places) ≡ word_bytes o
          go (good bs) f g =
              let same : ◌≡◌ {A = WordAt} (record { start = start; length = size }) (record { start = 32 * i; length = length bs }) = cc in
              let from : start ≡ 32 * i = ap (λ (w : WordAt). w.start) same in
              let long : size ≡ length bs = ap (λ (w : WordAt). w.length) same in
              let is : bs ≡ place_bytes list i = place_word bs f in
              let all : start + size - start ≡ length (place_bytes list i) = omega (arith, ap length is) in
              ap₂ (λ (k s : ℕ). take k (drop s list.places)) all from ∙ taken_again (place_length list i) (drop (32 * i) list.places) ∙ sym is
          go (refused n p) f g = absurd cc

    pub no_part : (refusal : Refusal) → answer ≡ Err refusal → WordCall flags list i ([])
    unfolding word_answer word_bytes
    no_part refusal e = go (listed_word flags list i) (sym e ∙ w.word_located)
      where
        go : (o : Answer (List ℕ)) → Err refusal ≡ word_answer i o → [] ≡ word_bytes o
        go (good bs) g = absurd cc
        go (refused n p) g = refl
