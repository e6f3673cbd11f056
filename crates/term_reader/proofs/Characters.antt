-- The characters of a 107, and their rows.
use mathlib.Core.Path.{◌≡◌, refl, sym, ap, ap₂, ◌∙◌}
use mathlib.Core.List.{List, [], ◌∷◌, ◌++◌}
use Prim.Native.Nat.{ℕ, zero, suc, ◌+◌, ◌-◌, ◌≤◌, ◌<◌}
use native.Mathlib.Omega.{arith}
use native.Mathlib.Numerals.{add-one}
use lib.IntN.{pos}
use lib.ListN.{length, set, length-set}
use lib.Seq.{sets}
use borrow.Author.Tests.{lt-ltb, le-ltb}
use Rattle.term_spec.specs.Tree.{node, empty, ◌▹◌, count, sizes, EachNode, EachNodes}
use Rattle.term_spec.specs.Term.{integer}
use Rattle.term_spec.specs.Answer.{good, refused, at_offset}
use Rattle.term_spec.specs.Head.{Given, characters}
use Rattle.term_spec.specs.Reading.{character_at, row, string}
use Rattle.term_spec.specs.Message.{Terms}
use Rattle.term_spec.specs.Rows.{rows, kind_of, kind_at, offset_of, whole_code, pack, word, row_words, Placed}
use Rattle.term_spec.proofs.Steps.{spot}
use Rattle.term_spec.proofs.Tests.{by_less}
use Rattle.octets.proofs.Stores.{sets_at}
use Rattle.term_head.specs.Code.{refusal}
use Rattle.term_reader.specs.Code.{PartsStep, got_parts}
use Rattle.term_reader.specs.Code.{whole_of, character_words, inner, Done, PartsDone}

pub code_of_whole : (w : ℕ) → whole_code (whole_of w) ≡ w
unfolding whole_of whole_code
code_of_whole zero = refl
code_of_whole (suc n) = omega arith

-- ---- a row is taken

module _ (given : Given) (cap p at : ℕ) (left : List ℕ) (r : ℕ) where
  pub row_free : r < cap → row given cap p (spot at left r) ≡ good (tt, spot at left (r + 1))
  unfolding row
  row_free h = rw (lt-ltb r cap h, row)

  pub row_none : cap ≤ r → row given cap p (spot at left r) ≡ refused 9 p
  unfolding row
  row_none h = rw (le-ltb r cap h, row)

-- ---- the characters

-- the terms of characters, the first one's byte at `at`
unfoldable pub characters_from : ℕ → List ℕ → Terms
characters_from at [] = empty
characters_from at (c ∷ cs) = node (integer (pos c), character_at at) empty ▹ characters_from (at + 1) cs

module _ (given : Given) (cap d p at : ℕ) (left : List ℕ) where
  pub string_fits : (off : ℕ) (cs : List ℕ) (r : ℕ) → r + length cs ≤ cap
      → string given cap (suc d) p off cs (spot at left r) ≡ good (characters_from off cs, spot at left (r + length cs))
  unfolding string characters_from
  string_fits off [] r h = ap (λ (k : ℕ). good (empty, spot at left k)) (omega arith)
  string_fits off (c ∷ cs) r h =
      let e : r + 1 + length cs ≡ r + suc (length cs) = omega arith in
      rw (row_free given cap p at left r (omega arith), string_fits (off + 1) cs (r + 1) (omega arith), e)

  pub string_full : (off : ℕ) (cs : List ℕ) (r : ℕ) → r ≤ cap → cap < r + length cs
      → string given cap (suc d) p off cs (spot at left r) ≡ refused 9 p
  unfolding string
  string_full off [] r h f = absurd (omega arith)
  string_full off (c ∷ cs) r h f =
      by_less r cap
      (λ less. rw (row_free given cap p at left r less, string_full (off + 1) cs (r + 1) (omega arith) (omega arith)))
      (λ over. rw (row_none given cap p at left r over))

pub sizes_characters : (off : ℕ) (cs : List ℕ) → sizes (characters_from off cs) ≡ length cs
unfolding characters_from
sizes_characters off [] = refl
sizes_characters off (c ∷ cs) = omega (arith, sizes_characters (off + 1) cs)

pub count_characters : (off : ℕ) (cs : List ℕ) → count (characters_from off cs) ≡ length cs
unfolding characters_from
count_characters off [] = refl
count_characters off (c ∷ cs) = ap suc (count_characters (off + 1) cs)

pub placed_characters : (off : ℕ) (cs : List ℕ) → off + length cs ≤ 65536 → EachNodes (Placed 65536) (characters_from off cs)
unfolding characters_from EachNode offset_of
placed_characters off [] h = tt
placed_characters off (c ∷ cs) h = ((omega arith, tt), placed_characters (off + 1) cs (omega arith))

-- ---- their words

pub words_characters : (whole n off : ℕ) (cs : List ℕ) → row_words (rows (whole_of whole) n (characters_from off cs)) ≡ character_words whole off (length cs)
unfolding characters_from character_words rows row_words word kind_at offset_of
words_characters whole n off [] = refl
words_characters whole n off (c ∷ cs) =
    ap₂ (λ (w : ℕ) (ws : List ℕ). w ∷ ws) (ap (λ (k : ℕ). pack 14 off k 0 1) (code_of_whole whole)) (words_characters whole (n + 1) (off + 1) cs)

length_words : (whole off n : ℕ) → length (character_words whole off n) ≡ n
unfolding character_words
length_words whole off zero = refl
length_words whole off (suc n) = ap suc (length_words whole (off + 1) n)

words_more : (whole off n : ℕ) → character_words whole off (suc n) ≡ character_words whole off n ++ (pack 14 (off + n) whole 0 1 ∷ [])
unfolding character_words
words_more whole off zero = ap (λ (k : ℕ). pack 14 k whole 0 1 ∷ []) (omega arith)
words_more whole off (suc n) =
    let e : off + 1 + n ≡ off + suc n = omega arith in
    ap (λ (ws : List ℕ). pack 14 off whole 0 1 ∷ ws) (words_more whole (off + 1) n ∙ ap (λ (k : ℕ). character_words whole (off + 1) n ++ (pack 14 k whole 0 1 ∷ [])) e)

-- a table of which the rows of the first i characters are stored
pub record Put (T : List ℕ) (at row whole : ℕ) (T' : List ℕ) (i : ℕ) : Type 0 where
  pub stores : T' ≡ sets T row (character_words whole at i)
  pub long : length T' ≡ length T

pub put_none : (T : List ℕ) (at row whole : ℕ) → Put T at row whole T 0
unfolding character_words
put_none T at row whole = record { stores = refl; long = refl }

pub put_more : (T : List ℕ) (at row whole : ℕ) (T' : List ℕ) (i w : ℕ) → w ≡ pack 14 (at + i) whole 0 1 → Put T at row whole T' i → Put T at row whole (set T' (row + i) w) (i + 1)
put_more T at row whole T' i w e p =
    let l : row + length (character_words whole at i) ≡ row + i = ap (λ (k : ℕ). row + k) (length_words whole at i) in
    record {
      stores = ap₂ (λ (t : List ℕ) (v : ℕ). set t (row + i) v) p.stores e
          ∙ sets_at T row (character_words whole at i) (pack 14 (at + i) whole 0 1 ∷ []) (row + i) l
          ∙ ap (λ (ws : List ℕ). sets T row ws) (sym (words_more whole at i) ∙ ap (λ (k : ℕ). character_words whole at k) (sym (add-one i)));
      long = length-set T' (row + i) w ∙ p.long;
    }

pub put_all : (T : List ℕ) (at row whole : ℕ) (T' : List ℕ) (i n : ℕ) → Put T at row whole T' i → i ≤ n → n ≤ i → T' ≡ sets T row (character_words whole at n)
put_all T at row whole T' i n p h f = let e : i ≡ n = omega arith in p.stores ∙ ap (λ (k : ℕ). sets T row (character_words whole at k)) e

-- ---- one law for each way through `read_characters`

module _ (given : Given) (m cs : List ℕ) (before cap row whole deep place next : ℕ) (T T' : List ℕ) (n : ℕ) (same : length cs ≡ n) where
  abbrev Read : PartsStep → Type 0
  Read r = PartsDone m before cap row whole T (inner given cap deep place (characters cs) (at_offset m next row)) r T'

  pub characters_none : n ≡ 0 → next ≤ length m → row ≤ cap → T' ≡ T → Read (got_parts next row before 5)
  unfolding inner string Done rows row_words EachNode kind_of
  characters_none e near low kept = go cs (same ∙ e)
    where
      go : (cs : List ℕ) → length cs ≡ 0 → PartsDone m before cap row whole T (inner given cap deep place (characters cs) (at_offset m next row)) (got_parts next row before 5) T'
      go [] e =
          let a : row ≡ row + 0 = omega arith in
          let b : before ≡ before + 0 = omega arith in
          (cc, record { table_is = kept; stands = ap (λ (k : ℕ). at_offset m next k) a; near = near; room = omega arith; from = tt })
      go (c ∷ cs) e = absurd (omega arith)

  pub characters_deep : (n ≡ 0 → ⊥) → deep ≡ 0 → Read (refusal 8 place)
  unfolding inner string Done
  characters_deep more e = go cs (λ z. more (sym same ∙ z))
    where
      go : (cs : List ℕ) → (length cs ≡ 0 → ⊥) → PartsDone m before cap row whole T (inner given cap deep place (characters cs) (at_offset m next row)) (refusal 8 place) T'
      go [] more = absurd (more refl)
      go (c ∷ cs) more = rw e

  module _ (deeper : deep ≡ 0 → ⊥) where
    string_at : string given cap deep place (place + 3) cs (at_offset m next row) ≡ string given cap (suc (deep - 1)) place (place + 3) cs (at_offset m next row)
    string_at = let e : deep ≡ suc (deep - 1) = omega arith in ap (λ (d : ℕ). string given cap d place (place + 3) cs (at_offset m next row)) e

    pub characters_full : row ≤ cap → cap - row < n → Read (refusal 9 place)
    unfolding inner Done
    characters_full low full = rw (string_at, string_full given cap (deep - 1) place next _ (place + 3) cs row low (omega arith))

    pub characters_got : next ≤ length m → row + n ≤ cap → place + 3 + n ≤ 65536 → T' ≡ sets T row (character_words whole (place + 3) n) → Read (got_parts next (row + n) (before + n) 5)
    unfolding inner Done kind_of
    characters_got near room short stored =
        let ts : Terms = characters_from (place + 3) cs in
        let a : length cs ≡ sizes ts = sym (sizes_characters (place + 3) cs) in
        let b : length cs ≡ count ts = sym (count_characters (place + 3) cs) in
        rw (string_at, string_fits given cap (deep - 1) place next _ (place + 3) cs row (omega arith)) (
          cc,
          record {
            table_is = stored ∙ ap (λ (ws : List ℕ). sets T row ws) (sym (words_characters whole row (place + 3) cs ∙ ap (λ (k : ℕ). character_words whole (place + 3) k) same));
            stands = ap (λ (k : ℕ). at_offset m next (row + k)) a;
            near = near;
            room = omega arith;
            from = placed_characters (place + 3) cs (omega arith);
          },
        )
