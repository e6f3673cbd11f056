-- Rows as words of 64 bits, and the table that holds them.
use mathlib.Core.Path.{◌≡◌, refl, sym, ◌∙◌, ap}
use mathlib.Core.List.{List, [], ◌∷◌, ◌++◌, append_assoc}
use mathlib.Core.Option.{Option, none, some}
use Prim.Native.Nat.{ℕ, zero, suc, ◌+◌, ◌-◌, ◌≤◌, ◌<◌}
use native.Mathlib.Omega.{arith}
use lib.ListN.{length, get_or, take, drop, replicate, length-drop}
use lib.Seq.{sets, sets-eq, get_or-drop, drop-drop, drop-append_seam, drop_at, length-take-le, get_or-append-add}
use Rattle.term_spec.specs.Tree.{Forest, node, ◌▹◌, ◌▹▹◌, count, size, sizes, EachNode, EachNodes}
use Rattle.term_spec.specs.Term.{Label, integer, float, atom, tuple, list, improper_list, binary, bitstring, map, pid, port, reference, export}
use Rattle.term_spec.specs.Answer.{good}
use Rattle.term_spec.specs.Reading.{Offset, tag_at, character_at, Located}
use Rattle.term_spec.specs.Message.{Terms}
use Rattle.term_spec.specs.Rows.{Row, tree_rows, rows, kind_of, kind_at, offset_of, whole_code, pack, SmallFields, kind_in, offset_in, whole_in, parts_in, size_in, word, row_words, table_after, Placed, Here, TreeHere, RowsHere}
use Rattle.term_spec.proofs.Rows.{count_le_sizes, length_tree_rows, length_rows, rows_join}

-- ---- a word

-- each field of a word is taken out again
pub record Packed (word kind offset whole parts size : ℕ) : Type 0 where
  pub kind_is : kind_in word ≡ kind
  pub offset_is : offset_in word ≡ offset
  pub whole_is : whole_in word ≡ whole
  pub parts_is : parts_in word ≡ parts
  pub size_is : size_in word ≡ size

pub pack_packed : (k o w p s : ℕ) → SmallFields k o w p s → Packed (pack k o w p s) k o w p s
unfolding pack kind_in offset_in whole_in parts_in size_in
pack_packed k o w p s h =
    record {
      kind_is = omega arith;
      offset_is = omega arith;
      whole_is = omega arith;
      parts_is = omega arith;
      size_is = omega arith;
    }

-- ---- kinds

abbrev pub Between : ℕ → ℕ → ℕ → Type 0
Between least most n = (least ≤ n) × (n ≤ most)

pub kind_of_range : (l : Label) → Between 1 13 (kind_of l)
unfolding kind_of
kind_of_range (integer z) = (omega arith, omega arith)
kind_of_range (float bits) = (omega arith, omega arith)
kind_of_range (atom cs) = (omega arith, omega arith)
kind_of_range tuple = (omega arith, omega arith)
kind_of_range list = (omega arith, omega arith)
kind_of_range improper_list = (omega arith, omega arith)
kind_of_range (binary bs) = (omega arith, omega arith)
kind_of_range (bitstring n bs) = (omega arith, omega arith)
kind_of_range map = (omega arith, omega arith)
kind_of_range (pid i s c) = (omega arith, omega arith)
kind_of_range (port i c) = (omega arith, omega arith)
kind_of_range (reference c ws) = (omega arith, omega arith)
kind_of_range export = (omega arith, omega arith)

pub kind_at_range : (l : Label) (p : Offset) → Between 1 14 (kind_at l p)
unfolding kind_at
kind_at_range l (tag_at p) = let h : Between 1 13 (kind_of l) = kind_of_range l in (omega arith, omega arith)
kind_at_range l (character_at p) = (omega arith, omega arith)

pub kind_of_tag : (l : Label) (p : ℕ) → kind_at l (tag_at p) ≡ kind_of l
unfolding kind_at
kind_of_tag l p = refl

pub tag_of_kind : (l : Label) (p : Offset) → (kind_at l p ≡ 14 → ⊥) → p ≡ tag_at (offset_of p)
unfolding kind_at offset_of
tag_of_kind l (tag_at p) other = refl
tag_of_kind l (character_at p) other = absurd (other refl)

-- ---- the word of a row

abbrev pub SmallRow : Row → Type 0
SmallRow r = SmallFields (kind_at r.label r.place) (offset_of r.place) (whole_code r.whole) r.parts r.size

abbrev pub WordOf : Row → ℕ → Type 0
WordOf r w = Packed w (kind_at r.label r.place) (offset_of r.place) (whole_code r.whole) r.parts r.size

pub word_packed : (r : Row) → SmallRow r → WordOf r (word r)
unfolding word
word_packed r h = pack_packed _ _ _ _ _ h

-- ---- the rows of a message are small

module _ (P : Row → Type 0) where
  unfoldable pub EachRow : List Row → Type 0
  EachRow [] = Unit {0}
  EachRow (r ∷ rs) = P r × EachRow rs

  pub each_row_join : (rs qs : List Row) → EachRow rs → EachRow qs → EachRow (rs ++ qs)
  unfolding EachRow
  each_row_join [] qs h g = g
  each_row_join (r ∷ rs) qs h g = (h.0, each_row_join rs qs h.1 g)

  pub each_row_at : (rs : List Row) (i : ℕ) (d : Row) → i < length rs → EachRow rs → P (get_or rs i d)
  unfolding EachRow
  each_row_at [] i d h g = absurd (omega arith)
  each_row_at (r ∷ rs) zero d h g = g.0
  each_row_at (r ∷ rs) (suc i) d h g = each_row_at rs i d (omega arith) g.1

mutual
  unfolding tree_rows EachNode EachRow whole_code

  small_tree_rows : (whole : Option ℕ) (n : ℕ) (t : Located) → whole_code whole ≤ n → n + size t ≤ 8192 → EachNode (Placed 65536) t
      → EachRow SmallRow (tree_rows whole n t)
  small_tree_rows whole n (node l ts) w h p =
      let c : count ts ≤ sizes ts = count_le_sizes ts in
      let k : Between 1 14 (kind_at l.0 l.1) = kind_at_range l.0 l.1 in
      let o : offset_of l.1 < 65536 = p.0 in (
        record { small_kind = omega arith; small_offset = omega arith; small_whole = omega arith; small_parts = omega arith; small_size = omega arith },
        small_rows (some n) (n + 1) ts (omega arith) (omega arith) p.1,
      )

  pub small_rows : (whole : Option ℕ) (n : ℕ) (ts : Terms) → whole_code whole ≤ n → n + sizes ts ≤ 8192 → EachNodes (Placed 65536) ts
      → EachRow SmallRow (rows whole n ts)
  small_rows whole n Forest.empty w h p = tt
  small_rows whole n (t ▹ ts) w h p =
      each_row_join SmallRow (tree_rows whole n t) (rows whole (n + size t) ts)
      (small_tree_rows whole n t w (omega arith) p.0)
      (small_rows whole (n + size t) ts (omega arith) (omega arith) p.1)

-- ---- words one after the other

pub words_of_join : (rs qs : List Row) → row_words (rs ++ qs) ≡ row_words rs ++ row_words qs
unfolding row_words
words_of_join [] qs = refl
words_of_join (r ∷ rs) qs = ap (λ (ws : List ℕ). word r ∷ ws) (words_of_join rs qs)

pub length_words_of : (rs : List Row) → length (row_words rs) ≡ length rs
unfolding row_words
length_words_of [] = refl
length_words_of (r ∷ rs) = ap suc (length_words_of rs)

pub words_of_at : (rs : List Row) (i : ℕ) (d : Row) (ws : List ℕ) → i < length rs → get_or (row_words rs ++ ws) i 0 ≡ word (get_or rs i d)
unfolding row_words
words_of_at [] i d ws h = absurd (omega arith)
words_of_at (r ∷ rs) zero d ws h = refl
words_of_at (r ∷ rs) (suc i) d ws h = words_of_at rs i d ws (omega arith)

-- ---- a list that stands in another from an index on

module _ {T : List ℕ} {a : ℕ} where
  pub here_word : {x : ℕ} {xs : List ℕ} → Here T a (x ∷ xs) → get_or T a 0 ≡ x
  here_word h =
      let e : a ≡ a + 0 = omega arith in
      ap (λ (k : ℕ). get_or T k 0) e ∙ sym (get_or-drop a T 0 0) ∙ ap (λ (l : List ℕ). get_or l 0 0) h.stands

  pub here_below : {x : ℕ} {xs : List ℕ} → Here T a (x ∷ xs) → a < length T
  here_below {xs = xs} h =
      let e : length T - a ≡ suc (length (xs ++ h.after)) = sym (length-drop a T) ∙ ap length h.stands in
      omega arith

  pub here_rest : {x : ℕ} {xs : List ℕ} → Here T a (x ∷ xs) → Here T (a + 1) xs
  here_rest h = record { after = h.after; stands = sym (drop-drop 1 a T) ∙ ap (λ (l : List ℕ). drop 1 l) h.stands }

  pub here_left : (xs ys : List ℕ) → Here T a (xs ++ ys) → Here T a xs
  here_left xs ys h = record { after = ys ++ h.after; stands = h.stands ∙ append_assoc xs ys h.after }

  pub here_right : (n : ℕ) (xs ys : List ℕ) → length xs ≡ n → Here T a (xs ++ ys) → Here T (a + n) ys
  here_right n xs ys e h =
      record {
        after = h.after;
        stands = rw (← e)
            (sym (drop-drop (length xs) a T)
            ∙ ap (λ (l : List ℕ). drop (length xs) l) (h.stands ∙ append_assoc xs ys h.after)
            ∙ drop-append_seam xs (ys ++ h.after));
      }

-- what was stored stands there
pub sets_here : (T : List ℕ) (a : ℕ) (xs : List ℕ) → a + length xs ≤ length T → Here (sets T a xs) a xs
sets_here T a xs h =
    record {
      after = drop (a + length xs) T;
      stands = ap (λ (l : List ℕ). drop a l) (sets-eq xs T a h ∙ append_assoc (take a T) xs (drop (a + length xs) T))
          ∙ drop_at (take a T) (xs ++ drop (a + length xs) T) a (length-take-le a T (omega arith));
    }

-- ---- where rows stand in a table

-- the row of a term with this label and these parts
abbrev pub row_of : Option ℕ → Label × Offset → Terms → Row
row_of whole l ts = record { label = l.0; place = l.1; whole = whole; parts = count ts; size = suc (sizes ts) }

-- a run of terms after another
module _ {T : List ℕ} {whole : Option ℕ} {n : ℕ} (ts us : Terms) (h : RowsHere T whole n (ts ▹▹ us)) where
  join_here : Here T n (row_words (rows whole n ts) ++ row_words (rows whole (n + sizes ts) us))
  join_here = rw (rows_join, words_of_join) at h.words

  pub left_here : RowsHere T whole n ts
  left_here = record { words = here_left (row_words (rows whole n ts)) (row_words (rows whole (n + sizes ts) us)) join_here }

  pub right_here : RowsHere T whole (n + sizes ts) us
  right_here =
      record {
        words = here_right (sizes ts) (row_words (rows whole n ts)) (row_words (rows whole (n + sizes ts) us))
            (length_words_of (rows whole n ts) ∙ length_rows whole n ts)
            join_here;
      }

module _ {T : List ℕ} {whole : Option ℕ} {n : ℕ} where
  split_here : (t : Located) (ts : Terms) → RowsHere T whole n (t ▹ ts) → Here T n (row_words (tree_rows whole n t) ++ row_words (rows whole (n + size t) ts))
  unfolding rows
  split_here t ts h = rw words_of_join at h.words

  -- the rows of the first tree come first
  pub first_here : {t : Located} {ts : Terms} → RowsHere T whole n (t ▹ ts) → TreeHere T whole n t
  first_here {t} {ts} h = record { tree_words = here_left (row_words (tree_rows whole n t)) (row_words (rows whole (n + size t) ts)) (split_here t ts h) }

  pub others_here : {t : Located} {ts : Terms} → RowsHere T whole n (t ▹ ts) → RowsHere T whole (n + size t) ts
  others_here {t} {ts} h =
      record {
        words = here_right (size t) (row_words (tree_rows whole n t)) (row_words (rows whole (n + size t) ts))
            (length_words_of (tree_rows whole n t) ∙ length_tree_rows whole n t)
            (split_here t ts h);
      }

  -- the row of a term, then those of its parts
  pub node_here : {l : Label × Offset} {ts : Terms} → TreeHere T whole n (node l ts) → get_or T n 0 ≡ word (row_of whole l ts)
  unfolding tree_rows row_words
  node_here h = here_word h.tree_words

  pub node_packed : {l : Label × Offset} {ts : Terms} → TreeHere T whole n (node l ts) → SmallRow (row_of whole l ts) → WordOf (row_of whole l ts) (get_or T n 0)
  node_packed {l} {ts} h s = rw (node_here h) (word_packed (row_of whole l ts) s)

  pub parts_here : {l : Label × Offset} {ts : Terms} → TreeHere T whole n (node l ts) → RowsHere T (some n) (n + 1) ts
  unfolding tree_rows row_words
  parts_here h = record { words = here_rest h.tree_words }

  pub node_below : {l : Label × Offset} {ts : Terms} → TreeHere T whole n (node l ts) → n < length T
  unfolding tree_rows row_words
  node_below h = here_below h.tree_words

-- ---- the table

pub table_rows : (lent : ℕ) (ts : Terms) → RowsHere (table_after lent (good ts)) none 0 ts
unfolding table_after
table_rows lent ts = record { words = record { after = replicate (lent - length (row_words (rows none 0 ts))) 0; stands = refl } }

pub table_row : (lent : ℕ) (ts : Terms) (i : ℕ) (d : Row) → i < sizes ts → get_or (table_after lent (good ts)) i 0 ≡ word (get_or (rows none 0 ts) i d)
unfolding table_after
table_row lent ts i d h = words_of_at (rows none 0 ts) i d _ (rw (length_rows none 0 ts) h)

-- one number throughout
pub getD_all : (n i a : ℕ) → get_or (replicate n a) i a ≡ a
getD_all zero i a = refl
getD_all (suc n) zero a = refl
getD_all (suc n) (suc i) a = getD_all n i a

-- past the rows all is zero
pub table_past : (lent : ℕ) (ts : Terms) (i : ℕ) → sizes ts ≤ i → get_or (table_after lent (good ts)) i 0 ≡ 0
unfolding table_after
table_past lent ts i h =
    let ws : List ℕ = row_words (rows none 0 ts) in
    let k : length ws ≡ sizes ts = length_words_of (rows none 0 ts) ∙ length_rows none 0 ts in
    let e : i ≡ length ws + (i - length ws) = omega arith in
    ap (λ (j : ℕ). get_or (ws ++ replicate (lent - length ws) 0) j 0) e
    ∙ get_or-append-add ws (replicate (lent - length ws) 0) (i - length ws) 0
    ∙ getD_all (lent - length ws) (i - length ws) 0
