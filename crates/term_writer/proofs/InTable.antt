-- What a table says of the terms whose rows stand in it.
use mathlib.Core.Path.{◌≡◌, refl, sym, ◌∙◌, ap₂}
use mathlib.Core.Bool.{Bool, true, false, cond}
use mathlib.Core.List.{List}
use mathlib.Core.Option.{some}
use Prim.Native.Nat.{ℕ, suc, ◌+◌, ◌≤◌, ◌<◌}
use native.Mathlib.Omega.{arith}
use lib.Dec.{eqb}
use borrow.Author.Tests.{eqb-true}
use lib.ListN.{length, get_or}
use Rattle.term_spec.specs.Tree.{Forest, node, ◌▹◌, count, size, sizes, EachNode}
use Rattle.term_spec.specs.Term.{Label, integer, float, atom, tuple, list, improper_list, binary, bitstring, map, pid, port, reference, export}
use Rattle.term_spec.specs.Reading.{Offset, tag_at, character_at, Located}
use Rattle.term_spec.specs.Message.{Terms, all_as_read}
use Rattle.term_spec.specs.Rows.{kind_of, kind_at, offset_of, whole_code, kind_in, whole_in, parts_in, size_in}
use Rattle.term_spec.specs.Valid.{Fits, Improper}
use Rattle.term_spec.proofs.Rows.{count_le_sizes, count_relabels}
use Rattle.term_spec.proofs.Words.{Between, kind_at_range, SmallRow, WordOf, row_of, first_here, others_here, parts_here, node_packed, node_below}
use Rattle.term_spec.specs.AtomList.{AtomList}
use Rattle.row_fields.specs.Found.{content_of}
use Rattle.row_fields.specs.Meaning.{bare, label_of}
use Rattle.row_fields.specs.declared.Content.{Content}
use Rattle.row_fields.specs.declared.Content.TheVariants.{Nothing, Whole, Big, Float, Text, Bytes, Bits, Pid, Port, Reference}
use Rattle.canonical_fields.specs.Sound.{listed_in, content_in, label_in, SoundWord}
use Rattle.term_writer.specs.InTable.{Writable, TermInTable, RunInTable}

-- ---- kinds and labels

pub kind_list : (l : Label) → kind_of l ≡ 5 → l ≡ list
unfolding kind_of
kind_list (integer z) e = absurd (omega arith)
kind_list (float b) e = absurd (omega arith)
kind_list (atom cs) e = absurd (omega arith)
kind_list tuple e = absurd (omega arith)
kind_list list e = refl
kind_list improper_list e = absurd (omega arith)
kind_list (binary bs) e = absurd (omega arith)
kind_list (bitstring n bs) e = absurd (omega arith)
kind_list map e = absurd (omega arith)
kind_list (pid i s c) e = absurd (omega arith)
kind_list (port i c) e = absurd (omega arith)
kind_list (reference c ws) e = absurd (omega arith)
kind_list export e = absurd (omega arith)

pub kind_improper : (l : Label) → kind_of l ≡ 6 → l ≡ improper_list
unfolding kind_of
kind_improper (integer z) e = absurd (omega arith)
kind_improper (float b) e = absurd (omega arith)
kind_improper (atom cs) e = absurd (omega arith)
kind_improper tuple e = absurd (omega arith)
kind_improper list e = absurd (omega arith)
kind_improper improper_list e = refl
kind_improper (binary bs) e = absurd (omega arith)
kind_improper (bitstring n bs) e = absurd (omega arith)
kind_improper map e = absurd (omega arith)
kind_improper (pid i s c) e = absurd (omega arith)
kind_improper (port i c) e = absurd (omega arith)
kind_improper (reference c ws) e = absurd (omega arith)
kind_improper export e = absurd (omega arith)

pub kind_map : (l : Label) → kind_of l ≡ 9 → l ≡ map
unfolding kind_of
kind_map (integer z) e = absurd (omega arith)
kind_map (float b) e = absurd (omega arith)
kind_map (atom cs) e = absurd (omega arith)
kind_map tuple e = absurd (omega arith)
kind_map list e = absurd (omega arith)
kind_map improper_list e = absurd (omega arith)
kind_map (binary bs) e = absurd (omega arith)
kind_map (bitstring n bs) e = absurd (omega arith)
kind_map map e = refl
kind_map (pid i s c) e = absurd (omega arith)
kind_map (port i c) e = absurd (omega arith)
kind_map (reference c ws) e = absurd (omega arith)
kind_map export e = absurd (omega arith)

-- a map is found only where its row has its kind
bare_map : (k : ℕ) → bare k ≡ map → k ≡ 9
unfolding bare
bare_map k e = go (eqb k 4) (eqb k 5) (eqb k 6) (eqb k 9) refl e
  where
    go : (a b c d : Bool) → eqb k 9 ≡ d → cond a tuple (cond b list (cond c improper_list (cond d map export))) ≡ map → k ≡ 9
    go true b c d f e = let no_way : ◌≡◌ {A = ℕ} 0 1 = cc in absurd (omega arith)
    go false true c d f e = let no_way : ◌≡◌ {A = ℕ} 0 1 = cc in absurd (omega arith)
    go false false true d f e = let no_way : ◌≡◌ {A = ℕ} 0 1 = cc in absurd (omega arith)
    go false false false true f e = eqb-true k 9 f
    go false false false false f e = let no_way : ◌≡◌ {A = ℕ} 0 1 = cc in absurd (omega arith)

found_map : (m : List ℕ) (atoms : AtomList) (k : ℕ) (c : Content) → label_of m atoms k c ≡ map → k ≡ 9
unfolding label_of
found_map m atoms k Nothing e = bare_map k e
found_map m atoms k (Whole negative n) e = let no_way : ◌≡◌ {A = ℕ} 0 1 = cc in absurd (omega arith)
found_map m atoms k (Big negative start n) e = let no_way : ◌≡◌ {A = ℕ} 0 1 = cc in absurd (omega arith)
found_map m atoms k (Float bits) e = let no_way : ◌≡◌ {A = ℕ} 0 1 = cc in absurd (omega arith)
found_map m atoms k (Text latin1 listed start n) e = let no_way : ◌≡◌ {A = ℕ} 0 1 = cc in absurd (omega arith)
found_map m atoms k (Bytes start n) e = let no_way : ◌≡◌ {A = ℕ} 0 1 = cc in absurd (omega arith)
found_map m atoms k (Bits bits start n) e = let no_way : ◌≡◌ {A = ℕ} 0 1 = cc in absurd (omega arith)
found_map m atoms k (Pid id serial creation) e = let no_way : ◌≡◌ {A = ℕ} 0 1 = cc in absurd (omega arith)
found_map m atoms k (Port id creation) e = let no_way : ◌≡◌ {A = ℕ} 0 1 = cc in absurd (omega arith)
found_map m atoms k (Reference creation start n) e = let no_way : ◌≡◌ {A = ℕ} 0 1 = cc in absurd (omega arith)

pub tag_kind : (l : Label) (p : Offset) (k : ℕ) → k < 14 → kind_at l p ≡ k → kind_of l ≡ k
unfolding kind_at
tag_kind l (tag_at p) k h e = e
tag_kind l (character_at p) k h e = absurd (omega arith)

improper_parts : (flags : ℕ) (l : Label) (ts : Forest Label) → l ≡ improper_list → Fits flags l ts → 0 < count ts
improper_parts flags l ts e f = go ts (rw e at f).1
  where
    go : (ts : Forest Label) → Improper ts → 0 < count ts
    go Forest.empty h = absurd h
    go (t ▹ ts) h = omega arith

module _ {m places lengths T : List ℕ} where
  -- a run's first term, the others; a term's parts
  pub run_first : {row : ℕ} {t : Located} {ts : Terms} → RunInTable m places lengths T row (t ▹ ts) → TermInTable m places lengths T row t
  unfolding EachNode
  run_first {row} {t} {ts} h =
      let f : row + (size t + sizes ts) ≤ 8192 = h.run_few in
      record { whole = h.run_whole; above = h.run_above; stands = first_here h.run_stands; few = omega arith; flags = h.run_flags; nodes = h.run_nodes.0 }

  pub run_others : {row : ℕ} {t : Located} {ts : Terms} → RunInTable m places lengths T row (t ▹ ts) → RunInTable m places lengths T (row + size t) ts
  unfolding EachNode
  run_others {row} {t} {ts} h =
      let f : row + (size t + sizes ts) ≤ 8192 = h.run_few in
      let a : whole_code h.run_whole ≤ row = h.run_above in
      record { run_whole = h.run_whole; run_above = omega arith; run_stands = others_here h.run_stands; run_few = omega arith; run_flags = h.run_flags; run_nodes = h.run_nodes.1 }

  module _ {row : ℕ} {l : Label × Offset} {ts : Terms} (h : TermInTable m places lengths T row (node l ts)) where
    pub held_parts : RunInTable m places lengths T (row + 1) ts
    unfolding EachNode whole_code
    held_parts =
        let f : row + suc (sizes ts) ≤ 8192 = h.few in
        record { run_whole = some row; run_above = omega arith; run_stands = parts_here h.stands; run_few = omega arith; run_flags = h.flags; run_nodes = h.nodes.1 }

    pub held_writable : Writable m places lengths h.flags l ts
    unfolding EachNode
    held_writable = h.nodes.0

    -- a map's row has its kind
    pub held_map : l.0 ≡ map → kind_at l.0 l.1 ≡ 9
    held_map e = found_map m (listed_in places) (kind_at l.0 l.1) (content_of m places lengths (kind_at l.0 l.1) (offset_of l.1)) (held_writable.says ∙ e)

    pub held_below : row < length T
    held_below = node_below h.stands

    held_small : SmallRow (row_of h.whole l ts)
    held_small =
        let c : count ts ≤ sizes ts = count_le_sizes ts in
        let k : Between 1 14 (kind_at l.0 l.1) = kind_at_range l.0 l.1 in
        let o : offset_of l.1 < 65536 = held_writable.near in
        let f : row + suc (sizes ts) ≤ 8192 = h.few in
        let a : whole_code h.whole ≤ row = h.above in
        record { small_kind = omega arith; small_offset = omega arith; small_whole = omega arith; small_parts = omega arith; small_size = omega arith }

    held_packed : WordOf (row_of h.whole l ts) (get_or T row 0)
    held_packed = node_packed h.stands held_small

    pub held_kind : kind_in (get_or T row 0) ≡ kind_at l.0 l.1
    held_kind = held_packed.kind_is

    pub held_count : parts_in (get_or T row 0) ≡ count ts
    held_count = held_packed.parts_is

    pub held_size : size_in (get_or T row 0) ≡ suc (sizes ts)
    held_size = held_packed.size_is

    pub held_whole : whole_in (get_or T row 0) ≡ whole_code h.whole
    held_whole = held_packed.whole_is

    held_content : content_in m places lengths (get_or T row 0) ≡ content_of m places lengths (kind_at l.0 l.1) (offset_of l.1)
    held_content = ap₂ (λ (k o : ℕ). content_of m places lengths k o) held_kind held_packed.offset_is

    pub held_label : label_in m places lengths (get_or T row 0) ≡ l.0
    held_label = rw (held_content, held_kind) held_writable.says

    pub held_sound : SoundWord m places lengths (get_or T row 0)
    held_sound = record { sound = rw held_content held_writable.sound; some_parts = λ e. some_of (sym held_kind ∙ e) }
      where
        some_of : kind_at l.0 l.1 ≡ 6 → 0 < parts_in (get_or T row 0)
        some_of e =
            let i : l.0 ≡ improper_list = kind_improper l.0 (tag_kind l.0 l.1 6 (omega arith) e) in
            let n : 0 < count (all_as_read ts) = improper_parts h.flags l.0 (all_as_read ts) i held_writable.fits in
            let c = count_relabels (λ (x : Label × Offset). x.0) ts in
            let d = held_count in
            omega arith
