-- A common term by the word of its head: one law for each way through `read_quick` and `read_common`, and for a leaf.
use mathlib.Core.Path.{◌≡◌, refl, sym, ap, ◌∙◌}
use mathlib.Core.List.{List, []}
use Prim.Native.Nat.{ℕ, ◌+◌, ◌-◌, ◌/◌, ◌%◌, ◌≤◌, ◌<◌}
use native.Mathlib.Omega.{arith}
use lib.ListN.{length, set, replicate}
use Rattle.term_spec.specs.Tree.{EachNode}
use Rattle.term_spec.specs.Term.{Label}
use Rattle.term_spec.specs.Answer.{at_offset}
use Rattle.term_spec.specs.Head.{Given, Wanted, any, Head, parts, elements, pairs, known, later, term_head}
use Rattle.term_spec.specs.AtomList.{AtomList}
use Rattle.term_spec.specs.Reading.{each, run, string, one_term, body, term}
use Rattle.term_spec.specs.Rows.{rows, kind_of, pack, SmallFields, row_words}
use Rattle.term_spec.proofs.Words.{Between, kind_of_range}
use Rattle.term_head.specs.declared.Wanted.TheVariants.{Any}
use Rattle.term_head.specs.Code.{wanted_of, kind_later, head_of, end_of}
use Rattle.term_head.specs.Quick.{quick_word, Common, some_parts, no_characters, some_elements, some_pairs, Told}
use Rattle.term_head.proofs.Common.{Quickly, quickly}
use Rattle.std.specs.Prelude.{Some, Ok, Err}
use Rattle.term_spec.specs.declared.Refusal.{Refusal}
use Rattle.term_reader.specs.Code.{Step, PartsStep, got, got_parts}
use Rattle.term_reader.specs.Code.{asked, Room, inner, Done, TermDone, RunDone, PartsDone}
use Rattle.term_reader.proofs.Bodies.{body_got}
use Rattle.term_reader.proofs.Inner.{parts_second, parts_got}
use Rattle.term_reader.proofs.Runs.{run_none}

-- ---- what a word says

module _ {w : ℕ} {h : Head} {next : ℕ} (t : Told w h next) where
  pub told_kind : w % 16 ≡ t.kind
  told_kind = omega (arith, t.holds.few_kinds, t.holds.word_is)

  pub told_next : w / 16 % 131072 ≡ next
  told_next = omega (arith, t.holds.few_kinds, t.holds.near, t.holds.word_is)

  pub told_count : w / 2097152 ≡ t.count
  told_count = omega (arith, t.holds.few_kinds, t.holds.near, t.holds.word_is)

is_list : {h : Head} {k c : ℕ} → Common h k c → k ≡ 15 → h ≡ elements c
is_list (some_parts l n) e = absurd (let r : Between 1 13 (kind_of l) = kind_of_range l in omega arith)
is_list no_characters e = absurd (omega arith)
is_list (some_elements n some) e = refl
is_list (some_pairs n some) e = absurd (omega arith)

is_map : {h : Head} {k c : ℕ} → Common h k c → k ≡ 0 → h ≡ pairs c
is_map (some_parts l n) e = absurd (let r : Between 1 13 (kind_of l) = kind_of_range l in omega arith)
is_map no_characters e = absurd (omega arith)
is_map (some_elements n some) e = absurd (omega arith)
is_map (some_pairs n some) e = refl

record RunOf (h : Head) (k c : ℕ) : Type 0 where
  pub l : Label
  pub head_is : h ≡ parts [] c (known l)
  pub kind_is : k ≡ kind_of l

is_run : {h : Head} {k c : ℕ} → Common h k c → (k ≡ 15 → ⊥) → (k ≡ 0 → ⊥) → (c ≡ 0 → ⊥) → RunOf h k c
is_run (some_parts l n) a b some = record { l = l; head_is = refl; kind_is = refl }
is_run no_characters a b some = absurd (some refl)
is_run (some_elements n x) a b some = absurd (a refl)
is_run (some_pairs n x) a b some = absurd (b refl)

-- ---- `read_common`

module _ (given : Given) (cap deep : ℕ) (m : List ℕ) (place row : ℕ) (T : List ℕ) where
  abbrev CommonDone : Head → ℕ → PartsStep → List ℕ → Type 0
  CommonDone h next r U = PartsDone m 0 cap row row T (inner given cap deep place h (at_offset m next row)) r U

  -- a term without parts
  leaf_done : {h : Head} {k c : ℕ} → Common h k c → c ≡ 0 → (next : ℕ) → next ≤ length m → row ≤ cap → CommonDone h next (got_parts next row 0 k) T
  unfolding inner each run string later Done rows row_words EachNode kind_of
  leaf_done (some_parts l n) e next near low =
      rw e (ap (λ (k : ℕ). got_parts next k 0 (kind_of l)) (omega arith), record { table_is = refl; stands = ap (λ (k : ℕ). at_offset m next k) (omega arith); near = near; room = omega arith; from = tt })
  leaf_done no_characters e next near low =
      (ap (λ (k : ℕ). got_parts next k 0 5) (omega arith), record { table_is = refl; stands = ap (λ (k : ℕ). at_offset m next k) (omega arith); near = near; room = omega arith; from = tt })
  leaf_done (some_elements n some) e next near low = absurd (some e)
  leaf_done (some_pairs n some) e next near low = absurd (some e)

  module _ (w : ℕ) {h : Head} {next : ℕ} (t : Told w h next) where
    pub common_leaf : w / 2097152 ≡ 0 → next ≤ length m → row ≤ cap → CommonDone h next (got_parts (w / 16 % 131072) row 0 (w % 16)) T
    common_leaf e near low = rw (told_next t, told_kind t) (leaf_done t.common (sym (told_count t) ∙ e) next near low)

    pub common_list : (r : PartsStep) (U : List ℕ) → w % 16 ≡ 15 → CommonDone (elements (w / 2097152)) (w / 16 % 131072) r U → CommonDone h next r U
    common_list r U e d = rw (is_list t.common (sym (told_kind t) ∙ e)) (rw (told_next t, told_count t) at d)

    pub common_pairs : (r : PartsStep) (U : List ℕ) → w % 16 ≡ 0 → CommonDone (pairs (w / 2097152)) (w / 16 % 131072) r U → CommonDone h next r U
    common_pairs r U e d = rw (is_map t.common (sym (told_kind t) ∙ e)) (rw (told_next t, told_count t) at d)

    module _ (some : w / 2097152 ≡ 0 → ⊥) (no_list : w % 16 ≡ 15 → ⊥) (no_map : w % 16 ≡ 0 → ⊥) (near : next ≤ length m) (low : row ≤ cap) (r : Step) (T' : List ℕ)
        (d : RunDone m (w / 2097152) cap row row T (each (term given cap deep) (replicate (w / 2097152) (wanted_of Any)) (at_offset m (w / 16 % 131072) row)) r T') where
      ran : RunDone m t.count cap row row T (each (term given cap deep) (replicate t.count (wanted_of Any)) (at_offset m next row)) r T'
      ran = rw (told_next t, told_count t) at d

      it : RunOf h t.kind t.count
      it = is_run t.common (λ e. no_list (told_kind t ∙ e)) (λ e. no_map (told_kind t ∙ e)) (λ e. some (told_count t ∙ e))

      none_wanted : RunDone m 0 cap row row T (each (term given cap deep) (asked 0) (at_offset m next row)) (got next row) T
      unfolding asked
      none_wanted = run_none (term given cap deep) any m cap row row next T 0 refl low near

      pub common_refused : (x : Refusal) (U : List ℕ) → r ≡ Err x → CommonDone h next (Err x) U
      unfolding asked
      common_refused x U e = rw it.head_is (parts_second given cap deep m place next row T 0 t.count (known it.l) (got next row) T none_wanted next row refl r T' ran x U e)

      pub common_got : (next' end : ℕ) → r ≡ got next' end → CommonDone h next (got_parts next' end (w / 2097152) (w % 16)) T'
      unfolding asked end_of later kind_later
      common_got next' end e =
          let z : 0 + t.count ≡ t.count = omega arith in
          rw (it.head_is, told_kind t, told_count t)
          (rw z at (parts_got given cap deep m place next row T 0 t.count (known it.l) (got next row) T none_wanted next row refl r T' ran next' end e (Ok next') refl t.kind next' it.kind_is refl))

-- ---- `read_quick`, and a leaf in `read_run`, `read_entry` and `read_wanted`

module _ (given : Given) (w : Wanted) (m : List ℕ) (at row word : ℕ) (is : Some word ≡ quick_word (head_of (term_head given w (at_offset m at row)))) where
  abbrev pub opened_quickly : Quickly given w m at row word
  opened_quickly = quickly given w m at row word is

  pub quick_near : word / 16 % 131072 ≤ length m
  quick_near = omega (arith, opened_quickly.near, told_next opened_quickly.told_by)

  pub quick_inside : at < length m
  quick_inside = omega (arith, opened_quickly.near, opened_quickly.further)

  module _ (cap left whole : ℕ) (T : List ℕ) where
    pub quick_term : (r : Step) (U : List ℕ) → TermDone m cap row whole T (body given cap left at opened_quickly.h (at_offset m opened_quickly.next row)) r U
        → TermDone m cap row whole T (term given cap left w (at_offset m at row)) r U
    unfolding one_term
    quick_term r U d = rw opened_quickly.opens d

    pub quick_leaf : word < 2097152 → (left ≡ 0 → ⊥) → row < cap → at < 65536 → (v : ℕ) → v ≡ pack (word % 16) at whole 0 1
        → TermDone m cap row whole T (term given cap left w (at_offset m at row)) (got (word / 16) (row + 1)) (set T row v)
    quick_leaf little some_left low near v f =
        let a : word / 16 ≡ word / 16 % 131072 = omega arith in
        let b : row + 1 - row ≡ 1 = omega arith in
        rw a (quick_term _ _
        (body_got given cap left m at opened_quickly.h opened_quickly.next row whole T some_left low (got_parts (word / 16 % 131072) (row + 1) 0 (word % 16)) T
        (common_leaf given cap (left - 1) m at (row + 1) T word opened_quickly.told_by (omega arith) opened_quickly.near (omega arith))
        (word / 16 % 131072) (row + 1) 0 (word % 16) v refl near (f ∙ ap (λ (k : ℕ). pack (word % 16) at whole 0 k) (sym b))))

-- the fields of a leaf's row are within their bits
pub leaf_small : (m : List ℕ) (list : AtomList) (T : List ℕ) (cap at row whole w : ℕ) → Room m list T cap at row whole → at < length m → SmallFields (w % 16) at whole 0 1
leaf_small m list T cap at row whole w room inside =
    let a : whole ≤ row = room.inside in
    let b : row ≤ cap = room.low in
    let c : cap ≤ 8192 = room.few in
    let d : length m ≤ 65536 = room.short in
    record { small_kind = omega arith; small_offset = omega arith; small_whole = omega arith; small_parts = omega arith; small_size = omega arith }
