-- Standalone terms one after the other, measured and written from the rows of a table.
use mathlib.Core.Path.{◌≡◌, refl, sym, ◌∙◌, ap, ap₂}
use mathlib.Core.Bool.{Bool, true, false}
use mathlib.Core.List.{List, [], ◌∷◌, ◌++◌}
use Prim.Native.Nat.{ℕ, suc, ◌+◌, ◌≤◌, ◌<◌}
use native.Mathlib.Omega.{arith}
use lib.ListN.{length, set, take, drop, length-append}
use lib.Seq.{sets, sets-eq}
use borrow.Author.Tests.{lt-leb}
use Rattle.term_spec.specs.Tree.{Forest, ◌▹◌, count, sizes}
use Rattle.term_spec.specs.Term.{Label, Term}
use Rattle.term_spec.specs.Answer.{Answer, good, refused}
use Rattle.term_spec.specs.Reading.{as_read}
use Rattle.term_spec.specs.Message.{Terms, all_as_read, meanings}
use Rattle.term_spec.specs.Canonical.{bytes_of, all_bytes, canonical, canonical_standalone, standalones}
use Rattle.term_spec.specs.Writing.{Written, written, output_after}
use Rattle.term_spec.specs.Answers.{write_answer}
use Rattle.std.specs.Prelude.{Ok, Err}
use Rattle.term_spec.specs.Pairs.{all_arranged}
use Rattle.term_spec.specs.Meaning.{all_ordered}
use Rattle.term_spec.specs.Valid.{Valids}
use Rattle.term_spec.proofs.Rows.{count_le_sizes}
use Rattle.term_spec.proofs.Canonical.{canonical_ordered}
use Rattle.term_spec.proofs.Lengths.{length_canonical}
use Rattle.term_spec.proofs.Demand.{written_good}
use Rattle.layout.specs.Layout.{Put}
use Rattle.layout.proofs.Puts.{put_then}
use Rattle.term_writer.specs.InTable.{RunInTable}
use Rattle.term_writer.specs.PairOrder.{AllOrdered}
use Rattle.term_writer.specs.Code.{TermPut, TermFits, RunPut, RunFits, RunLength}
use Rattle.key_order.specs.Code as key_order
use Rattle.key_order.specs.Code.{AllInOrder}
use Rattle.table_writer.specs.Code.{SomeRows, RowsFit, RowsPut, RowsWritten}
use Rattle.term_writer.proofs.Strings.{count_as_read}
use Rattle.term_writer.proofs.PairOrder.{writable_valids}

pub standalones_none : standalones Forest.empty ≡ []
unfolding standalones
standalones_none = refl

pub standalones_more : (t : Term) (ts : Forest Label) → standalones (t ▹ ts) ≡ canonical_standalone t ++ standalones ts
unfolding standalones
standalones_more t ts = refl

-- a standalone term is 131 and the term
module _ {m places lengths T : List ℕ} {row : ℕ} (R : List ℕ) where
  pub standalone_put : {O P Q : List ℕ} {at r : ℕ} → P ≡ set O at 131 → TermPut m places lengths T row R canonical P (at + 1) r Q
      → TermPut m places lengths T row R canonical_standalone O at r Q
  unfolding canonical_standalone
  standalone_put {O} {P} {Q} {at} {r} p w t h o =
      let first : Put O at (131 ∷ []) (at + 1) P = record { past = refl; stored = p } in
      put_then first (w t h o)

module _ {m places lengths T R : List ℕ} {row : ℕ} where
  pub standalone_room : (room at : ℕ) → TermFits m places lengths T row R canonical_standalone room at → at + 1 ≤ room
  unfolding canonical_standalone
  standalone_room room at f = let r : at + suc (length (canonical (as_read f.fit_term))) ≤ room = f.fit_room in omega arith

  pub standalone_rest : (room other at : ℕ) → other ≡ room → TermFits m places lengths T row R canonical_standalone room at → TermFits m places lengths T row R canonical other (at + 1)
  unfolding canonical_standalone
  standalone_rest room other at e f =
      let r : at + suc (length (canonical (as_read f.fit_term))) ≤ room = f.fit_room in
      record { fit_term = f.fit_term; fit_held = f.fit_held; fit_ordered = f.fit_ordered; fit_room = omega arith }

-- how long they are, in whichever order their pairs stand
length_standalones : (ts : Forest Label) → length (standalones ts) ≡ count ts + length (all_bytes ts)
unfolding standalones canonical_standalone all_bytes
length_standalones Forest.empty = refl
length_standalones (t ▹ ts) =
    let a = length-append (131 ∷ canonical t) (standalones ts) in
    let b = length-append (bytes_of t) (all_bytes ts) in
    let c = length_standalones ts in
    let d = length_canonical t in
    omega arith

-- those of what valid terms mean are those of the terms as they were read
standalones_ordered : (flags : ℕ) (ts : Forest Label) → Valids flags ts → standalones (all_ordered ts) ≡ standalones ts
unfolding standalones canonical_standalone all_arranged
standalones_ordered flags Forest.empty v = refl
standalones_ordered flags (t ▹ ts) v = ap₂ (λ (x y : List ℕ). (131 ∷ x) ++ y) (canonical_ordered flags t v.0) (standalones_ordered flags ts v.1)

written_short : (room : ℕ) (ts : Terms) → room < length (standalones (meanings ts)) → written room (good ts) ≡ refused 11 0
unfolding written
written_short room ts h =
    ap (λ (z : Bool). elim z as (λ _. Answer Written) [ true ↦ good (record { terms = count ts; bytes = standalones (meanings ts) }) | false ↦ refused 11 0 ])
    (lt-leb (length (standalones (meanings ts))) room h)

front_stored : (O bs : List ℕ) → take 0 O ++ bs ++ drop (0 + length bs) O ≡ bs ++ drop (length bs) O
front_stored O bs = let e : 0 + length bs ≡ length bs = omega arith in rw e

-- bytes stored at the front hide what an output held there
pub front_hides : (O Q bs : List ℕ) → length bs ≤ length O → length Q ≡ length O → drop (length bs) Q ≡ drop (length bs) O → sets Q 0 bs ≡ sets O 0 bs
front_hides O Q bs fit l e =
    sets-eq bs Q 0 (omega arith) ∙ front_stored Q bs ∙ ap (λ (x : List ℕ). bs ++ x) e ∙ sym (front_stored O bs) ∙ sym (sets-eq bs O 0 (omega arith))

module _ {m places lengths T : List ℕ} where
  rows_length : {n inner : ℕ} → RunLength m places lengths T 0 n inner → (ts : Terms) → RunInTable m places lengths T 0 ts → count ts ≡ n
      → n + inner ≡ length (standalones (all_as_read ts))
  rows_length {n} {inner} w ts h c =
      let i = (w ts h c).0 in
      let a = length_standalones (all_as_read ts) in
      let b = count_as_read ts in
      omega arith

  rows_meant : (ts : Terms) → RunInTable m places lengths T 0 ts → standalones (meanings ts) ≡ standalones (all_as_read ts)
  rows_meant ts h = standalones_ordered h.run_flags (all_as_read ts) (writable_valids m places lengths h.run_flags ts h.run_nodes)

  pub rows_room : (n rows inner : ℕ) → RunLength m places lengths T 0 n inner → SomeRows m places lengths T n rows → n + inner ≤ 8589934592
  rows_room n rows inner w s =
      let i = (w s.terms s.held s.counted).1 in
      let f : 0 + sizes s.terms ≤ 8192 = s.held.run_few in
      let c : count s.terms ≤ sizes s.terms = count_le_sizes s.terms in
      omega (arith, s.counted)

  pub rows_short : {O : List ℕ} {n rows inner : ℕ} → RunLength m places lengths T 0 n inner → length O < n + inner
      → RowsWritten m places lengths T n rows O (Err (record { number = 11; place = 0 })) O
  unfolding write_answer output_after
  rows_short {O} {n} {rows} {inner} w less ts h c z =
      let e = rows_length w ts h c in
      let g : length (standalones (meanings ts)) ≡ length (standalones (all_as_read ts)) = ap length (rows_meant ts h) in
      let x : written (length O) (good ts) ≡ refused 11 0 = written_short (length O) ts (omega arith) in
      (sym (ap write_answer x), sym (ap (output_after O) x))

  pub rows_fit : (room : ℕ) {n rows inner : ℕ} → RunLength m places lengths T 0 n inner → n + inner ≤ room → SomeRows m places lengths T n rows
      → RowsFit m places lengths T n rows room
  rows_fit room w fit s = let e = rows_length w s.terms s.held s.counted in record { some_rows = s; enough = omega arith }

  pub rows_put : (O : List ℕ) {P : List ℕ} {n rows inner : ℕ} → RunLength m places lengths T 0 n inner → n + inner ≤ length O
      → RowsPut m places lengths T n rows O P → RowsWritten m places lengths T n rows O (Ok (record { terms = n; length = n + inner })) P
  unfolding write_answer output_after
  rows_put O {P} {n} {rows} {inner} w fit p ts h c z =
      let bs : List ℕ = standalones (meanings ts) in
      let g : bs ≡ standalones (all_as_read ts) = rows_meant ts h in
      let e : n + inner ≡ length bs = rows_length w ts h c ∙ ap length (sym g) in
      let x : written (length O) (good ts) ≡ good (record { terms = count ts; bytes = bs }) = written_good ts bs refl (length O) (omega arith) in (
        ap₂ (λ (a b : ℕ). Ok (record { terms = a; length = b })) (sym c) e ∙ sym (ap write_answer x),
        p ts h c z (omega (arith, rows_length w ts h c)) ∙ ap (λ (y : List ℕ). sets O 0 y) (sym g) ∙ sets-eq bs O 0 (omega arith) ∙ front_stored O bs ∙ sym (ap (output_after O) x),
      )

  -- ---- put, with slots that give the order

  run_room : {rows room : ℕ} (ts : Terms) → RunInTable m places lengths T 0 ts → sizes ts ≡ rows → length (standalones (all_as_read ts)) ≤ room → key_order.RunFits m places lengths T rows room
  run_room ts h z fit = let a = length_standalones (all_as_read ts) in record { terms = ts; terms_held = h; terms_rows = z; terms_room = omega arith }

  pub order_room : {n rows room : ℕ} → RowsFit m places lengths T n rows room → key_order.RunFits m places lengths T rows room
  order_room f = run_room f.some_rows.terms f.some_rows.held f.some_rows.sized f.enough

  -- the pairs put in order first, then the terms
  pub ordered_put : {n rows r : ℕ} {R O Q P : List ℕ} → AllInOrder m places lengths T rows R O Q → length Q ≡ length O → RunPut m places lengths T 0 R standalones n Q 0 r P
      → RowsPut m places lengths T n rows O P
  ordered_put {R = R} {O} {Q} a l w ts h c z fit =
      let bs : List ℕ = standalones (all_as_read ts) in
      (w ts h (a.run_ordered ts h z) c).stored ∙ front_hides O Q bs fit l (a.past_run (length bs) (run_room ts h z (omega arith)))

  pub fit_run : {R : List ℕ} {n rows room other : ℕ} → (f : RowsFit m places lengths T n rows room) → other ≡ room → AllOrdered R 0 0 f.some_rows.terms
      → RunFits m places lengths T 0 R standalones n other 0
  fit_run f e o =
      record { fit_terms = f.some_rows.terms; fit_run = f.some_rows.held; fit_all_ordered = o; fit_count = f.some_rows.counted; fit_space = omega (arith, f.enough, e) }
