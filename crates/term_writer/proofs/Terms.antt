-- A term's bytes from its own and those of its parts; runs of terms one after the other.
use mathlib.Core.Path.{◌≡◌, refl, sym, ◌∙◌, ap, ap₂}
use mathlib.Core.Bool.{Bool, true, false}
use mathlib.Core.List.{List, [], ◌∷◌, ◌++◌}
use mathlib.Core.Option.{none, some}
use Prim.Native.Nat.{ℕ, suc, ◌+◌, ◌*◌, ◌≤◌, ◌<◌}
use native.Mathlib.Omega.{arith}
use lib.ListN.{length, get_or, set, length-append}
use lib.Seq.{sets}
use Rattle.term_spec.specs.Tree.{Forest, node, ◌▹◌, count, size, sizes}
use Rattle.term_spec.specs.Numbers.{in_bytes}
use Rattle.term_spec.specs.Term.{Label, Term, list}
use Rattle.term_spec.specs.Reading.{Offset, Located, as_read}
use Rattle.term_spec.specs.Message.{Terms, all_as_read}
use Rattle.term_spec.specs.Rows.{kind_of, parts_in, size_in}
use Rattle.term_spec.specs.Pairs.{arranged, all_arranged}
use Rattle.term_spec.specs.Canonical.{all_small, bytes_of, all_bytes, key_before, canonical}
use Rattle.term_spec.specs.Valid.{Fits}
use Rattle.term_spec.proofs.Numbers.{length_in_bytes}
use Rattle.term_spec.proofs.Rows.{count_le_sizes}
use Rattle.term_spec.proofs.Pairs.{count_arranged}
use Rattle.term_spec.proofs.Arranged.{valid_arranged}
use Rattle.term_spec.proofs.Lengths.{parts_count, list_small}
use Rattle.term_spec.proofs.RoundTrip.{small_count}
use Rattle.octets.proofs.Stores.{sets_at}
use Rattle.layout.specs.Layout.{Put}
use Rattle.layout.proofs.Puts.{put_then, put_same, put_length}
use Rattle.canonical_fields.specs.Shape.{before, after, some_small}
use Rattle.canonical_fields.specs.Sound.{label_in, before_in, after_in}
use Rattle.canonical_fields.proofs.Shape.{canonical_parts, canonical_string}
use Rattle.term_writer.specs.InTable.{TermInTable, RunInTable, as_string}
use Rattle.term_writer.specs.PairOrder.{Ordered, AllOrdered}
use Rattle.term_writer.specs.Code.{string_term, canonicals, in_writing, SomeTerm, SomeRun, SomeSmall, StringTold, StringPut, RunLength, TermLength, TermPut, PartsPut, RunFits, TermFits, PartsFit}
use Rattle.term_writer.proofs.InTable.{held_parts, held_writable, held_count, held_size, held_label}
use Rattle.term_writer.proofs.PairOrder.{writable_valid}
use Rattle.term_writer.proofs.Strings.{front, run_front, as_list, as_inverse, small_is, some_told, none_told, count_as_read, no_elements}

-- ---- a string

-- its head, then its characters
pub string_put : (n at : ℕ) (cs : List ℕ) {O P Q R : List ℕ} {r : ℕ} → P ≡ set O at 107 → Q ≡ sets P (at + 1) (in_bytes 2 n) → Put Q (at + 3) cs r R
    → Put O at (107 ∷ (in_bytes 2 n ++ cs)) r R
string_put n at cs {O} {P} {Q} {R} {r} p q w =
    let f : length (in_bytes 2 n) ≡ 2 = length_in_bytes 2 n in
    let first : Put O at (107 ∷ []) (at + 1) P = record { past = refl; stored = p } in
    let second : Put P (at + 1) (in_bytes 2 n) (at + 3) Q = record { past = omega arith; stored = q } in
    put_then first (put_then second w)

-- of a term that is written as a string, its parts arranged or not
pub record Strung (l : Label × Offset) (ts : Terms) : Type 0 where
  pub characters : List ℕ
  pub are : all_small (all_as_read ts) ≡ some characters
  pub bytes : bytes_of (node l.0 (all_as_read ts)) ≡ 107 ∷ (in_bytes 2 (count ts) ++ characters)
  pub form : canonical (node l.0 (all_as_read ts)) ≡ 107 ∷ (in_bytes 2 (count ts) ++ characters)

-- the parts of a term as they are written: as many, and the same small ones in a list
count_written : (l : Label) (ts : Terms) → count (in_writing l ts) ≡ count ts
count_written l ts = parts_count key_before l (all_arranged key_before (all_as_read ts)) ∙ count_arranged key_before (all_as_read ts) ∙ count_as_read ts

small_written : (l : Label) (ts : Terms) → l ≡ list → all_small (in_writing l ts) ≡ all_small (all_as_read ts)
small_written l ts e = list_small key_before l (all_as_read ts) e

string_bytes : (l : Label) (ts : Terms) (cs : List ℕ) (us : Forest Label) → l ≡ list → some_small (count (all_as_read ts)) (all_small (all_as_read ts)) ≡ some cs
    → count us ≡ count ts → (l ≡ list → all_small us ≡ all_small (all_as_read ts)) → bytes_of (node l us) ≡ 107 ∷ (in_bytes 2 (count ts) ++ cs)
string_bytes l ts cs us e f n s =
    ap (λ (x : Label). bytes_of (node x us)) e
    ∙ canonical_string us cs (ap₂ some_small (n ∙ sym (count_as_read ts)) (s e) ∙ f)
    ∙ ap (λ (k : ℕ). 107 ∷ (in_bytes 2 k ++ cs)) n

pub strung : {l : Label × Offset} {ts : Terms} → string_term (node l ts) ≡ true → Strung l ts
unfolding string_term canonical arranged
strung {l} {ts} e =
    let o = some_told (as_string l.0 (all_as_read ts)) e in
    let i = as_inverse l.0 (all_as_read ts) o.0 o.1 in
    record {
      characters = o.0;
      are = small_is (count (all_as_read ts)) (all_small (all_as_read ts)) o.0 i.1;
      bytes = string_bytes l.0 ts o.0 (all_as_read ts) i.0 i.1 (count_as_read ts) (λ x. refl);
      form = string_bytes l.0 ts o.0 (in_writing l.0 ts) i.0 i.1 (count_written l.0 ts) (small_written l.0 ts);
    }

strung_length : {l : Label × Offset} {ts : Terms} (g : Strung l ts) {bs : List ℕ} → bs ≡ 107 ∷ (in_bytes 2 (count ts) ++ g.characters) → length bs ≡ count ts + 3
strung_length {l} {ts} g {bs} e =
    let k : length g.characters ≡ count (all_as_read ts) = small_count (all_as_read ts) g.characters g.are in
    let j : count (all_as_read ts) ≡ count ts = count_as_read ts in
    let b : length (in_bytes 2 (count ts)) ≡ 2 = length_in_bytes 2 (count ts) in
    let a = length-append (in_bytes 2 (count ts)) g.characters in
    let d : length bs ≡ suc (length (in_bytes 2 (count ts) ++ g.characters)) = ap length e in
    omega arith

-- a term that is written part by part, and has room
record Split (m places lengths T : List ℕ) (row : ℕ) (R : List ℕ) (room at : ℕ) : Type 0 where
  label : Label × Offset
  parts : Terms
  held : TermInTable m places lengths T row (node label parts)
  in_order : Ordered R 0 row (node label parts)
  fits : at
      + (length (before_in m places lengths (get_or T row 0)) + (length (all_bytes (in_writing label.0 parts)) + length (after_in m places lengths (get_or T row 0))))
      ≤ room

module _ {m places lengths T : List ℕ} {row : ℕ} where
  few_parts : {l : Label × Offset} {ts : Terms} → TermInTable m places lengths T row (node l ts) → count ts + 1 ≤ 8192
  few_parts {l} {ts} h =
      let c : count ts ≤ sizes ts = count_le_sizes ts in
      let f : row + suc (sizes ts) ≤ 8192 = h.few in
      omega arith

  -- of one that is written part by part, in whatever order
  module _ {l : Label × Offset} {ts : Terms} (h : TermInTable m places lengths T row (node l ts)) (e : string_term (node l ts) ≡ false) where
    unstrung_in : (us : Forest Label) → Fits h.flags l.0 us → count us ≡ count ts → (l.0 ≡ list → all_small us ≡ all_small (all_as_read ts))
        → bytes_of (node l.0 us) ≡ before_in m places lengths (get_or T row 0) ++ (all_bytes us ++ after_in m places lengths (get_or T row 0))
    unfolding string_term kind_of
    unstrung_in us f c s =
        let w : ℕ = get_or T row 0 in
        let no : as_string l.0 (all_as_read ts) ≡ none = none_told (as_string l.0 (all_as_read ts)) e in
        let n : count us ≡ parts_in w = c ∙ sym (held_count h) in
        let x : l.0 ≡ label_in m places lengths w = sym (held_label h) in
        canonical_parts h.flags l.0 us f (λ g. ap₂ some_small (c ∙ sym (count_as_read ts)) (s g) ∙ sym (as_list l.0 (all_as_read ts) (ap kind_of g)) ∙ no)
        ∙ ap₂ (λ (y : Label) (k : ℕ). before y k ++ (all_bytes us ++ after y k)) x n

    -- as it was read, and as it is written
    pub unstrung_bytes : bytes_of (node l.0 (all_as_read ts))
        ≡ before_in m places lengths (get_or T row 0) ++ (all_bytes (all_as_read ts) ++ after_in m places lengths (get_or T row 0))
    unstrung_bytes = unstrung_in (all_as_read ts) (held_writable h).fits (count_as_read ts) (λ x. refl)

    pub unstrung : canonical (node l.0 (all_as_read ts))
        ≡ before_in m places lengths (get_or T row 0) ++ (all_bytes (in_writing l.0 ts) ++ after_in m places lengths (get_or T row 0))
    unfolding canonical arranged
    unstrung =
        unstrung_in (in_writing l.0 ts) (valid_arranged key_before h.flags (node l.0 (all_as_read ts)) (writable_valid m places lengths h.flags (node l ts) h.nodes)).0
        (count_written l.0 ts) (small_written l.0 ts)

    unstrung_length : length (bytes_of (node l.0 (all_as_read ts)))
        ≡ length (before_in m places lengths (get_or T row 0)) + (length (all_bytes (all_as_read ts)) + length (after_in m places lengths (get_or T row 0)))
    unstrung_length = rw unstrung_bytes (simp length-append)

    unstrung_room : length (canonical (node l.0 (all_as_read ts)))
        ≡ length (before_in m places lengths (get_or T row 0)) + (length (all_bytes (in_writing l.0 ts)) + length (after_in m places lengths (get_or T row 0)))
    unstrung_room = rw unstrung (simp length-append)

  -- ---- lengths

  pub string_length : (n : ℕ) → n ≡ parts_in (get_or T row 0) → (t : Located) → TermInTable m places lengths T row t → string_term t ≡ true
      → (n + 3 ≡ length (bytes_of (as_read t))) × (n + 3 ≤ 524288 * size t)
  string_length n e (node l ts) h s =
      let c : count ts ≡ n = sym (held_count h) ∙ sym e in
      let k = strung_length (strung s) (strung s).bytes in
      let q : count ts ≤ sizes ts = count_le_sizes ts in
      (omega arith, omega arith)

  pub parts_length : (n own inner : ℕ) → n ≡ parts_in (get_or T row 0)
      → own ≡ length (before_in m places lengths (get_or T row 0)) + length (after_in m places lengths (get_or T row 0)) → own ≤ 262192
      → RunLength m places lengths T (row + 1) n inner
      → (t : Located) → TermInTable m places lengths T row t → string_term t ≡ false
      → (own + inner ≡ length (bytes_of (as_read t))) × (own + inner ≤ 524288 * size t)
  parts_length n own inner e o b r (node l ts) h s =
      let c : count ts ≡ n = sym (held_count h) ∙ sym e in
      let i = r ts (held_parts h) c in
      let d = unstrung_length h s in
      (omega arith, omega arith)

  pub few_rows : (t : Located) → TermInTable m places lengths T row t → size t ≤ 8192
  few_rows t h = let f : row + size t ≤ 8192 = h.few in omega arith

  -- ---- writing

  pub fits_some : {R : List ℕ} {one : Term → List ℕ} {room at : ℕ} → TermFits m places lengths T row R one room at → SomeTerm m places lengths T row
  fits_some a = record { term = a.fit_term; held = a.fit_held }

  pub parts_some : {R : List ℕ} {room at : ℕ} → PartsFit m places lengths T row R room at → SomeTerm m places lengths T row
  parts_some a = record { term = node a.fit_label a.fit_parts; held = a.fit_node }

  pub parts_put : (R : List ℕ) {O P Q S : List ℕ} {at first end r : ℕ}
      → Put O at (before_in m places lengths (get_or T row 0)) first P
      → PartsPut m places lengths T row R P first end Q
      → Put Q end (after_in m places lengths (get_or T row 0)) r S
      → (t : Located) → TermInTable m places lengths T row t → Ordered R 0 row t → string_term t ≡ false → Put O at (canonical (as_read t)) r S
  parts_put R p q a (node l ts) h o s = put_same (sym (unstrung h s)) (put_then p (put_then (q l ts h o) a))

  pub string_written : {O P : List ℕ} {at r n : ℕ} → n ≡ parts_in (get_or T row 0) → StringPut m places lengths T (row + 1) n O at r P
      → (t : Located) → TermInTable m places lengths T row t → string_term t ≡ true → Put O at (canonical (as_read t)) r P
  string_written {n = n} e p (node l ts) h s =
      let g = strung s in
      let c : count ts ≡ n = sym (held_count h) ∙ sym e in
      put_same (sym (g.form ∙ ap (λ (k : ℕ). 107 ∷ (in_bytes 2 k ++ g.characters)) c)) (p ts g.characters (held_parts h) c g.are)

  module _ {R : List ℕ} where
    pub string_needs : {n room at : ℕ} {b : Bool} → n ≡ parts_in (get_or T row 0) → TermFits m places lengths T row R canonical room at
        → StringTold m places lengths T row b → b ≡ true → SomeSmall m places lengths T (row + 1) n × (at + (n + 3) ≤ room) × (n < 65536)
    string_needs {n} {room} {at} e a told y = go a.fit_term a.fit_held (sym (told a.fit_term a.fit_held) ∙ y) a.fit_room
      where
        go : (t : Located) → TermInTable m places lengths T row t → string_term t ≡ true → at + length (canonical (as_read t)) ≤ room
            → SomeSmall m places lengths T (row + 1) n × (at + (n + 3) ≤ room) × (n < 65536)
        go (node l ts) h s fit =
            let g = strung s in
            let c : count ts ≡ n = sym (held_count h) ∙ sym e in
            let k = strung_length g g.form in
            let f = few_parts h in
            (record { small_terms = ts; small_held = held_parts h; small_counted = c; characters = g.characters; are_small = g.are }, omega arith, omega arith)

    module _ {room at : ℕ} {b : Bool} (a : TermFits m places lengths T row R canonical room at) (told : StringTold m places lengths T row b) (y : b ≡ false) where
      split : Split m places lengths T row R room at
      split = go a.fit_term a.fit_held a.fit_ordered (sym (told a.fit_term a.fit_held) ∙ y) a.fit_room
        where
          go : (t : Located) → TermInTable m places lengths T row t → Ordered R 0 row t → string_term t ≡ false → at + length (canonical (as_read t)) ≤ room
              → Split m places lengths T row R room at
          go (node l ts) h o s fit = let d = unstrung_room h s in record { label = l; parts = ts; held = h; in_order = o; fits = omega arith }

      pub before_room : at + length (before_in m places lengths (get_or T row 0)) ≤ room
      before_room = let f = split.fits in omega arith

    module _ {O P : List ℕ} {at first : ℕ} {b : Bool} (a : TermFits m places lengths T row R canonical (length O) at)
        (told : StringTold m places lengths T row b) (y : b ≡ false) (p : Put O at (before_in m places lengths (get_or T row 0)) first P) where
      pub parts_room : PartsFit m places lengths T row R (length P) first
      parts_room =
          let o = split a told y in
          let f = o.fits in
          let k : length P ≡ length O = put_length p in
          let x : first ≡ at + length (before_in m places lengths (get_or T row 0)) = p.past in
          record { fit_label = o.label; fit_parts = o.parts; fit_node = o.held; fit_node_ordered = o.in_order; fit_parts_room = omega arith }

      pub after_room : {Q : List ℕ} {end : ℕ} → PartsPut m places lengths T row R P first end Q
          → end + length (after_in m places lengths (get_or T row 0)) ≤ length Q
      after_room {Q} {end} q =
          let o = split a told y in
          let f = o.fits in
          let i = q o.label o.parts o.held o.in_order in
          let k : length P ≡ length O = put_length p in
          let j : length Q ≡ length P = put_length i in
          let x : first ≡ at + length (before_in m places lengths (get_or T row 0)) = p.past in
          let c : end ≡ first + length (all_bytes (in_writing o.label.0 o.parts)) = i.past in
          omega arith

-- ---- runs

pub no_terms : (ts : Terms) (n : ℕ) → count ts ≡ n → n ≤ 0 → ts ≡ Forest.empty
no_terms Forest.empty n c z = refl
no_terms (t ▹ ts) n c z = absurd (omega arith)

nothing_there : length (all_bytes (all_as_read Forest.empty)) ≡ 0
unfolding all_bytes
nothing_there = refl

module _ (m places lengths T : List ℕ) where
  pub record LengthLeft (ts : Terms) (next left sum : ℕ) : Type 0 where
    pub rest : Terms
    pub rest_held : RunInTable m places lengths T next rest
    pub rest_count : count rest ≡ left
    pub total : length (all_bytes (all_as_read ts)) ≡ sum + length (all_bytes (all_as_read rest))
    pub bound : sum + 524288 * sizes rest ≤ 524288 * sizes ts

  -- `all` are the bytes of terms by `one`, one after the other; the order of pairs is in R
  module _ (R : List ℕ) (all : Forest Label → List ℕ) where
    pub record PutLeft (O : List ℕ) (at : ℕ) (ts : Terms) (next left : ℕ) (out : List ℕ) (end : ℕ) : Type 0 where
      pub rest : Terms
      pub rest_held : RunInTable m places lengths T next rest
      pub rest_ordered : AllOrdered R 0 next rest
      pub rest_count : count rest ≡ left
      pub past : end + length (all (all_as_read rest)) ≡ at + length (all (all_as_read ts))
      pub stored : sets out end (all (all_as_read rest)) ≡ sets O at (all (all_as_read ts))

module _ {m places lengths T : List ℕ} where
  pub length_start : (n row : ℕ) (ts : Terms) → RunInTable m places lengths T row ts → count ts ≡ n → LengthLeft m places lengths T ts row n 0
  length_start n row ts h c = record { rest = ts; rest_held = h; rest_count = c; total = omega arith; bound = omega arith }

  pub length_step : {ts : Terms} {next left later sum : ℕ} (s r : ℕ) → LengthLeft m places lengths T ts next left sum → later + 1 ≡ left → s ≡ size_in (get_or T next 0)
      → TermLength m places lengths T next r → LengthLeft m places lengths T ts (next + s) later (sum + r)
  unfolding all_bytes
  length_step {ts} {next} {left} {later} {sum} s r g p e w =
      let c : count g.rest ≡ left = g.rest_count in
      let f = front next g.rest g.rest_held (omega arith) in
      let u : Located = node f.label f.parts in
      let i = w u f.held in
      let d : s ≡ suc (sizes f.parts) = e ∙ held_size f.held in
      let k : count g.rest ≡ suc (count f.others) = ap count f.is in
      let z : sizes g.rest ≡ suc (sizes f.parts) + sizes f.others = ap sizes f.is in
      let a : length (all_bytes (all_as_read g.rest)) ≡ length (bytes_of (as_read u) ++ all_bytes (all_as_read f.others))
      = ap (λ (x : Terms). length (all_bytes (all_as_read x))) f.is in
      let b = length-append (bytes_of (as_read u)) (all_bytes (all_as_read f.others)) in
      let t = g.total in
      let o = g.bound in
      record { rest = f.others; rest_held = rw d f.held_others; rest_count = omega arith; total = omega arith; bound = omega arith }

  pub length_end : {ts : Terms} {next left sum : ℕ} → LengthLeft m places lengths T ts next left sum → left ≤ 0
      → (sum ≡ length (all_bytes (all_as_read ts))) × (sum ≤ 524288 * sizes ts)
  length_end {ts} {next} {left} {sum} g z =
      let n : g.rest ≡ Forest.empty = no_terms g.rest left g.rest_count z in
      let e : length (all_bytes (all_as_read g.rest)) ≡ 0 = rw n (nothing_there) in
      let t = g.total in
      let b = g.bound in
      (omega arith, omega arith)

  pub left_term : {next left : ℕ} → SomeRun m places lengths T next left → 0 < left → SomeTerm m places lengths T next
  left_term r p = let f = run_front r p in record { term = node f.label f.parts; held = f.held }

  pub left_size : {next left : ℕ} (s : ℕ) → SomeRun m places lengths T next left → 0 < left → s ≡ size_in (get_or T next 0) → (1 ≤ s) × (next + s ≤ 8192)
  left_size {next} s r p e =
      let f = run_front r p in
      let d : s ≡ suc (sizes f.parts) = e ∙ held_size f.held in
      let q : next + suc (sizes f.parts) ≤ 8192 = f.held.few in
      (omega arith, omega arith)

  module _ {row n next left sum : ℕ} (a : SomeRun m places lengths T row n)
      (inv : (ts : Terms) → RunInTable m places lengths T row ts → count ts ≡ n → LengthLeft m places lengths T ts next left sum) where
    length_here : LengthLeft m places lengths T a.terms next left sum
    length_here = inv a.terms a.held a.counted

    -- what is left of the run
    pub length_rest : SomeRun m places lengths T next left
    length_rest = let g = length_here in record { terms = g.rest; held = g.rest_held; counted = g.rest_count }

    pub length_room : (r : ℕ) → 0 < left → TermLength m places lengths T next r → sum + r ≤ 4294967296
    unfolding length_here length_rest
    length_room r p w =
        let g = length_here in
        let f = run_front length_rest p in
        let i = w (node f.label f.parts) f.held in
        let z : sizes g.rest ≡ suc (sizes f.parts) + sizes f.others = ap sizes f.is in
        let o = g.bound in
        let q : row + sizes a.terms ≤ 8192 = a.held.run_few in
        omega arith

  -- what is left of a run that is written
  module _ {R : List ℕ} {all : Forest Label → List ℕ} {O out : List ℕ} {row n room at next left end : ℕ} (a : RunFits m places lengths T row R all n room at)
      (inv : (ts : Terms) → RunInTable m places lengths T row ts → AllOrdered R 0 row ts → count ts ≡ n → PutLeft m places lengths T R all O at ts next left out end) where
    pub put_here : PutLeft m places lengths T R all O at a.fit_terms next left out end
    put_here = inv a.fit_terms a.fit_run a.fit_all_ordered a.fit_count

    pub put_rest : SomeRun m places lengths T next left
    put_rest = let g = put_here in record { terms = g.rest; held = g.rest_held; counted = g.rest_count }

module _ {m places lengths T R : List ℕ} (one : Term → List ℕ) (all : Forest Label → List ℕ)
    (nil : all Forest.empty ≡ []) (cons : (t : Term) (ts : Forest Label) → all (t ▹ ts) ≡ one t ++ all ts) where
  pub put_start : (O : List ℕ) (at n row : ℕ) (ts : Terms) → RunInTable m places lengths T row ts → AllOrdered R 0 row ts → count ts ≡ n
      → PutLeft m places lengths T R all O at ts row n O at
  put_start O at n row ts h o c = record { rest = ts; rest_held = h; rest_ordered = o; rest_count = c; past = refl; stored = refl }

  pub put_step : {O out next_out : List ℕ} {at next left later end : ℕ} {ts : Terms} (s r : ℕ) → PutLeft m places lengths T R all O at ts next left out end
      → later + 1 ≡ left → s ≡ size_in (get_or T next 0) → TermPut m places lengths T next R one out end r next_out
      → PutLeft m places lengths T R all O at ts (next + s) later next_out r
  unfolding Ordered
  put_step {O} {out} {next_out} {at} {next} {left} {later} {end} {ts} s r g p e w =
      let c : count g.rest ≡ left = g.rest_count in
      let f = front next g.rest g.rest_held (omega arith) in
      let v : AllOrdered R 0 next (node f.label f.parts ▹ f.others) = rw f.is at g.rest_ordered in
      let u : Term = as_read (node f.label f.parts) in
      let i = w (node f.label f.parts) f.held v.0 in
      let d : s ≡ suc (sizes f.parts) = e ∙ held_size f.held in
      let k : count g.rest ≡ suc (count f.others) = ap count f.is in
      let a : all (all_as_read g.rest) ≡ one u ++ all (all_as_read f.others) = ap (λ (x : Terms). all (all_as_read x)) f.is ∙ cons u (all_as_read f.others) in
      let b = length-append (one u) (all (all_as_read f.others)) in
      let q : length (all (all_as_read g.rest)) ≡ length (one u ++ all (all_as_read f.others)) = ap length a in
      let t = g.past in
      let y : r ≡ end + length (one u) = i.past in
      record {
        rest = f.others;
        rest_held = rw d f.held_others;
        rest_ordered = rw d v.1;
        rest_count = omega arith;
        past = omega arith;
        stored = ap (λ (x : List ℕ). sets x r (all (all_as_read f.others))) i.stored
            ∙ sets_at out end (one u) (all (all_as_read f.others)) r (sym y)
            ∙ ap (λ (x : List ℕ). sets out end x) (sym a)
            ∙ g.stored;
      }

  pub put_end : {O out : List ℕ} {at next left end : ℕ} {ts : Terms} → PutLeft m places lengths T R all O at ts next left out end → left ≤ 0
      → Put O at (all (all_as_read ts)) end out
  put_end {O} {out} {at} {next} {left} {end} {ts} g z =
      let n : g.rest ≡ Forest.empty = no_terms g.rest left g.rest_count z in
      let e : all (all_as_read g.rest) ≡ [] = ap (λ (x : Terms). all (all_as_read x)) n ∙ nil in
      let k : length (all (all_as_read g.rest)) ≡ 0 = ap length e in
      let t = g.past in
      record { past = omega arith; stored = sym (ap (λ (x : List ℕ). sets out end x) e) ∙ g.stored }

  pub put_fits : {O out : List ℕ} {row n at next left end : ℕ} → (a : RunFits m places lengths T row R all n (length O) at)
      → ((ts : Terms) → RunInTable m places lengths T row ts → AllOrdered R 0 row ts → count ts ≡ n → PutLeft m places lengths T R all O at ts next left out end)
      → 0 < left → length out ≡ length O → TermFits m places lengths T next R one (length out) end
  unfolding put_here put_rest Ordered
  put_fits {O} {out} {next = next} {left = left} {end = end} a inv p e =
      let g = put_here a inv in
      let f = run_front (put_rest a inv) p in
      let v : AllOrdered R 0 next (node f.label f.parts ▹ f.others) = rw f.is at g.rest_ordered in
      let u : Term = as_read (node f.label f.parts) in
      let c : all (all_as_read g.rest) ≡ one u ++ all (all_as_read f.others) = ap (λ (x : Terms). all (all_as_read x)) f.is ∙ cons u (all_as_read f.others) in
      let b = length-append (one u) (all (all_as_read f.others)) in
      let q : length (all (all_as_read g.rest)) ≡ length (one u ++ all (all_as_read f.others)) = ap length c in
      let t = g.past in
      let k = a.fit_space in
      record { fit_term = node f.label f.parts; fit_held = f.held; fit_ordered = v.0; fit_room = omega arith }

-- canonical forms one after the other
pub canonicals_none : canonicals Forest.empty ≡ []
unfolding canonicals all_bytes all_arranged
canonicals_none = refl

pub canonicals_more : (t : Term) (ts : Forest Label) → canonicals (t ▹ ts) ≡ canonical t ++ canonicals ts
unfolding canonicals canonical all_bytes all_arranged
canonicals_more t ts = refl

-- ---- no parts

no_bytes : (us : Forest Label) → count us ≡ 0 → all_bytes us ≡ []
unfolding all_bytes
no_bytes Forest.empty e = refl
no_bytes (t ▹ us) e = absurd (omega arith)

module _ {m places lengths T : List ℕ} {row : ℕ} {n : ℕ} (e : n ≡ parts_in (get_or T row 0)) (z : n ≡ 0) where
  -- a term's bytes, in whatever order
  leaf_in : {l : Label × Offset} {ts : Terms} (us : Forest Label) → TermInTable m places lengths T row (node l ts) → count us ≡ count ts → {bs : List ℕ}
      → bs ≡ before_in m places lengths (get_or T row 0) ++ (all_bytes us ++ after_in m places lengths (get_or T row 0))
      → before_in m places lengths (get_or T row 0) ++ after_in m places lengths (get_or T row 0) ≡ bs
  leaf_in {l} {ts} us h c b =
      let k : count us ≡ n = c ∙ sym (held_count h) ∙ sym e in
      let none : all_bytes us ≡ [] = no_bytes us (k ∙ z) in
      sym (b ∙ ap (λ (y : List ℕ). before_in m places lengths (get_or T row 0) ++ (y ++ after_in m places lengths (get_or T row 0))) none)

  leaf_bytes : (t : Located) → TermInTable m places lengths T row t
      → (before_in m places lengths (get_or T row 0) ++ after_in m places lengths (get_or T row 0) ≡ bytes_of (as_read t))
      × (before_in m places lengths (get_or T row 0) ++ after_in m places lengths (get_or T row 0) ≡ canonical (as_read t))
  leaf_bytes (node l ts) h =
      let s : string_term (node l ts) ≡ false = sym (no_elements n e z (node l ts) h) in
      (leaf_in (all_as_read ts) h (count_as_read ts) (unstrung_bytes h s), leaf_in (in_writing l.0 ts) h (count_written l.0 ts) (unstrung h s))

  pub leaf_length : (own : ℕ) → own ≡ length (before_in m places lengths (get_or T row 0)) + length (after_in m places lengths (get_or T row 0)) → own ≤ 262192
      → (t : Located) → TermInTable m places lengths T row t → (own ≡ length (bytes_of (as_read t))) × (own ≤ 524288 * size t)
  leaf_length own o b (node l ts) h =
      let w : ℕ = get_or T row 0 in
      let f = length-append (before_in m places lengths w) (after_in m places lengths w) in
      let g : length (before_in m places lengths w ++ after_in m places lengths w) ≡ length (bytes_of (as_read (node l ts))) = ap length (leaf_bytes (node l ts) h).0 in
      (omega arith, omega arith)

  pub leaf_room : {R : List ℕ} {room at : ℕ} → TermFits m places lengths T row R canonical room at
      → at + length (before_in m places lengths (get_or T row 0) ++ after_in m places lengths (get_or T row 0)) ≤ room
  leaf_room a = rw (leaf_bytes a.fit_term a.fit_held).1 a.fit_room

  pub leaf_put : {O P : List ℕ} {at r : ℕ} → Put O at (before_in m places lengths (get_or T row 0) ++ after_in m places lengths (get_or T row 0)) r P
      → (t : Located) → TermInTable m places lengths T row t → Put O at (canonical (as_read t)) r P
  leaf_put p t h = put_same (leaf_bytes t h).1 p
