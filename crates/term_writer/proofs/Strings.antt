-- Lists of integers 0 to 255: whether a run is one, and its characters written.
use mathlib.Core.Path.{◌≡◌, refl, sym, ◌∙◌, ap}
use mathlib.Core.Bool.{Bool, true, false}
use mathlib.Core.List.{List, [], ◌∷◌}
use mathlib.Core.Option.{Option, none, some}
use Rattle.std.specs.Prelude as std
use Prim.Native.Nat.{ℕ, zero, suc, ◌+◌, ◌-◌, ◌≤◌, ◌<◌}
use native.Mathlib.Omega.{arith}
use lib.Dec.{eqb}
use lib.ListN.{length, get_or, set}
use lib.Seq.{sets}
use borrow.Author.Tests.{eqb-true, eq-eqb, ne_eqb}
use Rattle.term_spec.specs.Tree.{Forest, node, ◌▹◌, count, sizes}
use Rattle.term_spec.specs.Term.{Label, integer, float, atom, tuple, list, improper_list, binary, bitstring, map, pid, port, reference, export}
use Rattle.term_spec.specs.Reading.{Offset, Located}
use Rattle.term_spec.specs.Message.{Terms, all_as_read}
use Rattle.term_spec.specs.Rows.{kind_of, kind_in, parts_in}
use Rattle.term_spec.specs.Canonical.{small, put, all_small}
use Rattle.term_spec.specs.Valid.{Fits}
use Rattle.term_spec.proofs.Rows.{count_relabels}
use Rattle.term_spec.proofs.RoundTrip.{small_count}
use Rattle.term_spec.proofs.Tests.{never}
use Rattle.layout.specs.Layout.{Put}
use Rattle.canonical_fields.specs.Shape.{some_small}
use Rattle.canonical_fields.specs.Sound.{label_in, SoundWord}
use Rattle.characters.specs.Code.{CharacterOf}
use Rattle.term_writer.specs.InTable.{TermInTable, RunInTable, as_string, is_some}
use Rattle.term_writer.specs.Code.{string_term, SomeTerm, SomeRun, SomeSmall, SmallTold}
use Rattle.term_writer.proofs.InTable.{run_first, run_others, held_parts, held_writable, held_below, held_kind, held_count, held_label, held_sound, kind_list, tag_kind}

-- ---- small labels

small_leaf : (flags : ℕ) (l : Label) (ts : Forest Label) (x : ℕ) → small l ≡ some x → Fits flags l ts → ts ≡ Forest.empty
unfolding small
small_leaf flags (integer z) ts x e f = f.0
small_leaf flags (float b) ts x e f = let no_way : ◌≡◌ {A = ℕ} 0 1 = cc in absurd (omega arith)
small_leaf flags (atom cs) ts x e f = let no_way : ◌≡◌ {A = ℕ} 0 1 = cc in absurd (omega arith)
small_leaf flags tuple ts x e f = let no_way : ◌≡◌ {A = ℕ} 0 1 = cc in absurd (omega arith)
small_leaf flags list ts x e f = let no_way : ◌≡◌ {A = ℕ} 0 1 = cc in absurd (omega arith)
small_leaf flags improper_list ts x e f = let no_way : ◌≡◌ {A = ℕ} 0 1 = cc in absurd (omega arith)
small_leaf flags (binary bs) ts x e f = let no_way : ◌≡◌ {A = ℕ} 0 1 = cc in absurd (omega arith)
small_leaf flags (bitstring n bs) ts x e f = let no_way : ◌≡◌ {A = ℕ} 0 1 = cc in absurd (omega arith)
small_leaf flags map ts x e f = let no_way : ◌≡◌ {A = ℕ} 0 1 = cc in absurd (omega arith)
small_leaf flags (pid i s c) ts x e f = let no_way : ◌≡◌ {A = ℕ} 0 1 = cc in absurd (omega arith)
small_leaf flags (port i c) ts x e f = let no_way : ◌≡◌ {A = ℕ} 0 1 = cc in absurd (omega arith)
small_leaf flags (reference c ws) ts x e f = let no_way : ◌≡◌ {A = ℕ} 0 1 = cc in absurd (omega arith)
small_leaf flags export ts x e f = let no_way : ◌≡◌ {A = ℕ} 0 1 = cc in absurd (omega arith)

no_forest : (ts : Terms) → all_as_read ts ≡ Forest.empty → ts ≡ Forest.empty
no_forest Forest.empty e = refl
no_forest (t ▹ ts) e = let no_way : ◌≡◌ {A = ℕ} 0 1 = cc in absurd (omega arith)

-- a label whose character is answered, or none
pub character_none : (l : Label) (r : std.Option ℕ) → CharacterOf l r → std.is_some r ≡ false → small l ≡ none
character_none l std.None m e = m
character_none l (std.Some x) m e = cc

pub character_some : (l : Label) (r : std.Option ℕ) → CharacterOf l r → std.is_some r ≡ true → (x : ℕ) × (small l ≡ some x)
character_some l std.None m e = never e
character_some l (std.Some x) m e = (x, m)

module _ (m places lengths T : List ℕ) where
  -- a run of which there is more
  pub record Front (row : ℕ) (ts : Terms) : Type 0 where
    pub label : Label × Offset
    pub parts : Terms
    pub others : Terms
    pub is : ts ≡ node label parts ▹ others
    pub held : TermInTable m places lengths T row (node label parts)
    pub held_others : RunInTable m places lengths T (row + suc (sizes parts)) others

  pub record SmallLeft (row n : ℕ) (ts : Terms) (i : ℕ) : Type 0 where
    pub rest : Terms
    pub rest_held : RunInTable m places lengths T (row + i) rest
    pub rest_count : count rest ≡ n - i
    pub same : is_some (all_small (all_as_read ts)) ≡ is_some (all_small (all_as_read rest))

  pub record CharactersLeft (row n at : ℕ) (cs O out : List ℕ) (i : ℕ) : Type 0 where
    pub rest : Terms
    pub rest_held : RunInTable m places lengths T (row + i) rest
    pub rest_count : count rest ≡ n - i
    pub left : List ℕ
    pub are : all_small (all_as_read rest) ≡ some left
    pub stored : sets out (at + i) left ≡ sets O at cs

put_some : (o : Option (List ℕ)) (x : ℕ) → is_some (put (some x) o) ≡ is_some o
unfolding is_some
put_some none x = refl
put_some (some cs) x = refl

all_none : (ts us : Terms) (k : ℕ) → count us ≡ k → k ≡ 0 → is_some (all_small (all_as_read ts)) ≡ is_some (all_small (all_as_read us)) → true ≡ is_some (all_small (all_as_read ts))
unfolding all_small is_some
all_none ts Forest.empty k c z e = sym e
all_none ts (t ▹ us) k c z e = absurd (omega arith)

none_left : (us : Terms) (k : ℕ) (ds : List ℕ) → count us ≡ k → k ≡ 0 → all_small (all_as_read us) ≡ some ds → ds ≡ []
unfolding all_small
none_left Forest.empty k ds c z e = cc
none_left (t ▹ us) k ds c z e = absurd (omega arith)

module _ {m places lengths T : List ℕ} where
  pub front : (row : ℕ) (ts : Terms) → RunInTable m places lengths T row ts → 0 < count ts → Front m places lengths T row ts
  front row Forest.empty h p = absurd (omega arith)
  front row (node l us ▹ ts) h p = record { label = l; parts = us; others = ts; is = refl; held = run_first h; held_others = run_others h }

  -- the first of a run that has one
  pub run_front : {row n : ℕ} (r : SomeRun m places lengths T row n) → 0 < n → Front m places lengths T row r.terms
  run_front {row} {n} r p = let c : count r.terms ≡ n = r.counted in front row r.terms r.held (omega arith)

  pub run_sound : {row n : ℕ} → SomeRun m places lengths T row n → 0 < n → SoundWord m places lengths (get_or T row 0)
  run_sound r p = held_sound (run_front r p).held

  pub run_below : {row n : ℕ} → SomeRun m places lengths T row n → 0 < n → row < length T
  run_below r p = held_below (run_front r p).held

  -- what is left of a run in a loop
  pub small_rest : {row n i : ℕ} → SomeRun m places lengths T row n
      → ((ts : Terms) → RunInTable m places lengths T row ts → count ts ≡ n → SmallLeft m places lengths T row n ts i) → SomeRun m places lengths T (row + i) (n - i)
  small_rest r inv = let s = inv r.terms r.held r.counted in record { terms = s.rest; held = s.rest_held; counted = s.rest_count }

  character_held : {row : ℕ} {ts : Terms} (f : Front m places lengths T row ts) → small (label_in m places lengths (get_or T row 0)) ≡ small f.label.0
  character_held f = ap small (held_label f.held)

  -- a small integer has one row
  next_held : (row i : ℕ) {ts : Terms} (f : Front m places lengths T (row + i) ts) (x : ℕ) → small f.label.0 ≡ some x → RunInTable m places lengths T (row + (i + 1)) f.others
  next_held row i f x e =
      let leaf : f.parts ≡ Forest.empty = no_forest f.parts (small_leaf f.held.flags f.label.0 (all_as_read f.parts) x e (held_writable f.held).fits) in
      let z : sizes f.parts ≡ 0 = ap sizes leaf in
      let r : row + i + suc (sizes f.parts) ≡ row + (i + 1) = omega arith in
      rw r at f.held_others

  -- ---- whether all of a run are small

  pub small_start : (row n : ℕ) (ts : Terms) → RunInTable m places lengths T row ts → count ts ≡ n → SmallLeft m places lengths T row n ts 0
  small_start row n ts h c =
      let e : row ≡ row + 0 = omega arith in
      record { rest = ts; rest_held = rw (← e) h; rest_count = omega arith; same = refl }

  pub small_step : {row n i : ℕ} {ts : Terms} (c : ℕ) → SmallLeft m places lengths T row n ts i → i < n
      → small (label_in m places lengths (get_or T (row + i) 0)) ≡ some c → SmallLeft m places lengths T row n ts (i + 1)
  unfolding all_small
  small_step {row} {n} {i} {ts} c s l e =
      let k : count s.rest ≡ n - i = s.rest_count in
      let f = front (row + i) s.rest s.rest_held (omega arith) in
      let is : small f.label.0 ≡ some c = sym (character_held f) ∙ e in
      let j : count s.rest ≡ suc (count f.others) = ap count f.is in
      record {
        rest = f.others;
        rest_held = next_held row i f c is;
        rest_count = omega arith;
        same = s.same
            ∙ ap (λ (us : Terms). is_some (all_small (all_as_read us))) f.is
            ∙ ap (λ (o : Option ℕ). is_some (put o (all_small (all_as_read f.others)))) is
            ∙ put_some (all_small (all_as_read f.others)) c;
      }

  pub small_stop : {row n i : ℕ} {ts : Terms} → SmallLeft m places lengths T row n ts i → i < n
      → small (label_in m places lengths (get_or T (row + i) 0)) ≡ none → false ≡ is_some (all_small (all_as_read ts))
  unfolding all_small is_some
  small_stop {row} {n} {i} {ts} s l e =
      let k : count s.rest ≡ n - i = s.rest_count in
      let f = front (row + i) s.rest s.rest_held (omega arith) in
      let nothing : small f.label.0 ≡ none = sym (character_held f) ∙ e in
      sym (s.same
      ∙ ap (λ (us : Terms). is_some (all_small (all_as_read us))) f.is
      ∙ ap (λ (o : Option ℕ). is_some (put o (all_small (all_as_read f.others)))) nothing)

  pub small_end : {row n i : ℕ} {ts : Terms} → SmallLeft m places lengths T row n ts i → n ≤ i → true ≡ is_some (all_small (all_as_read ts))
  small_end {row} {n} {i} {ts} s l = all_none ts s.rest (n - i) s.rest_count (omega arith) s.same

-- ---- characters

record PutSome (o : Option ℕ) (q : Option (List ℕ)) (ds : List ℕ) : Type 0 where
  first : ℕ
  others : List ℕ
  first_is : o ≡ some first
  others_are : q ≡ some others
  joined : ds ≡ first ∷ others

put_inverse : (o : Option ℕ) (q : Option (List ℕ)) (ds : List ℕ) → put o q ≡ some ds → PutSome o q ds
put_inverse none q ds e = let no_way : ◌≡◌ {A = ℕ} 0 1 = cc in absurd (omega arith)
put_inverse (some x) none ds e = let no_way : ◌≡◌ {A = ℕ} 0 1 = cc in absurd (omega arith)
put_inverse (some x) (some es) ds e = record { first = x; others = es; first_is = refl; others_are = refl; joined = cc }

module _ {m places lengths T : List ℕ} where
  pub characters_start : (row n at : ℕ) (ts : Terms) (cs O : List ℕ) → RunInTable m places lengths T row ts → count ts ≡ n → all_small (all_as_read ts) ≡ some cs
      → CharactersLeft m places lengths T row n at cs O O 0
  characters_start row n at ts cs O h c e =
      let f : row ≡ row + 0 = omega arith in
      let g : at + 0 ≡ at = omega arith in
      record { rest = ts; rest_held = rw (← f) h; rest_count = omega arith; left = cs; are = e; stored = ap (λ (k : ℕ). sets O k cs) g }

  module _ {row n at i : ℕ} {O out : List ℕ} (a : SomeSmall m places lengths T row n)
      (inv : (ts : Terms) (cs : List ℕ) → RunInTable m places lengths T row ts → count ts ≡ n → all_small (all_as_read ts) ≡ some cs
      → CharactersLeft m places lengths T row n at cs O out i) where
    pub characters_here : CharactersLeft m places lengths T row n at a.characters O out i
    characters_here = inv a.small_terms a.characters a.small_held a.small_counted a.are_small

    pub characters_rest : SomeRun m places lengths T (row + i) (n - i)
    characters_rest = let s = characters_here in record { terms = s.rest; held = s.rest_held; counted = s.rest_count }

  module _ {row n at i : ℕ} {cs O out : List ℕ} (s : CharactersLeft m places lengths T row n at cs O out i) (l : i < n) where
    some_left : 0 < count s.rest
    some_left = let k : count s.rest ≡ n - i = s.rest_count in omega arith

    at_front : Front m places lengths T (row + i) s.rest
    at_front = front (row + i) s.rest s.rest_held some_left

    parted : PutSome (small at_front.label.0) (all_small (all_as_read at_front.others)) s.left
    unfolding all_small
    parted = put_inverse _ _ s.left (sym (ap (λ (us : Terms). all_small (all_as_read us)) at_front.is) ∙ s.are)

    small_here : small (label_in m places lengths (get_or T (row + i) 0)) ≡ some parted.first
    small_here = character_held at_front ∙ parted.first_is

    character_is : (r : std.Option ℕ) → CharacterOf (label_in m places lengths (get_or T (row + i) 0)) r → r ≡ std.Some parted.first
    character_is std.None m = let e = small_here in cc
    character_is (std.Some x) m = let e = small_here in cc

    pub character_there : (r : std.Option ℕ) → CharacterOf (label_in m places lengths (get_or T (row + i) 0)) r → (x : ℕ) × (r ≡ std.Some x)
    character_there r m = (parted.first, character_is r m)

    pub characters_step : {c : ℕ} (r : std.Option ℕ) → CharacterOf (label_in m places lengths (get_or T (row + i) 0)) r → r ≡ std.Some c
        → CharactersLeft m places lengths T row n at cs O (set out (at + i) c) (i + 1)
    characters_step {c} r m w =
        let k : count s.rest ≡ n - i = s.rest_count in
        let j : count s.rest ≡ suc (count at_front.others) = ap count at_front.is in
        let f : at + (i + 1) ≡ suc (at + i) = omega arith in
        let a = character_is r m in
        let is : c ≡ parted.first = cc in
        record {
          rest = at_front.others;
          rest_held = next_held row i at_front parted.first parted.first_is;
          rest_count = omega arith;
          left = parted.others;
          are = parted.others_are;
          stored = ap (λ (y : ℕ). sets (set out (at + i) c) y parted.others) f
              ∙ ap (λ (x : ℕ). sets out (at + i) (x ∷ parted.others)) is
              ∙ ap (λ (x : List ℕ). sets out (at + i) x) (sym parted.joined)
              ∙ s.stored;
        }

  pub characters_end : {row n at i : ℕ} {cs O out : List ℕ} (ts : Terms) → CharactersLeft m places lengths T row n at cs O out i → n ≤ i → count ts ≡ n → all_small (all_as_read ts) ≡ some cs
      → Put O at cs (at + n) out
  characters_end {row} {n} {at} {i} {cs} {O} {out} ts s l c e =
      let z : s.left ≡ [] = none_left s.rest (n - i) s.left s.rest_count (omega arith) s.are in
      let k : length cs ≡ count (all_as_read ts) = small_count (all_as_read ts) cs e in
      let j = count_relabels (λ (x : Label × Offset). x.0) ts in
      record { past = omega arith; stored = sym (ap (λ (x : List ℕ). sets out (at + i) x) z) ∙ s.stored }

-- ---- strings

as_other : (l : Label) (ts : Forest Label) → (kind_of l ≡ 5 → ⊥) → as_string l ts ≡ none
unfolding as_string
as_other l ts h = ap (λ (z : Bool). elim z as (λ _. Option (List ℕ)) [ true ↦ some_small (count ts) (all_small ts) | false ↦ none ]) (ne_eqb (kind_of l) 5 h)

pub as_list : (l : Label) (ts : Forest Label) → kind_of l ≡ 5 → as_string l ts ≡ some_small (count ts) (all_small ts)
unfolding as_string
as_list l ts h = ap (λ (z : Bool). elim z as (λ _. Option (List ℕ)) [ true ↦ some_small (count ts) (all_small ts) | false ↦ none ]) (eq-eqb (kind_of l) 5 h)

small_none : (n : ℕ) (o : Option (List ℕ)) → n ≡ 0 → some_small n o ≡ none
unfolding some_small
small_none n o e = rw e

small_some : (n : ℕ) (o : Option (List ℕ)) → (n ≡ 0 → ⊥) → some_small n o ≡ o
unfolding some_small
small_some zero o h = absurd (h refl)
small_some (suc n) o h = refl

as_empty : (l : Label) (ts : Forest Label) → count ts ≡ 0 → as_string l ts ≡ none
unfolding as_string
as_empty l ts e = go (eqb (kind_of l) 5)
  where
    go : (z : Bool) → ◌≡◌ {A = Option (List ℕ)} (elim z as (λ _. Option (List ℕ)) [ true ↦ some_small (count ts) (all_small ts) | false ↦ none ]) none
    go true = small_none (count ts) (all_small ts) e
    go false = refl

pub count_as_read : (ts : Terms) → count (all_as_read ts) ≡ count ts
count_as_read ts = count_relabels (λ (x : Label × Offset). x.0) ts

-- what is written as a string is a list, and its characters are its elements
pub as_inverse : (l : Label) (ts : Forest Label) (cs : List ℕ) → as_string l ts ≡ some cs → (l ≡ list) × (some_small (count ts) (all_small ts) ≡ some cs)
unfolding as_string
as_inverse l ts cs e = go (eqb (kind_of l) 5) refl e
  where
    go : (z : Bool) → eqb (kind_of l) 5 ≡ z → ◌≡◌ {A = Option (List ℕ)} (elim z as (λ _. Option (List ℕ)) [ true ↦ some_small (count ts) (all_small ts) | false ↦ none ]) (some cs)
        → (l ≡ list) × (some_small (count ts) (all_small ts) ≡ some cs)
    go true f e = (kind_list l (eqb-true (kind_of l) 5 f), e)
    go false f e = let no_way : ◌≡◌ {A = ℕ} 0 1 = cc in absurd (omega arith)

pub small_is : (n : ℕ) (o : Option (List ℕ)) (cs : List ℕ) → some_small n o ≡ some cs → o ≡ some cs
unfolding some_small
small_is zero o cs e = let no_way : ◌≡◌ {A = ℕ} 0 1 = cc in absurd (omega arith)
small_is (suc n) o cs e = e

pub some_told : (o : Option (List ℕ)) → is_some o ≡ true → (cs : List ℕ) × (o ≡ some cs)
unfolding is_some
some_told none e = let no_way : ◌≡◌ {A = ℕ} 0 1 = cc in absurd (omega arith)
some_told (some cs) e = (cs, refl)

pub none_told : (o : Option (List ℕ)) → is_some o ≡ false → o ≡ none
unfolding is_some
none_told none e = refl
none_told (some cs) e = let no_way : ◌≡◌ {A = ℕ} 0 1 = cc in absurd (omega arith)

module _ {m places lengths T : List ℕ} {row : ℕ} where
  pub other_kind : (k : ℕ) → k ≡ kind_in (get_or T row 0) → (k ≡ 5 → ⊥) → (t : Located) → TermInTable m places lengths T row t → false ≡ string_term t
  unfolding string_term is_some
  other_kind k e n (node l ts) h =
      sym (ap (λ (o : Option (List ℕ)). is_some o) (as_other l.0 (all_as_read ts) (λ f. n (e ∙ held_kind h ∙ (held_writable h).at_tag (kind_list l.0 f)))))

  pub no_elements : (n : ℕ) → n ≡ parts_in (get_or T row 0) → n ≡ 0 → (t : Located) → TermInTable m places lengths T row t → false ≡ string_term t
  unfolding string_term is_some
  no_elements n e z (node l ts) h =
      sym (ap (λ (o : Option (List ℕ)). is_some o) (as_empty l.0 (all_as_read ts) (count_as_read ts ∙ sym (held_count h) ∙ sym e ∙ z)))

  pub elements_told : (k n : ℕ) (r : Bool) → k ≡ kind_in (get_or T row 0) → k ≡ 5 → n ≡ parts_in (get_or T row 0) → (n ≡ 0 → ⊥)
      → SmallTold m places lengths T (row + 1) n r → (t : Located) → TermInTable m places lengths T row t → r ≡ string_term t
  unfolding string_term
  elements_told k n r e five f any told (node l ts) h =
      let c : count ts ≡ n = sym (held_count h) ∙ sym f in
      told ts (held_parts h) c
      ∙ sym (ap (λ (o : Option (List ℕ)). is_some o)
      (as_list l.0 (all_as_read ts) (tag_kind l.0 l.1 5 (omega arith) (sym (held_kind h) ∙ sym e ∙ five))
      ∙ small_some (count (all_as_read ts)) (all_small (all_as_read ts)) (λ z. any (sym c ∙ sym (count_as_read ts) ∙ z))))

  term_node : (t : Located) → TermInTable m places lengths T row t → (l : Label × Offset) × (ts : Terms) × TermInTable m places lengths T row (node l ts)
  term_node (node l ts) h = (l, ts, h)

  pub term_below : SomeTerm m places lengths T row → row < length T
  term_below s = held_below (term_node s.term s.held).2

  pub term_sound : SomeTerm m places lengths T row → SoundWord m places lengths (get_or T row 0)
  term_sound s = held_sound (term_node s.term s.held).2

  pub parts_run : (n : ℕ) → n ≡ parts_in (get_or T row 0) → SomeTerm m places lengths T row → SomeRun m places lengths T (row + 1) n
  parts_run n e s = let k = term_node s.term s.held in record { terms = k.1; held = held_parts k.2; counted = sym (held_count k.2) ∙ sym e }
