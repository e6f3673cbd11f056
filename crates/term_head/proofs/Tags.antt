-- The tag table, from the tag that the code finds.
use mathlib.Core.Path.{◌≡◌, refl, sym, ap, ◌∙◌}
use mathlib.Core.Bool.{Bool, true, false, ◌||◌}
use mathlib.Core.List.{List, [], ◌∷◌}
use mathlib.Core.Option.{Option, none, some}
use Prim.Native.Nat.{ℕ, ◌+◌, ◌<◌, ◌≤◌}
use native.Mathlib.Omega.{arith}
use lib.Dec.{eqb}
use lib.ListN.{length, get_or}
use borrow.Author.Tests.{eqb-true, ne_eqb}
use Rattle.term_spec.specs.Text.{latin_1, utf_8}
use Rattle.term_spec.specs.Answer.{refused, Position, at_offset, Reading, refuse}
use Rattle.term_spec.specs.Head.{Given, Form, forms, form_in, form_or, form, fields, term_head, tagged, one_of, small_integer_ext, atom_ext, atom_cache_ref, nil_ext, pid_ext, port_ext, reference_ext, export_ext}
use Rattle.term_spec.specs.Rows.{kind_of}
use Rattle.term_spec.proofs.Bridge.{byte_at, byte_end}
use Rattle.term_head.specs.declared.Wanted.{Wanted}
use Rattle.term_head.specs.declared.Wanted.TheVariants.{Any, Atom, Arity}
use Rattle.term_head.specs.declared.Later.TheVariants.{Known, Pid, Port, OldReference}
use Rattle.term_head.specs.declared.Head.{Head}
use Rattle.term_head.specs.declared.Head.TheVariants.{Parts, Characters}
use Rattle.term_spec.specs.declared.Refusal.{Refusal}
use Rattle.std.specs.Prelude.{Result, Ok}
use Rattle.term_head.specs.Code.{refusal, head_of, head_at, fields_of, tag_fields, kind_later, later_of, wanted_of, allowed}

module _ (given : Given) (m : List ℕ) (at rows : ℕ) where
  -- layouts without fields
  pub nil_head : Ok (Characters 0 (at + 1)) ≡ fields_of given m at nil_ext rows
  unfolding fields_of fields head_of head_at
  nil_head = refl

  pub pid_head : (w : ℕ) → Ok (Parts 10 1 0 (Pid w) (at + 1)) ≡ fields_of given m at (pid_ext w) rows
  unfolding fields_of fields head_of head_at kind_later later_of
  pid_head w = refl

  pub port_head : (v w : ℕ) → Ok (Parts 11 1 0 (Port v w) (at + 1)) ≡ fields_of given m at (port_ext v w) rows
  unfolding fields_of fields head_of head_at kind_later later_of
  port_head v w = refl

  pub old_head : Ok (Parts 12 1 0 OldReference (at + 1)) ≡ fields_of given m at reference_ext rows
  unfolding fields_of fields head_of head_at kind_later later_of
  old_head = refl

  pub export_head : Ok (Parts 13 3 0 Known (at + 1)) ≡ fields_of given m at export_ext rows
  unfolding fields_of fields head_of head_at kind_later kind_of later_of
  export_head = refl

  -- a tag of the table
  pub at_tag : (tag k : ℕ) → tag ≡ k → (f : Form) → form_in forms k ≡ some f → fields_of given m at f rows ≡ tag_fields given m at tag rows
  unfolding fields_of tag_fields form_or
  at_tag tag k e f p = rw (e, p)

-- what the code knows of a tag past the arms of its match: it is none of a table
unfoldable pub Past : Type 0 → List (ℕ × Form) → ℕ → Type 0
Past B [] tag = B
Past B (f ∷ fs) tag = Past (B × (tag ≡ f.0 → ⊥)) fs tag

absent : (B : Type 0) (fs : List (ℕ × Form)) (tag : ℕ) → Past B fs tag → B × (form_in fs tag ≡ none)
unfolding form_in Past
absent B [] tag h = (h, refl)
absent B (f ∷ fs) tag h =
    let i = absent (B × (tag ≡ f.0 → ⊥)) fs tag h in
    (i.0.0, ap (λ (t : Bool). elim t as (λ _. Option Form) [ true ↦ some f.1 | false ↦ form_in fs tag ]) (ne_eqb f.0 tag (λ e. i.0.1 (sym e))) ∙ i.1)

pub no_tag : (given : Given) (m : List ℕ) (at rows tag : ℕ) → Past (Unit {0}) forms tag → refusal 3 at ≡ tag_fields given m at tag rows
unfolding tag_fields form_or head_of
no_tag given m at rows tag h = rw (absent (Unit {0}) forms tag h).1

-- an atom's tag
pub atom_tag : (tag k : ℕ) → tag ≡ k → one_of k (82 ∷ 100 ∷ 115 ∷ 118 ∷ 119 ∷ []) ≡ true → true ≡ one_of tag (82 ∷ 100 ∷ 115 ∷ 118 ∷ 119 ∷ [])
atom_tag tag k e h = rw e (sym h)

pub arity_tag : (tag : ℕ) → eqb tag 97 ≡ one_of tag (97 ∷ [])
arity_tag tag = go (eqb tag 97)
  where
    go : (t : Bool) → t ≡ (t || false)
    go true = refl
    go false = refl

-- tags that the table has
unfoldable pub Listed : List ℕ → Type 0
Listed [] = Unit {0}
Listed (t ∷ ts) = ((f : Form) × (form_in forms t ≡ some f)) × Listed ts

listed : (ts : List ℕ) → Listed ts → (tag : ℕ) → one_of tag ts ≡ true → (f : Form) × (form_in forms tag ≡ some f)
unfolding Listed
listed [] h tag e = let z : ◌≡◌ {A = ℕ} 0 1 = cc in absurd (omega arith)
listed (t ∷ ts) h tag e = go (eqb tag t) refl e (λ d. listed ts h.1 tag d)
  where
    go : (b : Bool) → eqb tag t ≡ b → (b || one_of tag ts) ≡ true → (one_of tag ts ≡ true → (f : Form) × (form_in forms tag ≡ some f)) → (f : Form) × (form_in forms tag ≡ some f)
    go true p e ih = rw (eqb-true tag t p) h.0
    go false p e ih = ih e

-- a tag that may stand is looked up in the table
module _ (at tag : ℕ) (s : Position) where
  only : (ts : List ℕ) → Listed ts → one_of tag ts ≡ true → form at (tagged ts) tag s ≡ form_or 3 at (form_in forms tag) s
  unfolding form form_or
  only ts h e =
      let l = listed ts h tag e in
      ap (λ (t : Bool). (elim t as (λ _. Reading Form) [ true ↦ form_or 4 at (form_in forms tag) | false ↦ refuse 4 at ]) s) e ∙ rw l.1

  pub stands : (w : Wanted) → allowed w tag ≡ true → form at (wanted_of w) tag s ≡ form_or 3 at (form_in forms tag) s
  unfolding form wanted_of allowed forms form_in Listed
  stands Any e = refl
  stands Atom e = only (82 ∷ 100 ∷ 115 ∷ 118 ∷ 119 ∷ []) ((atom_cache_ref, refl), ((atom_ext latin_1 2, refl), ((atom_ext latin_1 1, refl), ((atom_ext utf_8 2, refl), ((atom_ext utf_8 1, refl), tt))))) e
  stands Arity e = only (97 ∷ []) ((small_integer_ext, refl), tt) e

  pub fails : (w : Wanted) → allowed w tag ≡ false → form at (wanted_of w) tag s ≡ refused 4 at
  unfolding form wanted_of allowed
  fails Any e = let z : ◌≡◌ {A = ℕ} 0 1 = cc in absurd (omega arith)
  fails Atom e = ap (λ (t : Bool). (elim t as (λ _. Reading Form) [ true ↦ form_or 4 at (form_in forms tag) | false ↦ refuse 4 at ]) s) e
  fails Arity e = ap (λ (t : Bool). (elim t as (λ _. Reading Form) [ true ↦ form_or 4 at (form_in forms tag) | false ↦ refuse 4 at ]) s) e

module _ (given : Given) (m : List ℕ) (at rows : ℕ) (w : Wanted) where
  pub head_past : length m ≤ at → refusal 2 at ≡ head_of (term_head given (wanted_of w) (at_offset m at rows))
  unfolding term_head head_of
  head_past h = rw (byte_end m at at rows h)

  module _ (inside : at < length m) where
    pub head_barred : allowed w (get_or m at 0) ≡ false → refusal 4 at ≡ head_of (term_head given (wanted_of w) (at_offset m at rows))
    unfolding term_head head_of
    head_barred e = rw (byte_at m at at rows inside, fails at (get_or m at 0) (at_offset m (at + 1) rows) w e)

    pub head_known : (r : Result Head Refusal) → allowed w (get_or m at 0) ≡ true → r ≡ tag_fields given m at (get_or m at 0) rows
        → r ≡ head_of (term_head given (wanted_of w) (at_offset m at rows))
    unfolding term_head tag_fields
    head_known r e f = rw (byte_at m at at rows inside, stands at (get_or m at 0) (at_offset m (at + 1) rows) w e) f
