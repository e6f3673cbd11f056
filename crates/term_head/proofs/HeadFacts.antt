-- What is known of a head that was read: where it ends, and what parts it wants.
use mathlib.Core.Path.{◌≡◌, refl, sym, ap, ap₂, ◌∙◌}
use mathlib.Core.Bool.{Bool, true, false, ◌&&◌, ◌||◌}
use mathlib.Core.List.{List, [], ◌∷◌}
use mathlib.Core.Option.{Option, none, some}
use Prim.Native.Nat.{ℕ, ◌+◌, ◌<◌, ◌≤◌}
use native.Mathlib.Omega.{arith}
use lib.Dec.{eqb, leb, ltb}
use lib.ListN.{length, get_or}
use borrow.Author.Tests.{eqb-true}
use Rattle.term_spec.specs.Text.{check}
use Rattle.term_spec.specs.Answer.{Position, at_offset, after, rule, byte, bytes, number}
use Rattle.term_spec.specs.Head.{Given, limits, an_atom, an_arity, Form, small_integer_ext, integer_ext, new_float_ext, atom_cache_ref, nil_ext, string_ext, list_ext, binary_ext, bit_binary_ext, map_ext, reference_ext, export_ext, big_ext, tuple_ext, pid_ext, new_reference_ext, atom_ext, port_ext, text_or, finite, bits_rule, forms, form_in, form_or, form, fields, term_head, later, parts, characters, elements, pairs}
use Rattle.term_spec.specs.Head as head_spec
use Rattle.term_spec.specs.Reading.{empty_108}
use Rattle.term_spec.proofs.Bridge.{byte_at, byte_end}
use Rattle.term_spec.proofs.Holds.{Holds, next, weaken, done_holds, refused_holds, skip}
use Rattle.term_spec.proofs.Invariant.{InStep, on_byte, fields_kept, form_kept}
use Rattle.term_spec.proofs.Tests.{by_less}
use Rattle.term_head.specs.declared.Wanted.{Wanted}
use Rattle.term_head.specs.Code.{wanted_of, allowed}
use Rattle.term_head.proofs.Tags.{stands, fails}

-- Positions of a message from offset `from` on, with these rows taken
pub record Past (m : List ℕ) (from rows : ℕ) (t : Position) : Type 0 where
  pub in_step : InStep m rows t
  pub later : from ≤ t.at
  pub rows_are : t.rows_taken ≡ rows

module _ (m : List ℕ) (from rows : ℕ) where
  pub past_byte : (s : Position) (b : ℕ) (bs : List ℕ) → s.left ≡ b ∷ bs → Past m from rows s → Past m from rows (record { at = s.at + 1; left = bs; rows_taken = s.rows_taken })
  past_byte s b bs e i = record { in_step = on_byte m rows s b bs e i.in_step; later = omega (arith, i.later); rows_are = i.rows_are }

  pub past_row : (s : Position) → s.rows_taken < 0 → Past m from rows s → Past m from rows (record { at = s.at; left = s.left; rows_taken = s.rows_taken + 1 })
  past_row s h i = absurd (omega arith)

  -- such a position is that of its offset
  pub past_is : (t : Position) → Past m from rows t → t ≡ at_offset m t.at rows
  past_is t i = ap₂ (λ (l : List ℕ) (r : ℕ). record { at = t.at; left = l; rows_taken = r }) i.in_step.bytes_are i.rows_are

-- a head ends past its tag, in the message
pub head_past_tag : (given : Given) (m : List ℕ) (at rows : ℕ) (w : head_spec.Wanted) → Holds (term_head given w (at_offset m at rows)) (λ _ t. Past m (at + 1) rows t)
unfolding term_head
head_past_tag given m at rows w =
    by_less at (length m)
    (λ inside.
    let start : Past m (at + 1) rows (at_offset m (at + 1) rows) =
    record { in_step = record { bytes_are = refl; inside = omega arith; room = omega arith }; later = omega arith; rows_are = refl } in
    rw (byte_at m at at rows inside)
    (next (λ _ t. Past m (at + 1) rows t)
    (form_kept 0 (Past m (at + 1) rows) (past_byte m (at + 1) rows) (past_row m (at + 1) rows) given at w (get_or m at 0) (at_offset m (at + 1) rows) start)
    (λ f t i. fields_kept 0 (Past m (at + 1) rows) (past_byte m (at + 1) rows) (past_row m (at + 1) rows) given at f t i)))
    (λ over. rw (byte_end m at at rows over) (refused_holds 2 at))

-- The parts that a head wants: none, a node, or module, function and arity
pub data Wants : List head_spec.Wanted → Type 0 where
  no_part : Wants []
  one_node : Wants (an_atom ∷ [])
  a_function : Wants (an_atom ∷ an_atom ∷ an_arity ∷ [])

-- what a head's layout says of it
unfoldable pub Wanting : head_spec.Head → Type 0
Wanting (parts ws n l) = Wants ws
Wanting (characters cs) = Unit {0}
Wanting (elements n) = Unit {0}
Wanting (pairs n) = Unit {0}

-- every layout but that of 108
unfoldable plain : Form → Bool
plain small_integer_ext = true
plain integer_ext = true
plain new_float_ext = true
plain atom_cache_ref = true
plain nil_ext = true
plain string_ext = true
plain list_ext = false
plain binary_ext = true
plain bit_binary_ext = true
plain map_ext = true
plain reference_ext = true
plain export_ext = true
plain (big_ext w) = true
plain (tuple_ext w) = true
plain (pid_ext w) = true
plain (new_reference_ext w) = true
plain (atom_ext c w) = true
plain (port_ext v w) = true

-- every head but a 108's
abbrev pub no_108 : head_spec.Head → Bool
no_108 (parts ws n l) = true
no_108 (characters cs) = true
no_108 (elements n) = false
no_108 (pairs n) = true

filled_108 : (h : head_spec.Head) → no_108 h ≡ true → empty_108 h ≡ false
filled_108 (parts ws n l) e = refl
filled_108 (characters cs) e = refl
filled_108 (elements n) e = let z : ◌≡◌ {A = ℕ} 0 1 = cc in absurd (omega arith)
filled_108 (pairs n) e = refl

record Shape (p : Bool) (h : head_spec.Head) : Type 0 where
  wanting : Wanting h
  other : p ≡ true → no_108 h ≡ true

full : (l : List head_spec.Wanted) (n : ℕ) (x : head_spec.Later) → Wants l → Shape true (parts l n x)
unfolding Wanting
full l n x w = record { wanting = w; other = λ _. refl }

module _ (given : Given) (p : ℕ) where
  shape : (f : Form) (s : Position) → Holds (fields given p f s) (λ h _. Shape (plain f) h)
  unfolding fields plain Wanting
  shape small_integer_ext s = skip (number p 1 s) λ n t. done_holds _ t (full _ _ _ no_part)
  shape integer_ext s = skip (number p 4 s) λ n t. done_holds _ t (full _ _ _ no_part)
  shape new_float_ext s = skip (number p 8 s) λ n t. skip (rule (finite n) 4 p t) λ _ t. done_holds _ t (full _ _ _ no_part)
  shape atom_cache_ref s =
      skip (number p 1 s) λ n t. skip (rule (ltb n given.n) 6 p t) λ _ t. skip (text_or (given.text n) 14 _ t) λ cs t.
      done_holds _ t (full _ _ _ no_part)
  shape nil_ext s = done_holds _ s (record { wanting = tt; other = λ _. refl })
  shape string_ext s = skip (number p 2 s) λ n t. skip (bytes p n t) λ bs t. done_holds _ t (record { wanting = tt; other = λ _. refl })
  shape list_ext s = skip (number p 4 s) λ n t. done_holds _ t (record { wanting = tt; other = λ e. let z : ◌≡◌ {A = ℕ} 0 1 = cc in absurd (omega arith) })
  shape binary_ext s = skip (number p 4 s) λ n t. skip (bytes p n t) λ bs t. done_holds _ t (full _ _ _ no_part)
  shape bit_binary_ext s =
      skip (number p 4 s) λ n t. skip (number p 1 t) λ b t. skip (bytes p n t) λ bs t. skip (rule (bits_rule n b) 4 p t) λ _ t.
      done_holds _ t (full _ _ _ no_part)
  shape map_ext s = skip (number p 4 s) λ n t. done_holds _ t (record { wanting = tt; other = λ _. refl })
  shape reference_ext s = done_holds _ s (full _ _ _ one_node)
  shape export_ext s = done_holds _ s (full _ _ _ a_function)
  shape (big_ext w) s =
      skip (number p w s) λ n t. skip (number p 1 t) λ b t. skip (bytes p n t) λ ds t. skip (rule (leb b 1) 4 p t) λ _ t.
      done_holds _ t (full _ _ _ no_part)
  shape (tuple_ext w) s = skip (number p w s) λ n t. done_holds _ t (full _ _ _ no_part)
  shape (pid_ext w) s = done_holds _ s (full _ _ _ one_node)
  shape (new_reference_ext w) s = skip (number p 2 s) λ n t. skip (rule (leb 1 n && leb n (limits given.flags w).word_count) 4 p t) λ _ t. done_holds _ t (full _ _ _ one_node)
  shape (atom_ext c w) s = skip (number p w s) λ n t. skip (bytes p n t) λ bs t. skip (text_or (check c bs) 5 _ t) λ cs t. done_holds _ t (full _ _ _ no_part)
  shape (port_ext v w) s = done_holds _ s (full _ _ _ one_node)

-- what a head wants
pub head_wanting : (given : Given) (w : head_spec.Wanted) (s : Position) → Holds (term_head given w s) (λ h _. Wanting h)
unfolding term_head
head_wanting given w s =
    skip (byte s.at s) λ tag t. skip (form s.at w tag t) λ f t.
    weaken (λ h _. Shape (plain f) h) (shape given s.at f t) (λ h _ x. x.wanting)

-- the layout of a tag other than 108
rows_plain : List (ℕ × Form) → Bool
rows_plain [] = true
rows_plain (f ∷ fs) = (eqb f.0 108 || plain f.1) && rows_plain fs

only_108 : (fs : List (ℕ × Form)) (tag : ℕ) → (tag ≡ 108 → ⊥) → rows_plain fs ≡ true → (f : Form) → form_in fs tag ≡ some f → plain f ≡ true
unfolding form_in rows_plain
only_108 [] tag h r f e = let z : ◌≡◌ {A = ℕ} 0 1 = cc in absurd (omega arith)
only_108 (x ∷ fs) tag h r f e = go (eqb x.0 108) refl (plain x.1) refl r (eqb x.0 tag) refl e (λ r e. only_108 fs tag h r f e)
  where
    go : (b : Bool) → eqb x.0 108 ≡ b → (q : Bool) → plain x.1 ≡ q → ((b || q) && rows_plain fs) ≡ true
        → (c : Bool) → eqb x.0 tag ≡ c → (elim c as (λ _. Option Form) [ true ↦ some x.1 | false ↦ form_in fs tag ]) ≡ some f
        → (rows_plain fs ≡ true → form_in fs tag ≡ some f → plain f ≡ true) → plain f ≡ true
    go true i q j r true k e ih = absurd (h (sym (eqb-true x.0 tag k) ∙ eqb-true x.0 108 i))
    go true i q j r false k e ih = ih r e
    go false i true j r true k e ih = let same : x.1 ≡ f = cc in ap plain (sym same) ∙ j
    go false i true j r false k e ih = ih r e
    go false i false j r c k e ih = let z : ◌≡◌ {A = ℕ} 0 1 = cc in absurd (omega arith)

module _ (given : Given) (m : List ℕ) (at rows : ℕ) where
  -- no 108: where its tag is not there or not allowed
  found_form : (tag : ℕ) → (tag ≡ 108 → ⊥) → (o : Option Form) → form_in forms tag ≡ o → (s : Position)
      → Holds (after (form_or 3 at o s) (fields given at)) (λ h _. no_108 h ≡ true)
  unfolding form_or forms rows_plain plain
  found_form tag f none e s = refused_holds 3 at
  found_form tag f (some x) e s = weaken (λ h _. Shape (plain x) h) (shape given at x s) (λ h _ y. y.other (only_108 forms tag f refl x e))

  pub other_tag : (w : Wanted) → (allowed w (get_or m at 0) ≡ true → get_or m at 0 ≡ 108 → ⊥) → Holds (term_head given (wanted_of w) (at_offset m at rows)) (λ h _. no_108 h ≡ true)
  unfolding term_head
  other_tag w f =
      by_less at (length m)
      (λ inside. rw (byte_at m at at rows inside) (go (allowed w (get_or m at 0)) refl))
      (λ over. rw (byte_end m at at rows over) (refused_holds 2 at))
    where
      go : (b : Bool) → allowed w (get_or m at 0) ≡ b → Holds (after (form at (wanted_of w) (get_or m at 0) (at_offset m (at + 1) rows)) (fields given at)) (λ h _. no_108 h ≡ true)
      go true e = rw (stands at (get_or m at 0) (at_offset m (at + 1) rows) w e) (found_form (get_or m at 0) (f e) (form_in forms (get_or m at 0)) refl (at_offset m (at + 1) rows))
      go false e = rw (fails at (get_or m at 0) (at_offset m (at + 1) rows) w e) (refused_holds 4 at)

  pub not_108 : (w : Wanted) → (allowed w (get_or m at 0) ≡ true → get_or m at 0 ≡ 108 → ⊥) → Holds (term_head given (wanted_of w) (at_offset m at rows)) (λ h _. empty_108 h ≡ false)
  not_108 w f = weaken (λ h _. no_108 h ≡ true) (other_tag w f) (λ h _ x. filled_108 h x)
