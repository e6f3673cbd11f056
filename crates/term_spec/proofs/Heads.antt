-- What an accepted head is.
use mathlib.Core.Path.{◌≡◌, refl, sym, ◌∙◌, ap, subst}
use mathlib.Core.Bool.{Bool, true, false, ◌&&◌, ◌||◌}
use mathlib.Core.List.{List, [], ◌∷◌}
use mathlib.Core.Option.{Option, none, some}
use Prim.Native.Nat.{ℕ, zero, suc, ◌-◌, ◌/◌, ◌%◌, ◌^◌, ◌≤◌, ◌<◌}
use native.Mathlib.Nat.{div-add-mod', mul-mod_left}
use native.Mathlib.Omega.{arith}
use lib.Dec.{leb, ltb, eqb, lit<}
use lib.IntN.{ℤ, pos, negsuc}
use lib.ListN.{length}
use borrow.Author.Tests.{leb-true, eqb-true}
use Rattle.term_spec.specs.Tree.{Forest}
use Rattle.term_spec.specs.Numbers.{little_endian, signed32, with_sign, Under}
use Rattle.term_spec.specs.Text.{valid, latin_1, utf_8, Characters}
use Rattle.term_spec.specs.Term.{Label, integer, float, atom, tuple, binary, bitstring, export}
use Rattle.term_spec.specs.Answer.{refused, Position, Reading}
use Rattle.term_spec.specs.Head.{Given, limits, Wanted, any, an_atom, an_arity, one_of, Form, small_integer_ext, integer_ext, big_ext, new_float_ext, atom_ext, atom_cache_ref, tuple_ext, nil_ext, string_ext, list_ext, binary_ext, bit_binary_ext, map_ext, pid_ext, port_ext, new_reference_ext, reference_ext, export_ext, form, form_in, forms, form_or, fields, Head, leaf, parts, characters, elements, pairs, known, term_head, bits_rule, bits_meaning, clear_low, pid_fields, port_fields, reference_fields, old_reference_fields}
use Rattle.term_spec.specs.Valid.{Fits, IsList, magnitude}
use Rattle.term_spec.proofs.Numbers.{length_digits}
use Rattle.term_spec.proofs.Text.{check_characters}
use Rattle.term_spec.proofs.Holds.{Holds, Fine, bind, done_holds, refused_holds, rule_holds, text_holds, byte_holds, bytes_holds, number_holds, little_under}
use Rattle.term_spec.proofs.Tests.{never}

-- the widths of the table
abbrev pub Widths : Form → Type 0
Widths small_integer_ext = Unit {0}
Widths integer_ext = Unit {0}
Widths new_float_ext = Unit {0}
Widths atom_cache_ref = Unit {0}
Widths nil_ext = Unit {0}
Widths string_ext = Unit {0}
Widths list_ext = Unit {0}
Widths binary_ext = Unit {0}
Widths bit_binary_ext = Unit {0}
Widths map_ext = Unit {0}
Widths reference_ext = Unit {0}
Widths export_ext = Unit {0}
Widths (big_ext w) = 256 ^ w ≤ 2 ^ 32
Widths (atom_ext coding w) = Unit {0}
Widths (tuple_ext w) = 256 ^ w ≤ 2 ^ 32
Widths (pid_ext w) = 256 ^ w ≤ 2 ^ 32
Widths (new_reference_ext w) = 256 ^ w ≤ 2 ^ 32
Widths (port_ext v w) = (256 ^ v ≤ 2 ^ 64) × (256 ^ w ≤ 2 ^ 32)

-- what an accepted head may be
pub data Sound (flags : ℕ) : Head → Type 0 where
  a_leaf : {l : Label} → Fits flags l Forest.empty → ¬ IsList l → Sound flags (leaf l)
  a_tuple : {n : ℕ} → n < 2 ^ 32 → Sound flags (parts [] n (known tuple))
  a_pid : {w : ℕ} → 256 ^ w ≤ 2 ^ 32 → Sound flags (parts (an_atom ∷ []) 0 (pid_fields w))
  a_port : {v w : ℕ} → 256 ^ v ≤ 2 ^ 64 → 256 ^ w ≤ 2 ^ 32 → Sound flags (parts (an_atom ∷ []) 0 (port_fields v w))
  a_reference : {k w : ℕ} → 1 ≤ k → k ≤ (limits flags w).word_count → 256 ^ w ≤ 2 ^ 32 → Sound flags (parts (an_atom ∷ []) 0 (reference_fields k w))
  an_old_reference : Sound flags (parts (an_atom ∷ []) 0 old_reference_fields)
  an_export : Sound flags (parts (an_atom ∷ an_atom ∷ an_arity ∷ []) 0 (known export))
  a_string : {cs : List ℕ} → Under 256 cs → Sound flags (characters cs)
  a_list : {n : ℕ} → Sound flags (elements n)
  a_map : {n : ℕ} → Sound flags (pairs n)

-- numbers
signed_magnitude : (n : ℕ) → n < 2 ^ 32 → magnitude (signed32 n) ≤ 2 ^ 32
unfolding signed32
signed_magnitude n h = go (ltb n (2 ^ 31))
  where
    go : (t : Bool) → magnitude (elim t [ true ↦ pos n | false ↦ negsuc (2 ^ 32 - suc n) ]) ≤ 2 ^ 32
    go true = omega arith
    go false = omega arith

sign_magnitude : (sign m : ℕ) → magnitude (with_sign sign m) ≡ m
unfolding with_sign
sign_magnitude zero m = refl
sign_magnitude (suc s) zero = refl
sign_magnitude (suc s) (suc m) = refl

pub integer_fits : (flags : ℕ) (z : ℤ) (k : ℕ) → magnitude z < 256 ^ k → k < 2 ^ 32 → Fits flags (integer z) Forest.empty
integer_fits flags z k h l = (refl, omega (arith, length_digits (magnitude z) k h))

-- bits
cleared : (b m : ℕ) → (b - b % m) % m ≡ 0
cleared b m =
    ap (λ (x : ℕ). x % m) (omega (arith, div-add-mod' b m)) ∙ mul-mod_left (b / m) m

pub length_clear : (bits : ℕ) (bs : List ℕ) → length (clear_low bits bs) ≡ length bs
unfolding clear_low
length_clear bits [] = refl
length_clear bits (b ∷ []) = refl
length_clear bits (b ∷ c ∷ bs) = ap suc (length_clear bits (c ∷ bs))

clear_clear : (bits : ℕ) (bs : List ℕ) → clear_low bits (clear_low bits bs) ≡ clear_low bits bs
unfolding clear_low
clear_clear bits [] = refl
clear_clear bits (b ∷ []) =
    ap (λ (x : ℕ). (b - b % 2 ^ (8 - bits) - x) ∷ []) (cleared b (2 ^ (8 - bits))) ∙ ap (λ (x : ℕ). x ∷ []) (omega arith)
clear_clear bits (b ∷ c ∷ bs) = again (clear_low bits (c ∷ bs)) refl (clear_clear bits (c ∷ bs))
  where
    again : (xs : List ℕ) → clear_low bits (c ∷ bs) ≡ xs → clear_low bits (clear_low bits (c ∷ bs)) ≡ clear_low bits (c ∷ bs)
        → clear_low bits (b ∷ clear_low bits (c ∷ bs)) ≡ b ∷ clear_low bits (c ∷ bs)
    again [] e ih = let no_way : ◌≡◌ {A = ℕ} (suc (length bs)) 0 = sym (length_clear bits (c ∷ bs)) ∙ ap length e in absurd (omega arith)
    again (x ∷ xs) e ih = rw e (ap (λ (ys : List ℕ). b ∷ ys) (rw e at ih))

bits_fit : (flags bits : ℕ) (bs : List ℕ) → length bs < 2 ^ 32 → bits < 256 → bits_rule (length bs) bits ≡ true → Fits flags (bits_meaning bits bs) Forest.empty
unfolding bits_meaning
bits_fit flags bits bs h k e = go (eqb bits 0 || eqb bits 8) refl
  where
    go : (t : Bool) → (eqb bits 0 || eqb bits 8) ≡ t → Fits flags (elim t [ true ↦ binary bs | false ↦ bitstring bits (clear_low bits bs) ]) Forest.empty
    go true f = (refl, h)
    go false f = (
      refl,
      rw (length_clear bits bs) h,
      k,
      rw (length_clear bits bs) e,
      rw (f, bits_meaning) (ap (bitstring bits) (clear_clear bits bs)),
    )

bits_no_list : (bits : ℕ) (bs : List ℕ) → ¬ IsList (bits_meaning bits bs)
unfolding bits_meaning
bits_no_list bits bs = go (eqb bits 0 || eqb bits 8)
  where
    go : (t : Bool) → ¬ IsList (elim t [ true ↦ binary bs | false ↦ bitstring bits (clear_low bits bs) ])
    go true x = x
    go false x = x

-- where an atom or a byte is wanted: what their forms give
abbrev pub IsAtom : Head → Type 0
IsAtom h = (cs : List ℕ) × (h ≡ leaf (atom cs))

abbrev pub IsByte : Head → Type 0
IsByte h = (n : ℕ) × (n < 256) × (h ≡ leaf (integer (pos n)))

abbrev pub Comes : Form → Head → Type 0
Comes small_integer_ext h = IsByte h
Comes integer_ext h = Unit {0}
Comes new_float_ext h = Unit {0}
Comes atom_cache_ref h = IsAtom h
Comes nil_ext h = Unit {0}
Comes string_ext h = Unit {0}
Comes list_ext h = Unit {0}
Comes binary_ext h = Unit {0}
Comes bit_binary_ext h = Unit {0}
Comes map_ext h = Unit {0}
Comes reference_ext h = Unit {0}
Comes export_ext h = Unit {0}
Comes (big_ext w) h = Unit {0}
Comes (atom_ext coding w) h = IsAtom h
Comes (tuple_ext w) h = Unit {0}
Comes (pid_ext w) h = Unit {0}
Comes (new_reference_ext w) h = Unit {0}
Comes (port_ext v w) h = Unit {0}

-- the atom list holds texts of characters, 255 at most
abbrev pub TrueAtoms : Given → Type 0
TrueAtoms given = (i : ℕ) (cs : List ℕ) → given.text i ≡ valid cs → Characters cs × (length cs ≤ 255)

module _ (given : Given) (true_atoms : TrueAtoms given) where
  pub fields_holds : {r : ℕ} (p : ℕ) (f : Form) → Widths f → (s : Position) → Fine r s → {Q : Head → Position → Type 0}
      → ((h : Head) (t : Position) → Sound given.flags h → Comes f h → Fine r t → Q h t) → Holds (fields given p f s) Q
  unfolding fields
  fields_holds p small_integer_ext w s g q =
      bind (number_holds p 1 s g λ n t h g. done_holds _ t (q _ t (a_leaf (integer_fits given.flags (pos n) 1 h (lit< tt)) (λ x. x)) (n, h, refl) g))
  fields_holds p integer_ext w s g q =
      bind (number_holds p 4 s g λ n t h g.
      done_holds _ t (q _ t (a_leaf (integer_fits given.flags (signed32 n) 5 (omega (arith, signed_magnitude n h)) (lit< tt)) (λ x. x)) tt g))
  fields_holds p new_float_ext w s g q =
      bind (number_holds p 8 s g λ n t h g. bind (rule_holds _ 4 p t λ e. done_holds _ t (q _ t (a_leaf {l = float n} (refl, h, e) (λ x. x)) tt g)))
  fields_holds p atom_cache_ref w s g q =
      bind (number_holds p 1 s g λ i t h g. bind (rule_holds (ltb i given.n) 6 p t λ e. bind (text_holds _ 14 _ t λ cs e.
      done_holds _ t (q _ t (a_leaf {l = atom cs} (refl, (true_atoms i cs e).0, (true_atoms i cs e).1) (λ x. x)) (cs, refl) g))))
  fields_holds p nil_ext w s g q = done_holds _ s (q _ s (a_string tt) tt g)
  fields_holds p string_ext w s g q =
      bind (number_holds p 2 s g λ n t h g. bind (bytes_holds p n t g λ bs u l us g. done_holds _ u (q _ u (a_string us) tt g)))
  fields_holds p list_ext w s g q = bind (number_holds p 4 s g λ n t h g. done_holds _ t (q _ t a_list tt g))
  fields_holds p binary_ext w s g q =
      bind (number_holds p 4 s g λ n t h g. bind (bytes_holds p n t g λ bs u l us g. done_holds _ u (q _ u (a_leaf {l = binary bs} (refl, rw l h) (λ x. x)) tt g)))
  fields_holds p bit_binary_ext w s g q =
      bind (number_holds p 4 s g λ n t h g. bind (number_holds p 1 t g λ bits t k g. bind (bytes_holds p n t g λ bs u l us g.
      bind (rule_holds _ 4 p u λ e. done_holds _ u (q _ u (a_leaf (bits_fit given.flags bits bs (rw l h) k (rw l e)) (bits_no_list bits bs)) tt g)))))
  fields_holds p map_ext w s g q = bind (number_holds p 4 s g λ n t h g. done_holds _ t (q _ t a_map tt g))
  fields_holds p reference_ext w s g q = done_holds _ s (q _ s an_old_reference tt g)
  fields_holds p export_ext w s g q = done_holds _ s (q _ s an_export tt g)
  fields_holds p (big_ext w) ok s g q =
      bind (number_holds p w s g λ n t h g. bind (number_holds p 1 t g λ sign t k g. bind (bytes_holds p n t g λ ds u l us g.
      bind (rule_holds (leb sign 1) 4 p u λ e. done_holds _ u (q _ u
      (a_leaf {l = integer (with_sign sign (little_endian ds))} (integer_fits given.flags (with_sign sign (little_endian ds)) n (rw (sign_magnitude sign (little_endian ds)) (rw l at (little_under ds us))) (omega arith)) (λ x. x)) tt g)))))
  fields_holds p (atom_ext coding w) ok s g q =
      bind (number_holds p w s g λ n t h g. bind (bytes_holds p n t g λ bs u l us g. bind (text_holds _ 5 _ u λ cs e.
      let ok : Characters cs × (length cs ≤ 255) = check_characters coding bs cs us e in
      done_holds _ u (q _ u (a_leaf {l = atom cs} (refl, ok.0, ok.1) (λ x. x)) (cs, refl) g))))
  fields_holds p (tuple_ext w) ok s g q = bind (number_holds p w s g λ n t h g. done_holds _ t (q _ t (a_tuple (omega arith)) tt g))
  fields_holds p (pid_ext w) ok s g q = done_holds _ s (q _ s (a_pid ok) tt g)
  fields_holds p (new_reference_ext w) ok s g q =
      bind (number_holds p 2 s g λ n t h g. bind (rule_holds _ 4 p t λ e.
      let few : (1 ≤ n) × (n ≤ (limits given.flags w).word_count) = both_true n e in
      done_holds _ t (q _ t (a_reference few.0 few.1 ok) tt g)))
    where
      both_true : (n : ℕ) → (leb 1 n && leb n (limits given.flags w).word_count) ≡ true → (1 ≤ n) × (n ≤ (limits given.flags w).word_count)
      both_true n e = go (leb 1 n) refl (leb n (limits given.flags w).word_count) refl e
        where
          go : (x : Bool) → leb 1 n ≡ x → (y : Bool) → leb n (limits given.flags w).word_count ≡ y → (x && y) ≡ true → (1 ≤ n) × (n ≤ (limits given.flags w).word_count)
          go true p true q f = (leb-true 1 n p, leb-true n (limits given.flags w).word_count q)
          go true p false q f = let no_way : ◌≡◌ {A = ℕ} 0 1 = cc in (omega arith, omega arith)
          go false p y q f = let no_way : ◌≡◌ {A = ℕ} 0 1 = cc in (omega arith, omega arith)
  fields_holds p (port_ext v w) ok s g q = done_holds _ s (q _ s (a_port ok.0 ok.1) tt g)

-- what is asked for at a place
pub data Asked : Wanted → Type 0 where
  for_any : Asked any
  for_atom : Asked an_atom
  for_arity : Asked an_arity

abbrev pub Suits : {w : Wanted} → Asked w → Head → Type 0
Suits for_any h = Unit {0}
Suits for_atom h = IsAtom h
Suits for_arity h = IsByte h

-- the table's widths
abbrev AllWidths : List (ℕ × Form) → Type 0
AllWidths [] = Unit {0}
AllWidths (f ∷ fs) = Widths f.1 × AllWidths fs

table_widths : AllWidths forms
unfolding forms
table_widths = omega arith

widths_in : (fs : List (ℕ × Form)) → AllWidths fs → (tag : ℕ) (f : Form) → form_in fs tag ≡ some f → Widths f
unfolding form_in
widths_in [] all tag f e = let no_way : ◌≡◌ {A = ℕ} 0 1 = cc in absurd (omega arith)
widths_in (x ∷ fs) all tag f e = go (eqb x.0 tag) e (λ e'. widths_in fs all.1 tag f e')
  where
    go : (t : Bool) → elim t [ true ↦ some x.1 | false ↦ form_in fs tag ] ≡ some f → (form_in fs tag ≡ some f → Widths f) → Widths f
    go true p ih = let is : x.1 ≡ f = cc in subst (λ (y : Form). Widths y) is all.0
    go false p ih = ih p

form_or_holds : (n p : ℕ) (o : Option Form) (s : Position) {Q : Form → Position → Type 0} → ((f : Form) → o ≡ some f → Q f s) → Holds (form_or n p o s) Q
unfolding form_or
form_or_holds n p none s q = refused_holds n p
form_or_holds n p (some f) s q = done_holds f s (q f refl)

-- a tag among those wanted
among_tags : (P : ℕ → Type 0) (tag t : ℕ) (ts : List ℕ) → P t → (one_of tag ts ≡ true → P tag) → one_of tag (t ∷ ts) ≡ true → P tag
among_tags P tag t ts here later e = go (eqb tag t) refl e
  where
    go : (x : Bool) → eqb tag t ≡ x → (x || one_of tag ts) ≡ true → P tag
    go true p f = subst (λ (y : ℕ). P y) (sym (eqb-true tag t p)) here
    go false p f = later f

-- what stands at a tag of the table
abbrev At : (Form → Type 0) → ℕ → Type 0
At R tag = (f : Form) → form_in forms tag ≡ some f → R f

abbrev GivesAtom : Form → Type 0
GivesAtom f = (h : Head) → Comes f h → IsAtom h

abbrev GivesByte : Form → Type 0
GivesByte f = (h : Head) → Comes f h → IsByte h

module _ (R : Form → Type 0) (g : Form) (q : R g) where
  at_entry : (f : Form) → ◌≡◌ {A = Option Form} (some g) (some f) → R f
  at_entry f e = let is : g ≡ f = cc in subst R is q

atom_tags : (tag : ℕ) → one_of tag (82 ∷ 100 ∷ 115 ∷ 118 ∷ 119 ∷ []) ≡ true → At GivesAtom tag
unfolding form_in forms
atom_tags tag e =
    among_tags (At GivesAtom) tag 82 (100 ∷ 115 ∷ 118 ∷ 119 ∷ []) (at_entry GivesAtom atom_cache_ref (λ h c. c))
    (among_tags (At GivesAtom) tag 100 (115 ∷ 118 ∷ 119 ∷ []) (at_entry GivesAtom (atom_ext latin_1 2) (λ h c. c))
    (among_tags (At GivesAtom) tag 115 (118 ∷ 119 ∷ []) (at_entry GivesAtom (atom_ext latin_1 1) (λ h c. c))
    (among_tags (At GivesAtom) tag 118 (119 ∷ []) (at_entry GivesAtom (atom_ext utf_8 2) (λ h c. c))
    (among_tags (At GivesAtom) tag 119 [] (at_entry GivesAtom (atom_ext utf_8 1) (λ h c. c))
    never)))) e

arity_tags : (tag : ℕ) → one_of tag (97 ∷ []) ≡ true → At GivesByte tag
unfolding form_in forms
arity_tags tag e = among_tags (At GivesByte) tag 97 [] (at_entry GivesByte small_integer_ext (λ h c. c)) never e

form_holds : (p : ℕ) {w : Wanted} (a : Asked w) (tag : ℕ) (s : Position) {Q : Form → Position → Type 0}
    → ((f : Form) → Widths f → ((h : Head) → Comes f h → Suits a h) → Q f s) → Holds (form p w tag s) Q
unfolding form
form_holds p for_any tag s q = form_or_holds 3 p (form_in forms tag) s (λ f e. q f (widths_in forms table_widths tag f e) (λ h c. tt))
form_holds p for_atom tag s {Q} q = go (one_of tag (82 ∷ 100 ∷ 115 ∷ 118 ∷ 119 ∷ [])) refl
  where
    go : (t : Bool) → one_of tag (82 ∷ 100 ∷ 115 ∷ 118 ∷ 119 ∷ []) ≡ t
        → Holds (elim t as (λ _. Reading Form) [ true ↦ form_or 4 p (form_in forms tag) | false ↦ λ s. refused 4 p ] s) Q
    go true e = form_or_holds 4 p (form_in forms tag) s (λ f e'. q f (widths_in forms table_widths tag f e') (atom_tags tag e f e'))
    go false e = refused_holds 4 p
form_holds p for_arity tag s {Q} q = go (one_of tag (97 ∷ [])) refl
  where
    go : (t : Bool) → one_of tag (97 ∷ []) ≡ t
        → Holds (elim t as (λ _. Reading Form) [ true ↦ form_or 4 p (form_in forms tag) | false ↦ λ s. refused 4 p ] s) Q
    go true e = form_or_holds 4 p (form_in forms tag) s (λ f e'. q f (widths_in forms table_widths tag f e') (arity_tags tag e f e'))
    go false e = refused_holds 4 p

module _ (given : Given) (true_atoms : TrueAtoms given) where
  pub head_holds : {r : ℕ} {w : Wanted} (a : Asked w) (s : Position) → Fine r s → {Q : Head → Position → Type 0}
      → ((h : Head) (t : Position) → Sound given.flags h → Suits a h → Fine r t → Q h t) → Holds (term_head given w s) Q
  unfolding term_head
  head_holds {r} {w} a s g q =
      bind (byte_holds s.at s g λ tag t _ g. bind (form_holds s.at a tag t λ f ws suits.
      fields_holds given true_atoms s.at f ws t g λ h u ok comes g. q h u ok (suits h comes) g))
