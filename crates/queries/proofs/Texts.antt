-- Where the text of an atom stands: what is found again of the atom says what `text_of` says.
use mathlib.Core.Path.{◌≡◌, refl, sym, ap, ap₂, ◌∙◌}
use mathlib.Core.Bool.{Bool, true, false, ◌&&◌, ◌||◌, cond}
use mathlib.Core.List.{List, [], ◌∷◌}
use mathlib.Core.Logic.{◌⊎◌, inl, inr}
use mathlib.Core.Option.{some}
use Prim.Native.Nat.{ℕ, ◌+◌, ◌-◌, ◌*◌, ◌^◌, ◌≤◌}
use native.Mathlib.Omega.{arith}
use lib.Dec.{eqb, leb, ltb}
use lib.IntN.{pos}
use lib.ListN.{length, get_or}
use borrow.Author.Tests.{ltb-false}
use Rattle.std.specs.Prelude.{Ok, Option, Some, None}
use Rattle.term_spec.specs.Numbers.{little_endian, signed32, with_sign}
use Rattle.term_spec.specs.Text.{Coding, latin_1, utf_8}
use Rattle.term_spec.specs.Term.{Label, integer, float, atom, tuple, list, improper_list, binary, bitstring, export}
use Rattle.term_spec.specs.Answer.{Position, at_offset, rule, bytes, number}
use Rattle.term_spec.specs.Head.{Given, Wanted, an_atom, an_arity, one_of, Form, small_integer_ext, integer_ext, big_ext, new_float_ext, atom_ext, atom_cache_ref, tuple_ext, nil_ext, string_ext, list_ext, binary_ext, bit_binary_ext, map_ext, pid_ext, port_ext, new_reference_ext, reference_ext, export_ext, form_in, forms, fields, Head, parts, Later, known, pid_fields, port_fields, reference_fields, old_reference_fields, later, id_words, words_rule, creation_rule, limits, finite, bits_rule, bits_meaning, clear_low, term_head}
use Rattle.term_spec.specs.Reading.{tag_at}
use Rattle.term_spec.specs.AtomList.{AtomList, place_length, given_of}
use Rattle.term_spec.specs.Rows.{kind_of}
use Rattle.term_spec.specs.Look.{Stretch, of_message, of_list, text_of}
use Rattle.term_spec.proofs.Holds.{Holds, done_holds, weaken, skip}
use Rattle.term_spec.proofs.Backed.{Allowed, AtomForm, is_82, is_100, is_115, is_118, is_119, atom_form, Agrees, LabelAt}
use Rattle.term_spec.proofs.Tests.{also}
use Rattle.octets.specs.Parts.{counted_end}
use Rattle.octets.proofs.Numbers.{big_one}
use Rattle.octets.proofs.Counted.{past_some}
use Rattle.row_fields.specs.declared.Content.{Content}
use Rattle.row_fields.specs.declared.Content.TheVariants.{Nothing, Whole, Big, Float, Text, Bytes, Bits, Pid, Port, Reference}
use Rattle.row_fields.specs.Found.{if_counted, value, text_width, text_found, place_found, listed_found, atom_found, kind_found, content_of}
use Rattle.row_fields.specs.Meaning.{bare, label_of}
use Rattle.row_fields.proofs.Says.{Sound}
use Rattle.row_fields.proofs.Read.{AllRows, row_of, position_is, head_here}
use Rattle.queries.specs.declared.TextAt.TheVariants as texts
use Rattle.queries.specs.Code.{text_said}
use Rattle.queries.specs.Promises.{is_latin1, stretch_at, TextInside}

-- ---- an atom's label stands at an atom's tag

-- the layouts of atoms
abbrev atomic : Form → Bool
atomic small_integer_ext = false
atomic integer_ext = false
atomic (big_ext w) = false
atomic new_float_ext = false
atomic (atom_ext coding w) = true
atomic atom_cache_ref = true
atomic (tuple_ext w) = false
atomic nil_ext = false
atomic string_ext = false
atomic list_ext = false
atomic binary_ext = false
atomic bit_binary_ext = false
atomic map_ext = false
atomic (pid_ext w) = false
atomic (port_ext v w) = false
atomic (new_reference_ext w) = false
atomic reference_ext = false
atomic export_ext = false

-- the later fields of an identifier make an identifier
abbrev Fixed : Later → Type 0
Fixed (known l) = kind_of l ≡ 3 → ⊥
Fixed (pid_fields w) = Unit {0}
Fixed (port_fields v w) = Unit {0}
Fixed (reference_fields k w) = Unit {0}
Fixed old_reference_fields = Unit {0}

later_other : (flags p : ℕ) (l : Later) → Fixed l → (s : Position) → Holds (later flags p l s) (λ x _. kind_of x ≡ 3 → ⊥)
unfolding later kind_of
later_other flags p (known l) f s = done_holds l s f
later_other flags p (pid_fields w) f s =
    skip (number p 4 s) λ id t. skip (number p 4 t) λ serial t. skip (number p w t) λ creation t.
    skip (rule (ltb id (limits flags w).id && ltb serial (limits flags w).serial && creation_rule w creation) 4 p t) λ _ t. done_holds _ t (λ e. omega arith)
later_other flags p (port_fields v w) f s =
    skip (number p v s) λ id t. skip (number p w t) λ creation t. skip (rule ((eqb v 8 || ltb id (2 ^ 28)) && creation_rule w creation) 4 p t) λ _ t. done_holds _ t (λ e. omega arith)
later_other flags p (reference_fields k w) f s =
    skip (number p w s) λ creation t. skip (id_words p k t) λ ws t. skip (rule (creation_rule w creation && words_rule w ws) 4 p t) λ _ t. done_holds _ t (λ e. omega arith)
later_other flags p old_reference_fields f s =
    skip (id_words p 1 s) λ ws t. skip (number p 1 t) λ creation t. skip (rule (words_rule 1 ws && creation_rule 1 creation) 4 p t) λ _ t. done_holds _ t (λ e. omega arith)

module _ (m : List ℕ) (cap : ℕ) (atoms : Given) (p : ℕ) where
  -- a label that agrees with the head is an atom's only where the layout is
  abbrev Only : Form → Head → Position → Type 0
  Only f h _ = (b : Position) (x : Label) → Agrees m cap atoms p h b x → kind_of x ≡ 3 → atomic f ≡ true

  other : {A : Type 0} (ws : List Wanted) (n : ℕ) (l : Later) → Fixed l → (b : Position) (x : Label) → Agrees m cap atoms p (parts ws n l) b x → kind_of x ≡ 3 → A
  other ws n l g b x (s, u, i, a, e) k = absurd ((later_other atoms.flags p l g s).known x u e k)

  bits_other : (bits : ℕ) (bs : List ℕ) → kind_of (bits_meaning bits bs) ≡ 3 → ⊥
  unfolding bits_meaning kind_of
  bits_other bits bs = go (eqb bits 0 || eqb bits 8)
    where
      go : (t : Bool) → kind_of (elim t as (λ _. Label) [ true ↦ binary bs | false ↦ bitstring bits (clear_low bits bs) ]) ≡ 3 → ⊥
      go true e = omega arith
      go false e = omega arith

  only : (f : Form) (s : Position) → Holds (fields atoms p f s) (Only f)
  unfolding fields kind_of
  only small_integer_ext s = skip (number p 1 s) λ n t. done_holds _ t (other [] 0 (known (integer (pos n))) (λ e. omega arith))
  only integer_ext s = skip (number p 4 s) λ n t. done_holds _ t (other [] 0 (known (integer (signed32 n))) (λ e. omega arith))
  only (big_ext w) s = skip (number p w s) λ n t. skip (number p 1 t) λ sign t. skip (bytes p n t) λ ds t. skip (rule (leb sign 1) 4 p t) λ _ t. done_holds _ t (other [] 0 (known (integer (with_sign sign (little_endian ds)))) (λ e. omega arith))
  only new_float_ext s = skip (number p 8 s) λ bits t. skip (rule (finite bits) 4 p t) λ _ t. done_holds _ t (other [] 0 (known (float bits)) (λ e. omega arith))
  only (atom_ext coding w) s = record { known = λ h t e b x a k. refl }
  only atom_cache_ref s = record { known = λ h t e b x a k. refl }
  only (tuple_ext w) s = skip (number p w s) λ n t. done_holds _ t (other [] n (known tuple) (λ e. omega arith))
  only nil_ext s = done_holds _ s (λ b x a k. absurd (omega (arith, sym (ap kind_of a) ∙ k)))
  only string_ext s = skip (number p 2 s) λ n t. skip (bytes p n t) λ bs t. done_holds _ t (λ b x a k. absurd (omega (arith, sym (ap kind_of a) ∙ k)))
  only list_ext s = skip (number p 4 s) λ n t. done_holds _ t (λ b x a k. no_list x a k)
    where
      no_list : (x : Label) → (x ≡ list) ⊎ (x ≡ improper_list) → kind_of x ≡ 3 → false ≡ true
      no_list x (inl a) k = absurd (omega (arith, sym (ap kind_of a) ∙ k))
      no_list x (inr a) k = absurd (omega (arith, sym (ap kind_of a) ∙ k))
  only binary_ext s = skip (number p 4 s) λ n t. skip (bytes p n t) λ bs t. done_holds _ t (other [] 0 (known (binary bs)) (λ e. omega arith))
  only bit_binary_ext s = skip (number p 4 s) λ n t. skip (number p 1 t) λ bits t. skip (bytes p n t) λ bs t. skip (rule (bits_rule n bits) 4 p t) λ _ t. done_holds _ t (other [] 0 (known (bits_meaning bits bs)) (bits_other bits bs))
  only map_ext s = skip (number p 4 s) λ n t. done_holds _ t (λ b x a k. absurd (omega (arith, sym (ap kind_of a) ∙ k)))
  only (pid_ext w) s = done_holds _ s (other (an_atom ∷ []) 0 (pid_fields w) tt)
  only (port_ext v w) s = done_holds _ s (other (an_atom ∷ []) 0 (port_fields v w) tt)
  only (new_reference_ext w) s = skip (number p 2 s) λ n t. skip (rule (leb 1 n && leb n (limits atoms.flags w).word_count) 4 p t) λ _ t. done_holds _ t (other (an_atom ∷ []) 0 (reference_fields n w) tt)
  only reference_ext s = done_holds _ s (other (an_atom ∷ []) 0 old_reference_fields tt)
  only export_ext s = done_holds _ s (other (an_atom ∷ an_atom ∷ an_arity ∷ []) 0 (known export) (λ e. omega arith))

-- the tags of those layouts are the tags that stand where an atom is wanted
atomic_tags : (tag : ℕ) (f : Form) → form_in forms tag ≡ some f → atomic f ≡ true → Allowed an_atom tag
unfolding forms
atomic_tags tag f e a = sym (row_of (λ n g. atomic g ≡ one_of n (82 ∷ 100 ∷ 115 ∷ 118 ∷ 119 ∷ [])) forms tag f all e) ∙ a
  where
    all : AllRows (λ n g. atomic g ≡ one_of n (82 ∷ 100 ∷ 115 ∷ 118 ∷ 119 ∷ [])) forms
    all =
        also refl (also refl (also refl (also refl (also refl (also refl (also refl (also refl (also refl
        (also refl (also refl (also refl (also refl (also refl (also refl (also refl (also refl (also refl
        (also refl (also refl (also refl (also refl (also refl (also refl (also refl (also refl (also refl tt))))))))))))))))))))))))))

module _ (flags : ℕ) (atoms : AtomList) (m : List ℕ) (cap : ℕ) where
  -- the layout at an atom's place is an atom's
  pub atom_tag : (x : Label) (p : ℕ) → LabelAt m cap (given_of flags atoms) (tag_at p) x → kind_of x ≡ 3 → (f : Form) × AtomForm (get_or m p 0) f
  atom_tag x p (h, a, b, i, e, agrees) k =
      let A : Given = given_of flags atoms in
      let s : Position = a.start in
      let r : ℕ = s.rows_taken in
      let inside : p ≤ length m = omega (arith, a.in_step.inside, a.is_at) in
      let here : s ≡ at_offset m p r = position_is m s a.in_step.bytes_are ∙ ap (λ (n : ℕ). at_offset m n r) a.is_at in
      let told : Holds (term_head A a.wanted (at_offset m p r)) (λ h _. (b : Position) (x : Label) → Agrees m cap A p h b x → kind_of x ≡ 3 → (f : Form) × AtomForm (get_or m p 0) f)
      = head_here m A a.wanted p r inside (λ less f q _.
      weaken (Only m cap A p f) (only m cap A p f (at_offset m (p + 1) r)) (λ h t o b x g z. (f, atom_form (get_or m p 0) f q (atomic_tags (get_or m p 0) f q (o b x g z))))) in
      told.known h a.stop (ap (term_head A a.wanted) (sym here) ∙ a.reads) b x agrees k

-- ---- the content of an atom

module _ (atoms : AtomList) (m : List ℕ) (cs : List ℕ) where
  abbrev SaysAtom : Content → Type 0
  SaysAtom c = label_of m atoms 3 c ≡ atom cs

  -- fields that are not there say no atom
  present : (t : Bool) (c : Content) → SaysAtom (cond t Nothing c) → (t ≡ false) × (cond t Nothing c ≡ c) × SaysAtom c
  unfolding label_of bare kind_of
  present true c e = absurd (let k : 13 ≡ 3 = ap kind_of e in omega arith)
  present false c e = (refl, refl, e)

  -- nor do counted bytes that the message has not
  counted : (o : Option ℕ) (c : Content) → SaysAtom (if_counted o c) → (end : ℕ) × ((Some end ≡ o) × (if_counted o c ≡ c) × SaysAtom c)
  unfolding label_of bare kind_of if_counted
  counted None c e = absurd (let k : 13 ≡ 3 = ap kind_of e in omega arith)
  counted (Some end) c e = (end, (refl, refl, e))

  module _ (p : ℕ) where
    atom_content : SaysAtom (content_of m atoms.places atoms.lengths 3 p)
        → (content_of m atoms.places atoms.lengths 3 p ≡ atom_found m atoms.places atoms.lengths p (get_or m p 0)) × SaysAtom (atom_found m atoms.places atoms.lengths p (get_or m p 0))
    unfolding content_of kind_found
    atom_content e = let a = present (leb (length m) p) (atom_found m atoms.places atoms.lengths p (get_or m p 0)) e in (a.1, a.2)

    text_content : (w : ℕ) (latin1 : Bool) → SaysAtom (text_found m w latin1 p) → (text_found m w latin1 p ≡ Text latin1 false (p + 1 + w) (value m w (p + 1))) × (1 + w ≤ length m - p)
    unfolding text_found
    text_content w latin1 e =
        let a = counted (counted_end m p w 0) (Text latin1 false (p + 1 + w) (value m w (p + 1))) e in
        let t = past_some m p w 0 a.1.0 in
        (a.1.1, omega (arith, t.1))

    place_content : (i : ℕ) → SaysAtom (place_found atoms.places atoms.lengths i) → place_found atoms.places atoms.lengths i ≡ Text false true (32 * i) (get_or atoms.lengths i 0)
    unfolding place_found
    place_content i e =
        let x : Content = Text false true (32 * i) (get_or atoms.lengths i 0) in
        let t : Bool = ltb (length atoms.places - 32 * i) (get_or atoms.lengths i 0) in
        let a = present (leb (length atoms.lengths) i) (cond t Nothing x) e in
        a.1 ∙ (present t x a.2).1

    listed_content : SaysAtom (listed_found m atoms.places atoms.lengths p)
        → (listed_found m atoms.places atoms.lengths p ≡ Text false true (32 * value m 1 (p + 1)) (get_or atoms.lengths (value m 1 (p + 1)) 0)) × (2 ≤ length m - p)
    unfolding listed_found
    listed_content e =
        let a = present (ltb (length m - p) 2) (place_found atoms.places atoms.lengths (value m 1 (p + 1))) e in
        (a.1 ∙ place_content (value m 1 (p + 1)) a.2, ltb-false (length m - p) 2 a.0)

    abbrev Stands : Content → Type 0
    Stands c = text_said p c ≡ Ok (stretch_at (text_of m atoms p).0 (text_of m atoms p).1)

    -- a text in the message
    message_stands : (tag w : ℕ) (coding : Coding) (start n : ℕ) → get_or m p 0 ≡ tag → atom_found m atoms.places atoms.lengths p tag ≡ text_found m w (is_latin1 coding) p
        → text_of m atoms p ≡ (of_message start n, coding) → p + 1 + w ≡ start → (1 + w ≤ length m - p → value m w (p + 1) ≡ n) → SaysAtom (atom_found m atoms.places atoms.lengths p (get_or m p 0))
        → Stands (atom_found m atoms.places atoms.lengths p (get_or m p 0))
    unfolding text_said stretch_at
    message_stands tag w coding start n e f g a b s =
        let q : atom_found m atoms.places atoms.lengths p (get_or m p 0) ≡ text_found m w (is_latin1 coding) p = ap (atom_found m atoms.places atoms.lengths p) e ∙ f in
        let k = text_content w (is_latin1 coding) (ap (label_of m atoms 3) (sym q) ∙ s) in
        ap (text_said p) (q ∙ k.0)
        ∙ ap₂ (λ (i j : ℕ). Ok (texts.Message i j (is_latin1 coding))) a (b k.1)
        ∙ sym (ap (λ (t : Stretch × Coding). Ok (stretch_at t.0 t.1)) g)

    one_byte : (w : ℕ) → w ≡ 1 → 1 + w ≤ length m - p → value m w (p + 1) ≡ get_or m (p + 1) 0
    one_byte w e h = ap (λ (k : ℕ). value m k (p + 1)) e ∙ big_one m (p + 1) (omega arith)

    atom_stands : (tag : ℕ) (f : Form) → AtomForm tag f → get_or m p 0 ≡ tag → SaysAtom (atom_found m atoms.places atoms.lengths p (get_or m p 0))
        → Stands (atom_found m atoms.places atoms.lengths p (get_or m p 0))
    unfolding atom_found text_width text_of is_latin1 text_said stretch_at place_length
    atom_stands tag f is_82 e s =
        let q : atom_found m atoms.places atoms.lengths p (get_or m p 0) ≡ listed_found m atoms.places atoms.lengths p = ap (atom_found m atoms.places atoms.lengths p) e in
        let k = listed_content (ap (label_of m atoms 3) (sym q) ∙ s) in
        let v : value m 1 (p + 1) ≡ get_or m (p + 1) 0 = big_one m (p + 1) (omega (arith, k.1)) in
        let g : text_of m atoms p ≡ (of_list (32 * get_or m (p + 1) 0) (get_or atoms.lengths (get_or m (p + 1) 0) 0), utf_8) = rw e in
        ap (text_said p) (q ∙ k.0)
        ∙ ap (λ (i : ℕ). Ok (texts.List (32 * i) (get_or atoms.lengths i 0))) v
        ∙ sym (ap (λ (t : Stretch × Coding). Ok (stretch_at t.0 t.1)) g)
    atom_stands tag f is_100 e s = message_stands 100 2 latin_1 (p + 3) (value m 2 (p + 1)) e refl (rw e) (omega arith) (λ _. refl) s
    atom_stands tag f is_115 e s = message_stands 115 1 latin_1 (p + 2) (get_or m (p + 1) 0) e refl (rw e) (omega arith) (one_byte 1 refl) s
    atom_stands tag f is_118 e s = message_stands 118 2 utf_8 (p + 3) (value m 2 (p + 1)) e refl (rw e) (omega arith) (λ _. refl) s
    atom_stands tag f is_119 e s = message_stands 119 1 utf_8 (p + 2) (get_or m (p + 1) 0) e refl (rw e) (omega arith) (one_byte 1 refl) s

    -- what is found of an atom is where its text stands
    pub content_stands : (f : Form) → AtomForm (get_or m p 0) f → SaysAtom (content_of m atoms.places atoms.lengths 3 p) → Stands (content_of m atoms.places atoms.lengths 3 p)
    content_stands f a s =
        let k = atom_content s in
        ap (text_said p) k.0 ∙ atom_stands (get_or m p 0) f a refl k.1

-- a text that is found is there
pub said_inside : (m places : List ℕ) (at : ℕ) (c : Content) → Sound m places c → TextInside m places (text_said at c)
unfolding text_said TextInside
said_inside m places at Nothing s = tt
said_inside m places at (Whole negative n) s = tt
said_inside m places at (Big negative start n) s = tt
said_inside m places at (Float bits) s = tt
said_inside m places at (Text latin1 true start n) s = s.0
said_inside m places at (Text latin1 false start n) s = s.0
said_inside m places at (Bytes start n) s = tt
said_inside m places at (Bits bits start n) s = tt
said_inside m places at (Pid id serial creation) s = tt
said_inside m places at (Port id creation) s = tt
said_inside m places at (Reference creation start n) s = tt
