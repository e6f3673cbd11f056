-- Each layout of the tag table, read at an offset of the message: what is found again of the row says the label that was read.
use mathlib.Core.Path.{◌≡◌, refl, sym, ◌∙◌, ap, ap₂, subst}
use mathlib.Core.Logic.{inl, inr}
use mathlib.Core.Bool.{Bool, true, false, ◌&&◌, ◌||◌, cond}
use mathlib.Core.List.{List, [], ◌∷◌}
use mathlib.Core.Option.{some}
use Prim.Native.Nat.{ℕ, ◌+◌, ◌*◌, ◌^◌, ◌≤◌, ◌<◌}
use native.Mathlib.Omega.{arith}
use lib.Dec.{eqb, leb, ltb}
use lib.ListN.{length, get_or, take, drop}
use borrow.Author.Tests.{ltb-true, leb-true}
use Rattle.std.proofs.Common.{Some, None}
use Rattle.term_spec.specs.Numbers.{little_endian, with_sign}
use Rattle.term_spec.specs.Text.{Checked, valid, invalid_at, Coding, latin_1, utf_8, check}
use Rattle.term_spec.specs.Term.{Label, integer, tuple, list, improper_list, binary, bitstring, map, pid, reference, export}
use Rattle.term_spec.specs.Answer.{Answer, good, Position, at_offset}
use Rattle.term_spec.specs.Head.{Wanted, an_atom, an_arity, Form, small_integer_ext, integer_ext, big_ext, new_float_ext, atom_ext, atom_cache_ref, tuple_ext, nil_ext, string_ext, list_ext, binary_ext, bit_binary_ext, map_ext, pid_ext, port_ext, new_reference_ext, reference_ext, export_ext, form_in, forms, fields, Head, parts, characters, elements, pairs, leaf, Later, known, pid_fields, port_fields, reference_fields, old_reference_fields, later, term_head, finite, bits_rule, bits_meaning, clear_low, limits, creation_rule, words_rule}
use Rattle.term_spec.specs.AtomList.{AtomList, place_length, place_bytes, place_text, given_of}
use Rattle.term_spec.specs.Rows.{kind_of}
use Rattle.term_spec.proofs.Holds.{Holds, bind, done_holds, rule_holds, text_holds}
use Rattle.term_spec.proofs.Invariant.{InStep}
use Rattle.term_spec.proofs.Backed.{AtomForm, is_82, is_100, is_115, is_118, is_119, atom_form, Agrees}
use Rattle.term_spec.proofs.Tests.{also, sizes_of}
use Rattle.row_fields.specs.declared.Content.{Content}
use Rattle.row_fields.specs.declared.Content.TheVariants.{Nothing, Whole, Float, Text, Bytes, Bits, Pid, Port, Reference}
use Rattle.row_fields.specs.Found.{value, big_found, signed_whole, integer_found, text_width, atom_end, atom_found, bits_of, binary_found, pid_found, port_found, counted_found, pids_found, ports_found, references_found, kind_found, content_of}
use Rattle.row_fields.specs.Meaning.{stretch, words_at, bare, label_of}
use Rattle.row_fields.proofs.Tests.{above}
use Rattle.row_fields.proofs.ByKind.{kind_1, kind_2, kind_3, kind_7, kind_8, kind_10, kind_11, kind_12}
use Rattle.row_fields.proofs.Values.{value_small}
use Rattle.row_fields.proofs.Read.{AllRows, row_of, position_is, number_here, bytes_here, words_here, head_here}
use Rattle.row_fields.proofs.There.{byte_there, signed_there, big_there, float_there, text_there, end_there, end_listed, atom_ends, bytes_there, bits_there, listed_there, counted_there, place_there, pid_there, port_there, words_there, word_there, tag_97, tag_98, tag_110, tag_111, tag_82, tag_text, tag_77, tag_109, tag_88, tag_103, tag_89, tag_102, tag_120, tag_90, tag_114, tag_101}
use Rattle.row_fields.proofs.Says.{Sound, Lent, Says, says_by, digits_say, signed_says, latin_says, utf8_says}

-- ---- the atom list's places

place_valid : (atoms : AtomList) (i : ℕ) (cs : List ℕ) → place_text atoms i ≡ valid cs → (place_length atoms i ≤ 32) × (check utf_8 (place_bytes atoms i) ≡ valid cs)
unfolding place_text
place_valid atoms i cs e = go (leb (place_length atoms i) 32) refl e
  where
    go : (t : Bool) → leb (place_length atoms i) 32 ≡ t → ◌≡◌ {A = Checked} (elim t [ true ↦ check utf_8 (place_bytes atoms i) | false ↦ invalid_at 32 ]) (valid cs)
        → (place_length atoms i ≤ 32) × (check utf_8 (place_bytes atoms i) ≡ valid cs)
    go true p f = (leb-true _ _ p, f)
    go false p f = let z : ◌≡◌ {A = ℕ} 0 1 = cc in absurd (omega arith)

-- ---- where a node ends

module _ (flags : ℕ) (atoms : AtomList) (m : List ℕ) (at r : ℕ) (less : at < length m) where
  -- an atom ends where its length says
  abbrev Ended : Form → Type 0
  Ended f = Holds (fields (given_of flags atoms) at f (at_offset m (at + 1) r)) (λ _ t. t.at ≡ atom_end m at)

  text_ended : (tag w : ℕ) (c : Coding) → text_width tag ≡ Some w → get_or m at 0 ≡ tag → Ended (atom_ext c w)
  unfolding fields
  text_ended tag w c f e =
      bind (number_here m at w (at + 1) r (omega arith) λ a. bind (bytes_here m at (value m w (at + 1)) (at + 1 + w) r a λ b.
      bind (text_holds (check c (stretch m (at + 1 + w) (value m w (at + 1)))) 5 _ _ λ cs h.
      done_holds _ _ (atom_ends m at (Some w) _ less (ap text_width e ∙ f) (end_there m at w _ refl b)))))

  node_ended : (tag : ℕ) (f : Form) → AtomForm tag f → get_or m at 0 ≡ tag → Ended f
  unfolding fields text_width
  node_ended tag f is_82 e =
      let q : at + 1 + 1 ≡ at + 2 = omega arith in
      bind (number_here m at 1 (at + 1) r (omega arith) λ a. bind (rule_holds (ltb (value m 1 (at + 1)) (given_of flags atoms).n) 6 at _ λ g.
      bind (text_holds ((given_of flags atoms).text (value m 1 (at + 1))) 14 _ _ λ cs h.
      done_holds _ _ (q ∙ atom_ends m at None _ less (ap text_width e) (end_listed m at)))))
  node_ended tag f is_100 e = text_ended 100 2 latin_1 refl e
  node_ended tag f is_115 e = text_ended 115 1 latin_1 refl e
  node_ended tag f is_118 e = text_ended 118 2 utf_8 refl e
  node_ended tag f is_119 e = text_ended 119 1 utf_8 refl e

node_ends : (flags : ℕ) (atoms : AtomList) (m : List ℕ) (at r : ℕ) → at ≤ length m → Holds (term_head (given_of flags atoms) an_atom (at_offset m at r)) (λ _ t. t.at ≡ atom_end m at)
node_ends flags atoms m at r h = head_here m (given_of flags atoms) an_atom at r h λ less f e a. node_ended flags atoms m at r less (get_or m at 0) f (atom_form (get_or m at 0) f e a) refl

module _ (flags : ℕ) (atoms : AtomList) (m : List ℕ) (l : Lent atoms m) (cap p : ℕ) (less : p < length m) where
  -- what a head that ends at this offset says of each label that it agrees with
  abbrev pub Told : Head → ℕ → Type 0
  Told h end = (b : Position) → InStep m cap b → b.at ≡ end → (x : Label) → Agrees m cap (given_of flags atoms) p h b x → Says atoms m (kind_of x) p x

  known_told : (ws : List Wanted) (n : ℕ) (x : Label) (t : ℕ) → Says atoms m (kind_of x) p x → Told (parts ws n (known x)) t
  unfolding later
  known_told ws n x t s b i e y a =
      let k : ◌≡◌ {A = Answer (Label × Position)} (good (x, a.0)) (good (y, a.1)) = a.4 in
      let q : ◌≡◌ {A = Label × Position} (x, a.0) (y, a.1) = cc in
      subst (λ (z : Label). Says atoms m (kind_of z) p z) (ap (λ (z : Label × Position). z.0) q) s

  leaf_told : (x : Label) (t : ℕ) → Says atoms m (kind_of x) p x → Told (leaf x) t
  leaf_told x t s = known_told [] 0 x t s

  -- a term with no fields of its own
  bare_says : (kind : ℕ) (x : Label) → bare kind ≡ x → Nothing ≡ kind_found m atoms.places atoms.lengths p kind → Says atoms m kind p x
  unfolding content_of label_of
  bare_says kind x e f = says_by atoms m kind p x Nothing (above _ refl refl less f) e tt

  module _ (kind : ℕ) (x : Label) (c : Content) where
    -- by the kind, and what is found there
    says_at : c ≡ kind_found m atoms.places atoms.lengths p kind → (label_of m atoms kind c ≡ x) × Sound m atoms.places c → Says atoms m kind p x
    unfolding content_of
    says_at f s = says_by atoms m kind p x c (above _ refl refl less f) s.0 s.1

  module _ (tag : ℕ) (is : get_or m p 0 ≡ tag) (x : Label) (c : Content) where
    integer_says : c ≡ integer_found m p tag → (label_of m atoms 1 c ≡ x) × Sound m atoms.places c → Says atoms m 1 p x
    integer_says f s = says_at 1 x c (f ∙ ap (integer_found m p) (sym is) ∙ kind_1 m atoms.places atoms.lengths p 1 refl) s

    atom_says : c ≡ atom_found m atoms.places atoms.lengths p tag → (label_of m atoms 3 c ≡ x) × Sound m atoms.places c → Says atoms m 3 p x
    atom_says f s = says_at 3 x c (f ∙ ap (atom_found m atoms.places atoms.lengths p) (sym is) ∙ kind_3 m atoms.places atoms.lengths p 3 refl) s

    binary_says : c ≡ binary_found m p tag → (label_of m atoms 7 c ≡ x) × Sound m atoms.places c → Says atoms m 7 p x
    binary_says f s = says_at 7 x c (f ∙ ap (binary_found m p) (sym is) ∙ kind_7 m atoms.places atoms.lengths p 7 refl) s

    bits_says : c ≡ binary_found m p tag → (label_of m atoms 8 c ≡ x) × Sound m atoms.places c → Says atoms m 8 p x
    bits_says f s = says_at 8 x c (f ∙ ap (binary_found m p) (sym is) ∙ kind_8 m atoms.places atoms.lengths p 8 refl) s

    pid_says : c ≡ pids_found m p tag → (label_of m atoms 10 c ≡ x) × Sound m atoms.places c → Says atoms m 10 p x
    pid_says f s = says_at 10 x c (f ∙ ap (pids_found m p) (sym is) ∙ kind_10 m atoms.places atoms.lengths p 10 refl) s

    port_says : c ≡ ports_found m p tag → (label_of m atoms 11 c ≡ x) × Sound m atoms.places c → Says atoms m 11 p x
    port_says f s = says_at 11 x c (f ∙ ap (ports_found m p) (sym is) ∙ kind_11 m atoms.places atoms.lengths p 11 refl) s

    reference_says : c ≡ references_found m p tag → (label_of m atoms 12 c ≡ x) × Sound m atoms.places c → Says atoms m 12 p x
    reference_says f s = says_at 12 x c (f ∙ ap (references_found m p) (sym is) ∙ kind_12 m atoms.places atoms.lengths p 12 refl) s

  module _ (r : ℕ) where
    -- a layout with this tag
    abbrev Row : ℕ → Form → Type 0
    Row tag f = get_or m p 0 ≡ tag → Holds (fields (given_of flags atoms) p f (at_offset m (p + 1) r)) (λ h t. Told h t.at)

    -- ---- integers

    row_97 : Row 97 small_integer_ext
    unfolding fields kind_of label_of with_sign
    row_97 e =
        bind (number_here m p 1 (p + 1) r (omega arith) λ a.
        let v : value m 1 (p + 1) < 256 ^ 1 = value_small m 1 (p + 1) l.under a in
        done_holds _ _ (leaf_told _ _ (integer_says 97 e _ (Whole false (value m 1 (p + 1))) (byte_there m (p + 1) a ∙ tag_97 m p) (refl, (omega arith, λ _. refl)))))

    row_98 : Row 98 integer_ext
    unfolding fields kind_of
    row_98 e =
        bind (number_here m p 4 (p + 1) r (omega arith) λ a.
        let v : value m 4 (p + 1) < 256 ^ 4 = value_small m 4 (p + 1) l.under a in
        done_holds _ _ (leaf_told _ _ (integer_says 98 e _ (signed_whole (value m 4 (p + 1))) (signed_there m p (omega arith) ∙ tag_98 m p) (signed_says atoms m l (value m 4 (p + 1)) (omega arith)))))

    big_row : (tag w : ℕ) → big_found m w p ≡ integer_found m p tag → Row tag (big_ext w)
    unfolding fields kind_of
    big_row tag w f e =
        let q : p + 1 + w + 1 ≡ p + 2 + w = omega arith in
        bind (number_here m p w (p + 1) r (omega arith) λ a. bind (number_here m p 1 (p + 1 + w) r a λ b. bind (bytes_here m p (value m w (p + 1)) (p + 1 + w + 1) r b λ c.
        bind (rule_holds (leb (value m 1 (p + 1 + w)) 1) 4 p _ λ g.
        let s : value m 1 (p + 1 + w) ≤ 1 = leb-true _ _ g in
        let d = digits_say atoms m l (value m 1 (p + 1 + w)) (p + 2 + w) (value m w (p + 1)) s (omega arith) in
        done_holds _ _ (leaf_told _ _ (integer_says tag e _ _ (big_there m p w _ refl (omega arith) ∙ f)
        (d.0 ∙ ap (λ (x : ℕ). integer (with_sign (value m 1 (p + 1 + w)) (little_endian (take (value m w (p + 1)) (drop x m))))) (sym q), d.1)))))))

    -- ---- floats

    row_70 : Row 70 new_float_ext
    unfolding fields kind_of label_of
    row_70 e =
        bind (number_here m p 8 (p + 1) r (omega arith) λ a. bind (rule_holds (finite (value m 8 (p + 1))) 4 p _ λ g.
        done_holds _ _ (leaf_told _ _ (says_at 2 _ (Float (value m 8 (p + 1))) (float_there m p (omega arith) ∙ kind_2 m atoms.places atoms.lengths p 2 refl) (refl, tt)))))

    -- ---- atoms

    latin_row : (tag w : ℕ) → text_width tag ≡ Some w → ltb tag 118 ≡ true → Row tag (atom_ext latin_1 w)
    unfolding fields kind_of
    latin_row tag w f g e =
        bind (number_here m p w (p + 1) r (omega arith) λ a. bind (bytes_here m p (value m w (p + 1)) (p + 1 + w) r a λ b.
        bind (text_holds (check latin_1 (stretch m (p + 1 + w) (value m w (p + 1)))) 5 _ _ λ cs h.
        done_holds _ _ (leaf_told _ _ (atom_says tag e _ (Text true false (p + 1 + w) (value m w (p + 1)))
        (text_there m p w _ true refl b ∙ tag_text m p atoms.places atoms.lengths tag w true f g)
        (latin_says atoms m 3 (p + 1 + w) (value m w (p + 1)) cs l.under b h))))))

    utf8_row : (tag w : ℕ) → text_width tag ≡ Some w → ltb tag 118 ≡ false → Row tag (atom_ext utf_8 w)
    unfolding fields kind_of
    utf8_row tag w f g e =
        bind (number_here m p w (p + 1) r (omega arith) λ a. bind (bytes_here m p (value m w (p + 1)) (p + 1 + w) r a λ b.
        bind (text_holds (check utf_8 (stretch m (p + 1 + w) (value m w (p + 1)))) 5 _ _ λ cs h.
        done_holds _ _ (leaf_told _ _ (atom_says tag e _ (Text false false (p + 1 + w) (value m w (p + 1)))
        (text_there m p w _ false refl b ∙ tag_text m p atoms.places atoms.lengths tag w false f g)
        (utf8_says atoms m 3 false (p + 1 + w) (value m w (p + 1)) cs b h))))))

    row_82 : Row 82 atom_cache_ref
    unfolding fields kind_of given_of place_bytes place_length
    row_82 e =
        bind (number_here m p 1 (p + 1) r (omega arith) λ a. bind (rule_holds (ltb (value m 1 (p + 1)) atoms.n) 6 p _ λ g.
        bind (text_holds (place_text atoms (value m 1 (p + 1))) 14 _ _ λ cs h.
        let i : ℕ = value m 1 (p + 1) in
        let z = sizes_of atoms l.sized in
        let v = place_valid atoms i cs h in
        let n : i < atoms.n = ltb-true _ _ g in
        let few : atoms.n ≤ 255 = l.few in
        let fits : 32 * i + get_or atoms.lengths i 0 ≤ length atoms.places = omega (arith, z.0, v.0) in
        done_holds _ _ (leaf_told _ _ (atom_says 82 e _ (Text false true (32 * i) (get_or atoms.lengths i 0))
        (place_there atoms.places atoms.lengths i (omega (arith, z.1)) fits ∙ listed_there m p atoms.places atoms.lengths (omega arith) ∙ tag_82 m p atoms.places atoms.lengths)
        (utf8_says atoms m 3 true (32 * i) (get_or atoms.lengths i 0) cs fits v.1))))))

    -- ---- terms that have parts and no fields of their own

    tuple_says : Says atoms m 4 p tuple
    unfolding kind_found bare
    tuple_says = bare_says 4 tuple refl refl

    list_says : Says atoms m 5 p list
    unfolding kind_found bare
    list_says = bare_says 5 list refl refl

    improper_says : Says atoms m 6 p improper_list
    unfolding kind_found bare
    improper_says = bare_says 6 improper_list refl refl

    map_says : Says atoms m 9 p map
    unfolding kind_found bare
    map_says = bare_says 9 map refl refl

    export_says : Says atoms m 13 p export
    unfolding kind_found bare
    export_says = bare_says 13 export refl refl

    tuple_row : (tag w : ℕ) → Row tag (tuple_ext w)
    unfolding fields kind_of
    tuple_row tag w e = bind (number_here m p w (p + 1) r (omega arith) λ a. done_holds _ _ (known_told [] (value m w (p + 1)) tuple _ tuple_says))

    characters_told : (cs : List ℕ) (t : ℕ) → Told (characters cs) t
    unfolding kind_of
    characters_told cs t b i e x a = subst (λ (z : Label). Says atoms m (kind_of z) p z) (sym a) list_says

    row_106 : Row 106 nil_ext
    unfolding fields
    row_106 e = done_holds _ _ (characters_told [] _)

    row_107 : Row 107 string_ext
    unfolding fields
    row_107 e = bind (number_here m p 2 (p + 1) r (omega arith) λ a. bind (bytes_here m p (value m 2 (p + 1)) (p + 1 + 2) r a λ b. done_holds _ _ (characters_told (stretch m (p + 1 + 2) (value m 2 (p + 1))) _)))

    elements_told : (n : ℕ) (t : ℕ) → Told (elements n) t
    unfolding kind_of
    elements_told n t b i e x (inl a) = subst (λ (z : Label). Says atoms m (kind_of z) p z) (sym a) list_says
    elements_told n t b i e x (inr a) = subst (λ (z : Label). Says atoms m (kind_of z) p z) (sym a) improper_says

    row_108 : Row 108 list_ext
    unfolding fields
    row_108 e = bind (number_here m p 4 (p + 1) r (omega arith) λ a. done_holds _ _ (elements_told (value m 4 (p + 1)) _))

    pairs_told : (n : ℕ) (t : ℕ) → Told (pairs n) t
    unfolding kind_of
    pairs_told n t b i e x a = subst (λ (z : Label). Says atoms m (kind_of z) p z) (sym a) map_says

    row_116 : Row 116 map_ext
    unfolding fields
    row_116 e = bind (number_here m p 4 (p + 1) r (omega arith) λ a. done_holds _ _ (pairs_told (value m 4 (p + 1)) _))

    row_113 : Row 113 export_ext
    unfolding fields kind_of
    row_113 e = done_holds _ _ (known_told (an_atom ∷ an_atom ∷ an_arity ∷ []) 0 export _ export_says)

    -- ---- bytes

    row_109 : Row 109 binary_ext
    unfolding fields kind_of label_of
    row_109 e =
        let q : p + 1 + 4 ≡ p + 5 = omega arith in
        bind (number_here m p 4 (p + 1) r (omega arith) λ a. bind (bytes_here m p (value m 4 (p + 1)) (p + 1 + 4) r a λ b.
        done_holds _ _ (leaf_told _ _ (binary_says 109 e _ (Bytes (p + 5) (value m 4 (p + 1))) (bytes_there m p _ refl (omega arith) ∙ tag_109 m p)
        (ap (λ (x : ℕ). binary (take (value m 4 (p + 1)) (drop x m))) (sym q), omega arith)))))

    bits_told : (bits start n : ℕ) → start + n ≤ length m → bits_of bits start n ≡ binary_found m p 77 → get_or m p 0 ≡ 77
        → Says atoms m (kind_of (bits_meaning bits (stretch m start n))) p (bits_meaning bits (stretch m start n))
    unfolding bits_meaning bits_of kind_of label_of
    bits_told bits start n h f e = go (eqb bits 0) (eqb bits 8) f
      where
        go : (t u : Bool) → cond t (Bytes start n) (cond u (Bytes start n) (Bits bits start n)) ≡ binary_found m p 77
            → Says atoms m (kind_of (elim (t || u) as (λ _. Label) [ true ↦ binary (stretch m start n) | false ↦ bitstring bits (clear_low bits (stretch m start n)) ])) p
            (elim (t || u) as (λ _. Label) [ true ↦ binary (stretch m start n) | false ↦ bitstring bits (clear_low bits (stretch m start n)) ])
        go true u f = binary_says 77 e _ (Bytes start n) f (refl, h)
        go false true f = binary_says 77 e _ (Bytes start n) f (refl, h)
        go false false f = bits_says 77 e _ (Bits bits start n) f (refl, h)

    row_77 : Row 77 bit_binary_ext
    unfolding fields
    row_77 e =
        let q : p + 1 + 4 + 1 ≡ p + 6 = omega arith in
        let s : p + 1 + 4 ≡ p + 5 = omega arith in
        bind (number_here m p 4 (p + 1) r (omega arith) λ a. bind (number_here m p 1 (p + 1 + 4) r a λ b. bind (bytes_here m p (value m 4 (p + 1)) (p + 1 + 4 + 1) r b λ c.
        bind (rule_holds (bits_rule (value m 4 (p + 1)) (value m 1 (p + 1 + 4))) 4 p _ λ g.
        done_holds _ _ (leaf_told _ _ (bits_told (value m 1 (p + 1 + 4)) (p + 1 + 4 + 1) (value m 4 (p + 1)) c
        (ap₂ (λ (x y : ℕ). bits_of (value m 1 x) y (value m 4 (p + 1))) s q ∙ bits_there m p _ refl (omega arith) ∙ tag_77 m p) e))))))

    -- ---- identifiers: their own fields stand where their node ends

    node_told : (at : ℕ) (k : Later) → ((r : ℕ) → atom_end m at ≤ length m → Holds (later (given_of flags atoms).flags p k (at_offset m (atom_end m at) r)) (λ x _. Says atoms m (kind_of x) p x))
        → Told (parts (an_atom ∷ []) 0 k) at
    node_told at k f b i e x a =
        let s : Position = a.0 in
        let n = a.3 refl in
        let from : b ≡ at_offset m b.at b.rows_taken = position_is m b i.bytes_are in
        let ends : n.1.at ≡ atom_end m b.at = (node_ends flags atoms m b.at b.rows_taken i.inside).known n.0 n.1 (ap (term_head (given_of flags atoms) an_atom) (sym from) ∙ n.2) in
        let is : s.at ≡ atom_end m at = n.3 ∙ ends ∙ ap (atom_end m) e in
        let here : s ≡ at_offset m (atom_end m at) s.rows_taken = position_is m s a.2.bytes_are ∙ ap (λ (z : ℕ). at_offset m z s.rows_taken) is in
        (f s.rows_taken (omega (arith, a.2.inside, is))).known x a.1 (ap (later (given_of flags atoms).flags p k) (sym here) ∙ a.4)

    pid_row : (tag w : ℕ) → pid_found m w (atom_end m (p + 1)) ≡ pids_found m p tag → Row tag (pid_ext w)
    unfolding fields kind_of later label_of
    pid_row tag w f e =
        let end : ℕ = atom_end m (p + 1) in
        let q : end + 4 + 4 ≡ end + 8 = omega arith in
        done_holds _ _ (node_told (p + 1) (pid_fields w) λ r h.
        bind (number_here m p 4 end r h λ a. bind (number_here m p 4 (end + 4) r a λ b. bind (number_here m p w (end + 4 + 4) r b λ c.
        bind (rule_holds (ltb (value m 4 end) (limits (given_of flags atoms).flags w).id && ltb (value m 4 (end + 4)) (limits (given_of flags atoms).flags w).serial && creation_rule w (value m w (end + 4 + 4))) 4 p _ λ g.
        done_holds _ _ (pid_says tag e _ (Pid (value m 4 end) (value m 4 (end + 4)) (value m w (end + 8))) (pid_there m end w (omega arith) ∙ f)
        (ap (λ (z : ℕ). pid (value m 4 end) (value m 4 (end + 4)) (value m w z)) (sym q), tt)))))))

    port_row : (tag v w : ℕ) → port_found m v w (atom_end m (p + 1)) ≡ ports_found m p tag → Row tag (port_ext v w)
    unfolding fields kind_of later label_of
    port_row tag v w f e =
        let end : ℕ = atom_end m (p + 1) in
        done_holds _ _ (node_told (p + 1) (port_fields v w) λ r h.
        bind (number_here m p v end r h λ a. bind (number_here m p w (end + v) r a λ b.
        bind (rule_holds ((eqb v 8 || ltb (value m v end) (2 ^ 28)) && creation_rule w (value m w (end + v))) 4 p _ λ g.
        done_holds _ _ (port_says tag e _ (Port (value m v end) (value m w (end + v))) (port_there m end v w (omega arith) ∙ f) (refl, tt))))))

    reference_row : (tag w : ℕ) → counted_found m w p ≡ references_found m p tag → Row tag (new_reference_ext w)
    unfolding fields kind_of later label_of
    reference_row tag w f e =
        bind (number_here m p 2 (p + 1) r (omega arith) λ a. bind (rule_holds (leb 1 (value m 2 (p + 1)) && leb (value m 2 (p + 1)) (limits (given_of flags atoms).flags w).word_count) 4 p _ λ k.
        let n : ℕ = value m 2 (p + 1) in
        let end : ℕ = atom_end m (p + 3) in
        let q : p + 1 + 2 ≡ p + 3 = omega arith in
        done_holds _ _ (subst (Told (parts (an_atom ∷ []) 0 (reference_fields n w))) (sym q) (node_told (p + 3) (reference_fields n w) λ r h.
        bind (number_here m p w end r h λ b. bind (words_here m p n (end + w) r b λ c.
        bind (rule_holds (creation_rule w (value m w end) && words_rule w (words_at m (end + w) n)) 4 p _ λ g.
        done_holds _ _ (reference_says tag e _ (Reference (value m w end) (end + w) n) (words_there m end w n c ∙ counted_there m p w n refl (omega arith) ∙ f) (refl, c)))))))))

    row_101 : Row 101 reference_ext
    unfolding fields kind_of later label_of
    row_101 e =
        let end : ℕ = atom_end m (p + 1) in
        let q : end + 4 * 1 ≡ end + 4 = omega arith in
        done_holds _ _ (node_told (p + 1) old_reference_fields λ r h.
        bind (words_here m p 1 end r h λ b. bind (number_here m p 1 (end + 4 * 1) r b λ c.
        bind (rule_holds (words_rule 1 (words_at m end 1) && creation_rule 1 (value m 1 (end + 4 * 1))) 4 p _ λ g.
        done_holds _ _ (reference_says 101 e _ (Reference (value m 1 (end + 4)) end 1) (word_there m end (omega arith) ∙ tag_101 m p)
        (ap (λ (z : ℕ). reference (value m 1 z) (words_at m end 1)) (sym q), b))))))

    -- every row of the table, in its order
    all_rows : AllRows Row forms
    unfolding forms text_width
    all_rows =
        also row_97
        (also row_98
        (also (big_row 110 1 (tag_110 m p))
        (also (big_row 111 4 (tag_111 m p))
        (also row_70
        (also (latin_row 100 2 refl refl)
        (also (latin_row 115 1 refl refl)
        (also (utf8_row 118 2 refl refl)
        (also (utf8_row 119 1 refl refl)
        (also row_82
        (also (tuple_row 104 1)
        (also (tuple_row 105 4)
        (also row_106
        (also row_107
        (also row_108
        (also row_109
        (also row_77
        (also row_116
        (also (pid_row 88 4 (tag_88 m p))
        (also (pid_row 103 1 (tag_103 m p))
        (also (port_row 89 4 4 (tag_89 m p))
        (also (port_row 102 4 1 (tag_102 m p))
        (also (port_row 120 8 4 (tag_120 m p))
        (also (reference_row 90 4 (tag_90 m p))
        (also (reference_row 114 1 (tag_114 m p))
        (also row_101
        (also row_113
        tt))))))))))))))))))))))))))

    pub form_told : (f : Form) → form_in forms (get_or m p 0) ≡ some f → Holds (fields (given_of flags atoms) p f (at_offset m (p + 1) r)) (λ h t. Told h t.at)
    form_told f e = row_of Row forms (get_or m p 0) f all_rows e refl
