-- The heads of canonical forms.
use mathlib.Core.Path.{◌≡◌, refl, ap}
use mathlib.Core.Bool.{Bool, true, false}
use mathlib.Core.List.{List, [], ◌∷◌, ◌++◌, append_assoc}
use Prim.Native.Nat.{ℕ, zero, suc, ◌+◌, ◌-◌, ◌^◌, ◌≤◌, ◌<◌}
use native.Mathlib.Omega.{arith}
use lib.IntN.{ℤ, pos, negsuc}
use lib.ListN.{length}
use borrow.Author.Tests.{lt-ltb, le-ltb, le-leb, lt-leb}
use Rattle.term_spec.specs.Numbers.{in_bytes, digits, little_endian, signed32, with_sign}
use Rattle.term_spec.specs.Text.{utf_8, encodes, Characters}
use Rattle.term_spec.specs.Term.{integer, float, atom, tuple, binary, bitstring, export}
use Rattle.term_spec.specs.Answer.{good, Reading, done}
use Rattle.term_spec.specs.Head.{Given, limits, Wanted, any, an_atom, an_arity, Form, small_integer_ext, integer_ext, big_ext, new_float_ext, atom_ext, tuple_ext, nil_ext, string_ext, list_ext, binary_ext, bit_binary_ext, map_ext, pid_ext, port_ext, new_reference_ext, export_ext, form, form_in, forms, form_or, fields, Head, leaf, parts, characters, elements, pairs, known, term_head, finite, bits_rule, bits_meaning, pid_fields, port_fields, reference_fields}
use Rattle.term_spec.specs.Reading.{empty_108, opening}
use Rattle.term_spec.specs.Canonical.{integer_bytes, big_bytes, atom_bytes, tuple_bytes}
use Rattle.term_spec.specs.Valid.{magnitude}
use Rattle.term_spec.proofs.Numbers.{little_digits}
use Rattle.term_spec.proofs.Steps.{spot}
use Rattle.term_spec.proofs.Text.{length_encodes}
use Rattle.term_spec.proofs.Fields.{small_fields, integer_fields, big_fields, float_fields, atom_fields, tuple_fields, string_fields, list_fields, binary_fields, bits_fields, map_fields, reference_head}
use Rattle.term_spec.proofs.Tests.{by_less}

-- a tag that is wanted, and its form
abbrev pub Starts : Wanted → ℕ → Form → Type 0
Starts w tag f = (at : ℕ) → form at w tag ≡ done f

pub any_97 : Starts any 97 small_integer_ext
unfolding form form_in forms form_or
any_97 at = refl

pub arity_97 : Starts an_arity 97 small_integer_ext
unfolding form form_in forms form_or
arity_97 at = refl

pub any_98 : Starts any 98 integer_ext
unfolding form form_in forms form_or
any_98 at = refl

pub any_110 : Starts any 110 (big_ext 1)
unfolding form form_in forms form_or
any_110 at = refl

pub any_111 : Starts any 111 (big_ext 4)
unfolding form form_in forms form_or
any_111 at = refl

pub any_70 : Starts any 70 new_float_ext
unfolding form form_in forms form_or
any_70 at = refl

pub any_118 : Starts any 118 (atom_ext utf_8 2)
unfolding form form_in forms form_or
any_118 at = refl

pub any_119 : Starts any 119 (atom_ext utf_8 1)
unfolding form form_in forms form_or
any_119 at = refl

pub atom_118 : Starts an_atom 118 (atom_ext utf_8 2)
unfolding form form_in forms form_or
atom_118 at = refl

pub atom_119 : Starts an_atom 119 (atom_ext utf_8 1)
unfolding form form_in forms form_or
atom_119 at = refl

pub any_104 : Starts any 104 (tuple_ext 1)
unfolding form form_in forms form_or
any_104 at = refl

pub any_105 : Starts any 105 (tuple_ext 4)
unfolding form form_in forms form_or
any_105 at = refl

pub any_106 : Starts any 106 nil_ext
unfolding form form_in forms form_or
any_106 at = refl

pub any_107 : Starts any 107 string_ext
unfolding form form_in forms form_or
any_107 at = refl

pub any_108 : Starts any 108 list_ext
unfolding form form_in forms form_or
any_108 at = refl

pub any_109 : Starts any 109 binary_ext
unfolding form form_in forms form_or
any_109 at = refl

pub any_77 : Starts any 77 bit_binary_ext
unfolding form form_in forms form_or
any_77 at = refl

pub any_116 : Starts any 116 map_ext
unfolding form form_in forms form_or
any_116 at = refl

pub any_88 : Starts any 88 (pid_ext 4)
unfolding form form_in forms form_or
any_88 at = refl

pub any_89 : Starts any 89 (port_ext 4 4)
unfolding form form_in forms form_or
any_89 at = refl

pub any_120 : Starts any 120 (port_ext 8 4)
unfolding form form_in forms form_or
any_120 at = refl

pub any_90 : Starts any 90 (new_reference_ext 4)
unfolding form form_in forms form_or
any_90 at = refl

pub any_113 : Starts any 113 export_ext
unfolding form form_in forms form_or
any_113 at = refl

-- signed numbers
signed_pos : (n : ℕ) → n < 2 ^ 31 → signed32 n ≡ pos n
unfolding signed32
signed_pos n h = rw (lt-ltb n (2 ^ 31) h, signed32)

signed_neg : (m : ℕ) → m < 2 ^ 31 → signed32 (2 ^ 32 - suc m) ≡ negsuc m
unfolding signed32
signed_neg m h = rw (le-ltb (2 ^ 32 - suc m) (2 ^ 31) (omega arith), signed32) (ap negsuc (omega arith))

module _ (given : Given) where
  -- the bytes begin with a tag and fields that say h; then come more
  pub record Opens (w : Wanted) (left : List ℕ) (at r : ℕ) (h : Head) (more : List ℕ) : Type 0 where
    pub end : ℕ
    pub opens : opening given left w (spot at left r) ≡ good ((at, h), spot end more r)

  pub starting : {w : Wanted} {tag : ℕ} {f : Form} → Starts w tag f → (at r a : ℕ) (left more : List ℕ) (h : Head) → empty_108 h ≡ false
      → fields given at f (spot (at + 1) left r) ≡ good (h, spot a more r) → Opens w (tag ∷ left) at r h more
  unfolding opening term_head
  starting {w} {tag} {f} s at r a left more h z e =
      record {
        end = a;
        opens = rw (s at, e) (ap (λ (t : Bool). (elim t as (λ _. Reading (ℕ × Head)) [ true ↦ opening given left any | false ↦ done (at, h) ]) (spot a more r)) z);
      }

  module _ (at r : ℕ) (rest : List ℕ) where
    pub small_opens : {w : Wanted} → Starts w 97 small_integer_ext → (n : ℕ) → n < 256
        → Opens w (integer_bytes (pos n) ++ rest) at r (leaf (integer (pos n))) rest
    unfolding integer_bytes
    small_opens s n h = rw (lt-ltb n 256 h) (starting s at r _ (in_bytes 1 n ++ rest) rest _ refl (small_fields given at (at + 1) r rest n h))

    big_opens : (sign : ℕ) (ds : List ℕ) → sign ≤ 1 → length ds < 2 ^ 32
        → Opens any (big_bytes sign ds ++ rest) at r (leaf (integer (with_sign sign (little_endian ds)))) rest
    unfolding big_bytes
    big_opens sign ds s h =
        by_less 255 (length ds)
        (λ long.
        rw (lt-leb (length ds) 255 long, append_assoc (in_bytes 4 (length ds)) (in_bytes 1 sign ++ ds) rest, append_assoc (in_bytes 1 sign) ds rest)
        (starting any_111 at r _ _ rest _ refl (big_fields given at (at + 1) r rest 4 sign ds h s)))
        (λ short.
        rw (le-leb (length ds) 255 short, append_assoc (in_bytes 1 (length ds)) (in_bytes 1 sign ++ ds) rest, append_assoc (in_bytes 1 sign) ds rest)
        (starting any_110 at r _ _ rest _ refl (big_fields given at (at + 1) r rest 1 sign ds (omega arith) s)))

    pub integer_opens : (z : ℤ) → length (digits (magnitude z)) < 2 ^ 32 → Opens any (integer_bytes z ++ rest) at r (leaf (integer z)) rest
    unfolding integer_bytes with_sign
    integer_opens (pos n) h =
        by_less n 256 (small_opens any_97 n) λ over.
        by_less n (2 ^ 31)
        (λ less.
        rw (le-ltb n 256 over, lt-ltb n (2 ^ 31) less, ← signed_pos n less)
        (starting any_98 at r _ _ rest _ refl (integer_fields given at (at + 1) r rest n (omega arith))))
        (λ over'.
        rw (le-ltb n 256 over, le-ltb n (2 ^ 31) over')
        (rw (little_digits n) at (big_opens 0 (digits n) (omega arith) h)))
    integer_opens (negsuc m) h =
        by_less m (2 ^ 31)
        (λ less.
        rw (lt-ltb m (2 ^ 31) less)
        (rw (signed_neg m less) at (starting any_98 at r _ _ rest _ refl (integer_fields given at (at + 1) r rest (2 ^ 32 - suc m) (omega arith)))))
        (λ over.
        rw (le-ltb m (2 ^ 31) over)
        (rw (little_digits (suc m)) at (big_opens 1 (digits (suc m)) (omega arith) h)))

    pub float_opens : (bits : ℕ) → bits < 2 ^ 64 → finite bits ≡ true → Opens any (70 ∷ (in_bytes 8 bits ++ rest)) at r (leaf (float bits)) rest
    float_opens bits h e = starting any_70 at r _ _ rest _ refl (float_fields given at (at + 1) r rest bits h e)

    pub atom_opens : {w : Wanted} → Starts w 119 (atom_ext utf_8 1) → Starts w 118 (atom_ext utf_8 2) → (cs : List ℕ) → Characters cs → length cs ≤ 255
        → Opens w (atom_bytes (encodes cs) ++ rest) at r (leaf (atom cs)) rest
    unfolding atom_bytes
    atom_opens s₁ s₂ cs ok k =
        by_less 255 (length (encodes cs))
        (λ long.
        rw (lt-leb (length (encodes cs)) 255 long, append_assoc (in_bytes 2 (length (encodes cs))) (encodes cs) rest)
        (starting s₂ at r _ _ rest _ refl (atom_fields given at (at + 1) r rest 2 cs (omega (arith, length_encodes cs)) ok k)))
        (λ short.
        rw (le-leb (length (encodes cs)) 255 short, append_assoc (in_bytes 1 (length (encodes cs))) (encodes cs) rest)
        (starting s₁ at r _ _ rest _ refl (atom_fields given at (at + 1) r rest 1 cs (omega arith) ok k)))

    pub binary_opens : (bs : List ℕ) → length bs < 2 ^ 32 → Opens any (109 ∷ ((in_bytes 4 (length bs) ++ bs) ++ rest)) at r (leaf (binary bs)) rest
    binary_opens bs h =
        rw (append_assoc (in_bytes 4 (length bs)) bs rest)
        (starting any_109 at r _ _ rest _ refl (binary_fields given at (at + 1) r rest bs h))

    pub bits_opens : (bits : ℕ) (bs : List ℕ) → length bs < 2 ^ 32 → bits < 256 → bits_rule (length bs) bits ≡ true
        → bits_meaning bits bs ≡ bitstring bits bs
        → Opens any (77 ∷ ((in_bytes 4 (length bs) ++ (in_bytes 1 bits ++ bs)) ++ rest)) at r (leaf (bitstring bits bs)) rest
    bits_opens bits bs h k e m =
        rw (append_assoc (in_bytes 4 (length bs)) (in_bytes 1 bits ++ bs) rest, append_assoc (in_bytes 1 bits) bs rest)
        (starting any_77 at r _ _ rest _ refl (bits_fields given at (at + 1) r rest bits bs h k e m))

    pub tuple_opens : (n : ℕ) (ps : List ℕ) → n < 2 ^ 32 → Opens any (tuple_bytes n ps ++ rest) at r (parts [] n (known tuple)) (ps ++ rest)
    unfolding tuple_bytes
    tuple_opens n ps h =
        by_less 255 n
        (λ long.
        rw (lt-leb n 255 long, append_assoc (in_bytes 4 n) ps rest)
        (starting any_105 at r _ _ (ps ++ rest) _ refl (tuple_fields given at (at + 1) r (ps ++ rest) 4 n h)))
        (λ short.
        rw (le-leb n 255 short, append_assoc (in_bytes 1 n) ps rest)
        (starting any_104 at r _ _ (ps ++ rest) _ refl (tuple_fields given at (at + 1) r (ps ++ rest) 1 n (omega arith))))

    pub map_opens : (n : ℕ) (ps : List ℕ) → n < 2 ^ 32 → Opens any (116 ∷ ((in_bytes 4 n ++ ps) ++ rest)) at r (pairs n) (ps ++ rest)
    map_opens n ps h =
        rw (append_assoc (in_bytes 4 n) ps rest)
        (starting any_116 at r _ _ (ps ++ rest) _ refl (map_fields given at (at + 1) r (ps ++ rest) n h))

    -- over the identifiers: the node comes at once
    pub pid_opens : (ps : List ℕ) → Opens any (88 ∷ ps) at r (parts (an_atom ∷ []) 0 (pid_fields 4)) ps
    unfolding fields
    pid_opens ps = starting any_88 at r (at + 1) ps ps _ refl refl

    pub port_opens : (ps : List ℕ) → Opens any (89 ∷ ps) at r (parts (an_atom ∷ []) 0 (port_fields 4 4)) ps
    unfolding fields
    port_opens ps = starting any_89 at r (at + 1) ps ps _ refl refl

    pub long_port_opens : (ps : List ℕ) → Opens any (120 ∷ ps) at r (parts (an_atom ∷ []) 0 (port_fields 8 4)) ps
    unfolding fields
    long_port_opens ps = starting any_120 at r (at + 1) ps ps _ refl refl

    pub reference_opens : (n : ℕ) → 1 ≤ n → n ≤ (limits given.flags 4).word_count
        → Opens any (90 ∷ (in_bytes 2 n ++ rest)) at r (parts (an_atom ∷ []) 0 (reference_fields n 4)) rest
    reference_opens n h k = starting any_90 at r _ _ rest _ refl (reference_head given at (at + 1) r rest 4 n h k)

    pub export_opens : (ps : List ℕ) → Opens any (113 ∷ ps) at r (parts (an_atom ∷ an_atom ∷ an_arity ∷ []) 0 (known export)) ps
    unfolding fields
    export_opens ps = starting any_113 at r (at + 1) ps ps _ refl refl

    pub nil_opens : Opens any (106 ∷ rest) at r (characters []) rest
    unfolding fields
    nil_opens = starting any_106 at r (at + 1) rest rest _ refl refl

    pub string_opens : (cs : List ℕ) → length cs < 2 ^ 16
        → Opens any (107 ∷ (in_bytes 2 (length cs) ++ (cs ++ rest))) at r (characters cs) rest
    string_opens cs h = starting any_107 at r _ _ rest _ refl (string_fields given at (at + 1) r rest cs h)

    -- a 108 whose length is not 0
    pub list_opens : (n : ℕ) → n < 2 ^ 32 → 0 < n → Opens any (108 ∷ (in_bytes 4 n ++ rest)) at r (elements n) rest
    list_opens zero h k = absurd (omega arith)
    list_opens (suc n) h k = starting any_108 at r _ _ rest _ refl (list_fields given at (at + 1) r rest (suc n) h)
