-- What holds of a step's finding, if it finds anything. One rule for each kind of step; a proof follows the steps.
use mathlib.Core.Path.{◌≡◌, refl, ◌∙◌, ap, subst}
use mathlib.Core.Bool.{Bool, true, false, ◌&&◌}
use mathlib.Core.List.{List, [], ◌∷◌}
use Prim.Native.Nat.{ℕ, zero, suc, ◌^◌, ◌<◌}
use native.Mathlib.Nat.{pow-succ'}
use native.Mathlib.Omega.{arith}
use lib.Arith.{digits_lt}
use lib.Dec.{leb, ltb, eqb}
use lib.ListN.{length}
use Rattle.term_spec.specs.Numbers.{big_endian, little_endian, Under}
use Rattle.term_spec.specs.Text.{Checked, valid, invalid_at, check}
use Rattle.term_spec.specs.Answer.{Answer, good, refused, Position, Reading, after, rule, byte, first_of, bytes, number}
use Rattle.term_spec.specs.Head.{Given, limits, Wanted, Later, Form, small_integer_ext, integer_ext, big_ext, new_float_ext, atom_ext, atom_cache_ref, tuple_ext, nil_ext, string_ext, list_ext, binary_ext, bit_binary_ext, map_ext, pid_ext, port_ext, new_reference_ext, reference_ext, export_ext, fields, Head, parts, characters, elements, pairs, finite, bits_rule, text_or}
use Rattle.term_spec.specs.Message.{version, ending}

-- if the answer is good, Q holds of what is found and of where reading ends
pub record Holds {A : Type 0} (o : Answer (A × Position)) (Q : A → Position → Type 0) : Type 0 where
  pub known : (a : A) (s : Position) → o ≡ good (a, s) → Q a s

-- bytes are under 256, and the rows taken are r
pub record Fine (r : ℕ) (s : Position) : Type 0 where
  pub bytes_under : Under 256 s.left
  pub rows_are : s.rows_taken ≡ r

module _ {A B : Type 0} where
  pub bind : {o : Answer (A × Position)} {f : A → Reading B} {Q : B → Position → Type 0}
      → Holds o (λ a s. Holds (f a s) Q) → Holds (after o f) Q
  bind {o} {f} {Q} h = record { known = λ b s e. go o refl b s e }
    where
      go : (o' : Answer (A × Position)) → o ≡ o' → (b : B) (s : Position) → after o' f ≡ good (b, s) → Q b s
      go (good r) p b s e = (h.known r.0 r.1 p).known b s e
      go (refused n q) p b s e = let no_way : ◌≡◌ {A = ℕ} 0 1 = cc in absurd (omega arith)

module _ {A : Type 0} where
  pub done_holds : (a : A) (s : Position) {Q : A → Position → Type 0} → Q a s → Holds (good (a, s)) Q
  done_holds a s {Q} q = record { known = λ b t e. let is : ◌≡◌ {A = A × Position} (a, s) (b, t) = cc in subst (λ (x : A × Position). Q x.0 x.1) is q }

  pub refused_holds : (n p : ℕ) {Q : A → Position → Type 0} → Holds (refused n p) Q
  refused_holds n p = record { known = λ b t e. let no_way : ◌≡◌ {A = ℕ} 0 1 = cc in absurd (omega arith) }

  -- two facts of one answer
  pub both : {o : Answer (A × Position)} (P Q : A → Position → Type 0) → Holds o P → Holds o Q → Holds o (λ a s. P a s × Q a s)
  both P Q h k = record { known = λ a s e. (h.known a s e, k.known a s e) }

pub rule_holds : (t : Bool) (n p : ℕ) (s : Position) {Q : Unit → Position → Type 0} → (t ≡ true → Q tt s) → Holds (rule t n p s) Q
rule_holds true n p s q = done_holds tt s (q refl)
rule_holds false n p s q = refused_holds n p

pub text_holds : (o : Checked) (n : ℕ) (p : ℕ → ℕ) (s : Position) {Q : List ℕ → Position → Type 0}
    → ((cs : List ℕ) → o ≡ valid cs → Q cs s) → Holds (text_or o n p s) Q
unfolding text_or
text_holds (invalid_at k) n p s q = refused_holds n (p k)
text_holds (valid cs) n p s q = done_holds cs s (q cs refl)

module _ {r : ℕ} (p : ℕ) where
  pub byte_holds : (s : Position) → Fine r s → {Q : ℕ → Position → Type 0}
      → ((b : ℕ) (t : Position) → b < 256 → Fine r t → Q b t) → Holds (byte p s) Q
  byte_holds s f {Q} q = go s.left f.bytes_under
    where
      go : (left : List ℕ) → Under 256 left → Holds (first_of left s p) Q
      go [] u = refused_holds 2 p
      go (b ∷ bs) u = done_holds b _ (q b _ u.0 (record { bytes_under = u.1; rows_are = f.rows_are }))

  pub bytes_holds : (n : ℕ) (s : Position) → Fine r s → {Q : List ℕ → Position → Type 0}
      → ((bs : List ℕ) (t : Position) → length bs ≡ n → Under 256 bs → Fine r t → Q bs t) → Holds (bytes p n s) Q
  unfolding bytes
  bytes_holds zero s f q = done_holds [] s (q [] s refl tt f)
  bytes_holds (suc n) s f q =
      bind (byte_holds s f λ b t h g. bind (bytes_holds n t g λ bs u l us k. done_holds (b ∷ bs) u (q (b ∷ bs) u (ap suc l) (h, us) k)))

pub big_under : (bs : List ℕ) → Under 256 bs → big_endian bs < 256 ^ length bs
unfolding big_endian
big_under [] u = omega arith
big_under (b ∷ bs) u = rw (pow-succ' 256 (length bs)) (digits_lt u.0 (big_under bs u.1))

pub little_under : (ds : List ℕ) → Under 256 ds → little_endian ds < 256 ^ length ds
unfolding little_endian
little_under [] u = omega arith
little_under (d ∷ ds) u = rw (pow-succ' 256 (length ds)) (omega (arith, u.0, little_under ds u.1))

pub number_holds : {r : ℕ} (p n : ℕ) (s : Position) → Fine r s → {Q : ℕ → Position → Type 0}
    → ((x : ℕ) (t : Position) → x < 256 ^ n → Fine r t → Q x t) → Holds (number p n s) Q
unfolding number
number_holds p n s f q =
    bind (bytes_holds p n s f λ bs t l us g. done_holds (big_endian bs) t (q (big_endian bs) t (rw l at (big_under bs us)) g))

-- after a step of which something is known
pub next : {A B : Type 0} {o : Answer (A × Position)} {f : A → Reading B} (P : A → Position → Type 0) {Q : B → Position → Type 0}
    → Holds o P → ((a : A) (s : Position) → P a s → Holds (f a s) Q) → Holds (after o f) Q
next P h k = bind (record { known = λ a s e. k a s (h.known a s e) })

-- after a step of which nothing is asked
pub skip : {A B : Type 0} (o : Answer (A × Position)) {f : A → Reading B} {Q : B → Position → Type 0} → ((a : A) (s : Position) → Holds (f a s) Q) → Holds (after o f) Q
skip o k = bind {o = o} (record { known = λ a s e. k a s })

pub weaken : {A : Type 0} {o : Answer (A × Position)} (P : A → Position → Type 0) {Q : A → Position → Type 0}
    → Holds o P → ((a : A) (s : Position) → P a s → Q a s) → Holds o Q
weaken P h k = record { known = λ a s e. k a s (h.known a s e) }

pub at_rows : {m n : ℕ} {s : Position} → Fine m s → m ≡ n → Fine n s
at_rows f e = record { bytes_under = f.bytes_under; rows_are = f.rows_are ∙ e }

-- how a standalone term begins, and how a message ends
pub version_holds : (s : Position) {Q : Unit → Position → Type 0}
    → ((b : ℕ) (bs : List ℕ) → s.left ≡ b ∷ bs → Q tt (record { at = 1; left = bs; rows_taken = s.rows_taken })) → Holds (version s) Q
unfolding version
version_holds s {Q} q = go s.left refl
  where
    tested : (b : ℕ) (bs : List ℕ) → s.left ≡ b ∷ bs → (t : Bool)
        → Holds (elim t as (λ _. Answer (Unit × Position)) [ true ↦ good (tt, record { at = 1; left = bs; rows_taken = s.rows_taken }) | false ↦ refused 1 0 ]) Q
    tested b bs e true = done_holds tt _ (q b bs e)
    tested b bs e false = refused_holds 1 0

    go : (left : List ℕ) → s.left ≡ left
        → Holds (elim left as (λ _. Answer (Unit × Position)) [
          | [] ↦ refused 1 0
          | b ∷ bs ↦ elim (eqb b 131) [ true ↦ good (tt, record { at = 1; left = bs; rows_taken = s.rows_taken }) | false ↦ refused 1 0 ]
        ]) Q
    go [] e = refused_holds 1 0
    go (b ∷ bs) e = tested b bs e (eqb b 131)

pub ending_holds : (left : List ℕ) (s : Position) {Q : Unit → Position → Type 0} → Q tt s → Holds (ending left s) Q
unfolding ending
ending_holds [] s q = done_holds tt s q
ending_holds (b ∷ bs) s q = refused_holds 10 _

-- Of the heads, only those of a 106 and of a 107 say characters: what holds of these, and of all other heads, holds of what the fields say
module _ (given : Given) (Q : Head → Position → Type 0) (of_parts : (ws : List Wanted) (n : ℕ) (l : Later) (t : Position) → Q (parts ws n l) t)
    (of_elements : (n : ℕ) (t : Position) → Q (elements n) t) (of_pairs : (n : ℕ) (t : Position) → Q (pairs n) t) where
  pub characters_hold : (p : ℕ) (f : Form) (s : Position) → Q (characters []) s → Holds (number p 2 s) (λ n t. Holds (bytes p n t) (λ cs u. Q (characters cs) u))
      → Holds (fields given p f s) Q
  unfolding fields
  characters_hold p small_integer_ext s none some = skip (number p 1 s) λ n t. done_holds _ t (of_parts _ _ _ t)
  characters_hold p integer_ext s none some = skip (number p 4 s) λ n t. done_holds _ t (of_parts _ _ _ t)
  characters_hold p new_float_ext s none some = skip (number p 8 s) λ n t. skip (rule (finite n) 4 p t) λ _ t. done_holds _ t (of_parts _ _ _ t)
  characters_hold p atom_cache_ref s none some =
      skip (number p 1 s) λ n t. skip (rule (ltb n given.n) 6 p t) λ _ t. skip (text_or (given.text n) 14 _ t) λ cs t. done_holds _ t (of_parts _ _ _ t)
  characters_hold p nil_ext s none some = done_holds _ s none
  characters_hold p string_ext s none some =
      next (λ n t. Holds (bytes p n t) (λ cs u. Q (characters cs) u)) some λ n t h. next (λ cs u. Q (characters cs) u) h λ cs u q. done_holds _ u q
  characters_hold p list_ext s none some = skip (number p 4 s) λ n t. done_holds _ t (of_elements _ t)
  characters_hold p binary_ext s none some = skip (number p 4 s) λ n t. skip (bytes p n t) λ bs t. done_holds _ t (of_parts _ _ _ t)
  characters_hold p bit_binary_ext s none some =
      skip (number p 4 s) λ n t. skip (number p 1 t) λ bits t. skip (bytes p n t) λ bs t. skip (rule (bits_rule n bits) 4 p t) λ _ t. done_holds _ t (of_parts _ _ _ t)
  characters_hold p map_ext s none some = skip (number p 4 s) λ n t. done_holds _ t (of_pairs _ t)
  characters_hold p reference_ext s none some = done_holds _ s (of_parts _ _ _ s)
  characters_hold p export_ext s none some = done_holds _ s (of_parts _ _ _ s)
  characters_hold p (big_ext w) s none some =
      skip (number p w s) λ n t. skip (number p 1 t) λ sign t. skip (bytes p n t) λ ds t. skip (rule (leb sign 1) 4 p t) λ _ t. done_holds _ t (of_parts _ _ _ t)
  characters_hold p (atom_ext coding w) s none some =
      skip (number p w s) λ n t. skip (bytes p n t) λ bs t. skip (text_or (check coding bs) 5 _ t) λ cs t. done_holds _ t (of_parts _ _ _ t)
  characters_hold p (tuple_ext w) s none some = skip (number p w s) λ n t. done_holds _ t (of_parts _ _ _ t)
  characters_hold p (pid_ext w) s none some = done_holds _ s (of_parts _ _ _ s)
  characters_hold p (new_reference_ext w) s none some =
      skip (number p 2 s) λ n t. skip (rule (leb 1 n && leb n (limits given.flags w).word_count) 4 p t) λ _ t. done_holds _ t (of_parts _ _ _ t)
  characters_hold p (port_ext v w) s none some = done_holds _ s (of_parts _ _ _ s)
