-- An accepted message: its terms are valid trees within the limits, have a row for each node, and the message backs every node.
use mathlib.Core.Path.{◌≡◌, refl, ap, subst}
use mathlib.Core.Bool.{Bool, true, false}
use mathlib.Core.List.{List, [], ◌∷◌}
use Prim.Native.Nat.{ℕ, ◌+◌, ◌≤◌, min}
use native.Mathlib.Omega.{arith}
use lib.Dec.{leb}
use lib.ListN.{length}
use borrow.Author.Tests.{leb-true}
use Rattle.term_spec.specs.Tree.{Forest, empty, ◌▹◌, size, sizes, depth}
use Rattle.term_spec.specs.Text.{Checked, valid, invalid_at, utf_8, check, Characters}
use Rattle.term_spec.specs.Term.{Label, Term}
use Rattle.term_spec.specs.Connection.{flags_known}
use Rattle.term_spec.specs.Answer.{Answer, good, refused, Position, Reading, after, done}
use Rattle.term_spec.specs.Head.{Given, any}
use Rattle.term_spec.specs.Reading.{Located, as_read, term}
use Rattle.term_spec.specs.AtomList.{AtomList, of_size, given_of, place_length, place_text, place_bytes}
use Rattle.term_spec.specs.Message.{Framing, standalone, payload, Terms, all_as_read, ending, result_of, first_check, standalone_term, payload_terms, terms_framed, read}
use Rattle.term_spec.specs.Numbers.{Under}
use Rattle.term_spec.specs.Valid.{Valid, Valids}
use Rattle.term_spec.proofs.Steps.{spot}
use Rattle.term_spec.proofs.Text.{utf8_spells}
use Rattle.term_spec.proofs.Rows.{size_as_read}
use Rattle.term_spec.proofs.Holds.{Holds, Fine, both, bind, done_holds, next, version_holds, ending_holds}
use Rattle.term_spec.proofs.Heads.{TrueAtoms, for_any}
use Rattle.term_spec.proofs.Accepted.{Found, term_holds}
use Rattle.term_spec.proofs.Invariant.{InStep, on_byte}
use Rattle.term_spec.proofs.Backed.{Backed, Backeds, term_backed}

-- a tree within the limits: valid with these flags, 64 levels at most, 8,192 rows at most
pub record Allowed (flags : ℕ) (t : Term) : Type 0 where
  pub valid_tree : Valid flags t
  pub levels : depth t ≤ 64
  pub few_rows : size t ≤ 8192

abbrev pub AllAllowed : ℕ → Forest Label → Type 0
AllAllowed flags empty = Unit {0}
AllAllowed flags (t ▹ ts) = Allowed flags t × AllAllowed flags ts

pub allowed_valid : (flags : ℕ) (ts : Forest Label) → AllAllowed flags ts → Valids flags ts
allowed_valid flags empty a = tt
allowed_valid flags (t ▹ ts) a = (a.0.valid_tree, allowed_valid flags ts a.1)

-- what is known of the terms of a message, read with `cap` rows
pub record Known (message : List ℕ) (cap : ℕ) (given : Given) (ts : Terms) : Type 0 where
  pub all_allowed : AllAllowed given.flags (all_as_read ts)
  pub few : sizes ts ≤ cap
  pub all_backed : Backeds message cap given ts

module _ (given : Given) (true_atoms : TrueAtoms given) (cap : ℕ) (least : cap ≤ 8192) (message : List ℕ) (under : Under 256 message) where
  -- a term that is no part, with r rows before its own
  abbrev Outer : ℕ → Located → Position → Type 0
  Outer r x t = Found cap given for_any 64 r x t × (InStep message cap t × Backed message cap given x)

  outer : (r : ℕ) (s : Position) → Fine r s → r ≤ cap → InStep message cap s → Holds (term given cap 64 any s) (Outer r)
  outer r s g h i = both _ _ (term_holds cap given true_atoms (omega arith) 64 for_any r s g h) (term_backed message cap given 64 any s i)

  start : InStep message cap (spot 0 message 0)
  start = record { bytes_are = refl; inside = omega arith; room = omega arith }

  allowed : (r : ℕ) (x : Located) (t : Position) → Outer r x t → Allowed given.flags (as_read x)
  allowed r x t f = record { valid_tree = f.0.valid; levels = f.0.deep; few_rows = omega (arith, f.0.room) }

  one_known : (x : Located) (t : Position) → Outer 0 x t → Known message cap given (x ▹ empty)
  one_known x t f = record { all_allowed = (allowed 0 x t f, tt); few = omega (arith, size_as_read x, f.0.room); all_backed = (f.1.1, tt) }

  two_known : (x y : Located) (t s : Position) → Outer 0 x t → Outer (0 + size (as_read x)) y s → Known message cap given (x ▹ y ▹ empty)
  two_known x y t s f g =
      record {
        all_allowed = (allowed 0 x t f, (allowed (0 + size (as_read x)) y s g, tt));
        few = omega (arith, size_as_read x, size_as_read y, g.0.room);
        all_backed = (f.1.1, (g.1.1, tt));
      }

  standalone_known : Holds (standalone_term given cap (spot 0 message 0)) (λ ts t. Known message cap given ts)
  unfolding standalone_term
  standalone_known =
      bind (version_holds (spot 0 message 0) λ b bs e.
      next (Outer 0)
      (outer 0 (spot 1 bs 0) (record { bytes_under = (subst (Under 256) e under).1; rows_are = refl }) (omega arith) (on_byte message cap (spot 0 message 0) b bs e start)) λ x t f.
      bind (ending_holds t.left t (done_holds _ t (one_known x t f))))

  payload_known : Holds (payload_terms given cap (spot 0 message 0)) (λ ts t. Known message cap given ts)
  unfolding payload_terms
  payload_known = next (Outer 0) (outer 0 (spot 0 message 0) (record { bytes_under = under; rows_are = refl }) (omega arith) start) λ x t f. go x t f t.left
    where
      go : (x : Located) (t : Position) → Outer 0 x t → (left : List ℕ)
          → Holds ((elim left as (λ _. Reading Terms) [
            | [] ↦ done (x ▹ empty)
            | b ∷ bs ↦ λ t. after (term given cap 64 any t) (λ u. λ t. after (ending t.left t) (λ _. done (x ▹ u ▹ empty)))
          ]) t) (λ ts t. Known message cap given ts)
      go x t f [] = done_holds _ t (one_known x t f)
      go x t f (b ∷ bs) =
          next (Outer (0 + size (as_read x))) (outer (0 + size (as_read x)) t f.0.fine f.0.room f.1.0) λ y s g.
          bind (ending_holds s.left s (done_holds _ s (two_known x y t s f g)))

  framed_known : (framing : Framing) → Holds (terms_framed given cap framing (spot 0 message 0)) (λ ts t. Known message cap given ts)
  framed_known standalone = standalone_known
  framed_known payload = payload_known

-- the lent atom list holds texts of characters
pub list_true : (flags : ℕ) (list : AtomList) → TrueAtoms (given_of flags list)
unfolding given_of place_text
list_true flags list i cs e = go (leb (place_length list i) 32) e
  where
    go : (z : Bool) → ◌≡◌ {A = Checked} (elim z [ true ↦ check utf_8 (place_bytes list i) | false ↦ invalid_at 32 ]) (valid cs) → Characters cs × (length cs ≤ 255)
    go true f = let s = utf8_spells (place_bytes list i) cs f in (s.characters, s.few)
    go false f = let no_way : ◌≡◌ {A = ℕ} 0 1 = cc in absurd (omega arith)

-- a good answer has passed the first checks, and has a position
pub passed : {A : Type 0} (t : Bool) (n : ℕ) (o : Answer A) (a : A) → first_check t n o ≡ good a → (t ≡ true) × (o ≡ good a)
passed true n o a e = (refl, e)
passed false n o a e = let no_way : ◌≡◌ {A = ℕ} 0 1 = cc in absurd (omega arith)

pub found_good : {A : Type 0} (o : Answer (A × Position)) (a : A) → result_of o ≡ good a → (s : Position) × (o ≡ good (a, s))
found_good (good r) a e = let is : r.0 ≡ a = cc in (r.1, ap (λ x. good (x, r.1)) is)
found_good (refused n p) a e = let no_way : ◌≡◌ {A = ℕ} 0 1 = cc in absurd (omega arith)

pub record AcceptedMessage (flags : ℕ) (list : AtomList) (lent : ℕ) (message : List ℕ) (ts : Terms) : Type 0 where
  pub sized : of_size list ≡ true
  pub flags_true : flags_known flags ≡ true
  pub short : length message ≤ 65536
  pub known : Known message (min 8192 lent) (given_of flags list) ts

pub accepted_message : (flags : ℕ) (framing : Framing) (list : AtomList) (lent : ℕ) (message : List ℕ) → Under 256 message → (ts : Terms)
    → read flags framing list lent message ≡ good ts → AcceptedMessage flags list lent message ts
unfolding read
accepted_message flags framing list lent message under ts e =
    let cap : ℕ = min 8192 lent in
    let o : Answer (Terms × Position) = terms_framed (given_of flags list) cap framing (spot 0 message 0) in
    let a = passed (of_size list) 13 _ ts e in
    let k = passed (flags_known flags) 14 _ ts a.1 in
    let b = passed (leb (length message) 65536) 12 (result_of o) ts k.1 in
    let g = found_good o ts b.1 in
    record {
      sized = a.0;
      flags_true = k.0;
      short = leb-true (length message) 65536 b.0;
      known = (framed_known (given_of flags list) (list_true flags list) cap (omega arith) message under framing).known ts g.0 g.1;
    }
