-- The terms of an accepted message stand in the table after reading, and every field of theirs is found again.
use mathlib.Core.Path.{◌≡◌, refl, ◌∙◌, ap, subst}
use mathlib.Core.Bool.{Bool, true, false, ◌&&◌}
use mathlib.Core.List.{List, [], ◌∷◌}
use mathlib.Core.Option.{none}
use Prim.Native.Nat.{ℕ, zero, suc, ◌≤◌, ◌<◌, min}
use native.Mathlib.Omega.{arith}
use lib.Dec.{eqb}
use lib.ListN.{length}
use borrow.Author.Tests.{eqb-true}
use Rattle.term_spec.specs.Tree.{Forest, node, ◌▹◌, sizes, EachNode, EachNodes}
use Rattle.term_spec.specs.Text.{Checked, encodes}
use Rattle.term_spec.specs.Term.{Label, list, bitstring}
use Rattle.term_spec.specs.Answer.{good}
use Rattle.term_spec.specs.Head.{Given, bits_rule, bits_meaning, clear_low}
use Rattle.term_spec.specs.Reading.{Offset, tag_at, character_at, Located, as_read}
use Rattle.term_spec.specs.AtomList.{AtomList, of_size, given_of}
use Rattle.term_spec.specs.Message.{Framing, Terms, all_as_read, read}
use Rattle.term_spec.specs.Rows.{kind_of, kind_at, offset_of, whole_code, table_after}
use Rattle.term_spec.specs.Numbers.{Under}
use Rattle.term_spec.specs.Valid.{Fits, Valid, Valids}
use Rattle.term_spec.proofs.Text.{utf8_spelt}
use Rattle.term_spec.proofs.Backed.{LabelAt, Backed, Backeds}
use Rattle.term_spec.proofs.Words.{table_rows}
use Rattle.term_spec.proofs.Message.{AcceptedMessage, accepted_message, allowed_valid}
use Rattle.row_fields.specs.declared.Content.{Content}
use Rattle.row_fields.specs.declared.Content.TheVariants.{Nothing, Whole, Big, Float, Text, Bytes, Bits, Pid, Port, Reference}
use Rattle.row_fields.specs.Found.{content_of}
use Rattle.row_fields.specs.Meaning.{characters_of, label_of}
use Rattle.row_fields.proofs.Says as contents
use Rattle.row_fields.proofs.Says.{Readable, Lent, Says}
use Rattle.row_fields.proofs.Again.{content_says}
use Rattle.row_fields.proofs.Read.{label_inside}
use Rattle.octets.specs.Parts.{stretch}
use Rattle.layout.specs.Layout.{Inside}
use Rattle.layout.proofs.Bodies.{length_bits}
use Rattle.canonical_fields.specs.Sound.{Spelt, SoundContent, listed_in}
use Rattle.term_writer.specs.InTable.{Writable, RunInTable}

-- ---- every node is found again

module _ (m : List ℕ) (cap : ℕ) (atoms : Given) where
  -- a list's place is its tag
  pub label_tag : (place : Offset) (x : Label) → LabelAt m cap atoms place x → x ≡ list → kind_at x place ≡ 5
  unfolding kind_at kind_of
  label_tag (tag_at p) x h e = ap kind_of e
  label_tag (character_at p) x h e = let no_way : ◌≡◌ {A = ℕ} 0 1 = cc in absurd (omega arith)

-- what is found keeps to what writing asks
bits_some : (flags bits : ℕ) (bs : List ℕ) (ts : Forest Label) → Fits flags (bitstring bits bs) ts → 1 ≤ length bs
unfolding bits_rule bits_meaning
bits_some flags bits [] ts f =
    let z : bits ≡ 0 = eqb-true bits 0 f.3 in
    let e : bits_meaning 0 [] ≡ bitstring 0 [] = rw z at f.4 in
    let no_way : ◌≡◌ {A = ℕ} 0 1 = cc in
    absurd (omega arith)
bits_some flags bits (b ∷ bs) ts f = omega arith

spelt_by : (bs : List ℕ) → Readable false bs → Spelt bs
unfolding characters_of
spelt_by bs r = record { spelt = ap (λ (c : Checked). encodes (characters_of c)) r.1 ∙ utf8_spelt bs r.0 r.1 }

not_zero : (negative : Bool) (n : ℕ) → (n ≡ 0 → negative ≡ false) → negative ≡ true → 0 < n
not_zero negative zero h e = let f : negative ≡ false = h refl in let no_way : ◌≡◌ {A = ℕ} 0 1 = cc in absurd (omega arith)
not_zero negative (suc n) h e = omega arith

module _ (m : List ℕ) (atoms : AtomList) (short : length m ≤ 65536) (fits : length atoms.places ≤ 65536) where
  text_sound : (latin1 listed : Bool) (start n : ℕ) → contents.Sound m atoms.places (Text latin1 listed start n) → SoundContent m atoms.places (Text latin1 listed start n)
  unfolding SoundContent
  text_sound latin1 true start n (h, r) = (record { there = h; few = omega arith }, λ e. spelt_by _ (subst (λ (z : Bool). Readable z (stretch atoms.places start n)) e r))
  text_sound latin1 false start n (h, r) = (record { there = h; few = omega arith }, λ e. spelt_by _ (subst (λ (z : Bool). Readable z (stretch m start n)) e r))

  pub sound_by : (flags kind : ℕ) (c : Content) (ts : Forest Label) → contents.Sound m atoms.places c → Fits flags (label_of m atoms kind c) ts → SoundContent m atoms.places c
  unfolding SoundContent label_of
  sound_by flags kind Nothing ts h f = tt
  sound_by flags kind (Whole negative n) ts (_, h) f = not_zero negative n h
  sound_by flags kind (Big negative start n) ts (many, there, high) f = record { there = record { there = there; few = omega arith }; many = many; high = omega arith }
  sound_by flags kind (Float bits) ts h f = tt
  sound_by flags kind (Text latin1 listed start n) ts h f = text_sound latin1 listed start n h
  sound_by flags kind (Bytes start n) ts h f = record { there = h; few = omega arith }
  sound_by flags kind (Bits bits start n) ts h f =
      let i : Inside m start n = record { there = h; few = omega arith } in
      let k : length (clear_low bits (stretch m start n)) ≡ n = length_bits bits m start n i in
      let s : 1 ≤ length (clear_low bits (stretch m start n)) = bits_some flags bits (clear_low bits (stretch m start n)) ts f in
      (i, omega arith)
  sound_by flags kind (Pid i s c) ts h f = tt
  sound_by flags kind (Port i c) ts h f = tt
  sound_by flags kind (Reference c start n) ts h f = record { there = h; few = omega arith }

  listed_alone : (kind : ℕ) (c : Content) → label_of m (listed_in atoms.places) kind c ≡ label_of m atoms kind c
  unfolding label_of
  listed_alone kind Nothing = refl
  listed_alone kind (Whole negative n) = refl
  listed_alone kind (Big negative start n) = refl
  listed_alone kind (Float bits) = refl
  listed_alone kind (Text latin1 listed start n) = refl
  listed_alone kind (Bytes start n) = refl
  listed_alone kind (Bits bits start n) = refl
  listed_alone kind (Pid i s c) = refl
  listed_alone kind (Port i c) = refl
  listed_alone kind (Reference c start n) = refl

  module _ (flags : ℕ) (lent : Lent atoms m) (cap : ℕ) where
    node_writable : (l : Label × Offset) (ts : Terms) → LabelAt m cap (given_of flags atoms) l.1 l.0 → Fits flags l.0 (all_as_read ts) → Writable m atoms.places atoms.lengths flags l ts
    node_writable l ts h f =
        let k : ℕ = kind_at l.0 l.1 in
        let p : ℕ = offset_of l.1 in
        let c : Content = content_of m atoms.places atoms.lengths k p in
        let s : Says atoms m k p l.0 = content_says flags atoms m lent cap l.0 l.1 h in
        let near : p < length m = label_inside m cap (given_of flags atoms) l.1 l.0 h in
        record {
          near = omega arith;
          says = listed_alone k c ∙ s.means;
          sound = sound_by flags k c (all_as_read ts) s.sound (rw s.means f);
          fits = f;
          at_tag = label_tag m cap (given_of flags atoms) l.1 l.0 h;
        }

    mutual
      unfolding EachNode

      tree_writable : (t : Located) → Backed m cap (given_of flags atoms) t → Valid flags (as_read t) → EachNode (Writable m atoms.places atoms.lengths flags) t
      tree_writable (node l ts) b v = (node_writable l ts b.0 v.0, run_writable ts b.1 v.1)

      run_writable : (ts : Terms) → Backeds m cap (given_of flags atoms) ts → Valids flags (all_as_read ts) → EachNodes (Writable m atoms.places atoms.lengths flags) ts
      run_writable Forest.empty b v = tt
      run_writable (t ▹ ts) b v = (tree_writable t b.0 v.0, run_writable ts b.1 v.1)

-- ---- after reading

places_few : (atoms : AtomList) → of_size atoms ≡ true → length atoms.places ≤ 65536
unfolding of_size
places_few atoms e = go (eqb (length atoms.places) 8160) refl e
  where
    go : (z : Bool) → eqb (length atoms.places) 8160 ≡ z → (z && eqb (length atoms.lengths) 255) ≡ true → length atoms.places ≤ 65536
    go true f e = let k : length atoms.places ≡ 8160 = eqb-true (length atoms.places) 8160 f in omega arith
    go false f e = let no_way : ◌≡◌ {A = ℕ} 0 1 = cc in absurd (omega arith)

-- the rows of an accepted message's terms stand in the table, and each can be written
pub read_held : (flags : ℕ) (framing : Framing) (atoms : AtomList) (lent : ℕ) (m : List ℕ) → atoms.n ≤ 255 → Under 256 m → (ts : Terms) → read flags framing atoms lent m ≡ good ts
    → RunInTable m atoms.places atoms.lengths (table_after lent (good ts)) 0 ts
unfolding whole_code given_of
read_held flags framing atoms lent m n u ts e =
    let a : AcceptedMessage flags atoms lent m ts = accepted_message flags framing atoms lent m u ts e in
    let f : sizes ts ≤ min 8192 lent = a.known.few in
    record {
      run_whole = none;
      run_above = omega arith;
      run_stands = table_rows lent ts;
      run_few = omega arith;
      run_flags = flags;
      run_nodes = run_writable m atoms a.short (places_few atoms a.sized) flags (record { sized = a.sized; few = n; under = u }) (min 8192 lent) ts a.known.all_backed
          (allowed_valid flags (all_as_read ts) a.known.all_allowed);
    }
