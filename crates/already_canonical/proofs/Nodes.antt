-- Pids and references whose fields stand in the message as they are written, around their node.
use mathlib.Core.Path.{◌≡◌, refl, sym, ◌∙◌, ap, ap₂, subst}
use mathlib.Core.List.{List, ◌∷◌, ◌++◌}
use Prim.Native.Nat.{ℕ, ◌+◌, ◌*◌, ◌-◌, ◌≤◌, ◌<◌}
use native.Mathlib.Omega.{arith}
use lib.ListN.{length, get_or, take, drop}
use lib.Seq.{sets}
use borrow.Author.Tests.{le-ltb}
use Rattle.std.proofs.Common.{Some, None}
use Rattle.term_spec.specs.Numbers.{in_bytes}
use Rattle.term_spec.specs.Rows.{kind_in, offset_in, parts_in}
use Rattle.octets.proofs.Numbers.{big_one}
use Rattle.octets.proofs.Parts.{length_words_at, part_add}
use Rattle.row_fields.specs.Found.{value, text_width, atom_end, pid_found, pids_found, words_found, counted_found, references_found, content_of}
use Rattle.row_fields.specs.Meaning.{words_at, label_of}
use Rattle.row_fields.specs.declared.Content.{Content}
use Rattle.row_fields.specs.declared.Content.TheVariants.{Pid, Reference}
use Rattle.row_fields.proofs.ByKind.{kind_10, kind_12}
use Rattle.row_fields.proofs.There.{end_there, end_listed, atom_ends}
use Rattle.layout.specs.Layout.{Put}
use Rattle.canonical_fields.specs.Shape.{before, after}
use Rattle.canonical_fields.specs.Sound.{BytesOnly, listed_in, before_in, after_in}
use Rattle.already_canonical.specs.Stands.{Tagged, Bodied, Around}
use Rattle.canonical_fields.proofs.Leads.{number_stands, words_stand}
use Rattle.canonical_fields.proofs.There.{there}
use Rattle.already_canonical.proofs.Stands.{one, number_there, copied_length, copied_room, copied_put}

-- ---- where a node ends

module _ (m : List ℕ) (at : ℕ) where
  pub node_82 : {r : ℕ} → Tagged m at 82 2 r → at + r ≡ atom_end m at
  unfolding text_width
  node_82 {r} t =
      let h : at + 2 ≤ length m = t.inside in
      ap (λ (n : ℕ). at + n) t.all ∙ atom_ends m at None (at + 2) (omega arith) (ap text_width t.tag_is) (end_listed m at)

  pub node_119 : {r : ℕ} → BytesOnly m → Bodied m at 119 1 r → (at + r ≡ atom_end m at) × (r < 258)
  unfolding text_width
  node_119 {r} b t =
      let v : ℕ = value m 1 (at + 1) in
      let e : r ≡ 1 + 1 + v = t.all in
      let h : at + r ≤ length m = t.inside in
      let o : v ≡ get_or m (at + 1) 0 = big_one m (at + 1) (omega arith) in
      let n : at + r ≡ at + 1 + 1 + v = omega arith in
      (n ∙ atom_ends m at (Some 1) (at + 1 + 1 + v) (omega arith) (ap text_width t.body_tag) (end_there m at 1 v refl (omega arith)), omega (arith, b (at + 1)))

-- ---- the fields around it

module _ (m places lengths : List ℕ) (kind at parts : ℕ) (b : BytesOnly m) where
  around_by : (h end k : ℕ) (c : Content) → content_of m places lengths kind at ≡ c → at + h ≤ length m → end + k ≤ length m → h + k ≤ 262192
      → before (label_of m (listed_in places) kind c) parts ≡ take h (drop at m) → after (label_of m (listed_in places) kind c) parts ≡ take k (drop end m)
      → Around m places lengths kind at parts h end k
  around_by h end k c e s t f p q =
      record {
        first_there = s;
        last_there = t;
        few = f;
        first = ap (λ (d : Content). before (label_of m (listed_in places) kind d) parts) e ∙ p;
        last = ap (λ (d : Content). after (label_of m (listed_in places) kind d) parts) e ∙ q;
      }

  pid_there : (end : ℕ) → end + 12 ≤ length m → pid_found m 4 end ≡ Pid (value m 4 end) (value m 4 (end + 4)) (value m 4 (end + 8))
  unfolding pid_found
  pid_there end h = let g : 12 ≤ length m - end = omega arith in simp (le-ltb (length m - end) 12 g)

  pids_there : pids_found m at 88 ≡ pid_found m 4 (atom_end m (at + 1))
  unfolding pids_found
  pids_there = refl

  three_words : (end : ℕ) → end + 12 ≤ length m
      → in_bytes 4 (value m 4 end) ++ (in_bytes 4 (value m 4 (end + 4)) ++ in_bytes 4 (value m 4 (end + 8))) ≡ take 12 (drop end m)
  three_words end h =
      let e : end + 4 + 4 ≡ end + 8 = omega arith in
      ap₂ (λ (x y : List ℕ). x ++ y) (number_stands m 4 end b (omega arith))
      (ap₂ (λ (x y : List ℕ). x ++ y) (number_stands m 4 (end + 4) b (omega arith)) (number_stands m 4 (end + 8) b (omega arith))
      ∙ ap (λ (j : ℕ). take 4 (drop (end + 4) m) ++ take 4 (drop j m)) (sym e)
      ∙ sym (part_add m (end + 4) 4 4))
      ∙ sym (part_add m end 4 8)

  pub around_88 : (end : ℕ) → kind ≡ 10 → at < length m → get_or m at 0 ≡ 88 → end ≡ atom_end m (at + 1) → end + 12 ≤ length m → Around m places lengths kind at parts 1 end 12
  unfolding label_of before after
  around_88 end k l e f h =
      around_by 1 end 12 (Pid (value m 4 end) (value m 4 (end + 4)) (value m 4 (end + 8)))
      (there m places lengths kind at l
      ∙ sym (kind_10 m places lengths at kind k)
      ∙ ap (pids_found m at) e
      ∙ pids_there
      ∙ ap (pid_found m 4) (sym f)
      ∙ pid_there end h)
      (omega arith) h (omega arith)
      (sym (one m 88 at 0 b e l))
      (three_words end h)

  words_there : (n end : ℕ) → end + (4 + 4 * n) ≤ length m → words_found m 4 n end ≡ Reference (value m 4 end) (end + 4) n
  unfolding words_found
  words_there n end h = let g : 4 + 4 * n ≤ length m - end = omega arith in simp (le-ltb (length m - end) (4 + 4 * n) g)

  counted_there : at + 3 ≤ length m → references_found m at 90 ≡ words_found m 4 (value m 2 (at + 1)) (atom_end m (at + 3))
  unfolding references_found counted_found
  counted_there h = let g : 3 ≤ length m - at = omega arith in simp (le-ltb (length m - at) 3 g)

  pub around_90 : (n end : ℕ) → kind ≡ 12 → at + 3 ≤ length m → get_or m at 0 ≡ 90 → end ≡ atom_end m (at + 3) → n ≡ value m 2 (at + 1) → n < 65536
      → end + (4 + 4 * n) ≤ length m → Around m places lengths kind at parts 3 end (4 + 4 * value m 2 (at + 1))
  unfolding label_of before after
  around_90 n end k l e f w few h =
      let ws : List ℕ = words_at m (end + 4) n in
      subst (λ (j : ℕ). Around m places lengths kind at parts 3 end (4 + 4 * j)) w
      (around_by 3 end (4 + 4 * n) (Reference (value m 4 end) (end + 4) n)
      (there m places lengths kind at (omega arith)
      ∙ sym (kind_12 m places lengths at kind k)
      ∙ ap (references_found m at) e
      ∙ counted_there l
      ∙ ap₂ (λ (i j : ℕ). words_found m 4 i j) (sym w) (sym f)
      ∙ words_there n end h)
      l h (omega arith)
      (ap (λ (j : ℕ). 90 ∷ in_bytes 2 j) (length_words_at m (end + 4) n ∙ w) ∙ number_there m 90 at 2 b e l)
      (ap₂ (λ (x y : List ℕ). x ++ y) (number_stands m 4 end b (omega arith)) (words_stand m (end + 4) n b (omega arith))
      ∙ sym (part_add m end 4 (4 * n))))

-- the bytes after the node by an equation
pub same_tail : (m places lengths : List ℕ) (kind at parts h end j k : ℕ) → k ≡ j → Around m places lengths kind at parts h end j → Around m places lengths kind at parts h end k
same_tail m places lengths kind at parts h end j k e a = rw e a

-- ---- by the word

module _ (m places lengths : List ℕ) (w kind at h end k : ℕ) (e : kind ≡ kind_in w) (g : at ≡ offset_in w) (a : Around m places lengths kind at (parts_in w) h end k) where
  first_in : before_in m places lengths w ≡ take h (drop at m)
  first_in = rw (← e, ← g) a.first

  last_in : after_in m places lengths w ≡ take k (drop end m)
  last_in = rw (← e, ← g) a.last

  pub around_length : (r : ℕ) → r ≡ h + k → (r ≡ length (before_in m places lengths w) + length (after_in m places lengths w)) × (r ≤ 262192)
  around_length r f =
      let p = copied_length m at h first_in a.first_there in
      let q = copied_length m end k last_in a.last_there in
      let s = a.few in
      (omega arith, omega arith)

  pub first_room : (to room : ℕ) → to + length (before_in m places lengths w) ≤ room → to + h ≤ room
  first_room = copied_room m at h first_in a.first_there

  pub last_room : (to room : ℕ) → to + length (after_in m places lengths w) ≤ room → to + k ≤ room
  last_room = copied_room m end k last_in a.last_there

  pub first_put : {O P : List ℕ} {to : ℕ} → P ≡ sets O to (take h (drop at m)) → Put O to (before_in m places lengths w) (to + h) P
  first_put f = copied_put m at h first_in a.first_there f

  pub last_put : {O P : List ℕ} {to : ℕ} → P ≡ sets O to (take k (drop end m)) → Put O to (after_in m places lengths w) (to + k) P
  last_put f = copied_put m end k last_in a.last_there f
