-- Reading the parts of a term from their bytes.
use mathlib.Core.Path.{◌≡◌, refl, ap, ap₂}
use mathlib.Core.Bool.{Bool, true, false, cond}
use mathlib.Core.List.{List, [], ◌∷◌, ◌++◌, append_assoc}
use mathlib.Core.Option.{Option, some}
use Prim.Native.Nat.{ℕ, zero, suc, ◌+◌, ◌≤◌, ◌<◌}
use native.Mathlib.Omega.{arith}
use lib.Dec.{ltb}
use lib.IntN.{pos, negsuc}
use borrow.Author.Tests.{lt-ltb}
use Rattle.term_spec.specs.Tree.{Forest, node, empty, ◌▹◌, size, sizes, deepest, count, relabels}
use Rattle.term_spec.specs.Term.{Label, Term, integer, float, atom, tuple, list, improper_list, binary, bitstring, map, pid, port, reference, export}
use Rattle.term_spec.specs.Answer.{Answer, good, Position, Reading}
use Rattle.term_spec.specs.Head.{Given, Wanted, any, Head, leaf, parts, characters, elements, pairs, term_head, form, form_in, forms, form_or, fields, later}
use Rattle.term_spec.specs.Reading.{Offset, tag_at, character_at, Located, as_read, opening, row, body, one_term, contents, term, each, run, entries, string, list_tail}
use Rattle.term_spec.specs.Meaning.{ordered}
use Rattle.term_spec.specs.Canonical.{small, put, all_small, bytes_of, all_bytes}
use Rattle.term_spec.specs.Valid.{Fits, Valids, Keys}
use Rattle.term_spec.proofs.Steps.{spot}
use Rattle.term_spec.proofs.Opening.{Opens}

-- the same finding, up to the rows taken
pub ends_in : {A : Type 0} (a : A) (end : ℕ) (rest : List ℕ) (m n : ℕ) → m ≡ n → ◌≡◌ {A = Answer (A × Position)} (good (a, spot end rest m)) (good (a, spot end rest n))
ends_in a end rest m n e = ap (λ (x : ℕ). good (a, spot end rest x)) e

-- a small integer
pub small_is : (l : Label) (c : ℕ) → small l ≡ some c → l ≡ integer (pos c)
unfolding small
small_is (integer (pos n)) c e = go (ltb n 256) e
  where
    go : (t : Bool) → cond t (some n) Option.none ≡ some c → integer (pos n) ≡ integer (pos c)
    go true f = cc
    go false f = cc
small_is (integer (negsuc m)) c e = cc
small_is (float b) c e = cc
small_is (atom cs) c e = cc
small_is tuple c e = cc
small_is list c e = cc
small_is improper_list c e = cc
small_is (binary bs) c e = cc
small_is (bitstring n bs) c e = cc
small_is map c e = cc
small_is (pid i s d) c e = cc
small_is (port i d) c e = cc
small_is (reference d ws) c e = cc
small_is export c e = cc

small_leaf : (flags : ℕ) (l : Label) (us : Forest Label) (c : ℕ) → small l ≡ some c → Fits flags l us → us ≡ empty
small_leaf flags l us c e f = (rw (small_is l c e) at f).0

-- no list's head
abbrev pub Plain : Head → Type 0
Plain (parts ws n l) = Unit {0}
Plain (characters cs) = ⊥
Plain (elements n) = ⊥
Plain (pairs n) = Unit {0}

module _ (given : Given) (cap : ℕ) where
  -- a row is there
  pub row_at : (p at r : ℕ) (left : List ℕ) → r < cap → row given cap p (spot at left r) ≡ good (tt, spot at left (r + 1))
  unfolding row
  row_at p at r left h = rw (lt-ltb r cap h, row)

  -- with d levels left, reading finds t in front of the rest, and takes its rows
  pub record Reads (d : ℕ) (w : Wanted) (left rest : List ℕ) (at r : ℕ) (t : Term) : Type 0 where
    pub tree : Located
    pub end : ℕ
    pub reads : term given cap d w (spot at left r) ≡ good (tree, spot end rest (r + size t))
    pub means : as_read tree ≡ t

  -- a head and a row: then come the parts
  pub opened : (d : ℕ) {w : Wanted} {left : List ℕ} {at r : ℕ} {h : Head} {more : List ℕ} (o : Opens given w left at r h more) → r < cap
      → term given cap (suc d) w (spot at left r) ≡ contents given cap d (body given cap d) at h (spot o.end more (r + 1))
  unfolding one_term body
  opened d {w} {left} {at} {r} {h} {more} o k = rw (o.opens, row_at at o.end r more k)

  -- a term without parts
  pub leaf_reads : (d : ℕ) {w : Wanted} {left : List ℕ} {at r : ℕ} {l : Label} {rest : List ℕ} → Opens given w left at r (leaf l) rest → r < cap
      → Reads (suc d) w left rest at r (node l empty)
  unfolding contents each run later
  leaf_reads d {w} {left} {at} {r} {l} {rest} o k =
      record { tree = node (l, tag_at at) empty; end = o.end; reads = opened d o k; means = refl }

  -- a term that reading finds wherever there are rows for it
  abbrev pub Readable : ℕ → Term → Type 0
  Readable d t = (at r : ℕ) (rest : List ℕ) → r + size t ≤ cap → Reads d any (bytes_of t ++ rest) rest at r t

  abbrev pub AllReadable : ℕ → Forest Label → Type 0
  AllReadable d empty = Unit {0}
  AllReadable d (t ▹ ts) = Readable d t × AllReadable d ts

  -- a run of parts
  pub record Runs (d : ℕ) (left rest : List ℕ) (at r : ℕ) (ts : Forest Label) : Type 0 where
    pub trees : Forest (Label × Offset)
    pub end : ℕ
    pub reads : run (term given cap d) (count ts) (spot at left r) ≡ good (trees, spot end rest (r + sizes ts))
    pub means : relabels (λ l. l.0) trees ≡ ts

  pub run_reads : (d : ℕ) (ts : Forest Label) → AllReadable d ts → (at r : ℕ) (rest : List ℕ) → r + sizes ts ≤ cap
      → Runs d (all_bytes ts ++ rest) rest at r ts
  unfolding run all_bytes
  run_reads d empty ok at r rest h = record { trees = empty; end = at; reads = ends_in empty at rest _ _ (omega arith); means = refl }
  run_reads d (t ▹ ts) ok at r rest h =
      let first : Reads d any (bytes_of t ++ (all_bytes ts ++ rest)) (all_bytes ts ++ rest) at r t = ok.0 at r (all_bytes ts ++ rest) (omega arith) in
      let others : Runs d (all_bytes ts ++ rest) rest first.end (r + size t) ts = run_reads d ts ok.1 first.end (r + size t) rest (omega arith) in
      record {
        trees = first.tree ▹ others.trees;
        end = others.end;
        reads =
            rw (append_assoc (bytes_of t) (all_bytes ts) rest, first.reads, others.reads)
            (ends_in (first.tree ▹ others.trees) others.end rest _ _ (omega arith));
        means = ap₂ (λ (u : Term) (us : Forest Label). u ▹ us) first.means others.means;
      }

  -- the characters of a list of small integers
  pub record Strings (d p off at : ℕ) (cs rest : List ℕ) (r : ℕ) (ts : Forest Label) : Type 0 where
    pub trees : Forest (Label × Offset)
    pub reads : string given cap d p off cs (spot at rest r) ≡ good (trees, spot at rest (r + sizes ts))
    pub means : relabels (λ l. l.0) trees ≡ ts

  pub string_reads : (d : ℕ) (ts : Forest Label) (cs : List ℕ) → all_small ts ≡ some cs → Valids given.flags ts → deepest ts ≤ suc d
      → (p off at r : ℕ) (rest : List ℕ) → r + sizes ts ≤ cap → Strings (suc d) p off at cs rest r ts
  unfolding string all_small
  string_reads d empty cs e ok h p off at r rest k =
      let no_cs : cs ≡ [] = cc in
      rw no_cs (record { trees = empty; reads = ends_in empty at rest _ _ (omega arith); means = refl })
  string_reads d (node l us ▹ ts) cs e ok h p off at r rest k =
      go (small l) refl (all_small ts) refl e (λ cs' e'. string_reads d ts cs' e' ok.1 (omega arith) p (off + 1) at (r + 1) rest (omega arith))
    where
      go : (a : Option ℕ) → small l ≡ a → (b : Option (List ℕ)) → all_small ts ≡ b → put a b ≡ some cs
          → ((cs' : List ℕ) → all_small ts ≡ some cs' → Strings (suc d) p (off + 1) at cs' rest (r + 1) ts)
          → Strings (suc d) p off at cs rest r (node l us ▹ ts)
      go Option.none x b y z ih = let no_way : ◌≡◌ {A = ℕ} 0 1 = cc in absurd (omega arith)
      go (some c) x Option.none y z ih = let no_way : ◌≡◌ {A = ℕ} 0 1 = cc in absurd (omega arith)
      go (some c) x (some cs') y z ih =
          let one_more : cs ≡ c ∷ cs' = cc in
          let others : Strings (suc d) p (off + 1) at cs' rest (r + 1) ts = ih cs' y in
          rw (one_more, small_is l c x, small_leaf given.flags l us c x ok.0.0)
          (record {
            trees = node (integer (pos c), character_at off) empty ▹ others.trees;
            reads =
                rw (row_at p at r rest (omega arith), others.reads)
                (ends_in (node (integer (pos c), character_at off) empty ▹ others.trees) at rest _ _ (omega arith));
            means = ap (λ (us : Forest Label). node (integer (pos c)) empty ▹ us) others.means;
          })

  -- keys and values
  pub record Maps (d : ℕ) (earlier : List Term) (n : ℕ) (left rest : List ℕ) (at r : ℕ) (ts : Forest Label) : Type 0 where
    pub trees : Forest (Label × Offset)
    pub end : ℕ
    pub reads : entries (term given cap d) earlier n (spot at left r) ≡ good (trees, spot end rest (r + sizes ts))
    pub means : relabels (λ l. l.0) trees ≡ ts

  pub entries_reads : (n d : ℕ) (earlier : List Term) (ts : Forest Label) → count ts ≡ n + n → Keys earlier ts → AllReadable d ts
      → (at r : ℕ) (rest : List ℕ) → r + sizes ts ≤ cap → Maps d earlier n (all_bytes ts ++ rest) rest at r ts
  unfolding entries all_bytes
  entries_reads zero d earlier empty c ok all at r rest h =
      record { trees = empty; end = at; reads = ends_in empty at rest _ _ (omega arith); means = refl }
  entries_reads zero d earlier (k ▹ ts) c ok all at r rest h = absurd (omega arith)
  entries_reads (suc n) d earlier empty c ok all at r rest h = absurd (omega arith)
  entries_reads (suc n) d earlier (k ▹ empty) c ok all at r rest h = absurd (omega arith)
  entries_reads (suc n) d earlier (k ▹ v ▹ ts) c ok all at r rest h =
      let after_key : List ℕ = bytes_of v ++ (all_bytes ts ++ rest) in
      let key : Reads d any (bytes_of k ++ after_key) after_key at r k = all.0 at r after_key (omega arith) in
      let value : Reads d any after_key (all_bytes ts ++ rest) key.end (r + size k) v
      = all.1.0 key.end (r + size k) (all_bytes ts ++ rest) (omega arith) in
      let others : Maps d (ordered k ∷ earlier) n (all_bytes ts ++ rest) rest value.end (r + size k + size v) ts
      = entries_reads n d (ordered k ∷ earlier) ts (omega arith) ok.1 all.1.1 value.end (r + size k + size v) rest (omega arith) in
      record {
        trees = key.tree ▹ value.tree ▹ others.trees;
        end = others.end;
        reads =
            rw (
              append_assoc (bytes_of k) (bytes_of v ++ all_bytes ts) rest,
              append_assoc (bytes_of v) (all_bytes ts) rest,
              key.reads,
              key.means,
              ok.0,
              value.reads,
              others.reads,
            )
            (ends_in (key.tree ▹ value.tree ▹ others.trees) others.end rest _ _ (omega arith));
        means = ap₂ (λ (u : Term) (us : Forest Label). u ▹ us) key.means
            (ap₂ (λ (u : Term) (us : Forest Label). u ▹ us) value.means others.means);
      }

  -- the tail of a proper list
  pub tail_nil : (d at r : ℕ) (inner : ℕ → Head → Reading Located) (rest : List ℕ)
      → list_tail given cap d inner (106 ∷ rest) (spot at (106 ∷ rest) r) ≡ good ((empty, list), spot (at + 1) rest r)
  unfolding list_tail opening term_head form form_in forms form_or fields string
  tail_nil d at r inner rest = refl

  -- the tail of an improper list
  pub tail_plain : (d at r : ℕ) (inner : ℕ → Head → Reading Located) (b : ℕ) (bound left more : List ℕ) (h : Head) (u : Located) (s : Position)
      → Opens given any left at r h more → Plain h → one_term given inner any (spot at left r) ≡ good (u, s)
      → list_tail given cap d inner (b ∷ bound) (spot at left r) ≡ good ((u ▹ empty, improper_list), s)
  unfolding list_tail one_term
  tail_plain d at r inner b bound left more (parts ws n l) u s o ok e =
      let e' : inner at (parts ws n l) (spot o.end more r) ≡ good (u, s) = rw o.opens at e in rw (o.opens, e')
  tail_plain d at r inner b bound left more (characters cs) u s o ok e = absurd ok
  tail_plain d at r inner b bound left more (elements n) u s o ok e = absurd ok
  tail_plain d at r inner b bound left more (pairs n) u s o ok e =
      let e' : inner at (pairs n) (spot o.end more r) ≡ good (u, s) = rw o.opens at e in rw (o.opens, e')
