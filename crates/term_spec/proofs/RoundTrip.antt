-- Reading the bytes of a valid term finds that term, its maps' pairs as they stood.
use mathlib.Core.Path.{◌≡◌, refl, sym, ◌∙◌, ap, ap₂}
use mathlib.Core.List.{List, [], ◌∷◌, ◌++◌, append_assoc, append-nil}
use mathlib.Core.Option.{Option, some}
use Prim.Native.Nat.{ℕ, zero, suc, ◌+◌, ◌*◌, ◌/◌, ◌^◌, ◌≤◌, ◌<◌}
use native.Mathlib.Omega.{arith}
use lib.IntN.{pos}
use lib.ListN.{length}
use borrow.Author.Tests.{lt-ltb, le-ltb}
use Rattle.term_spec.specs.Tree.{Forest, node, empty, ◌▹◌, ◌▹▹◌, size, sizes, depth, deepest, count, relabel, relabels}
use Rattle.term_spec.specs.Numbers.{in_bytes}
use Rattle.term_spec.specs.Term.{Label, Term, integer, float, atom, tuple, list, improper_list, binary, bitstring, map, pid, port, reference, export}
use Rattle.term_spec.specs.Answer.{Answer, good, refused, Position, Reading}
use Rattle.term_spec.specs.Head.{Given, limits, any, an_atom, an_arity, Head, leaf, parts, characters, elements, pairs, known, pid_fields, port_fields, reference_fields, later, Later}
use Rattle.term_spec.specs.Reading.{tag_at, Located, opening, one_term, body, contents, each, run, string, list_tail}
use Rattle.term_spec.specs.Meaning.{ordered}
use Rattle.term_spec.specs.Canonical.{all_small, put, small, list_bytes, port_bytes, words_bytes, term_bytes, bytes_of, all_bytes}
use Rattle.term_spec.specs.Valid.{Fits, Valid, Valids, Keys, Values, Improper, IsList}
use Rattle.term_spec.proofs.Rows.{sizes_join, count_join}
use Rattle.term_spec.proofs.Steps.{spot}
use Rattle.term_spec.proofs.Fields.{pid_later, port_later, reference_later}
use Rattle.term_spec.proofs.Opening
use Rattle.term_spec.proofs.Opening.{Opens, any_118, any_119, atom_118, atom_119, arity_97}
use Rattle.term_spec.proofs.Parts.{Reads, Readable, AllReadable, Runs, Strings, Maps, Plain, opened, leaf_reads, run_reads, string_reads, entries_reads, tail_nil, tail_plain, ends_in}
use Rattle.term_spec.proofs.Tests.{by_less}

-- An improper list's last part, and what comes before.
pub record Split (ts : Forest Label) : Type 0 where
  pub front : Forest Label
  pub label : Label
  pub under : Forest Label
  pub joins : ts ≡ front ▹▹ (node label under ▹ empty)
  pub some_front : 0 < count front
  pub no_list : ¬ IsList label

split : (ts : Forest Label) → Improper ts → Split ts
split empty h = absurd h
split (t ▹ empty) h = absurd h
split (t ▹ node l us ▹ empty) h = record { front = t ▹ empty; label = l; under = us; joins = refl; some_front = omega arith; no_list = h }
split (t ▹ u ▹ v ▹ ts) h = go (split (u ▹ v ▹ ts) h)
  where
    go : Split (u ▹ v ▹ ts) → Split (t ▹ u ▹ v ▹ ts)
    go s =
        record {
          front = t ▹ s.front;
          label = s.label;
          under = s.under;
          joins = ap (λ (us : Forest Label). t ▹ us) s.joins;
          some_front = omega arith;
          no_list = s.no_list;
        }

-- runs put together
pub all_bytes_join : (ts us : Forest Label) → all_bytes (ts ▹▹ us) ≡ all_bytes ts ++ all_bytes us
unfolding all_bytes
all_bytes_join empty us = refl
all_bytes_join (t ▹ ts) us = ap (λ (bs : List ℕ). bytes_of t ++ bs) (all_bytes_join ts us) ∙ sym (append_assoc (bytes_of t) (all_bytes ts) (all_bytes us))

pub relabels_join : {A B : Type 0} (f : A → B) (ts us : Forest A) → relabels f (ts ▹▹ us) ≡ relabels f ts ▹▹ relabels f us
relabels_join f empty us = refl
relabels_join f (t ▹ ts) us = ap (λ vs. relabel f t ▹ vs) (relabels_join f ts us)

pub join_none : {A : Type 0} (ts : Forest A) → ts ▹▹ empty ≡ ts
join_none empty = refl
join_none (t ▹ ts) = ap (λ us. t ▹ us) (join_none ts)

-- an improper list's bytes
improper_bytes : (ts : Forest Label) (t : Term) (rest : List ℕ)
    → bytes_of (node improper_list (ts ▹▹ (t ▹ empty))) ++ rest ≡ 108 ∷ (in_bytes 4 (count ts) ++ (all_bytes ts ++ (bytes_of t ++ rest)))
unfolding bytes_of term_bytes
improper_bytes ts t rest =
    ap₂ (λ (n : ℕ) (bs : List ℕ). 108 ∷ ((in_bytes 4 n ++ bs) ++ rest)) (omega (arith, count_join ts (t ▹ empty)))
    (all_bytes_join ts (t ▹ empty) ∙ ap (λ (bs : List ℕ). all_bytes ts ++ bs) (append-nil (bytes_of t)))
    ∙ ap (λ (bs : List ℕ). 108 ∷ bs) (append_assoc (in_bytes 4 (count ts)) (all_bytes ts ++ bytes_of t) rest
    ∙ ap (λ (bs : List ℕ). in_bytes 4 (count ts) ++ bs) (append_assoc (all_bytes ts) (bytes_of t) rest))

-- keys and values come in pairs
mutual
  pub even : (earlier : List Term) (ts : Forest Label) → Keys earlier ts → (n : ℕ) × (count ts ≡ n + n)
  even earlier empty ok = (0, refl)
  even earlier (k ▹ ts) ok = let o = odd (ordered k ∷ earlier) ts ok.1 in (suc o.0, omega (arith, o.1))

  odd : (earlier : List Term) (ts : Forest Label) → Values earlier ts → (n : ℕ) × (count ts ≡ suc (n + n))
  odd earlier empty ok = absurd ok
  odd earlier (v ▹ ts) ok = let e = even earlier ts ok in (e.0, omega (arith, e.1))

-- The head of a term that is no list.
pub record Plainly (given : Given) (l : Label) (ts : Forest Label) (at r : ℕ) (rest : List ℕ) : Type 0 where
  pub says : Head
  pub more : List ℕ
  pub opens : Opens given any (bytes_of (node l ts) ++ rest) at r says more
  pub plain : Plain says

plainly : (given : Given) (l : Label) (ts : Forest Label) → Fits given.flags l ts → ¬ IsList l → (at r : ℕ) (rest : List ℕ) → Plainly given l ts at r rest
unfolding bytes_of term_bytes port_bytes
plainly given (integer z) ts f n at r rest = record { says = _; more = rest; opens = Opening.integer_opens given at r rest z f.1; plain = tt }
plainly given (float bits) ts f n at r rest = record { says = _; more = rest; opens = Opening.float_opens given at r rest bits f.1 f.2; plain = tt }
plainly given (atom cs) ts f n at r rest = record { says = _; more = rest; opens = Opening.atom_opens given at r rest any_119 any_118 cs f.1 f.2; plain = tt }
plainly given tuple ts f n at r rest = record { says = _; more = _; opens = Opening.tuple_opens given at r rest (count ts) (all_bytes ts) f; plain = tt }
plainly given list ts f n at r rest = absurd (n tt)
plainly given improper_list ts f n at r rest = absurd (n tt)
plainly given (binary bs) ts f n at r rest = record { says = _; more = rest; opens = Opening.binary_opens given at r rest bs f.1; plain = tt }
plainly given (bitstring bits bs) ts f n at r rest =
    record { says = _; more = rest; opens = Opening.bits_opens given at r rest bits bs f.1 f.2 f.3 f.4; plain = tt }
plainly given map ts f n at r rest =
    record { says = _; more = _; opens = Opening.map_opens given at r rest (count ts / 2) (all_bytes ts) (omega arith); plain = tt }
plainly given (pid id serial creation) ts f n at r rest = record { says = _; more = _; opens = Opening.pid_opens given at r rest _; plain = tt }
plainly given (port id creation) ts f n at r rest =
    by_less id (2 ^ 28)
    (λ less. record { says = parts (an_atom ∷ []) 0 (port_fields 4 4); more = (all_bytes ts ++ (in_bytes 4 id ++ in_bytes 4 creation)) ++ rest; opens = rw (lt-ltb id (2 ^ 28) less) (Opening.port_opens given at r rest _); plain = tt })
    (λ over. record { says = parts (an_atom ∷ []) 0 (port_fields 8 4); more = (all_bytes ts ++ (in_bytes 8 id ++ in_bytes 4 creation)) ++ rest; opens = rw (le-ltb id (2 ^ 28) over) (Opening.long_port_opens given at r rest _); plain = tt })
plainly given (reference creation ws) ts f n at r rest =
    record {
      says = parts (an_atom ∷ []) 0 (reference_fields (length ws) 4);
      more = (all_bytes ts ++ (in_bytes 4 creation ++ words_bytes ws)) ++ rest;
      opens = rw (append_assoc (in_bytes 2 (length ws)) (all_bytes ts ++ (in_bytes 4 creation ++ words_bytes ws)) rest) (Opening.reference_opens given at r _ (length ws) f.2 f.3);
      plain = tt;
    }
plainly given export ts f n at r rest = record { says = _; more = _; opens = Opening.export_opens given at r rest _; plain = tt }

module _ (given : Given) (cap d : ℕ) where
  -- a tuple
  tuple_reads : (ts : Forest Label) → Fits given.flags tuple ts → AllReadable given cap d ts → Readable given cap (suc d) (node tuple ts)
  unfolding bytes_of term_bytes contents each later
  tuple_reads ts f all at r rest h =
      let o : Opens given any (bytes_of (node tuple ts) ++ rest) at r (parts [] (count ts) (known tuple)) (all_bytes ts ++ rest)
      = Opening.tuple_opens given at r rest (count ts) (all_bytes ts) f in
      let inner : Runs given cap d (all_bytes ts ++ rest) rest o.end (r + 1) ts = run_reads given cap d ts all o.end (r + 1) rest (omega arith) in
      record {
        tree = node (tuple, tag_at at) inner.trees;
        end = inner.end;
        reads = opened given cap d o (omega arith) ∙ rw inner.reads (ends_in (node (tuple, tag_at at) inner.trees) inner.end rest _ _ (omega arith));
        means = ap (λ (us : Forest Label). node tuple us) inner.means;
      }

  -- a map
  map_reads : (ts : Forest Label) → Fits given.flags map ts → AllReadable given cap d ts → Readable given cap (suc d) (node map ts)
  unfolding bytes_of term_bytes contents
  map_reads ts f all at r rest h =
      let half : (n : ℕ) × (count ts ≡ n + n) = even [] ts f.1 in
      let n : ℕ = count ts / 2 in
      let o : Opens given any (bytes_of (node map ts) ++ rest) at r (pairs n) (all_bytes ts ++ rest)
      = Opening.map_opens given at r rest n (all_bytes ts) (omega arith) in
      let inner : Maps given cap d [] n (all_bytes ts ++ rest) rest o.end (r + 1) ts
      = entries_reads given cap n d [] ts (omega (arith, half.1)) f.1 all o.end (r + 1) rest (omega arith) in
      record {
        tree = node (map, tag_at at) inner.trees;
        end = inner.end;
        reads = opened given cap d o (omega arith) ∙ rw inner.reads (ends_in (node (map, tag_at at) inner.trees) inner.end rest _ _ (omega arith));
        means = ap (λ (us : Forest Label). node map us) inner.means;
      }

  -- a list of elements, with 106 for its tail
  elements_read : (ts : Forest Label) → count ts ≤ 8191 → 0 < count ts → AllReadable given cap d ts
      → (at r : ℕ) (rest : List ℕ) → r + size (node list ts) ≤ cap
      → Reads given cap (suc d) any (108 ∷ ((in_bytes 4 (count ts) ++ (all_bytes ts ++ (106 ∷ []))) ++ rest)) rest at r (node list ts)
  unfolding contents
  elements_read ts f k all at r rest h =
      let o : Opens given any (108 ∷ (in_bytes 4 (count ts) ++ (all_bytes ts ++ (106 ∷ rest)))) at r (elements (count ts)) (all_bytes ts ++ (106 ∷ rest))
      = Opening.list_opens given at r (all_bytes ts ++ (106 ∷ rest)) (count ts) (omega arith) k in
      let inner : Runs given cap d (all_bytes ts ++ (106 ∷ rest)) (106 ∷ rest) o.end (r + 1) ts
      = run_reads given cap d ts all o.end (r + 1) (106 ∷ rest) (omega arith) in
      rw (append_assoc (in_bytes 4 (count ts)) (all_bytes ts ++ (106 ∷ [])) rest, append_assoc (all_bytes ts) (106 ∷ []) rest)
      (record {
        tree = node (list, tag_at at) (inner.trees ▹▹ empty);
        end = inner.end + 1;
        reads =
            opened given cap d o (omega arith)
            ∙ rw (inner.reads, tail_nil given cap d inner.end (r + 1 + sizes ts) (body given cap d) rest)
            (ends_in (node (list, tag_at at) (inner.trees ▹▹ empty)) (inner.end + 1) rest _ _ (omega arith));
        means = ap (λ (us : Forest Label). node list us) (ap (relabels (λ l. l.0)) (join_none inner.trees) ∙ inner.means);
      })

pub depth_pos : (t : Term) → 1 ≤ depth t
depth_pos (node l ts) = omega arith

-- as many characters as parts
pub small_count : (ts : Forest Label) (cs : List ℕ) → all_small ts ≡ some cs → length cs ≡ count ts
unfolding all_small
small_count empty cs e = let no_cs : cs ≡ [] = cc in ap length no_cs
small_count (node l us ▹ ts) cs e = go (small l) (all_small ts) refl e (λ cs' f. small_count ts cs' f)
  where
    go : (a : Option ℕ) (b : Option (List ℕ)) → all_small ts ≡ b → put a b ≡ some cs
        → ((cs' : List ℕ) → all_small ts ≡ some cs' → length cs' ≡ count ts) → length cs ≡ suc (count ts)
    go Option.none b y z ih = cc
    go (some c) Option.none y z ih = cc
    go (some c) (some cs') y z ih = let one_more : cs ≡ c ∷ cs' = cc in ap length one_more ∙ ap suc (ih cs' y)

module _ (given : Given) (cap : ℕ) where
  -- a list of characters
  characters_read : (d : ℕ) (ts : Forest Label) (cs : List ℕ) → all_small ts ≡ some cs → Valids given.flags ts → deepest ts ≤ suc d → count ts ≤ 8191
      → (at r : ℕ) (rest : List ℕ) → r + size (node list ts) ≤ cap
      → Reads given cap (suc (suc d)) any (107 ∷ ((in_bytes 2 (count ts) ++ cs) ++ rest)) rest at r (node list ts)
  unfolding contents
  characters_read d ts cs e ok h few at r rest k =
      let same_length : length cs ≡ count ts = small_count ts cs e in
      let o : Opens given any (107 ∷ (in_bytes 2 (length cs) ++ (cs ++ rest))) at r (characters cs) rest
      = Opening.string_opens given at r rest cs (omega arith) in
      let inner : Strings given cap (suc d) at (at + 3) o.end cs rest (r + 1) ts
      = string_reads given cap d ts cs e ok h at (at + 3) o.end (r + 1) rest (omega arith) in
      rw (append_assoc (in_bytes 2 (count ts)) cs rest, ← same_length)
      (record {
        tree = node (list, tag_at at) inner.trees;
        end = o.end;
        reads = opened given cap (suc d) o (omega arith) ∙ rw inner.reads (ends_in (node (list, tag_at at) inner.trees) o.end rest _ _ (omega arith));
        means = ap (λ (us : Forest Label). node list us) inner.means;
      })

  list_reads : (d : ℕ) (ts : Forest Label) → Fits given.flags list ts → Valids given.flags ts → deepest ts ≤ d → AllReadable given cap d ts
      → Readable given cap (suc d) (node list ts)
  unfolding bytes_of term_bytes list_bytes contents string
  list_reads d empty f ok h all at r rest k =
      let o : Opens given any (106 ∷ rest) at r (characters []) rest = Opening.nil_opens given at r rest in
      record {
        tree = node (list, tag_at at) empty;
        end = o.end;
        reads = opened given cap d o (omega arith) ∙ ends_in (node (list, tag_at at) empty) o.end rest _ _ (omega arith);
        means = refl;
      }
  list_reads zero (t ▹ ts) f ok h all at r rest k = absurd (omega (arith, depth_pos t))
  list_reads (suc d) (t ▹ ts) f ok h all at r rest k = go (all_small (t ▹ ts)) refl
    where
      go : (o : Option (List ℕ)) → all_small (t ▹ ts) ≡ o
          → Reads given cap (suc (suc d)) any (list_bytes (suc (count ts)) o (all_bytes (t ▹ ts)) ++ rest) rest at r (node list (t ▹ ts))
      go Option.none e = elements_read given cap (suc d) (t ▹ ts) f (omega arith) all at r rest k
      go (some cs) e = characters_read d (t ▹ ts) cs e ok h f at r rest k

  -- an improper list
  AllJoin : (d : ℕ) (ts : Forest Label) (t : Term) → AllReadable given cap d (ts ▹▹ (t ▹ empty)) → AllReadable given cap d ts × Readable given cap d t
  AllJoin d empty t all = (tt, all.0)
  AllJoin d (u ▹ ts) t all = let both = AllJoin d ts t all.1 in ((all.0, both.0), both.1)

  ValidsLast : (ts : Forest Label) (t : Term) → Valids given.flags (ts ▹▹ (t ▹ empty)) → Valid given.flags t
  ValidsLast empty t ok = ok.0
  ValidsLast (u ▹ ts) t ok = ValidsLast ts t ok.1

  -- its tail, read once more as a part
  tail_at : (d at r : ℕ) (inner : ℕ → Head → Reading Located) (left more : List ℕ) (h : Head) (u : Located) (s : Position)
      → Opens given any left at r h more → Plain h → one_term given inner any (spot at left r) ≡ good (u, s)
      → list_tail given cap d inner left (spot at left r) ≡ good ((u ▹ empty, improper_list), s)
  unfolding opening
  tail_at d at r inner [] more h u s o ok e = let no_way : ◌≡◌ {A = Answer ((ℕ × Head) × Position)} (refused 2 at) (good ((at, h), spot o.end more r)) = o.opens in cc
  tail_at d at r inner (b ∷ bs) more h u s o ok e = tail_plain given cap d at r inner b bs (b ∷ bs) more h u s o ok e

  improper_from : (d : ℕ) (ts : Forest Label) (l : Label) (us : Forest Label) → count ts < 2 ^ 32 → 0 < count ts → ¬ IsList l → Fits given.flags l us
      → AllReadable given cap d ts → Readable given cap d (node l us)
      → Readable given cap (suc d) (node improper_list (ts ▹▹ (node l us ▹ empty)))
  unfolding contents
  improper_from d ts l us few some_ts no_list fits all one at r rest k =
      let last : Term = node l us in
      let more : List ℕ = all_bytes ts ++ (bytes_of last ++ rest) in
      let rows : sizes (ts ▹▹ (last ▹ empty)) ≡ sizes ts + (size last + 0) = sizes_join ts (last ▹ empty) in
      let o : Opens given any (108 ∷ (in_bytes 4 (count ts) ++ more)) at r (elements (count ts)) more
      = Opening.list_opens given at r more (count ts) few some_ts in
      let front : Runs given cap d more (bytes_of last ++ rest) o.end (r + 1) ts
      = run_reads given cap d ts all o.end (r + 1) (bytes_of last ++ rest) (omega arith) in
      let p : Plainly given l us front.end (r + 1 + sizes ts) rest = plainly given l us fits no_list front.end (r + 1 + sizes ts) rest in
      let t : Reads given cap d any (bytes_of last ++ rest) rest front.end (r + 1 + sizes ts) last
      = one front.end (r + 1 + sizes ts) rest (omega arith) in
      rw (improper_bytes ts last rest)
      (record {
        tree = node (improper_list, tag_at at) (front.trees ▹▹ (t.tree ▹ empty));
        end = t.end;
        reads =
            opened given cap d o (omega arith)
            ∙ rw (front.reads, tail_at d front.end (r + 1 + sizes ts) (body given cap d) (bytes_of last ++ rest) p.more p.says t.tree _ p.opens p.plain t.reads)
            (ends_in (node (improper_list, tag_at at) (front.trees ▹▹ (t.tree ▹ empty))) t.end rest _ _ (omega arith));
        means =
            ap (λ (vs : Forest Label). node improper_list vs)
            (relabels_join (λ l. l.0) front.trees (t.tree ▹ empty)
            ∙ ap₂ (λ (vs : Forest Label) (v : Term). vs ▹▹ (v ▹ empty)) front.means t.means);
      })

  improper_reads : (d : ℕ) (ts : Forest Label) → Fits given.flags improper_list ts → Valids given.flags ts → AllReadable given cap d ts
      → Readable given cap (suc d) (node improper_list ts)
  improper_reads d ts f ok all =
      let s : Split ts = split ts f.1 in
      let each_one : AllReadable given cap d s.front × Readable given cap d (node s.label s.under)
      = AllJoin d s.front (node s.label s.under) (rw s.joins at all) in
      let number : count ts ≡ count s.front + 1 = ap count s.joins ∙ count_join s.front (node s.label s.under ▹ empty) in
      rw s.joins
      (improper_from d s.front s.label s.under (omega (arith, f.0)) s.some_front s.no_list
      (ValidsLast s.front (node s.label s.under) (rw s.joins at ok)).0
      each_one.0 each_one.1)

  -- an atom where one is wanted, and where anything is
  node_reads : (d : ℕ) (cs : List ℕ) → Fits given.flags (atom cs) empty → (at r : ℕ) (rest : List ℕ) → r < cap
      → Reads given cap (suc d) an_atom (bytes_of (node (atom cs) empty) ++ rest) rest at r (node (atom cs) empty)
  unfolding bytes_of term_bytes
  node_reads d cs f at r rest k = leaf_reads given cap d (Opening.atom_opens given at r rest atom_119 atom_118 cs f.1 f.2) k

  arity_reads : (d n : ℕ) → n < 256 → (at r : ℕ) (rest : List ℕ) → r < cap
      → Reads given cap (suc d) an_arity (bytes_of (node (integer (pos n)) empty) ++ rest) rest at r (node (integer (pos n)) empty)
  unfolding bytes_of term_bytes
  arity_reads d n h at r rest k = leaf_reads given cap d (Opening.small_opens given at r rest arity_97 n h) k

  -- over the identifiers: a node, then the later fields
  named_reads : (d : ℕ) (l : Label) (cs : List ℕ) → Fits given.flags (atom cs) empty → (w : Later) (left fs rest : List ℕ) (at r : ℕ)
      → Opens given any left at r (parts (an_atom ∷ []) 0 w) (bytes_of (node (atom cs) empty) ++ (fs ++ rest))
      → ((b s : ℕ) → (e : ℕ) × (later given.flags at w (spot b (fs ++ rest) s) ≡ good (l, spot e rest s)))
      → r + 2 ≤ cap
      → Reads given cap (suc (suc d)) any left rest at r (node l (node (atom cs) empty ▹ empty))
  unfolding contents each run
  named_reads d l cs f w left fs rest at r o after k =
      let n : Reads given cap (suc d) an_atom (bytes_of (node (atom cs) empty) ++ (fs ++ rest)) (fs ++ rest) o.end (r + 1) (node (atom cs) empty)
      = node_reads d cs f o.end (r + 1) (fs ++ rest) (omega arith) in
      let z : (e : ℕ) × (later given.flags at w (spot n.end (fs ++ rest) (r + 1 + 1)) ≡ good (l, spot e rest (r + 1 + 1))) = after n.end (r + 1 + 1) in
      record {
        tree = node (l, tag_at at) (n.tree ▹ empty);
        end = z.0;
        reads = opened given cap (suc d) o (omega arith) ∙ rw (n.reads, z.1) (ends_in (node (l, tag_at at) (n.tree ▹ empty)) z.0 rest _ _ (omega arith));
        means = ap (λ (t : Term). node l (t ▹ empty)) n.means;
      }

  -- one part's bytes among others
  one_part : (t : Term) (fs rest : List ℕ) → (bytes_of t ++ [] ++ fs) ++ rest ≡ bytes_of t ++ (fs ++ rest)
  one_part t fs rest = simp (append-nil, append_assoc)

  pid_reads : (d id serial creation : ℕ) (cs : List ℕ) → Fits given.flags (atom cs) empty → id < (limits given.flags 4).id → serial < (limits given.flags 4).serial → creation < 2 ^ 32
      → Readable given cap (suc (suc d)) (node (pid id serial creation) (node (atom cs) empty ▹ empty))
  unfolding bytes_of term_bytes
  pid_reads d id serial creation cs f h₁ h₂ h₃ at r rest k =
      let fs : List ℕ = in_bytes 4 id ++ (in_bytes 4 serial ++ in_bytes 4 creation) in
      rw (one_part (node (atom cs) empty) fs rest)
      (named_reads d (pid id serial creation) cs f (pid_fields 4) _ fs rest at r (Opening.pid_opens given at r rest _)
      (λ b s. (
        b + 4 + 4 + 4,
        rw (append_assoc (in_bytes 4 id) (in_bytes 4 serial ++ in_bytes 4 creation) rest, append_assoc (in_bytes 4 serial) (in_bytes 4 creation) rest)
            (pid_later given.flags at b s rest id serial creation h₁ h₂ h₃),
      ))
      (omega arith))

  port_reads : (d id creation : ℕ) (cs : List ℕ) → Fits given.flags (atom cs) empty → id < 2 ^ 64 → creation < 2 ^ 32
      → Readable given cap (suc (suc d)) (node (port id creation) (node (atom cs) empty ▹ empty))
  unfolding bytes_of term_bytes port_bytes
  port_reads d id creation cs f h₁ h₂ at r rest k =
      by_less id (2 ^ 28)
      (λ less.
      let fs : List ℕ = in_bytes 4 id ++ in_bytes 4 creation in
      rw (lt-ltb id (2 ^ 28) less, one_part (node (atom cs) empty) fs rest)
      (named_reads d (port id creation) cs f (port_fields 4 4) _ fs rest at r (Opening.port_opens given at r rest _)
      (λ b s. (
        b + 4 + 4,
        rw (append_assoc (in_bytes 4 id) (in_bytes 4 creation) rest)
            (port_later given.flags at b s rest 4 id creation (omega arith) (lt-ltb id (2 ^ 28) less) h₂),
      ))
      (omega arith)))
      (λ over.
      let fs : List ℕ = in_bytes 8 id ++ in_bytes 4 creation in
      rw (le-ltb id (2 ^ 28) over, one_part (node (atom cs) empty) fs rest)
      (named_reads d (port id creation) cs f (port_fields 8 4) _ fs rest at r (Opening.long_port_opens given at r rest _)
      (λ b s. (
        b + 8 + 4,
        rw (append_assoc (in_bytes 8 id) (in_bytes 4 creation) rest)
            (port_later given.flags at b s rest 8 id creation h₁ refl h₂),
      ))
      (omega arith)))

  reference_reads : (d creation : ℕ) (ws cs : List ℕ) → Fits given.flags (atom cs) empty → Fits given.flags (reference creation ws) (node (atom cs) empty ▹ empty)
      → Readable given cap (suc (suc d)) (node (reference creation ws) (node (atom cs) empty ▹ empty))
  unfolding bytes_of term_bytes
  reference_reads d creation ws cs f g at r rest k =
      let fs : List ℕ = in_bytes 4 creation ++ words_bytes ws in
      rw (append_assoc (in_bytes 2 (length ws)) (bytes_of (node (atom cs) empty) ++ [] ++ fs) rest, one_part (node (atom cs) empty) fs rest)
      (named_reads d (reference creation ws) cs f (reference_fields (length ws) 4) _ fs rest at r
      (Opening.reference_opens given at r (bytes_of (node (atom cs) empty) ++ (fs ++ rest)) (length ws) g.2 g.3)
      (λ b s. (
        b + 4 + 4 * length ws,
        rw (append_assoc (in_bytes 4 creation) (words_bytes ws) rest)
            (reference_later given.flags at b s rest creation ws g.1 g.4),
      ))
      (omega arith))

  export_reads : (d : ℕ) (m f : List ℕ) (a : ℕ) → Fits given.flags (atom m) empty → Fits given.flags (atom f) empty → a < 256
      → Readable given cap (suc (suc d)) (node export (node (atom m) empty ▹ node (atom f) empty ▹ node (integer (pos a)) empty ▹ empty))
  unfolding bytes_of term_bytes contents each run later
  export_reads d m f a okm okf h at r rest k =
      let cm : List ℕ = bytes_of (node (atom m) empty) in
      let cf : List ℕ = bytes_of (node (atom f) empty) in
      let ca : List ℕ = bytes_of (node (integer (pos a)) empty) in
      let o : Opens given any (113 ∷ (cm ++ (cf ++ (ca ++ rest)))) at r (parts (an_atom ∷ an_atom ∷ an_arity ∷ []) 0 (known export)) (cm ++ (cf ++ (ca ++ rest)))
      = Opening.export_opens given at r rest _ in
      let x : Reads given cap (suc d) an_atom (cm ++ (cf ++ (ca ++ rest))) (cf ++ (ca ++ rest)) o.end (r + 1) (node (atom m) empty)
      = node_reads d m okm o.end (r + 1) (cf ++ (ca ++ rest)) (omega arith) in
      let y : Reads given cap (suc d) an_atom (cf ++ (ca ++ rest)) (ca ++ rest) x.end (r + 1 + 1) (node (atom f) empty)
      = node_reads d f okf x.end (r + 1 + 1) (ca ++ rest) (omega arith) in
      let z : Reads given cap (suc d) an_arity (ca ++ rest) rest y.end (r + 1 + 1 + 1) (node (integer (pos a)) empty)
      = arity_reads d a h y.end (r + 1 + 1 + 1) rest (omega arith) in
      rw (export_bytes cm cf ca rest)
      (record {
        tree = node (export, tag_at at) (x.tree ▹ y.tree ▹ z.tree ▹ empty);
        end = z.end;
        reads =
            opened given cap (suc d) o (omega arith)
            ∙ rw (x.reads, y.reads, z.reads)
            (ends_in (node (export, tag_at at) (x.tree ▹ y.tree ▹ z.tree ▹ empty)) z.end rest _ _ (omega arith));
        means =
            ap₂ (λ (t : Term) (ts : Forest Label). node export (t ▹ ts)) x.means
            (ap₂ (λ (t : Term) (u : Term). t ▹ u ▹ empty) y.means z.means);
      })
    where
      export_bytes : (x y z rest : List ℕ) → (x ++ (y ++ (z ++ []))) ++ rest ≡ x ++ (y ++ (z ++ rest))
      export_bytes x y z rest = simp (append-nil, append_assoc)

  -- a node that is an atom has a level of its own
  under_node : (cs : List ℕ) (ts : Forest Label) → ts ≡ node (atom cs) empty ▹ empty → (d : ℕ) → deepest ts ≤ d → 1 ≤ d
  under_node cs ts e d h = omega (arith, ap deepest e)

  node_fits : (cs : List ℕ) (ts : Forest Label) → ts ≡ node (atom cs) empty ▹ empty → Valids given.flags ts → Fits given.flags (atom cs) empty
  node_fits cs ts e ok = (rw e at ok).0.0

  -- a term without parts, as anything
  plain_leaf : (d : ℕ) (l : Label) (ts : Forest Label) → ts ≡ empty
      → ((at r : ℕ) (rest : List ℕ) → Opens given any (bytes_of (node l empty) ++ rest) at r (leaf l) rest)
      → Readable given cap (suc d) (node l ts)
  plain_leaf d l ts e o = rw e (λ at r rest k. leaf_reads given cap d (o at r rest) (omega arith))

  -- a term whose parts are readable
  label_reads : (l : Label) (ts : Forest Label) → Fits given.flags l ts → Valids given.flags ts → (d : ℕ) → deepest ts ≤ d → AllReadable given cap d ts
      → Readable given cap (suc d) (node l ts)
  unfolding bytes_of term_bytes
  label_reads (integer z) ts f ok d h all = plain_leaf d _ ts f.0 (λ at r rest. Opening.integer_opens given at r rest z f.1)
  label_reads (float bits) ts f ok d h all = plain_leaf d _ ts f.0 (λ at r rest. Opening.float_opens given at r rest bits f.1 f.2)
  label_reads (atom cs) ts f ok d h all = plain_leaf d _ ts f.0 (λ at r rest. Opening.atom_opens given at r rest any_119 any_118 cs f.1 f.2)
  label_reads tuple ts f ok d h all = tuple_reads given cap d ts f all
  label_reads list ts f ok d h all = list_reads d ts f ok h all
  label_reads improper_list ts f ok d h all = improper_reads d ts f ok all
  label_reads (binary bs) ts f ok d h all = plain_leaf d _ ts f.0 (λ at r rest. Opening.binary_opens given at r rest bs f.1)
  label_reads (bitstring bits bs) ts f ok d h all =
      plain_leaf d _ ts f.0 (λ at r rest. Opening.bits_opens given at r rest bits bs f.1 f.2 f.3 f.4)
  label_reads map ts f ok d h all = map_reads given cap d ts f all
  label_reads (pid id serial creation) ts f ok zero h all = absurd (omega (arith, under_node f.0.0 ts f.0.1 zero h))
  label_reads (pid id serial creation) ts f ok (suc d) h all =
      rw f.0.1 (pid_reads d id serial creation f.0.0 (node_fits f.0.0 ts f.0.1 ok) f.1 f.2 f.3)
  label_reads (port id creation) ts f ok zero h all = absurd (omega (arith, under_node f.0.0 ts f.0.1 zero h))
  label_reads (port id creation) ts f ok (suc d) h all =
      rw f.0.1 (port_reads d id creation f.0.0 (node_fits f.0.0 ts f.0.1 ok) f.1 f.2)
  label_reads (reference creation ws) ts f ok zero h all = absurd (omega (arith, under_node f.0.0 ts f.0.1 zero h))
  label_reads (reference creation ws) ts f ok (suc d) h all =
      rw f.0.1 (reference_reads d creation ws f.0.0 (node_fits f.0.0 ts f.0.1 ok) (rw f.0.1 at f))
  label_reads export ts f ok zero h all = absurd (omega (arith, ap deepest f.4))
  label_reads export ts f ok (suc d) h all =
      let parts_ok : Valids given.flags (node (atom f.0) empty ▹ node (atom f.1) empty ▹ node (integer (pos f.2)) empty ▹ empty) = rw f.4 at ok in
      rw f.4 (export_reads d f.0 f.1 f.2 parts_ok.0.0 parts_ok.1.0.0 f.3)

  -- reading the bytes of a valid term, with levels and rows enough, finds the term
  mutual
    pub read_tree : (t : Term) → Valid given.flags t → (d : ℕ) → depth t ≤ d → Readable given cap d t
    read_tree (node l ts) v zero h = absurd (omega arith)
    read_tree (node l ts) v (suc d) h = label_reads l ts v.0 v.1 d (omega arith) (read_forest ts v.1 d (omega arith))

    pub read_forest : (ts : Forest Label) → Valids given.flags ts → (d : ℕ) → deepest ts ≤ d → AllReadable given cap d ts
    read_forest empty v d h = tt
    read_forest (t ▹ ts) v d h = (read_tree t v.0 d (omega arith), read_forest ts v.1 d (omega arith))
