-- Keys and values in turn: one law for each way through `read_pairs`.
use mathlib.Core.Path.{◌≡◌, refl, sym, ap, ◌∙◌, subst}
use mathlib.Core.Bool.{Bool, true, false, not}
use mathlib.Core.List.{List, [], ◌∷◌, append-nil}
use Prim.Native.Nat.{ℕ, zero, suc, ◌+◌, ◌-◌, ◌*◌, ◌≤◌, ◌<◌}
use native.Mathlib.Omega.{arith}
use lib.ListN.{length, get_or, drop}
use lib.Seq.{sets, length-sets}
use Rattle.term_spec.specs.Tree.{empty, ◌▹◌, ◌▹▹◌, count, size, sizes, EachNode, EachNodes}
use Rattle.term_spec.specs.Numbers.{Under}
use Rattle.term_spec.specs.Term.{Term}
use Rattle.term_spec.specs.Equal.{among}
use Rattle.term_spec.specs.Answer.{Answer, good, Position, Reading, after, done, rule, at_offset}
use Rattle.term_spec.specs.Head.{Given, Wanted, any, pairs}
use Rattle.term_spec.specs.AtomList.{AtomList, of_size, given_of, lent_list}
use Rattle.term_spec.specs.Reading.{Located, as_read, meaning, entries, term}
use Rattle.term_spec.specs.Message.{Terms, all_as_read}
use Rattle.term_spec.specs.Rows.{Row, tree_rows, rows, kind_of, whole_code, row_words, Placed, Here}
use Rattle.term_spec.specs.Valid.{Valid, Valids}
use Rattle.term_spec.proofs.Heads.{for_any}
use Rattle.term_spec.proofs.Accepted.{term_holds}
use Rattle.term_spec.proofs.Accepted.{Found as FoundTerm}
use Rattle.term_spec.proofs.Message.{list_true}
use Rattle.term_spec.proofs.Backed.{Backeds, term_backed}
use Rattle.term_spec.proofs.Backed as backing
use Rattle.term_spec.proofs.RoundTrip.{join_none}
use Rattle.term_spec.proofs.Rows.{size_positive, each_nodes_join, sizes_join, count_join, count_le_sizes, length_rows}
use Rattle.term_spec.proofs.Text.{under_all}
use Rattle.term_spec.proofs.Words.{small_rows, sets_here, length_words_of}
use Rattle.row_fields.proofs.Says.{Lent}
use Rattle.map_keys.specs.KeySet.{Keeps, ContainsOrInsert}
use Rattle.map_keys.proofs.Compare.{KeysOf, no_keys, one_more_key}
use Rattle.term_rows.proofs.InTable.{RowsInTable}
use Rattle.map_keys.proofs.KeySet.{keeps_trans, ContainsKey, ContainsKeys, no_key, key_kept, keys_kept, keys_more, key_inserted, key_judged}
use Rattle.std.specs.Prelude.{Err}
use Rattle.term_spec.specs.declared.Refusal.{Refusal}
use Rattle.term_head.specs.Code.{refusal}
use Rattle.term_reader.specs.Code.{Step, PartsStep, got, got_parts}
use Rattle.term_reader.specs.Code.{whole_of, Room, inner, Done, TermDone, PartsDone}
use Rattle.term_reader.proofs.Characters.{code_of_whole}
use Rattle.term_reader.proofs.Found.{Found, step_found, step_refused, joined_words}
use Rattle.term_reader.proofs.Runs.{after_same, after_after, after_done}

under_from : (n : ℕ) (l : List ℕ) → Under 256 l → Under 256 (drop n l)
under_from zero l u = u
under_from (suc n) [] u = tt
under_from (suc n) (x ∷ l) u = under_from n l u.1

-- terms that are read are valid
abbrev pub Sound : Given → ℕ → ℕ → List ℕ → Type 0
Sound given cap deep m =
    (at row : ℕ) → row ≤ cap → (t : Located) (s : Position) → term given cap deep any (at_offset m at row) ≡ good (t, s) → Valid given.flags (as_read t)

pub parts_sound : (flags n : ℕ) (places lengths m : List ℕ) (cap deep : ℕ) → ((i : ℕ) → get_or m i 0 < 256) → cap ≤ 8192 → Sound (given_of flags (lent_list n places lengths)) cap deep m
parts_sound flags n places lengths m cap deep under few at row low t s e =
    let list : AtomList = lent_list n places lengths in
    let f : FoundTerm cap (given_of flags list) for_any deep row t s
    = (term_holds cap (given_of flags list) (list_true flags list) few deep for_any row (at_offset m at row)
    (record { bytes_under = under_from at m (under_all m (λ i _. under i)); rows_are = refl }) low).known t s e in
    f.valid

-- where the set contains the keys of pairs, a key past them is judged by whether it is among theirs, and is contained if it is not
pub record Told (m : List ℕ) (cap : ℕ) (given : Given) (places lengths : List ℕ) (first : ℕ) : Type 0 where
  pub judges : (S : List ℕ) (us : Terms) (u : Located) (ks : List Term) (L L' : List ℕ) (b : Bool) → RowsInTable m cap given S (whole_of first) first (us ▹▹ (u ▹ empty))
      → Valids given.flags (all_as_read (us ▹▹ (u ▹ empty))) → KeysOf us ks → ContainsKeys m places lengths (whole_of first) first first us L
      → ContainsOrInsert m places lengths S first (first + sizes us) L b L' → b ≡ among (meaning u) ks
  pub enters : (S : List ℕ) (us : Terms) (u : Located) (L L' : List ℕ) (b : Bool) → RowsInTable m cap given S (whole_of first) first (us ▹▹ (u ▹ empty))
      → ContainsOrInsert m places lengths S first (first + sizes us) L b L' → b ≡ false → ContainsKey m places lengths (whole_of first) first (first + sizes us) u L'

pub keys_told : (flags n : ℕ) (places lengths m : List ℕ) (cap first : ℕ) → of_size (lent_list n places lengths) ≡ true → n < 256 → ((i : ℕ) → get_or m i 0 < 256)
    → Told m cap (given_of flags (lent_list n places lengths)) places lengths first
unfolding given_of
keys_told flags n places lengths m cap first sized few under =
    let list : AtomList = lent_list n places lengths in
    let lent : Lent list m = record { sized = sized; few = omega arith; under = under_all m (λ i _. under i) } in
    record {
      judges = λ S us u ks L L' b h v. key_judged flags list m lent cap us u h v (code_of_whole first);
      enters = λ S us u L L' b h. key_inserted flags list m lent cap us u h;
    }

-- a term that was read has a row
pub term_inside : (m : List ℕ) (cap row whole : ℕ) (T : List ℕ) (o : Answer (Located × Position)) (r : Step) (T' : List ℕ) (next end : ℕ) → r ≡ got next end
    → TermDone m cap row whole T o r T' → row < cap
term_inside m cap row whole T o r T' next end e d =
    let f = step_found size (λ t. row_words (tree_rows (whole_of whole) row t)) (EachNode (Placed 65536)) m cap row T o r T' next end e d in
    omega (arith, f.rows_are, f.room, size_positive f.x)

-- ts ▹▹ one more, and then the others
one_more : (ts us : Terms) (t : Located) → ts ▹▹ (t ▹ us) ≡ (ts ▹▹ (t ▹ empty)) ▹▹ us
one_more empty us t = refl
one_more (u ▹ ts) us t = ap (λ (x : Terms). u ▹ x) (one_more ts us t)

-- one more valid term
valid_more : (flags : ℕ) (ts : Terms) (t : Located) → Valids flags (all_as_read ts) → Valid flags (as_read t) → Valids flags (all_as_read (ts ▹▹ (t ▹ empty)))
valid_more flags empty t v w = (w, tt)
valid_more flags (u ▹ ts) t v w = (v.0, valid_more flags ts t v.1 w)

-- Of a map of `all` pairs, whose parts start at the row `first` and the offset `start`; T₀ is the table before them:
module _ (given : Given) (cap deep : ℕ) (m places lengths : List ℕ) (start first all : ℕ) (T₀ : List ℕ) where
  abbrev Part : Wanted → Reading Located
  Part = term given cap deep

  abbrev all_entries : Answer (Terms × Position)
  all_entries = entries Part [] all (at_offset m start first)

  -- so many parts are read, and their rows stand in the table up to `row`
  pub record Stored (ts : Terms) (row parts : ℕ) (T : List ℕ) : Type 0 where
    pub table_is : T ≡ sets T₀ first (row_words (rows (whole_of first) first ts))
    pub rows_are : row ≡ first + sizes ts
    pub many : parts ≡ count ts
    pub backed : Backeds m cap given ts
    pub placed : EachNodes (Placed 65536) ts
    pub valid : Valids given.flags (all_as_read ts)

  -- pairs are read; `more` pairs are to come, the first one's key at `at`
  pub record BeforeKey (at row parts : ℕ) (T L : List ℕ) : Type 0 where
    pub ts : Terms
    pub earlier : List Term
    pub more : ℕ
    pub stored : Stored ts row parts T
    pub left : parts + more * 2 ≡ all * 2
    pub keys : KeysOf ts earlier
    pub remembered : ContainsKeys m places lengths (whole_of first) first first ts L
    pub goes : all_entries ≡ after (entries Part earlier more (at_offset m at row)) (λ us. done (ts ▹▹ us))

  -- pairs and a key are read; its value is to come, at `at`, and then `more` pairs
  pub record BeforeValue (at row parts : ℕ) (T L : List ℕ) : Type 0 where
    pub ts : Terms
    pub earlier : List Term
    pub key : Located
    pub more : ℕ
    pub stored : Stored (ts ▹▹ (key ▹ empty)) row parts T
    pub left : parts + 1 + more * 2 ≡ all * 2
    pub keys : KeysOf ts earlier
    pub remembered : ContainsKeys m places lengths (whole_of first) first first ts L
    pub contained : ContainsKey m places lengths (whole_of first) first (first + sizes ts) key L
    pub goes : all_entries
        ≡ after (Part any (at_offset m at row)) (λ v. λ u. after (entries Part (meaning key ∷ earlier) more u) (λ us. done ((ts ▹▹ (key ▹ empty)) ▹▹ (v ▹ us))))

  pub none_read : (L : List ℕ) → BeforeKey start first 0 T₀ L
  unfolding rows row_words EachNode
  none_read L =
      record {
        ts = empty;
        earlier = [];
        more = all;
        stored = record { table_is = refl; rows_are = omega arith; many = refl; backed = tt; placed = tt; valid = tt };
        left = omega arith;
        keys = no_keys;
        remembered = no_key;
        goes = after_done all_entries;
      }

  abbrev MapDone : ℕ → PartsStep → List ℕ → Type 0
  MapDone place r U = PartsDone m 0 cap first first T₀ (inner given cap deep place (pairs all) (at_offset m start first)) r U

  abbrev then_value : List Term → ℕ → Located → Reading Terms
  then_value earlier more k = λ s. after (Part any s) (λ v. λ u. after (entries Part (meaning k ∷ earlier) more u) (λ us. done (k ▹ v ▹ us)))

  module _ (at row parts : ℕ) (T L : List ℕ) where
    pub read_few : BeforeKey at row parts T L → row ≤ cap → parts ≤ cap
    read_few i low = omega (arith, i.stored.many, i.stored.rows_are, count_le_sizes i.ts)

    pub all_read : (place : ℕ) → BeforeKey at row parts T L → parts ≡ all * 2 → row ≤ cap → at ≤ length m → MapDone place (got_parts at row (all * 2) 9) T
    unfolding inner entries Done kind_of
    all_read place i over low near =
        let ts : Terms = i.ts in
        let a : row ≡ first + sizes ts = i.stored.rows_are in
        let b : all * 2 ≡ 0 + count ts = omega (arith, i.stored.many) in
        let e : i.more ≡ 0 = omega (arith, i.left) in
        let g : entries Part i.earlier i.more (at_offset m at row) ≡ good (empty, at_offset m at row)
        = ap (λ (k : ℕ). entries Part i.earlier k (at_offset m at row)) e in
        rw (i.goes, g, join_none ts) (
          cc,
          record { table_is = i.stored.table_is; stands = ap (λ (k : ℕ). at_offset m at k) a; near = near; room = omega arith; from = i.stored.placed },
        )

    next_pair : (i : BeforeKey at row parts T L) → parts < all * 2
        → entries Part i.earlier i.more (at_offset m at row)
        ≡ after (Part any (at_offset m at row)) (λ k. λ s. after (rule (not (among (meaning k) i.earlier)) 7 at s) (λ _. then_value i.earlier (i.more - 1) k))
    unfolding entries
    next_pair i some =
        let e : i.more ≡ suc (i.more - 1) = omega (arith, i.left) in
        ap (λ (n : ℕ). entries Part i.earlier n (at_offset m at row)) e

    -- a key is read that is new
    key_goes : (i : BeforeKey at row parts T L) (k : Located) (next end : ℕ) → parts < all * 2 → Part any (at_offset m at row) ≡ good (k, at_offset m next end) → among (meaning k) i.earlier ≡ false
        → all_entries
        ≡ after (Part any (at_offset m next end)) (λ v. λ u. after (entries Part (meaning k ∷ i.earlier) (i.more - 1) u) (λ us. done ((i.ts ▹▹ (k ▹ empty)) ▹▹ (v ▹ us))))
    key_goes i k next end some e new =
        i.goes
        ∙ rw (next_pair i some, e, new)
        (after_after (Part any (at_offset m next end)) _ _
        ∙ after_same (Part any (at_offset m next end)) _ _ (λ v u.
        after_after (entries Part (meaning k ∷ i.earlier) (i.more - 1) u) _ _
        ∙ after_same (entries Part (meaning k ∷ i.earlier) (i.more - 1) u) _ _ (λ us w. ap (λ (x : Terms). good (x, w)) (one_more i.ts (v ▹ us) k))))

    -- a value is read
    value_goes : (i : BeforeValue at row parts T L) (v : Located) (next end : ℕ) → Part any (at_offset m at row) ≡ good (v, at_offset m next end)
        → all_entries ≡ after (entries Part (meaning i.key ∷ i.earlier) i.more (at_offset m next end)) (λ us. done ((i.ts ▹▹ (i.key ▹ v ▹ empty)) ▹▹ us))
    value_goes i v next end e =
        i.goes
        ∙ rw e
        (after_same (entries Part (meaning i.key ∷ i.earlier) i.more (at_offset m next end)) _ _ (λ us u. ap (λ (x : Terms). good (x, u))
        (one_more (i.ts ▹▹ (i.key ▹ empty)) us v ∙ ap (λ (x : Terms). x ▹▹ us) (sym (one_more i.ts (v ▹ empty) i.key)))))

    module _ (r : Step) (T' : List ℕ) (d : TermDone m cap row first T (Part any (at_offset m at row)) r T') where
      pub key_refused : (x : Refusal) (place : ℕ) (U : List ℕ) → BeforeKey at row parts T L → parts < all * 2 → r ≡ Err x → MapDone place (Err x) U
      unfolding inner Done
      key_refused x place U i some e = rw (i.goes, next_pair i some, step_refused _ _ _ m cap row T (Part any (at_offset m at row)) r T' x e d)

      pub value_refused : (x : Refusal) (place : ℕ) (U : List ℕ) → BeforeValue at row parts T L → r ≡ Err x → MapDone place (Err x) U
      unfolding inner Done
      value_refused x place U i e = rw (i.goes, step_refused _ _ _ m cap row T (Part any (at_offset m at row)) r T' x e d)

      module _ (list : AtomList) (room : Room m list T cap at row first) (next end : ℕ) (e : r ≡ got next end) (sound : Sound given cap deep m) where
        abbrev part : Found size (λ t. row_words (tree_rows (whole_of first) row t)) (EachNode (Placed 65536)) m cap row T (Part any (at_offset m at row)) next end T'
        part = step_found size _ _ m cap row T (Part any (at_offset m at row)) r T' next end e d

        stored_more : (ts : Terms) → Stored ts row parts T → Stored (ts ▹▹ (part.x ▹ empty)) end (parts + 1) T'
        unfolding rows EachNode
        stored_more ts s =
            let t : Located = part.x in
            let b = (term_backed m cap given deep any (at_offset m at row) (record { bytes_are = refl; inside = room.near; room = room.low })).known t (at_offset m next end) part.is in
            record {
              table_is = part.table_is
                  ∙ ap (λ (rs : List Row). sets T row (row_words rs)) (sym (append-nil (tree_rows (whole_of first) row t)))
                  ∙ joined_words m cap first first T₀ T ts row s.table_is s.rows_are (t ▹ empty);
              rows_are = omega (arith, s.rows_are, part.rows_are, sizes_join ts (t ▹ empty));
              many = omega (arith, s.many, count_join ts (t ▹ empty));
              backed = backing.joined m cap given ts (t ▹ empty) s.backed (b.1, tt);
              placed = each_nodes_join (Placed 65536) ts (t ▹ empty) s.placed (part.from, tt);
              valid = valid_more given.flags ts t s.valid (sound at row room.low t (at_offset m next end) part.is);
            }

        -- the value of a key
        pub value_entered : (L' : List ℕ) → Keeps L L' → BeforeValue at row parts T L → (n : ℕ) → n ≡ parts + 1 → BeforeKey next end n T' L'
        value_entered L' kept i n is =
            let ts : Terms = i.ts in
            let k : Located = i.key in
            let v : Located = part.x in
            let j : (ts ▹▹ (k ▹ empty)) ▹▹ (v ▹ empty) ≡ ts ▹▹ (k ▹ v ▹ empty) = sym (one_more ts (v ▹ empty) k) in
            rw is
            (record {
              ts = ts ▹▹ (k ▹ v ▹ empty);
              earlier = meaning k ∷ i.earlier;
              more = i.more;
              stored = subst (λ (us : Terms). Stored us end (parts + 1) T') j (stored_more (ts ▹▹ (k ▹ empty)) i.stored);
              left = i.left;
              keys = one_more_key k v i.keys;
              remembered = keys_more k v (keys_kept kept i.remembered) (key_kept kept i.contained);
              goes = value_goes i v next end part.is;
            })

        -- a key, which is judged, and which is among the earlier ones or not
        module _ (i : BeforeKey at row parts T L) (some : parts < all * 2) (tell : Told m cap given places lengths first)
            (b : Bool) (L₁ L₂ : List ℕ) (kept : Keeps L L₁) (judged : ContainsOrInsert m places lengths T' first row L₁ b L₂) where
          with_key : Stored (i.ts ▹▹ (part.x ▹ empty)) end (parts + 1) T'
          with_key = stored_more i.ts i.stored

          held : RowsInTable m cap given T' (whole_of first) first (i.ts ▹▹ (part.x ▹ empty))
          held =
              let us : Terms = i.ts ▹▹ (part.x ▹ empty) in
              let ws : List ℕ = row_words (rows (whole_of first) first us) in
              let n : length ws ≡ sizes us = length_words_of (rows (whole_of first) first us) ∙ length_rows (whole_of first) first us in
              let l : length T ≡ length T₀ = ap length i.stored.table_is ∙ length-sets T₀ first (row_words (rows (whole_of first) first i.ts)) in
              let a : end ≡ first + sizes us = with_key.rows_are in
              let w : whole_code (whole_of first) ≡ first = code_of_whole first in
              let big : end ≤ cap = part.room in
              record {
                stand = record { words = subst (λ (t : List ℕ). Here t first ws) (sym with_key.table_is) (sets_here T₀ first ws (omega (arith, room.wide))) };
                all_small = small_rows (whole_of first) first us (omega arith) (omega (arith, room.few)) with_key.placed;
                all_backed = with_key.backed;
              }

          judged_key : ContainsOrInsert m places lengths T' first (first + sizes i.ts) L₁ b L₂
          judged_key = subst (λ (k : ℕ). ContainsOrInsert m places lengths T' first k L₁ b L₂) i.stored.rows_are judged

          is_among : b ≡ among (meaning part.x) i.earlier
          is_among = tell.judges T' i.ts part.x i.earlier L₁ L₂ b held with_key.valid i.keys (keys_kept kept i.remembered) judged_key

          pub key_twice : (place : ℕ) (U : List ℕ) → b ≡ true → MapDone place (refusal 7 at) U
          unfolding inner Done
          key_twice place U f = rw (i.goes, next_pair i some, part.is, sym is_among ∙ f)

          pub key_entered : b ≡ false → BeforeValue next end (parts + 1) T' L₂
          key_entered new =
              let ts : Terms = i.ts in
              let k : Located = part.x in
              record {
                ts = ts;
                earlier = i.earlier;
                key = k;
                more = i.more - 1;
                stored = with_key;
                left = omega (arith, i.left);
                keys = i.keys;
                remembered = keys_kept (keeps_trans kept judged.keys_kept) i.remembered;
                contained = tell.enters T' ts k L₁ L₂ b held judged_key new;
                goes = key_goes i k next end some part.is (sym is_among ∙ new);
              }
