-- What the later fields say, from the tests that the code makes.
use mathlib.Core.Path.{◌≡◌, refl, sym, ap, ◌∙◌}
use mathlib.Core.Bool.{Bool, true, false, not, ◌&&◌, ◌||◌}
use mathlib.Core.List.{List, [], ◌∷◌}
use Prim.Native.Nat.{ℕ, zero, suc, ◌+◌, ◌-◌, ◌*◌, ◌/◌, ◌^◌, ◌<◌, ◌≤◌}
use native.Mathlib.Nat.{one-le-pow, le-mul_of_pos_right}
use native.Mathlib.Omega.{arith}
use lib.Dec.{eqb, leb, ltb, lit<}
use lib.ListN.{length, get_or, take, drop}
use borrow.Author.Tests.{lt-ltb, le-ltb, le-leb, lt-leb, eq-eqb, ne_eqb}
use Rattle.term_spec.specs.Numbers.{big_endian}
use Rattle.term_spec.specs.Answer.{good, refused, at_offset}
use Rattle.term_spec.specs.Head.{limits, known, pid_fields, port_fields, reference_fields, old_reference_fields, later, id_words, words_rule, creation_rule}
use Rattle.term_spec.specs.Head as head_spec
use Rattle.term_spec.proofs.Bridge.{number_at, number_end}
use Rattle.term_spec.proofs.Tests.{by_less}
use Rattle.octets.proofs.Numbers.{big_halves, big_one}
use Rattle.octets.specs.Parts.{words_at}
use Rattle.term_head.specs.declared.Later.{Later}
use Rattle.term_head.specs.declared.Later.TheVariants.{Known, Pid, Port, Reference, OldReference}
use Rattle.term_spec.specs.declared.Refusal.{Refusal}
use Rattle.std.specs.Prelude.{Result, Ok}
use Rattle.term_head.specs.Code.{refusal, end_of, later_fields, later_of}

-- one byte more of a number
big_next : (m : List ℕ) (at i : ℕ) → at + i < length m → big_endian (take (i + 1) (drop at m)) ≡ big_endian (take i (drop at m)) * 256 + get_or m (at + i) 0
big_next m at i h = big_halves m at i 1 (omega arith) ∙ ap (λ (b : ℕ). big_endian (take i (drop at m)) * 256 + b) (big_one m (at + i) h)

-- more bytes give no smaller number
big_grows : (m : List ℕ) (at i j : ℕ) → at + i + j ≤ length m → big_endian (take i (drop at m)) ≤ big_endian (take (i + j) (drop at m))
big_grows m at i j h =
    let e = big_halves m at i j h in
    let p : big_endian (take i (drop at m)) ≤ big_endian (take i (drop at m)) * 256 ^ j = le-mul_of_pos_right _ (one-le-pow j 256 (lit< tt)) in
    omega arith

module _ (m : List ℕ) (at width limit : ℕ) (inside : at + width ≤ length m) (n i : ℕ) (e : n ≡ big_endian (take i (drop at m))) where
  -- one byte more
  pub below_more : (b : ℕ) → i < width → b ≡ get_or m (at + i) 0 → n * 256 + b ≡ big_endian (take (i + 1) (drop at m))
  below_more b h f = rw (e, f) (sym (big_next m at i (omega arith)))

  -- the first bytes reach the limit
  pub below_not : (b : ℕ) → i < width → b ≡ get_or m (at + i) 0 → limit ≤ n * 256 + b → false ≡ ltb (big_endian (take width (drop at m))) limit
  below_not b h f k =
      let next = below_more b h f in
      let sum : i + 1 + (width - (i + 1)) ≡ width = omega arith in
      let grows : big_endian (take (i + 1) (drop at m)) ≤ big_endian (take width (drop at m)) = rw sum at (big_grows m at (i + 1) (width - (i + 1)) (omega arith)) in
      sym (le-ltb (big_endian (take width (drop at m))) limit (omega arith))

  -- all bytes stay under it
  pub below_all : i ≤ width → width ≤ i → n < limit → true ≡ ltb (big_endian (take width (drop at m))) limit
  below_all h g k =
      let same : i ≡ width = omega arith in
      let all_there : n ≡ big_endian (take width (drop at m)) = rw same at e in
      sym (lt-ltb (big_endian (take width (drop at m))) limit (omega arith))

pub creation_any : (w c : ℕ) → (w ≡ 1 → ⊥) → true ≡ creation_rule w c
unfolding creation_rule
creation_any w c f = rw (ne_eqb w 1 f)

three : (c : ℕ) → ltb c 4 ≡ leb c 3
three c = by_less c 4 (λ less. lt-ltb c 4 less ∙ sym (le-leb c 3 (omega arith))) (λ over. le-ltb c 4 over ∙ sym (lt-leb c 3 (omega arith)))

pub creation_one : (r : Bool) (w : ℕ) (m : List ℕ) (at : ℕ) → w ≡ 1 → r ≡ ltb (big_endian (take 1 (drop at m))) 4 → r ≡ creation_rule w (big_endian (take w (drop at m)))
unfolding creation_rule
creation_one r w m at e f = rw (f, e) (three (big_endian (take 1 (drop at m))))

pub words_none : (m : List ℕ) (w k at : ℕ) → k ≡ 0 → true ≡ words_rule w (words_at m at k)
unfolding words_rule words_at
words_none m w k at e = rw e

words_suc : (m : List ℕ) (w k at : ℕ) → (k ≡ 0 → ⊥) → words_rule w (words_at m at k) ≡ (not (eqb w 1) || ltb (big_endian (take 4 (drop at m))) 262144)
unfolding words_rule words_at
words_suc m w zero at f = absurd (f refl)
words_suc m w (suc k) at f = refl

pub words_any : (m : List ℕ) (w k at : ℕ) → (k ≡ 0 → ⊥) → (w ≡ 1 → ⊥) → true ≡ words_rule w (words_at m at k)
words_any m w k at f g = rw (words_suc m w k at f, ne_eqb w 1 g)

pub words_first : (m : List ℕ) (w k at : ℕ) → (k ≡ 0 → ⊥) → w ≡ 1 → ltb (big_endian (take 4 (drop at m))) 262144 ≡ words_rule w (words_at m at k)
words_first m w k at f e = rw (words_suc m w k at f, eq-eqb w 1 e)

words_there : (m : List ℕ) (p k at rows : ℕ) → at + k * 4 ≤ length m → id_words p k (at_offset m at rows) ≡ good (words_at m at k, at_offset m (at + k * 4) rows)
unfolding id_words words_at
words_there m p zero at rows h = ap (λ (j : ℕ). good ([], at_offset m j rows)) (omega arith)
words_there m p (suc k) at rows h =
    rw (number_at m p 4 at rows (omega arith), words_there m p k (at + 4) rows (omega arith))
    (ap (λ (j : ℕ). good (big_endian (take 4 (drop at m)) ∷ words_at m (at + 4) k, at_offset m j rows)) (omega arith))

words_end : (m : List ℕ) (p k at rows : ℕ) → at ≤ length m → length m < at + k * 4 → id_words p k (at_offset m at rows) ≡ refused 2 p
unfolding id_words
words_end m p zero at rows h g = absurd (omega arith)
words_end m p (suc k) at rows h g =
    by_less (length m) (at + 4) (λ less. rw (number_end m p 4 at rows h (omega arith)))
    (λ over. rw (number_at m p 4 at rows (omega arith), words_end m p k (at + 4) rows (omega arith) (omega arith)))

and_not : (s t : Bool) → t ≡ false → (s && t) ≡ false
and_not true t e = e
and_not false t e = refl

module _ (flags : ℕ) (m : List ℕ) (at place rows : ℕ) (inside : at ≤ length m) where
  pub pid_short : (w : ℕ) → length m - at < 8 → refusal 2 place ≡ later_fields flags m at place (pid_fields w) rows
  unfolding later_fields later end_of
  pid_short w h =
      by_less (length m - at) 4 (λ less. rw (number_end m place 4 at rows inside (omega arith)))
      (λ over. rw (number_at m place 4 at rows (omega arith), number_end m place 4 (at + 4) rows (omega arith) (omega arith)))

  pub pid_cut : (w : ℕ) → 8 ≤ length m - at → length m - at - 8 < w → refusal 2 place ≡ later_fields flags m at place (pid_fields w) rows
  unfolding later_fields later end_of
  pid_cut w h g =
      rw (
        number_at m place 4 at rows (omega arith),
        number_at m place 4 (at + 4) rows (omega arith),
        number_end m place w (at + 4 + 4) rows (omega arith) (omega arith),
      )

  module _ (w : ℕ) (some : 8 ≤ length m - at) (all_there : w ≤ length m - at - 8) (ids serials : ℕ) (ids_are : ids ≡ (limits flags w).id)
      (serials_are : serials ≡ (limits flags w).serial) where
    abbrev pid_rule : Bool
    pid_rule =
        ltb (big_endian (take 4 (drop at m))) ids
        && ltb (big_endian (take 4 (drop (at + 4) m))) serials
        && creation_rule w (big_endian (take w (drop (at + 4 + 4) m)))

    pid_broken : pid_rule ≡ false → refusal 4 place ≡ later_fields flags m at place (pid_fields w) rows
    unfolding later_fields later end_of
    pid_broken f =
        rw (
          number_at m place 4 at rows (omega arith),
          number_at m place 4 (at + 4) rows (omega arith),
          number_at m place w (at + 4 + 4) rows (omega arith),
          ← ids_are,
          ← serials_are,
          f,
        )

    pub pid_id : ltb (big_endian (take 4 (drop at m))) ids ≡ false → refusal 4 place ≡ later_fields flags m at place (pid_fields w) rows
    pid_id f = pid_broken (rw f)

    pub pid_serial : ltb (big_endian (take 4 (drop (at + 4) m))) serials ≡ false → refusal 4 place ≡ later_fields flags m at place (pid_fields w) rows
    pid_serial f =
        let e = and_not (ltb (big_endian (take 4 (drop at m))) ids) _ f in
        pid_broken (rw e)

    pub pid_creation : creation_rule w (big_endian (take w (drop (at + 4 + 4) m))) ≡ false → refusal 4 place ≡ later_fields flags m at place (pid_fields w) rows
    pid_creation f =
        let e = and_not (ltb (big_endian (take 4 (drop at m))) ids && ltb (big_endian (take 4 (drop (at + 4) m))) serials) _ f in
        pid_broken e

    pub pid_there : ltb (big_endian (take 4 (drop at m))) ids ≡ true → ltb (big_endian (take 4 (drop (at + 4) m))) serials ≡ true
        → creation_rule w (big_endian (take w (drop (at + 4 + 4) m))) ≡ true → Ok (at + 4 + 4 + w) ≡ later_fields flags m at place (pid_fields w) rows
    unfolding later_fields later end_of
    pid_there e f g =
        rw (
          number_at m place 4 at rows (omega arith),
          number_at m place 4 (at + 4) rows (omega arith),
          number_at m place w (at + 4 + 4) rows (omega arith),
          ← ids_are,
          ← serials_are,
          e,
          f,
          g,
        )

  pub port_short : (v w : ℕ) → length m - at < v → refusal 2 place ≡ later_fields flags m at place (port_fields v w) rows
  unfolding later_fields later end_of
  port_short v w h = rw (number_end m place v at rows inside (omega arith))

  module _ (v w : ℕ) (some : v ≤ length m - at) where
    pub port_cut : length m - at - v < w → refusal 2 place ≡ later_fields flags m at place (port_fields v w) rows
    unfolding later_fields later end_of
    port_cut h = rw (number_at m place v at rows (omega arith), number_end m place w (at + v) rows (omega arith) (omega arith))

    module _ (all_there : w ≤ length m - at - v) where
      pub port_id : (eqb v 8 || ltb (big_endian (take v (drop at m))) 268435456) ≡ false → refusal 4 place ≡ later_fields flags m at place (port_fields v w) rows
      unfolding later_fields later end_of
      port_id f = rw (number_at m place v at rows (omega arith), number_at m place w (at + v) rows (omega arith), f)

      pub port_creation : creation_rule w (big_endian (take w (drop (at + v) m))) ≡ false → refusal 4 place ≡ later_fields flags m at place (port_fields v w) rows
      unfolding later_fields later end_of
      port_creation f =
          let e = and_not (eqb v 8 || ltb (big_endian (take v (drop at m))) 268435456) _ f in
          rw (number_at m place v at rows (omega arith), number_at m place w (at + v) rows (omega arith), e)

      pub port_there : (eqb v 8 || ltb (big_endian (take v (drop at m))) 268435456) ≡ true → creation_rule w (big_endian (take w (drop (at + v) m))) ≡ true
          → Ok (at + v + w) ≡ later_fields flags m at place (port_fields v w) rows
      unfolding later_fields later end_of
      port_there e f = rw (number_at m place v at rows (omega arith), number_at m place w (at + v) rows (omega arith), e, f)

  pub reference_short : (k w : ℕ) → length m - at < w → refusal 2 place ≡ later_fields flags m at place (reference_fields k w) rows
  unfolding later_fields later end_of
  reference_short k w h = rw (number_end m place w at rows inside (omega arith))

  module _ (k w : ℕ) (some : w ≤ length m - at) where
    pub reference_cut : (length m - at - w) / 4 < k → refusal 2 place ≡ later_fields flags m at place (reference_fields k w) rows
    unfolding later_fields later end_of
    reference_cut h = rw (number_at m place w at rows (omega arith), words_end m place k (at + w) rows (omega arith) (omega arith))

    module _ (all_there : k ≤ (length m - at - w) / 4) where
      pub reference_creation : creation_rule w (big_endian (take w (drop at m))) ≡ false → refusal 4 place ≡ later_fields flags m at place (reference_fields k w) rows
      unfolding later_fields later end_of
      reference_creation f = rw (number_at m place w at rows (omega arith), words_there m place k (at + w) rows (omega arith), f)

      pub reference_words : words_rule w (words_at m (at + w) k) ≡ false → refusal 4 place ≡ later_fields flags m at place (reference_fields k w) rows
      unfolding later_fields later end_of
      reference_words f =
          let e = and_not (creation_rule w (big_endian (take w (drop at m)))) _ f in
          rw (number_at m place w at rows (omega arith), words_there m place k (at + w) rows (omega arith), e)

      pub reference_there : creation_rule w (big_endian (take w (drop at m))) ≡ true → words_rule w (words_at m (at + w) k) ≡ true
          → Ok (at + w + k * 4) ≡ later_fields flags m at place (reference_fields k w) rows
      unfolding later_fields later end_of
      reference_there e f = rw (number_at m place w at rows (omega arith), words_there m place k (at + w) rows (omega arith), e, f)

  pub old_short : length m - at < 5 → refusal 2 place ≡ later_fields flags m at place old_reference_fields rows
  unfolding later_fields later end_of
  old_short h =
      by_less (length m - at) 4 (λ less. rw (words_end m place 1 at rows inside (omega arith)))
      (λ over. rw (words_there m place 1 at rows (omega arith), number_end m place 1 (at + 4) rows (omega arith) (omega arith)))

  module _ (all_there : 5 ≤ length m - at) where
    pub old_words : words_rule 1 (words_at m at 1) ≡ false → refusal 4 place ≡ later_fields flags m at place old_reference_fields rows
    unfolding later_fields later end_of
    old_words f = rw (words_there m place 1 at rows (omega arith), number_at m place 1 (at + 4) rows (omega arith), f)

    pub old_creation : creation_rule 1 (big_endian (take 1 (drop (at + 4) m))) ≡ false → refusal 4 place ≡ later_fields flags m at place old_reference_fields rows
    unfolding later_fields later end_of
    old_creation f =
        let e = and_not (words_rule 1 (words_at m at 1)) _ f in
        rw (words_there m place 1 at rows (omega arith), number_at m place 1 (at + 4) rows (omega arith), e)

    pub old_there : words_rule 1 (words_at m at 1) ≡ true → creation_rule 1 (big_endian (take 1 (drop (at + 4) m))) ≡ true
        → Ok (at + 4 + 1) ≡ later_fields flags m at place old_reference_fields rows
    unfolding later_fields later end_of
    old_there e f = rw (words_there m place 1 at rows (omega arith), number_at m place 1 (at + 4) rows (omega arith), e, f)

-- later fields, from what the code has of them
unfoldable pub by_later : ℕ → List ℕ → ℕ → ℕ → ℕ → Later → Result ℕ Refusal
by_later flags m at place rows Known = Ok at
by_later flags m at place rows (Pid w) = later_fields flags m at place (pid_fields w) rows
by_later flags m at place rows (Port v w) = later_fields flags m at place (port_fields v w) rows
by_later flags m at place rows (Reference k w) = later_fields flags m at place (reference_fields k w) rows
by_later flags m at place rows OldReference = later_fields flags m at place old_reference_fields rows

pub settled : (flags : ℕ) (m : List ℕ) (at place rows : ℕ) (l : head_spec.Later) → later_fields flags m at place l rows ≡ by_later flags m at place rows (later_of l)
unfolding by_later later_of later_fields later end_of
settled flags m at place rows (known x) = refl
settled flags m at place rows (pid_fields w) = refl
settled flags m at place rows (port_fields v w) = refl
settled flags m at place rows (reference_fields k w) = refl
settled flags m at place rows old_reference_fields = refl
