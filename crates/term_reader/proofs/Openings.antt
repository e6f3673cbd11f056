-- What the code's opening says of the definition's.
use mathlib.Core.Path.{◌≡◌, refl, sym, ap, ap₂, ◌∙◌, subst}
use mathlib.Core.List.{List, [], ◌∷◌}
use Prim.Native.Nat.{ℕ, ◌+◌, ◌≤◌, ◌<◌}
use native.Mathlib.Omega.{arith}
use lib.ListN.{length, drop}
use Rattle.term_spec.specs.Answer.{Answer, good, refused, Position, at_offset, after, done}
use Rattle.term_spec.specs.Head.{Given, Wanted, any, Head, parts, characters, elements, pairs, Later, later, term_head}
use Rattle.term_spec.specs.Reading.{opening}
use Rattle.term_spec.proofs.Backed.{CharsAt, OnChars, opening_backed}
use Rattle.term_spec.proofs.Backed as backing
use Rattle.term_spec.proofs.Holds.{Holds}
use Rattle.term_spec.proofs.Invariant.{later_kept}
use Rattle.term_head.specs.declared.Head as code
use Rattle.term_head.specs.declared.Head.TheVariants as heads
use Rattle.term_head.specs.declared.Opening.{Opening}
use Rattle.term_head.specs.declared.Wanted.TheVariants.{Any}
use Rattle.term_head.specs.Code.{wanted_of, head_at, opening_of, ElementsAt, Skipped}
use Rattle.term_head.proofs.HeadFacts.{Past, past_byte, past_row, past_is, Wants, no_part, one_node, a_function, Wanting}
use Rattle.term_head.proofs.Openings.{skipped_opens}
use Rattle.term_head.proofs.OpeningFacts.{opening_opens, refused_found}
use Rattle.term_head.proofs.OpeningFacts as facts
use Rattle.std.specs.Prelude.{Some, None, Ok, Err}
use Rattle.term_spec.specs.declared.Refusal.{Refusal}
use Rattle.term_reader.specs.Code.{asked, HeadFits, SoundHead, HeadRead, LastAt}

-- later fields end in the message too, with no row taken
pub later_past : (flags : ℕ) (m : List ℕ) (r p : ℕ) (l : Later) (from : ℕ) → from ≤ length m → Holds (later flags p l (at_offset m from r)) (λ x t. Past m from r t)
later_past flags m r p l from h =
    later_kept 0 (Past m from r) (past_byte m from r) (past_row m from r) flags p l (at_offset m from r)
    (record { in_step = record { bytes_are = refl; inside = h; room = omega arith }; later = omega arith; rows_are = refl })

wants_asked : (ws : List Wanted) → Wants ws → ws ≡ asked (length ws)
unfolding asked
wants_asked ws no_part = refl
wants_asked ws one_node = refl
wants_asked ws a_function = refl

-- characters that stand in a message end in it
characters_end : (m : List ℕ) (cap : ℕ) (given : Given) (off : ℕ) (cs : List ℕ) → CharsAt m cap given off cs → (length cs ≡ 0 → ⊥) → off + length cs ≤ length m
characters_end m cap given off [] h some = absurd (some refl)
characters_end m cap given off (c ∷ []) h some = omega (arith, h.0)
characters_end m cap given off (c ∷ d ∷ cs) h some = omega (arith, characters_end m cap given (off + 1) (d ∷ cs) h.2 (λ e. omega arith))

head_fits : (m : List ℕ) (cap : ℕ) (given : Given) (place : ℕ) (h : Head) → Wanting h → OnChars m cap given place h → HeadFits m place h
unfolding Wanting HeadFits
head_fits m cap given place (parts ws n l) w c = wants_asked ws w
head_fits m cap given place (characters cs) w c = λ some. characters_end m cap given (place + 3) cs c some
head_fits m cap given place (elements n) w c = tt
head_fits m cap given place (pairs n) w c = tt

module _ (given : Given) (m : List ℕ) (at row : ℕ) (w : Wanted) where
  pub record OpenedAt (place : ℕ) (head' : code.Head) : Type 0 where
    pub h : Head
    pub next : ℕ
    pub is : opening given (drop at m) w (at_offset m at row) ≡ good ((place, h), at_offset m next row)
    pub head_is : head' ≡ head_at h next
    pub further : at < next
    pub sound : SoundHead m place next h

  opened_by : (o : Answer ((ℕ × Head) × Position)) (R : Opening) → opening given (drop at m) w (at_offset m at row) ≡ o → Ok R ≡ opening_of o → at ≤ length m → OpenedAt R.place R.head
  unfolding opening_of
  opened_by (refused k q) R f e near = absurd (cc)
  opened_by (good y) R f e near =
      let k : facts.Opens m at row y.0.0 y.0.1 y.1 = (opening_opens given m (drop at m) at row w).known y.0 y.1 f in
      let b : backing.Opened m row given y.0 y.1
      = (opening_backed m row given (drop at m) w (at_offset m at row) (record { bytes_are = refl; inside = near; room = omega arith })).known y.0 y.1 f in
      let d : R ≡ record { place = y.0.0; head = head_at y.0.1 y.1.at } = cc in
      let p : R.place ≡ y.0.0 = ap (λ (x : Opening). x.place) d in
      let ends : y.0.0 < y.1.at = omega (arith, k.past.later) in
      record {
        h = y.0.1;
        next = y.1.at;
        is = f ∙ ap₂ (λ (a : ℕ) (s : Position). good ((a, y.0.1), s)) (sym p) (past_is m (y.0.0 + 1) row y.1 k.past);
        head_is = ap (λ (x : Opening). x.head) d;
        further = omega (arith, k.from);
        sound = subst (λ (a : ℕ). SoundHead m a y.1.at y.0.1) (sym p)
            (record { before = ends; end = k.past.in_step.inside; fits = head_fits m row given y.0.0 y.0.1 k.wanting b.3 });
      }

  pub opened : (R : Opening) → ((rows : ℕ) → Ok R ≡ opening_of (opening given (drop at m) w (at_offset m at rows))) → at ≤ length m → OpenedAt R.place R.head
  opened R e near = opened_by _ R refl (e row) near

  pub opened_refused : (x : Refusal) → ((rows : ℕ) → Err x ≡ opening_of (opening given (drop at m) w (at_offset m at rows)))
      → opening given (drop at m) w (at_offset m at row) ≡ refused x.number x.place
  opened_refused x e = refused_found _ (Err x) (e row) x refl

  pub opens : {place : ℕ} {head' : code.Head} → OpenedAt place head' → HeadRead m place head'
  opens o = record { h = o.h; next = o.next; is = o.head_is; sound = o.sound }

-- ---- a list's tail, past 108s of length 0

module _ (given : Given) (m : List ℕ) (at row : ℕ) (s : Skipped m at at) where
  head_opened : (h : Head) (next : ℕ) → term_head given any (at_offset m at row) ≡ good (h, at_offset m next row) → OpenedAt given m at row any at (head_at h next)
  unfolding opening_of
  head_opened h next e =
      opened_by given m at row any (good ((at, h), at_offset m next row)) (record { place = at; head = head_at h next })
      (skipped_opens given m at at row s ∙ ap (λ (o : Answer (Head × Position)). after o (λ x. done (at, x))) e)
      refl s.inside

  pub nil_opened : term_head given any (at_offset m at row) ≡ good (characters [], at_offset m (at + 1) row) → OpenedAt given m at row (wanted_of Any) at (heads.Characters 0 (at + 1))
  unfolding wanted_of head_at
  nil_opened e = head_opened (characters []) (at + 1) e

  pub elements_opened : (n : ℕ) → ElementsAt m at (Some n) → OpenedAt given m at row (wanted_of Any) at (heads.Elements n (at + 5))
  unfolding wanted_of head_at
  elements_opened n e = head_opened (elements n) (at + 5) (e.some n refl given row)

pub last_at : (m : List ℕ) (at : ℕ) → Skipped m at at → ElementsAt m at None → LastAt m at
last_at m at s i = record { no_elements = λ given rows place k t e. go given rows place k t (term_head given any (at_offset m at rows)) refl (sym (skipped_opens given m at at rows s) ∙ e) }
  where
    go : (given : Given) (rows place k : ℕ) (t : Position) (o : Answer (Head × Position)) → term_head given any (at_offset m at rows) ≡ o
        → ◌≡◌ {A = Answer ((ℕ × Head) × Position)} (after o (λ h. done (at, h))) (good ((place, elements k), t)) → ⊥
    go given rows place k t (refused c p) f e = let z : ◌≡◌ {A = ℕ} 0 1 = cc in omega arith
    go given rows place k t (good x) f e =
        let q : ◌≡◌ {A = (ℕ × Head) × Position} ((at, x.0), x.1) ((place, elements k), t) = cc in
        let h : x.0 ≡ elements k = ap (λ (y : (ℕ × Head) × Position). y.0.1) q in
        i.none refl given rows k x.1 (f ∙ ap (λ (w : Head). good (w, x.1)) h)
