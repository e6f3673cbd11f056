-- References judged: one law for each way out.
use mathlib.Core.Path.{◌≡◌, refl}
use mathlib.Core.Bool.{true, false}
use mathlib.Core.List.{List}
use Prim.Native.Nat.{ℕ, ◌+◌, ◌≤◌, ◌<◌}
use native.Mathlib.Omega.{arith}
use lib.ListN.{length, get_or, set, take, drop}
use borrow.Author.Tests.{le-leb, lt-leb}
use Rattle.std.specs.Prelude.{Ok, Err}
use Rattle.term_spec.specs.Text.{Coding, valid, check, encodes}
use Rattle.term_spec.specs.Answer.{refused, Position, at_offset}
use Rattle.term_spec.specs.Head.{text_or}
use Rattle.text.specs.Shown.{shown}
use Rattle.text.proofs.Valid.{is_text, is_bad}
use Rattle.packet_spec.specs.Memory.{Held, nothing, no_text, text}
use Rattle.packet_spec.specs.Header.{Reference, held_or, new_reference, cached_reference}
use Rattle.packet_spec.specs.Answers.{refusal_of}
use Rattle.dist_header.specs.declared.Naming.{Naming}
use Rattle.dist_header.specs.declared.Naming.TheVariants.{Unnamed, Named, Filled}
use Rattle.dist_header.specs.Code.{held_case, NamingIs, Went, JudgedAs, GoesOn, JudgesNew, JudgesCached}
use Rattle.dist_header.proofs.PlaceNaming.{not_named, is_named, is_filled, not_filled, naming_new, naming_cached}

module _ (agreed : Coding) (s : List ℕ) (p from size i : ℕ) (naming : List Naming) (small : p < 2048) where
  pub new_again : (get_or naming p Unnamed ≡ Unnamed → ⊥) → JudgesNew agreed s p from size i naming naming (Err (refusal_of 22 i))
  unfolding JudgedAs GoesOn new_reference
  new_again z = record { judged = λ holding earlier m. rw (is_named naming earlier p m small z); ends = tt }

  module _ (z : get_or naming p Unnamed ≡ Unnamed) where
    pub new_bad : (k : ℕ) → Err k ≡ shown (check agreed (take size (drop from s))) → JudgesNew agreed s p from size i naming naming (Err (refusal_of 5 (from + k)))
    unfolding JudgedAs GoesOn new_reference text_or
    new_bad k e = record { judged = λ holding earlier m. rw (not_named naming earlier p m small z, is_bad _ k e); ends = tt }

    module _ (e : Ok tt ≡ shown (check agreed (take size (drop from s)))) (n : ℕ) (long : (cs : List ℕ) → check agreed (take size (drop from s)) ≡ valid cs → n ≡ length (encodes cs)) where
      pub new_long : 32 < n → JudgesNew agreed s p from size i naming naming (Err (refusal_of 23 i))
      unfolding JudgedAs GoesOn new_reference text_or
      new_long l =
          let c = is_text _ e in
          let k : n ≡ length (encodes c.0) = long c.0 c.1 in
          record { judged = λ holding earlier m. rw (not_named naming earlier p m small z, c.1, lt-leb (length (encodes c.0)) 32 (omega arith)); ends = tt }

      new_is : (cs : List ℕ) → check agreed (take size (drop from s)) ≡ valid cs → length (encodes cs) ≤ 32 → length naming ≡ 2048 → (holding : ℕ → Held) (earlier : List Reference)
          → NamingIs naming earlier → Went (new_reference agreed holding earlier i p from (take size (drop from s)) (at_offset s (from + size) 0)) (at_offset s (from + size) 0) (set naming p Filled) earlier
      unfolding new_reference text_or
      new_is cs e l full holding earlier m =
          record {
            reference = record { place = p; new = true; text = encodes cs };
            is = rw (not_named naming earlier p m small z, e, le-leb (length (encodes cs)) 32 l);
            naming_is = naming_new naming earlier p (encodes cs) full m small;
          }

      pub new_good : n ≤ 32 → length naming ≡ 2048 → JudgesNew agreed s p from size i naming (set naming p Filled) (Ok (from + size))
      unfolding JudgedAs GoesOn
      new_good l full =
          let c = is_text _ e in
          let k : n ≡ length (encodes c.0) = long c.0 c.1 in
          record { judged = new_is c.0 c.1 (omega arith) full; ends = (omega arith, omega arith) }

module _ (holding : ℕ → Held) (p end i : ℕ) (naming : List Naming) (small : p < 2048) where
  pub cached_again : get_or naming p Unnamed ≡ Filled → JudgesCached holding p end i naming naming (Err (refusal_of 22 i))
  unfolding JudgedAs GoesOn cached_reference
  cached_again z = record { judged = λ agreed s earlier m. rw (is_filled naming earlier p m small z); ends = tt }

  module _ (z : get_or naming p Unnamed ≡ Filled → ⊥) where
    pub cached_refused : (n : ℕ) → Err n ≡ held_case (holding p) → JudgesCached holding p end i naming naming (Err (refusal_of n i))
    unfolding JudgedAs GoesOn cached_reference held_or held_case
    cached_refused n e = record { judged = λ agreed s earlier m. go agreed (at_offset s end 0) earlier m (holding p) refl e; ends = tt }
      where
        go : (agreed : Coding) (t : Position) (earlier : List Reference) → NamingIs naming earlier → (h : Held) → holding p ≡ h → Err n ≡ held_case h
            → cached_reference agreed holding earlier i p t ≡ refused n i
        go agreed t earlier m nothing g f = let is : n ≡ 21 = cc in rw (is, not_filled naming earlier p m small z, g)
        go agreed t earlier m no_text g f = let is : n ≡ 14 = cc in rw (is, not_filled naming earlier p m small z, g)
        go agreed t earlier m (text bs) g f = absurd cc

    pub cached_good : Ok tt ≡ held_case (holding p) → length naming ≡ 2048 → JudgesCached holding p end i naming (set naming p Named) (Ok end)
    unfolding JudgedAs GoesOn cached_reference held_or held_case
    cached_good e full = record { judged = λ agreed s earlier m. go agreed (at_offset s end 0) earlier m (holding p) refl e; ends = (omega arith, omega arith) }
      where
        go : (agreed : Coding) (t : Position) (earlier : List Reference) → NamingIs naming earlier → (h : Held) → holding p ≡ h → Ok tt ≡ held_case h
            → Went (cached_reference agreed holding earlier i p t) t (set naming p Named) earlier
        go agreed t earlier m nothing g f = absurd cc
        go agreed t earlier m no_text g f = absurd cc
        go agreed t earlier m (text bs) g f =
            record {
              reference = record { place = p; new = false; text = bs };
              is = rw (not_filled naming earlier p m small z, g);
              naming_is = naming_cached naming earlier p bs full m small (not_filled naming earlier p m small z);
            }
