-- What is known of a reference that is good.
use mathlib.Core.Path.{◌≡◌, refl}
use mathlib.Core.Bool.{true, false, not}
use mathlib.Core.List.{List}
use Prim.Native.Nat.{ℕ, ◌≤◌}
use lib.ListN.{length}
use borrow.Author.Tests.{leb-true}
use Rattle.term_spec.specs.Text.{Coding, valid, check, encodes}
use Rattle.term_spec.specs.Answer.{good, Position}
use Rattle.term_spec.proofs.Holds.{Holds, bind, done_holds, rule_holds, text_holds}
use Rattle.packet_spec.specs.Memory.{Held, text}
use Rattle.packet_spec.specs.Header.{Reference, named, filled, new_reference, cached_reference}
use Rattle.packet_spec.proofs.Judged.{held_or_holds}

pub record GoodNew (agreed : Coding) (p : ℕ) (bs : List ℕ) (t₀ : Position) (r : Reference) (t : Position) : Type 0 where
  pub characters : List ℕ
  pub is_text : check agreed bs ≡ valid characters
  pub short : length (encodes characters) ≤ 32
  pub is : r ≡ record { place = p; new = true; text = encodes characters }
  pub ends : t ≡ t₀

pub record GoodCached (holding : ℕ → Held) (p : ℕ) (t₀ : Position) (r : Reference) (t : Position) : Type 0 where
  pub bytes : List ℕ
  pub held_there : holding p ≡ text bytes
  pub is : r ≡ record { place = p; new = false; text = bytes }
  pub ends : t ≡ t₀

pub good_new : (agreed : Coding) (holding : ℕ → Held) (earlier : List Reference) (i p first : ℕ) (bs : List ℕ) (t₀ : Position) (r : Reference) (t : Position)
    → new_reference agreed holding earlier i p first bs t₀ ≡ good (r, t) → GoodNew agreed p bs t₀ r t
unfolding new_reference
good_new agreed holding earlier i p first bs t₀ r t e = known.known r t e
  where
    known : Holds (new_reference agreed holding earlier i p first bs t₀) (GoodNew agreed p bs t₀)
    known =
        bind (rule_holds (not (named p earlier)) 22 i t₀ λ apart.
        bind (text_holds (check agreed bs) 5 _ t₀ λ cs e.
        bind (rule_holds _ 23 i t₀ λ l.
        done_holds _ t₀ (record { characters = cs; is_text = e; short = leb-true _ 32 l; is = refl; ends = refl }))))

pub good_cached : (agreed : Coding) (holding : ℕ → Held) (earlier : List Reference) (i p : ℕ) (t₀ : Position) (r : Reference) (t : Position)
    → cached_reference agreed holding earlier i p t₀ ≡ good (r, t) → GoodCached holding p t₀ r t
unfolding cached_reference
good_cached agreed holding earlier i p t₀ r t e = known.known r t e
  where
    known : Holds (cached_reference agreed holding earlier i p t₀) (GoodCached holding p t₀)
    known =
        bind (rule_holds (not (filled p earlier)) 22 i t₀ λ apart.
        bind (held_or_holds i (holding p) t₀ λ bs e.
        done_holds _ t₀ (record { bytes = bs; held_there = e; is = refl; ends = refl })))
