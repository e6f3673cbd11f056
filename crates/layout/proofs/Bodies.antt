-- The bytes of a body, case by case, and of a layout.
use mathlib.Core.Path.{◌≡◌, sym, ◌∙◌, ap, subst}
use mathlib.Core.List.{List, ◌++◌}
use Prim.Native.Nat.{ℕ, suc, ◌+◌, ◌-◌, ◌≤◌, ◌<◌}
use native.Mathlib.Omega.{arith}
use lib.ListN.{length, get_or, length-append}
use lib.Seq.{sets}
use Rattle.term_spec.specs.Numbers.{in_bytes}
use Rattle.term_spec.specs.Head.{clear_low}
use Rattle.term_spec.proofs.Numbers.{length_in_bytes}
use Rattle.term_spec.proofs.Heads.{length_clear}
use Rattle.octets.specs.Parts.{stretch, high}
use Rattle.octets.proofs.Parts.{length_part, part_last}
use Rattle.octets.proofs.Bits.{clear_last}
use Rattle.octets.proofs.Numbers.{bytes_one}
use Rattle.octets.proofs.Stores.{sets_at}
use Rattle.layout.specs.declared.Body.{Body}
use Rattle.layout.specs.declared.Body.TheVariants.{Bits}
use Rattle.layout.specs.declared.Layout.{Layout}
use Rattle.layout.specs.Layout.{body_bytes, layout_bytes, Inside, BodyInside, Put, Lays, laid_of}
use Rattle.layout.proofs.Puts.{put_then}

pub length_stretch : (s : List ℕ) (start n : ℕ) → Inside s start n → length (stretch s start n) ≡ n
length_stretch s start n h = length_part s start n h.there

pub length_bits : (bits : ℕ) (s : List ℕ) (start n : ℕ) → Inside s start n → length (clear_low bits (stretch s start n)) ≡ n
length_bits bits s start n h = length_clear bits (stretch s start n) ∙ length_stretch s start n h

module _ (m places : List ℕ) (body : Body) where
  pub body_bits : (bits start n : ℕ) → body ≡ Bits bits start n → body_bytes m places body ≡ clear_low bits (stretch m start n)
  unfolding body_bytes
  body_bits bits start n e = ap (body_bytes m places) e

  pub bits_inside : (bits start n : ℕ) → body ≡ Bits bits start n → BodyInside m places body → Inside m start n × (1 ≤ n)
  unfolding BodyInside
  bits_inside bits start n e h = rw e at h

  pub bits_needs : (bits start n at k : ℕ) → body ≡ Bits bits start n → BodyInside m places body × (at + length (body_bytes m places body) ≤ k)
      → Inside m start n × (1 ≤ n) × (at + n ≤ k)
  bits_needs bits start n at k e h =
      let i : Inside m start n × (1 ≤ n) = bits_inside bits start n e h.0 in
      let l : length (body_bytes m places body) ≡ n = ap length (body_bits bits start n e) ∙ length_bits bits m start n i.0 in
      (i.0, i.1, omega arith)

pub bits_split : (bits : ℕ) (s : List ℕ) (start n : ℕ) → Inside s start n → 1 ≤ n → high (get_or s (start + (n - 1)) 0) bits < 256
    → stretch s start (n - 1) ++ in_bytes 1 (high (get_or s (start + (n - 1)) 0) bits) ≡ clear_low bits (stretch s start n)
bits_split bits s start n h one small =
    let b : ℕ = get_or s (start + (n - 1)) 0 in
    let t : start + n ≤ length s = h.there in
    let g : suc (n - 1) ≡ n = omega arith in
    ap (λ (l : List ℕ). stretch s start (n - 1) ++ l) (bytes_one (high b bits) small)
    ∙ sym (ap (λ (k : ℕ). clear_low bits (stretch s start k)) (sym g)
    ∙ ap (clear_low bits) (part_last 0 s start (n - 1) (omega arith))
    ∙ clear_last bits (stretch s start (n - 1)) b)

pub put_last : (bits : ℕ) (s : List ℕ) (start n b : ℕ) {O P Q : List ℕ} (at : ℕ) → Inside s start n → 1 ≤ n
    → P ≡ sets O at (stretch s start (n - 1))
    → b ≡ high (get_or s (start + (n - 1)) 0) bits
    → b < 256
    → Q ≡ sets P (at + (n - 1)) (in_bytes 1 b)
    → Put O at (clear_low bits (stretch s start n)) (at + n) Q
put_last bits s start n b {O} {P} {Q} at h one p w small q =
    let t : start + n ≤ length s = h.there in
    let k : length (stretch s start (n - 1)) ≡ n - 1 = length_part s start (n - 1) (omega arith) in
    record {
      past = ap (λ (j : ℕ). at + j) (sym (length_bits bits s start n h));
      stored = q
          ∙ ap (λ (l : List ℕ). sets l (at + (n - 1)) (in_bytes 1 b)) p
          ∙ sets_at O at (stretch s start (n - 1)) (in_bytes 1 b) (at + (n - 1)) (ap (λ (j : ℕ). at + j) k)
          ∙ ap (λ (x : ℕ). sets O at (stretch s start (n - 1) ++ in_bytes 1 x)) w
          ∙ ap (λ (l : List ℕ). sets O at l) (bits_split bits s start n h one (subst (λ (x : ℕ). x < 256) w small));
    }

module _ (m places : List ℕ) (l : Layout) where
  pub length_layout : length (layout_bytes m places l) ≡ l.first.width + l.second.width + l.third.width + length (body_bytes m places l.body)
  unfolding layout_bytes
  length_layout =
      let a = length_in_bytes l.first.width l.first.value in
      let b = length_in_bytes l.second.width l.second.value in
      let c = length_in_bytes l.third.width l.third.value in
      simp length-append (omega arith)

  pub put_layout : {O P Q R S : List ℕ} {at i j k end : ℕ}
      → Put O at (in_bytes l.first.width l.first.value) i P
      → Put P i (in_bytes l.second.width l.second.value) j Q
      → Put Q j (in_bytes l.third.width l.third.value) k R
      → Put R k (body_bytes m places l.body) end S
      → Put O at (layout_bytes m places l) end S
  unfolding layout_bytes
  put_layout p q r s = put_then p (put_then q (put_then r s))

-- the bytes of a layout that is put together
pub lays : (v a w b x c : ℕ) (body : Body) {m places bs : List ℕ} {l : Layout}
    → l ≡ laid_of v a w b x c body → v ≤ 8 → w ≤ 8 → x ≤ 8 → BodyInside m places body
    → in_bytes v a ++ (in_bytes w b ++ (in_bytes x c ++ body_bytes m places body)) ≡ bs
    → Lays m places bs l
unfolding laid_of layout_bytes
lays v a w b x c body e f g h i s = rw e (record { says = s; can_be = record { narrow_first = f; narrow_second = g; narrow_third = h; inside = i } })
