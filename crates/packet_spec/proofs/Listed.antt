-- The list written has the references' texts, and they are asked for without 14.
use mathlib.Core.Path.{◌≡◌, refl, ◌∙◌, ap, ap₂}
use mathlib.Core.List.{List, [], ◌∷◌, ◌++◌, append_assoc}
use Prim.Native.Nat.{ℕ, suc, ◌+◌, ◌*◌, ◌-◌, ◌≤◌}
use native.Mathlib.Omega.{arith}
use lib.ListN.{length, get_or, take, drop, replicate}
use lib.Seq.{take-append_seam, drop-append-add}
use borrow.Author.Tests.{le-leb}
use Rattle.term_spec.specs.Text.{valid, utf_8, check}
use Rattle.term_spec.specs.AtomList.{AtomList, place_length, place_bytes, place_text}
use Rattle.packet_spec.specs.Header.{Reference}
use Rattle.packet_spec.specs.Calls.{zeros_to, texts_in_places, lengths_of, list_of}
use Rattle.packet_spec.proofs.Stores.{length_zeros_to}
use Rattle.packet_spec.proofs.Judged.{Text, AllSound}

-- reference i is this one
pub data At : List Reference → ℕ → Reference → Type 0 where
  first : {r : Reference} {rs : List Reference} → At (r ∷ rs) 0 r
  later : {r s : Reference} {rs : List Reference} {i : ℕ} → At rs i r → At (s ∷ rs) (suc i) r

-- place i of a list has these bytes, and they are a text: no 14 where it is asked for
pub record Listed (list : AtomList) (i : ℕ) (t : List ℕ) : Type 0 where
  pub bytes_are : place_bytes list i ≡ t
  pub characters : List ℕ
  pub is_text : place_text list i ≡ valid characters

length_at : {rs : List Reference} {i : ℕ} {r : Reference} → At rs i r → (z : List ℕ) → get_or (lengths_of rs ++ z) i 0 ≡ length r.text
unfolding lengths_of
length_at first z = refl
length_at (later a) z = length_at a z

bytes_at : {rs : List Reference} {i : ℕ} {r : Reference} → At rs i r → (earlier : List Reference) → AllSound earlier rs → (z : List ℕ)
    → take (length r.text) (drop (32 * i) (texts_in_places rs ++ z)) ≡ r.text
unfolding texts_in_places zeros_to
bytes_at (first {r} {rs}) earlier ok z =
    ap (λ (l : List ℕ). take (length r.text) l)
    (append_assoc (r.text ++ replicate (32 - length r.text) 0) (texts_in_places rs) z
    ∙ append_assoc r.text (replicate (32 - length r.text) 0) (texts_in_places rs ++ z))
    ∙ take-append_seam r.text _
bytes_at (later {r} {s} {rs} {i} a) earlier ok z =
    let one : length (zeros_to 32 s.text) ≡ 32 = length_zeros_to 32 s.text ok.0.a_text.short in
    let k : 32 * suc i ≡ length (zeros_to 32 s.text) + 32 * i = omega arith in
    ap₂ (λ (k : ℕ) (l : List ℕ). take (length r.text) (drop k l)) k (append_assoc (zeros_to 32 s.text) (texts_in_places rs) z)
    ∙ ap (take (length r.text)) (drop-append-add (zeros_to 32 s.text) (texts_in_places rs ++ z) (32 * i))
    ∙ bytes_at a (s ∷ earlier) ok.1 z

text_at : {rs : List Reference} {i : ℕ} {r : Reference} → At rs i r → (earlier : List Reference) → AllSound earlier rs → Text r.text
text_at first earlier ok = ok.0.a_text
text_at (later {s = s} a) earlier ok = text_at a (s ∷ earlier) ok.1

-- place i of the list has reference i's text
pub listed_bytes : {rs : List Reference} {i : ℕ} {r : Reference} → At rs i r → AllSound [] rs → place_bytes (list_of rs) i ≡ r.text
unfolding place_length place_bytes list_of zeros_to
listed_bytes {rs} {i} {r} a ok =
    ap (λ (n : ℕ). take n (drop (32 * i) (texts_in_places rs ++ replicate (8160 - length (texts_in_places rs)) 0))) (length_at a _)
    ∙ bytes_at a [] ok _

-- a place whose length is 32 at most
place_short : (list : AtomList) (i : ℕ) → place_length list i ≤ 32 → place_text list i ≡ check utf_8 (place_bytes list i)
unfolding place_text
place_short list i h = rw (le-leb (place_length list i) 32 h, place_text)

pub listed_length : {rs : List Reference} {i : ℕ} {r : Reference} → At rs i r → place_length (list_of rs) i ≡ length r.text
unfolding place_length list_of zeros_to
listed_length a = length_at a _

pub sound_listed : {rs : List Reference} {i : ℕ} {r : Reference} → At rs i r → AllSound [] rs → Listed (list_of rs) i r.text
sound_listed {rs} {i} {r} a ok =
    let t : Text r.text = text_at a [] ok in
    let n : place_length (list_of rs) i ≡ length r.text = listed_length a in
    let l : length r.text ≤ 32 = t.short in
    record {
      bytes_are = listed_bytes a ok;
      characters = t.characters;
      is_text = place_short (list_of rs) i (omega arith) ∙ ap (check utf_8) (listed_bytes a ok) ∙ t.is_utf8;
    }
