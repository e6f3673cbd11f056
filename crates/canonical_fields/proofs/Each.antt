-- What holds of every content that a kind may have, for a property of contents.
use mathlib.Core.Path.{◌≡◌, refl}
use mathlib.Core.Bool.{Bool, true, false, cond}
use mathlib.Core.List.{List}
use Prim.Native.Nat.{ℕ, ◌+◌, ◌*◌, ◌-◌}
use lib.Dec.{eqb, leb, ltb}
use lib.ListN.{length, get_or}
use borrow.Author.Tests.{eqb-true}
use Rattle.std.proofs.Common.{Option, Some, None}
use Rattle.octets.specs.Parts.{counted_end}
use Rattle.row_fields.specs.Found.{value, if_counted, text_width, atom_end, byte_found, signed_whole, signed_found, integer_of, stripped_found, big_found, integer_found, float_found, text_found, place_found, listed_found, atom_found, bytes_found, bits_of, bits_found, binary_found, pid_found, port_found, words_found, word_found, counted_found, pids_found, ports_found, references_found, kind_found, content_of}
use Rattle.row_fields.specs.declared.Content.{Content}
use Rattle.row_fields.specs.declared.Content.TheVariants.{Nothing, Whole, Big, Float, Text, Bytes, Bits, Pid, Port, Reference}

module _ (P : Content → Type 0) (nothing : P Nothing) where
  either : (z : Bool) {c d : Content} → P c → P d → P (cond z c d)
  either true p q = p
  either false p q = q

  of_kind : (k i : ℕ) {c d : Content} → (k ≡ i → P c) → P d → P (cond (eqb k i) c d)
  of_kind k i {c} {d} p q = go (eqb k i) (λ e. eqb-true k i e)
    where
      go : (z : Bool) → (z ≡ true → k ≡ i) → P (cond z c d)
      go true h = p (h refl)
      go false h = q

  where_counted : (o : Option ℕ) {c : Content} → P c → P (if_counted o c)
  unfolding if_counted
  where_counted None p = nothing
  where_counted (Some end) p = p

  module _ (whole : (negative : Bool) (n : ℕ) → P (Whole negative n)) (big : (negative : Bool) (start n : ℕ) → P (Big negative start n)) (m : List ℕ) where
    pub byte_each : (at : ℕ) → P (byte_found m at)
    unfolding byte_found
    byte_each at = either (ltb (length m - at) 1) nothing (whole _ _)

    signed_each : (at : ℕ) → P (signed_found m at)
    unfolding signed_found signed_whole
    signed_each at = either (ltb (length m - at) 5) nothing (either (ltb (value m 4 (at + 1)) 2147483648) (whole _ _) (whole _ _))

    whole_each : (negative : Bool) (n : ℕ) → P (integer_of negative n)
    unfolding integer_of
    whole_each negative n = either (eqb n 0) (whole _ _) (whole _ _)

    stripped_each : (negative : Bool) (start n : ℕ) → P (stripped_found m negative start n)
    unfolding stripped_found
    stripped_each negative start n = either (ltb 8 n) (big _ _ _) (whole_each _ _)

    big_each : (w at : ℕ) → P (big_found m w at)
    unfolding big_found
    big_each w at = where_counted (counted_end m at w 1) (stripped_each _ _ _)

    pub integer_each : (at tag : ℕ) → P (integer_found m at tag)
    unfolding integer_found
    integer_each at tag = either (eqb tag 97) (byte_each _) (either (eqb tag 98) (signed_each at) (either (eqb tag 110) (big_each 1 at) (either (eqb tag 111) (big_each 4 at) nothing)))

  pub float_each : ((bits : ℕ) → P (Float bits)) → (m : List ℕ) (at : ℕ) → P (float_found m at)
  unfolding float_found
  float_each float m at = either (ltb (length m - at) 9) nothing (float _)

  module _ (text : (latin1 listed : Bool) (start n : ℕ) → P (Text latin1 listed start n)) (m places lengths : List ℕ) where
    place_each : (i : ℕ) → P (place_found places lengths i)
    unfolding place_found
    place_each i = either (leb (length lengths) i) nothing (either (ltb (length places - 32 * i) (get_or lengths i 0)) nothing (text _ _ _ _))

    text_each : (w : ℕ) (latin1 : Bool) (at : ℕ) → P (text_found m w latin1 at)
    unfolding text_found
    text_each w latin1 at = where_counted (counted_end m at w 0) (text _ _ _ _)

    pub atom_each : (at tag : ℕ) → P (atom_found m places lengths at tag)
    unfolding atom_found listed_found
    atom_each at tag = by_width (text_width tag)
      where
        by_width : (width : Option ℕ) → P (elim width [ Some w ↦ text_found m w (ltb tag 118) at | None ↦ listed_found m places lengths at ])
        by_width (Some w) = text_each _ _ _
        by_width None = either (ltb (length m - at) 2) nothing (place_each _)

  module _ (bytes : (start n : ℕ) → P (Bytes start n)) (bits : (bits start n : ℕ) → P (Bits bits start n)) (m : List ℕ) where
    bits_each : (b start n : ℕ) → P (bits_of b start n)
    unfolding bits_of
    bits_each b start n = either (eqb b 0) (bytes _ _) (either (eqb b 8) (bytes _ _) (bits _ _ _))

    pub binary_each : (at tag : ℕ) → P (binary_found m at tag)
    unfolding binary_found bits_found bytes_found
    binary_each at tag =
        either (eqb tag 77) (where_counted (counted_end m at 4 1) (bits_each _ _ _)) (where_counted (counted_end m at 4 0) (bytes _ _))

  pub pids_each : ((id serial creation : ℕ) → P (Pid id serial creation)) → (m : List ℕ) (at tag : ℕ) → P (pids_found m at tag)
  unfolding pids_found pid_found
  pids_each pid m at tag = either (ltb (length m - atom_end m (at + 1)) (8 + cond (eqb tag 103) 1 4)) nothing (pid _ _ _)

  pub ports_each : ((id creation : ℕ) → P (Port id creation)) → (m : List ℕ) (at tag : ℕ) → P (ports_found m at tag)
  unfolding ports_found port_found
  ports_each port m at tag =
      let one : (v w : ℕ) → P (port_found m v w (atom_end m (at + 1))) = λ v w. either (ltb (length m - atom_end m (at + 1)) (v + w)) nothing (port _ _) in
      either (eqb tag 120) (one 8 4) (either (eqb tag 102) (one 4 1) (one 4 4))

  pub references_each : ((creation start n : ℕ) → P (Reference creation start n)) → (m : List ℕ) (at tag : ℕ) → P (references_found m at tag)
  unfolding references_found word_found counted_found words_found
  references_each reference m at tag =
      let end : ℕ = atom_end m (at + 3) in
      let n : ℕ = value m 2 (at + 1) in
      let counted : (w : ℕ) → P (counted_found m w at) = λ w. either (ltb (length m - at) 3) nothing (either (ltb (length m - end) (w + 4 * n)) nothing (reference _ _ _)) in
      either (eqb tag 101) (either (ltb (length m - atom_end m (at + 1)) 5) nothing (reference _ _ _)) (either (eqb tag 114) (counted 1) (counted 4))

  module _ (m places lengths : List ℕ) (at kind : ℕ) where
    -- by the kind
    pub content_each : (kind ≡ 1 → P (integer_found m at (get_or m at 0))) → (kind ≡ 2 → P (float_found m at)) → (kind ≡ 3 → P (atom_found m places lengths at (get_or m at 0)))
        → ((tag : ℕ) → P (binary_found m at tag)) → (kind ≡ 10 → P (pids_found m at (get_or m at 0))) → (kind ≡ 11 → P (ports_found m at (get_or m at 0)))
        → (kind ≡ 12 → P (references_found m at (get_or m at 0))) → (kind ≡ 14 → P (byte_found m at)) → P (content_of m places lengths kind at)
    unfolding content_of kind_found
    content_each integers floats atoms binaries pids ports references character =
        either (leb (length m) at) nothing
        (of_kind kind 1 integers
        (of_kind kind 2 floats
        (of_kind kind 3 atoms
        (of_kind kind 7 (λ e. binaries _)
        (of_kind kind 8 (λ e. binaries _)
        (of_kind kind 10 pids
        (of_kind kind 11 ports
        (of_kind kind 12 references
        (of_kind kind 14 character nothing)))))))))
