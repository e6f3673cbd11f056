-- What is found where the fields are there, one law for each layout and each tag.
use mathlib.Core.Path.{◌≡◌, refl, sym, ◌∙◌, ap}
use mathlib.Core.Bool.{Bool, true, false}
use mathlib.Core.List.{List}
use Prim.Native.Nat.{ℕ, ◌+◌, ◌*◌, ◌≤◌, ◌<◌}
use native.Mathlib.Omega.{arith}
use lib.Dec.{ltb}
use lib.ListN.{length, get_or}
use Rattle.std.proofs.Common.{Option, Some, None}
use Rattle.std.specs.Option.{unwrap_or}
use Rattle.octets.specs.Parts.{counted_end}
use Rattle.octets.proofs.Counted.{past_there}
use Rattle.row_fields.specs.declared.Content.{Content}
use Rattle.row_fields.specs.declared.Content.TheVariants.{Whole, Float, Text, Bytes, Pid, Port, Reference}
use Rattle.row_fields.specs.Found.{value, if_counted, stripped, byte_found, signed_whole, signed_found, stripped_found, big_found, integer_found, float_found, text_width, text_found, place_found, listed_found, atom_found, text_end, atom_end, bytes_found, bits_of, bits_found, binary_found, pid_found, port_found, words_found, word_found, counted_found, pids_found, ports_found, references_found}
use Rattle.row_fields.proofs.Tests.{enough, above}

-- a length in w bytes after the tag at `at`, and so many bytes with b before them
counted : {z y : Content} (m : List ℕ) (w at b n : ℕ) → value m w (at + 1) ≡ n → at + 1 + w + b + n ≤ length m → z ≡ y → z ≡ if_counted (counted_end m at w b) y
unfolding if_counted
counted {z} {y} m w at b n e h f = f ∙ ap (λ (o : Option ℕ). if_counted o y) (past_there m at w b n (sym e) h)

module _ (m : List ℕ) (at : ℕ) where
  pub byte_there : at + 1 ≤ length m → Whole false (value m 1 at) ≡ byte_found m at
  unfolding byte_found
  byte_there h = enough _ (length m) at 1 1 refl (omega arith) refl

  pub signed_there : at + 5 ≤ length m → signed_whole (value m 4 (at + 1)) ≡ signed_found m at
  unfolding signed_found
  signed_there h = enough _ (length m) at 5 5 refl (omega arith) refl

  pub big_there : (w n : ℕ) → value m w (at + 1) ≡ n → at + 2 + w + n ≤ length m
      → stripped_found m (ltb 0 (value m 1 (at + 1 + w))) (at + 2 + w) (stripped m (at + 2 + w) n) ≡ big_found m w at
  unfolding big_found
  big_there w n e h =
      counted m w at 1 n e (omega arith) (ap (λ (x : ℕ). stripped_found m (ltb 0 (value m 1 (at + 1 + w))) (at + 2 + w) (stripped m (at + 2 + w) x)) (sym e))

  pub float_there : at + 9 ≤ length m → Float (value m 8 (at + 1)) ≡ float_found m at
  unfolding float_found
  float_there h = enough _ (length m) at 9 9 refl (omega arith) refl

  pub text_there : (w n : ℕ) (latin1 : Bool) → value m w (at + 1) ≡ n → at + 1 + w + n ≤ length m → Text latin1 false (at + 1 + w) n ≡ text_found m w latin1 at
  unfolding text_found
  text_there w n latin1 e h = counted m w at 0 n e (omega arith) (ap (Text latin1 false (at + 1 + w)) (sym e))

  pub end_there : (w n : ℕ) → value m w (at + 1) ≡ n → at + 1 + w + n ≤ length m → at + 1 + w + n ≡ text_end m (Some w) at
  unfolding text_end
  end_there w n e h =
      let g : at + 1 + w + n ≡ at + 1 + w + 0 + n = omega arith in
      g ∙ ap (λ (o : Option ℕ). unwrap_or o (length m)) (past_there m at w 0 n (sym e) (omega arith))

  pub end_listed : at + 2 ≡ text_end m None at
  unfolding text_end
  end_listed = refl

  pub atom_ends : (w : Option ℕ) (n : ℕ) → at < length m → text_width (get_or m at 0) ≡ w → n ≡ text_end m w at → n ≡ atom_end m at
  unfolding atom_end
  atom_ends w n h e f = enough _ (length m) at 1 1 refl (omega arith) (f ∙ ap (λ (x : Option ℕ). text_end m x at) (sym e))

  pub bytes_there : (n : ℕ) → value m 4 (at + 1) ≡ n → at + 5 + n ≤ length m → Bytes (at + 5) n ≡ bytes_found m at
  unfolding bytes_found
  bytes_there n e h = counted m 4 at 0 n e (omega arith) (ap (Bytes (at + 5)) (sym e))

  pub bits_there : (n : ℕ) → value m 4 (at + 1) ≡ n → at + 6 + n ≤ length m → bits_of (value m 1 (at + 5)) (at + 6) n ≡ bits_found m at
  unfolding bits_found
  bits_there n e h = counted m 4 at 1 n e (omega arith) (ap (bits_of (value m 1 (at + 5)) (at + 6)) (sym e))

  pub listed_there : (places lengths : List ℕ) → at + 2 ≤ length m → place_found places lengths (value m 1 (at + 1)) ≡ listed_found m places lengths at
  unfolding listed_found
  listed_there places lengths h = enough _ (length m) at 2 2 refl (omega arith) refl

  pub counted_there : (w n : ℕ) → value m 2 (at + 1) ≡ n → at + 3 ≤ length m → words_found m w n (atom_end m (at + 3)) ≡ counted_found m w at
  unfolding counted_found
  counted_there w n e h = enough _ (length m) at 3 3 refl (omega arith) (ap (λ (x : ℕ). words_found m w x (atom_end m (at + 3))) (sym e))

pub place_there : (places lengths : List ℕ) (i : ℕ) → i < length lengths → 32 * i + get_or lengths i 0 ≤ length places → Text false true (32 * i) (get_or lengths i 0) ≡ place_found places lengths i
unfolding place_found
place_there places lengths i h k = above _ refl refl h (enough _ (length places) (32 * i) (get_or lengths i 0) _ refl (omega arith) refl)

module _ (m : List ℕ) (end : ℕ) where
  pub pid_there : (w : ℕ) → end + 8 + w ≤ length m → Pid (value m 4 end) (value m 4 (end + 4)) (value m w (end + 8)) ≡ pid_found m w end
  unfolding pid_found
  pid_there w h = enough _ (length m) end (8 + w) (8 + w) refl (omega arith) refl

  pub port_there : (v w : ℕ) → end + v + w ≤ length m → Port (value m v end) (value m w (end + v)) ≡ port_found m v w end
  unfolding port_found
  port_there v w h = enough _ (length m) end (v + w) (v + w) refl (omega arith) refl

  pub words_there : (w n : ℕ) → end + w + 4 * n ≤ length m → Reference (value m w end) (end + w) n ≡ words_found m w n end
  unfolding words_found
  words_there w n h = enough _ (length m) end (w + 4 * n) (w + 4 * n) refl (omega arith) refl

  pub word_there : end + 5 ≤ length m → Reference (value m 1 (end + 4)) end 1 ≡ word_found m end
  unfolding word_found
  word_there h = enough _ (length m) end 5 5 refl (omega arith) refl

-- by the tag
module _ (m : List ℕ) (at : ℕ) where
  pub tag_97 : byte_found m (at + 1) ≡ integer_found m at 97
  unfolding integer_found
  tag_97 = refl

  pub tag_98 : signed_found m at ≡ integer_found m at 98
  unfolding integer_found
  tag_98 = refl

  pub tag_110 : big_found m 1 at ≡ integer_found m at 110
  unfolding integer_found
  tag_110 = refl

  pub tag_111 : big_found m 4 at ≡ integer_found m at 111
  unfolding integer_found
  tag_111 = refl

  pub tag_82 : (places lengths : List ℕ) → listed_found m places lengths at ≡ atom_found m places lengths at 82
  unfolding atom_found text_width
  tag_82 places lengths = refl

  -- an atom's text, by the width of its length
  abbrev text_by : List ℕ → List ℕ → ℕ → Option ℕ → Content
  text_by places lengths tag (Some w) = text_found m w (ltb tag 118) at
  text_by places lengths tag None = listed_found m places lengths at

  pub by_width : (places lengths : List ℕ) (tag : ℕ) (width : Option ℕ) → width ≡ text_width tag → text_by places lengths tag width ≡ atom_found m places lengths at tag
  unfolding atom_found
  by_width places lengths tag width e = ap (text_by places lengths tag) e

  -- an atom's tag with the width of its length, and its coding
  pub tag_text : (places lengths : List ℕ) (tag w : ℕ) (latin1 : Bool) → text_width tag ≡ Some w → ltb tag 118 ≡ latin1 → text_found m w latin1 at ≡ atom_found m places lengths at tag
  tag_text places lengths tag w latin1 e f = ap (λ (x : Bool). text_found m w x at) (sym f) ∙ by_width places lengths tag (Some w) (sym e)

  pub tag_77 : bits_found m at ≡ binary_found m at 77
  unfolding binary_found
  tag_77 = refl

  pub tag_109 : bytes_found m at ≡ binary_found m at 109
  unfolding binary_found
  tag_109 = refl

  pub tag_88 : pid_found m 4 (atom_end m (at + 1)) ≡ pids_found m at 88
  unfolding pids_found
  tag_88 = refl

  pub tag_103 : pid_found m 1 (atom_end m (at + 1)) ≡ pids_found m at 103
  unfolding pids_found
  tag_103 = refl

  pub tag_89 : port_found m 4 4 (atom_end m (at + 1)) ≡ ports_found m at 89
  unfolding ports_found
  tag_89 = refl

  pub tag_102 : port_found m 4 1 (atom_end m (at + 1)) ≡ ports_found m at 102
  unfolding ports_found
  tag_102 = refl

  pub tag_120 : port_found m 8 4 (atom_end m (at + 1)) ≡ ports_found m at 120
  unfolding ports_found
  tag_120 = refl

  pub tag_90 : counted_found m 4 at ≡ references_found m at 90
  unfolding references_found
  tag_90 = refl

  pub tag_114 : counted_found m 1 at ≡ references_found m at 114
  unfolding references_found
  tag_114 = refl

  pub tag_101 : word_found m (atom_end m (at + 1)) ≡ references_found m at 101
  unfolding references_found
  tag_101 = refl
