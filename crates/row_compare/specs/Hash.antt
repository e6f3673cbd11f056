-- A number of 32 bits for a content, over what it says, not over how it is encoded: contents that say the same have the same.
-- About the code alone, proved against the definitions of term_spec: nothing here has to be believed.
use Rattle.std.specs.Prelude.{Bool, cond, List, [], ◌∷◌, ℕ, ◌+◌, ◌*◌, ◌-◌, ◌/◌, ◌%◌, eqb, leb, ltb, length, get_or, take, drop}
use Rattle.term_spec.specs.Text.{encodes}
use Rattle.row_fields.specs.Meaning.{stretch, sign}
use Rattle.row_compare.specs.Same.{source, high}
use Rattle.row_fields.specs.declared.Content.{Content}
use Rattle.row_fields.specs.declared.Content.TheVariants.{Nothing, Whole, Big, Float, Text, Bytes, Bits, Pid, Port, Reference}

-- a text's bytes in UTF-8
unfoldable pub as_utf8 : Bool → List ℕ → List ℕ
as_utf8 latin1 bs = cond latin1 (encodes bs) bs

-- how many bytes n words have that are there; none of more than the message can hold
unfoldable pub words_length : List ℕ → ℕ → ℕ
words_length m n = cond (ltb (length m / 4) n) 0 (4 * n)

-- the bits that count of the last of n bytes; 0 where there is none
unfoldable pub last_bits : List ℕ → ℕ → ℕ → ℕ → ℕ
last_bits m bits at n = cond (eqb n 0) 0 (cond (leb (at + n) (length m)) (high (get_or m (at + (n - 1)) 0) bits) 0)

-- hashes made with a factor
module _ (factor : ℕ) where
  -- a hash after one number more, whose high half is added before the factor and whose low half after it; after all of a list. With an even factor a product loses 16 bits below, so that the hash is not linear
  unfoldable pub mix : ℕ → ℕ → ℕ
  mix h x =
      cond (eqb (factor % 2) 1)
      (((h + x / 4294967296) % 4294967296 * factor + x % 4294967296) % 4294967296)
      (((h + x / 4294967296) % 4294967296 * factor / 65536 + x % 4294967296) % 4294967296)

  unfoldable pub mix_all : ℕ → List ℕ → ℕ
  mix_all h [] = h
  mix_all h (x ∷ xs) = mix_all (mix h x) xs

  unfoldable pub hash_part : List ℕ → ℕ → ℕ → Bool → ℕ → ℕ
  hash_part s at n latin1 h = cond (leb (at + n) (length s)) (mix_all h (as_utf8 latin1 (stretch s at n))) h

  -- bytes: all where there are at most 1024; else their number, the first 512 and the last 512
  unfoldable pub mix_ends : ℕ → List ℕ → ℕ
  mix_ends h bs = cond (leb (length bs) 1024) (mix_all h bs) (mix_all (mix_all (mix h (length bs)) (take 512 bs)) (drop (length bs - 512) bs))

  unfoldable pub hash_ends : List ℕ → ℕ → ℕ → ℕ → ℕ
  hash_ends s at n h = cond (leb (at + n) (length s)) (mix_ends h (stretch s at n)) h

  -- two numbers, 0 where there is none, and then the bytes that count: of bits all but the last, and of the last so many bits
  unfoldable pub hash_contents : List ℕ → List ℕ → ℕ → Content → ℕ
  hash_contents m places h Nothing = mix (mix h 0) 0
  hash_contents m places h (Whole negative n) = mix (mix h n) (sign negative)
  hash_contents m places h (Big negative start n) = hash_ends m start n (mix (mix h (sign negative)) 0)
  hash_contents m places h (Float bits) = mix (mix h bits) 0
  hash_contents m places h (Text latin1 listed start n) = hash_part (source m places listed) start n latin1 (mix (mix h 0) 0)
  hash_contents m places h (Bytes start n) = hash_ends m start n (mix (mix h 0) 0)
  hash_contents m places h (Bits bits start n) = mix (hash_ends m start (n - 1) (mix (mix h bits) 0)) (last_bits m bits start n)
  hash_contents m places h (Pid id serial creation) = mix (mix (mix h id) serial) creation
  hash_contents m places h (Port id creation) = mix (mix h id) creation
  hash_contents m places h (Reference creation start n) = hash_ends m start (words_length m n) (mix (mix h creation) 0)
