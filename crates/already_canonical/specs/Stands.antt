-- What it is that the bytes of a message are a term's own in canonical form.
-- About the code alone, proved against the definitions of term_spec: nothing here has to be believed.
use Rattle.std.specs.Prelude.{◌≡◌, List, [], ℕ, ◌+◌, ◌≤◌, length, get_or}
use Rattle.octets.specs.Parts.{stretch, value}
use Rattle.row_fields.specs.Found.{content_of}
use Rattle.row_fields.specs.Meaning.{label_of}
use Rattle.canonical_fields.specs.Shape.{before, after}
use Rattle.canonical_fields.specs.Sound.{listed_in}

-- the n bytes from `at` on are there, and the first is this tag
pub record Tagged (m : List ℕ) (at tag n r : ℕ) : Type 0 where
  pub all : r ≡ n
  pub inside : at + n ≤ length m
  pub tag_is : get_or m at 0 ≡ tag

-- a tag, then the number n in w bytes
pub record Counted (m : List ℕ) (at tag w n r : ℕ) : Type 0 where
  pub count_tagged : Tagged m at tag (1 + w) r
  pub count_is : value m w (at + 1) ≡ n

-- a tag, a length in w bytes, and so many bytes
pub record Bodied (m : List ℕ) (at tag w r : ℕ) : Type 0 where
  pub body_tag : get_or m at 0 ≡ tag
  pub all : r ≡ 1 + w + value m w (at + 1)
  pub inside : at + r ≤ length m

-- a term's own bytes in canonical form are the n of the message from its tag on, and none after its parts
pub record Stands (m places lengths : List ℕ) (kind at parts n : ℕ) : Type 0 where
  pub there : at + n ≤ length m
  pub few : n ≤ 262192
  pub whole : before (label_of m (listed_in places) kind (content_of m places lengths kind at)) parts ≡ stretch m at n
  pub no_end : after (label_of m (listed_in places) kind (content_of m places lengths kind at)) parts ≡ []

-- a term's own bytes in canonical form are, before its parts, the h of the message from its tag on and, after them, the k from `end` on
pub record Around (m places lengths : List ℕ) (kind at parts h end k : ℕ) : Type 0 where
  pub first_there : at + h ≤ length m
  pub last_there : end + k ≤ length m
  pub few : h + k ≤ 262192
  pub first : before (label_of m (listed_in places) kind (content_of m places lengths kind at)) parts ≡ stretch m at h
  pub last : after (label_of m (listed_in places) kind (content_of m places lengths kind at)) parts ≡ stretch m end k
