-- The offset that the check of a text answers is its bad byte's, and no other.
use mathlib.Core.Path.{◌≡◌, refl, sym, ◌∙◌, ap, subst}
use mathlib.Core.Bool.{Bool, true, false}
use mathlib.Core.List.{List, [], ◌∷◌, ◌++◌, append-nil, append_assoc}
use mathlib.Core.Option.{Option, none, some}
use Prim.Native.Nat.{ℕ, zero, suc, ◌+◌, ◌*◌, ◌-◌, ◌≤◌, ◌<◌}
use native.Mathlib.Numerals.{add-one}
use native.Mathlib.Omega.{arith}
use lib.Dec.{leb}
use lib.ListN.{length, take, drop, length-append, length-take, take-append-drop}
use lib.Seq.{append_snoc, take-length, take-append_seam, take-append-le, take-append-add, take-take, length-take-le, take_all}
use borrow.Author.Tests.{le-leb, leb-false}
use Rattle.term_spec.specs.Text.{Range, ◌to◌, holds, Line, line, lines, marker, Begun, begun, first, emit, Checked, valid, invalid_at, decode, Coding, latin_1, utf_8, check}
use Rattle.term_spec.specs.BadByte.{IsText, BeginsText, BadByte, no_way_on, cut_off, BadBytes}
use Rattle.term_spec.proofs.Tests.{by_less}
use Rattle.term_spec.proofs.Text.{decode_first, decode_due, latin1_is}

-- In whichever coding a text has one bad byte at most, and a valid one has none.
module _ (coding : Coding) where
  -- a beginning of what begins a text begins one
  beginning : (m : ℕ) (bs : List ℕ) → BeginsText coding bs → BeginsText coding (take m bs)
  beginning m bs t = (drop m bs ++ t.0, rw (← append_assoc, take-append-drop) t.1)

  module _ (bs : List ℕ) where
    not_valid : (k : ℕ) → BadByte coding bs k → ¬ IsText coding bs
    not_valid k (no_way_on h before not_with) t = not_with (beginning (suc k) bs ([], rw append-nil t))
    not_valid k (cut_off h all before no_more) t = no_more (length bs) h (omega arith) (rw take-length t)

    not_before : (j k : ℕ) → BadByte coding bs j → BadByte coding bs k → ¬ (j < k)
    not_before j k (no_way_on h before not_with) (no_way_on h' before' not_with') l = not_with (rw take-take at (beginning (suc j) (take k bs) before'))
    not_before j k (no_way_on h before not_with) (cut_off h' all before' no_more) l = not_with (beginning (suc j) bs all)
    not_before j k (cut_off h all before no_more) (no_way_on h' before' not_with) l = not_with (beginning (suc k) bs all)
    not_before j k (cut_off h all before no_more) (cut_off h' all' before' no_more') l = no_more k l (omega arith) before'

    one_bad_byte : (j k : ℕ) → BadByte coding bs j → BadByte coding bs k → j ≡ k
    one_bad_byte j k b c = omega (arith, not_before j k b c, not_before k j c b)

-- In Latin-1 255 bytes are a text, and more begin none.
latin1_text : (bs : List ℕ) → length bs ≤ 255 → IsText latin_1 bs
unfolding check
latin1_text bs h = (bs, rw (le-leb (length bs) 255 h, check))

latin1_told : (bs : List ℕ) (k : ℕ) → check latin_1 bs ≡ invalid_at k → BadByte latin_1 bs k
unfolding check
latin1_told bs k e = go (leb (length bs) 255) refl e
  where
    go : (t : Bool) → leb (length bs) 255 ≡ t → ◌≡◌ {A = Checked} (elim t [ true ↦ valid bs | false ↦ invalid_at 255 ]) (invalid_at k) → BadByte latin_1 bs k
    go true p f = let no_way : ◌≡◌ {A = ℕ} 0 1 = cc in absurd (omega arith)
    go false p f =
        let long : 255 < length bs = leb-false (length bs) 255 p in
        let is : 255 ≡ k = cc in
        subst (BadByte latin_1 bs) is
        (no_way_on long ([], latin1_text (take 255 bs ++ []) (simp (append-nil, length-take) (omega arith)))
        (λ t. omega (arith, (latin1_is (take 256 bs ++ t.0) t.1.0 t.1.1).1, length-append (take 256 bs) t.0, length-take-le 256 bs long)))

-- In UTF-8 the bytes are followed one by one. Where they fail, if they do:
abbrev fault : Checked → Option ℕ
fault (valid cs) = none
fault (invalid_at k) = some k

fault_emit : (c : Begun) (o : Checked) → fault (emit c o) ≡ fault o
unfolding emit
fault_emit c (invalid_at k) = refl
fault_emit (begun v []) (valid cs) = refl
fault_emit (begun v (r ∷ rs)) (valid cs) = refl

no_fault : (o : Checked) → fault o ≡ none → (cs : List ℕ) × (o ≡ valid cs)
no_fault (valid cs) e = (cs, refl)
no_fault (invalid_at k) e = let no_way : ◌≡◌ {A = ℕ} 0 1 = cc in absurd (omega arith)

faulty : (bs : List ℕ) (k : ℕ) → fault (check utf_8 bs) ≡ some k → ¬ IsText utf_8 bs
faulty bs k e t =
    let f : none ≡ some k = sym (ap fault t.1) ∙ e in
    let no_way : ◌≡◌ {A = ℕ} 0 1 = cc in omega arith

-- Ranges that each hold a byte, and the lowest bytes that they hold
abbrev Fillable : List Range → Type 0
Fillable [] = Unit {0}
Fillable ((from to last) ∷ rs) = (from ≤ last) × Fillable rs

abbrev lowest : List Range → List ℕ
lowest [] = []
lowest ((from to last) ∷ rs) = from ∷ lowest rs

filled : (room lead at v : ℕ) (rs : List Range) → Fillable rs → fault (decode room lead at (begun v rs) (lowest rs)) ≡ none
unfolding decode
filled room lead at v [] h = refl
filled room lead at v ((from to last) ∷ rs) h =
    ap fault (decode_due room lead at v from last rs from (lowest rs) (omega arith) h.0)
    ∙ fault_emit _ _
    ∙ filled room lead (at + 1) (v * 64 + (from - 0x80)) rs h.1

abbrev AllFillable : List Line → Type 0
AllFillable [] = Unit {0}
AllFillable (line r rs ∷ ls) = Fillable rs × AllFillable ls

lines_fillable : AllFillable lines
unfolding lines
lines_fillable = omega arith

first_fillable : (ls : List Line) (b v : ℕ) (rs : List Range) → AllFillable ls → first b ls ≡ some (begun v rs) → Fillable rs
unfolding first
first_fillable [] b v rs h e = let no_way : ◌≡◌ {A = ℕ} 0 1 = cc in absurd (omega arith)
first_fillable (line r qs ∷ ls) b v rs h e = go (holds r b) e (λ f. first_fillable ls b v rs h.1 f)
  where
    go : (t : Bool) → ◌≡◌ {A = Option Begun} (elim t [ true ↦ some (begun (b - marker qs) qs) | false ↦ first b ls ]) (some (begun v rs))
        → (first b ls ≡ some (begun v rs) → Fillable rs) → Fillable rs
    go true f ih = let is : qs ≡ rs = cc in subst Fillable is h.0
    go false f ih = ih f

-- The state of decoding that the bytes bs lead to: `room` more characters may begin, one is begun, and bytes in the ranges rs are due
record Reached (bs : List ℕ) (room lead v : ℕ) (rs : List Range) : Type 0 where
  on : (xs : List ℕ) → fault (check utf_8 (bs ++ xs)) ≡ fault (decode room lead (length bs) (begun v rs) xs)
  fillable : Fillable rs

-- where the character that is begun has its lead byte; with no byte due, the one that comes next
abbrev start : List Range → ℕ → ℕ → ℕ
start [] lead at = at
start (r ∷ rs) lead at = lead

-- A byte b after bs fails, whatever comes after it, or leads on
data After (bs : List ℕ) (lead b : ℕ) : Type 0 where
  fails : ((xs : List ℕ) → fault (check utf_8 (bs ++ b ∷ xs)) ≡ some (length bs)) → After bs lead b
  leads_on : {room v : ℕ} {rs : List Range} → Reached (bs ++ (b ∷ [])) room lead v rs → After bs lead b

module _ {bs : List ℕ} {room lead v : ℕ} {rs : List Range} (s : Reached bs room lead v rs) where
  -- with the bytes due, bs is a text
  begins : BeginsText utf_8 bs
  begins = (lowest rs, no_fault _ (s.on (lowest rs) ∙ filled room lead (length bs) v rs s.fillable))

  -- with no byte more
  at_end : fault (check utf_8 bs) ≡ fault (decode room lead (length bs) (begun v rs) [])
  at_end = rw append-nil at (s.on [])

  -- past a byte that leads on
  past : (b room' lead' v' : ℕ) (rs' : List Range) → Fillable rs'
      → ((xs : List ℕ) → decode room lead (length bs) (begun v rs) (b ∷ xs) ≡ emit (begun v' rs') (decode room' lead' (length bs + 1) (begun v' rs') xs))
      → Reached (bs ++ (b ∷ [])) room' lead' v' rs'
  past b room' lead' v' rs' h f =
      record { on = λ xs. simp (append_snoc, length-append) (s.on (b ∷ xs) ∙ ap fault (f xs) ∙ fault_emit _ _); fillable = h }

after : (b : ℕ) {bs : List ℕ} {room lead v : ℕ} {rs : List Range} → Reached bs room lead v rs → After bs (start rs lead (length bs)) b
unfolding decode
after b {room = zero} {rs = []} s = fails (λ xs. s.on (b ∷ xs))
after b {bs} {room = suc room} {lead} {v} {rs = []} s = go (first b lines) refl
  where
    go : (x : Option Begun) → first b lines ≡ x → After bs (length bs) b
    go none p = fails (λ xs. s.on (b ∷ xs) ∙ rw (p, decode))
    go (some (begun v' rs)) p =
        leads_on (past s b room (length bs) v' rs (first_fillable lines b v' rs lines_fillable p)
        (λ xs. decode_first room lead (length bs) v (begun v' rs) b xs p))
after b {bs} {room} {lead} {v} {rs = (from to last) ∷ rs} s = go (holds (from to last) b) refl
  where
    go : (t : Bool) → holds (from to last) b ≡ t → After bs lead b
    go false p = fails (λ xs. s.on (b ∷ xs) ∙ rw (p, decode))
    go true p = leads_on (past s b room lead (v * 64 + (b - 0x80)) rs s.fillable.1 (λ xs. rw (p, decode)))

-- Of all beginnings of bs that are texts, the longest has k bytes
record Longest (bs : List ℕ) (k : ℕ) : Type 0 where
  within : k ≤ length bs
  text : IsText utf_8 (take k bs)
  no_more : (m : ℕ) → k < m → m ≤ length bs → ¬ IsText utf_8 (take m bs)

longest_all : (bs : List ℕ) → IsText utf_8 bs → Longest bs (length bs)
longest_all bs t = record { within = omega arith; text = rw take-length t; no_more = λ m h l. absurd (omega arith) }

longest_yet : (bs : List ℕ) (k b : ℕ) → Longest bs k → ¬ IsText utf_8 (bs ++ (b ∷ [])) → Longest (bs ++ (b ∷ [])) k
longest_yet bs k b s not_with =
    record {
      within = simp length-append (omega arith);
      text = rw (take-append-le k bs (b ∷ []) s.within) s.text;
      no_more = λ m h l.
          by_less (length bs) m (λ i. rw (take_all m (bs ++ (b ∷ [])) (simp length-append (omega arith))) not_with)
          (λ i. rw (take-append-le m bs (b ∷ []) i) (s.no_more m h i));
    }

longest_cut : (bs : List ℕ) (k : ℕ) → Longest bs k → BeginsText utf_8 bs → ¬ IsText utf_8 bs → BadByte utf_8 bs k
longest_cut bs k s all not_all =
    by_less k (length bs) (λ h. cut_off h all s.text s.no_more) (λ h. absurd (not_all (rw (take_all k bs h) at s.text)))

longest_past : (bs : List ℕ) (b : ℕ) {room lead v : ℕ} {rs : List Range} → Reached (bs ++ (b ∷ [])) room lead v rs → Longest bs lead
    → Longest (bs ++ (b ∷ [])) (start rs lead (length (bs ++ (b ∷ []))))
unfolding decode
longest_past bs b {rs = []} s l = longest_all (bs ++ (b ∷ [])) (no_fault _ (at_end s))
longest_past bs b {lead} {rs = r ∷ rs} s l = longest_yet bs lead b l (faulty (bs ++ (b ∷ [])) lead (at_end s))

-- a fault is at the bad byte
abbrev Told : List ℕ → Type 0
Told bs = (k : ℕ) → check utf_8 bs ≡ invalid_at k → BadByte utf_8 bs k

told_at : (bs : List ℕ) (j : ℕ) → fault (check utf_8 bs) ≡ some j → BadByte utf_8 bs j → Told bs
told_at bs j e bad k f =
    let g : fault (check utf_8 bs) ≡ some k = ap fault f in
    let is : j ≡ k = cc in
    subst (BadByte utf_8 bs) is bad

told_here : (bs : List ℕ) (b : ℕ) (xs : List ℕ) → BeginsText utf_8 bs → ((ys : List ℕ) → fault (check utf_8 (bs ++ b ∷ ys)) ≡ some (length bs))
    → Told (bs ++ b ∷ xs)
told_here bs b xs before f =
    let cut : take (suc (length bs)) (bs ++ b ∷ xs) ≡ bs ++ (b ∷ []) = rw (← add-one, take-append-add) in
    told_at (bs ++ b ∷ xs) (length bs) (f xs)
    (no_way_on (simp length-append (omega arith)) (rw take-append_seam before)
    (λ t. faulty (bs ++ b ∷ t.0) (length bs) (f t.0) (simp (cut, append_snoc) at t.1)))

told_end : {bs : List ℕ} {room lead v : ℕ} {rs : List Range} → Reached bs room lead v rs → Longest bs (start rs lead (length bs)) → Told bs
unfolding decode
told_end {bs} {rs = []} s l k e = absurd (faulty bs k (ap fault e) (no_fault _ (at_end s)))
told_end {bs} {lead} {rs = r ∷ rs} s l k e = told_at bs lead (at_end s) (longest_cut bs lead l (begins s) (faulty bs lead (at_end s))) k e

utf8_told : (xs bs : List ℕ) {room lead v : ℕ} {rs : List Range} → Reached bs room lead v rs → Longest bs (start rs lead (length bs)) → Told (bs ++ xs)
utf8_told [] bs s l = rw append-nil (told_end s l)
utf8_told (b ∷ xs) bs s l =
    elim (after b s) [
      | fails f ↦ told_here bs b xs (begins s) f
      | leads_on s' ↦ rw append_snoc at (utf8_told xs (bs ++ (b ∷ [])) s' (longest_past bs b s' l))
    ]

at_first : Reached [] 255 0 0 []
unfolding check
at_first = record { on = λ xs. refl; fillable = tt }

check_told : (coding : Coding) (bs : List ℕ) (k : ℕ) → check coding bs ≡ invalid_at k → BadByte coding bs k
unfolding check decode
check_told latin_1 bs k e = latin1_told bs k e
check_told utf_8 bs k e = utf8_told bs [] at_first (longest_all [] ([], refl)) k e

check_exactly : (coding : Coding) (bs : List ℕ) (k : ℕ) → BadByte coding bs k → check coding bs ≡ invalid_at k
check_exactly coding bs k bad = go (check coding bs) refl
  where
    go : (o : Checked) → check coding bs ≡ o → o ≡ invalid_at k
    go (valid cs) e = absurd (not_valid coding bs k bad (cs, e))
    go (invalid_at j) e = ap invalid_at (one_bad_byte coding bs j k (check_told coding bs j e) bad)

pub bad_bytes : BadBytes
bad_bytes = record { told = check_told; exactly = check_exactly }

-- it is one of the text's bytes
pub bad_inside : (coding : Coding) (bs : List ℕ) (k : ℕ) → check coding bs ≡ invalid_at k → k < length bs
bad_inside coding bs k e = elim (check_told coding bs k e) [ no_way_on h before not_with ↦ h | cut_off h all before no_more ↦ h ]
