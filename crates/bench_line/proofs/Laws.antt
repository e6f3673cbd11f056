-- The parts of a line, stored one after the other.
use mathlib.Core.Path.{◌≡◌, refl, sym, ap, ◌∙◌, subst}
use mathlib.Core.Bool.{Bool, true, false}
use mathlib.Core.List.{List, [], ◌∷◌, ◌++◌}
use Prim.Native.Nat.{ℕ, zero, suc, ◌+◌, ◌-◌, ◌*◌, ◌/◌, ◌%◌, ◌^◌, ◌≤◌, ◌<◌}
use native.Mathlib.Omega.{arith}
use native.Mathlib.Numerals.{add-one}
use lib.Dec.{ltb}
use lib.Pow.{pow-add}
use borrow.Author.Tests.{ltb-true, ltb-false, lt-ltb, le-ltb}
use lib.ListN.{length, get_or, set, take, drop, replicate, length-append}
use lib.Seq.{sets-eq, take-suc, take_all, take-append_seam}
use Rattle.io.specs.Digits.{hex_digit_ascii, last_digits, IsDigitCount}
use Rattle.term_spec.specs.Answer.{Answer, good, refused}
use Rattle.term_spec.specs.Message.{standalone}
use Rattle.term_spec.specs.Writing.{Written, write, output_after}
use Rattle.std.specs.Prelude.{Ok, Err}
use Rattle.term_spec.specs.Answers.{WriteAnswer, write_answer}
use Rattle.term_spec.specs.declared.Refusal.{Refusal}
use Rattle.term_spec.specs.declared.TermsWritten.{TermsWritten}
use Rattle.layout.specs.Layout.{Put}
use Rattle.layout.proofs.Puts.{put_then, put_same}
use Rattle.bench_line.specs.Line.{hex, decimal_within, decimal, ok_line, refused_line, line_of, Stored, bench_answer}
use Rattle.term_spec.specs.AtomList.{lent_list, empty_list}

hex_append : (a b : List ℕ) → hex (a ++ b) ≡ hex a ++ hex b
unfolding hex
hex_append [] b = refl
hex_append (x ∷ a) b = ap (λ (r : List ℕ). hex_digit_ascii (x / 16) ∷ hex_digit_ascii (x % 16) ∷ r) (hex_append a b)

hex_one : (x : ℕ) → hex (x ∷ []) ≡ hex_digit_ascii (x / 16) ∷ hex_digit_ascii (x % 16) ∷ []
unfolding hex
hex_one x = refl

hex_more : (bs : List ℕ) (i : ℕ) → i < length bs → hex (take (i + 1) bs) ≡ hex (take i bs) ++ (hex_digit_ascii (get_or bs i 0 / 16) ∷ hex_digit_ascii (get_or bs i 0 % 16) ∷ [])
hex_more bs i h =
    ap (λ (n : ℕ). hex (take n bs)) (add-one i)
    ∙ ap hex (take-suc bs i 0 h)
    ∙ hex_append (take i bs) (get_or bs i 0 ∷ [])
    ∙ ap (λ (r : List ℕ). hex (take i bs) ++ r) (hex_one (get_or bs i 0))

length_hex : (bs : List ℕ) → length (hex bs) ≡ 2 * length bs
unfolding hex
length_hex [] = refl
length_hex (x ∷ bs) = let e = length_hex bs in let g : suc (suc (length (hex bs))) ≡ 2 * suc (length bs) = omega arith in g

-- no byte yet, one byte more, all bytes
pub hex_none : (O : List ℕ) (at : ℕ) (bs : List ℕ) → Put O at (hex (take 0 bs)) at O
unfolding hex
hex_none O at bs = record { past = omega arith; stored = refl }

pub hex_put : {O P : List ℕ} (bs : List ℕ) {at next : ℕ} (i : ℕ) {u v : ℕ} → Put O at (hex (take i bs)) next P → i < length bs → u ≡ hex_digit_ascii (get_or bs i 0 / 16) → v ≡ hex_digit_ascii (get_or bs i 0 % 16)
    → Put O at (hex (take (i + 1) bs)) (next + 2) (set (set P next u) (next + 1) v)
hex_put {O} {P} bs {at} {next} i {u} {v} p h d e =
    let x = get_or bs i 0 in
    let q : Put P next (hex_digit_ascii (x / 16) ∷ hex_digit_ascii (x % 16) ∷ []) (next + 2) (set (set P next u) (next + 1) v) =
    record {
      past = refl;
      stored = ap (λ (y : ℕ). set (set P next y) (next + 1) v) d ∙ ap (λ (y : ℕ). set (set P next (hex_digit_ascii (x / 16))) (next + 1) y) e ∙ ap (λ (k : ℕ). set (set P next (hex_digit_ascii (x / 16))) k (hex_digit_ascii (x % 16))) (add-one next);
    } in
    put_same (sym (hex_more bs i h)) (put_then p q)

pub hex_all : {O P : List ℕ} (bs : List ℕ) {at next : ℕ} (i : ℕ) → Put O at (hex (take i bs)) next P → length bs ≤ i → Put O at (hex bs) next P
hex_all bs i p h = put_same (ap hex (take_all i bs h)) p

-- a machine word has at most 20 decimal digits
power_more : (j : ℕ) → 10 ^ suc j ≡ 10 * 10 ^ j
power_more j = let s : suc j ≡ 1 + j = omega arith in ap (λ (i : ℕ). 10 ^ i) s ∙ pow-add 10 1 j

power_positive : (j : ℕ) → 1 ≤ 10 ^ j
power_positive zero = omega arith
power_positive (suc j) = let e = power_positive j in let p = power_more j in omega arith

few_by : (n k : ℕ) (b : Bool) → ltb 20 k ≡ b → n < 18446744073709551616 → IsDigitCount 10 1 n k → k ≤ 20
few_by n k false e h f = ltb-false 20 k e
few_by n k true e h f =
    let more : 20 < k = ltb-true 20 k e in
    let split : k - 1 ≡ 20 + (k - 21) = omega arith in
    let least : 10 ^ (k - 1) ≤ n = f.2 (omega arith) in
    let power : 10 ^ (k - 1) ≡ 100000000000000000000 * 10 ^ (k - 21) = ap (λ (i : ℕ). 10 ^ i) split ∙ pow-add 10 20 (k - 21) in
    let positive : 1 ≤ 10 ^ (k - 21) = power_positive (k - 21) in
    absurd (omega arith)

pub few_places : (n k : ℕ) → n < 18446744073709551616 → IsDigitCount 10 1 n k → k ≤ 20
few_places n k h f = few_by n k (ltb 20 k) refl h f

-- a decimal digit
decimal_glyph : (n : ℕ) → hex_digit_ascii (n % 10) ≡ 48 + n % 10
decimal_glyph n = let e : ltb (n % 10) 10 ≡ true = lt-ltb (n % 10) 10 (omega arith) in simp e

-- one digit, and the last digit after the others
decimal_one : (most n : ℕ) → n < 10 → decimal_within (suc most) n ≡ (48 + n) ∷ []
unfolding decimal_within
decimal_one most n h = let e : ltb n 10 ≡ true = lt-ltb n 10 h in simp (decimal_within, e)

decimal_more : (most n : ℕ) → 10 ≤ n → decimal_within (suc most) n ≡ decimal_within most (n / 10) ++ ((48 + n % 10) ∷ [])
unfolding decimal_within
decimal_more most n h = let e : ltb n 10 ≡ false = le-ltb n 10 h in simp (decimal_within, e)

one_less : (j : ℕ) → suc j - 1 ≡ j
one_less j = omega arith

-- the fewest digits that hold n are those of `decimal`
spelt_within : (k most n : ℕ) → n ≤ most → IsDigitCount 10 1 n (suc k) → last_digits 10 (suc k) n ≡ decimal_within (suc most) n
spelt_within zero most n h f =
    let d : n % 10 ≡ n = omega arith in
    ap (λ (x : ℕ). x ∷ []) (decimal_glyph n ∙ ap (λ (x : ℕ). 48 + x) d) ∙ sym (decimal_one most n f.1)
spelt_within (suc k) most n h f =
    let p = power_more k in
    let q = power_more (suc k) in
    let positive = power_positive k in
    let least : 10 ^ suc k ≤ n = subst (λ (i : ℕ). 10 ^ i ≤ n) (one_less (suc k)) (f.2 (omega arith)) in
    let second : 10 ^ (suc k - 1) ≤ n / 10 = rw (one_less k) (omega arith) in
    let room : suc (most - 1) ≡ most = omega arith in
    let few : IsDigitCount 10 1 (n / 10) (suc k) = (omega arith, omega arith, λ _. second) in
    let others : last_digits 10 (suc k) (n / 10) ≡ decimal_within (suc (most - 1)) (n / 10) = spelt_within k (most - 1) (n / 10) (omega arith) few in
    rw (decimal_more most n (omega arith), others, room, decimal_glyph n)

pub spelt : (k n : ℕ) → IsDigitCount 10 1 n k → last_digits 10 k n ≡ decimal n
unfolding decimal
spelt zero n f = let one : 1 ≤ 0 = f.0 in absurd (omega arith)
spelt (suc k) n f = spelt_within k n n (omega arith) f

pub decimal_put : {O P : List ℕ} (ds : List ℕ) {at : ℕ} (n k : ℕ) {r : ℕ} → IsDigitCount 10 1 n k → take k ds ≡ last_digits 10 k n → Put O at (take k ds) r P → k ≡ length (take k ds) → k ≤ 20
    → Put O at (decimal n) r P × (r ≤ at + 20)
decimal_put {O} {P} ds {at} n k {r} f e p l few =
    let past : r ≡ at + length (take k ds) = p.past in
    let fits : r ≤ at + 20 = omega arith in
    (put_same (e ∙ spelt k n f) p, fits)

-- a text at the front
front_put : {O P text : List ℕ} {r : ℕ} → Put O 0 text r P → r ≤ length O → Stored text O r P
front_put {O} {P} {text} {r} p h =
    let past : r ≡ 0 + length text = p.past in
    let z : 0 + length text ≡ length text = omega arith in
    record { counted = omega arith; inside = h; bytes_left = p.stored ∙ sets-eq text O 0 (omega arith) ∙ ap (λ (i : ℕ). text ++ drop i O) z }

pub ok_put : {O P Q R : List ℕ} (bs : List ℕ) {a b r : ℕ} → Put O 0 (111 ∷ 107 ∷ 9 ∷ []) a P → Put P a (hex bs) b Q → Put Q b (10 ∷ []) r R → 2 * length bs + 4 ≤ length O
    → Stored (ok_line bs) O r R
unfolding ok_line
ok_put {O} {P} {Q} {R} bs {a} {b} {r} p q s room =
    let x : a ≡ 3 = p.past in
    let y : b ≡ a + length (hex bs) = q.past in
    let z : r ≡ b + 1 = s.past in
    let l = length_hex bs in
    front_put (put_then p (put_then q s)) (omega arith)

pub refused_put : {O P Q R S T : List ℕ} (n p : ℕ) {a b c d r : ℕ} → Put O 0 (114 ∷ 101 ∷ 102 ∷ 117 ∷ 115 ∷ 101 ∷ 100 ∷ 9 ∷ []) a P → Put P a (decimal n) b Q → b ≤ a + 20 → Put Q b (9 ∷ []) c R
    → Put R c (decimal p) d S → d ≤ c + 20 → Put S d (10 ∷ []) r T → 50 ≤ length O → Stored (refused_line n p) O r T
unfolding refused_line
refused_put {O} {P} {Q} {R} {S} {T} n p {a} {b} {c} {d} {r} first number few tab place few2 last room =
    let x : a ≡ 8 = first.past in
    let y : c ≡ b + 1 = tab.past in
    let z : r ≡ d + 1 = last.past in
    front_put (put_then first (put_then number (put_then tab (put_then place last)))) (omega arith)

length_of : WriteAnswer → ℕ
length_of (Ok t) = t.length
length_of (Err r) = 0

refusal_of : WriteAnswer → Refusal
refusal_of (Ok t) = record { number = 0; place = 0 }
refusal_of (Err r) = r

-- the bytes that an answer counts are those in the output
pub answer_good : (w : Answer Written) (O P : List ℕ) {D E : List ℕ} {t : TermsWritten} {r : ℕ} → ◌≡◌ {A = WriteAnswer} (Ok t) (write_answer w) → P ≡ output_after O w
    → Stored (ok_line (take t.length P)) D r E → Stored (line_of w) D r E
unfolding write_answer output_after line_of length_of
answer_good (good w) O P {D} {E} {t} {r} e f s =
    let bs : List ℕ = w.bytes in
    let k : t.length ≡ length bs = ap length_of e in
    let g : take t.length P ≡ bs = ap (λ (m : ℕ). take m P) k ∙ ap (λ (l : List ℕ). take (length bs) l) f ∙ take-append_seam bs (drop (length bs) O) in
    subst (λ (l : List ℕ). Stored (ok_line l) D r E) g s
answer_good (refused m p) O P e f s = absurd cc

pub answer_fits : (w : Answer Written) (O P : List ℕ) {t : TermsWritten} → ◌≡◌ {A = WriteAnswer} (Ok t) (write_answer w) → P ≡ output_after O w → t.length ≤ length P
unfolding write_answer output_after length_of
answer_fits (good w) O P {t} e f =
    let bs : List ℕ = w.bytes in
    let k : t.length ≡ length bs = ap length_of e in
    let g : length P ≡ length bs + length (drop (length bs) O) = ap length f ∙ length-append bs (drop (length bs) O) in
    omega arith
answer_fits (refused m p) O P e f = absurd cc

-- a refusal's line is the answer's
pub answer_refused : (w : Answer Written) {D E : List ℕ} {x : Refusal} {r : ℕ} → ◌≡◌ {A = WriteAnswer} (Err x) (write_answer w)
    → Stored (refused_line x.number x.place) D r E → Stored (line_of w) D r E
unfolding write_answer line_of refusal_of
answer_refused (good w) e s = absurd cc
answer_refused (refused m p) {D} {E} {x} {r} e s = subst (λ (y : Refusal). Stored (refused_line y.number y.place) D r E) (ap refusal_of e) s

-- the line at the start of the buffer, with the bench's list, rows and output
pub bench_line : (m : List ℕ) {places lengths D E : List ℕ} {rows room r : ℕ} → places ≡ replicate 8160 0 → lengths ≡ replicate 255 0 → rows ≡ 8192 → room ≡ 65536
    → Stored (line_of (write 3 standalone (lent_list 0 places lengths) rows room m)) D r E → Stored (line_of (bench_answer m)) D r E
unfolding bench_answer
bench_line m {places} {lengths} {D} {E} {rows} {room} {r} p l n o s =
    let w : write 3 standalone (lent_list 0 places lengths) rows room m ≡ bench_answer m =
    ap (λ (x : List ℕ). write 3 standalone (lent_list 0 x lengths) rows room m) p
    ∙ ap (λ (x : List ℕ). write 3 standalone (lent_list 0 (replicate 8160 0) x) rows room m) l
    ∙ ap (λ (k : ℕ). write 3 standalone empty_list k room m) n
    ∙ ap (λ (k : ℕ). write 3 standalone empty_list 8192 k m) o in
    subst (λ (a : Answer Written). Stored (line_of a) D r E) w s
