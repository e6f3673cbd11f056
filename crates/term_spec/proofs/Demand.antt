-- Demand 3 over the promises of the calls that read and write, as one statement: `demand_3`, at the end. Before it what that rests on: the canonical
-- standalone term of a tree within the limits is read back, and an accepted message is written in canonical form.
use Rattle.std.specs.Prelude.{Ok}
use mathlib.Core.Path.{◌≡◌, refl, sym, ◌∙◌, ap, subst}
use mathlib.Core.Logic.{◌↔◌, inl, inr}
use mathlib.Core.Bool.{true}
use mathlib.Core.List.{List, [], ◌++◌, append-nil, append_assoc}
use Prim.Native.Nat.{ℕ, ◌+◌, ◌≤◌, min}
use native.Mathlib.Omega.{arith}
use lib.ListN.{length}
use borrow.Author.Tests.{le-leb}
use Rattle.term_spec.specs.Tree.{Forest, empty, ◌▹◌, count, size, sizes}
use Rattle.term_spec.specs.Term.{Label, Term}
use Rattle.term_spec.specs.Connection.{flags_known}
use Rattle.term_spec.specs.Answer.{Answer, good, refused}
use Rattle.term_spec.specs.Head.{any}
use Rattle.term_spec.specs.Reading.{Located, meaning, term}
use Rattle.term_spec.specs.AtomList.{AtomList, of_size, given_of}
use Rattle.term_spec.specs.Message.{Framing, standalone, Terms, all_as_read, meanings, ending, version, standalone_term, read}
use Rattle.term_spec.specs.Pairs.{arranged, all_arranged}
use Rattle.term_spec.specs.Meaning.{pair_before, ordered, all_ordered}
use Rattle.term_spec.specs.Canonical.{bytes_of, key_before, canonical, canonical_standalone, standalones}
use Rattle.term_spec.specs.Writing.{Written, written, write, output_after, scratch_after}
use Rattle.term_spec.specs.Demands.{IsOneOf, AcceptedTerm, OwnOutput, WrittenOut, RefusedOut, Means, OutputOf, Demand3}
use Rattle.term_spec.specs.Rows.{table_after}
use Rattle.term_spec.specs.Answers.{ReadAnswer, WriteAnswer, read_answer, write_answer}
use Rattle.term_spec.specs.Promises.{ReadCall, WriteCall}
use Rattle.term_spec.proofs.Steps.{spot}
use Rattle.term_spec.proofs.Parts.{Reads}
use Rattle.term_spec.proofs.RoundTrip.{read_tree}
use Rattle.term_spec.proofs.Pairs.{size_arranged, depth_arranged}
use Rattle.term_spec.proofs.Same.{ordered_arranged, ordered_ordered}
use Rattle.term_spec.proofs.Arranged.{valid_arranged}
use Rattle.term_spec.proofs.Injective.{bytes_injective}
use Rattle.term_spec.proofs.Rows.{size_meaning}
use Rattle.term_spec.proofs.Capacity.{enough}
use Rattle.term_spec.proofs.Message.{Allowed, AllAllowed, AcceptedMessage, accepted_message}

-- What an accepted term means: a tree within the limits, its pairs in the order of meanings
record AMeaning (flags : ℕ) (t : Term) : Type 0 where
  pub within : Allowed flags t
  pub in_its_order : ordered t ≡ t

-- The canonical standalone term of a meaning is read back, with any atom list of its size and any table of as many rows.
read_back : (flags : ℕ) (t : Term) → flags_known flags ≡ true → AMeaning flags t → (list : AtomList) → of_size list ≡ true → (lent : ℕ) → size t ≤ lent → length (canonical_standalone t) ≤ 65536
    → (tree : Located) × (read flags standalone list lent (canonical_standalone t) ≡ good (tree ▹ empty)) × (meaning tree ≡ t)
unfolding read standalone_term version ending canonical_standalone canonical given_of
read_back flags t known a list sized lent enough short =
    let u : Term = arranged key_before t in
    let cap : ℕ = min 8192 lent in
    let as_many : size u ≡ size t = size_arranged key_before t in
    let r : Reads (given_of flags list) cap 64 any (bytes_of u ++ []) [] 1 0 u
    = read_tree (given_of flags list) cap u (valid_arranged key_before flags t a.within.valid_tree) 64 (omega (arith, depth_arranged key_before t, a.within.levels)) 1 0 [] (omega (arith, a.within.few_rows)) in
    let e : term (given_of flags list) cap 64 any (spot 1 (bytes_of u) 0) ≡ good (r.tree, spot r.end [] (0 + size u)) = rw (append-nil (bytes_of u)) at r.reads in
    (r.tree, rw (sized, known, le-leb _ 65536 short, e) refl, ap ordered r.means ∙ ordered_arranged key_before t ∙ a.in_its_order)

-- what is written where the room is enough
pub written_good : (ts : Terms) (bs : List ℕ) → standalones (meanings ts) ≡ bs → (room : ℕ) → length bs ≤ room
    → written room (good ts) ≡ good (record { terms = count ts; bytes = bs })
unfolding written
written_good ts bs e room enough = rw (e, le-leb (length bs) room enough, written) (ap (λ (x : List ℕ). good (record { terms = count ts; bytes = x })) e)

-- the writer writes each accepted message in canonical form where room and scratch rows are enough
pub writes : (flags : ℕ) (framing : Framing) (list : AtomList) (message : List ℕ) (ts : Terms) → read flags framing list 8192 message ≡ good ts → (scratch room : ℕ) → sizes ts ≤ scratch
    → length (standalones (meanings ts)) ≤ room → write flags framing list scratch room message ≡ good (record { terms = count ts; bytes = standalones (meanings ts) })
unfolding write
writes flags framing list message ts e scratch room rows fits =
    ap (written room) (enough flags framing list message 8192 scratch ts e rows) ∙ written_good ts (standalones (meanings ts)) refl room fits

written_back : (t : Term) (tree : Located) (o : Answer Terms) → o ≡ good (tree ▹ empty) → meaning tree ≡ t → (room : ℕ) → length (canonical_standalone t) ≤ room
    → written room o ≡ good (record { terms = 1; bytes = canonical_standalone t })
unfolding standalones all_arranged
written_back t tree o e m room enough =
    let is : standalones (meaning tree ▹ empty) ≡ canonical_standalone t = append-nil _ ∙ ap canonical_standalone m in
    ap (written room) e ∙ written_good (tree ▹ empty) (canonical_standalone t) is room enough

-- equal bytes exactly where the meanings are equal
same_bytes : (flags : ℕ) (t u : Term) → AMeaning flags t → AMeaning flags u → (canonical_standalone t ≡ canonical_standalone u) ↔ (t ≡ u)
unfolding canonical_standalone canonical
same_bytes flags t u a b = (
  λ e.
      let rest : bytes_of (arranged key_before t) ≡ bytes_of (arranged key_before u) = cc in
      let one : arranged key_before t ≡ arranged key_before u
      = bytes_injective flags (arranged key_before t) (arranged key_before u) (valid_arranged key_before flags t a.within.valid_tree) (valid_arranged key_before flags u b.within.valid_tree) rest in
      sym a.in_its_order ∙ sym (ordered_arranged key_before t) ∙ ap ordered one ∙ ordered_arranged key_before u ∙ b.in_its_order,
  λ e. ap canonical_standalone e,
)

-- what a term within the limits means is within them
meant : (flags : ℕ) (t : Term) → Allowed flags t → AMeaning flags (ordered t)
meant flags t a =
    record {
      within = record {
        valid_tree = valid_arranged pair_before flags t a.valid_tree;
        levels = omega (arith, depth_arranged pair_before t, a.levels);
        few_rows = omega (arith, size_arranged pair_before t, a.few_rows);
      };
      in_its_order = ordered_ordered t;
    }

one_meant : (flags : ℕ) (t : Term) (ts : Forest Label) → AllAllowed flags ts → IsOneOf t (all_ordered ts) → AMeaning flags t
unfolding all_arranged
one_meant flags t empty a o = absurd o
one_meant flags t (u ▹ us) a (inl e) = subst (AMeaning flags) (sym e) (meant flags u a.0)
one_meant flags t (u ▹ us) a (inr o) = one_meant flags t us a.1 o

module _ (flags : ℕ) (t : Term) (a : AcceptedTerm flags t) where
  its_message : AcceptedMessage flags a.list 8192 a.message a.terms
  its_message = accepted_message flags a.framing a.list 8192 a.message a.are_bytes a.terms a.accepted

  term_meant : AMeaning flags t
  unfolding given_of
  term_meant = one_meant flags t (all_as_read a.terms) its_message.known.all_allowed a.one_of_them

-- a term's own output stands in what is written for its message
own_output : (t : Term) (ts : Forest Label) → IsOneOf t ts → OwnOutput t ts
unfolding standalones
own_output t empty o = absurd o
own_output t (u ▹ us) (inl e) =
    record {
      earlier = empty;
      others = us;
      terms_are = ap (λ (x : Term). x ▹ us) (sym e);
      stands = ap (λ (x : Term). canonical_standalone x ++ standalones us) (sym e);
    }
own_output t (u ▹ us) (inr o) =
    let r : OwnOutput t us = own_output t us o in
    record {
      earlier = u ▹ r.earlier;
      others = r.others;
      terms_are = ap (λ (x : Forest Label). u ▹ x) r.terms_are;
      stands =
          ap (λ (x : List ℕ). canonical_standalone u ++ x) r.stands
          ∙ sym (append_assoc (canonical_standalone u) (standalones r.earlier) (canonical_standalone t ++ standalones r.others));
    }

-- ---- over the promises of the calls

-- What the calls come to where the definitions' answers are known
pub written_by : {flags : ℕ} {framing : Framing} {list : AtomList} {message scratch output : List ℕ} {answer : WriteAnswer} {scratch_is output_is : List ℕ} (w : Written)
    → write flags framing list (length scratch) (length output) message ≡ good w
    → WriteCall flags framing list message scratch output answer scratch_is output_is
    → WrittenOut w.terms w.bytes scratch output answer scratch_is output_is
unfolding write_answer output_after scratch_after
written_by {output = output} w e c =
    record {
      answer_is = c.write_answered ∙ ap write_answer e;
      output_holds = c.output_left ∙ ap (output_after output) e;
      scratch_zero = c.scratch_left;
    }

-- what the reader's call on the canonical standalone term of t comes to where it is read back as a tree
means_by : (flags : ℕ) (t : Term) (list : AtomList) (table : List ℕ) (answer : ReadAnswer) (left : List ℕ) (tree : Located)
    → read flags standalone list (length table) (canonical_standalone t) ≡ good (tree ▹ empty) → meaning tree ≡ t
    → ReadCall flags standalone list (canonical_standalone t) table answer left → Means t table answer left
unfolding read_answer
means_by flags t list table answer left tree e m w =
    let k : size tree + 0 ≡ size t = omega (arith, size_meaning tree, ap size m) in
    record {
      tree = tree;
      meaning_is = m;
      answer_is = w.read_answered ∙ ap read_answer e ∙ ap (λ (n : ℕ). Ok (record { terms = 1; rows = n })) k;
      rows_are = w.table_left ∙ ap (table_after (length table)) e;
    }

pub refused_by : {flags : ℕ} {framing : Framing} {list : AtomList} {message scratch output : List ℕ} {answer : WriteAnswer} {scratch_is output_is : List ℕ} (number place : ℕ)
    → write flags framing list (length scratch) (length output) message ≡ refused number place
    → WriteCall flags framing list message scratch output answer scratch_is output_is
    → RefusedOut number place scratch output answer scratch_is output_is
unfolding write_answer output_after scratch_after
refused_by {output = output} number place e c =
    record {
      answer_is = c.write_answered ∙ ap write_answer e;
      output_stays = c.output_left ∙ ap (output_after output) e;
      scratch_zero = c.scratch_left;
    }

output_of : (flags : ℕ) (t : Term) (a : AcceptedTerm flags t) → OutputOf flags t a
unfolding write
output_of flags t a =
    let back = read_back flags t (its_message flags t a).flags_true (term_meant flags t a) in
    record {
      canonical_written = λ scratch output rows fits answer s o w.
          written_by (record { terms = count a.terms; bytes = standalones (meanings a.terms) })
          (writes flags a.framing a.list a.message a.terms a.accepted (length scratch) (length output) rows fits) w;
      own_output = own_output t (meanings a.terms) a.one_of_them;
      read_again = λ list sized short table rows answer left w.
          let b = back list sized (length table) rows short in
          means_by flags t list table answer left b.0 b.1 b.2 w;
      written_again = λ list sized short scratch output rows fits answer s o w.
          let b = back list sized (length scratch) rows short in
          written_by (record { terms = 1; bytes = canonical_standalone t }) (written_back t b.0 _ b.1 b.2 (length output) fits) w;
    }

pub demand_3 : (flags : ℕ) (t u : Term) (a : AcceptedTerm flags t) (b : AcceptedTerm flags u) → Demand3 flags t u a b
demand_3 flags t u a b =
    record {
      first_output = output_of flags t a;
      second_output = output_of flags u b;
      same_output = same_bytes flags t u (term_meant flags t a) (term_meant flags u b);
    }
