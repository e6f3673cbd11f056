-- No list in an accepted term has more than 8,191 elements: it has a row of its own and one or more for each element, and rows are at most 8,192.
use Rattle.std.specs.Prelude.{Ok, Err}
use mathlib.Core.Path.{◌≡◌, refl, sym, ◌∙◌, ap, subst}
use mathlib.Core.Logic.{inl, inr}
use mathlib.Core.Bool.{Bool, true, false}
use mathlib.Core.List.{List}
use Prim.Native.Nat.{ℕ, ◌<◌}
use native.Mathlib.Omega.{arith}
use lib.Dec.{leb}
use lib.ListN.{length}
use Rattle.term_spec.specs.Tree.{Forest, empty, ◌▹◌, count, EachNode, EachNodes}
use Rattle.term_spec.specs.Term.{Label, Term}
use Rattle.term_spec.specs.Answer.{Answer, good, refused}
use Rattle.term_spec.specs.AtomList.{AtomList}
use Rattle.term_spec.specs.Message.{Framing, Terms, meanings, read}
use Rattle.term_spec.specs.Canonical.{standalones}
use Rattle.term_spec.specs.Writing.{Written, written, write}
use Rattle.term_spec.specs.Answers.{ReadAnswer, WriteAnswer, read_answer, write_answer}
use Rattle.term_spec.specs.Demands.{IsOneOf}
use Rattle.term_spec.specs.Lists.{ShortList, ShortLists, NoLongList}
use Rattle.term_spec.proofs.Rows.{fewer_parts_each, each_nodes_map, sizes_meanings}
use Rattle.term_spec.proofs.Capacity.{rows_lent}

-- the number of terms that an answer says
count_read : ReadAnswer → ℕ
count_read (Ok x) = x.terms
count_read (Err x) = 0

count_written : WriteAnswer → ℕ
count_written (Ok x) = x.terms
count_written (Err x) = 0

from_count : (l : Label) (ts : Forest Label) → count ts < 8192 → ShortList l ts
from_count l ts h is_list = omega arith

module _ (flags : ℕ) (framing : Framing) (atoms : AtomList) (lent : ℕ) (message : List ℕ) where
  allowed_short : (ts : Terms) → read flags framing atoms lent message ≡ good ts → EachNodes ShortList (meanings ts)
  allowed_short ts e =
      each_nodes_map (λ l us. count us < 8192) ShortList from_count (meanings ts)
      (fewer_parts_each (meanings ts) 8192 (omega (arith, sizes_meanings ts, rows_lent flags framing atoms message lent ts e)))

  found_short : (ts : Terms) (terms : ℕ) → read flags framing atoms lent message ≡ good ts → count ts ≡ terms → ShortLists flags framing atoms lent message terms
  found_short ts terms e many = record { found = ts; accepted = e; terms_are = many; no_longer = allowed_short ts e }

  read_short : (terms rows : ℕ) → read_answer (read flags framing atoms lent message) ≡ Ok (record { terms = terms; rows = rows }) → ShortLists flags framing atoms lent message terms
  unfolding read_answer count_read
  read_short terms rows e = go (read flags framing atoms lent message) refl e
    where
      go : (o : Answer Terms) → read flags framing atoms lent message ≡ o → read_answer o ≡ Ok (record { terms = terms; rows = rows }) → ShortLists flags framing atoms lent message terms
      go (good ts) f e = found_short ts terms f (ap count_read e)
      go (refused n p) f e = let no_way : ◌≡◌ {A = ℕ} 0 1 = cc in absurd (omega arith)

  write_short : (room terms bytes : ℕ) → write_answer (write flags framing atoms lent room message) ≡ Ok (record { terms = terms; length = bytes })
      → ShortLists flags framing atoms lent message terms
  unfolding write_answer write written count_written
  write_short room terms bytes e = go (read flags framing atoms lent message) refl e
    where
      answered : Terms → Bool → Answer Written
      answered ts fits = elim fits [ true ↦ good (record { terms = count ts; bytes = standalones (meanings ts) }) | false ↦ refused 11 0 ]

      fitting : (ts : Terms) (fits : Bool) → write_answer (answered ts fits) ≡ Ok (record { terms = terms; length = bytes }) → count ts ≡ terms
      fitting ts true e = ap count_written e
      fitting ts false e = let no_way : ◌≡◌ {A = ℕ} 0 1 = cc in absurd (omega arith)

      go : (o : Answer Terms) → read flags framing atoms lent message ≡ o → write_answer (written room o) ≡ Ok (record { terms = terms; length = bytes })
          → ShortLists flags framing atoms lent message terms
      go (good ts) f e = found_short ts terms f (fitting ts (leb (length (standalones (meanings ts))) room) e)
      go (refused n p) f e = let no_way : ◌≡◌ {A = ℕ} 0 1 = cc in absurd (omega arith)

-- one of several
one_short : (t : Term) (us : Forest Label) → IsOneOf t us → EachNodes ShortList us → EachNode ShortList t
unfolding EachNode
one_short t empty h all = absurd h
one_short t (u ▹ us) (inl e) all = subst (EachNode ShortList) (sym e) all.0
one_short t (u ▹ us) (inr h) all = one_short t us h all.1

pub no_long_list : NoLongList
no_long_list =
    record {
      by_the_rules = allowed_short;
      by_reading = λ flags framing atoms message table answer left c terms rows e. read_short flags framing atoms (length table) message terms rows (sym c.read_answered ∙ e);
      by_writing = λ flags framing atoms message scratch output answer scratch_is output_is c terms bytes e.
          write_short flags framing atoms (length scratch) message (length output) terms bytes (sym c.write_answered ∙ e);
      of_demand_3 = λ flags t a. one_short t (meanings a.terms) a.one_of_them (allowed_short flags a.framing a.list 8192 a.message a.terms a.accepted);
    }
