-- The cases P of document 01, and maps in another order, for any known flags and any empty atom list, as a single statement: `cases`. Proved by computing what the definitions answer.
use mathlib.Core.Path.{◌≡◌, refl, ◌∙◌, ap}
use mathlib.Core.Bool.{Bool, true, false}
use mathlib.Core.List.{List, [], ◌∷◌, ◌++◌}
use Prim.Native.Nat.{ℕ, ◌*◌, ◌≤◌, min}
use native.Mathlib.Omega.{arith}
use lib.Dec.{leb}
use lib.ListN.{length, replicate}
use Rattle.term_spec.specs.Numbers.{big_endian, in_bytes, little_endian, digits_within, digits, signed32, with_sign}
use Rattle.term_spec.specs.Text.{holds, lines, marker, first, emit, decode, check, is_character, encode, encodes}
use Rattle.term_spec.specs.Order.{compare_numbers, compare_lists, numbers_of, compare}
use Rattle.term_spec.specs.Pairs.{put_in, in_order, arranged_parts, arranged}
use Rattle.term_spec.specs.Meaning.{pair_before}
use Rattle.term_spec.specs.Equal.{same, among}
use Rattle.term_spec.specs.Connection.{v4_nc, flags_known}
use Rattle.term_spec.specs.Answer.{Answer, good, refused, bytes, number}
use Rattle.term_spec.specs.Head.{forms, form_in, form_or, form, text_or, finite, bits_rule, clear_low, bits_meaning, fields, term_head, creation_rule, id_words, words_rule, limits, later}
use Rattle.term_spec.specs.Reading.{opening, each, run, entries, row, string, list_tail, contents, body, one_term}
use Rattle.term_spec.specs.AtomList.{AtomList, of_size, place_length, place_bytes, place_text, given_of, empty_list, lent_list}
use Rattle.term_spec.specs.Message.{standalone, payload, Terms, meanings, ending, version, standalone_term, payload_terms, terms_framed, result_of, first_check, read}
use Rattle.term_spec.specs.Canonical.{big_bytes, integer_bytes, atom_bytes, tuple_bytes, port_bytes, words_bytes, small, all_small, list_bytes, term_bytes, bytes_of, key_before, canonical, canonical_standalone, standalones}
use Rattle.term_spec.specs.Writing.{Written, written, write}
use Rattle.term_spec.specs.Tree.{count}
use Rattle.term_spec.specs.Rows.{rows, tree_rows, kind_of, kind_at, offset_of, whole_code, pack, word, row_words, table_after}
use Rattle.term_spec.specs.Cases.{nested, Cases, Writes, Refuses, CallWrites, CallRefuses}
use Rattle.term_spec.proofs.Demand.{written_good, written_by, refused_by}

-- what the writer answers for a standalone term, with both flags, an empty list of zeros, 8,192 rows and 65,536 bytes of output
unfoldable pub output : List ℕ → Answer Written
unfolding big_endian in_bytes little_endian digits_within digits signed32 with_sign holds lines marker first emit decode check is_character encode encodes compare_numbers compare_lists numbers_of compare put_in in_order arranged_parts arranged pair_before same among bytes number forms form_in form_or form text_or finite bits_rule clear_low bits_meaning fields term_head creation_rule id_words words_rule later opening each run entries row string list_tail contents body one_term of_size place_length place_bytes place_text given_of v4_nc flags_known limits big_bytes integer_bytes atom_bytes tuple_bytes port_bytes words_bytes small all_small list_bytes term_bytes bytes_of key_before canonical canonical_standalone standalones ending version standalone_term payload_terms read written write
output message = write 3 standalone empty_list 8192 65536 message

-- one term, and its bytes
abbrev pub one : List ℕ → Answer Written
one bs = good (record { terms = 1; bytes = bs })

-- what is computed: the bytes written in 65,536 bytes of output, or the refusal of the reading; each with 8,192 rows
abbrev Computed : ℕ → AtomList → List ℕ → List ℕ → Type 0
Computed flags list message bs = write flags standalone list 8192 65536 message ≡ one bs

abbrev FoundWrong : ℕ → AtomList → List ℕ → ℕ → ℕ → Type 0
FoundWrong flags list message number place = read flags standalone list 8192 message ≡ refused number place

-- With any flags that are known, and any list that is empty: n = 0, of its stated size, whatever its places and lengths hold
module _ (flags : ℕ) (known : flags_known flags ≡ true) (places lengths : List ℕ) (sized : of_size (lent_list 0 places lengths) ≡ true) where
  computed : Cases (Computed flags (lent_list 0 places lengths)) (FoundWrong flags (lent_list 0 places lengths))
  unfolding output nested write read
  computed = record {
    p1 = rw (sized, known) refl;
    p2 = rw (sized, known) refl;
    p4 = rw (sized, known) refl;
    p6 = rw (sized, known) refl;
    p8 = rw (sized, known) refl;
    p9 = rw (sized, known) refl;
    p10 = rw (sized, known) refl;
    p11 = rw (sized, known) refl;
    p13 = rw (sized, known) refl;
    deep64 = rw (sized, known) refl;
    deep65 = rw (sized, known) refl;
    turned = rw (sized, known) refl;
    again = rw (sized, known) refl;
    by_bytes = rw (sized, known) refl;
    kept = rw (sized, known) refl;
    within = rw (sized, known) refl;
    keys_of_maps = rw (sized, known) refl;
    same_keys = rw (sized, known) refl;
    deep_keys = rw (sized, known) refl;
  }

-- the same cases, said in another way
pub said_so : {W W₂ : List ℕ → List ℕ → Type 0} {R R₂ : List ℕ → ℕ → ℕ → Type 0}
    → ((message bs : List ℕ) → W message bs → W₂ message bs) → ((message : List ℕ) (number place : ℕ) → R message number place → R₂ message number place)
    → Cases W R → Cases W₂ R₂
said_so w r c = record {
  p1 = w _ _ c.p1;
  p2 = w _ _ c.p2;
  p4 = w _ _ c.p4;
  p6 = w _ _ c.p6;
  p8 = w _ _ c.p8;
  p9 = w _ _ c.p9;
  p10 = r _ _ _ c.p10;
  p11 = r _ _ _ c.p11;
  p13 = r _ _ _ c.p13;
  deep64 = w _ _ c.deep64;
  deep65 = r _ _ _ c.deep65;
  turned = w _ _ c.turned;
  again = w _ _ c.again;
  by_bytes = w _ _ c.by_bytes;
  kept = w _ _ c.kept;
  within = w _ _ c.within;
  keys_of_maps = w _ _ c.keys_of_maps;
  same_keys = r _ _ _ c.same_keys;
  deep_keys = r _ _ _ c.deep_keys;
}

-- more than 8,192 rows are as good as 8,192
more_rows : (flags : ℕ) (list : AtomList) (message : List ℕ) (lent : ℕ) → 8192 ≤ lent → read flags standalone list lent message ≡ read flags standalone list 8192 message
unfolding read
more_rows flags list message lent h =
    let same : min 8192 lent ≡ 8192 = omega arith in
    ap (λ (cap : ℕ). first_check (of_size list) 13 (first_check (flags_known flags) 14 (first_check (leb (length message) 65536) 12
    (result_of (terms_framed (given_of flags list) cap standalone (record { at = 0; left = message; rows_taken = 0 })))))) same

-- what is written in 65,536 bytes of output is written in any that has room for it
written_in_room : (o : Answer Terms) (bs : List ℕ) → written 65536 o ≡ one bs → (room : ℕ) → length bs ≤ room → written room o ≡ one bs
unfolding written
written_in_room (refused n p) bs e room fits = let no_way : ◌≡◌ {A = ℕ} 0 1 = cc in absurd (omega arith)
written_in_room (good ts) bs e room fits = go (leb (length (standalones (meanings ts))) 65536) e
  where
    go : (b : Bool) → ◌≡◌ {A = Answer Written} (elim b [ true ↦ good (record { terms = count ts; bytes = standalones (meanings ts) }) | false ↦ refused 11 0 ]) (one bs)
        → written room (good ts) ≡ one bs
    go true e =
        let same : ◌≡◌ {A = Written} (record { terms = count ts; bytes = standalones (meanings ts) }) (record { terms = 1; bytes = bs }) = cc in
        written_good ts bs (ap (λ (w : Written). w.bytes) same) room fits ∙ ap (λ (w : Written). good (record { terms = w.terms; bytes = bs })) same
    go false e = let no_way : ◌≡◌ {A = ℕ} 0 1 = cc in absurd (omega arith)

writes_so : (flags : ℕ) (list : AtomList) (message bs : List ℕ) → Computed flags list message bs → Writes flags list message bs
unfolding write
writes_so flags list message bs e rows room enough fits =
    ap (written room) (more_rows flags list message rows enough) ∙ written_in_room (read flags standalone list 8192 message) bs e room fits

refuses_so : (flags : ℕ) (list : AtomList) (message : List ℕ) (number place : ℕ) → FoundWrong flags list message number place → Refuses flags list message number place
unfolding write written
refuses_so flags list message number place e rows room enough = ap (written room) (more_rows flags list message rows enough ∙ e)

pub cases : (flags : ℕ) → flags_known flags ≡ true → (places lengths : List ℕ) → of_size (lent_list 0 places lengths) ≡ true
    → Cases (Writes flags (lent_list 0 places lengths)) (Refuses flags (lent_list 0 places lengths))
cases flags known places lengths sized =
    let list : AtomList = lent_list 0 places lengths in
    said_so {W = Computed flags list} {W₂ = Writes flags list} {R = FoundWrong flags list} {R₂ = Refuses flags list} (writes_so flags list) (refuses_so flags list) (computed flags known places lengths sized)

-- and so for any call of the writer, by its promise
pub called_cases : (flags : ℕ) → flags_known flags ≡ true → (places lengths : List ℕ) → of_size (lent_list 0 places lengths) ≡ true
    → Cases (CallWrites flags (lent_list 0 places lengths)) (CallRefuses flags (lent_list 0 places lengths))
called_cases flags known places lengths sized =
    let list : AtomList = lent_list 0 places lengths in
    said_so {W = Writes flags list} {W₂ = CallWrites flags list} {R = Refuses flags list} {R₂ = CallRefuses flags list}
    (λ message bs e scratch output rows fits answer s o w. written_by (record { terms = 1; bytes = bs }) (e (length scratch) (length output) rows fits) w)
    (λ message number place e scratch output rows answer s o w. refused_by number place (e (length scratch) (length output) rows) w)
    (cases flags known places lengths sized)

-- what the writer answers for a payload, with both flags, an empty list of zeros, so many rows and 100 bytes of output; and the table after reading it
unfoldable pub output_of : ℕ → List ℕ → Answer Written
unfolding output
output_of rows message = write 3 payload empty_list rows 100 message

unfoldable pub table_of : ℕ → List ℕ → List ℕ
unfolding output table_after rows tree_rows row_words word kind_at kind_of offset_of whole_code pack
table_of lent message = table_after lent (read 3 payload empty_list lent message)

-- what the writer answers for a standalone term with these flags, and an empty list of zeros; and with a list of no size
unfoldable pub output_with : ℕ → List ℕ → Answer Written
unfolding output
output_with flags message = write flags standalone empty_list 8192 65536 message

unfoldable pub output_unsized : ℕ → List ℕ → Answer Written
unfolding output
output_unsized flags message = write flags standalone (lent_list 0 [] []) 8192 65536 message

-- a pid and a reference with an empty node, Creation 9; each word has all bits
abbrev pub pid_88 : List ℕ → List ℕ → List ℕ
pid_88 id serial = 131 ∷ 88 ∷ 119 ∷ 0 ∷ (id ++ (serial ++ (0 ∷ 0 ∷ 0 ∷ 9 ∷ [])))

abbrev pub reference_90 : ℕ → List ℕ
reference_90 k = 131 ∷ 90 ∷ 0 ∷ k ∷ 119 ∷ 0 ∷ (0 ∷ 0 ∷ 0 ∷ 9 ∷ replicate (4 * k) 255)

-- a list of two: a length of 33, a text that is not UTF-8
abbrev pub false_list : AtomList
false_list = lent_list 2 (replicate 32 0 ++ (255 ∷ replicate 8127 0)) (33 ∷ 1 ∷ replicate 253 0)

unfoldable pub output_false : List ℕ → Answer Written
unfolding output
output_false message = write 3 payload false_list 9 100 message

-- Further examples, at the ends of the rules of the canonical form, and where two refusals compete
pub record Examples : Type 0 where
  -- high zero digits go; 2^31 has no room in a 98
  pub high_zero : output (131 ∷ 110 ∷ 5 ∷ 0 ∷ 0 ∷ 0 ∷ 0 ∷ 128 ∷ 0 ∷ []) ≡ one (131 ∷ 110 ∷ 4 ∷ 0 ∷ 0 ∷ 0 ∷ 0 ∷ 128 ∷ [])
  -- the sign of zero carries nothing
  pub minus_zero : output (131 ∷ 111 ∷ 0 ∷ 0 ∷ 0 ∷ 0 ∷ 1 ∷ []) ≡ one (131 ∷ 97 ∷ 0 ∷ [])
  -- a 107 of length 0 is the empty list
  pub no_characters : output (131 ∷ 107 ∷ 0 ∷ 0 ∷ []) ≡ one (131 ∷ 106 ∷ [])
  -- a 108 of length 0 means the tail itself
  pub tail_alone : output (131 ∷ 108 ∷ 0 ∷ 0 ∷ 0 ∷ 0 ∷ 97 ∷ 7 ∷ []) ≡ one (131 ∷ 97 ∷ 7 ∷ [])
  -- a tail that is a list is joined on
  pub joined : output (131 ∷ 108 ∷ 0 ∷ 0 ∷ 0 ∷ 1 ∷ 97 ∷ 7 ∷ 107 ∷ 0 ∷ 1 ∷ 8 ∷ []) ≡ one (131 ∷ 107 ∷ 0 ∷ 2 ∷ 7 ∷ 8 ∷ [])
  -- any other tail stays
  pub improper : output (131 ∷ 108 ∷ 0 ∷ 0 ∷ 0 ∷ 1 ∷ 97 ∷ 7 ∷ 97 ∷ 8 ∷ []) ≡ one (131 ∷ 108 ∷ 0 ∷ 0 ∷ 0 ∷ 1 ∷ 97 ∷ 7 ∷ 97 ∷ 8 ∷ [])
  -- Bits 8 is a binary
  pub all_bits : output (131 ∷ 77 ∷ 0 ∷ 0 ∷ 0 ∷ 1 ∷ 8 ∷ 191 ∷ []) ≡ one (131 ∷ 109 ∷ 0 ∷ 0 ∷ 0 ∷ 1 ∷ 191 ∷ [])
  -- the last character of two bytes
  pub two_bytes : output (131 ∷ 119 ∷ 2 ∷ 0xDF ∷ 0xBF ∷ []) ≡ one (131 ∷ 119 ∷ 2 ∷ 0xDF ∷ 0xBF ∷ [])
  -- a character may end at U+D7FF, and none is a surrogate
  pub before_surrogates : output (131 ∷ 119 ∷ 3 ∷ 0xED ∷ 0x9F ∷ 0xBF ∷ []) ≡ one (131 ∷ 119 ∷ 3 ∷ 0xED ∷ 0x9F ∷ 0xBF ∷ [])
  pub surrogate : output (131 ∷ 119 ∷ 3 ∷ 0xED ∷ 0xA0 ∷ 0x80 ∷ []) ≡ refused 5 4
  -- 5 at a byte that begins no character, in a part too; at one that cannot go on, though the text's end cuts its character off as well
  pub begins_none : output (131 ∷ 104 ∷ 2 ∷ 97 ∷ 1 ∷ 119 ∷ 2 ∷ 97 ∷ 0xFF ∷ []) ≡ refused 5 8
  pub cannot_go_on : output (131 ∷ 119 ∷ 2 ∷ 0xE0 ∷ 0x80 ∷ []) ≡ refused 5 4
  -- at the first byte of a character that the text's end, which is where its length says, cuts off
  pub cut_off : output (131 ∷ 118 ∷ 0 ∷ 2 ∷ 97 ∷ 0xC3 ∷ 0xA9 ∷ []) ≡ refused 5 5
  -- after 254 characters at the byte that cannot go on; after 255 at the next character, in either coding
  pub after_254 : output (131 ∷ 118 ∷ 1 ∷ 0 ∷ (replicate 254 97 ++ (0xE0 ∷ 0x80 ∷ []))) ≡ refused 5 259
  pub after_255 : output (131 ∷ 118 ∷ 1 ∷ 1 ∷ (replicate 255 97 ++ (0xE0 ∷ 0x80 ∷ []))) ≡ refused 5 259
  pub latin_256 : output (131 ∷ 100 ∷ 1 ∷ 0 ∷ replicate 256 233) ≡ refused 5 259
  -- 2 comes before 5, and 5 before 9
  pub text_cut : output (131 ∷ 119 ∷ 2 ∷ 0xFF ∷ []) ≡ refused 2 1
  pub text_no_row : output_of 0 (119 ∷ 1 ∷ 0xFF ∷ []) ≡ refused 5 2
  -- a 120 with a small ID is a 89
  pub small_port : output_of 9 (120 ∷ 119 ∷ 0 ∷ 0 ∷ 0 ∷ 0 ∷ 0 ∷ 0 ∷ 0 ∷ 0 ∷ 5 ∷ 0 ∷ 0 ∷ 0 ∷ 9 ∷ []) ≡ one (131 ∷ 89 ∷ 119 ∷ 0 ∷ 0 ∷ 0 ∷ 0 ∷ 5 ∷ 0 ∷ 0 ∷ 0 ∷ 9 ∷ [])
  -- later fields, 2 before 4: a 103 with an ID over its limit, with no Creation and with one
  pub cut_later : output_of 9 (103 ∷ 119 ∷ 0 ∷ 255 ∷ 0 ∷ 0 ∷ 0 ∷ 0 ∷ 0 ∷ 0 ∷ 0 ∷ []) ≡ refused 2 0
  pub bad_later : output_of 9 (103 ∷ 119 ∷ 0 ∷ 255 ∷ 0 ∷ 0 ∷ 0 ∷ 0 ∷ 0 ∷ 0 ∷ 0 ∷ 1 ∷ []) ≡ refused 4 0
  -- 9 before a part's tag; a character of a joined 107 at that 107's tag
  pub row_first : output_of 0 (103 ∷ 97 ∷ 0 ∷ []) ≡ refused 9 0
  pub row_joined : output_of 2 (108 ∷ 0 ∷ 0 ∷ 0 ∷ 1 ∷ 97 ∷ 7 ∷ 107 ∷ 0 ∷ 1 ∷ 8 ∷ []) ≡ refused 9 7
  -- a 108 of length 0 is no atom; where it is a key that is equal to an earlier one, 7 is at the 108
  pub no_atom : output_of 9 (103 ∷ 108 ∷ 0 ∷ 0 ∷ 0 ∷ 0 ∷ 119 ∷ 0 ∷ []) ≡ refused 4 1
  pub equal_key : output_of 9 (116 ∷ 0 ∷ 0 ∷ 0 ∷ 2 ∷ 97 ∷ 1 ∷ 106 ∷ 108 ∷ 0 ∷ 0 ∷ 0 ∷ 0 ∷ 97 ∷ 1 ∷ []) ≡ refused 7 8
  -- at depth 65 a 97 that is cut is 2; a character at depth 65 is 8 at its 107's tag, but 9 where the 107 has no row
  pub deep_cut : output_of 99 (nested 64 (97 ∷ [])) ≡ refused 2 128
  pub deep_character : output_of 64 (nested 63 (107 ∷ 0 ∷ 1 ∷ 9 ∷ [])) ≡ refused 8 126
  pub deep_no_row : output_of 63 (nested 63 (107 ∷ 0 ∷ 1 ∷ 9 ∷ [])) ≡ refused 9 126
  -- lent state false: 14 at 0
  pub long_place : output_false (82 ∷ 0 ∷ []) ≡ refused 14 0
  pub no_utf8 : output_false (82 ∷ 1 ∷ []) ≡ refused 14 0
  -- without V4_NC an ID has 15 bits and a Serial 13; with it all 32, which are written as they were, in tag 88 alone
  pub narrow_pid : output_with 1 (pid_88 (0 ∷ 0 ∷ 127 ∷ 255 ∷ []) (0 ∷ 0 ∷ 31 ∷ 255 ∷ [])) ≡ one (pid_88 (0 ∷ 0 ∷ 127 ∷ 255 ∷ []) (0 ∷ 0 ∷ 31 ∷ 255 ∷ []))
  pub narrow_id : output_with 1 (pid_88 (0 ∷ 0 ∷ 128 ∷ 0 ∷ []) (0 ∷ 0 ∷ 0 ∷ 0 ∷ [])) ≡ refused 4 1
  pub narrow_serial : output_with 0 (pid_88 (0 ∷ 0 ∷ 0 ∷ 0 ∷ []) (0 ∷ 0 ∷ 32 ∷ 0 ∷ [])) ≡ refused 4 1
  pub wide_pid : output_with 2 (pid_88 (255 ∷ 255 ∷ 255 ∷ 255 ∷ []) (255 ∷ 255 ∷ 255 ∷ 255 ∷ [])) ≡ one (pid_88 (255 ∷ 255 ∷ 255 ∷ 255 ∷ []) (255 ∷ 255 ∷ 255 ∷ 255 ∷ []))
  pub wide_103 : output_with 3 (131 ∷ 103 ∷ 119 ∷ 0 ∷ 0 ∷ 0 ∷ 128 ∷ 0 ∷ 0 ∷ 0 ∷ 0 ∷ 0 ∷ 0 ∷ []) ≡ refused 4 1
  -- without V4_NC a 90 has up to 3 words, with it up to 5; a 114 never more than 3
  pub three_words : output_with 1 (reference_90 3) ≡ one (reference_90 3)
  pub four_words : output_with 1 (reference_90 4) ≡ refused 4 1
  pub five_words : output_with 3 (reference_90 5) ≡ one (reference_90 5)
  pub six_words : output_with 3 (reference_90 6) ≡ refused 4 1
  pub no_words : output_with 3 (reference_90 0) ≡ refused 4 1
  pub wide_114 : output_with 3 (131 ∷ 114 ∷ 0 ∷ 4 ∷ 119 ∷ 0 ∷ 0 ∷ replicate 16 0) ≡ refused 4 1
  -- 4 for the number of words comes before a missing node; where the number is right, 2 is where the node would stand
  pub words_first : output_with 1 (131 ∷ 90 ∷ 0 ∷ 5 ∷ []) ≡ refused 4 1
  pub then_node : output_with 3 (131 ∷ 90 ∷ 0 ∷ 5 ∷ []) ≡ refused 2 4
  -- 14 at 0 for an unknown flag: before 1, after 13
  pub third_flag : output_with 4 [] ≡ refused 14 0
  pub last_flag : output_with 128 (131 ∷ 106 ∷ []) ≡ refused 14 0
  pub all_flags : output_with 255 (131 ∷ 106 ∷ []) ≡ refused 14 0
  pub size_first : output_unsized 255 (131 ∷ 106 ∷ []) ≡ refused 13 0
  -- two terms, the row numbers running on; characters; all past the rows zero
  pub two_terms : table_of 6 (104 ∷ 1 ∷ 106 ∷ 107 ∷ 0 ∷ 2 ∷ 7 ∷ 8 ∷ [])
      ≡ pack 4 0 0 1 2 ∷ pack 5 2 1 0 1 ∷ pack 5 3 0 2 3 ∷ pack 14 6 3 0 1 ∷ pack 14 7 3 0 1 ∷ 0 ∷ []

pub examples : Examples
unfolding output output_of output_with output_unsized output_false table_of nested
examples = record {
  high_zero = refl;
  minus_zero = refl;
  no_characters = refl;
  tail_alone = refl;
  joined = refl;
  improper = refl;
  all_bits = refl;
  two_bytes = refl;
  before_surrogates = refl;
  surrogate = refl;
  begins_none = refl;
  cannot_go_on = refl;
  cut_off = refl;
  after_254 = refl;
  after_255 = refl;
  latin_256 = refl;
  text_cut = refl;
  text_no_row = refl;
  small_port = refl;
  cut_later = refl;
  bad_later = refl;
  row_first = refl;
  row_joined = refl;
  no_atom = refl;
  equal_key = refl;
  deep_cut = refl;
  deep_character = refl;
  deep_no_row = refl;
  long_place = refl;
  no_utf8 = refl;
  narrow_pid = refl;
  narrow_id = refl;
  narrow_serial = refl;
  wide_pid = refl;
  wide_103 = refl;
  three_words = refl;
  four_words = refl;
  five_words = refl;
  six_words = refl;
  no_words = refl;
  wide_114 = refl;
  words_first = refl;
  then_node = refl;
  third_flag = refl;
  last_flag = refl;
  all_flags = refl;
  size_first = refl;
  two_terms = refl;
}
