-- The functions of the reader that call each other meet their contracts: each level of depth counts 8, and a function that calls another at its own level counts more.
use Rattle.term_reader.proofs.Entries.{none_read, read_few, all_read, key_refused, value_refused, value_entered, key_twice, key_entered, keys_told, parts_sound}
use Rattle.term_reader.proofs.Inner.{opens_near, opens_place, opens_span, inner_parts, inner_characters, inner_elements, inner_pairs, parts_first, parts_second, parts_later_refused, parts_got, run_many, list_first, list_then, tailed_none, tailed_skipped, tailed_nil, tailed_last, tailed_run_refused, tailed_further, tailed_more, tail_characters, last_none, last_refused, last_got}
use Rattle.term_reader.proofs.Bodies.{term_refused, term_opened, body_deep, body_full, body_refused, body_got, body_small, parts_past, no_row, some_row, room_inside, room_at}
use Rattle.term_reader.proofs.Quick.{told_next, common_leaf, common_list, common_pairs, common_refused, common_got, opened_quickly, quick_near, quick_inside, quick_term, quick_leaf, leaf_small}
use Rattle.term_reader.proofs.Runs.{room_after, run_none, run_refused, run_more, run_one, wanted_node, wanted_refused, wanted_more}
use Rattle.term_reader.proofs.Found.{handed_on}
use Rattle.term_reader.proofs.Openings.{opened, opens, elements_opened, last_at}
use Rattle.term_head.proofs.Openings.{skipped_here}
use Rattle.map_keys.proofs.KeySet.{keeps_refl, keeps_trans}
use Rattle.term_head.specs.Code.{wanted_of}
use Rattle.term_spec.specs.AtomList.{given_of, lent_list}
use lib.ListN.{length-set}
use mathlib.Core.List.{[]}
use mathlib.Core.Path.{◌≡◌, refl, ◌∙◌}
use native.Mathlib.Omega.{arith}
use Prim.Native.Nat.{ℕ, suc, ◌+◌, ◌-◌}
use Rattle.term_reader.proofs.+read.Goals as goal

pub read_body-returns-then-left-eq0 : goal.read_body-returns-then-left-eq0
read_body-returns-then-left-eq0 t c = record { rows_stored = λ h next e s. body_deep _ _ _ _ _ h next _ _ _ _ c.if-left-eq0.true; keys_kept = keeps_refl _ }

pub read_body-returns-then-not-has_row : goal.read_body-returns-then-not-has_row
read_body-returns-then-not-has_row t c = record { rows_stored = λ h next e s. body_full _ _ _ _ _ h next _ _ _ c.if-left-eq0.false _ (no_row c.has_row.ensures c.if-not-has_row.true); keys_kept = keeps_refl _ }

pub read_body-overflow_sub-inner : goal.read_body-overflow_sub-inner
read_body-overflow_sub-inner t c = let o = c.requires.room.1 in let g = parts_past _ _ _ _ _ _ _ _ _ _ _ _ _ c.in_ok-inner.was (c.read_inner.ensures.rows_stored o.h o.next o.is o.sound) in omega arith

pub read_body-pack-requires : goal.read_body-pack-requires
read_body-pack-requires t c = let o = c.requires.room.1 in body_small _ _ _ _ _ o.h o.next _ _ _ c.if-left-eq0.false (some_row c.has_row.ensures c.if-not-has_row.false) _ _ (c.read_inner.ensures.rows_stored o.h o.next o.is o.sound) _ _ _ _ _ _ c.in_ok-inner.was c.requires.room.0 (omega (arith, opens_place _ _ _ c.requires.room.1, c.requires.room.0.short))

pub read_body-returns-in_err-inner : goal.read_body-returns-in_err-inner
read_body-returns-in_err-inner t c = rw (handed_on _ c.from_residual.ensures.1) (record { rows_stored = λ h next e s. body_refused _ _ _ _ _ h next _ _ _ c.if-left-eq0.false (some_row c.has_row.ensures c.if-not-has_row.false) _ _ (c.read_inner.ensures.rows_stored h next e s) _ _ c.in_err-inner.was; keys_kept = c.read_inner.ensures.keys_kept })

pub read_body-returns : goal.read_body-returns
read_body-returns t c = record { rows_stored = λ h next e s. body_got _ _ _ _ _ h next _ _ _ c.if-left-eq0.false (some_row c.has_row.ensures c.if-not-has_row.false) _ _ (c.read_inner.ensures.rows_stored h next e s) _ _ _ _ _ c.in_ok-inner.was (omega (arith, opens_place _ _ _ c.requires.room.1, c.requires.room.0.short)) c.pack.ensures; keys_kept = c.read_inner.ensures.keys_kept }

pub read_inner-read_parts-requires : goal.read_inner-read_parts-requires
read_inner-read_parts-requires t c = (omega (arith, c.decreases), (room_at _ _ _ _ _ _ _ _ c.requires.room.0 (opens_near _ _ _ _ c.requires.room.1 c.in-Parts.is), c.requires.seen_nonzero))

pub read_inner-read_characters-requires : goal.read_inner-read_characters-requires
read_inner-read_characters-requires t c = (omega arith, omega arith, omega arith, omega arith, omega arith, opens_span _ _ _ _ _ c.requires.room.1 c.in-Characters.is c.requires.room.0.short)

pub read_inner-read_list-requires : goal.read_inner-read_list-requires
read_inner-read_list-requires t c = (omega (arith, c.decreases), (room_at _ _ _ _ _ _ _ _ c.requires.room.0 (opens_near _ _ _ _ c.requires.room.1 c.in-Elements.is), c.requires.seen_nonzero))

pub read_inner-read_pairs-requires : goal.read_inner-read_pairs-requires
read_inner-read_pairs-requires t c = (omega (arith, c.decreases), (room_at _ _ _ _ _ _ _ _ c.requires.room.0 (opens_near _ _ _ _ c.requires.room.1 c.in-Pairs.is), c.requires.seen_nonzero))

pub read_inner-returns-in-Parts : goal.read_inner-returns-in-Parts
read_inner-returns-in-Parts t c = record { rows_stored = inner_parts _ _ _ _ _ _ _ _ _ _ _ _ _ _ _ c.in-Parts.is c.read_parts.ensures.rows_stored; keys_kept = c.read_parts.ensures.keys_kept }

pub read_inner-returns-in-Characters : goal.read_inner-returns-in-Characters
read_inner-returns-in-Characters t c = record { rows_stored = inner_characters _ _ _ _ _ _ _ _ _ _ _ _ c.in-Characters.is (λ cs e near. c.read_characters.ensures _ _ cs e near); keys_kept = keeps_refl _ }

pub read_inner-returns-in-Elements : goal.read_inner-returns-in-Elements
read_inner-returns-in-Elements t c = record { rows_stored = inner_elements _ _ _ _ _ _ _ _ _ _ _ _ c.in-Elements.is (c.read_list.ensures.rows_stored _); keys_kept = c.read_list.ensures.keys_kept }

pub read_inner-returns-in-Pairs : goal.read_inner-returns-in-Pairs
read_inner-returns-in-Pairs t c = record { rows_stored = inner_pairs _ _ _ _ _ _ _ _ _ _ _ _ c.in-Pairs.is (c.read_pairs.ensures.rows_stored _); keys_kept = c.read_pairs.ensures.keys_kept }

pub read_last-read_characters-requires : goal.read_last-read_characters-requires
read_last-read_characters-requires t c = (omega arith, omega arith, omega arith, omega arith, omega arith, opens_span _ _ _ _ _ (opens _ _ _ _ _ (opened _ _ _ c.args.row _ _ c.in_ok-opening.ensures c.requires.room.0.near)) c.in-Characters.is c.requires.room.0.short)

pub read_last-read_body-requires : goal.read_last-read_body-requires
read_last-read_body-requires t c = let o = (opened _ _ _ c.args.row _ _ c.in_ok-opening.ensures c.requires.room.0.near) in
    (omega (arith, c.decreases), ((room_at _ _ _ _ _ _ _ _ c.requires.room.0 (omega (arith, o.sound, o.sound.end)), opens _ _ _ _ _ o), c.requires.seen_nonzero))

pub read_last-returns-in_err-opening : goal.read_last-returns-in_err-opening
read_last-returns-in_err-opening t c = rw (handed_on _ c.from_residual.ensures.1) (record { rows_stored = last_none _ _ _ _ _ _ _ _ _ _ _ c.in_err-opening.ensures; keys_kept = keeps_refl _ })

pub read_last-returns-in-Characters : goal.read_last-returns-in-Characters
read_last-returns-in-Characters t c = record { rows_stored = tail_characters _ _ _ _ _ _ _ _ _ (opened _ _ _ c.args.row _ _ c.in_ok-opening.ensures c.requires.room.0.near) _ _ _ _ c.in-Characters.is (λ cs e near. c.read_characters.ensures _ _ cs e near); keys_kept = keeps_refl _ }

pub read_last-returns-in_err-last-in_default : goal.read_last-returns-in_err-last-in_default
read_last-returns-in_err-last-in_default t c = let o = (opened _ _ _ c.args.row _ _ c.in_ok-opening.ensures c.requires.room.0.near) in
    rw (handed_on _ c.from_residual-in_err-last-in_default.ensures.1) (record { rows_stored = last_refused _ _ _ _ _ _ _ _ _ o c.requires.room.1 c.in_default.not-Characters _ _ (c.read_body.ensures.rows_stored o.h o.next o.head_is o.sound) _ _ c.in_err-last-in_default.was; keys_kept = c.read_body.ensures.keys_kept })

pub read_last-returns-in_ok-last-in_default : goal.read_last-returns-in_ok-last-in_default
read_last-returns-in_ok-last-in_default t c = let o = (opened _ _ _ c.args.row _ _ c.in_ok-opening.ensures c.requires.room.0.near) in
    record { rows_stored = last_got _ _ _ _ _ _ _ _ _ o c.requires.room.1 c.in_default.not-Characters _ _ (c.read_body.ensures.rows_stored o.h o.next o.head_is o.sound) _ _ c.in_ok-last-in_default.was; keys_kept = c.read_body.ensures.keys_kept }

pub read_list-read_tail-requires : goal.read_list-read_tail-requires
read_list-read_tail-requires t c = (omega (arith, c.decreases), ((room_after _ _ _ _ _ _ _ _ _ _ _ _ _ _ _ c.requires.room c.read_run.ensures.rows_stored c.in_ok-run.was c.read_run.auto.table, omega (arith, (run_many _ _ _ _ _ _ _ _ _ _ _ c.read_run.ensures.rows_stored c.in_ok-run.was).0)), omega (arith, c.requires.seen_nonzero, c.read_run.ensures.keys_kept.as_many)))

pub read_list-returns-in_err-run : goal.read_list-returns-in_err-run
read_list-returns-in_err-run t c = rw (handed_on _ c.from_residual.ensures.1) (record { rows_stored = λ place. list_first _ _ _ _ place _ _ _ _ _ _ c.read_run.ensures.rows_stored _ _ c.in_err-run.was; keys_kept = c.read_run.ensures.keys_kept })

pub read_list-returns : goal.read_list-returns
read_list-returns t c = record { rows_stored = λ place. list_then _ _ _ _ place _ _ _ _ _ _ c.read_run.ensures.rows_stored _ _ _ _ c.in_ok-run.was c.read_tail.ensures.rows_stored; keys_kept = keeps_trans c.read_run.ensures.keys_kept c.read_tail.ensures.keys_kept }

pub read_more-returns-then-count-eq0 : goal.read_more-returns-then-count-eq0
read_more-returns-then-count-eq0 t c = record { rows_stored = run_none _ _ _ _ _ _ _ _ _ c.if-count-eq0.true c.requires.room.low c.requires.room.near; keys_kept = keeps_refl _ }

pub read_entry-pack-requires : goal.read_entry-pack-requires
read_entry-pack-requires t c = let f = c.is_leaf.ensures c.if-is_leaf.true in leaf_small _ _ _ _ _ _ _ _ c.requires.room (quick_inside _ _ _ _ c.args.row _ (c.in-Some.ensures _ refl (given_of 0 (lent_list 0 [] [])) c.args.row))

pub read_entry-returns : goal.read_entry-returns
read_entry-returns t c = let f = c.is_leaf.ensures c.if-is_leaf.true in
    record { rows_stored = quick_leaf _ _ _ _ c.args.row _ (c.in-Some.ensures _ refl _ c.args.row) _ _ _ _ f.0 f.1 f.2 (omega (arith, quick_inside _ _ _ _ c.args.row _ (c.in-Some.ensures _ refl (given_of 0 (lent_list 0 [] [])) c.args.row), c.requires.room.short)) _ c.pack.ensures; keys_kept = keeps_refl _ }

pub read_entry-returns-2 : goal.read_entry-returns-2
unfolding wanted_of
read_entry-returns-2 t c = record { rows_stored = run_one _ _ _ _ _ _ _ _ _ _ c.read_run.ensures.rows_stored; keys_kept = c.read_run.ensures.keys_kept }

pub read_pairs-loop-i-init : goal.read_pairs-loop-i-init
read_pairs-loop-i-init t c = (c.requires.room, refl, none_read _ _ _ _ _ _ _ _ _ _ _, keeps_refl _)

pub read_pairs-returns-in_err-key : goal.read_pairs-returns-in_err-key
read_pairs-returns-in_err-key t c = let i = c.loop-i in
    rw (handed_on _ c.from_residual.ensures.1)
    (record {
      rows_stored = λ place. key_refused _ _ _ _ _ _ _ _ _ _ _ _ _ _ _ _ _ c.read_entry.ensures.rows_stored _ place _ i.invariant.2 (omega (arith, c.loop-i-test.true)) c.in_err-key.was;
      keys_kept = keeps_trans i.invariant.3 c.read_entry.ensures.keys_kept;
    })

pub read_pairs-returns-then-contains_or_insert : goal.read_pairs-returns-then-contains_or_insert
read_pairs-returns-then-contains_or_insert t c = let i = c.loop-i in
    record {
      rows_stored = λ place. key_twice _ _ _ _ _ _ _ _ _ _ _ _ _ _ _ _ _ c.read_entry.ensures.rows_stored _ i.invariant.0 _ _ c.in_ok-key.was (parts_sound _ _ _ _ _ _ _ i.invariant.0.bytes i.invariant.0.few) i.invariant.2 (omega (arith, c.loop-i-test.true)) (keys_told _ _ _ _ _ _ _ i.invariant.0.sized i.invariant.0.listed i.invariant.0.bytes) _ _ _ c.read_entry.ensures.keys_kept c.contains_or_insert.ensures place _ c.if-contains_or_insert.true;
      keys_kept = keeps_trans (keeps_trans i.invariant.3 c.read_entry.ensures.keys_kept) c.contains_or_insert.ensures.keys_kept;
    }

pub read_pairs-returns-in_err-value : goal.read_pairs-returns-in_err-value
read_pairs-returns-in_err-value t c = let i = c.loop-i in
    let key = key_entered _ _ _ _ _ _ _ _ _ _ _ _ _ _ _ _ _ c.read_entry.ensures.rows_stored _ i.invariant.0 _ _ c.in_ok-key.was (parts_sound _ _ _ _ _ _ _ i.invariant.0.bytes i.invariant.0.few) i.invariant.2 (omega (arith, c.loop-i-test.true)) (keys_told _ _ _ _ _ _ _ i.invariant.0.sized i.invariant.0.listed i.invariant.0.bytes) _ _ _ c.read_entry.ensures.keys_kept c.contains_or_insert.ensures c.if-contains_or_insert.false in
    rw (handed_on _ c.from_residual-in_err-value.ensures.1)
    (record { rows_stored = λ place. value_refused _ _ _ _ _ _ _ _ _ _ _ _ _ _ _ _ _ c.read_entry-in-loop-i.ensures.rows_stored _ place _ key c.in_err-value.was; keys_kept = keeps_trans (keeps_trans (keeps_trans i.invariant.3 c.read_entry.ensures.keys_kept) c.contains_or_insert.ensures.keys_kept) c.read_entry-in-loop-i.ensures.keys_kept })

pub read_pairs-loop-i-preserved : goal.read_pairs-loop-i-preserved
read_pairs-loop-i-preserved t c = let i = c.loop-i in
    let room = room_after _ _ _ _ _ _ _ _ _ _ _ _ _ _ _ i.invariant.0 c.read_entry.ensures.rows_stored c.in_ok-key.was c.read_entry.auto.table in
    let key = key_entered _ _ _ _ _ _ _ _ _ _ _ _ _ _ _ _ _ c.read_entry.ensures.rows_stored _ i.invariant.0 _ _ c.in_ok-key.was (parts_sound _ _ _ _ _ _ _ i.invariant.0.bytes i.invariant.0.few) i.invariant.2 (omega (arith, c.loop-i-test.true)) (keys_told _ _ _ _ _ _ _ i.invariant.0.sized i.invariant.0.listed i.invariant.0.bytes) _ _ _ c.read_entry.ensures.keys_kept c.contains_or_insert.ensures c.if-contains_or_insert.false in (
      room_after _ _ _ _ _ _ _ _ _ _ _ _ _ _ _ room c.read_entry-in-loop-i.ensures.rows_stored c.in_ok-value.was c.read_entry-in-loop-i.auto.table,
      c.read_entry-in-loop-i.auto.table ∙ c.read_entry.auto.table ∙ i.invariant.1,
      value_entered _ _ _ _ _ _ _ _ _ _ _ _ _ _ _ _ _ c.read_entry-in-loop-i.ensures.rows_stored _ room _ _ c.in_ok-value.was (parts_sound _ _ _ _ _ _ _ i.invariant.0.bytes i.invariant.0.few) _ c.read_entry-in-loop-i.ensures.keys_kept key _ (omega arith),
      keeps_trans (keeps_trans (keeps_trans i.invariant.3 c.read_entry.ensures.keys_kept) c.contains_or_insert.ensures.keys_kept) c.read_entry-in-loop-i.ensures.keys_kept,
    )

pub read_pairs-overflow_mul-result : goal.read_pairs-overflow_mul-result
read_pairs-overflow_mul-result t c = let i = c.loop-i in omega (arith, read_few _ _ _ _ _ _ _ _ _ _ _ _ _ _ _ i.invariant.2 i.invariant.0.low, i.invariant.0.few, c.loop-i-test.false)

pub read_pairs-returns : goal.read_pairs-returns
read_pairs-returns t c = let i = c.loop-i in
    record { rows_stored = λ place. all_read _ _ _ _ _ _ _ _ _ _ _ _ _ _ _ place i.invariant.2 (omega arith) i.invariant.0.low i.invariant.0.near; keys_kept = i.invariant.3 }

pub read_parts-read_more-requires : goal.read_parts-read_more-requires
read_parts-read_more-requires t c = (omega (arith, c.decreases), (room_after _ _ _ _ _ _ _ _ _ _ _ _ _ _ _ c.requires.room c.read_wanted.ensures.rows_stored c.in_ok-first.was c.read_wanted.auto.table, omega (arith, c.requires.seen_nonzero, c.read_wanted.ensures.keys_kept.as_many)))

pub read_parts-read_later-requires : goal.read_parts-read_later-requires
read_parts-read_later-requires t c = (run_many _ _ _ _ _ _ _ _ _ _ _ c.read_more.ensures.rows_stored c.in_ok-others.was).1

pub read_parts-overflow_add-result : goal.read_parts-overflow_add-result
read_parts-overflow_add-result t c = let a = run_many _ _ _ _ _ _ _ _ _ _ _ c.read_wanted.ensures.rows_stored c.in_ok-first.was in let b = run_many _ _ _ _ _ _ _ _ _ _ _ c.read_more.ensures.rows_stored c.in_ok-others.was in omega arith

pub read_parts-returns-in_err-first : goal.read_parts-returns-in_err-first
read_parts-returns-in_err-first t c = rw (handed_on _ c.from_residual.ensures.1) (record { rows_stored = λ l kind later. parts_first _ _ _ _ _ _ _ _ _ _ l _ _ c.read_wanted.ensures.rows_stored _ _ c.in_err-first.was; keys_kept = c.read_wanted.ensures.keys_kept })

pub read_parts-returns-in_err-others : goal.read_parts-returns-in_err-others
read_parts-returns-in_err-others t c = rw (handed_on _ c.from_residual-in_err-others.ensures.1) (record { rows_stored = λ l kind later. parts_second _ _ _ _ _ _ _ _ _ _ l _ _ c.read_wanted.ensures.rows_stored _ _ c.in_ok-first.was _ _ c.read_more.ensures.rows_stored _ _ c.in_err-others.was; keys_kept = keeps_trans c.read_wanted.ensures.keys_kept c.read_more.ensures.keys_kept })

pub read_parts-returns-in_err-next : goal.read_parts-returns-in_err-next
unfolding given_of
read_parts-returns-in_err-next t c = rw (handed_on _ c.from_residual-in_err-next.ensures.1) (record { rows_stored = λ l kind later. parts_later_refused _ _ _ _ _ _ _ _ _ _ l _ _ c.read_wanted.ensures.rows_stored _ _ c.in_ok-first.was _ _ c.read_more.ensures.rows_stored _ _ c.in_ok-others.was _ (c.read_later.ensures l later _) _ _ c.in_err-next.was; keys_kept = keeps_trans c.read_wanted.ensures.keys_kept c.read_more.ensures.keys_kept })

pub read_parts-returns : goal.read_parts-returns
unfolding given_of
read_parts-returns t c = record { rows_stored = λ l kind later. parts_got _ _ _ _ _ _ _ _ _ _ l _ _ c.read_wanted.ensures.rows_stored _ _ c.in_ok-first.was _ _ c.read_more.ensures.rows_stored _ _ c.in_ok-others.was _ (c.read_later.ensures l later _) _ _ kind c.in_ok-next.was; keys_kept = keeps_trans c.read_wanted.ensures.keys_kept c.read_more.ensures.keys_kept }

pub read_run-loop-i-init : goal.read_run-loop-i-init
read_run-loop-i-init t c = let z : c.args.count - 0 ≡ c.args.count = omega arith in (c.requires.room, refl, (λ s U d. rw z at d), keeps_refl _)

pub read_run-pack-requires : goal.read_run-pack-requires
read_run-pack-requires t c = let f = c.is_leaf.ensures c.if-is_leaf.true in leaf_small _ _ _ _ _ _ _ _ c.loop-i.invariant.0 (quick_inside _ _ _ _ c.loop-i.row_now _ (c.in-Some.ensures _ refl (given_of 0 (lent_list 0 [] [])) c.loop-i.row_now))

pub read_run-bounds-table-row_now : goal.read_run-bounds-table-row_now
read_run-bounds-table-row_now t c = let f = c.is_leaf.ensures c.if-is_leaf.true in omega (arith, f.2, c.loop-i.invariant.0.wide)

pub read_run-overflow_add-row_now : goal.read_run-overflow_add-row_now
read_run-overflow_add-row_now t c = let f = c.is_leaf.ensures c.if-is_leaf.true in omega (arith, f.2, c.loop-i.invariant.0.few)

pub read_run-loop-i-preserved-in-loop-i : goal.read_run-loop-i-preserved-in-loop-i
read_run-loop-i-preserved-in-loop-i t c = let i = c.loop-i in
    let e : c.args.count - i._i ≡ suc (c.args.count - (i._i + 1)) = omega (arith, c.loop-i-test.true) in
    let f = c.is_leaf.ensures c.if-is_leaf.true in
    let d = (quick_leaf _ _ _ _ i.row_now _ (c.in-Some.ensures _ refl _ i.row_now) _ _ _ _ f.0 f.1 f.2 (omega (arith, quick_inside _ _ _ _ i.row_now _ (c.in-Some.ensures _ refl (given_of 0 (lent_list 0 [] [])) i.row_now), i.invariant.0.short)) _ c.pack.ensures) in
    (room_after _ _ _ _ _ _ _ _ _ _ _ _ _ _ _ i.invariant.0 d refl (length-set {A = ℕ} i.table i.row_now c.pack.result), length-set {A = ℕ} i.table i.row_now c.pack.result ∙ i.invariant.1, (λ s U g. i.invariant.2 s U (run_more _ _ _ _ _ _ _ _ _ _ e _ _ _ _ s U refl d g)), i.invariant.3)

pub read_run-returns-in_err-term : goal.read_run-returns-in_err-term
read_run-returns-in_err-term t c = let i = c.loop-i in
    let e : c.args.count - i._i ≡ suc (c.args.count - (i._i + 1)) = omega (arith, c.loop-i-test.true) in
    rw (handed_on _ c.from_residual.ensures.1)
    (record { rows_stored = i.invariant.2 _ _ (run_refused _ _ _ _ _ _ _ _ _ _ e _ _ _ _ c.in_err-term.was c.read_term.ensures.rows_stored); keys_kept = keeps_trans i.invariant.3 c.read_term.ensures.keys_kept })

pub read_run-loop-i-preserved : goal.read_run-loop-i-preserved
read_run-loop-i-preserved t c = let i = c.loop-i in
    let e : c.args.count - i._i ≡ suc (c.args.count - (i._i + 1)) = omega (arith, c.loop-i-test.true) in
    (room_after _ _ _ _ _ _ _ _ _ _ _ _ _ _ _ i.invariant.0 c.read_term.ensures.rows_stored c.in_ok-term.was c.read_term.auto.table, c.read_term.auto.table ∙ i.invariant.1, (λ s U d. i.invariant.2 s U (run_more _ _ _ _ _ _ _ _ _ _ e _ _ _ _ s U c.in_ok-term.was c.read_term.ensures.rows_stored d)), keeps_trans i.invariant.3 c.read_term.ensures.keys_kept)

pub read_run-returns : goal.read_run-returns
read_run-returns t c = let i = c.loop-i in
    let e : c.args.count - i._i ≡ 0 = omega arith in
    record { rows_stored = i.invariant.2 _ _ (run_none _ _ _ _ _ _ _ _ _ e i.invariant.0.low i.invariant.0.near); keys_kept = i.invariant.3 }

pub read_tail-loop-at-init : goal.read_tail-loop-at-init
read_tail-loop-at-init t c = (c.requires.room.0, refl, c.requires.room.1, tailed_none _ _ _ _ _ _ _ _ _, keeps_refl _)

pub read_tail-returns-then-nil_at : goal.read_tail-returns-then-nil_at
read_tail-returns-then-nil_at t c = record { rows_stored = tailed_nil _ _ _ _ _ _ _ _ _ _ (tailed_skipped _ _ _ _ _ _ _ _ _ _ c.loop-at.invariant.3 _ c.skip_empty-place.ensures) (skipped_here _ _ _ c.skip_empty-place.ensures) (c.nil_at.ensures c.if-nil_at.true _ _) c.loop-at.invariant.0.low; keys_kept = c.loop-at.invariant.4 }

pub read_tail-read_last-requires : goal.read_tail-read_last-requires
read_tail-read_last-requires t c = (omega (arith, c.decreases), ((room_at _ _ _ _ _ _ _ _ c.loop-at.invariant.0 c.skip_empty-place.ensures.inside, last_at _ _ (skipped_here _ _ _ c.skip_empty-place.ensures) c.in_default.ensures, c.loop-at.invariant.2), omega (arith, c.requires.seen_nonzero, c.loop-at.invariant.4.as_many)))

pub read_tail-returns-in_default : goal.read_tail-returns-in_default
read_tail-returns-in_default t c = record { rows_stored = tailed_last _ _ _ _ _ _ _ _ _ _ (tailed_skipped _ _ _ _ _ _ _ _ _ _ c.loop-at.invariant.3 _ c.skip_empty-place.ensures) _ _ c.read_last.ensures.rows_stored; keys_kept = keeps_trans c.loop-at.invariant.4 c.read_last.ensures.keys_kept }

pub read_tail-returns-in_err-run : goal.read_tail-returns-in_err-run
read_tail-returns-in_err-run t c = rw (handed_on _ c.from_residual.ensures.1) (record { rows_stored = tailed_run_refused _ _ _ _ _ _ _ _ _ _ (tailed_skipped _ _ _ _ _ _ _ _ _ _ c.loop-at.invariant.3 _ c.skip_empty-place.ensures) (elements_opened _ _ _ c.loop-at.row_now (skipped_here _ _ _ c.skip_empty-place.ensures) _ c.in-Some.ensures) _ _ refl _ _ c.read_run.ensures.rows_stored _ _ c.in_err-run.was; keys_kept = keeps_trans c.loop-at.invariant.4 c.read_run.ensures.keys_kept })

pub read_tail-overflow_add-sum : goal.read_tail-overflow_add-sum
read_tail-overflow_add-sum t c = let a = run_many _ _ _ _ _ _ _ _ _ _ _ c.read_run.ensures.rows_stored c.in_ok-run.was in
    let b = room_after _ _ _ _ _ _ _ _ _ _ _ _ _ _ _ (room_at _ _ _ _ _ _ _ _ c.loop-at.invariant.0 (c.in-Some.ensures.inside _ refl)) c.read_run.ensures.rows_stored c.in_ok-run.was c.read_run.auto.table in
    omega arith

pub read_tail-loop-at-smaller : goal.read_tail-loop-at-smaller
read_tail-loop-at-smaller t c = let a = tailed_further _ _ _ _ _ _ _ _ _ _ (tailed_skipped _ _ _ _ _ _ _ _ _ _ c.loop-at.invariant.3 _ c.skip_empty-place.ensures) (elements_opened _ _ _ c.loop-at.row_now (skipped_here _ _ _ c.skip_empty-place.ensures) _ c.in-Some.ensures) _ _ refl _ _ c.read_run.ensures.rows_stored _ _ c.in_ok-run.was in
    omega (arith, (run_many _ _ _ _ _ _ _ _ _ _ _ c.read_run.ensures.rows_stored c.in_ok-run.was).1, c.skip_empty-place.ensures.from)

pub read_tail-loop-at-preserved : goal.read_tail-loop-at-preserved
read_tail-loop-at-preserved t c = (
  room_after _ _ _ _ _ _ _ _ _ _ _ _ _ _ _ (room_at _ _ _ _ _ _ _ _ c.loop-at.invariant.0 (c.in-Some.ensures.inside _ refl)) c.read_run.ensures.rows_stored c.in_ok-run.was c.read_run.auto.table,
  c.read_run.auto.table ∙ c.loop-at.invariant.1,
  omega (arith, (run_many _ _ _ _ _ _ _ _ _ _ _ c.read_run.ensures.rows_stored c.in_ok-run.was).0),
  tailed_more _ _ _ _ _ _ _ _ _ _ (tailed_skipped _ _ _ _ _ _ _ _ _ _ c.loop-at.invariant.3 _ c.skip_empty-place.ensures) (elements_opened _ _ _ c.loop-at.row_now (skipped_here _ _ _ c.skip_empty-place.ensures) _ c.in-Some.ensures) _ _ refl _ _ c.read_run.ensures.rows_stored _ _ c.in_ok-run.was,
  keeps_trans c.loop-at.invariant.4 c.read_run.ensures.keys_kept,
)

pub read_wanted-pack-requires : goal.read_wanted-pack-requires
read_wanted-pack-requires t c = let f = c.is_leaf.ensures c.if-is_leaf.true in leaf_small _ _ _ _ _ _ _ _ c.requires.room (quick_inside _ _ _ _ c.args.row _ (c.in-Some.ensures _ refl (given_of 0 (lent_list 0 [] [])) c.args.row))

pub read_wanted-returns-then-wanted-eq1 : goal.read_wanted-returns-then-wanted-eq1
read_wanted-returns-then-wanted-eq1 t c = let f = c.is_leaf.ensures c.if-is_leaf.true in
    let d = (quick_leaf _ _ _ _ c.args.row _ (c.in-Some.ensures _ refl _ c.args.row) _ _ _ _ f.0 f.1 f.2 (omega (arith, quick_inside _ _ _ _ c.args.row _ (c.in-Some.ensures _ refl (given_of 0 (lent_list 0 [] [])) c.args.row), c.requires.room.short)) _ c.pack.ensures) in
    record { rows_stored = wanted_node _ _ _ _ _ _ _ _ _ _ _ c.if-wanted-eq1.true d; keys_kept = keeps_refl _ }

pub read_wanted-read_more-requires : goal.read_wanted-read_more-requires
read_wanted-read_more-requires t c = (omega (arith, c.decreases), (room_after _ _ _ _ _ _ _ _ _ _ _ _ _ _ _ c.requires.room c.read_run.ensures.rows_stored c.in_ok-run.was c.read_run.auto.table, omega (arith, c.requires.seen_nonzero, c.read_run.ensures.keys_kept.as_many)))

pub read_wanted-returns-in_err-run : goal.read_wanted-returns-in_err-run
read_wanted-returns-in_err-run t c = rw (handed_on _ c.from_residual.ensures.1) (record { rows_stored = wanted_refused _ _ _ _ _ _ _ _ _ c.min-atoms.ensures _ _ c.read_run.ensures.rows_stored _ _ c.in_err-run.was; keys_kept = c.read_run.ensures.keys_kept })

pub read_wanted-returns : goal.read_wanted-returns
read_wanted-returns t c = record { rows_stored = wanted_more _ _ _ _ _ _ _ _ _ c.min-atoms.ensures _ _ c.read_run.ensures.rows_stored _ _ _ _ c.in_ok-run.was c.read_more.ensures.rows_stored; keys_kept = keeps_trans c.read_run.ensures.keys_kept c.read_more.ensures.keys_kept }

pub read_common-returns-then-count-eq0 : goal.read_common-returns-then-count-eq0
read_common-returns-then-count-eq0 t c = record { rows_stored = λ place h next told. common_leaf _ _ _ _ place _ _ _ told c.if-count-eq0.true (omega (arith, told_next told, c.requires.room.near)) c.requires.room.low; keys_kept = keeps_refl _ }

pub read_common-returns-then-kind-eq-WORD_ELEMENTS : goal.read_common-returns-then-kind-eq-WORD_ELEMENTS
read_common-returns-then-kind-eq-WORD_ELEMENTS t c = record { rows_stored = λ place h next told. common_list _ _ _ _ place _ _ _ told _ _ c.if-kind-eq-WORD_ELEMENTS.true (c.read_list.ensures.rows_stored place); keys_kept = c.read_list.ensures.keys_kept }

pub read_common-returns-then-kind-eq-WORD_PAIRS : goal.read_common-returns-then-kind-eq-WORD_PAIRS
read_common-returns-then-kind-eq-WORD_PAIRS t c = record { rows_stored = λ place h next told. common_pairs _ _ _ _ place _ _ _ told _ _ c.if-kind-eq-WORD_PAIRS.true (c.read_pairs.ensures.rows_stored place); keys_kept = c.read_pairs.ensures.keys_kept }

pub read_common-returns-in_err-run : goal.read_common-returns-in_err-run
read_common-returns-in_err-run t c = rw (handed_on _ c.from_residual.ensures.1) (record { rows_stored = λ place h next told. common_refused _ _ _ _ place _ _ _ told c.if-count-eq0.false c.if-kind-eq-WORD_ELEMENTS.false c.if-kind-eq-WORD_PAIRS.false (omega (arith, told_next told, c.requires.room.near)) c.requires.room.low _ _ c.read_run.ensures.rows_stored _ _ c.in_err-run.was; keys_kept = c.read_run.ensures.keys_kept })

pub read_common-returns : goal.read_common-returns
read_common-returns t c = record { rows_stored = λ place h next told. common_got _ _ _ _ place _ _ _ told c.if-count-eq0.false c.if-kind-eq-WORD_ELEMENTS.false c.if-kind-eq-WORD_PAIRS.false (omega (arith, told_next told, c.requires.room.near)) c.requires.room.low _ _ c.read_run.ensures.rows_stored _ _ c.in_ok-run.was; keys_kept = c.read_run.ensures.keys_kept }

pub read_quick-returns-then-left-eq0 : goal.read_quick-returns-then-left-eq0
read_quick-returns-then-left-eq0 t c = record { rows_stored = quick_term _ _ _ _ c.args.row _ (c.requires.room.1 c.args.row) _ _ _ _ _ _ (body_deep _ _ _ _ _ _ _ _ _ _ _ c.if-left-eq0.true); keys_kept = keeps_refl _ }

pub read_quick-returns-then-not-has_row : goal.read_quick-returns-then-not-has_row
read_quick-returns-then-not-has_row t c = record { rows_stored = quick_term _ _ _ _ c.args.row _ (c.requires.room.1 c.args.row) _ _ _ _ _ _ (body_full _ _ _ _ _ _ _ _ _ _ c.if-left-eq0.false _ (no_row c.has_row.ensures c.if-not-has_row.true)); keys_kept = keeps_refl _ }

pub read_quick-read_common-requires : goal.read_quick-read_common-requires
read_quick-read_common-requires t c = (omega (arith, c.decreases, c.if-left-eq0.false), (room_at _ _ _ _ _ _ _ _ (room_inside _ _ _ _ _ _ _ c.requires.room.0 (some_row c.has_row.ensures c.if-not-has_row.false)) (quick_near _ _ _ _ c.args.row _ (c.requires.room.1 c.args.row)), c.requires.seen_nonzero))

pub read_quick-overflow_sub-inner : goal.read_quick-overflow_sub-inner
read_quick-overflow_sub-inner t c = let q = opened_quickly _ _ _ _ c.args.row _ (c.requires.room.1 c.args.row) in let g = parts_past _ _ _ _ _ _ _ _ _ _ _ _ _ c.in_ok-inner.was (c.read_common.ensures.rows_stored c.args.at q.h q.next q.told_by) in omega arith

pub read_quick-pack-requires : goal.read_quick-pack-requires
read_quick-pack-requires t c = let q = opened_quickly _ _ _ _ c.args.row _ (c.requires.room.1 c.args.row) in body_small _ _ _ _ _ q.h q.next _ _ _ c.if-left-eq0.false (some_row c.has_row.ensures c.if-not-has_row.false) _ _ (c.read_common.ensures.rows_stored c.args.at q.h q.next q.told_by) _ _ _ _ _ _ c.in_ok-inner.was c.requires.room.0 (omega (arith, quick_inside _ _ _ _ c.args.row _ (c.requires.room.1 c.args.row), c.requires.room.0.short))

pub read_quick-returns-in_err-inner : goal.read_quick-returns-in_err-inner
read_quick-returns-in_err-inner t c = let q = opened_quickly _ _ _ _ c.args.row _ (c.requires.room.1 c.args.row) in rw (handed_on _ c.from_residual.ensures.1) (record { rows_stored = quick_term _ _ _ _ c.args.row _ (c.requires.room.1 c.args.row) _ _ _ _ _ _ (body_refused _ _ _ _ _ q.h q.next _ _ _ c.if-left-eq0.false (some_row c.has_row.ensures c.if-not-has_row.false) _ _ (c.read_common.ensures.rows_stored c.args.at q.h q.next q.told_by) _ _ c.in_err-inner.was); keys_kept = c.read_common.ensures.keys_kept })

pub read_quick-returns : goal.read_quick-returns
read_quick-returns t c = let q = opened_quickly _ _ _ _ c.args.row _ (c.requires.room.1 c.args.row) in record { rows_stored = quick_term _ _ _ _ c.args.row _ (c.requires.room.1 c.args.row) _ _ _ _ _ _ (body_got _ _ _ _ _ q.h q.next _ _ _ c.if-left-eq0.false (some_row c.has_row.ensures c.if-not-has_row.false) _ _ (c.read_common.ensures.rows_stored c.args.at q.h q.next q.told_by) _ _ _ _ _ c.in_ok-inner.was (omega (arith, quick_inside _ _ _ _ c.args.row _ (c.requires.room.1 c.args.row), c.requires.room.0.short)) c.pack.ensures); keys_kept = c.read_common.ensures.keys_kept }

pub read_term-read_body-requires : goal.read_term-read_body-requires
read_term-read_body-requires t c = let o = opened _ _ _ c.args.row _ _ c.in_ok-opening.ensures c.requires.room.near in
    (omega (arith, c.decreases), ((room_at _ _ _ _ _ _ _ _ c.requires.room (omega (arith, o.sound, o.sound.end)), opens _ _ _ _ _ o), c.requires.seen_nonzero))

pub read_term-returns-in_err-opening : goal.read_term-returns-in_err-opening
read_term-returns-in_err-opening t c = rw (handed_on _ c.from_residual.ensures.1) (record { rows_stored = term_refused _ _ _ _ _ _ _ _ _ _ _ c.in_err-opening.ensures; keys_kept = keeps_refl _ })

pub read_term-returns : goal.read_term-returns
read_term-returns t c = record { rows_stored = term_opened _ _ _ _ _ _ _ _ _ _ (opened _ _ _ c.args.row _ _ c.in_ok-opening.ensures c.requires.room.near) _ c.read_body.ensures.rows_stored; keys_kept = c.read_body.ensures.keys_kept }

pub read_pairs-read_entry-requires-in-loop-i : goal.read_pairs-read_entry-requires-in-loop-i
read_pairs-read_entry-requires-in-loop-i t c = let i = c.loop-i in
    (omega (arith, c.decreases), (room_after _ _ _ _ _ _ _ _ _ _ _ _ _ _ _ i.invariant.0 c.read_entry.ensures.rows_stored c.in_ok-key.was c.read_entry.auto.table, omega (arith, c.requires.seen_nonzero, i.invariant.3.as_many, c.read_entry.ensures.keys_kept.as_many, c.contains_or_insert.ensures.keys_kept.as_many)))
