-- Over a run of calls: what the places of the cache hold, which of them stay, and the list for plain packets.
use mathlib.Core.Path.{◌≡◌, refl, ◌∙◌, ap, subst, fun_ext}
use Prim.Native.Nat.{ℕ}
use mathlib.Core.Bool.{Bool, true, false, cond}
use mathlib.Core.List.{List, [], ◌∷◌}
use Rattle.term_spec.specs.Answer.{Answer, good, refused}
use Rattle.term_spec.proofs.Words.{getD_all}
use Rattle.packet_spec.specs.declared.Pending.{Pending}
use Rattle.packet_spec.specs.Memory.{Cache, Memory, cache_of_size, empty_cache, none_pending, nothing, held_as, held}
use Rattle.packet_spec.specs.Packet.{Packet, plain, start, continuation, judged}
use Rattle.packet_spec.specs.Calls.{left_by, left_after, after_packet, reset, unless_refused}
use Rattle.packet_spec.specs.Runs.{Call, taking, dropping, resetting, Bytes, AllBytes, after_call, after_calls}
use Rattle.packet_spec.specs.Places.{Same, brought, Alone, AllAlone, filled_in_turn, holding_of, emptied, holding_after, holding_after_all, plain_list_of, plain_list_after, plain_list_after_all}
use Rattle.packet_spec.proofs.Judged.{SoundPacket, Accepted, accepted}
use Rattle.packet_spec.proofs.Frame.{held_entered}
use Rattle.packet_spec.proofs.SizesKept.{AllSized, all_sized}
use Rattle.packet_spec.proofs.Cache.{same_refl, same_trans}
use Rattle.packet_spec.proofs.Calls.{packet_frame}

-- after a reset every place is empty
pub held_empty : held empty_cache ≡ (λ p. nothing)
unfolding held held_as empty_cache
held_empty = fun_ext (λ p. rw (getD_all 2048 p 65535, held_as))

left_holds : (m : Memory) (p : Packet) → AllSized m → SoundPacket m.pending p
    → held (left_by m p).cache ≡ filled_in_turn (brought p) (held m.cache)
unfolding left_by brought filled_in_turn
left_holds m (plain rs at bs) s a = held_entered rs [] m.cache s.cache_sized a.0
left_holds m (start sequence fragment rs bs) s a = held_entered rs [] m.cache s.cache_sized a.0
left_holds m (continuation sequence fragment bs) s a = refl

pub call_holds : (m : Memory) (c : Call) → Bytes c → held (after_call m c).cache ≡ holding_after m c (held m.cache)
unfolding after_call holding_after after_packet holding_of reset emptied
call_holds m (taking flags bs) u = go (judged flags m bs) refl
  where
    go : (o : Answer Packet) → judged flags m bs ≡ o → held (left_after m o).cache ≡ holding_of o (held m.cache)
    go (good p) e = let a : Accepted m p = accepted flags m bs p u e in left_holds m p (all_sized m a.of_its_size) a.sound
    go (refused n q) e = refl
call_holds m (dropping flags) u = refl
call_holds m resetting u = go (cache_of_size m.cache)
  where
    go : (b : Bool) → held (unless_refused {A = Cache × Pending} (m.cache, m.pending) (cond b (good (empty_cache, none_pending)) (refused 13 0))).0
        ≡ emptied (cond b (good (empty_cache, none_pending)) (refused 13 0)) (held m.cache)
    go true = held_empty
    go false = refl

-- over a run, what the places hold is what the new references of the accepted packets give, in turn
pub run_holds : (cs : List Call) (m : Memory) → AllBytes cs → held (after_calls m cs).cache ≡ holding_after_all m cs (held m.cache)
unfolding after_calls holding_after_all
run_holds [] m u = refl
run_holds (c ∷ cs) m u =
    run_holds cs (after_call m c) u.1
    ∙ ap (holding_after_all (after_call m c) cs) (call_holds m c u.0)

pub call_frame : (m : Memory) (c : Call) (q : ℕ) → Bytes c → Alone m c q → Same m.cache (after_call m c).cache q
unfolding after_call after_packet reset
call_frame m (taking flags bs) q u a = go (judged flags m bs) refl
  where
    go : (o : Answer Packet) → judged flags m bs ≡ o → Same m.cache (left_after m o).cache q
    go (good p) e = subst (λ (n : Answer Packet). Same m.cache (left_after m n).cache q) e (packet_frame flags m bs p u e q (a p e))
    go (refused n r) e = same_refl m.cache q
call_frame m (dropping flags) q u a = same_refl m.cache q
call_frame m resetting q u a = rw (after_call, a) (same_refl m.cache q)

-- over a run, a place that each call leaves alone has the same bytes and the same length
pub run_frame : (cs : List Call) (m : Memory) (q : ℕ) → AllBytes cs → AllAlone m cs q → Same m.cache (after_calls m cs).cache q
unfolding after_calls
run_frame [] m q u a = same_refl m.cache q
run_frame (c ∷ cs) m q u a = same_trans (call_frame m c q u.0 a.0) (run_frame cs (after_call m c) q u.1 a.1)

left_listed : (m : Memory) (p : Packet) → (left_by m p).plain_list ≡ plain_list_of (good p) m.plain_list
unfolding left_by plain_list_of
left_listed m (plain rs at bs) = refl
left_listed m (start sequence fragment rs bs) = refl
left_listed m (continuation sequence fragment bs) = refl

call_listed : (m : Memory) (c : Call) → (after_call m c).plain_list ≡ plain_list_after m c m.plain_list
unfolding after_call plain_list_after after_packet plain_list_of
call_listed m (taking flags bs) = go (judged flags m bs)
  where
    go : (o : Answer Packet) → (left_after m o).plain_list ≡ plain_list_of o m.plain_list
    go (good p) = left_listed m p
    go (refused n q) = refl
call_listed m (dropping flags) = refl
call_listed m resetting = refl

-- over a run, the list for plain packets is the last accepted plain packet's
pub run_listed : (cs : List Call) (m : Memory) → (after_calls m cs).plain_list ≡ plain_list_after_all m cs m.plain_list
unfolding after_calls plain_list_after_all
run_listed [] m = refl
run_listed (c ∷ cs) m = run_listed cs (after_call m c) ∙ ap (plain_list_after_all (after_call m c) cs) (call_listed m c)
