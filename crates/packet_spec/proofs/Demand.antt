-- Demand 2 over any run of the packet calls, by their promises: `demand_2`, at the end.
use mathlib.Core.Path.{◌≡◌, refl, sym, ◌∙◌, ap, ap₂, subst}
use mathlib.Core.Bool.{Bool, true, false, cond}
use mathlib.Core.List.{List}
use Prim.Native.Nat.{ℕ}
use lib.ListN.{take}
use Rattle.std.specs.Prelude.{Ok}
use Rattle.term_spec.specs.Numbers.{Under}
use Rattle.term_spec.specs.Answer.{Answer, good, refused}
use Rattle.packet_spec.specs.declared.Pending.{Pending}
use Rattle.packet_spec.specs.declared.PacketOutcome.TheVariants as packets
use Rattle.packet_spec.specs.Memory.{Cache, Memory, cache_of_size, empty_cache, none_pending, held}
use Rattle.packet_spec.specs.Packet.{judged}
use Rattle.packet_spec.specs.Calls.{Outcome, payload_at, pending_still, complete, take_packet, after_packet, cache_after_reset, reset, unless_refused}
use Rattle.packet_spec.specs.Answers.{Taken, Settled, outcome_case, packet_answer, taken_answer, drop_answer, reset_answer}
use Rattle.packet_spec.specs.Promises.{PacketCall, DropCall, ResetCall}
use Rattle.packet_spec.specs.Runs.{Call, taking, dropping, resetting, AllBytes, with_state, after_call, after_calls}
use Rattle.packet_spec.specs.Places.{Same, HeldNew, brought}
use Rattle.packet_spec.specs.Gathering.{SoFar, none_begun, gathered_by, gathered_after, gathered_after_all, Has}
use Rattle.packet_spec.specs.Demands.{Ran, ended, packet_then, drop_then, reset_then, Completed, Gathered, Demand2}
use Rattle.packet_spec.proofs.Calls.{packet_new}
use Rattle.packet_spec.proofs.Runs.{run_holds, run_frame, run_listed}
use Rattle.packet_spec.proofs.Gathered.{call_gathers, run_gathers, none_yet, own_continuation, told_gathered}
use Rattle.packet_spec.proofs.Gathered as gathering

-- what a drop and a reset leave, by their promises
drop_state : (flags : ℕ) (m : Memory) (r : Settled) → DropCall flags m.pending r → with_state m (m.cache, r.pending) ≡ after_call m (dropping flags)
unfolding after_call drop_answer
drop_state flags m r w = ap (λ (p : Settled). with_state m (m.cache, p.pending)) w.drop_answered

reset_state : (m : Memory) (r : Settled) (c' : Cache) → ResetCall m.cache m.pending r c' → with_state m (c', r.pending) ≡ after_call m resetting
unfolding after_call reset_answer cache_after_reset reset
reset_state m r c' w =
    ap₂ (λ (c : Cache) (p : Settled). with_state m (c, p.pending)) w.cache_left w.reset_answered ∙ go (cache_of_size m.cache)
  where
    go : (b : Bool)
        → with_state m (
          (unless_refused {A = Cache × Pending} (m.cache, none_pending) (cond b (good (empty_cache, none_pending)) (refused 13 0))).0,
          (unless_refused {A = Cache × Pending} (m.cache, m.pending) (cond b (good (empty_cache, none_pending)) (refused 13 0))).1,
        )
        ≡ with_state m (unless_refused (m.cache, m.pending) (cond b (good (empty_cache, none_pending)) (refused 13 0)))
    go true = refl
    go false = refl

-- a run by the promises is the run of the definitions
pub ran_is : {m n : Memory} {cs : List Call} → Ran m cs n → n ≡ after_calls m cs
unfolding after_calls after_call
ran_is ended = refl
ran_is (packet_then {cs = cs} flags packet r m' w rest) = ran_is rest ∙ ap (λ (x : Memory). after_calls x cs) w.memory_left
ran_is (drop_then {m} {cs = cs} flags r w rest) = ran_is rest ∙ ap (λ (x : Memory). after_calls x cs) (drop_state flags m r w)
ran_is (reset_then {m} {cs = cs} r c' w rest) = ran_is rest ∙ ap (λ (x : Memory). after_calls x cs) (reset_state m r c' w)

-- the answer Complete is that case of the enum alone
is_complete : (o : Answer Outcome) (k : ℕ) → packet_answer o ≡ Ok (packets.Complete k) → o ≡ good (complete k)
unfolding packet_answer outcome_case
is_complete (good (payload_at a b)) k e = absurd cc
is_complete (good (pending_still a b)) k e = absurd cc
is_complete (good (complete n)) k e = let is : n ≡ k = cc in ap (λ (x : ℕ). good (complete x)) is
is_complete (refused n p) k e = absurd cc

-- what a packet answers, by the promise
pub answer_is : {flags : ℕ} {packet : List ℕ} {m : Memory} {r : Taken} {m' : Memory} → PacketCall flags packet m r m'
    → r.answer ≡ packet_answer (take_packet flags m packet)
unfolding taken_answer
answer_is w = ap (λ (x : Taken). x.answer) w.packet_answered

-- the packet taken next, with what is gathered before it
module _ (n : Memory) (g : SoFar) (h : Has n g) (flags : ℕ) (packet : List ℕ) (r : Taken) (m' : Memory) (u : Under 256 packet) (w : PacketCall flags packet n r m') where
  next_completed : (k : ℕ) → r.answer ≡ Ok (packets.Complete k) → Completed k (gathered_after n (taking flags packet) g) m'
  unfolding after_call gathered_after
  next_completed k e =
      let done = gathering.completes flags n packet g k u h (is_complete _ k (sym (answer_is w) ∙ e)) in
      let has : Has (after_packet flags n packet) (gathered_by (judged flags n packet) g) = call_gathers n (taking flags packet) g u h in
      subst (Completed k (gathered_by (judged flags n packet) g)) (sym w.memory_left)
      (record {
        all_counted = done.0;
        first_bytes = ap (λ (x : ℕ). take x (after_packet flags n packet).gather) done.0 ∙ has.first_bytes;
        its_list = has.its_list;
        none_due = done.1;
        record_zero = done.2;
      })

run_gathered : {m n : Memory} {cs : List Call} → AllBytes cs → Ran m cs n → m.pending.due ≡ 0 → Gathered m cs n
unfolding gathered_after
run_gathered {m} {n} {cs} u r e =
    let g : SoFar = gathered_after_all m cs (none_begun m) in
    let has : Has n g = subst (λ (x : Memory). Has x g) (sym (ran_is r)) (run_gathers cs m (none_begun m) u (none_yet m e)) in
    record {
      so_far = has;
      next_continuation = λ flags packet q f bs v j. own_continuation flags n packet g has q f bs v j;
      next_answer = λ flags packet r m' v w. answer_is w ∙ ap packet_answer (told_gathered flags n packet g v has);
      completes = λ flags packet r m' v w k c. next_completed n g has flags packet r m' v w k c;
    }

pub demand_2 : {m n : Memory} {cs : List Call} → AllBytes cs → Ran m cs n → Demand2 m cs n
demand_2 {m} {n} {cs} u r =
    record {
      others_stay = λ q a. subst (λ (x : Memory). Same m.cache x.cache q) (sym (ran_is r)) (run_frame cs m q u a);
      places_hold = ap (λ (x : Memory). held x.cache) (ran_is r) ∙ run_holds cs m u;
      next_new = λ flags packet r m' v w p j. subst (λ (x : Memory). HeldNew x.cache (brought p)) (sym w.memory_left) (packet_new flags n packet p v j);
      plain_listed = ap (λ (x : Memory). x.plain_list) (ran_is r) ∙ run_listed cs m;
      gathered = λ e. run_gathered u r e;
    }
