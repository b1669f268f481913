-- Every list of calls from the start keeps what each call keeps.
use Rattle.std.proofs.Common.{◌≡◌, ℕ, ◌≤◌, ◌<◌, ◌==◌, true, false, not, nat_lt, List, [], ◌∷◌, length, Some, None, is_some, refl, sym, ◌∙◌, ap, subst, inl, inr, arith}
use Rattle.std.specs.Option.{option_map_or}
use Rattle.std.proofs.lemmas.Bool.{ltb-false, ltb-true, lt-ltb, eqb-true, cases_lt}
use Rattle.std.proofs.lemmas.Bool.Decides.{nat_tests}
use Rattle.pc_messages.specs.Mask.{allows}
use Rattle.pc_messages.specs.State.{phase_of, mask_of}
use Rattle.pc_messages.specs.declared.kind.Kind.TheVariants as kind
use Rattle.pc_calls.specs.declared.limits.Limits.{Limits}
use Rattle.pc_calls.specs.declared.call.EnvCall.{EnvCall}
use Rattle.pc_calls.specs.declared.call.EnvCall.TheVariants.{Create, Wake, Block, YieldNow, Preempt, Die, SetAffinity, SetPriority, Tick}
use Rattle.pc_calls.specs.declared.call.Call.{Call}
use Rattle.pc_calls.specs.declared.call.AgentCall.TheVariants.{Associate, Commit, Sleep, Rouse, Config}
use Rattle.pc_calls.specs.declared.call.Call.TheVariants.{Env, Agent, Consume}
use Rattle.pc_calls.specs.AgentCalls.{commits}
use Rattle.pc_kernel.specs.PlainKernel.{PlainKernel, start, kinds, is_known, threads, content, place_of}
use Rattle.pc_kernel.specs.Reads.{shown}
use Rattle.pc_kernel.specs.Reads as reads
use Rattle.pc_kernel.specs.Steps.{refusals, changed, after, replay, is_ready}
use Rattle.pc_kernel.proofs.Refusals.{NoneHold, after_has, associate_passes, commit_passes}
use Rattle.pc_kernel.proofs.ShownReads.{shown-kinds, shown-home, shown-place, shown-content, shown-aseq}
use Rattle.pc_kernel.proofs.Always.{IsKept, tick_kept}
use Rattle.pc_kernel.proofs.AlwaysCalls.{left_kept, wake_kept, priority_kept, affinity_kept, created_kept, not_false, not_some, ready_is, known_of}
use Rattle.pc_kernel.proofs.AlwaysAgents.{consume_kept, associate_kept, commit_kept, sleep_kept, rouse_kept, config_none_kept, config_kept}

low_of : (P : PlainKernel) (c : ℕ) → not (reads.is_cpu (shown P) c) ≡ false → c < P.limits.cpus
low_of P c e = ltb-true c P.limits.cpus (not_false (reads.is_cpu (shown P) c) e)

env_kept : (P : PlainKernel) (call : EnvCall) → IsKept P → NoneHold (refusals (shown P) (Env call)) → IsKept (changed P (Env call))
env_kept P (Create queue ready mask) h n = created_kept P queue mask ready h (low_of P queue n.0)
env_kept P (Wake t) h n = wake_kept P t h n.0 n.1.1.0
env_kept P (Block cpu ran) h n = left_kept P cpu (kind.Blocked ran) h n.0 n.1.0 refl
env_kept P (YieldNow cpu ran) h n = left_kept P cpu (kind.Yield ran) h n.0 n.1.0 refl
env_kept P (Preempt cpu ran) h n = left_kept P cpu (kind.Preempted ran) h n.0 n.1.0 refl
env_kept P (Die cpu ran) h n = left_kept P cpu (kind.Dead ran) h n.0 n.1.0 refl
env_kept P (SetAffinity t mask) h n = affinity_kept P t mask h n.0 n.1.1.1.1.0
env_kept P (SetPriority t level) h n = priority_kept P t level h n.0
env_kept P (Tick cpu) h n = tick_kept P cpu h

commit_call : (P : PlainKernel) (cpu t a : ℕ) → IsKept P → NoneHold (refusals (shown P) (commits cpu t a)) → IsKept (changed P (commits cpu t a))
commit_call P cpu t a h n =
    let passes = commit_passes (shown P) cpu t a n in
    let known : is_known P t ≡ true = known_of P t passes.known in
    commit_kept P cpu t h (low_of P cpu passes.there)
    (sym (shown-home P t known) ∙ eqb-true (reads.home (shown P) t) cpu (not_false (reads.home (shown P) t == cpu) passes.at_home))
    (ready_is (phase_of (kinds P t)) (ap (λ ks. is_ready (phase_of ks)) (sym (shown-kinds P t)) ∙ not_false (is_ready (reads.phase (shown P) t)) passes.ready))
    (ap (λ ks. option_map_or (λ mask. allows mask cpu) (mask_of ks) false) (sym (shown-kinds P t)) ∙ not_false (reads.is_allowed_on (shown P) t cpu) passes.allowed)
    (not_some (place_of P t) (ap is_some (sym (shown-place P t known)) ∙ passes.nowhere))

call_kept : (P : PlainKernel) (call : Call) → IsKept P → NoneHold (refusals (shown P) call) → IsKept (changed P call)
call_kept P (Env call) h n = env_kept P call h n
call_kept P (Consume cpu count) h n =
    let size : length (reads.content_read (shown P) cpu) ≡ length (content P cpu) = ap length (shown-content P cpu (not_false (reads.is_cpu (shown P) cpu) n.0)) in
    let low : count ≤ length (reads.content_read (shown P) cpu) = ltb-false (length (reads.content_read (shown P) cpu)) count n.1.0 in
    consume_kept P cpu count h (subst (λ m. count ≤ m) size low)
call_kept P (Agent (Associate t queue number)) h n =
    let passes = associate_passes (shown P) t queue number n in
    associate_kept P t queue h passes.known passes.there passes.nothing_waits passes.idle
call_kept P (Agent (Commit cpu t a)) h n = commit_call P cpu t a h n
call_kept P (Agent (Sleep cpu a)) h n =
    sleep_kept P cpu a h (eqb-true a (reads.aseq_read (shown P) cpu) (not_false (a == reads.aseq_read (shown P) cpu) n.1.0) ∙ shown-aseq P cpu (not_false (reads.is_cpu (shown P) cpu) n.0))
call_kept P (Agent (Rouse cpu)) h n = rouse_kept P cpu h
call_kept P (Agent (Config queue None)) h n = config_none_kept P queue h
call_kept P (Agent (Config queue (Some cpu))) h n = config_kept P queue cpu h

start_kept : (limits : Limits) → IsKept (start limits)
start_kept limits =
    record {
      eaten = λ q. omega arith;
      elsewhere = λ t q n. refl;
      last = λ t. record { few = 0; within = omega arith; is = refl };
      there = λ c t e. cc;
      placed = λ c t. record { alone = λ e other e'. cc; home = λ e. cc; ready = λ e. cc; allowed = λ e. cc };
      rested = λ c x asleep target. cc;
      begun = λ t. tt;
      fresh = λ t e. refl;
      given = λ t e. absurd (omega arith);
      homes = λ t e. cc;
    }

replay_kept : (P : PlainKernel) (calls : List Call) → IsKept P → IsKept (replay P calls)
replay_kept P [] h = h
replay_kept P (call ∷ calls) h = replay_kept (after P call) calls (after_has IsKept P call h (call_kept P call h))

pub always_kept : (limits : Limits) (calls : List Call) → IsKept (replay (start limits) calls)
always_kept limits calls = replay_kept (start limits) calls (start_kept limits)

-- a thread is known where its name is below the count
pub dense : (P : PlainKernel) → IsKept P → (t : ℕ) → is_known P t ≡ nat_lt t (threads P)
dense P h t = elim (cases_lt t (threads P)) [
  | inl below ↦ h.given t below ∙ sym (lt-ltb t (threads P) below)
  | inr above ↦ ap (λ ks. nat_lt 0 (length ks)) (h.fresh t above) ∙ sym (le-ltb t (threads P) above)
]
  where
    le-ltb : (a b : ℕ) → b ≤ a → nat_lt a b ≡ false
    le-ltb a b e = grind (arith, nat_tests)
