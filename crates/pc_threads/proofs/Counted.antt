-- What a book's calls come to: the threads that are known are those created, and no count is greater than what can be posted.
use Rattle.std.proofs.Common.{ℕ, ◌≡◌, ◌+◌, true, false, not, nat_lt, List, [], ◌∷◌, ◌++◌, length, Option, Some, None, unwrap_or, is_none, Ok, refl, sym, ap, ◌∙◌, subst, arith}
use Rattle.std.proofs.lemmas.List.Sums.{sum_by-cons}
use Rattle.pc_messages.specs.declared.kind.Kind.{Kind}
use Rattle.pc_messages.specs.declared.kind.Kind.TheVariants as kind
use Rattle.pc_messages.specs.State.{phase_of}
use Rattle.pc_messages.specs.declared.reported.Phase.TheVariants.{Ready}
use Rattle.pc_calls.specs.declared.call.Call.{Call}
use Rattle.pc_calls.specs.declared.call.AgentCall.TheVariants.{Associate, Commit, Sleep, Rouse, Config}
use Rattle.pc_calls.specs.declared.call.Call.TheVariants.{Env, Agent, Consume}
use Rattle.pc_calls.specs.declared.call.EnvCall.{EnvCall}
use Rattle.pc_calls.specs.declared.call.EnvCall.TheVariants.{Create, Wake, Block, YieldNow, Preempt, Die, SetAffinity, SetPriority, Tick}
use Rattle.pc_calls.specs.declared.call.Answer.{Answer}
use Rattle.pc_calls.specs.declared.limits.Limits.{Limits}
use Rattle.pc_calls.specs.declared.refusal.Refusal.{Refusal}
use Rattle.pc_kernel.specs.PlainKernel.{PlainKernel, start, kinds, is_known, threads, aseq}
use Rattle.pc_kernel.specs.Reads.{shown}
use Rattle.pc_kernel.specs.Reads as reads
use Rattle.pc_kernel.specs.Steps.{accepted, after, after_of, at, changed, posting, refused, refusals, replay, reply, reply_of}
use Rattle.pc_kernel.proofs.Always.{IsKept}
use Rattle.pc_kernel.proofs.AlwaysCalls.{known_of, not_false}
use Rattle.pc_kernel.proofs.AlwaysEvery.{always_kept}
use Rattle.pc_kernel.proofs.Posting.{threads-posted_known, threads-posted_new, threads-posted_tick}
use Rattle.pc_kernel.proofs.Refusals.{NoneHold, none_hold}
use Rattle.pc_kernel.proofs.ShownReads.{shown-on, unknown_kinds}
use Rattle.pc_threads.specs.Pages.{AreAccepted, calls_of}
use Rattle.pc_threads.specs.Totals.{created_by, in_all}

-- a call that is answered is not refused
not_refused : (o : Option Refusal) (a b : Answer) → reply_of o a ≡ Ok b → o ≡ None
not_refused None a b e = refl
not_refused (Some why) a b e = cc

after_none : (o : Option Refusal) (P Q : PlainKernel) → o ≡ None → after_of o P Q ≡ P
after_none None P Q e = refl
after_none (Some why) P Q e = cc

pub is_changed : (P : PlainKernel) (call : Call) (answer : Answer) → reply P call ≡ Ok answer → after P call ≡ changed P call
is_changed P call answer e = after_none (refused (shown P) call) (changed P call) P (not_refused (refused (shown P) call) (accepted P call) answer e)

pub none_held : (P : PlainKernel) (call : Call) (answer : Answer) → reply P call ≡ Ok answer → NoneHold (refusals (shown P) call)
none_held P call answer e = none_hold (refusals (shown P) call) (not_refused (refused (shown P) call) (accepted P call) answer e)

some_on : (o : Option ℕ) → is_none o ≡ false → o ≡ Some (unwrap_or o 0)
some_on None e = cc
some_on (Some x) e = refl

-- a thread that is on a CPU is known
pub running_known : (P : PlainKernel) → IsKept P → (c t : ℕ) → P.on c ≡ Some t → is_known P t ≡ true
running_known P h c t e = elim (is_known P t) as (λ b. is_known P t ≡ b → is_known P t ≡ true) [
  | true ↦ λ s. s
  | false ↦ λ s.
      let ready : phase_of (kinds P t) ≡ Some Ready = (h.placed c t).ready e in
      let none : phase_of (kinds P t) ≡ None = ap phase_of (unknown_kinds P t s) in
      let bad : None ≡ Some Ready = sym none ∙ ready in cc
] refl

-- the thread on a CPU that leaves it is known
leaver_known : (P : PlainKernel) → IsKept P → (cpu : ℕ) → not (reads.is_cpu (shown P) cpu) ≡ false → is_none (reads.on (shown P) cpu) ≡ false
    → is_known P (unwrap_or (P.on cpu) 0) ≡ true
leaver_known P h cpu there busy =
    let same : reads.on (shown P) cpu ≡ P.on cpu = shown-on P cpu (not_false (reads.is_cpu (shown P) cpu) there) in
    running_known P h cpu (unwrap_or (P.on cpu) 0) (some_on (P.on cpu) (ap is_none (sym same) ∙ busy))

-- the name of the next thread is not known
next_unknown : (P : PlainKernel) → IsKept P → is_known P (threads P) ≡ false
next_unknown P h = ap (λ (ks : List Kind). nat_lt 0 (length ks)) (h.fresh (threads P) (omega arith))

same_count : (a b : ℕ) → a ≡ b → a ≡ b + 0
same_count a b e = omega (arith, e)

env_counted : (P : PlainKernel) (call : EnvCall) → IsKept P → NoneHold (refusals (shown P) (Env call)) → threads (changed P (Env call)) ≡ threads P + created_by (Env call)
env_counted P (Create queue ready mask) h n =
    let Q : PlainKernel = record P { home = at P.home (threads P) queue } in
    let p = posting P (Create queue ready mask) in
    threads-posted_new Q p.queue record { thread = threads P; number = length (kinds P (threads P)) + 1; kind = kind.Created ready mask } (next_unknown P h)
env_counted P (Wake t) h n =
    same_count (threads (changed P (Env (Wake t)))) (threads P)
    (threads-posted_known P (P.home t) record { thread = t; number = length (kinds P t) + 1; kind = kind.Wakeup } (known_of P t n.0))
env_counted P (Block cpu ran) h n =
    let t = unwrap_or (P.on cpu) 0 in
    same_count (threads (changed P (Env (Block cpu ran)))) (threads P)
    (threads-posted_known (record P { on = at P.on cpu None }) (P.home t) record { thread = t; number = length (kinds P t) + 1; kind = kind.Blocked ran } (leaver_known P h cpu n.0 n.1.0))
env_counted P (YieldNow cpu ran) h n =
    let t = unwrap_or (P.on cpu) 0 in
    same_count (threads (changed P (Env (YieldNow cpu ran)))) (threads P)
    (threads-posted_known (record P { on = at P.on cpu None }) (P.home t) record { thread = t; number = length (kinds P t) + 1; kind = kind.Yield ran } (leaver_known P h cpu n.0 n.1.0))
env_counted P (Preempt cpu ran) h n =
    let t = unwrap_or (P.on cpu) 0 in
    same_count (threads (changed P (Env (Preempt cpu ran)))) (threads P)
    (threads-posted_known (record P { on = at P.on cpu None }) (P.home t) record { thread = t; number = length (kinds P t) + 1; kind = kind.Preempted ran } (leaver_known P h cpu n.0 n.1.0))
env_counted P (Die cpu ran) h n =
    let t = unwrap_or (P.on cpu) 0 in
    same_count (threads (changed P (Env (Die cpu ran)))) (threads P)
    (threads-posted_known (record P { on = at P.on cpu None }) (P.home t) record { thread = t; number = length (kinds P t) + 1; kind = kind.Dead ran } (leaver_known P h cpu n.0 n.1.0))
env_counted P (SetAffinity t mask) h n =
    same_count (threads (changed P (Env (SetAffinity t mask)))) (threads P)
    (threads-posted_known P (P.home t) record { thread = t; number = length (kinds P t) + 1; kind = kind.Affinity mask } (known_of P t n.0))
env_counted P (SetPriority t level) h n =
    same_count (threads (changed P (Env (SetPriority t level)))) (threads P)
    (threads-posted_known P (P.home t) record { thread = t; number = length (kinds P t) + 1; kind = kind.Priority level } (known_of P t n.0))
env_counted P (Tick cpu) h n = same_count (threads (changed P (Env (Tick cpu)))) (threads P) (threads-posted_tick P cpu cpu)

pub call_counted : (P : PlainKernel) (call : Call) → IsKept P → NoneHold (refusals (shown P) call) → threads (changed P call) ≡ threads P + created_by call
call_counted P (Env call) h n = env_counted P call h n
call_counted P (Consume cpu count) h n = omega arith
call_counted P (Agent (Associate t queue number)) h n = omega arith
call_counted P (Agent (Commit cpu t aseq)) h n = omega arith
call_counted P (Agent (Sleep cpu aseq)) h n = omega arith
call_counted P (Agent (Rouse cpu)) h n = omega arith
call_counted P (Agent (Config queue None)) h n = omega arith
call_counted P (Agent (Config queue (Some cpu))) h n = omega arith

pub replay_last : (P : PlainKernel) (calls : List Call) (call : Call) → replay P (calls ++ call ∷ []) ≡ after (replay P calls) call
replay_last P [] call = refl
replay_last P (first ∷ calls) call = replay_last (after P first) calls call

-- the known threads are those that were created
pub threads_counted : (limits : Limits) (before : List Call) (listed : List (Call × Answer)) → AreAccepted (replay (start limits) before) listed
    → threads (replay (replay (start limits) before) (calls_of listed)) ≡ threads (replay (start limits) before) + in_all created_by listed
threads_counted limits before [] are = omega arith
threads_counted limits before ((call, answer) ∷ listed) are =
    let P = replay (start limits) before in
    let last : replay (start limits) (before ++ call ∷ []) ≡ after P call = replay_last (start limits) before call in
    let step : threads (after P call) ≡ threads P + created_by call = ap threads (is_changed P call answer are.0) ∙ call_counted P call (always_kept limits before) (none_held P call answer are.0) in
    let rest = threads_counted limits (before ++ call ∷ []) listed (subst (λ Q. AreAccepted Q listed) (sym last) are.1) in
    let rest' : threads (replay (after P call) (calls_of listed)) ≡ threads (after P call) + in_all created_by listed =
    subst (λ Q. threads (replay Q (calls_of listed)) ≡ threads Q + in_all created_by listed) last rest in
    let more : in_all created_by ((call, answer) ∷ listed) ≡ created_by call + in_all created_by listed = sum_by-cons (λ (entry : Call × Answer). created_by entry.0) (call, answer) listed in
    let whole : threads (replay (replay (start limits) before) (calls_of ((call, answer) ∷ listed))) ≡ threads (replay (after P call) (calls_of listed)) = refl in
    omega (arith, whole, rest', step, more)
