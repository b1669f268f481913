-- Each accepted commit puts a thread on an idle CPU, and each call by which a thread leaves its CPU takes one off; where all threads are dead, none runs.
use Rattle.std.proofs.Common.{ℕ, suc, zero, ◌≡◌, ◌≢◌, ◌+◌, ◌≤◌, ◌<◌, Bool, true, false, not, List, [], ◌∷◌, ◌++◌, length, cond, count_by, Option, Some, None, is_some, is_none, unwrap_or, refl, sym, ap, ◌∙◌, subst, arith, inl, inr}
use Rattle.std.specs.List.{range_with_len}
use Rattle.std.proofs.lemmas.Bool.{ltb-true}
use Rattle.std.proofs.lemmas.Bool.Decides.{eqb_tells}
use Rattle.std.proofs.lemmas.List.Sums.{sum_by-cons, count_by-le-length}
use Rattle.std.proofs.lemmas.List.FromFn.{length-range_with_len}
use Rattle.pc_messages.specs.State.{phase_of, phase_given}
use Rattle.pc_messages.specs.declared.kind.Kind.{Kind}
use Rattle.pc_messages.specs.declared.kind.Kind.TheVariants as kind
use Rattle.pc_messages.specs.declared.message.Message.{Message}
use Rattle.pc_messages.specs.declared.message.Item.TheVariants as item
use Rattle.pc_messages.specs.declared.reported.Phase.{Phase}
use Rattle.pc_messages.specs.declared.reported.Phase.TheVariants as phase
use Rattle.pc_messages.proofs.States.{last_given-push, or_else}
use Rattle.pc_calls.specs.declared.call.Call.{Call}
use Rattle.pc_calls.specs.declared.call.AgentCall.TheVariants.{Associate, Commit, Sleep, Rouse, Config}
use Rattle.pc_calls.specs.declared.call.Call.TheVariants.{Env, Agent, Consume}
use Rattle.pc_calls.specs.declared.call.EnvCall.{EnvCall}
use Rattle.pc_calls.specs.declared.call.EnvCall.TheVariants.{Create, Wake, Block, YieldNow, Preempt, Die, SetAffinity, SetPriority, Tick}
use Rattle.pc_calls.specs.declared.call.Answer.{Answer}
use Rattle.pc_calls.specs.declared.limits.Limits.{Limits}
use Rattle.pc_kernel.specs.PlainKernel.{PlainKernel, start, kinds, is_known, threads}
use Rattle.pc_kernel.specs.Reads.{shown}
use Rattle.pc_kernel.specs.Reads as reads
use Rattle.pc_kernel.specs.Steps.{after, at, changed, is_blocked, is_dead, posted, refusals, replay}
use Rattle.pc_kernel.proofs.Always.{IsKept}
use Rattle.pc_kernel.proofs.AlwaysCalls.{not_false}
use Rattle.pc_kernel.proofs.AlwaysEvery.{always_kept, dense}
use Rattle.pc_kernel.proofs.Posting.{kinds_quiet, kinds_told, quiet_other, telling_same, threads-posted_known}
use Rattle.pc_kernel.proofs.Refusals.{NoneHold, commit_passes}
use Rattle.pc_kernel.proofs.ShownReads.{shown-kinds, shown-on}
use Rattle.pc_threads.specs.Pages.{AreAccepted, IsReplay, Pages, calls_of, replayed}
use Rattle.pc_threads.proofs.Counted.{call_counted, is_changed, none_held, replay_last, running_known, threads_counted}
use Rattle.pc_threads.specs.Totals.{committed_by, created_by, died_by, in_all, left_by, running_on}

-- 1 where it is so
abbrev tally : Bool → ℕ
tally b = cond b 1 0

-- a count over a range, where the test changes at one place, or at none
count_same : (f g : ℕ → Bool) (a n : ℕ) → ((c : ℕ) → a ≤ c → c < a + n → g c ≡ f c) → count_by g (range_with_len a n) ≡ count_by f (range_with_len a n)
count_same f g a zero is = refl
count_same f g a (suc n) is =
    let rest = count_same f g (a + 1) n (λ c low high. is c (omega arith) (omega arith)) in
    let here : tally (g a) ≡ tally (f a) = ap (λ b. tally b) (is a (omega arith) (omega arith)) in
    let new : count_by g (range_with_len a (suc n)) ≡ tally (g a) + count_by g (range_with_len (a + 1) n) = sum_by-cons (λ c. tally (g c)) a (range_with_len (a + 1) n) in
    let old : count_by f (range_with_len a (suc n)) ≡ tally (f a) + count_by f (range_with_len (a + 1) n) = sum_by-cons (λ c. tally (f c)) a (range_with_len (a + 1) n) in
    omega (arith, rest, here, new, old)

count_more : (f g : ℕ → Bool) (place a n : ℕ) → ((c : ℕ) → c ≢ place → g c ≡ f c) → f place ≡ false → g place ≡ true → a ≤ place → place < a + n
    → count_by g (range_with_len a n) ≡ count_by f (range_with_len a n) + 1
count_more f g place a zero is off on low high = absurd (omega arith)
count_more f g place a (suc n) is off on low high =
    let new : count_by g (range_with_len a (suc n)) ≡ tally (g a) + count_by g (range_with_len (a + 1) n) = sum_by-cons (λ c. tally (g c)) a (range_with_len (a + 1) n) in
    let old : count_by f (range_with_len a (suc n)) ≡ tally (f a) + count_by f (range_with_len (a + 1) n) = sum_by-cons (λ c. tally (f c)) a (range_with_len (a + 1) n) in
    elim (eqb_tells a place) [
      | inl h ↦
          let rest = count_same f g (a + 1) n (λ c above below. is c (λ same. absurd (omega (arith, same, h.1)))) in
          let here : tally (g a) ≡ 1 = ap (λ p. tally (g p)) h.1 ∙ ap (λ b. tally b) on in
          let was : tally (f a) ≡ 0 = ap (λ p. tally (f p)) h.1 ∙ ap (λ b. tally b) off in
          omega (arith, rest, here, was, new, old)
      | inr h ↦
          let above : a < place = search (arith, h.1, low) in
          let rest = count_more f g place (a + 1) n is off on (omega arith) (omega arith) in
          let here : tally (g a) ≡ tally (f a) = ap (λ b. tally b) (is a h.1) in
          omega (arith, rest, here, new, old)
    ]

-- where as many pass as there are, all do
count_all : (p : ℕ → Bool) (a n : ℕ) → count_by p (range_with_len a n) ≡ n → (c : ℕ) → a ≤ c → c < a + n → p c ≡ true
count_all p a zero e c low high = absurd (omega arith)
count_all p a (suc n) e c low high =
    let most = count_by-le-length p (range_with_len (a + 1) n) in
    let long = length-range_with_len (a + 1) n in
    let all : count_by p (range_with_len a (suc n)) ≡ tally (p a) + count_by p (range_with_len (a + 1) n) = sum_by-cons (λ c. tally (p c)) a (range_with_len (a + 1) n) in
    elim (p a) as (λ b. p a ≡ b → tally (p a) ≡ tally b → p c ≡ true) [
      | true ↦ λ yes one. elim (eqb_tells c a) [
        | inl h ↦ ap p h.1 ∙ yes
        | inr h ↦
            let above : a < c = search (arith, h.1, low) in
            count_all p (a + 1) n (omega (arith, e, all, one)) c (omega arith) (omega arith)
      ]
      | false ↦ λ no none. absurd (omega (arith, e, all, none, most, long))
    ] refl refl

count_none : (p : ℕ → Bool) (a n : ℕ) → ((c : ℕ) → p c ≡ false) → count_by p (range_with_len a n) ≡ 0
count_none p a zero is = refl
count_none p a (suc n) is =
    let rest = count_none p (a + 1) n is in
    let here : tally (p a) ≡ 0 = ap (λ b. tally b) (is a) in
    let all : count_by p (range_with_len a (suc n)) ≡ tally (p a) + count_by p (range_with_len (a + 1) n) = sum_by-cons (λ c. tally (p c)) a (range_with_len (a + 1) n) in
    omega (arith, rest, here, all)

-- what is on a CPU, where that of one is replaced
at_same : (f : ℕ → Option ℕ) (place : ℕ) (o : Option ℕ) → at f place o place ≡ o
at_same f place o = elim (eqb_tells place place) [ inl h ↦ rw h.0 refl | inr h ↦ absurd (h.1 refl) ]

at_other : (f : ℕ → Option ℕ) (place : ℕ) (o : Option ℕ) (c : ℕ) → c ≢ place → at f place o c ≡ f c
at_other f place o c away = elim (eqb_tells c place) [ inl h ↦ absurd (away h.1) | inr h ↦ rw h.0 refl ]

-- on how many CPUs a thread runs
abbrev busy : (ℕ → Option ℕ) → ℕ → ℕ
busy on n = count_by (λ c. is_some (on c)) (range_with_len 0 n)

some_is : (o : Option ℕ) → is_none o ≡ false → is_some o ≡ true
some_is None e = cc
some_is (Some x) e = refl

left_one : (on : ℕ → Option ℕ) (cpu n : ℕ) → is_none (on cpu) ≡ false → cpu < n → busy (at on cpu None) n + 1 ≡ busy on n
left_one on cpu n some low =
    sym (count_more (λ c. is_some (at on cpu None c)) (λ c. is_some (on c)) cpu 0 n (λ c away. ap is_some (sym (at_other on cpu None c away)))
    (ap is_some (at_same on cpu None)) (some_is (on cpu) some) (omega arith) (omega arith))

came_one : (on : ℕ → Option ℕ) (cpu t n : ℕ) → is_some (on cpu) ≡ false → cpu < n → busy (at on cpu (Some t)) n ≡ busy on n + 1
came_one on cpu t n none low =
    count_more (λ c. is_some (on c)) (λ c. is_some (at on cpu (Some t) c)) cpu 0 n (λ c away. ap is_some (at_other on cpu (Some t) c away))
    none (ap is_some (at_same on cpu (Some t))) (omega arith) (omega arith)

low_of : (P : PlainKernel) (c : ℕ) → not (reads.is_cpu (shown P) c) ≡ false → c < P.limits.cpus
low_of P c e = ltb-true c P.limits.cpus (not_false (reads.is_cpu (shown P) c) e)

leaves : (P : PlainKernel) (cpu : ℕ) → not (reads.is_cpu (shown P) cpu) ≡ false → is_none (reads.on (shown P) cpu) ≡ false
    → busy (at P.on cpu None) P.limits.cpus + 1 ≡ busy P.on P.limits.cpus
leaves P cpu there some = left_one P.on cpu P.limits.cpus (ap is_none (sym (shown-on P cpu (not_false (reads.is_cpu (shown P) cpu) there))) ∙ some) (low_of P cpu there)

-- what an accepted call does to the count of CPUs on which a thread runs
abbrev IsBalanced : PlainKernel → Call → Type 0
IsBalanced P call = running_on (changed P call) + left_by call ≡ running_on P + committed_by call

env_balanced : (P : PlainKernel) (call : EnvCall) → NoneHold (refusals (shown P) (Env call)) → IsBalanced P (Env call)
env_balanced P (Create queue ready mask) n = refl
env_balanced P (Wake t) n = refl
env_balanced P (Block cpu ran) n = let one = leaves P cpu n.0 n.1.0 in omega (arith, one)
env_balanced P (YieldNow cpu ran) n = let one = leaves P cpu n.0 n.1.0 in omega (arith, one)
env_balanced P (Preempt cpu ran) n = let one = leaves P cpu n.0 n.1.0 in omega (arith, one)
env_balanced P (Die cpu ran) n = let one = leaves P cpu n.0 n.1.0 in omega (arith, one)
env_balanced P (SetAffinity t mask) n = refl
env_balanced P (SetPriority t level) n = refl
env_balanced P (Tick cpu) n = refl

call_balanced : (P : PlainKernel) (call : Call) → NoneHold (refusals (shown P) call) → IsBalanced P call
call_balanced P (Env call) n = env_balanced P call n
call_balanced P (Consume cpu count) n = refl
call_balanced P (Agent (Associate t queue number)) n = refl
call_balanced P (Agent (Commit cpu t aseq)) n =
    let passes = commit_passes (shown P) cpu t aseq n in
    let idle : is_some (P.on cpu) ≡ false = ap is_some (sym (shown-on P cpu (not_false (reads.is_cpu (shown P) cpu) passes.there))) ∙ passes.idle in
    let one = came_one P.on cpu t P.limits.cpus idle (low_of P cpu passes.there) in
    omega (arith, one)
call_balanced P (Agent (Sleep cpu aseq)) n = refl
call_balanced P (Agent (Rouse cpu)) n = refl
call_balanced P (Agent (Config queue None)) n = refl
call_balanced P (Agent (Config queue (Some cpu))) n = refl

-- which threads are dead, and how many of the first so many
abbrev is_gone : PlainKernel → ℕ → Bool
is_gone P t = is_dead (phase_of (kinds P t))

abbrev gone : PlainKernel → ℕ → ℕ
gone P m = count_by (is_gone P) (range_with_len 0 m)

abbrev message : ℕ → ℕ → Kind → Message
message t n k = record { thread = t; number = n; kind = k }

-- one more message of a thread
gone_other : (P : PlainKernel) (q t n : ℕ) (k : Kind) (s : ℕ) → s ≢ t → is_gone (posted P q (item.Thread (message t n k))) s ≡ is_gone P s
gone_other P q t n k s away = ap (λ ks. is_dead (phase_of ks)) (kinds_quiet P q (item.Thread (message t n k)) s (quiet_other s (message t n k) (λ same. away (sym same))))

gone_after : (P : PlainKernel) (q t n : ℕ) (k : Kind) → is_gone (posted P q (item.Thread (message t n k))) t ≡ is_dead (or_else (phase_given k) (phase_of (kinds P t)))
gone_after P q t n k =
    ap (λ ks. is_dead (phase_of ks)) (kinds_told P q (item.Thread (message t n k)) t (message t n k) (telling_same (message t n k)))
    ∙ ap is_dead (last_given-push phase_given (kinds P t) k)

gone_kept : (P : PlainKernel) (q t n m : ℕ) (k : Kind) → is_dead (or_else (phase_given k) (phase_of (kinds P t))) ≡ is_gone P t
    → gone (posted P q (item.Thread (message t n k))) m ≡ gone P m
gone_kept P q t n m k is =
    count_same (is_gone P) (is_gone (posted P q (item.Thread (message t n k)))) 0 m (λ s low high. elim (eqb_tells s t) [
      | inl h ↦ ap (is_gone (posted P q (item.Thread (message t n k)))) h.1 ∙ gone_after P q t n k ∙ is ∙ ap (is_gone P) (sym h.1)
      | inr h ↦ gone_other P q t n k s h.1
    ])

gone_more : (P : PlainKernel) (q t n m : ℕ) (k : Kind) → is_gone P t ≡ false → is_dead (or_else (phase_given k) (phase_of (kinds P t))) ≡ true → t < m
    → gone (posted P q (item.Thread (message t n k))) m ≡ gone P m + 1
gone_more P q t n m k was is low =
    count_more (is_gone P) (is_gone (posted P q (item.Thread (message t n k)))) t 0 m (λ s away. gone_other P q t n k s away) was (gone_after P q t n k ∙ is) (omega arith) (omega arith)

-- who is blocked or ready is not dead
blocked_lives : (o : Option Phase) → is_blocked o ≡ true → is_dead o ≡ false
blocked_lives None e = cc
blocked_lives (Some phase.Ready) e = refl
blocked_lives (Some phase.Blocked) e = refl
blocked_lives (Some phase.Dead) e = cc

some_on : (o : Option ℕ) → is_none o ≡ false → o ≡ Some (unwrap_or o 0)
some_on None e = cc
some_on (Some x) e = refl

running_lives : (P : PlainKernel) → IsKept P → (c t : ℕ) → P.on c ≡ Some t → is_gone P t ≡ false
running_lives P h c t on = ap is_dead ((h.placed c t).ready on)

-- the thread that leaves a CPU
leaver : (P : PlainKernel) (cpu : ℕ) → not (reads.is_cpu (shown P) cpu) ≡ false → is_none (reads.on (shown P) cpu) ≡ false → P.on cpu ≡ Some (unwrap_or (P.on cpu) 0)
leaver P cpu there busy = some_on (P.on cpu) (ap is_none (sym (shown-on P cpu (not_false (reads.is_cpu (shown P) cpu) there))) ∙ busy)

same_no_more : (a b : ℕ) → a ≡ b → a ≡ b + 0
same_no_more a b e = omega (arith, e)

abbrev Dies : PlainKernel → Call → ℕ → Type 0
Dies P call m = gone (changed P call) m ≡ gone P m + died_by call

left_alive : (P : PlainKernel) (cpu m : ℕ) (k : Kind) → IsKept P → not (reads.is_cpu (shown P) cpu) ≡ false → is_none (reads.on (shown P) cpu) ≡ false
    → ((o : Option Phase) → is_dead (or_else (phase_given k) o) ≡ false)
    → gone (posted (record P { on = at P.on cpu None }) (P.home (unwrap_or (P.on cpu) 0)) (item.Thread (message (unwrap_or (P.on cpu) 0) (length (kinds P (unwrap_or (P.on cpu) 0)) + 1) k))) m ≡ gone P m + 0
left_alive P cpu m k h there busy lives =
    let t = unwrap_or (P.on cpu) 0 in
    same_no_more _ (gone P m) (gone_kept (record P { on = at P.on cpu None }) (P.home t) t (length (kinds P t) + 1) m k
    (lives (phase_of (kinds P t)) ∙ sym (running_lives P h cpu t (leaver P cpu there busy))))

env_dies : (P : PlainKernel) (call : EnvCall) (m : ℕ) → IsKept P → threads (changed P (Env call)) ≤ m → NoneHold (refusals (shown P) (Env call)) → Dies P (Env call) m
env_dies P (Create queue ready mask) m h most n =
    let t = threads P in
    let Q : PlainKernel = record P { home = at P.home t queue } in
    let none : is_gone P t ≡ false = ap (λ ks. is_dead (phase_of ks)) (h.fresh t (omega arith)) in
    let lives : is_dead (or_else (phase_given (kind.Created ready mask)) (phase_of (kinds P t))) ≡ false =
    elim ready as (λ b. is_dead (or_else (phase_given (kind.Created b mask)) (phase_of (kinds P t))) ≡ false) [ true ↦ refl | false ↦ refl ] in
    same_no_more _ (gone P m) (gone_kept Q (at P.home t queue t) t (length (kinds P t) + 1) m (kind.Created ready mask) (lives ∙ sym none))
env_dies P (Wake t) m h most n =
    let was : is_gone P t ≡ false = blocked_lives (phase_of (kinds P t)) (ap (λ ks. is_blocked (phase_of ks)) (sym (shown-kinds P t)) ∙ not_false (is_blocked (reads.phase (shown P) t)) n.1.1.0) in
    same_no_more _ (gone P m) (gone_kept P (P.home t) t (length (kinds P t) + 1) m kind.Wakeup (sym was))
env_dies P (Block cpu ran) m h most n = left_alive P cpu m (kind.Blocked ran) h n.0 n.1.0 (λ o. refl)
env_dies P (YieldNow cpu ran) m h most n = left_alive P cpu m (kind.Yield ran) h n.0 n.1.0 (λ o. refl)
env_dies P (Preempt cpu ran) m h most n = left_alive P cpu m (kind.Preempted ran) h n.0 n.1.0 (λ o. refl)
env_dies P (Die cpu ran) m h most n =
    let t = unwrap_or (P.on cpu) 0 in
    let on : P.on cpu ≡ Some t = leaver P cpu n.0 n.1.0 in
    let known : is_known P t ≡ true = running_known P h cpu t on in
    let low : t < threads P = ltb-true t (threads P) (sym (dense P h t) ∙ known) in
    let Q : PlainKernel = record P { on = at P.on cpu None } in
    let same : threads (changed P (Env (Die cpu ran))) ≡ threads P = threads-posted_known Q (P.home t) (message t (length (kinds P t) + 1) (kind.Dead ran)) known in
    gone_more Q (P.home t) t (length (kinds P t) + 1) m (kind.Dead ran) (running_lives P h cpu t on) refl (omega (arith, low, same, most))
env_dies P (SetAffinity t mask) m h most n = same_no_more _ (gone P m) (gone_kept P (P.home t) t (length (kinds P t) + 1) m (kind.Affinity mask) refl)
env_dies P (SetPriority t level) m h most n = same_no_more _ (gone P m) (gone_kept P (P.home t) t (length (kinds P t) + 1) m (kind.Priority level) refl)
env_dies P (Tick cpu) m h most n =
    same_no_more _ (gone P m) (count_same (is_gone P) (is_gone (changed P (Env (Tick cpu)))) 0 m (λ s low high.
    ap (λ ks. is_dead (phase_of ks)) (kinds_quiet P cpu (item.Tick cpu) s (record { kind = refl; message = refl; not_of = refl }))))

call_dies : (P : PlainKernel) (call : Call) (m : ℕ) → IsKept P → threads (changed P call) ≤ m → NoneHold (refusals (shown P) call) → Dies P call m
call_dies P (Env call) m h most n = env_dies P call m h most n
call_dies P (Consume cpu count) m h most n = omega arith
call_dies P (Agent (Associate t queue number)) m h most n = omega arith
call_dies P (Agent (Commit cpu t aseq)) m h most n = omega arith
call_dies P (Agent (Sleep cpu aseq)) m h most n = omega arith
call_dies P (Agent (Rouse cpu)) m h most n = omega arith
call_dies P (Agent (Config queue None)) m h most n = omega arith
call_dies P (Agent (Config queue (Some cpu))) m h most n = omega arith

-- what all listed calls do
all_balanced : (P : PlainKernel) (listed : List (Call × Answer)) → AreAccepted P listed
    → running_on (replay P (calls_of listed)) + in_all left_by listed ≡ running_on P + in_all committed_by listed
all_balanced P [] are = refl
all_balanced P ((call, answer) ∷ listed) are =
    let is : after P call ≡ changed P call = is_changed P call answer are.0 in
    let step : running_on (after P call) + left_by call ≡ running_on P + committed_by call =
    subst (λ Q. running_on Q + left_by call ≡ running_on P + committed_by call) (sym is) (call_balanced P call (none_held P call answer are.0)) in
    let rest = all_balanced (after P call) listed are.1 in
    let left : in_all left_by ((call, answer) ∷ listed) ≡ left_by call + in_all left_by listed = sum_by-cons (λ (entry : Call × Answer). left_by entry.0) (call, answer) listed in
    let come : in_all committed_by ((call, answer) ∷ listed) ≡ committed_by call + in_all committed_by listed = sum_by-cons (λ (entry : Call × Answer). committed_by entry.0) (call, answer) listed in
    let whole : running_on (replay P (calls_of ((call, answer) ∷ listed))) ≡ running_on (replay (after P call) (calls_of listed)) = refl in
    omega (arith, step, rest, left, come, whole)

all_die : (limits : Limits) (before : List Call) (listed : List (Call × Answer)) (m : ℕ) → AreAccepted (replay (start limits) before) listed
    → threads (replay (start limits) before) + in_all created_by listed ≤ m
    → gone (replay (replay (start limits) before) (calls_of listed)) m ≡ gone (replay (start limits) before) m + in_all died_by listed
all_die limits before [] m are most = omega arith
all_die limits before ((call, answer) ∷ listed) m are most =
    let P = replay (start limits) before in
    let last : replay (start limits) (before ++ call ∷ []) ≡ after P call = replay_last (start limits) before call in
    let is : after P call ≡ changed P call = is_changed P call answer are.0 in
    let kept = always_kept limits before in
    let more : in_all created_by ((call, answer) ∷ listed) ≡ created_by call + in_all created_by listed = sum_by-cons (λ (entry : Call × Answer). created_by entry.0) (call, answer) listed in
    let counted : threads (changed P call) ≡ threads P + created_by call = call_counted P call kept (none_held P call answer are.0) in
    let step : gone (after P call) m ≡ gone P m + died_by call =
    ap (λ Q. gone Q m) is ∙ call_dies P call m kept (omega (arith, counted, more, most)) (none_held P call answer are.0) in
    let now : threads (replay (start limits) (before ++ call ∷ [])) ≡ threads P + created_by call = ap threads (last ∙ is) ∙ counted in
    let rest = all_die limits (before ++ call ∷ []) listed m (subst (λ Q. AreAccepted Q listed) (sym last) are.1) (omega (arith, now, more, most)) in
    let rest' : gone (replay (after P call) (calls_of listed)) m ≡ gone (after P call) m + in_all died_by listed =
    subst (λ Q. gone (replay Q (calls_of listed)) m ≡ gone Q m + in_all died_by listed) last rest in
    let died : in_all died_by ((call, answer) ∷ listed) ≡ died_by call + in_all died_by listed = sum_by-cons (λ (entry : Call × Answer). died_by entry.0) (call, answer) listed in
    let whole : gone (replay P (calls_of ((call, answer) ∷ listed))) m ≡ gone (replay (after P call) (calls_of listed)) m = refl in
    omega (arith, whole, rest', step, died)

-- a CPU runs no thread where all are dead
none_on : (P : PlainKernel) → IsKept P → gone P (threads P) ≡ threads P → (c : ℕ) (o : Option ℕ) → P.on c ≡ o → is_some o ≡ false
none_on P h all c None on = refl
none_on P h all c (Some t) on =
    let known : is_known P t ≡ true = running_known P h c t on in
    let low : t < threads P = ltb-true t (threads P) (sym (dense P h t) ∙ known) in
    let dead : is_gone P t ≡ true = count_all (is_gone P) 0 (threads P) all t (omega arith) (omega (arith, low)) in
    let lives : is_gone P t ≡ false = running_lives P h c t on in
    let bad : true ≡ false = sym dead ∙ lives in cc

idle_at_start : (limits : Limits) → running_on (start limits) ≡ 0
idle_at_start limits = count_none (λ c. is_some ((start limits).on c)) 0 limits.cpus (λ c. refl)

-- what a book lists: each thread that was committed left its CPU, or runs there
pub balanced : (book : Pages) → IsReplay book → in_all committed_by book.calls ≡ in_all left_by book.calls + running_on (replayed book)
balanced book h =
    let all = all_balanced (start book.kernel.limits) book.calls h.accepted in
    let none = idle_at_start book.kernel.limits in
    omega (arith, all, none)

-- where as many threads died as were created, each was committed as often as it left its CPU
pub left_again : (book : Pages) → IsReplay book → in_all created_by book.calls ≡ in_all died_by book.calls → in_all committed_by book.calls ≡ in_all left_by book.calls
left_again book h all =
    let P = replayed book in
    let kept = always_kept book.kernel.limits (calls_of book.calls) in
    let counted : threads P ≡ 0 + in_all created_by book.calls = threads_counted book.kernel.limits [] book.calls h.accepted in
    let died : gone P (threads P) ≡ gone (start book.kernel.limits) (threads P) + in_all died_by book.calls = all_die book.kernel.limits [] book.calls (threads P) h.accepted (omega (arith, counted)) in
    let nobody : gone (start book.kernel.limits) (threads P) ≡ 0 = count_none (is_gone (start book.kernel.limits)) 0 (threads P) (λ t. refl) in
    let empty : running_on P ≡ 0 = count_none (λ c. is_some (P.on c)) 0 P.limits.cpus (λ c. none_on P kept (omega (arith, died, nobody, all, counted)) c (P.on c) refl) in
    let balance = balanced book h in
    omega (arith, empty, balance)
