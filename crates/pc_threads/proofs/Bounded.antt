-- No queue loses more than was posted to it, so what a book's calls consume is bounded.
use Rattle.std.proofs.Common.{ℕ, suc, zero, ◌≡◌, ◌+◌, ◌*◌, ◌≤◌, ◌<◌, ◌==◌, true, nat_lt, List, [], ◌∷◌, length, Some, None, slice_get, refl, ap, ◌∙◌, subst, arith, inl, inr, if◌then◌else◌}
use Rattle.std.proofs.lemmas.Bool.{ltb-true, lt-ltb}
use Rattle.std.proofs.lemmas.List.Sums.{sum_by-cons}
use Rattle.std.proofs.lemmas.Bool.Decides.{eqb_tells, nat_tests}
use Rattle.pc_calls.specs.declared.call.Call.{Call}
use Rattle.pc_calls.specs.declared.call.AgentCall.TheVariants.{Associate, Commit, Sleep, Rouse, Config}
use Rattle.pc_calls.specs.declared.call.Call.TheVariants.{Env, Agent, Consume}
use Rattle.pc_calls.specs.declared.call.EnvCall.{EnvCall}
use Rattle.pc_calls.specs.declared.call.EnvCall.TheVariants.{Create, Wake, Block, YieldNow, Preempt, Die, SetAffinity, SetPriority, Tick}
use Rattle.pc_calls.specs.declared.call.Answer.{Answer}
use Rattle.pc_calls.specs.declared.limits.Limits.{Limits}
use Rattle.pc_calls.specs.declared.limits.TheConstants.{MOST_CPUS, MOST_POSTS}
use Rattle.pc_kernel.specs.Answers.{Shows}
use Rattle.pc_kernel.specs.PlainKernel.{PlainKernel, start, aseq}
use Rattle.pc_kernel.specs.Reads.{Reads, cpu_row, seen, shown}
use Rattle.pc_kernel.specs.Reads as reads
use Rattle.pc_kernel.specs.Rows.{KernelRows}
use Rattle.pc_kernel.specs.Sound.{IsSound}
use Rattle.pc_kernel.specs.Steps.{after, changed, refusals, replay}
use Rattle.pc_kernel.proofs.AlwaysCalls.{not_false}
use Rattle.pc_kernel.proofs.Ranges.{ranges}
use Rattle.pc_kernel.proofs.Refusals.{NoneHold}
use Rattle.pc_threads.specs.Pages.{AreAccepted, IsReplay, Pages, calls_of, replayed}
use Rattle.pc_threads.specs.Totals.{committed_by, consumed_by, in_all, taken_over_by}
use Rattle.pc_threads.proofs.Counted.{is_changed, none_held}

-- of a function of numbers, the sum of its first values
abbrev below : (ℕ → ℕ) → ℕ → ℕ
below f zero = 0
below f (suc n) = below f n + f n

-- more at one place
abbrev at_place : ℕ → ℕ → ℕ → ℕ
at_place place more n = if place == n then more else 0

at_same : (place more : ℕ) → at_place place more place ≡ more
at_same place more = elim (eqb_tells place place) [ inl h ↦ rw h.0 refl | inr h ↦ absurd (h.1 refl) ]

at_other : (place more n : ℕ) → (place ≡ n → ⊥) → at_place place more n ≡ 0
at_other place more n away = elim (eqb_tells place n) [ inl h ↦ absurd (away h.1) | inr h ↦ rw h.0 refl ]

below_past : (f g : ℕ → ℕ) (place more n : ℕ) → ((c : ℕ) → g c ≡ f c + at_place place more c) → n ≤ place → below g n ≡ below f n
below_past f g place more zero is past = refl
below_past f g place more (suc n) is past =
    let rest = below_past f g place more n is (omega arith) in
    let here : g n ≡ f n + at_place place more n = is n in
    let none : at_place place more n ≡ 0 = at_other place more n (λ same. absurd (omega (arith, same))) in
    omega (arith, rest, here, none)

below_more : (f g : ℕ → ℕ) (place more n : ℕ) → ((c : ℕ) → g c ≡ f c + at_place place more c) → place < n → below g n ≡ below f n + more
below_more f g place more zero is low = absurd (omega arith)
below_more f g place more (suc n) is low = elim (eqb_tells place n) [
  | inl h ↦
      let rest = below_past f g place more n is (omega (arith, h.1)) in
      let here : g n ≡ f n + at_place place more n = is n in
      let all : at_place place more n ≡ more = rw h.0 refl in
      omega (arith, rest, here, all)
  | inr h ↦
      let away : place < n = search (arith, h.1, low) in
      let rest = below_more f g place more n is away in
      let here : g n ≡ f n + at_place place more n = is n in
      let none : at_place place more n ≡ 0 = rw h.0 refl in
      omega (arith, rest, here, none)
]

below_same : (f g : ℕ → ℕ) (n : ℕ) → ((c : ℕ) → g c ≡ f c) → below g n ≡ below f n
below_same f g zero is = refl
below_same f g (suc n) is = let rest = below_same f g n is in let here : g n ≡ f n = is n in omega (arith, rest, here)

below_most : (f : ℕ → ℕ) (most n : ℕ) → ((c : ℕ) → c < n → f c ≤ most) → below f n ≤ n * most
below_most f most zero is = omega arith
below_most f most (suc n) is =
    let rest = below_most f most n (λ c low. is c (omega arith)) in
    let here : f n ≤ most = is n (omega arith) in
    omega (arith, rest, here)

-- limits stay
limits_changed : (P : PlainKernel) (call : Call) → (changed P call).limits ≡ P.limits
limits_changed P (Env (Create queue ready mask)) = refl
limits_changed P (Env (Wake t)) = refl
limits_changed P (Env (Block cpu ran)) = refl
limits_changed P (Env (YieldNow cpu ran)) = refl
limits_changed P (Env (Preempt cpu ran)) = refl
limits_changed P (Env (Die cpu ran)) = refl
limits_changed P (Env (SetAffinity t mask)) = refl
limits_changed P (Env (SetPriority t level)) = refl
limits_changed P (Env (Tick cpu)) = refl
limits_changed P (Consume cpu count) = refl
limits_changed P (Agent (Associate t queue number)) = refl
limits_changed P (Agent (Commit cpu t aseq)) = refl
limits_changed P (Agent (Sleep cpu aseq)) = refl
limits_changed P (Agent (Rouse cpu)) = refl
limits_changed P (Agent (Config queue None)) = refl
limits_changed P (Agent (Config queue (Some cpu))) = refl

eaten_env : (P : PlainKernel) (call : EnvCall) → (changed P (Env call)).eaten ≡ P.eaten
eaten_env P (Create queue ready mask) = refl
eaten_env P (Wake t) = refl
eaten_env P (Block cpu ran) = refl
eaten_env P (YieldNow cpu ran) = refl
eaten_env P (Preempt cpu ran) = refl
eaten_env P (Die cpu ran) = refl
eaten_env P (SetAffinity t mask) = refl
eaten_env P (SetPriority t level) = refl
eaten_env P (Tick cpu) = refl

no_more : (a b : ℕ) → a ≡ b → a ≡ b + 0
no_more a b e = omega (arith, e)

-- an accepted call raises what was eaten by what it consumes
EatsMore : PlainKernel → Call → ℕ → Type 0
EatsMore P call n = below (changed P call).eaten n ≡ below P.eaten n + consumed_by call

eaten_call : (P : PlainKernel) (call : Call) → NoneHold (refusals (shown P) call) → below (changed P call).eaten P.limits.cpus ≡ below P.eaten P.limits.cpus + consumed_by call
eaten_call P (Env call) n = no_more _ _ (ap (λ f. below f P.limits.cpus) (eaten_env P call))
eaten_call P (Consume cpu count) n =
    below_more P.eaten (changed P (Consume cpu count)).eaten cpu count P.limits.cpus
    (λ c. elim (eqb_tells cpu c) [
      | inl h ↦ search (h.0, h.1, arith, nat_tests)
      | inr h ↦ search (h.0, h.1, arith, nat_tests)
    ])
    (ltb-true cpu P.limits.cpus (not_false (reads.is_cpu (shown P) cpu) n.0))
eaten_call P (Agent (Associate t queue number)) n = omega arith
eaten_call P (Agent (Commit cpu t aseq)) n = omega arith
eaten_call P (Agent (Sleep cpu aseq)) n = omega arith
eaten_call P (Agent (Rouse cpu)) n = omega arith
eaten_call P (Agent (Config queue None)) n = omega arith
eaten_call P (Agent (Config queue (Some cpu))) n = omega arith

-- all that was eaten is what the listed calls consumed
eaten_all : (P : PlainKernel) (listed : List (Call × Answer)) → AreAccepted P listed
    → ((replay P (calls_of listed)).limits ≡ P.limits) × (below (replay P (calls_of listed)).eaten P.limits.cpus ≡ below P.eaten P.limits.cpus + in_all consumed_by listed)
eaten_all P [] are = (refl, omega arith)
eaten_all P ((call, answer) ∷ listed) are =
    let is : after P call ≡ changed P call = is_changed P call answer are.0 in
    let limits : (after P call).limits ≡ P.limits = ap (λ (Q : PlainKernel). Q.limits) is ∙ limits_changed P call in
    let step : below (after P call).eaten P.limits.cpus ≡ below P.eaten P.limits.cpus + consumed_by call =
    ap (λ (Q : PlainKernel). below Q.eaten P.limits.cpus) is ∙ eaten_call P call (none_held P call answer are.0) in
    let rest = eaten_all (after P call) listed are.1 in
    let rest' : below (replay (after P call) (calls_of listed)).eaten P.limits.cpus ≡ below (after P call).eaten P.limits.cpus + in_all consumed_by listed =
    subst (λ (l : Limits). below (replay (after P call) (calls_of listed)).eaten l.cpus ≡ below (after P call).eaten l.cpus + in_all consumed_by listed) limits rest.1 in
    let more : in_all consumed_by ((call, answer) ∷ listed) ≡ consumed_by call + in_all consumed_by listed = sum_by-cons (λ (entry : Call × Answer). consumed_by entry.0) (call, answer) listed in
    let whole : below (replay P (calls_of ((call, answer) ∷ listed))).eaten P.limits.cpus ≡ below (replay (after P call) (calls_of listed)).eaten P.limits.cpus = refl in
    (rest.0 ∙ limits, omega (arith, whole, rest', step, more))

zeros : (n : ℕ) → below (λ c. 0) n ≡ 0
zeros zero = refl
zeros (suc n) = let rest = zeros n in omega (arith, rest)

-- the posts to a queue of a CPU that is there
posts_few : (k : KernelRows) (P : PlainKernel) (c : ℕ) → IsSound k → Shows k P → c < P.limits.cpus → aseq P c ≤ MOST_POSTS
posts_few k P c sound shows low =
    let there : slice_get k.cpus c ≡ (shown P).cpu c = ap (λ (r : Reads). r.cpu c) shows.reads in
    let yes : nat_lt c P.limits.cpus ≡ true = lt-ltb c P.limits.cpus low in
    let row : slice_get k.cpus c ≡ Some (cpu_row P c) = there ∙ rw yes refl in
    let fits = (sound.cpu c (cpu_row P c) row).posts in
    let few = (ranges k.limits sound.limits).few_posts in
    omega (arith, fits, few)

-- what a book's calls consume is bounded
pub consumed_few : (book : Pages) → IsSound book.kernel → IsReplay book → in_all consumed_by book.calls ≤ MOST_CPUS * MOST_POSTS
consumed_few book sound h =
    let P = replayed book in
    let S = start book.kernel.limits in
    let all = eaten_all S book.calls h.accepted in
    let cpus : P.limits.cpus ≡ book.kernel.limits.cpus = ap (λ (l : Limits). l.cpus) all.0 in
    let none : below S.eaten book.kernel.limits.cpus ≡ 0 = zeros book.kernel.limits.cpus in
    let most : below P.eaten book.kernel.limits.cpus ≤ book.kernel.limits.cpus * MOST_POSTS =
    below_most P.eaten MOST_POSTS book.kernel.limits.cpus (λ c low.
    let e = h.shown.eaten c in
    let a = posts_few book.kernel P c sound h.shown (omega (arith, cpus, low)) in
    omega (arith, e, a)) in
    let few = (ranges book.kernel.limits sound.limits).few_cpus in
    omega (arith, all.1, none, most, few)

one_each : (by : Call → ℕ) → ((call : Call) → by call ≤ 1) → (listed : List (Call × Answer)) → in_all by listed ≤ length listed
one_each by few [] = omega arith
one_each by few (entry ∷ listed) =
    let rest = one_each by few listed in
    let here = few entry.0 in
    let more : in_all by (entry ∷ listed) ≡ by entry.0 + in_all by listed = sum_by-cons (λ (e : Call × Answer). by e.0) entry listed in
    omega (arith, rest, here, more)

one_committed : (call : Call) → committed_by call ≤ 1
one_committed (Env call) = omega arith
one_committed (Consume cpu count) = omega arith
one_committed (Agent (Associate t queue number)) = omega arith
one_committed (Agent (Commit cpu t aseq)) = omega arith
one_committed (Agent (Sleep cpu aseq)) = omega arith
one_committed (Agent (Rouse cpu)) = omega arith
one_committed (Agent (Config queue target)) = omega arith

one_taken_over : (call : Call) → taken_over_by call ≤ 1
one_taken_over (Env call) = omega arith
one_taken_over (Consume cpu count) = omega arith
one_taken_over (Agent (Associate t queue number)) = omega arith
one_taken_over (Agent (Commit cpu t aseq)) = omega arith
one_taken_over (Agent (Sleep cpu aseq)) = omega arith
one_taken_over (Agent (Rouse cpu)) = omega arith
one_taken_over (Agent (Config queue target)) = omega arith

-- a list of less than 2^64 calls has less than 2^64 commits, and as few threads are taken over
pub committed_few : (listed : List (Call × Answer)) → in_all committed_by listed ≤ length listed
committed_few = one_each committed_by one_committed

pub taken_over_few : (listed : List (Call × Answer)) → in_all taken_over_by listed ≤ length listed
taken_over_few = one_each taken_over_by one_taken_over
