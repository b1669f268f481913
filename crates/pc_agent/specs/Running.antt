-- What an agent does to have a thread run: it picks one of its run list, or takes one over.
use Rattle.std.specs.Prelude.{ℕ, ◌<◌, ◌≤◌, ◌≡◌, ◌⊎◌, ◌↔◌, Bool, true, false, List}
use Rattle.std.specs.Prelude.{[], ◌∷◌, ◌++◌, Option, Some, None, Result, Ok, Err}
use Rattle.std.specs.Prelude.{MatchBool, is_some}
use Rattle.pc_messages.specs.Run.{Run}
use Rattle.pc_messages.specs.State.{state_of}
use Rattle.pc_calls.specs.AgentCalls.{associates, commits}
use Rattle.pc_calls.specs.declared.call.Call.{Call}
use Rattle.pc_calls.specs.declared.refusal.Refusal.{Refusal}
use Rattle.pc_calls.specs.declared.refusal.Refusal.TheVariants.{Busy, NothingReady, NothingToSteal}
use Rattle.pc_calls.specs.declared.refusal.CallFault.{CallFault}
use Rattle.pc_calls.specs.declared.refusal.CallFault.TheVariants.{Refused, OutOfMemory}
use Rattle.pc_kernel.specs.Answers.{Shows}
use Rattle.pc_kernel.specs.PlainKernel.{PlainKernel, kinds, number}
use Rattle.pc_kernel.specs.Reads.{Reads, shown, on, is_pending}
use Rattle.pc_kernel.specs.Rows.{KernelRows}
use Rattle.pc_kernel.specs.Steps.{after, refused}
use Rattle.pc_view.specs.Prefixes.{reports, upto}
use Rattle.pc_agent.specs.declared.agent.Agent.{Agent}
use Rattle.pc_policy.specs.Rules.{Rules}
use Rattle.pc_run_queue.specs.Runs.{may_run}
use Rattle.pc_agent.specs.PlainAgent.{Knowledge, PlainAgent, candidates, may_take, pick_refused, ready_list, stealing}
use Rattle.pc_agent.specs.Shows.{ShowsAgent}

-- the agent's run list after a refused pick: empty where no name of it could be committed, else as it was
abbrev pub left_by : Refusal → List ℕ → List ℕ
left_by NothingReady names = []
left_by refusal names = names

-- the first thread of the run list that the kernel would commit is committed, and what follows it is left
pub record IsCommitted (P : PlainKernel) (run : Run) (p : PlainAgent) (cpu n t : ℕ) (new : Agent)
    (kernel : KernelRows) : Type 0 where
  pub rest : List ℕ
  pub first : ready_list (shown P) cpu n p.list ≡ t ∷ rest
  pub accepted : refused (shown P) (commits cpu t n) ≡ None
  pub after : Shows kernel (after P (commits cpu t n))
  pub agent : ShowsAgent run (record p { list = rest }) new

-- a pick under a count of posts
abbrev pub IsPicked : ℕ → PlainKernel → Run → PlainAgent → Result ℕ Refusal → ℕ → Agent → KernelRows → Type 0
IsPicked n P run p (Ok t) cpu new kernel =
    (pick_refused (shown P) cpu n p.list ≡ None) × IsCommitted P run p cpu n t new kernel
IsPicked n P run p (Err refusal) cpu new kernel =
    (pick_refused (shown P) cpu n p.list ≡ Some refusal)
    × ShowsAgent run (record p { list = left_by refusal p.list }) new

-- the number passes the test, and no lesser one does
pub record IsLeast (test : ℕ → Bool) (t : ℕ) : Type 0 where
  pub passes : test t ≡ true
  pub least : (other : ℕ) → other < t → test other ≡ false

-- this is the least number that passes the test; none is, where no number passes
abbrev pub Finds : (ℕ → Bool) → Option ℕ → Type 0
Finds test None = (t : ℕ) → test t ≡ false
Finds test (Some t) = IsLeast test t

-- the thread stands somewhere, and every other one that does stands behind it, or beside it with a greater name
pub record IsFirst (stands : ℕ → Option ℕ) (t : ℕ) : Type 0 where
  pub place : ℕ
  pub there : stands t ≡ Some place
  pub first : (other behind : ℕ) → stands other ≡ Some behind → (place < behind) ⊎ ((place ≡ behind) × (t ≤ other))

-- this is the thread that stands first; none does, where no thread stands anywhere
abbrev pub FindsFirst : (ℕ → Option ℕ) → Option ℕ → Type 0
FindsFirst stands None = (t : ℕ) → stands t ≡ None
FindsFirst stands (Some t) = IsFirst stands t

-- the call that takes a thread over for a CPU, under the number up to which it is known
abbrev pub takes_up_to : (ℕ → ℕ) → ℕ → ℕ → Call
takes_up_to known cpu t = associates t cpu (known t)

-- where steals are not exact, the first thread that may be taken over is the one of these with the least name
abbrev pub LeastNameIsFirst : Type 0
LeastNameIsFirst =
    (rules : Rules) (r : Reads) (known : Knowledge) (cpu : ℕ) (list : List ℕ) (found : Option ℕ) → rules.exact ≡ false
    → FindsFirst (candidates rules r known cpu list) found
    ↔ Finds (may_take r (λ t. may_run (known.reported t) cpu) list) found

-- why no thread is taken over by these calls, where this is the first of those that may be
abbrev pub take_refused : Reads → (ℕ → Call) → Option ℕ → Option Refusal
take_refused r takes None = Some NothingToSteal
take_refused r takes (Some t) = refused r (takes t)

-- a steal for an idle CPU: of the threads that stand somewhere only the first is tried, by its call; Taken is what
-- holds of a thread that was taken over
abbrev pub TriesFirst : Reads → (ℕ → Option ℕ) → (ℕ → Call) → (ℕ → Type 0) → Result ℕ CallFault → Type 0
TriesFirst r stands takes Taken (Ok t) = FindsFirst stands (Some t) × (refused r (takes t) ≡ None) × Taken t
TriesFirst r stands takes Taken (Err (Refused refusal)) =
    (t : Option ℕ) × FindsFirst stands t × (take_refused r takes t ≡ Some refusal)
TriesFirst r stands takes Taken (Err OutOfMemory) = (t : ℕ) × FindsFirst stands (Some t)

-- a steal: refused first where a thread runs on the CPU
abbrev pub StealsBy : Reads → ℕ → (ℕ → Option ℕ) → (ℕ → Call) → (ℕ → Type 0) → Result ℕ CallFault → Type 0
StealsBy r cpu stands takes Taken result =
    MatchBool (is_some (on r cpu)) (result ≡ Err (Refused Busy)) (TriesFirst r stands takes Taken result)

-- the call by which an agent takes a thread over: up to where its set knows it
abbrev pub takes_over : ℕ → PlainAgent → ℕ → Call
takes_over cpu p t = takes_up_to (upto p.known) cpu t

-- the thread is taken over, and goes to the end of the run list
pub record IsTakenOver (P : PlainKernel) (run : Run) (p : PlainAgent) (cpu t : ℕ) (new : Agent)
    (kernel : KernelRows) : Type 0 where
  pub after : Shows kernel (after P (takes_over cpu p t))
  pub agent : ShowsAgent run (record p { list = p.list ++ t ∷ [] }) new

-- a steal, by what the agent's set in the run tells
abbrev pub Steals : PlainKernel → Run → PlainAgent → Result ℕ CallFault → ℕ → Agent → KernelRows → Type 0
Steals P run p result cpu new kernel =
    StealsBy (shown P) cpu (stealing (shown P) run cpu p) (takes_over cpu p)
    (λ t. IsTakenOver P run p cpu t new kernel) result

-- the agent had seen the thread exactly: all its messages, the state that they report, and none of them waits
pub record IsSeenExactly (P : PlainKernel) (run : Run) (p : PlainAgent) (t : ℕ) : Type 0 where
  pub whole : upto p.known t ≡ number P t
  pub state : reports run p.known t ≡ state_of (kinds P t)
  pub nothing_waits : is_pending (shown P) t ≡ false
