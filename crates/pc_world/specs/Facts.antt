-- What holds of every world that events lead to, and of every step.
use Rattle.std.specs.Prelude.{ℕ, ◌≤◌, ◌≡◌, ◌⊎◌, ◌↔◌, true, false, nat_lt}
use Rattle.std.specs.Prelude.{List, [], ◌++◌, length, take, Some, None, Contains}
use Rattle.pc_messages.specs.Items.{pairs_in}
use Rattle.pc_messages.specs.Run.{Run, IsBegun}
use Rattle.pc_messages.specs.State.{state_of}
use Rattle.pc_messages.specs.declared.message.Item.{Item}
use Rattle.pc_calls.specs.declared.call.AgentCall.TheVariants.{Commit}
use Rattle.pc_calls.specs.declared.call.Call.{Call}
use Rattle.pc_calls.specs.declared.event.Event.{Event}
use Rattle.pc_calls.specs.declared.event.Event.TheVariants.{Agent, Consume, Pick, Steal}
use Rattle.pc_calls.specs.declared.event.Reply.{Reply}
use Rattle.pc_calls.specs.declared.event.Reply.TheVariants.{Associated, Committed, Consumed}
use Rattle.pc_calls.specs.declared.limits.Limits.{Limits}
use Rattle.pc_join.specs.Sets.{has}
use Rattle.pc_kernel.specs.Exact.{IsExactCommit}
use Rattle.pc_kernel.specs.Facts.{HadNoPost, IsAtHome, IsPlaced, waiting}
use Rattle.pc_kernel.specs.PlainKernel.{start, kinds, number, is_known, threads, content}
use Rattle.pc_kernel.specs.Reads.{shown, is_cpu, is_pending}
use Rattle.pc_kernel.specs.Steps.{refused, replay}
use Rattle.pc_view.specs.Prefixes.{reports, upto}
use Rattle.pc_policy.specs.Rankings.{by_levels}
use Rattle.pc_run_queue.specs.Runs.{level_refreshed_as}
use Rattle.pc_agent.specs.PlainAgent.{PlainAgent, Set, copied, threads_in}
use Rattle.pc_agent.specs.Running.{FindsFirst, takes_over}
use Rattle.pc_world.specs.PlainWorld.{PlainWorld}
use Rattle.pc_world.specs.Reached.{Reached}
use Rattle.pc_world.specs.Steps.{Step, stealable}

-- the kernel is where a list of calls leads to
abbrev pub KernelsAreReplays : Type 0
KernelsAreReplays =
    (limits : Limits) (w : PlainWorld) → Reached limits w → (calls : List Call)
    × (w.kernel ≡ replay (start limits) calls)

-- what holds of a kernel after every list of calls holds in every reached world, as the next four: waiting messages
-- stand at home
abbrev pub MessagesStayHome : Type 0
MessagesStayHome = (limits : Limits) (w : PlainWorld) (t : ℕ) → Reached limits w → IsAtHome w.kernel t

-- a thread that is on a CPU is placed there
abbrev pub ThreadsArePlaced : Type 0
ThreadsArePlaced = (limits : Limits) (w : PlainWorld) (c t : ℕ) → Reached limits w → IsPlaced w.kernel c t

-- a sleeping agent that its own queue wakes had no post since it slept
abbrev pub SleepersHadNoPost : Type 0
SleepersHadNoPost = (limits : Limits) (w : PlainWorld) (c : ℕ) → Reached limits w → HadNoPost w.kernel c

-- each thread's kinds begin with their only Created
abbrev pub RunsAreBegun : Type 0
RunsAreBegun = (limits : Limits) (w : PlainWorld) (t : ℕ) → Reached limits w → IsBegun (kinds w.kernel t)

-- the known threads are those whose names are below their count
abbrev pub NamesAreDense : Type 0
NamesAreDense =
    (limits : Limits) (w : PlainWorld) (t : ℕ) → Reached limits w → is_known w.kernel t ≡ nat_lt t (threads w.kernel)

-- the run has a message of the thread with this number
abbrev pub IsInRun : Run → ℕ → ℕ → Type 0
IsInRun run t n = (1 ≤ n) × (n ≤ length (run t))

-- all pairs of the set are of messages of the run
abbrev pub LiesIn : Run → Set → Type 0
LiesIn run set = (t n : ℕ) → has set t n ≡ true → IsInRun run t n

-- what the agents have taken in are messages of the kernel's run
abbrev pub KnownLiesInTheRun : Type 0
KnownLiesInTheRun =
    (limits : Limits) (w : PlainWorld) (c : ℕ) → Reached limits w → LiesIn (kinds w.kernel) (w.agents c).known

-- what was sent are messages of the kernel's run
abbrev pub SentLiesInTheRun : Type 0
SentLiesInTheRun =
    (limits : Limits) (w : PlainWorld) (set : Set) → Reached limits w → Contains w.sent set
    → LiesIn (kinds w.kernel) set

-- the message stands in the queue of some CPU
abbrev pub Waits : PlainWorld → ℕ → ℕ → Type 0
Waits w t n = (q : ℕ) × (is_cpu (shown w.kernel) q ≡ true) × (has (pairs_in (content w.kernel q)) t n ≡ true)

-- it is in some set that was sent
abbrev pub WasSent : PlainWorld → ℕ → ℕ → Type 0
WasSent w t n = (set : Set) × Contains w.sent set × (has set t n ≡ true)

-- the messages of the run are those that stand in queues and those that were sent, and no others
abbrev pub NothingIsLost : Type 0
NothingIsLost =
    (limits : Limits) (w : PlainWorld) (t n : ℕ) → Reached limits w
    → (Waits w t n ⊎ WasSent w t n) ↔ IsInRun (kinds w.kernel) t n

-- the messages of the items that count as sent were sent
abbrev pub CountedWasSent : Type 0
CountedWasSent =
    (limits : Limits) (w : PlainWorld) (c t n : ℕ) → Reached limits w →
    has (pairs_in (take (w.agents c).sent_items (content w.kernel c))) t n ≡ true → WasSent w t n

-- an agent has sent no more items than its queue holds
abbrev pub CountedIsThere : Type 0
CountedIsThere =
    (limits : Limits) (w : PlainWorld) (c : ℕ) → Reached limits w
    → (w.agents c).sent_items ≤ length (content w.kernel c)

-- the set has all that stands in queues and all that was sent
abbrev pub HasAll : PlainWorld → Set → Type 0
HasAll w set = (t n : ℕ) → Waits w t n ⊎ WasSent w t n → has set t n ≡ true

-- who has all that stands in queues and all that was sent has all messages of each thread
abbrev pub AllIsComplete : Type 0
AllIsComplete =
    (limits : Limits) (w : PlainWorld) (set : Set) (t : ℕ) → Reached limits w → HasAll w set
    → number w.kernel t ≤ upto set t

-- an agent on a CPU that is there consumes what it has sent
abbrev pub ConsumesTakeWhatWasSent : Type 0
ConsumesTakeWhatWasSent =
    (limits : Limits) (w new : PlainWorld) (c : ℕ) (told : Reply) → Reached limits w → is_cpu (shown w.kernel) c ≡ true
    →
    Step w (Consume c) told new → told ≡ Consumed (w.agents c).sent_items

-- the agent knows all messages of the thread and reports the state that they report, and none of them stands in
-- any queue
pub record IsExactSteal (w : PlainWorld) (c t : ℕ) : Type 0 where
  pub whole : upto (w.agents c).known t ≡ number w.kernel t
  pub state : reports (kinds w.kernel) (w.agents c).known t ≡ state_of (kinds w.kernel t)
  pub nothing_waits : (q : ℕ) → waiting w.kernel t q ≡ []

-- a steal that succeeds is exact
abbrev pub StealsAreExact : Type 0
StealsAreExact =
    (limits : Limits) (w new : PlainWorld) (c t : ℕ) → Reached limits w → Step w (Steal c) (Associated c t) new
    → IsExactSteal w c t

-- a commit that succeeds is exact, whatever world it is done in
abbrev pub CommitsAreExact : Type 0
CommitsAreExact =
    (w new : PlainWorld) (c t n : ℕ) → Step w (Agent (Commit c t n)) (Committed c t) new → IsExactCommit w.kernel c t n

-- a pick that succeeds is an exact commit
abbrev pub PicksAreExact : Type 0
PicksAreExact = (w new : PlainWorld) (c t n : ℕ) → Step w (Pick c n) (Committed c t) new → IsExactCommit w.kernel c t n

-- every event can be done
abbrev pub EveryEventHasAStep : Type 0
EveryEventHasAStep =
    (limits : Limits) (w : PlainWorld) (event : Event) → Reached limits w → (told : Reply) × (new : PlainWorld)
    × Step w event told new

-- each agent goes by the rules of the start, also after crashes
abbrev pub RulesStay : Type 0
RulesStay =
    (limits : Limits) (w : PlainWorld) (c : ℕ) (reached : Reached limits w) → (w.agents c).rules ≡ reached.rules c

-- the thread that an exact steal tries is not refused, unless a message of it waits in its home queue, whatever world
-- it is done in
abbrev pub ExactStealsAreTaken : Type 0
ExactStealsAreTaken =
    (w : PlainWorld) (c t : ℕ) → (w.agents c).rules.exact ≡ true
    → is_cpu (shown w.kernel) c ≡ true → FindsFirst (stealable w c) (Some t) → is_pending (shown w.kernel) t ≡ false
    → refused (shown w.kernel) (takes_over c (w.agents c) t) ≡ None

-- the agent of a CPU takes items in, and refreshes its run list with their threads, the highest level first
abbrev pub level_copied : Run → ℕ → List Item → PlainAgent → PlainAgent
level_copied run cpu items p =
    let set = p.known ++ pairs_in items in
    record p { known = set; list = level_refreshed_as (reports run set) cpu p.list (threads_in items) }

-- an agent that ranks by levels copies so
abbrev pub LevelsCopyByLevel : Type 0
LevelsCopyByLevel =
    (run : Run) (cpu : ℕ) (items : List Item) (p : PlainAgent) → p.rules.ranks ≡ by_levels
    → copied run cpu items p ≡ level_copied run cpu items p
