-- What holds of every state of the protocol, and what holds at rest, where no agent has anything to do.
use Rattle.std.specs.Prelude.{ℕ, ◌≡◌, ◌<◌, ◌⊎◌, ◌↔◌, true, [], Contains, Some, None, is_some, slice_get}
use Rattle.pc_messages.specs.State.{state_of}
use Rattle.pc_calls.specs.declared.limits.Limits.{Limits}
use Rattle.pc_join.specs.Sets.{has}
use Rattle.pc_kernel.specs.PlainKernel.{content, kinds}
use Rattle.pc_agent.specs.PlainAgent.{Set}
use Rattle.pc_policy.specs.Rules.{Rules, usual}
use Rattle.pc_run_queue.specs.Runs.{may_run}
use Rattle.pc_world.specs.Facts.{IsInRun}
use Rattle.pc_world.specs.Mending.{AllAreEmpty, IsIdle, IsStolenBy, WaitsFor}
use Rattle.pc_world.specs.PlainWorld.{PlainWorld}
use Rattle.pc_world.specs.Reached.{Reached}
use Rattle.pc_protocol.specs.Protocol.{Comes, OfAgent, Protocol, TakesIn, cpus_of, waits}

-- every agent waits, and no note is under way
pub record IsAtRest (p : Protocol) : Type 0 where
  pub waiting : (c : ℕ) → c < cpus_of p → p.stages c ≡ waits
  pub empty : (c : ℕ) → c < cpus_of p → p.boxes c ≡ []

-- this holds of every state of the protocol
abbrev pub Always : ((ℕ → Rules) → Limits → Protocol → Type 0) → Type 0
Always Holds = (rules : ℕ → Rules) (limits : Limits) (p : Protocol) → Comes rules limits p → Holds rules limits p

-- this holds of every state of the protocol that is at rest
abbrev pub AtRest : ((ℕ → Rules) → Protocol → Type 0) → Type 0
AtRest Holds = Always (λ rules limits p. IsAtRest p → Holds rules p)

-- events lead to the world of each state from the start of its limits and rules: so every law of worlds holds in it
abbrev pub StatesAreReached : Type 0
StatesAreReached = Always (λ rules limits p. (reached : Reached limits p.world) × (reached.rules ≡ rules))

-- at rest no thread waits for a CPU on which none runs, that the CPU's agent would take
abbrev pub AtRestNothingWaits : Type 0
AtRestNothingWaits =
    AtRest (λ rules p. (c t : ℕ) → IsIdle p.world.kernel c → WaitsFor p.world.kernel c t
    → IsStolenBy (rules c) p.world.kernel c t → ⊥)

-- the agent waits, and no note is under way to it
pub record IsWaiting (p : Protocol) (c : ℕ) : Type 0 where
  pub waiting : p.stages c ≡ waits
  pub empty : p.boxes c ≡ []

-- the agent is asleep, and its queue is empty
pub record IsAsleep (w : PlainWorld) (c : ℕ) : Type 0 where
  pub slept : is_some (w.kernel.slept c) ≡ true
  pub empty : content w.kernel c ≡ []

-- an agent that waits, and to which no note is under way, is asleep, and its queue is empty
abbrev pub SleepersHaveNothing : Type 0
SleepersHaveNothing = Always (λ rules limits p. (c : ℕ) → IsWaiting p c → IsAsleep p.world c)

-- the agent of a CPU that is there has a step, unless it waits and no note is under way to it
abbrev pub AgentsGoOn : Type 0
AgentsGoOn =
    Always (λ rules limits p. (c : ℕ) → c < cpus_of p → ((new : Protocol) × OfAgent p c new) ⊎ IsWaiting p c)

-- an agent that waits, and to which no note is under way, has none
abbrev pub WhoWaitsHasNoStep : Type 0
WhoWaitsHasNoStep = (p new : Protocol) (c : ℕ) → IsWaiting p c → OfAgent p c new → ⊥

-- a delta in the mailbox of the CPU's agent tells the message
pub record IsInMail (p : Protocol) (c t n : ℕ) : Type 0 where
  pub index : ℕ
  pub is_there : Contains (p.mails c) index
  pub set : Set
  pub was_sent : slice_get p.world.sent index ≡ Some set
  pub tells : has set t n ≡ true

-- at rest the agent of each CPU that is there knows a message, or has it in its mailbox, exactly where it is one of the
-- run
abbrev pub AtRestAllIsHeld : Type 0
AtRestAllIsHeld =
    AtRest (λ rules p. (c t n : ℕ) → c < cpus_of p
    → ((has (p.world.agents c).known t n ≡ true) ⊎ IsInMail p c t n) ↔ IsInRun (kinds p.world.kernel) t n)

-- at rest the agent of each CPU that is there knows each message of a thread that may run there
abbrev pub AtRestItsThreadsAreKnown : Type 0
AtRestItsThreadsAreKnown =
    AtRest (λ rules p. (c t n : ℕ) → c < cpus_of p → may_run (state_of (kinds p.world.kernel t)) c ≡ true
    → IsInRun (kinds p.world.kernel) t n → has (p.world.agents c).known t n ≡ true)

-- at rest every queue of a CPU that is there is empty
abbrev pub AtRestQueuesAreEmpty : Type 0
AtRestQueuesAreEmpty = AtRest (λ rules p. AllAreEmpty p.world)

-- at rest the agent of each CPU that is there knows exactly the messages of the run, once it has taken in what its
-- mailbox holds: so all views are then equal
abbrev pub AtRestMailTellsTheRest : Type 0
AtRestMailTellsTheRest =
    AtRest (λ rules p. (c : ℕ) (new : PlainWorld) → c < cpus_of p → TakesIn c p.world (p.mails c) new → (t n : ℕ)
    → (has (new.agents c).known t n ≡ true) ↔ IsInRun (kinds p.world.kernel) t n)

-- steps of agents alone, of CPUs that are there, lead from one state to another
pub data AgentsLead (p : Protocol) : Protocol → Type 0 where
  at_once : AgentsLead p p
  onward : {q new : Protocol} (c : ℕ) → AgentsLead p q → OfAgent q c new → AgentsLead p new

-- from every state steps of the agents alone can lead to one at rest
abbrev pub RestCanCome : Type 0
RestCanCome = Always (λ rules limits p. (new : Protocol) × AgentsLead p new × IsAtRest new)

-- two CPUs, and room for a few threads
abbrev pub two : Limits
two = record { cpus = 2; threads = 8; numbers = 100; room = 16; posts = 1000 }

-- a state at rest in which a thread runs on one CPU, and none on another, whose agent knows of the thread
pub record RestsBeside (p : Protocol) : Type 0 where
  pub comes : Comes (λ c. usual) two p
  pub rests : IsAtRest p
  pub runs : p.world.kernel.on 0 ≡ Some 0
  pub idles : p.world.kernel.on 1 ≡ None
  pub knows : has (p.world.agents 1).known 0 1 ≡ true

-- there is such a state
abbrev pub SomeStateRests : Type 0
SomeStateRests = (p : Protocol) × RestsBeside p
