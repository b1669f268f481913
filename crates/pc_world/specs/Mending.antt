-- What the agents' own events can mend, whatever has happened: lists of events, none of which posts anything, and the
-- worlds that they lead to.
use Rattle.std.specs.Prelude.{ℕ, zero, suc, ◌+◌, ◌≡◌, ◌⊎◌, ◌↔◌, nat_lt, false}
use Rattle.std.specs.Prelude.{true, List, [], ◌∷◌, ◌++◌, length, Some, None, is_some}
use Rattle.pc_messages.specs.State.{phase_of, state_of}
use Rattle.pc_messages.specs.declared.reported.Phase.TheVariants.{Ready}
use Rattle.pc_calls.specs.declared.call.AgentCall.TheVariants.{Associate, Commit}
use Rattle.pc_calls.specs.declared.event.Event.{Event}
use Rattle.pc_calls.specs.declared.event.Event.TheVariants.{Agent, Consume, Deliver, Pick, Publish, Steal}
use Rattle.pc_calls.specs.declared.event.Reply.{Reply}
use Rattle.pc_calls.specs.declared.limits.Limits.{Limits}
use Rattle.pc_join.specs.Sets.{has}
use Rattle.pc_kernel.specs.PlainKernel.{PlainKernel, aseq, content, kinds, number, place_of, threads}
use Rattle.pc_kernel.specs.Reads.{is_cpu, is_allowed_on, shown}
use Rattle.pc_policy.specs.Rules.{Rules}
use Rattle.pc_run_queue.specs.Names.{has_name}
use Rattle.pc_run_queue.specs.Runs.{rank_told}
use Rattle.pc_world.specs.Facts.{IsInRun}
use Rattle.pc_world.specs.PlainWorld.{PlainWorld}
use Rattle.pc_world.specs.Reached.{Leads, Reached}
use Rattle.pc_world.specs.Steps.{Runs}

-- the agent of each CPU below a number sends what its queue holds, and removes it there
abbrev pub clearing : ℕ → List Event
clearing zero = []
clearing (suc c) = clearing c ++ Publish c false ∷ Consume c ∷ []

-- an agent takes in the first so many deltas that were sent
abbrev pub hearing : ℕ → ℕ → List Event
hearing c zero = []
hearing c (suc k) = hearing c k ++ Deliver c k ∷ []

-- each queue is cleared, and an agent takes in all that was sent
abbrev pub learning : PlainWorld → ℕ → List Event
learning w c = let cpus = w.kernel.limits.cpus in clearing cpus ++ hearing c (length w.sent + cpus)

-- the agents below a number take in the first so many deltas
abbrev pub all_hearing : ℕ → ℕ → List Event
all_hearing zero k = []
all_hearing (suc c) k = all_hearing c k ++ hearing c k

-- each queue is cleared, and each agent takes in all that was sent
abbrev pub all_learning : PlainWorld → List Event
all_learning w = let cpus = w.kernel.limits.cpus in clearing cpus ++ all_hearing cpus (length w.sent + cpus)

-- an agent picks under the count of all posts to its queue
abbrev pub picking : PlainWorld → ℕ → Event
picking w c = Pick c (aseq w.kernel c)

-- an agent learns all, and picks
abbrev pub mending : PlainWorld → ℕ → List Event
mending w c = learning w c ++ picking w c ∷ []

-- where nothing was ready then, it steals, and picks again
abbrev pub mending_by_steal : PlainWorld → ℕ → List Event
mending_by_steal w c = learning w c ++ picking w c ∷ Steal c ∷ picking w c ∷ []

-- each queue is cleared, and the thread is taken over for the CPU and committed there by the kernel's own calls
abbrev pub mending_for : PlainWorld → ℕ → ℕ → List Event
mending_for w c t =
    clearing w.kernel.limits.cpus
    ++ Agent (Associate t c (number w.kernel t)) ∷ Agent (Commit c t (aseq w.kernel c)) ∷ []

-- the events can be done, one after another, and lead to a world of which this holds
pub record LeadTo (w : PlainWorld) (events : List Event) (Holds : PlainWorld → Type 0) : Type 0 where
  pub replies : List Reply
  pub new : PlainWorld
  pub runs : Runs w events replies new
  pub holds : Holds new

-- an agent steals so many times
abbrev pub robbing : ℕ → ℕ → List Event
robbing c zero = []
robbing c (suc k) = robbing c k ++ Steal c ∷ []

-- an agent learns all, and steals as often as there are threads
abbrev pub recovering : PlainWorld → ℕ → List Event
recovering w c = learning w c ++ robbing c (threads w.kernel)

-- the thread waits for the CPU: it is ready, allowed there, and on no CPU
pub record WaitsFor (P : PlainKernel) (c t : ℕ) : Type 0 where
  pub ready : phase_of (kinds P t) ≡ Some Ready
  pub allowed : is_allowed_on (shown P) t c ≡ true
  pub nowhere : place_of P t ≡ None

-- a CPU that is there, and on which nothing runs
pub record IsIdle (P : PlainKernel) (c : ℕ) : Type 0 where
  pub there : is_cpu (shown P) c ≡ true
  pub idle : P.on c ≡ None

-- what the agent goes by lets it steal the thread: its steals are not exact, or its ranking gives the thread a rank
abbrev pub IsStolenBy : Rules → PlainKernel → ℕ → ℕ → Type 0
IsStolenBy rules P c t = (rules.exact ≡ false) ⊎ (is_some (rank_told rules.ranks c t (state_of (kinds P t))) ≡ true)

-- some thread runs on the CPU
abbrev pub RunsSome : ℕ → PlainWorld → Type 0
RunsSome c w = (t : ℕ) × (w.kernel.on c ≡ Some t)

-- this thread runs on the CPU
abbrev pub RunsThis : ℕ → ℕ → PlainWorld → Type 0
RunsThis c t w = w.kernel.on c ≡ Some t

-- an idle CPU for which a thread waits can be made to run one
abbrev pub AWaitingThreadCanBeRun : Type 0
AWaitingThreadCanBeRun =
    (limits : Limits) (w : PlainWorld) (c t : ℕ) → Reached limits w → IsIdle w.kernel c → WaitsFor w.kernel c t
    → IsStolenBy (w.agents c).rules w.kernel c t
    → LeadTo w (mending w c) (RunsSome c) ⊎ LeadTo w (mending_by_steal w c) (RunsSome c)

-- and, by the kernel's own calls, that very thread
abbrev pub ThatThreadCanBeRun : Type 0
ThatThreadCanBeRun =
    (limits : Limits) (w : PlainWorld) (c t : ℕ) → Reached limits w → IsIdle w.kernel c → WaitsFor w.kernel c t
    → LeadTo w (mending_for w c t) (RunsThis c t)

-- the agent of each CPU below a number knows exactly the messages of the run
abbrev pub AllKnow : ℕ → PlainWorld → Type 0
AllKnow cpus w =
    (c t n : ℕ) → nat_lt c cpus ≡ true → (has (w.agents c).known t n ≡ true) ↔ IsInRun (kinds w.kernel) t n

-- no queue holds anything
abbrev pub AllAreEmpty : PlainWorld → Type 0
AllAreEmpty w = (q : ℕ) → is_cpu (shown w.kernel) q ≡ true → content w.kernel q ≡ []

-- each agent knows exactly the messages of the run, so all know the same; every queue is empty, and nothing was posted
pub record IsAllKnown (old new : PlainWorld) : Type 0 where
  pub know : AllKnow new.kernel.limits.cpus new
  pub empty : AllAreEmpty new
  pub posts : new.kernel.posts ≡ old.kernel.posts

-- each agent can come to know all
abbrev pub AllCanBeKnown : Type 0
AllCanBeKnown =
    (limits : Limits) (w : PlainWorld) → Reached limits w → LeadTo w (all_learning w) (IsAllKnown w)

-- the agent knows exactly the messages of the run, and each thread stands in its run list that waits for its CPU, where
-- what it goes by lets it steal the thread
pub record IsBack (c : ℕ) (w : PlainWorld) : Type 0 where
  pub knows : (t n : ℕ) → (has (w.agents c).known t n ≡ true) ↔ IsInRun (kinds w.kernel) t n
  pub listed : (t : ℕ) → WaitsFor w.kernel c t → IsStolenBy (w.agents c).rules w.kernel c t
      → has_name (w.agents c).list t ≡ true

-- whatever an agent forgot, by a crash too, comes back to it, where nothing runs on its CPU
abbrev pub WhatWasForgottenComesBack : Type 0
WhatWasForgottenComesBack =
    (limits : Limits) (w : PlainWorld) (c : ℕ) → Reached limits w → IsIdle w.kernel c
    → LeadTo w (recovering w c) (IsBack c)

-- whatever else happens, mending can be begun anew
abbrev pub MendingGoesOn : Type 0
MendingGoesOn =
    (limits : Limits) (w later : PlainWorld) (events : List Event) (c t : ℕ) → Reached limits w → Leads w events later
    → IsIdle later.kernel c → WaitsFor later.kernel c t → IsStolenBy (later.agents c).rules later.kernel c t
    → LeadTo later (mending later c) (RunsSome c) ⊎ LeadTo later (mending_by_steal later c) (RunsSome c)
