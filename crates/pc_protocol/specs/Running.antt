-- A run: the protocol, and a driver that creates threads, does on each CPU what the thread there does next, and wakes
-- whom it blocked.
use Rattle.std.specs.Prelude.{ℕ, ◌≡◌, ◌≢◌, ◌≤◌, ◌<◌, ◌⊎◌, false, true, List, [], ◌∷◌, ◌++◌, All, Contains, length}
use Rattle.std.specs.Prelude.{Option, Some, None, is_some, slice_get}
use Rattle.std.specs.Option.{option_map_or}
use Rattle.pc_messages.specs.State.{phase_of}
use Rattle.pc_messages.specs.declared.reported.Phase.TheVariants.{Dead}
use Rattle.pc_messages.specs.declared.reported.Reported.{Reported}
use Rattle.pc_calls.specs.declared.call.Call.TheVariants as call
use Rattle.pc_calls.specs.declared.call.EnvCall.{EnvCall}
use Rattle.pc_calls.specs.declared.call.EnvCall.TheVariants.{Create, Wake}
use Rattle.pc_calls.specs.declared.call.Posted.{Posted}
use Rattle.pc_calls.specs.declared.event.Reply.TheVariants as reply
use Rattle.pc_calls.specs.declared.leaving.Leaving.{Leaving}
use Rattle.pc_calls.specs.declared.leaving.Leaving.TheVariants.{Block, Die}
use Rattle.pc_calls.specs.declared.limits.Limits.{Limits}
use Rattle.pc_calls.specs.declared.refusal.Refusal.{Refusal}
use Rattle.pc_calls.specs.Leavings.{call_for}
use Rattle.pc_kernel.specs.PlainKernel.{PlainKernel, kinds}
use Rattle.pc_kernel.specs.Reads.{shown}
use Rattle.pc_kernel.specs.Steps.{at, refused}
use Rattle.pc_policy.specs.Rules.{Rules, usual}
use Rattle.pc_protocol.specs.Protocol.{IsCalledByEnv, IsForgotten, OfAgent, Protocol, cpus_of, opening}
use Rattle.pc_protocol.specs.Resting.{IsAtRest}

-- what a thread does once it runs: it leaves its CPU so, after so many ticks
pub record Deed : Type 0 where
  pub leaving : Leaving
  pub ran : ℕ

-- a thread's first queue, the mask of the CPUs that it may run on, and its deeds in order
pub record Plan : Type 0 where
  pub queue : ℕ
  pub mask : ℕ
  pub deeds : List Deed

-- the last deed is a death, and no other is
pub record IsLife (deeds : List Deed) : Type 0 where
  pub before : List Deed
  pub ran : ℕ
  pub ends : deeds ≡ before ++ record { leaving = Die; ran = ran } ∷ []
  pub goes_on : All (λ deed. deed.leaving ≢ Die) before

-- a state of the protocol, and of the driver what is left to do of each thread, the CPUs of which it was told that a
-- thread came to run there, and the thread that it blocked and wakes next, if there is one
pub record Drive : Type 0 where
  pub protocol : Protocol
  pub left : ℕ → List Deed
  pub told : List ℕ
  pub blocked : Option ℕ

-- the kernel of a drive
abbrev pub kernel_of : Drive → PlainKernel
kernel_of r = r.protocol.world.kernel

-- the environment makes this call, and the kernel accepts it
pub record IsAccepted (p : Protocol) (made : EnvCall) (new : Protocol) : Type 0 where
  pub called : IsCalledByEnv p new
  pub is_made : called.call ≡ made
  pub posted : Posted
  pub answered : called.told ≡ reply.Posted posted

-- the kernel refuses a call of the environment
abbrev pub IsRefused : PlainKernel → EnvCall → Type 0
IsRefused P made = (why : Refusal) × (refused (shown P) (call.Env made) ≡ Some why)

-- the threads of the plans are created, in order, each ready
abbrev pub AreCreated : Protocol → List Plan → Protocol → Type 0
AreCreated p [] new = new ≡ p
AreCreated p (plan ∷ plans) new =
    (next : Protocol) × IsAccepted p (Create plan.queue true plan.mask) next × AreCreated next plans new

-- what each thread is asked to do, nothing of which there is no plan
abbrev pub asked : List Plan → ℕ → List Deed
asked plans t = option_map_or (λ plan. plan.deeds) (slice_get plans t) []

-- where a thread comes to run on a CPU on which none ran, the driver is told
abbrev pub noticing : ℕ → Option ℕ → Option ℕ → List ℕ → List ℕ
noticing c None (Some t) told = told ++ c ∷ []
noticing c ran runs told = told

-- an agent does a step, and the driver is told where a thread comes to run by it
pub record IsServed (r : Drive) (c : ℕ) (new : Drive) : Type 0 where
  pub step : OfAgent r.protocol c new.protocol
  pub left : new.left ≡ r.left
  pub told : new.told ≡ noticing c ((kernel_of r).on c) ((kernel_of new).on c) r.told
  pub blocked : new.blocked ≡ r.blocked

-- a note is forgotten
pub record IsLost (r new : Drive) : Type 0 where
  pub step : IsForgotten r.protocol new.protocol
  pub left : new.left ≡ r.left
  pub told : new.told ≡ r.told
  pub blocked : new.blocked ≡ r.blocked

-- the thread that is woken next, where a thread left its CPU so
abbrev pub blocked_by : Leaving → ℕ → Option ℕ
blocked_by Block t = Some t
blocked_by leaving t = None

-- the driver has no thread to wake, and takes one of the CPUs that it was told: the thread there does its next deed
pub record IsDone (r : Drive) (c : ℕ) (new : Drive) : Type 0 where
  pub free : r.blocked ≡ None
  pub before : List ℕ
  pub behind : List ℕ
  pub was_told : r.told ≡ before ++ c ∷ behind
  pub thread : ℕ
  pub runs : (kernel_of r).on c ≡ Some thread
  pub deed : Deed
  pub rest : List Deed
  pub next : r.left thread ≡ deed ∷ rest
  pub accepted : IsAccepted r.protocol (call_for deed.leaving c deed.ran) new.protocol
  pub left : new.left ≡ at r.left thread rest
  pub told : new.told ≡ before ++ behind
  pub blocked : new.blocked ≡ blocked_by deed.leaving thread

-- the driver wakes the thread that it blocked
pub record IsWoken (r : Drive) (t : ℕ) (new : Drive) : Type 0 where
  pub was : r.blocked ≡ Some t
  pub accepted : IsAccepted r.protocol (Wake t) new.protocol
  pub left : new.left ≡ r.left
  pub told : new.told ≡ r.told
  pub blocked : new.blocked ≡ None

-- one step of a run
abbrev pub Drives : Drive → Drive → Type 0
Drives r new =
    ((c : ℕ) × IsServed r c new) ⊎ (IsLost r new ⊎ (((c : ℕ) × IsDone r c new) ⊎ ((t : ℕ) × IsWoken r t new)))

-- steps of a run lead from its start, where the threads of the plans have been created, to this state
pub data Driven (rules : ℕ → Rules) (limits : Limits) (plans : List Plan) : Drive → Type 0 where
  created : {p : Protocol} → AreCreated (opening rules limits) plans p
      → Driven rules limits plans (record { protocol = p; left = asked plans; told = []; blocked = None })
  onward : {r new : Drive} → Driven rules limits plans r → Drives r new → Driven rules limits plans new

-- no agent has anything to do, and the driver has no thread to wake, and none that it was told of
pub record IsStill (r : Drive) : Type 0 where
  pub rests : IsAtRest r.protocol
  pub none_told : r.told ≡ []
  pub none_blocked : r.blocked ≡ None

-- an agent that goes by these rules takes each thread that waits for its CPU: its steals are not exact, or its ranking
-- ranks every thread, of whatever level there is
abbrev pub TakesEach : Rules → ℕ → Type 0
TakesEach rules c =
    (rules.exact ≡ false) ⊎ ((t : ℕ) (state : Reported) → state.level ≤ 7 → is_some (rules.ranks c t state) ≡ true)

-- where a run has no step left, every thread of its plans is dead
abbrev pub RestIsDone : Type 0
RestIsDone =
    (rules : ℕ → Rules) (limits : Limits) (plans : List Plan) (r : Drive) → All (λ plan. IsLife plan.deeds) plans
    → ((c : ℕ) → c < cpus_of r.protocol → TakesEach (rules c) c) → Driven rules limits plans r → IsStill r → (t : ℕ)
    → t < length plans → phase_of (kinds (kernel_of r) t) ≡ Some Dead

-- the kernel refuses the call that the driver would make next: it has a thread to wake, or else takes a CPU of which it
-- was told
pub data IsHalted (r : Drive) : Type 0 where
  at_wake : (t : ℕ) → r.blocked ≡ Some t → IsRefused (kernel_of r) (Wake t) → IsHalted r
  at_deed : (c t : ℕ) (deed : Deed) (rest : List Deed) → r.blocked ≡ None → Contains r.told c
      → (kernel_of r).on c ≡ Some t → r.left t ≡ deed ∷ rest
      → IsRefused (kernel_of r) (call_for deed.leaving c deed.ran) → IsHalted r

-- a run has a step, unless it has none left, or the kernel refuses what the driver would do next
abbrev pub RunsGoOn : Type 0
RunsGoOn =
    (rules : ℕ → Rules) (limits : Limits) (plans : List Plan) (r : Drive) → All (λ plan. IsLife plan.deeds) plans
    → Driven rules limits plans r → ((new : Drive) × Drives r new) ⊎ (IsStill r ⊎ IsHalted r)

-- the thread on a CPU of which the driver was told has a deed left: the driver does it, or the kernel refuses the call
pub record HasDeed (r : Drive) (c : ℕ) : Type 0 where
  pub thread : ℕ
  pub runs : (kernel_of r).on c ≡ Some thread
  pub deed : Deed
  pub rest : List Deed
  pub next : r.left thread ≡ deed ∷ rest
  pub goes : ((new : Drive) × IsDone r c new) ⊎ IsRefused (kernel_of r) (call_for deed.leaving c deed.ran)

-- a driver that has no thread to wake finds a deed to do on each CPU of which it was told
abbrev pub DriversGoOn : Type 0
DriversGoOn =
    (rules : ℕ → Rules) (limits : Limits) (plans : List Plan) (r : Drive) (c : ℕ)
    → All (λ plan. IsLife plan.deeds) plans → Driven rules limits plans r → r.blocked ≡ None → Contains r.told c
    → HasDeed r c

-- a driver that has a thread to wake wakes it, or the kernel refuses the call
abbrev pub DriversWake : Type 0
DriversWake =
    (r : Drive) (t : ℕ) → r.blocked ≡ Some t → ((new : Drive) × IsWoken r t new) ⊎ IsRefused (kernel_of r) (Wake t)

-- one CPU, and room for a few threads
abbrev pub alone : Limits
alone = record { cpus = 1; threads = 8; numbers = 100; room = 16; posts = 1000 }

-- a thread that runs once, for five ticks
abbrev pub brief : Plan
brief = record { queue = 0; mask = 1; deeds = record { leaving = Die; ran = 5 } ∷ [] }

-- a run of a thread that has no step left
pub record IsOver (r : Drive) : Type 0 where
  pub driven : Driven (λ c. usual) alone (brief ∷ []) r
  pub still : IsStill r

-- there is such a run
abbrev pub SomeRunIsOver : Type 0
SomeRunIsOver = (r : Drive) × IsOver r
