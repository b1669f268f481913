-- What the driver of a run by a seed keeps, and that its steps are those of the protocol's driver.
use Rattle.std.specs.Prelude.{ℕ, nat_abs, ◌≡◌, ◌<◌, true, List, [], ◌∷◌, ◌++◌, length, drop, get_or, map, slice_get}
use Rattle.std.specs.Prelude.{None}
use Rattle.std.specs.Option.{option_map_or}
use Rattle.pc_calls.specs.declared.call.EnvCall.{EnvCall}
use Rattle.pc_calls.specs.declared.call.EnvCall.TheVariants.{Create}
use Rattle.pc_calls.specs.declared.leaving.Leaving.TheVariants as leaving
use Rattle.pc_calls.specs.declared.limits.Limits.{Limits}
use Rattle.pc_kernel.specs.Steps.{at}
use Rattle.pc_policy.specs.Rules.{Rules}
use Rattle.pc_protocol.specs.Machine.{Leads, Machine, Shows}
use Rattle.pc_protocol.specs.Protocol.{opening}
use Rattle.pc_protocol.specs.Running.{AreCreated, Deed, Drive, Driven, Drives, IsAccepted, IsDone}
use Rattle.pc_protocol.specs.Running.{Plan as PlanOfDeeds, TakesEach, asked}
use Rattle.pc_threads.specs.declared.settings.plans.Step.{Step}
use Rattle.pc_threads.specs.declared.settings.plans.Step.TheVariants.{Block, Die, Preempt, Yield}
use Rattle.pc_threads.specs.Settings.{Plan}
use Rattle.pc_seeds.specs.declared.driver.Driver.{Driver}

-- what a thread does in a step
abbrev pub deed_of : Step → Deed
deed_of (Yield n) = record { leaving = leaving.Yield; ran = n }
deed_of (Block n) = record { leaving = leaving.Block; ran = n }
deed_of (Preempt n) = record { leaving = leaving.Preempt; ran = n }
deed_of (Die n) = record { leaving = leaving.Die; ran = n }

-- what a thread does in all its steps
abbrev pub deeds_of : Plan → PlanOfDeeds
deeds_of plan =
    record { queue = nat_abs plan.queue; mask = nat_abs plan.mask; deeds = map deed_of plan.steps }

-- what creates the thread of a plan
abbrev pub created_by : PlanOfDeeds → EnvCall
created_by plan = Create plan.queue true plan.mask

-- what threads do that have done so many of their steps
abbrev pub left_of : List Plan → List ℕ → ℕ → List Deed
left_of plans done t =
    option_map_or (λ plan. map deed_of (drop (get_or done t 0) plan.steps)) (slice_get plans t) []

-- the driver has what is left to do of each thread, the CPUs of which it was told, and the thread that it wakes next
pub record Keeps (plans : List Plan) (driver : Driver) (r : Drive) : Type 0 where
  pub left : (t : ℕ) → r.left t ≡ left_of plans driver.done.items t
  pub told : r.told ≡ driver.told.items
  pub blocked : r.blocked ≡ driver.blocked
  pub each : length driver.done.items ≡ length plans

-- the machine and the driver are at this state of a run
pub record IsAt (plans : List Plan) (machine : Machine) (driver : Driver) (r : Drive) : Type 0 where
  pub shows : Shows machine r.protocol
  pub keeps : Keeps plans driver r

-- from every state of a run that they are at before, a step leads to one that they are at after
abbrev pub DrivesOn : List Plan → Machine → Driver → Machine → Driver → Type 0
DrivesOn plans old was new is =
    (r : Drive) → IsAt plans old was r → (next : Drive) × Drives r next × IsAt plans new is next

-- steps of a run lead to a state that they are at
abbrev pub IsInRun : (ℕ → Rules) → Limits → List Plan → Machine → Driver → Type 0
IsInRun rules limits plans machine driver =
    (r : Drive) × Driven rules limits (map deeds_of plans) r × IsAt plans machine driver r

-- where they are at a state of a run before, they are at one of it after
abbrev pub StaysInRun : List Plan → Machine → Driver → Machine → Driver → Type 0
StaysInRun plans old was new is =
    (rules : ℕ → Rules) (limits : Limits) → IsInRun rules limits plans old was → IsInRun rules limits plans new is

-- the kernel accepts this call of the environment
abbrev pub Accepts : EnvCall → Machine → Machine → Type 0
Accepts made = Leads (λ p q. IsAccepted p made q)

-- the threads are created, in order
abbrev pub Creates : List Plan → Machine → Machine → Type 0
Creates plans = Leads (λ p q. AreCreated p (map deeds_of plans) q)

-- the driver was told of no CPU, and has no thread to wake
pub record HasNothingToDo (driver : Driver) : Type 0 where
  pub none_told : driver.told.items ≡ []
  pub none_blocked : driver.blocked ≡ None

-- how many choices the driver has: to wake the thread that it blocked, or one for each CPU of which it was told
abbrev pub choices_of : Driver → ℕ
choices_of driver = option_map_or (λ t. 1) driver.blocked (length driver.told.items)

-- the driver has done nothing yet
abbrev pub IsIdle : List Plan → Driver → Type 0
IsIdle plans driver =
    (r : Drive) → r.left ≡ asked (map deeds_of plans) → r.told ≡ [] → r.blocked ≡ None → Keeps plans driver r

-- the thread does this step, and has the rest left; the driver keeps all else
pub record TakesStep (plans : List Plan) (t : ℕ) (step : Step) (was is : Driver) : Type 0 where
  pub rest : List Deed
  pub next : left_of plans was.done.items t ≡ deed_of step ∷ rest
  pub left : (u : ℕ) → left_of plans is.done.items u ≡ at (left_of plans was.done.items) t rest u
  pub told : is.told ≡ was.told
  pub blocked : is.blocked ≡ was.blocked
  pub each : length is.done.items ≡ length was.done.items

-- the driver takes this CPU, of which it was told no more: the thread there does its next step
abbrev pub DoesDeed : List Plan → ℕ → Machine → Driver → Machine → Driver → Type 0
DoesDeed plans c old was new is =
    (r : Drive) (before behind : List ℕ) → r.blocked ≡ None → r.told ≡ before ++ c ∷ behind
    → IsAt plans old was (record r { told = before ++ behind })
    → (next : Drive) × IsDone r c next × IsAt plans new is next

-- the machine shows the start of a run, in which the agent of each CPU that is there goes by these rules; also of one
-- that is not there it takes each thread that waits for it, where these rules do
abbrev pub IsOpened : Rules → Machine → Type 0
IsOpened rules machine =
    (opened : ℕ → Rules) × (limits : Limits) × ((c : ℕ) → c < limits.cpus → opened c ≡ rules)
    × ((c : ℕ) → TakesEach rules c → TakesEach (opened c) c) × Shows machine (opening opened limits)
