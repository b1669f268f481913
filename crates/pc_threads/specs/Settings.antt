-- What is asked of a run, what is wrong with it, and what it adds up to.
use Rattle.std.specs.Prelude.{ℕ, ℤ, pos, nat_abs, ◌≡◌, ◌+◌, ◌^◌, ◌≤◌, ◌<◌, ◌↔◌, Bool, true, false, not, ◌&&◌}
use Rattle.std.specs.Prelude.{nat_le, nat_lt, if◌then◌else◌, List, [], ◌∷◌, ◌++◌, length, map, take}
use Rattle.std.specs.Prelude.{position, All, sum_by, count_by, Option, Some, None, option_map}
use Rattle.pc_calls.specs.declared.limits.TheConstants.{MOST_CPUS, MOST_THREADS}
use Rattle.pc_load.specs.Loads.{dies_last, is_between, is_cpu, is_mask}
use Rattle.pc_threads.specs.declared.settings.plans.TheConstants.{MOST_STEPS}
use Rattle.pc_threads.specs.declared.settings.restarts.TheConstants.{MOST_RESTARTS, MOST_TURN}
use Rattle.pc_threads.specs.declared.settings.plans.Step.{Step}
use Rattle.pc_threads.specs.declared.settings.plans.Step.TheVariants.{Yield, Block, Preempt, Die}
use Rattle.pc_threads.specs.declared.settings.plans.ThreadPlan.{ThreadPlan}
use Rattle.pc_threads.specs.declared.settings.restarts.Restart.{Restart}
use Rattle.pc_threads.specs.declared.settings.faults.ConfigFault.{ConfigFault}
use Rattle.pc_threads.specs.declared.settings.faults.ConfigFault.TheVariants.{BadCpus, TooManyThreads, BadThread}
use Rattle.pc_threads.specs.declared.settings.faults.ConfigFault.TheVariants.{BadRestart}

-- a thread's first queue, the CPUs that it may run on, and its steps in order
pub record Plan : Type 0 where
  pub queue : ℤ
  pub mask : ℤ
  pub steps : List Step

-- how many CPUs, the threads in the order in which they are created, and which agents restart
pub record Settings : Type 0 where
  pub cpus : ℤ
  pub threads : List Plan
  pub restarts : List Restart

-- a thread's plan as it is asked for
abbrev pub plan_of : ThreadPlan → Plan
plan_of plan = record { queue = plan.queue; mask = plan.mask; steps = plan.steps.items }

-- the settings that are asked for
abbrev pub asked : ℤ → List ThreadPlan → List Restart → Settings
asked cpus threads restarts = record { cpus = cpus; threads = map plan_of threads; restarts = restarts }

-- The faults of settings, in the order in which they are told.

-- of faults that may be there, the first that is
abbrev pub first_fault : {F : Type 0} → List (Option F) → Option F
first_fault [] = None
first_fault (None ∷ rest) = first_fault rest
first_fault (Some fault ∷ rest) = Some fault

-- this fault, where the test holds
abbrev pub fault_if : {F : Type 0} → Bool → F → Option F
fault_if test fault = if test then Some fault else None

-- the thread dies by the step
abbrev pub is_die : Step → Bool
is_die (Die ticks) = true
is_die _ = false

-- there are 1 to MOST_STEPS steps, the last is a die, and no other is: the first die is the last step
abbrev pub is_life : List Step → Bool
is_life steps = dies_last MOST_STEPS (length steps) (position is_die steps)

-- the plan is one for so many CPUs
abbrev pub is_thread : ℕ → Plan → Bool
is_thread cpus plan = is_cpu cpus plan.queue && is_mask cpus plan.mask && is_life plan.steps

-- an agent that restarts has a peer
abbrev pub is_restart : ℕ → Restart → Bool
is_restart cpus restart = is_cpu cpus restart.cpu && nat_le 2 cpus && is_between 1 MOST_TURN restart.turn

-- what may be wrong with the threads and the restarts of a run on so many CPUs
abbrev pub faults_on : ℕ → List Plan → List Restart → List (Option ConfigFault)
faults_on cpus threads restarts =
    fault_if (nat_lt MOST_THREADS (length threads)) TooManyThreads
    ∷ option_map BadThread (position (λ plan. not (is_thread cpus plan)) threads)
    ∷ option_map BadRestart (position (λ restart. not (is_restart cpus restart)) (take MOST_RESTARTS restarts))
    ∷ fault_if (nat_lt MOST_RESTARTS (length restarts)) (BadRestart MOST_RESTARTS)
    ∷ []

-- all that may be wrong with settings: the CPUs, then the threads and the restarts on them
abbrev pub faults_of : Settings → List (Option ConfigFault)
faults_of settings =
    fault_if (not (is_between 1 MOST_CPUS settings.cpus)) BadCpus
    ∷ faults_on (nat_abs settings.cpus) settings.threads settings.restarts

-- What settings without fault are.

-- 1 to MOST_STEPS steps, of which the last is a die and no other is
pub record IsLife (steps : List Step) : Type 0 where
  pub before : List Step
  pub ticks : ℕ
  pub ends : steps ≡ before ++ Die ticks ∷ []
  pub goes_on : All (λ step. is_die step ≡ false) before
  pub few : length steps ≤ MOST_STEPS

-- the test for a life means that
abbrev pub LivesEndInDeath : Type 0
LivesEndInDeath = (steps : List Step) → (is_life steps ≡ true) ↔ IsLife steps

-- the queue is of a CPU that is there, the mask has some of these CPUs and no others, and the steps are a life
pub record IsPlan (cpus : ℕ) (plan : Plan) : Type 0 where
  pub queue : ℕ
  pub queue_is : plan.queue ≡ pos queue
  pub queue_there : queue < cpus
  pub mask : ℕ
  pub mask_is : plan.mask ≡ pos mask
  pub mask_some : 0 < mask
  pub mask_there : mask < 2 ^ cpus
  pub life : IsLife plan.steps

-- the agent is there, has a peer, and restarts before one of its first MOST_TURN turns
pub record IsReturn (cpus : ℕ) (restart : Restart) : Type 0 where
  pub cpu : ℕ
  pub cpu_is : restart.cpu ≡ pos cpu
  pub cpu_there : cpu < cpus
  pub peer : 2 ≤ cpus
  pub turn : ℕ
  pub turn_is : restart.turn ≡ pos turn
  pub turn_first : 1 ≤ turn
  pub turn_last : turn ≤ MOST_TURN

-- so many CPUs as there may be, and of threads and restarts no more than there may be, each as it has to be
pub record IsSound (settings : Settings) : Type 0 where
  pub cpus : ℕ
  pub cpus_is : settings.cpus ≡ pos cpus
  pub cpus_some : 1 ≤ cpus
  pub cpus_few : cpus ≤ MOST_CPUS
  pub threads_few : length settings.threads ≤ MOST_THREADS
  pub threads : All (IsPlan cpus) settings.threads
  pub restarts_few : length settings.restarts ≤ MOST_RESTARTS
  pub restarts : All (IsReturn cpus) settings.restarts

-- the faults leave these settings, and no others
abbrev pub SoundSettingsHaveNoFault : Type 0
SoundSettingsHaveNoFault = (settings : Settings) → (first_fault (faults_of settings) ≡ None) ↔ IsSound settings

-- What settings add up to.

-- for how many ticks the thread runs in a step
abbrev pub ticks : Step → ℕ
ticks (Yield n) = n
ticks (Block n) = n
ticks (Preempt n) = n
ticks (Die n) = n

-- the thread blocks by the step
abbrev pub is_block : Step → Bool
is_block (Block n) = true
is_block _ = false

-- the messages of a thread: it is created, each step posts one, and after a block it is woken
abbrev pub messages_of : Plan → ℕ
messages_of plan = 1 + length plan.steps + count_by is_block plan.steps

-- for how many ticks a thread runs
abbrev pub ran_of : Plan → ℕ
ran_of plan = sum_by ticks plan.steps

-- the messages of threads, summed
abbrev pub messages_in : List Plan → ℕ
messages_in plans = sum_by messages_of plans

-- the steps of threads, counted
abbrev pub steps_in : List Plan → ℕ
steps_in plans = sum_by (λ plan. length plan.steps) plans

-- the ticks of threads, summed
abbrev pub ran_in : List Plan → ℕ
ran_in plans = sum_by ran_of plans
