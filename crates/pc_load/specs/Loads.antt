-- What is needed of a load, and what is wrong with one.
use Rattle.std.specs.Prelude.{ℕ, ℤ, pos, nat_abs, ◌+◌, ◌^◌, ◌-◌, ◌==◌, Bool, true, false, not, ◌&&◌, nat_le, nat_lt}
use Rattle.std.specs.Prelude.{int_le}
use Rattle.std.specs.Prelude.{int_lt, if◌then◌else◌, List, [], ◌∷◌, length, map, position}
use Rattle.std.specs.Prelude.{count_by, Option}
use Rattle.std.specs.List.{list_all}
use Rattle.std.specs.Option.{option_map_or}
use Rattle.pc_messages.specs.Mask.{allows}
use Rattle.pc_calls.specs.Conditions.{first_of}
use Rattle.pc_calls.specs.declared.limits.TheConstants.{MOST_CPUS, MOST_THREADS}
use Rattle.pc_load.specs.declared.load.TheConstants.{MOST_STEPS, MOST_LEVEL, LAST_TICK}
use Rattle.pc_calls.specs.declared.leaving.Leaving.{Leaving}
use Rattle.pc_calls.specs.declared.leaving.Leaving.TheVariants.{Block, Die}
use Rattle.pc_load.specs.declared.load.LoadStep.{LoadStep}
use Rattle.pc_load.specs.declared.load.ThreadDraft.{ThreadDraft}
use Rattle.pc_load.specs.declared.load.ThreadLoad.{ThreadLoad}
use Rattle.pc_load.specs.declared.load.LoadFault.{LoadFault}
use Rattle.pc_load.specs.declared.load.LoadFault.TheVariants.{BadCpus, BadUntil, TooManyThreads, BadThread, BadLoad}

-- what a thread needs: its first queue, the CPUs that it may run on, its steps in order, the tick of its creation, its
-- level, and for how many ticks it sleeps behind its first block, its second ..
pub record Need : Type 0 where
  pub queue : ℤ
  pub mask : ℤ
  pub steps : List LoadStep
  pub start : ℤ
  pub level : ℤ
  pub sleeps : List ℤ

-- how many CPUs, the tick in front of whose things a run stops, and the threads in the order of their creation
pub record Demand : Type 0 where
  pub cpus : ℤ
  pub until : ℤ
  pub threads : List Need

-- what a draft tells
abbrev pub drafted : ThreadDraft → Need
drafted draft = record {
  queue = draft.queue;
  mask = draft.mask;
  steps = draft.steps.items;
  start = draft.start;
  level = draft.level;
  sleeps = draft.sleeps.items;
}

-- what a thread of a load needs
abbrev pub need_of : ThreadLoad → Need
need_of load = record {
  queue = pos load.queue;
  mask = pos load.mask;
  steps = load.steps.items;
  start = pos load.start;
  level = pos load.level;
  sleeps = map pos load.sleeps.items;
}

-- so many CPUs, a tick in front of whose things a run stops, and these threads
abbrev pub demand : ℤ → ℤ → List Need → Demand
demand cpus until threads = record { cpus = cpus; until = until; threads = threads }

-- the tick of a text, where 0 stands for the last one
abbrev pub end_of : ℤ → ℤ
end_of until = if nat_abs until == 0 then pos LAST_TICK else until

-- The faults of a load, in the order in which they are told.

-- z is low to high
abbrev pub is_between : ℕ → ℕ → ℤ → Bool
is_between low high z = int_le (pos low) z && int_le z (pos high)

-- z is a u32
abbrev pub is_u32 : ℤ → Bool
is_u32 z = is_between 0 (2 ^ 32 - 1) z

-- z names one of so many CPUs
abbrev pub is_cpu : ℕ → ℤ → Bool
is_cpu cpus z = int_le (pos 0) z && int_lt z (pos cpus)

-- some bit of z is set, and all that are stand for one of so many CPUs
abbrev pub is_mask : ℕ → ℤ → Bool
is_mask cpus z = int_lt (pos 0) z && int_lt z (pos (2 ^ cpus))

-- the thread dies as it leaves
abbrev pub dies : Leaving → Bool
dies Die = true
dies _ = false

-- the thread blocks as it leaves
abbrev pub blocks : Leaving → Bool
blocks Block = true
blocks _ = false

-- of so many steps the first die is the last one, and there are no more than these
abbrev pub dies_last : (most steps : ℕ) → Option ℕ → Bool
dies_last most steps first_die =
    nat_le steps most && option_map_or (λ first. first + 1 == steps) first_die false

-- there are 1 to MOST_STEPS steps, the last is a die, and no other is: the first die is the last step
abbrev pub is_life : List LoadStep → Bool
is_life steps = dies_last MOST_STEPS (length steps) (position (λ step. dies step.leaving) steps)

-- a thread can be created so on so many CPUs, and lives
abbrev pub is_thread : ℕ → Need → Bool
is_thread cpus need = is_cpu cpus need.queue && is_mask cpus need.mask && is_life need.steps

-- for no more than its blocks is told how long it sleeps, a u32 for each
abbrev pub are_sleeps : List LoadStep → List ℤ → Bool
are_sleeps steps sleeps =
    nat_le (length sleeps) (count_by (λ step. blocks step.leaving) steps) && list_all is_u32 sleeps

-- it may run at home, does not come before the thread in front of it, and has a level and sleeps
abbrev pub is_load : ℤ → Need → Bool
is_load before need =
    allows (nat_abs need.mask) (nat_abs need.queue)
    && (int_le before need.start && is_u32 need.start)
    && is_between 0 MOST_LEVEL need.level
    && are_sleeps need.steps need.sleeps

-- what may be wrong with the threads from one place on, behind one that comes at this tick
abbrev pub thread_faults : ℕ → ℤ → ℕ → List Need → List (Bool × LoadFault)
thread_faults cpus before place [] = []
thread_faults cpus before place (need ∷ needs) =
    (not (is_thread cpus need), BadThread place)
    ∷ (not (is_load before need), BadLoad place)
    ∷ thread_faults cpus need.start (place + 1) needs

-- all that may be wrong with a load
abbrev pub faults_of : Demand → List (Bool × LoadFault)
faults_of all =
    (not (is_between 1 MOST_CPUS all.cpus), BadCpus)
    ∷ (not (is_between 0 LAST_TICK all.until), BadUntil)
    ∷ (nat_lt MOST_THREADS (length all.threads), TooManyThreads)
    ∷ thread_faults (nat_abs all.cpus) (pos 0) 0 all.threads

-- the first fault of a load
abbrev pub fault_of : Demand → Option LoadFault
fault_of all = first_of (faults_of all)
