-- The settings of a run that a TOML text spells, and what is wrong with a text that spells none.
use Rattle.std.specs.Prelude.{ℕ, ℤ, pos, ◌≡◌, ◌+◌, ◌⊎◌, List, [], ◌∷◌, ◌++◌, map, flat_map, filter_map, Option, Some}
use Rattle.std.specs.Prelude.{None, Result, Ok, Err, unwrap_or, option_map, codes}
use Rattle.toml.specs.Data.{Members}
use Rattle.pc_threads.specs.Settings.{Settings, Plan, faults_of, first_fault}
use Rattle.pc_threads.specs.declared.settings.config.Config.{Config}
use Rattle.pc_threads.specs.declared.settings.restarts.Restart.{Restart}
use Rattle.pc_settings.specs.Keys.{integer_at, tables_at, texts_at, unless}
use Rattle.pc_settings.specs.Steps.{read_run_step}
use Rattle.pc_settings.specs.declared.field.Field.TheVariants as field
use Rattle.pc_settings.specs.declared.runs.SettingsFault.{SettingsFault}
use Rattle.pc_settings.specs.declared.runs.SettingsFault.TheVariants.{NotToml, BadField, BadStep, BadConfig}
use Rattle.pc_settings.specs.declared.runs.SettingsFault.TheVariants.{OutOfMemory}

-- What the keys of a text tell; what is said of a key that tells nothing plays no part, since it is a fault.

-- the tables of threads
abbrev pub threads_in : Members → List Members
threads_in table = unwrap_or (tables_at (codes "thread") table) []

-- the tables of restarts
abbrev pub restarts_in : Members → List Members
restarts_in table = unwrap_or (tables_at (codes "restart") table) []

-- the texts of a thread's steps
abbrev pub texts_in : Members → List (List ℕ)
texts_in thread = unwrap_or (texts_at (codes "steps") thread) []

-- the integer at a key
abbrev pub integer_in : List ℕ → Members → ℤ
integer_in key table = unwrap_or (integer_at key table) (pos 0)

-- a thread's plan
abbrev pub plan_in : Members → Plan
plan_in thread = record {
  queue = integer_in (codes "queue") thread;
  mask = integer_in (codes "mask") thread;
  steps = filter_map read_run_step (texts_in thread);
}

-- a restart
abbrev pub restart_in : Members → Restart
restart_in restart = record {
  cpu = integer_in (codes "cpu") restart;
  turn = integer_in (codes "turn") restart;
}

-- the settings that a text spells
abbrev pub settings_in : Members → Settings
settings_in table = record {
  cpus = integer_in (codes "cpus") table;
  threads = map plan_in (threads_in table);
  restarts = map restart_in (restarts_in table);
}

-- The faults of a text, in the order in which they are told.

-- the keys of a thread that are absent or of another type
abbrev pub thread_faults : Members → List (Option SettingsFault)
thread_faults thread =
    unless (integer_at (codes "queue") thread) (BadField field.Queue)
    ∷ unless (integer_at (codes "mask") thread) (BadField field.Mask)
    ∷ unless (texts_at (codes "steps") thread) (BadField field.Steps)
    ∷ []

-- the keys of a restart that are absent or of another type
abbrev pub restart_faults : Members → List (Option SettingsFault)
restart_faults restart =
    unless (integer_at (codes "cpu") restart) (BadField field.Cpu)
    ∷ unless (integer_at (codes "turn") restart) (BadField field.Turn)
    ∷ []

-- the texts that are no step, of a thread's steps from one place on
abbrev pub text_faults : ℕ → ℕ → List (List ℕ) → List (Option SettingsFault)
text_faults thread step [] = []
text_faults thread step (text ∷ texts) =
    unless (read_run_step text) (BadStep thread step) ∷ text_faults thread (step + 1) texts

-- the texts that are no step, of all threads from one place on
abbrev pub step_faults : ℕ → List Members → List (Option SettingsFault)
step_faults thread [] = []
step_faults thread (table ∷ tables) = text_faults thread 0 (texts_in table) ++ step_faults (thread + 1) tables

-- the keys, then the steps, then the settings that are spelled
abbrev pub faults_in : Members → List (Option SettingsFault)
faults_in table = flat_map (λ stage. stage)
    ((unless (integer_at (codes "cpus") table) (BadField field.Cpus) ∷ [])
    ∷ (unless (tables_at (codes "thread") table) (BadField field.Threads) ∷ [])
    ∷ flat_map thread_faults (threads_in table)
    ∷ (unless (tables_at (codes "restart") table) (BadField field.Restarts) ∷ [])
    ∷ flat_map restart_faults (restarts_in table)
    ∷ step_faults 0 (threads_in table)
    ∷ map (option_map BadConfig) (faults_of (settings_in table))
    ∷ [])

-- the settings that the table of a text spells, or its first fault; or memory was wanting
abbrev pub Reads : Option Members → Result Config SettingsFault → Type 0
Reads (Some table) (Ok config) = (first_fault (faults_in table) ≡ None) × (config ≡ settings_in table)
Reads (Some table) (Err fault) = (first_fault (faults_in table) ≡ Some fault) ⊎ (fault ≡ OutOfMemory)
Reads None (Ok config) = ⊥
Reads None (Err fault) = (fault ≡ NotToml) ⊎ (fault ≡ OutOfMemory)

-- the text spells settings without fault
abbrev pub SpellsSettings : Option Members → Type 0
SpellsSettings (Some table) = first_fault (faults_in table) ≡ None
SpellsSettings None = ⊥
