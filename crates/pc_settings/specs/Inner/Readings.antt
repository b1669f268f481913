-- Settings read step by step, each of which may find a fault.
use Rattle.std.specs.Prelude.{ℕ, ◌≡◌, ◌+◌, ◌⊎◌, List, [], ◌∷◌, Option, Some, None, Result, Ok, Err}
use Rattle.std.specs.Prelude.{ok_or, codes}
use Rattle.toml.specs.Data.{Members}
use Rattle.pc_threads.specs.Settings.{Settings, Plan, faults_of, first_fault}
use Rattle.pc_threads.specs.declared.settings.faults.ConfigFault.{ConfigFault}
use Rattle.pc_threads.specs.declared.settings.restarts.Restart.{Restart}
use Rattle.pc_threads.specs.declared.settings.plans.Step.{Step}
use Rattle.pc_settings.specs.Keys.{integer_at, tables_at}
use Rattle.pc_settings.specs.SettingsText.{integer_in, restart_faults, restart_in, texts_in, thread_faults}
use Rattle.pc_settings.specs.Steps.{read_run_step}
use Rattle.pc_settings.specs.Inner.SharedKeys.{Told}
use Rattle.pc_settings.specs.declared.field.Field.TheVariants as field
use Rattle.pc_settings.specs.declared.runs.SettingsFault.{SettingsFault}
use Rattle.pc_settings.specs.declared.runs.SettingsFault.TheVariants.{BadField, BadStep, BadConfig, OutOfMemory}

abbrev pub Read : Type 0 → Type 0
Read A = Result A SettingsFault

abbrev pub and_then : {A B : Type 0} → Read A → (A → Read B) → Read B
and_then (Ok a) next = next a
and_then (Err fault) next = Err fault

-- each element, with its place
abbrev pub each : {X A : Type 0} → (ℕ → X → Read A) → ℕ → List X → Read (List A)
each read place [] = Ok []
each read place (x ∷ xs) =
    and_then (read place x) (λ a. and_then (each read (place + 1) xs) (λ others. Ok (a ∷ others)))

-- this value, unless there is a fault
abbrev pub read_unless : {A : Type 0} → Option SettingsFault → A → Read A
read_unless None a = Ok a
read_unless (Some fault) a = Err fault

abbrev pub draft_in : Members → Told
draft_in thread = record {
  queue = integer_in (codes "queue") thread;
  mask = integer_in (codes "mask") thread;
  texts = texts_in thread;
}

abbrev pub read_draft : ℕ → Members → Read Told
read_draft place thread = read_unless (first_fault (thread_faults thread)) (draft_in thread)

abbrev pub read_restart : ℕ → Members → Read Restart
read_restart place restart = read_unless (first_fault (restart_faults restart)) (restart_in restart)

abbrev pub read_text : ℕ → ℕ → List ℕ → Read Step
read_text thread step text = ok_or (read_run_step text) (BadStep thread step)

abbrev pub read_plan : ℕ → Told → Read Plan
read_plan place draft =
    and_then (each (read_text place) 0 draft.texts) (λ steps.
    Ok (record { queue = draft.queue; mask = draft.mask; steps = steps }))

abbrev pub checked_by : Settings → Option ConfigFault → Read Settings
checked_by settings None = Ok settings
checked_by settings (Some fault) = Err (BadConfig fault)

abbrev pub checked : Settings → Read Settings
checked settings = checked_by settings (first_fault (faults_of settings))

abbrev pub read_table : Members → Read Settings
read_table table =
    and_then (ok_or (integer_at (codes "cpus") table) (BadField field.Cpus)) (λ cpus.
    and_then (ok_or (tables_at (codes "thread") table) (BadField field.Threads)) (λ threads.
    and_then (each read_draft 0 threads) (λ drafts.
    and_then (ok_or (tables_at (codes "restart") table) (BadField field.Restarts)) (λ others.
    and_then (each read_restart 0 others) (λ restarts.
    and_then (each read_plan 0 drafts) (λ plans.
    checked (record { cpus = cpus; threads = plans; restarts = restarts })))))))

-- the answer is what is read, or memory was wanting
abbrev pub Follows : {A B : Type 0} → Read A → (B → A) → Result B SettingsFault → Type 0
Follows read seen (Ok b) = read ≡ Ok (seen b)
Follows read seen (Err fault) = (read ≡ Err fault) ⊎ (fault ≡ OutOfMemory)
