-- What is read step by step tells the first fault of all, and else the settings.
use Rattle.std.proofs.Common.{ℕ, ℤ, pos, ◌≡◌, ◌+◌, List, [], ◌∷◌, ◌++◌, map, flat_map, filter_map, Option, Some, None, Result, Ok, Err, ok_or, unwrap_or, option_map, codes, append-nil, refl, sym, ap, ◌∙◌, subst, inl, inr}
use Rattle.toml.specs.Data.{Members}
use Rattle.pc_threads.specs.Settings.{Settings, Plan, faults_of, first_fault}
use Rattle.pc_threads.specs.declared.settings.config.Config.{Config}
use Rattle.pc_threads.specs.declared.settings.faults.ConfigFault.{ConfigFault}
use Rattle.pc_threads.specs.declared.settings.restarts.Restart.{Restart}
use Rattle.pc_threads.specs.declared.settings.plans.Step.{Step}
use Rattle.std.specs.Option.{option_to_list}
use Rattle.std.specs.List.{cons_option}
use Rattle.pc_settings.specs.Steps.{read_run_step}
use Rattle.pc_settings.specs.Keys.{integer_at, tables_at, unless}
use Rattle.pc_settings.specs.SettingsText.{integer_in, threads_in, restarts_in, texts_in, plan_in, restart_in, settings_in, thread_faults, restart_faults, text_faults, step_faults, faults_in, Reads}
use Rattle.pc_settings.specs.Inner.Readings.{Read, and_then, each, read_unless, draft_in, read_draft, read_restart, read_text, read_plan, checked, checked_by, read_table, Follows}
use Rattle.pc_settings.specs.Inner.SharedKeys.{Told}
use Rattle.pc_settings.specs.declared.field.Field.TheVariants as field
use Rattle.pc_settings.specs.declared.runs.SettingsFault.{SettingsFault}
use Rattle.pc_settings.specs.declared.runs.SettingsFault.TheVariants.{BadField, BadStep, BadConfig}

-- the value, where there is no fault, and else the first of the faults
abbrev Tells : {A : Type 0} → List (Option SettingsFault) → A → Read A → Type 0
Tells faults value (Ok a) = (first_fault faults ≡ None) × (a ≡ value)
Tells faults value (Err fault) = first_fault faults ≡ Some fault

first_then : {F : Type 0} (faults more : List (Option F)) → first_fault faults ≡ None → first_fault (faults ++ more) ≡ first_fault more
first_then [] more e = refl
first_then (None ∷ faults) more e = first_then faults more e
first_then (Some f ∷ faults) more e = cc

first_front : {F : Type 0} (faults more : List (Option F)) (f : F) → first_fault faults ≡ Some f → first_fault (faults ++ more) ≡ Some f
first_front [] more f e = cc
first_front (None ∷ faults) more f e = first_front faults more f e
first_front (Some g ∷ faults) more f e = e

first_map : {F G : Type 0} (g : F → G) (faults : List (Option F)) → first_fault (map (option_map g) faults) ≡ option_map g (first_fault faults)
first_map g [] = refl
first_map g (None ∷ faults) = first_map g faults
first_map g (Some f ∷ faults) = refl

tells_behind : {A : Type 0} (faults more : List (Option SettingsFault)) (w : A) (read : Read A) → first_fault faults ≡ None → Tells more w read → Tells (faults ++ more) w read
tells_behind faults more w (Ok a) none h = (first_then faults more none ∙ h.0, h.1)
tells_behind faults more w (Err f) none h = first_then faults more none ∙ h

-- one reading after another
tells_then : {A B : Type 0} (faults more : List (Option SettingsFault)) (value : A) (w : B) (read : Read A) (next : A → Read B)
    → Tells faults value read → Tells more w (next value) → Tells (faults ++ more) w (and_then read next)
tells_then faults more value w (Ok a) next h g =
    let here : Tells more w (next a) = subst (λ v. Tells more w (next v)) (sym h.1) g in
    tells_behind faults more w (next a) h.0 here
tells_then faults more value w (Err f) next h g = first_front faults more f h

tells_some : {A : Type 0} (o : Option A) (d : A) (f : SettingsFault) → Tells (unless o f ∷ []) (unwrap_or o d) (ok_or o f)
tells_some None d f = refl
tells_some (Some a) d f = (refl, refl)

tells_all : {A : Type 0} (faults : List (Option SettingsFault)) (w : A) (read : Read A) → Tells faults w read → Tells (faults ++ []) w read
tells_all faults w (Ok a) h = (ap first_fault (append-nil faults) ∙ h.0, h.1)
tells_all faults w (Err f) h = ap first_fault (append-nil faults) ∙ h

tells_done : {A : Type 0} (w : A) → Tells [] w (Ok w)
tells_done w = (refl, refl)

-- each element by itself
more_told : {A : Type 0} (faults : List (Option SettingsFault)) (v : A) (vs : List A) (rest : Read (List A)) → Tells faults vs rest
    → Tells faults (v ∷ vs) (and_then rest (λ others. Ok (v ∷ others)))
more_told faults v vs (Ok done) h = (h.0, ap (λ others. v ∷ others) h.1)
more_told faults v vs (Err f) h = h

tells_each : {X A : Type 0} (faults : X → List (Option SettingsFault)) (value : X → A) (read : ℕ → X → Read A) (i : ℕ) (xs : List X)
    → ((k : ℕ) (x : X) → Tells (faults x) (value x) (read k x)) → Tells (flat_map faults xs) (map value xs) (each read i xs)
tells_each faults value read i [] one = (refl, refl)
tells_each faults value read i (x ∷ xs) one =
    tells_then (faults x) (flat_map faults xs) (value x) (value x ∷ map value xs) (read i x) (λ a. and_then (each read (i + 1) xs) (λ others. Ok (a ∷ others))) (one i x)
    (more_told (flat_map faults xs) (value x) (map value xs) (each read (i + 1) xs) (tells_each faults value read (i + 1) xs one))

-- the keys of a thread and of a restart
tells_unless : {A : Type 0} (faults : List (Option SettingsFault)) (value : A) (first : Option SettingsFault) → first_fault faults ≡ first → Tells faults value (read_unless first value)
tells_unless faults value None e = (e, refl)
tells_unless faults value (Some f) e = e

tells_draft : (place : ℕ) (t : Members) → Tells (thread_faults t) (draft_in t) (read_draft place t)
tells_draft place t = tells_unless (thread_faults t) (draft_in t) (first_fault (thread_faults t)) refl

tells_restart : (place : ℕ) (t : Members) → Tells (restart_faults t) (restart_in t) (read_restart place t)
tells_restart place t = tells_unless (restart_faults t) (restart_in t) (first_fault (restart_faults t)) refl

-- the steps of a thread, and of all
text_told : (i j : ℕ) (texts : List (List ℕ)) (there : Option Step)
    → Tells (text_faults i (j + 1) texts) (filter_map read_run_step texts) (each (read_text i) (j + 1) texts)
    → Tells (unless there (BadStep i j) ∷ text_faults i (j + 1) texts) (option_to_list there ++ filter_map read_run_step texts)
    (and_then (ok_or there (BadStep i j)) (λ step. and_then (each (read_text i) (j + 1) texts) (λ others. Ok (step ∷ others))))
text_told i j texts None h = refl
text_told i j texts (Some step) h = more_told (text_faults i (j + 1) texts) step (filter_map read_run_step texts) (each (read_text i) (j + 1) texts) h

kept : {A : Type 0} (o : Option A) (rest : List A) → option_to_list o ++ rest ≡ cons_option o rest
kept None rest = refl
kept (Some a) rest = refl

tells_texts : (i j : ℕ) (texts : List (List ℕ)) → Tells (text_faults i j texts) (filter_map read_run_step texts) (each (read_text i) j texts)
tells_texts i j [] = (refl, refl)
tells_texts i j (text ∷ texts) =
    subst (λ steps. Tells (text_faults i j (text ∷ texts)) steps (each (read_text i) j (text ∷ texts))) (kept (read_run_step text) (filter_map read_run_step texts))
    (text_told i j texts (read_run_step text) (tells_texts i (j + 1) texts))

abbrev plan_told : Members → List Step → Read Plan
plan_told t steps = Ok (record { queue = integer_in (codes "queue") t; mask = integer_in (codes "mask") t; steps = steps })

tells_plan : (i : ℕ) (t : Members) → Tells (text_faults i 0 (texts_in t)) (plan_in t) (read_plan i (draft_in t))
tells_plan i t =
    subst (λ faults. Tells faults (plan_in t) (read_plan i (draft_in t))) (append-nil (text_faults i 0 (texts_in t)))
    (tells_then (text_faults i 0 (texts_in t)) [] (filter_map read_run_step (texts_in t)) (plan_in t) (each (read_text i) 0 (texts_in t)) (plan_told t)
    (tells_texts i 0 (texts_in t)) (tells_done (plan_in t)))

tells_plans : (i : ℕ) (threads : List Members) → Tells (step_faults i threads) (map plan_in threads) (each read_plan i (map draft_in threads))
tells_plans i [] = (refl, refl)
tells_plans i (t ∷ threads) =
    tells_then (text_faults i 0 (texts_in t)) (step_faults (i + 1) threads) (plan_in t) (plan_in t ∷ map plan_in threads) (read_plan i (draft_in t))
    (λ plan. and_then (each read_plan (i + 1) (map draft_in threads)) (λ others. Ok (plan ∷ others))) (tells_plan i t)
    (more_told (step_faults (i + 1) threads) (plan_in t) (map plan_in threads) (each read_plan (i + 1) (map draft_in threads)) (tells_plans (i + 1) threads))

-- the settings that are spelled
checked_told : (s : Settings) (fault : Option ConfigFault) → first_fault (faults_of s) ≡ fault → Tells (map (option_map BadConfig) (faults_of s)) s (checked_by s fault)
checked_told s None e = (first_map BadConfig (faults_of s) ∙ ap (option_map BadConfig) e, refl)
checked_told s (Some f) e = first_map BadConfig (faults_of s) ∙ ap (option_map BadConfig) e

tells_checked : (s : Settings) → Tells (map (option_map BadConfig) (faults_of s)) s (checked s)
tells_checked s = checked_told s (first_fault (faults_of s)) refl

-- what is read after each stage
abbrev after_plans : ℤ → List Restart → List Plan → Read Settings
after_plans cpus restarts plans = checked (record { cpus = cpus; threads = plans; restarts = restarts })

abbrev after_restarts : ℤ → List Told → List Restart → Read Settings
after_restarts cpus drafts restarts = and_then (each read_plan 0 drafts) (after_plans cpus restarts)

abbrev after_others : ℤ → List Told → List Members → Read Settings
after_others cpus drafts others = and_then (each read_restart 0 others) (after_restarts cpus drafts)

abbrev after_drafts : Members → ℤ → List Told → Read Settings
after_drafts t cpus drafts = and_then (ok_or (tables_at (codes "restart") t) (BadField field.Restarts)) (after_others cpus drafts)

abbrev after_threads : Members → ℤ → List Members → Read Settings
after_threads t cpus threads = and_then (each read_draft 0 threads) (after_drafts t cpus)

abbrev after_cpus : Members → ℤ → Read Settings
after_cpus t cpus = and_then (ok_or (tables_at (codes "thread") t) (BadField field.Threads)) (after_threads t cpus)

-- the faults from each stage on
abbrev from_settings : Members → List (Option SettingsFault)
from_settings t = map (option_map BadConfig) (faults_of (settings_in t)) ++ []

abbrev from_steps : Members → List (Option SettingsFault)
from_steps t = step_faults 0 (threads_in t) ++ from_settings t

abbrev from_restarts : Members → List (Option SettingsFault)
from_restarts t = flat_map restart_faults (restarts_in t) ++ from_steps t

abbrev from_list : Members → List (Option SettingsFault)
from_list t = (unless (tables_at (codes "restart") t) (BadField field.Restarts) ∷ []) ++ from_restarts t

abbrev from_threads : Members → List (Option SettingsFault)
from_threads t = flat_map thread_faults (threads_in t) ++ from_list t

abbrev from_thread_list : Members → List (Option SettingsFault)
from_thread_list t = (unless (tables_at (codes "thread") t) (BadField field.Threads) ∷ []) ++ from_threads t

abbrev cpus_of : Members → ℤ
cpus_of t = integer_in (codes "cpus") t

settings_told : (t : Members) → Tells (from_settings t) (settings_in t) (after_plans (cpus_of t) (map restart_in (restarts_in t)) (map plan_in (threads_in t)))
settings_told t = tells_all (map (option_map BadConfig) (faults_of (settings_in t))) (settings_in t) (checked (settings_in t)) (tells_checked (settings_in t))

steps_told : (t : Members) → Tells (from_steps t) (settings_in t) (after_restarts (cpus_of t) (map draft_in (threads_in t)) (map restart_in (restarts_in t)))
steps_told t =
    tells_then (step_faults 0 (threads_in t)) (from_settings t) (map plan_in (threads_in t)) (settings_in t) (each read_plan 0 (map draft_in (threads_in t)))
    (after_plans (cpus_of t) (map restart_in (restarts_in t))) (tells_plans 0 (threads_in t)) (settings_told t)

restarts_told : (t : Members) → Tells (from_restarts t) (settings_in t) (after_others (cpus_of t) (map draft_in (threads_in t)) (restarts_in t))
restarts_told t =
    tells_then (flat_map restart_faults (restarts_in t)) (from_steps t) (map restart_in (restarts_in t)) (settings_in t) (each read_restart 0 (restarts_in t))
    (after_restarts (cpus_of t) (map draft_in (threads_in t))) (tells_each restart_faults restart_in read_restart 0 (restarts_in t) tells_restart) (steps_told t)

list_told : (t : Members) → Tells (from_list t) (settings_in t) (after_drafts t (cpus_of t) (map draft_in (threads_in t)))
list_told t =
    tells_then (unless (tables_at (codes "restart") t) (BadField field.Restarts) ∷ []) (from_restarts t) (restarts_in t) (settings_in t)
    (ok_or (tables_at (codes "restart") t) (BadField field.Restarts)) (after_others (cpus_of t) (map draft_in (threads_in t)))
    (tells_some (tables_at (codes "restart") t) [] (BadField field.Restarts)) (restarts_told t)

threads_told : (t : Members) → Tells (from_threads t) (settings_in t) (after_threads t (cpus_of t) (threads_in t))
threads_told t =
    tells_then (flat_map thread_faults (threads_in t)) (from_list t) (map draft_in (threads_in t)) (settings_in t) (each read_draft 0 (threads_in t))
    (after_drafts t (cpus_of t)) (tells_each thread_faults draft_in read_draft 0 (threads_in t) tells_draft) (list_told t)

thread_list_told : (t : Members) → Tells (from_thread_list t) (settings_in t) (after_cpus t (cpus_of t))
thread_list_told t =
    tells_then (unless (tables_at (codes "thread") t) (BadField field.Threads) ∷ []) (from_threads t) (threads_in t) (settings_in t)
    (ok_or (tables_at (codes "thread") t) (BadField field.Threads)) (after_threads t (cpus_of t))
    (tells_some (tables_at (codes "thread") t) [] (BadField field.Threads)) (threads_told t)

table_told : (t : Members) → Tells (faults_in t) (settings_in t) (read_table t)
table_told t =
    tells_then (unless (integer_at (codes "cpus") t) (BadField field.Cpus) ∷ []) (from_thread_list t) (cpus_of t) (settings_in t)
    (ok_or (integer_at (codes "cpus") t) (BadField field.Cpus)) (after_cpus t) (tells_some (integer_at (codes "cpus") t) (pos 0) (BadField field.Cpus)) (thread_list_told t)

-- so an answer that follows the reading is right
pub read_as_spelled : (t : Members) (answer : Result Config SettingsFault) → Follows (read_table t) (λ config. config) answer → Reads (Some t) answer
read_as_spelled t (Ok config) h = subst (λ read. Tells (faults_in t) (settings_in t) read) h (table_told t)
read_as_spelled t (Err f) (inl h) = inl (subst (λ read. Tells (faults_in t) (settings_in t) read) h (table_told t))
read_as_spelled t (Err f) (inr h) = inr h
