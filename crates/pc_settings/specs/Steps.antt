-- The texts of steps: of a load, and of a run of agents in threads, which are written alike.
use Rattle.std.specs.Prelude.{ℕ, ◌≡◌, ◌^◌, ◌<◌, ◌↔◌, ◌&&◌, List, [], ◌∷◌, ◌++◌, length, take, drop, nat_lt, Option}
use Rattle.std.specs.Prelude.{Some, None, option_map, if◌then◌else◌, bytes_eq, codes, decimal}
use Rattle.std.specs.Str.Parse.{digits_value}
use Rattle.pc_calls.specs.declared.leaving.Leaving.{Leaving}
use Rattle.pc_calls.specs.declared.leaving.Leaving.TheVariants.{Yield, Block, Preempt, Die}
use Rattle.pc_calls.specs.Leavings as leavings
use Rattle.pc_load.specs.declared.load.LoadStep.{LoadStep}
use Rattle.pc_settings.specs.Keys.{first_some}
use Rattle.pc_threads.specs.Settings.{ticks}
use Rattle.pc_threads.specs.declared.settings.plans.Step as run
use Rattle.pc_threads.specs.declared.settings.plans.Step.TheVariants as run_step

-- how a thread that leaves so is written, with a space behind
abbrev pub leaving_word : Leaving → List ℕ
leaving_word leaving = leavings.leaving_word leaving ++ codes " "

-- the text of a step: that, and for how many ticks the thread ran
abbrev pub step_text : LoadStep → List ℕ
step_text step = leaving_word step.leaving ++ decimal step.ticks

-- the number below 2 ^ 32 that a text is in decimal, with neither a sign nor a zero in front
abbrev pub read_number : List ℕ → Option ℕ
read_number text =
    let n = digits_value 10 text in if nat_lt n (2 ^ 32) && bytes_eq text (decimal n) then Some n else None

-- the number that follows a word
abbrev pub read_after : List ℕ → List ℕ → Option ℕ
read_after word text = if bytes_eq (take (length word) text) word then read_number (drop (length word) text) else None

-- the step of this kind that a text is
abbrev pub read_leaving : List ℕ → Leaving → Option LoadStep
read_leaving text leaving =
    option_map (λ ticks. record { leaving = leaving; ticks = ticks }) (read_after (leaving_word leaving) text)

-- the step that a text is
abbrev pub read_step : List ℕ → Option LoadStep
read_step text =
    first_some
    (read_leaving text Yield ∷ read_leaving text Block ∷ read_leaving text Preempt ∷ read_leaving text Die ∷ [])

-- reading a step gives the step that is written so
abbrev pub StepsAreReadAsWritten : Type 0
StepsAreReadAsWritten =
    (text : List ℕ) (step : LoadStep) → (read_step text ≡ Some step) ↔ ((text ≡ step_text step) × (step.ticks < 2 ^ 32))

-- the step of a load that is written as a step of a run is
abbrev pub of_run : run.Step → LoadStep
of_run (run_step.Yield n) = record { leaving = Yield; ticks = n }
of_run (run_step.Block n) = record { leaving = Block; ticks = n }
of_run (run_step.Preempt n) = record { leaving = Preempt; ticks = n }
of_run (run_step.Die n) = record { leaving = Die; ticks = n }

-- the step of a run in which a thread leaves so, after so many ticks
abbrev pub run_leaving : Leaving → ℕ → run.Step
run_leaving Yield n = run_step.Yield n
run_leaving Block n = run_step.Block n
run_leaving Preempt n = run_step.Preempt n
run_leaving Die n = run_step.Die n

-- the step of a run that a text is
abbrev pub read_run_step : List ℕ → Option run.Step
read_run_step text = option_map (λ step. run_leaving step.leaving step.ticks) (read_step text)

-- reading a step of a run gives the step that is written so
abbrev pub RunStepsAreReadAsWritten : Type 0
RunStepsAreReadAsWritten =
    (text : List ℕ) (step : run.Step)
    → (read_run_step text ≡ Some step) ↔ ((text ≡ step_text (of_run step)) × (ticks step < 2 ^ 32))
