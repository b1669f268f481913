-- What the steps that threads have still to do come to.
use Rattle.std.specs.Prelude.{ℕ, ◌+◌, ◌≡◌, List, [], ◌∷◌, drop, sum_by, if◌then◌else◌}
use Rattle.pc_calls.specs.declared.call.EnvCall.{EnvCall}
use Rattle.pc_calls.specs.declared.call.EnvCall.TheVariants.{YieldNow, Block, Preempt, Die}
use Rattle.pc_threads.specs.declared.settings.plans.Step.{Step}
use Rattle.pc_threads.specs.declared.settings.plans.Step.TheVariants as step
use Rattle.pc_threads.specs.Settings.{Plan, is_block, is_die}

-- by how many steps each thread has done
abbrev pub left_of : (Step → ℕ) → List Plan → List ℕ → ℕ
left_of by [] done = 0
left_of by (plan ∷ plans) [] = 0
left_of by (plan ∷ plans) (n ∷ done) = sum_by by (drop n plan.steps) + left_of by plans done

abbrev pub one : Step → ℕ
one step = 1

-- a step's messages: its own, and behind a block that of the wakeup
abbrev pub told_in : Step → ℕ
told_in step = 1 + (if is_block step then 1 else 0)

-- how many threads die by a step
abbrev pub died_in : Step → ℕ
died_in step = if is_die step then 1 else 0

-- how a thread leaves a CPU by a step
abbrev pub leaving : ℕ → Step → EnvCall
leaving cpu (step.Yield n) = YieldNow cpu n
leaving cpu (step.Block n) = Block cpu n
leaving cpu (step.Preempt n) = Preempt cpu n
leaving cpu (step.Die n) = Die cpu n

-- this step was done of all that were left
abbrev pub IsOneFewer : List Plan → Step → List ℕ → List ℕ → Type 0
IsOneFewer plans step old new = (by : Step → ℕ) → left_of by plans new + by step ≡ left_of by plans old

-- what all steps of all threads come to
abbrev pub sum_in : (Step → ℕ) → List Plan → ℕ
sum_in by plans = sum_by (λ plan. sum_by by plan.steps) plans
