-- The steps of a thread's own doing: a recorded preempt was its scheduler's, and goes with the step behind it.
use Rattle.std.specs.Prelude.{ℕ, ◌+◌, ◌^◌, Bool, true, false, ◌&&◌, nat_lt, if◌then◌else◌, List, [], ◌∷◌}
use Rattle.pc_calls.specs.declared.leaving.Leaving.{Leaving}
use Rattle.pc_calls.specs.declared.leaving.Leaving.TheVariants.{Preempt}
use Rattle.pc_load.specs.declared.load.LoadStep.{LoadStep}

-- the thread is preempted as it leaves
abbrev pub preempts : Leaving → Bool
preempts Preempt = true
preempts _ = false

-- the step with more ticks in front
abbrev pub with_more : ℕ → LoadStep → LoadStep
with_more more step = record { leaving = step.leaving; ticks = more + step.ticks }

-- a preempt that got more ticks gives them with its own to the step behind it, where the sum of all is a u32
abbrev pub is_joined : ℕ → LoadStep → List LoadStep → Bool
is_joined more step [] = false
is_joined more step (next ∷ rest) = preempts step.leaving && nat_lt (more + step.ticks + next.ticks) (2 ^ 32)

-- the steps joined, of which the first one gets more ticks
abbrev pub joined_with : ℕ → List LoadStep → List LoadStep
joined_with more [] = []
joined_with more (step ∷ rest) =
    if is_joined more step rest then joined_with (more + step.ticks) rest else with_more more step ∷ joined_with 0 rest

-- the steps of a thread, joined from the front unless recorded preempts are kept
abbrev pub steps_under : Bool → List LoadStep → List LoadStep
steps_under keep steps = if keep then steps else joined_with 0 steps
