-- Steps one after another, and advice on a line.
use Rattle.std.specs.Prelude.{◌≡◌, ◌-◌, IsTrue, List, [], ◌∷◌, ◌++◌, Any, length, take}
use Rattle.pc_kernel.specs.Reads.{Reads}
use Rattle.pc_advice.specs.Behind.{AreNoted}
use Rattle.pc_advice.specs.Deeds.{is_environments}
use Rattle.pc_advice.specs.declared.advice.Advice.{Advice}
use Rattle.pc_advice.specs.declared.advice.Advice.TheVariants as advice
use Rattle.pc_advice.specs.declared.deed.Deed.{Deed}
use Rattle.pc_advice.specs.declared.plan.Plan.{Plan}
use Rattle.pc_advice.specs.declared.plan.PlannedStep.{PlannedStep}

-- the steps of a plan, in their order
abbrev pub steps_of : Plan → List PlannedStep
steps_of plan = take plan.count plan.steps

-- the environment has to do one of the steps before the last
abbrev pub NeedsEnvironment : List PlannedStep → Type 0
NeedsEnvironment steps = Any (λ step. IsTrue (is_environments step.deed)) (take (length steps - 1) steps)

-- Steps of which the last is a deed, which is done once; each has its thread, queue and number of then, by what is read
-- of a kernel before all of them
pub record EndsBy (r : Reads) (line : Deed) (steps : List PlannedStep) : Type 0 where
  pub before : List PlannedStep
  pub last : PlannedStep
  pub steps_are : steps ≡ before ++ last ∷ []
  pub is_line : last.deed ≡ line
  pub once : last.times ≡ 1
  pub noted : AreNoted r steps

-- what advice for a line is: where it is steps, they end by the line, and each is noted as of then
abbrev pub IsFor : Reads → Deed → Advice → Type 0
IsFor r line (advice.Steps plan) = EndsBy r line (steps_of plan)
IsFor r line advice.NoAgent = Unit {0}
IsFor r line advice.Never = Unit {0}
IsFor r line advice.Unsought = Unit {0}
