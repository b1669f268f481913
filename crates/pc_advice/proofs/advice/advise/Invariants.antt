use Rattle.std.proofs.Common.{◌-◌}
use Rattle.pc_advice.specs.Advices.{steps_of}
use Rattle.pc_advice.specs.Behind.{AreNoted, kernel_of}
use Rattle.pc_advice.proofs.advice.advise.Given as goal

abbrev pub invariant-loop-policy : goal.invariant-loop-policy
invariant-loop-policy l = AreNoted (kernel_of l.world) (steps_of l.plan)

-- how many steps there is room for
abbrev pub decreases-loop-policy : goal.decreases-loop-policy
decreases-loop-policy l = 24 - l.plan.count
