use Rattle.std.proofs.Common.{◌≡◌, ◌++◌, ◌-◌, drop, length}
use Rattle.pc_load.specs.Joining.{steps_under}
use Rattle.pc_load.proofs.load.ThreadLoad.joined_steps.Given as goal

abbrev pub invariant-loop-step : goal.invariant-loop-step
invariant-loop-step l = steps_under l.keep l.self.steps.items ≡ l.all.items ++ steps_under l.keep (drop l.from l.self.steps.items)

abbrev pub decreases-loop-step : goal.decreases-loop-step
decreases-loop-step l = length l.self.steps.items - l.from
