use Rattle.std.proofs.Common.{◌≡◌, take}
use Rattle.pc_kernel.specs.Reads.{seen}
use Rattle.pc_advice.specs.Behind.{running_behind}
use Rattle.pc_advice.proofs.behind.running.Given as goal

abbrev pub invariant-loop-step : goal.invariant-loop-step
invariant-loop-step l = l.running ≡ running_behind (seen l.kernel) l.cpu (take l.step-index l.steps)
