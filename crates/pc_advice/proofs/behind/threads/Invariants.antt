use Rattle.std.proofs.Common.{◌≡◌, take}
use Rattle.pc_kernel.specs.Reads.{seen}
use Rattle.pc_advice.specs.Behind.{threads_behind}
use Rattle.pc_advice.proofs.behind.threads.Given as goal

abbrev pub invariant-loop-step : goal.invariant-loop-step
invariant-loop-step l = l.count ≡ threads_behind (seen l.kernel) (take l.step-index l.steps)
