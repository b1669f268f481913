use Rattle.std.proofs.Common.{◌≡◌, take}
use Rattle.pc_kernel.specs.Reads.{seen}
use Rattle.pc_advice.specs.Behind.{stands_behind}
use Rattle.pc_advice.proofs.behind.stands.Given as goal

abbrev pub invariant-loop-step : goal.invariant-loop-step
invariant-loop-step l = l.standing ≡ stands_behind (seen l.kernel) l.thread (take l.step-index l.steps)
