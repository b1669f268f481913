use Rattle.std.proofs.Common.{◌≡◌, take}
use Rattle.pc_kernel.specs.Reads.{seen}
use Rattle.pc_advice.specs.Behind.{posts_behind}
use Rattle.pc_advice.proofs.behind.posts.Given as goal

abbrev pub invariant-loop-step : goal.invariant-loop-step
invariant-loop-step l = l.count ≡ posts_behind (seen l.kernel) l.queue (take l.step-index l.steps)
