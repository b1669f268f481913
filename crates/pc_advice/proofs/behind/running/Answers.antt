use Rattle.std.proofs.Common.{◌≡◌, take, rules}
use Rattle.pc_kernel.specs.Reads.{seen}
use Rattle.pc_advice.proofs.Pushed.{next_step, running-more}
use Rattle.pc_advice.proofs.behind.running.Goals as goal

pub loop-step-preserved : goal.loop-step-preserved
loop-step-preserved c =
    rw (next_step c.args.steps.now c.loop-step.step-index c.step-item.result c.loop-step-test.true c.step-item.is)
    (running-more (seen c.args.kernel.now) c.args.cpu (take c.loop-step.step-index c.args.steps.now) c.step-item.result c.loop-step.running _ c.loop-step.invariant (search rules))
