use Rattle.std.proofs.Common.{map, arith}
use Rattle.pc_threads.specs.Inner.Driving.{one}
use Rattle.pc_threads.specs.Settings.{plan_of}
use Rattle.pc_threads.proofs.Steps.{on_further, on_the_end}
use Rattle.pc_threads.proofs.runner.driver.drive.Goals as goal

pub loop-step-preserved : goal.loop-step-preserved
loop-step-preserved g c =
    let fewer = c.in_ok-done.ensures.fewer in
    let left = fewer one in (
      omega (arith, left, c.loop-step.invariant.0),
      on_further (map plan_of c.args.undone.plans.now) c.args.undone.progress.done.items c.loop-step.progress.done.items c.step.new.progress.done.items c.args.purse.now c.loop-step.purse c.step.new.purse
          c.in_ok-done.done c.loop-step.invariant.1 fewer c.in_ok-done.ensures.posted,
    )

pub returns : goal.returns
returns g c =
    on_the_end (map plan_of c.args.undone.plans.now) c.args.undone.progress.done.items c.loop-step.progress.done.items c.args.purse.now c.loop-step.purse c.loop-step.invariant.1
    (omega (arith, c.loop-step.invariant.0, c.loop-step-test.false))
