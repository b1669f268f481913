use Rattle.pc_threads.proofs.Steps.{plan_there}
use Rattle.pc_threads.proofs.runner.driver.create_all.Goals as goal

pub creation-requires : goal.creation-requires
creation-requires g c =
    (c.requires.0, c.requires.1, plan_there c.requires.0 c.args.plans.now c.loop-plan.plan-index c.plan-item.result c.requires.2 c.loop-plan-test.true c.plan-item.is)
