use Rattle.std.proofs.Common.{ap, arith, sum_by}
use Rattle.pc_threads.specs.Inner.Driving.{told_in}
use Rattle.pc_threads.proofs.Steps.{told_all}
use Rattle.pc_threads.proofs.settings.amounts.by_plan.Goals as goal

pub returns-clause-messages : goal.returns-clause-messages
returns-clause-messages c =
    let told = told_all c.args.plan.now.steps.items in
    let same = ap (sum_by told_in) c.as_slice.ensures.value in
    omega (arith, told, same, c.by_steps.ensures.messages)
