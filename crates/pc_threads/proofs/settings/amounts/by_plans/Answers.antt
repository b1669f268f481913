use Rattle.std.proofs.Common.{◌≤◌, arith}
use Rattle.pc_threads.specs.Settings.{messages_of, plan_of}
use Rattle.pc_threads.proofs.Steps.{amount_more}
use Rattle.pc_threads.proofs.settings.amounts.by_plans.Goals as goal

pub by_plan-one-requires : goal.by_plan-one-requires
by_plan-one-requires c =
    let most = amount_more messages_of c.args.plans.now c.loop-plan.plan-index c.plan-item.result c.loop-plan-test.true c.plan-item.is in
    omega (arith, most, c.requires)

-- with one thread more there are no more messages than all have, and no more steps than messages
pub overflow_add-all-in-loop-plan : goal.overflow_add-all-in-loop-plan
overflow_add-all-in-loop-plan c =
    let most = amount_more messages_of c.args.plans.now c.loop-plan.plan-index c.plan-item.result c.loop-plan-test.true c.plan-item.is in
    omega (arith, most, c.requires, c.loop-plan.invariant.messages, c.by_plan-one.ensures.messages)

pub overflow_add-all-in-loop-plan-2 : goal.overflow_add-all-in-loop-plan-2
overflow_add-all-in-loop-plan-2 c =
    let most = amount_more messages_of c.args.plans.now c.loop-plan.plan-index c.plan-item.result c.loop-plan-test.true c.plan-item.is in
    let less : c.by_plan-one.result.steps ≤ messages_of (plan_of c.plan-item.result) = omega (arith, c.by_plan-one.ensures.steps) in
    omega (arith, most, less, c.requires, c.loop-plan.invariant.few, c.loop-plan.invariant.messages)
