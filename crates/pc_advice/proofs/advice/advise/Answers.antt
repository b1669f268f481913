use Rattle.std.proofs.Common.{◌<◌, ap, rules}
use Rattle.pc_advice.specs.Advices.{steps_of}
use Rattle.pc_advice.specs.Behind.{kernel_of}
use Rattle.pc_advice.proofs.Noted.{noted-behind}
use Rattle.pc_advice.proofs.advice.advise.Goals as goal

pub returns-in-Line : goal.returns-in-Line
returns-in-Line c =
    let low : c.loop-policy.plan.count < 24 = search rules in
    record {
      before = steps_of c.loop-policy.plan;
      last = c.step_of.result;
      steps_are = c.with.ensures.steps low;
      is_line = search rules;
      once = search rules;
      noted = noted-behind _ _ _ _ _ c.step_of.result c.loop-policy.invariant c.step_of.ensures.noted (ap kernel_of c.new-ahead.ensures.0) (ap steps_of c.new-ahead.ensures.1) (c.with.ensures.steps low);
    }

pub loop-policy-preserved : goal.loop-policy-preserved
loop-policy-preserved c =
    let low : c.loop-policy.plan.count < 24 = search rules in
    noted-behind _ _ _ _ _ c.step_of-in-Deed.result c.loop-policy.invariant c.step_of-in-Deed.ensures.noted (ap kernel_of c.new-ahead.ensures.0) (ap steps_of c.new-ahead.ensures.1) (c.with-plan.ensures.steps low)
