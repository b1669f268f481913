use Rattle.std.proofs.Common.{◌∙◌, ap, map, sym}
use Rattle.pc_threads.specs.Inner.Driving.{one}
use Rattle.pc_threads.specs.Settings.{plan_of, steps_in}
use Rattle.pc_threads.proofs.Steps.{ones_in}
use Rattle.pc_threads.proofs.runner.driver.undone_of.Goals as goal

pub invariant_of-result : goal.invariant_of-result
invariant_of-result c =
    record { left = c.in_ok-progress.ensures one ∙ (ones_in (map plan_of c.threads-plans.result.now) ∙ (ap steps_in c.threads-plans.ensures ∙ sym c.amounts_of-steps.ensures.steps)) }
