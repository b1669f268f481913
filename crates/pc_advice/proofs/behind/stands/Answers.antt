use Rattle.std.proofs.Common.{◌≡◌, take, sym, rules, ◌∙◌}
use Rattle.pc_kernel.specs.Reads.{seen}
use Rattle.pc_advice.proofs.Pushed.{next_step, stands-taken, stands-kept}
use Rattle.pc_advice.proofs.behind.stands.Goals as goal
use Rattle.pc_advice.proofs.behind.stands.Goals.{then-is_of, else-is_of}

pub loop-step-preserved : goal.loop-step-preserved
loop-step-preserved c =
    rw (next_step c.args.steps.now c.loop-step.step-index c.step-item.result c.loop-step-test.true c.step-item.is)
    (elim c.if-is_of.branch [
      | then-is_of w ↦ w.standing-is ∙ stands-taken (seen c.args.kernel.now) c.args.thread (take c.loop-step.step-index c.args.steps.now) c.step-item.result c.loop-step.standing w.take.new.self (sym c.is_of.ensures ∙ w.if-is_of.true) c.loop-step.invariant
          record { number = w.take.ensures.number; phase = w.take.ensures.phase; mask = w.take.ensures.mask; home = w.take.ensures.home; on = w.take.ensures.on }
      | else-is_of w ↦ w.standing-is ∙ c.loop-step.invariant ∙ stands-kept (seen c.args.kernel.now) c.args.thread (take c.loop-step.step-index c.args.steps.now) c.step-item.result (sym c.is_of.ensures ∙ w.if-is_of.false)
    ])
