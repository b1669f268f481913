use Rattle.std.proofs.Common.{◌≡◌, ◌≤◌, ◌+◌, ◌++◌, [], ◌∷◌, take, sym, ◌∙◌, arith, subst, sum_by}
use Rattle.std.proofs.lemmas.List.Sums.{sum_by-take-le}
use Rattle.pc_advice.specs.Behind.{ever_held, posted_in}
use Rattle.pc_advice.specs.declared.behind.TheConstants.{MOST_HELD}
use Rattle.pc_advice.proofs.Counted.{Holds, holds-more}
use Rattle.pc_advice.proofs.Pushed.{next_step}
use Rattle.pc_advice.proofs.behind.holds.Goals as goal

pub loop-step-preserved : goal.loop-step-preserved
loop-step-preserved c some fits =
    let steps = c.args.steps.now in
    let step = c.step-item.result in
    let next = next_step steps c.loop-step.step-index step c.loop-step-test.true c.step-item.is in
    let low : ever_held c.args.first c.args.queue (take (c.loop-step.step-index + 1) steps) ≤ MOST_HELD =
    omega (arith, sum_by-take-le (posted_in c.args.queue) steps (c.loop-step.step-index + 1)) in
    subst (λ some. Holds c.args.first c.args.queue some c.take.new.self) (sym next)
    (holds-more c.args.first c.args.queue (take c.loop-step.step-index steps) step c.loop-step.items c.take.new.self (c.loop-step.invariant some fits)
    record { all = c.take.ensures.all; sent = c.take.ensures.sent }
    (subst (λ some. ever_held c.args.first c.args.queue some ≤ MOST_HELD) next low))
