use Rattle.std.proofs.Common.{◌≡◌, ◌+◌, ◌∙◌, length, refl, ap, arith}
use Rattle.pc_policy.specs.Rankings.{ranks_of}
use Rattle.pc_run_queue.specs.Runs.{rank_in, rank_noted}
use Rattle.pc_agent.proofs.Settles.{noted_less}
use Rattle.pc_agent.proofs.watch.drop_as_noted.Goals as goal

pub loop-place-preserved : goal.loop-place-preserved
loop-place-preserved c = λ t.
    let now = rank_in (ranks_of c.args.policy.now) c.args.view.now c.args.cpu in
    let last : c.in-Some.place + 1 ≡ length c.loop-place.noted.items = omega arith in
    ap (λ rows. rank_noted rows now t) c.truncate.ensures.items
    ∙ noted_less now c.loop-place.noted.items c.in-Some.place c.index.result.now t last c.index.ensures (c.if-not-is_as_noted.ensures refl)
    ∙ c.loop-place.invariant t
