use Rattle.std.proofs.Common.{◌∙◌, sym, ap}
use Rattle.pc_policy.specs.Rankings.{ranks_of}
use Rattle.pc_run_queue.specs.Runs.{rank_in, rank_noted}
use Rattle.pc_agent.proofs.Settles.{noted_more}
use Rattle.pc_agent.proofs.watch.note.Goals as goal

pub returns-in-Ok-clause-alike : goal.returns-in-Ok-clause-alike
returns-in-Ok-clause-alike c = λ _ t.
    let now = rank_in (ranks_of c.args.policy.now) c.args.view.now c.args.cpu in
    ap (λ rows. rank_noted rows now t) c.in-Ok.ensures.items ∙ noted_more now c.args.noted.now.items c.args.thread c.in-Some.rank t (sym c.rank_on.ensures ∙ c.in-Some.is)
