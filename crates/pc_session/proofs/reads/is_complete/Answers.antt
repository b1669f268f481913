use Rattle.pc_session.proofs.Looking.{complete_told}
use Rattle.pc_session.proofs.reads.is_complete.Goals as goal

pub returns-in-Some : goal.returns-in-Some
returns-in-Some c = λ w h.
    complete_told c.reads_are_those_of_the_run.ensures.prefix c.reads_are_those_of_the_run.ensures.missing w c.kernel.result.now c.args.cpu c.args.thread c.in-Some.view.now c.complete.result
    (c.kernel.ensures w h) (c.in-Some.ensures w h) c.complete.ensures.exact
