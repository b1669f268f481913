use Rattle.pc_session.proofs.Looking.{show_told}
use Rattle.pc_session.proofs.reads.show.Goals as goal

pub returns-in_ok-shown_threads-in-Some-clause-shows : goal.returns-in_ok-shown_threads-in-Some-clause-shows
returns-in_ok-shown_threads-in-Some-clause-shows c = λ w h.
    show_told w c.args.cpu c.in-Some.view.now c.in_ok-shown_threads-in-Some.field-0 c.reads_are_those_of_the_run.ensures.reported (c.in-Some.ensures w h) c.in_ok-shown_threads-in-Some.ensures
