use Rattle.std.proofs.Common.{subst, sym}
use Rattle.pc_session.specs.Reads.{IsRead, IsStatus}
use Rattle.pc_session.proofs.reads.answer_of.Goals as goal

pub returns-in-Status-clause-read : goal.returns-in-Status-clause-read
returns-in-Status-clause-read c = λ w h.
    let shows = c.kernel.ensures w h in
    subst (λ read. IsRead w read c.status.result) (sym c.in-Status.is)
    (subst (λ r. IsStatus c.in-Status.thread (r.thread c.in-Status.thread) c.status.result) shows.reads c.status.ensures)
