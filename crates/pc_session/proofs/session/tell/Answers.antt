use Rattle.std.proofs.Common.{subst, sym}
use Rattle.pc_session.specs.Reads.{IsRead, IsStatus}
use Rattle.pc_session.proofs.session.tell.Goals as goal

pub returns-in-Status-clause-ok : goal.returns-in-Status-clause-ok
returns-in-Status-clause-ok c = λ w h.
    let shows = c.kernel.ensures w h in
    subst (λ read. IsRead w read c.put_status.new.response) (sym c.in-Status.is)
    (subst (λ r. IsStatus c.in-Status.thread (r.thread c.in-Status.thread) c.put_status.new.response) shows.reads c.put_status.ensures)
