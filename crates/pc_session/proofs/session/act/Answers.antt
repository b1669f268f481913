use Rattle.std.proofs.Common.{false, subst, sym}
use Rattle.pc_session.specs.Inner.Sessions.{Answers}
use Rattle.pc_session.specs.declared.session.Enclave.{Enclave}
use Rattle.pc_session.proofs.Ruling.{happens_in}
use Rattle.pc_session.proofs.session.act.Goals as goal

pub returns-in_ok-step-in-Event-clause-ok : goal.returns-in_ok-step-in-Event-clause-ok
returns-in_ok-step-in-Event-clause-ok c =
    let now : Enclave = record { world = c.step.new.world; is_untouched = false } in
    subst (λ command. Answers command c.args.enclave.now now c.step.new.response) (sym c.in-Event.is)
    (happens_in c.args.enclave.now c.step.new.world c.in-Event.event c.step.new.response c.in_ok-step-in-Event.ensures.ok)
