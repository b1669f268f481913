use Rattle.std.proofs.Common.{Some, subst, sym}
use Rattle.pc_session.specs.Inner.Sessions.{Steps}
use Rattle.pc_join.proofs.Puts.{OnOk_then}
use Rattle.pc_session.proofs.Standing.{stands_after, world_steps}
use Rattle.pc_session.proofs.session.SessionMachine.answer.Goals as goal

pub returns-in-None-clause-ok : goal.returns-in-None-clause-ok
returns-in-None-clause-ok c =
    OnOk_then c.open.result c.open.ensures.ok (stands_after c.args.self.now.profile c.args.self.now.enclave c.open.new.enclave c.args.command.now c.open.new.response)

pub returns-in-Some-clause-ok : goal.returns-in-Some-clause-ok
returns-in-Some-clause-ok c =
    OnOk_then c.act.result c.act.ensures.ok
    (λ does. stands_after c.args.self.now.profile c.args.self.now.enclave (Some c.act.new.enclave) c.args.command.now c.act.new.response
    (subst (λ old. Steps c.args.self.now.profile c.args.command.now old (Some c.act.new.enclave) c.act.new.response) (sym c.in-Some.is) (world_steps c.args.self.now.profile c.in-Some.enclave c.act.new.enclave c.args.command.now c.act.new.response does)))
