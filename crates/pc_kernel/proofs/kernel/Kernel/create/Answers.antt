use Rattle.std.proofs.Common.{IfOk, sym, subst}
use Rattle.pc_messages.specs.declared.kind.Kind.{Kind}
use Rattle.pc_calls.specs.declared.call.Answer.TheVariants as answer
use Rattle.pc_calls.specs.declared.call.Call.TheVariants.{Env}
use Rattle.pc_calls.specs.declared.call.EnvCall.TheVariants.{Create}
use Rattle.pc_kernel.specs.Inner.Sends.{Sends, adding}
use Rattle.pc_kernel.proofs.Answering.{answers_refusal_in_memory, answers_post}
use Rattle.pc_kernel.proofs.Reached.{posts_reached}
use Rattle.pc_kernel.proofs.kernel.Kernel.create.Goals as goal

pub invariant_of-self : goal.invariant_of-self
invariant_of-self c =
    posts_reached (Create c.args.queue c.args.ready c.args.mask) c.add.result c.self.inside.tables c.add.new.self (sym c.in-Ok.ensures.refused)
    (subst (λ (kind : Kind). IfOk c.add.result (λ posted. Sends (λ P. adding P c.args.queue kind) posted c.self.inside.tables c.add.new.self)) c.in-Ok.ensures.kind c.add.ensures.ok)
    c.add.ensures.err c.add.ensures.limits c.self.invariant

pub returns-in-Err : goal.returns-in-Err
returns-in-Err c =
    rw c.into.ensures (answers_refusal_in_memory answer.Posted (Env (Create c.args.queue c.args.ready c.args.mask)) c.in-Err.refusal c.args.self.now (rw (← c.self.view_is) (sym c.in-Err.ensures.refused)))

pub returns-in-Ok : goal.returns-in-Ok
returns-in-Ok c =
    rw (c.in_memory.ensures, ← c.self.view_is)
    (answers_post (Create c.args.queue c.args.ready c.args.mask) c.add.result c.self.inside.tables c.add.new.self (sym c.in-Ok.ensures.refused)
    (subst (λ (kind : Kind). IfOk c.add.result (λ posted. Sends (λ P. adding P c.args.queue kind) posted c.self.inside.tables c.add.new.self)) c.in-Ok.ensures.kind c.add.ensures.ok)
    c.add.ensures.err c.add.ensures.limits c.add.ensures.extends)
