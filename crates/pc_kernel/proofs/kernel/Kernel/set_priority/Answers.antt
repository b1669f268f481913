use Rattle.std.proofs.Common.{IfOk, sym, subst}
use Rattle.pc_messages.specs.declared.kind.Kind.{Kind}
use Rattle.pc_calls.specs.declared.call.Answer.TheVariants as answer
use Rattle.pc_calls.specs.declared.call.Call.TheVariants.{Env}
use Rattle.pc_calls.specs.declared.call.EnvCall.TheVariants.{SetPriority}
use Rattle.pc_kernel.specs.Inner.Sends.{Sends}
use Rattle.pc_kernel.specs.Steps.{telling}
use Rattle.pc_kernel.proofs.Answering.{answers_refusal_in_memory, answers_post}
use Rattle.pc_kernel.proofs.Reached.{posts_reached}
use Rattle.pc_kernel.proofs.kernel.Kernel.set_priority.Goals as goal

pub invariant_of-self : goal.invariant_of-self
invariant_of-self c =
    posts_reached (SetPriority c.args.thread c.args.level) c.tell.result c.self.inside.tables c.tell.new.self (sym c.in-Ok.ensures.refused)
    (subst (λ (kind : Kind). IfOk c.tell.result (λ posted. Sends (λ P. telling P c.args.thread kind) posted c.self.inside.tables c.tell.new.self)) c.in-Ok.ensures.kind c.tell.ensures.ok)
    c.tell.ensures.err c.tell.ensures.limits c.self.invariant

pub returns-in-Err : goal.returns-in-Err
returns-in-Err c =
    rw c.into.ensures (answers_refusal_in_memory answer.Posted (Env (SetPriority c.args.thread c.args.level)) c.in-Err.refusal c.args.self.now (rw (← c.self.view_is) (sym c.in-Err.ensures.refused)))

pub returns-in-Ok : goal.returns-in-Ok
returns-in-Ok c =
    rw (c.in_memory.ensures, ← c.self.view_is)
    (answers_post (SetPriority c.args.thread c.args.level) c.tell.result c.self.inside.tables c.tell.new.self (sym c.in-Ok.ensures.refused)
    (subst (λ (kind : Kind). IfOk c.tell.result (λ posted. Sends (λ P. telling P c.args.thread kind) posted c.self.inside.tables c.tell.new.self)) c.in-Ok.ensures.kind c.tell.ensures.ok)
    c.tell.ensures.err c.tell.ensures.limits c.tell.ensures.extends)
