use Rattle.std.proofs.Common.{sym}
use Rattle.pc_calls.specs.declared.call.Answer.TheVariants as answer
use Rattle.pc_calls.specs.declared.call.Call.TheVariants.{Env}
use Rattle.pc_calls.specs.declared.call.EnvCall.TheVariants.{Wake}
use Rattle.pc_kernel.proofs.Answering.{answers_refusal_in_memory, answers_post}
use Rattle.pc_kernel.proofs.Reached.{posts_reached}
use Rattle.pc_kernel.proofs.kernel.Kernel.wake.Goals as goal

pub invariant_of-self : goal.invariant_of-self
invariant_of-self c = posts_reached (Wake c.args.thread) c.tell.result c.self.inside.tables c.tell.new.self (sym c.in-None.ensures) c.tell.ensures.ok c.tell.ensures.err c.tell.ensures.limits c.self.invariant

pub returns-in-Some : goal.returns-in-Some
returns-in-Some c =
    rw c.into.ensures (answers_refusal_in_memory answer.Posted (Env (Wake c.args.thread)) c.in-Some.refusal c.args.self.now (rw (← c.self.view_is) (sym c.in-Some.ensures)))

pub returns-in-None : goal.returns-in-None
returns-in-None c =
    rw (c.in_memory.ensures, ← c.self.view_is)
    (answers_post (Wake c.args.thread) c.tell.result c.self.inside.tables c.tell.new.self (sym c.in-None.ensures) c.tell.ensures.ok c.tell.ensures.err c.tell.ensures.limits c.tell.ensures.extends)
