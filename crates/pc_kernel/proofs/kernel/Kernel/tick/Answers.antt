use Rattle.std.proofs.Common.{sym}
use Rattle.pc_calls.specs.declared.call.Answer.TheVariants as answer
use Rattle.pc_calls.specs.declared.call.Call.TheVariants.{Env}
use Rattle.pc_calls.specs.declared.call.EnvCall.TheVariants.{Tick}
use Rattle.pc_kernel.proofs.Answering.{answers_refusal_in_memory, answers_post}
use Rattle.pc_kernel.proofs.Reached.{posts_reached}
use Rattle.pc_kernel.proofs.kernel.Kernel.tick.Goals as goal

pub invariant_of-self : goal.invariant_of-self
invariant_of-self c = posts_reached (Tick c.args.cpu) c.post_tick.result c.self.inside.tables c.post_tick.new.self (sym c.in-None.ensures) c.post_tick.ensures.ok c.post_tick.ensures.err c.post_tick.ensures.limits c.self.invariant

pub returns-in-Some : goal.returns-in-Some
returns-in-Some c =
    rw c.into.ensures (answers_refusal_in_memory answer.Posted (Env (Tick c.args.cpu)) c.in-Some.refusal c.args.self.now (rw (← c.self.view_is) (sym c.in-Some.ensures)))

pub returns-in-None : goal.returns-in-None
returns-in-None c =
    rw (c.in_memory.ensures, ← c.self.view_is)
    (answers_post (Tick c.args.cpu) c.post_tick.result c.self.inside.tables c.post_tick.new.self (sym c.in-None.ensures) c.post_tick.ensures.ok c.post_tick.ensures.err c.post_tick.ensures.limits c.post_tick.ensures.extends)
