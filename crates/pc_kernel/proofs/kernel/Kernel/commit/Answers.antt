use Rattle.std.proofs.Common.{sym, refl}
use Rattle.pc_calls.specs.AgentCalls.{commits}
use Rattle.pc_kernel.proofs.Answering.{answers_refusal, answers_change}
use Rattle.pc_kernel.proofs.Reached.{does_reached}
use Rattle.pc_kernel.proofs.kernel.Kernel.commit.Goals as goal

pub invariant_of-self : goal.invariant_of-self
invariant_of-self c = does_reached (commits c.args.cpu c.args.thread c.args.aseq) c.self.inside.tables c.put_on.new.self (sym c.in-None.ensures) (λ P. refl) c.put_on.ensures.shown c.put_on.ensures.limits c.self.invariant

pub returns-in-Some : goal.returns-in-Some
returns-in-Some c = rw (← c.self.view_is) (answers_refusal (commits c.args.cpu c.args.thread c.args.aseq) c.in-Some.refusal c.self.inside.tables (sym c.in-Some.ensures))

pub returns-in-None : goal.returns-in-None
returns-in-None c =
    rw (← c.self.view_is)
    (answers_change (commits c.args.cpu c.args.thread c.args.aseq) tt c.self.inside.tables c.put_on.new.self (sym c.in-None.ensures) (λ P. refl) c.put_on.ensures.shown c.put_on.ensures.kinds c.put_on.ensures.limits)
