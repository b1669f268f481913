use Rattle.std.proofs.Common.{sym, refl}
use Rattle.pc_calls.specs.AgentCalls.{associates}
use Rattle.pc_kernel.proofs.Answering.{answers_refusal, answers_change}
use Rattle.pc_kernel.proofs.Reached.{does_reached}
use Rattle.pc_kernel.proofs.kernel.Kernel.associate.Goals as goal

pub invariant_of-self : goal.invariant_of-self
invariant_of-self c = does_reached (associates c.args.thread c.args.queue c.args.number) c.self.inside.tables c.move_home.new.self (sym c.in-None.ensures) (λ P. refl) c.move_home.ensures.shown c.move_home.ensures.limits c.self.invariant

pub returns-in-Some : goal.returns-in-Some
returns-in-Some c = rw (← c.self.view_is) (answers_refusal (associates c.args.thread c.args.queue c.args.number) c.in-Some.refusal c.self.inside.tables (sym c.in-Some.ensures))

pub returns-in-None : goal.returns-in-None
returns-in-None c =
    rw (← c.self.view_is)
    (answers_change (associates c.args.thread c.args.queue c.args.number) tt c.self.inside.tables c.move_home.new.self (sym c.in-None.ensures) (λ P. refl) c.move_home.ensures.shown c.move_home.ensures.kinds c.move_home.ensures.limits)
